-- The entry of a call, by its parts.
use Rattle.std.proofs.Common.{◌≡◌, ℕ, ◌+◌, ◌^◌, ◌<◌, ◌≤◌, ◌==◌, refl, sym, ap, ◌∙◌, subst, arith, List, [], ◌∷◌, ◌++◌, length, take, drop, Some}
use Rattle.std.specs.Prelude.{if◌then◌else◌}
use Rattle.std.proofs.lemmas.List.{append_assoc, length-append}
use Rattle.std.proofs.Math.Seq.{drop-append_seam, take-append_seam}
use Rattle.queue_model.specs.Rules.{Outcome}
use Rattle.queue_model.specs.State.{State}
use Rattle.queue_model.specs.declared.call.Call.{Call}
use Rattle.queue_model.specs.declared.call.Call.TheVariants.{Get, Send, Receive, Stat, Set, Remove}
use Rattle.queue_model.specs.declared.caller.Caller.{Caller}
use Rattle.frames.specs.Little.{eight, eight_at}
use Rattle.frames.specs.Records.{at_moment, head_of, size_at, spelled}
use Rattle.frames.specs.Spelling.{asked_by}
use Rattle.frames.specs.declared.incoming.Incoming.{Incoming}
use Rattle.frames.specs.declared.incoming.Kind.{Kind}
use Rattle.frames.specs.declared.incoming.Kind.TheVariants as kinds
use Rattle.frames.specs.declared.incoming.Operation.{Operation}
use Rattle.frames.specs.declared.incoming.Operation.TheVariants as operations
use Rattle.frames.proofs.FrameLaws.{head_first}
use Rattle.frames.proofs.LittleLaws.{eight_again, length-eight}
use Rattle.frames.proofs.RecordLaws.{fits_head, one_incoming}
use Rattle.call_entries.specs.Entries as entries
use Rattle.call_entries.specs.Entries.{FitsEntry, IsMade, LeadsBy, entry_bytes, moment_of, nobody}
use Rattle.call_entries.specs.Laws.{AreOfOneCall, LeadToOneSystem}
use Rattle.call_entries.specs.declared.entry.CallEntry.{CallEntry}
use Rattle.call_entries.proofs.RuleLemmas.{system_in}

pub spelled_both : (es fs : List CallEntry) → entries.spelled (es ++ fs) ≡ entries.spelled es ++ entries.spelled fs
spelled_both [] fs = refl
spelled_both (e ∷ es) fs =
    ap (λ (xs : List ℕ). entry_bytes e ++ xs) (spelled_both es fs)
    ∙ sym (append_assoc (entry_bytes e) (entries.spelled es) (entries.spelled fs))

-- ---- the parts of an entry

abbrev pub asked : CallEntry → Incoming
asked e = asked_by nobody e.caller e.call

pub parted : (e : CallEntry) (rest : List ℕ) →
    entry_bytes e ++ rest ≡ eight (moment_of e.call) ++ (spelled (asked e) ++ (eight e.check ++ rest))
parted e rest =
    let moment = eight (moment_of e.call) in
    let record_of = spelled (asked e) in
    append_assoc (moment ++ record_of) (eight e.check) rest
    ∙ append_assoc moment record_of (eight e.check ++ rest)

-- what stands behind eight bytes
pub behind_eight : (n : ℕ) (xs : List ℕ) → drop 8 (eight n ++ xs) ≡ xs
behind_eight n xs =
    ap (λ (k : ℕ). drop k (eight n ++ xs)) (sym (length-eight n)) ∙ drop-append_seam (eight n) xs

-- two lists that begin with parts of one length
pub same_parts : (a b xs ys : List ℕ) → length a ≡ length b → a ++ xs ≡ b ++ ys → (a ≡ b) × (xs ≡ ys)
same_parts a b xs ys long same = (
  sym (take-append_seam a xs) ∙ ap (take (length a)) same ∙ ap (λ (k : ℕ). take k (b ++ ys)) long
      ∙ take-append_seam b ys,
  sym (drop-append_seam a xs) ∙ ap (drop (length a)) same ∙ ap (λ (k : ℕ). drop k (b ++ ys)) long
      ∙ drop-append_seam b ys,
)

-- ---- bytes that begin with an entry

module _ (e : CallEntry) (rest bytes : List ℕ) (fits : FitsEntry e) (is : bytes ≡ entry_bytes e ++ rest) where
  begins : bytes ≡ eight (moment_of e.call) ++ (spelled (asked e) ++ (eight e.check ++ rest))
  begins = is ∙ parted e rest

  pub its_moment : eight_at 0 bytes ≡ moment_of e.call
  its_moment = eight_again 0 (moment_of e.call) bytes _ begins fits.moment

  pub its_record : drop 8 bytes ≡ spelled (asked e) ++ (eight e.check ++ rest)
  its_record = ap (drop 8) begins ∙ behind_eight (moment_of e.call) (spelled (asked e) ++ (eight e.check ++ rest))

  pub its_size : size_at (drop 8 bytes) ≡ length (spelled (asked e))
  its_size = head_first (head_of (asked e)) (drop 8 bytes) _ (fits_head (asked e) fits.asked) its_record

  -- a record of this size that stands there is its
  pub same_record : (found behind : List ℕ) → length found ≡ size_at (drop 8 bytes) → drop 8 bytes ≡ found ++ behind →
      (spelled (asked e) ≡ found) × (eight e.check ++ rest ≡ behind)
  same_record found behind size split =
      let long : length (spelled (asked e)) ≡ length found = sym its_size ∙ sym size in
      same_parts (spelled (asked e)) found _ behind long (sym its_record ∙ split)

  pub long_enough : 8 ≤ length bytes
  long_enough = omega (
    arith,
    ap length begins,
    length-append (eight (moment_of e.call)) (spelled (asked e) ++ (eight e.check ++ rest)),
    length-eight (moment_of e.call),
  )

  pub long_behind : length (spelled (asked e)) + 8 ≤ length (drop 8 bytes)
  long_behind = omega (
    arith,
    ap length its_record,
    length-append (spelled (asked e)) (eight e.check ++ rest),
    length-append (eight e.check) rest,
    length-eight e.check,
  )

-- ---- bytes begin with the entry of one call

-- what is asked for is asked for at its moment
its_own : (caller : Caller) (call : Call) →
    at_moment (moment_of call) (asked_by nobody caller call) ≡ asked_by nobody caller call
its_own caller (Get a) = refl
its_own caller (Send a) = refl
its_own caller (Receive a) = refl
its_own caller (Stat id) = refl
its_own caller (Set a) = refl
its_own caller (Remove id) = refl

abbrev operation_in : Kind → Operation
operation_in (kinds.Request r) = r.operation
operation_in kinds.Gone = operations.Save
operation_in kinds.Tick = operations.Save
operation_in kinds.End = operations.Save

same_call : (a b : CallEntry) → asked a ≡ asked b → a.call ≡ b.call
same_call a b same =
    let operation : ◌≡◌ {A = Operation} (operations.Call a.call) (operations.Call b.call) =
    ap (λ (i : Incoming). operation_in i.kind) same in
    cc

pub one_call : AreOfOneCall
one_call a b behind after fits_a fits_b same =
    let bytes = entry_bytes a ++ behind in
    let moment : moment_of a.call ≡ moment_of b.call =
    sym (its_moment a behind bytes fits_a refl) ∙ its_moment b after bytes fits_b same in
    let parts = same_record a behind bytes fits_a refl (spelled (asked b)) (eight b.check ++ after)
    (sym (its_size b after bytes fits_b same)) (its_record b after bytes fits_b same) in
    let asked_same : asked a ≡ asked b =
    sym (its_own a.caller a.call)
    ∙ one_incoming (asked a) (asked b) (moment_of a.call) fits_a.asked fits_b.asked parts.0
    ∙ ap (λ (m : ℕ). at_moment m (asked b)) moment ∙ its_own b.caller b.call in
    let checks = same_parts (eight a.check) (eight b.check) behind after
    (length-eight a.check ∙ sym (length-eight b.check)) parts.1 in
    let check : a.check ≡ b.check =
    sym (eight_again 0 a.check (eight a.check ++ behind) behind refl fits_a.check)
    ∙ eight_again 0 b.check (eight a.check ++ behind) after parts.1 fits_b.check in
    let caller = ap (λ (i : Incoming). i.caller) asked_same in
    let call = same_call a b asked_same in
    (λ i. record { caller = caller i; call = call i; check = check i }, checks.1)

-- ---- from a system entries lead to one

made_once : (e : CallEntry) (s t u : State) → IsMade e s t → IsMade e s u → t ≡ u
made_once e s t u a b =
    let same : ◌≡◌ {A = Outcome} (Some (a.answer, t)) (Some (b.answer, u)) = sym a.by_rules ∙ b.by_rules in
    ap (system_in s) same

pub lead_once : LeadToOneSystem
lead_once [] s t u a b = a ∙ sym b
lead_once (e ∷ es) s t u (x, made, rest) (y, too, more) =
    let same : x ≡ y = made_once e s x y made too in
    lead_once es y t u (subst (λ (z : State). LeadsBy es z t) same rest) more
