-- A record is read as it is spelled, and refused where it is none.
use Rattle.std.proofs.Common.{◌≡◌, ◌≢◌, ◌++◌, ℕ, ◌+◌, ◌≤◌, ◌==◌, true, false, Option, Some, None, Result, Ok, Err, List, [], length, refl, sym, ap, subst, ◌∙◌, arith}
use Rattle.std.specs.Prelude.{if◌then◌else◌, IfOk, IfErr}
use Rattle.std.proofs.lemmas.Bool.{eqb-true, le-leb}
use Rattle.std.proofs.lemmas.Bool.Decides.{nat_tests}
use Rattle.std.proofs.lemmas.List.{length-append, nil_from_length}
use Rattle.numbers.proofs.NumberLaws.{IsBytes, IsBytes-drop}
use Rattle.queue_model.specs.declared.caller.Caller.{Caller}
use Rattle.queue_model.specs.declared.call.Call.TheVariants.{Get, Send, Receive, Stat, Set, Remove}
use Rattle.frames.specs.declared.head.Head.{Head}
use Rattle.frames.specs.declared.incoming.Incoming.{Incoming}
use Rattle.frames.specs.declared.incoming.Kind.{Kind}
use Rattle.frames.specs.declared.incoming.Kind.TheVariants as kinds
use Rattle.frames.specs.declared.incoming.Operation.{Operation}
use Rattle.frames.specs.declared.incoming.Operation.TheVariants as operations
use Rattle.frames.specs.declared.incoming.Unread.{Unread}
use Rattle.frames.specs.declared.incoming.Unread.TheVariants.{Broken, Wrong, NoMemory}
use Rattle.frames.specs.Little.{four, eight, four_at}
use Rattle.frames.specs.Frames.{FitsHead, frame_bytes, head_bytes}
use Rattle.frames.specs.Requests.{FitsOperation, frame_of, or_zero, type_number}
use Rattle.frames.specs.Records.{Fits, FitsKind, IsFrameOf, Measures, ReadsAs, Says, at_moment, operation_at, head_of, kind_at, kind_bytes, kind_number, spelled}
use Rattle.frames.specs.Reading.{Gives, IsAsked, IsAskedIn, bare_of, frame_at, head_at, incoming_of, is_asked, is_head, kind_of, operation_of, request_of, with_kind, with_operation}
use Rattle.frames.proofs.LittleLaws.{length-four, length-eight}
use Rattle.frames.proofs.FrameLaws.{frame_again, frame_spells, head_again, head_first, head_spells, is_same, length-frame, length-head}
use Rattle.frames.proofs.RequestLaws.{Right, chosen, operation_right}
use Rattle.frames.proofs.AgainLaws.{operation_again}

-- ---- what is read is spelled

-- what came of a head
abbrev Told : ℕ → Head → Result Kind Unread → Type 0
Told moment h (Ok kind) =
    (kind_number kind ≡ h.kind) × (kind_bytes kind ≡ h.rest) × (kind_at moment kind ≡ kind)
Told moment h (Err Broken) = h.kind ≤ 3 → (h.kind ≡ 0 → 12 ≤ length h.rest) → (h.kind ≢ 0 → h.rest ≡ []) → ⊥
Told moment h (Err (Wrong connection number)) = IsAsked h connection number
Told moment h (Err (NoMemory connection number)) = IsAsked h connection number

no_kind : (k : ℕ) → (k == 0) ≡ false → (k == 1) ≡ false → (k == 2) ≡ false → (k == 3) ≡ false → k ≤ 3 → ⊥
no_kind k a b c d e = grind (arith, nat_tests)

module _ (moment : ℕ) (h : Head) (all : IsBytes h.rest) where
  with_told : (h.kind == 0) ≡ true → is_asked h ≡ true → (found : Option Operation)
      → Right moment (frame_at h.rest) found
      → Told moment h (with_operation h.connection (frame_at h.rest) found)
  with_told is long None right =
      record { kind = eqb-true _ _ is; long = long; connection_is = refl; number_is = refl }
  with_told is long (Some operation) right =
      let f = frame_at h.rest in
      let request : Operation → Kind = λ op. kinds.Request (record { number = f.number; operation = op }) in
      (sym (eqb-true _ _ is), ap frame_bytes right.0 ∙ frame_spells h.rest all long, ap request right.1)

  request_told : (h.kind == 0) ≡ true → Told moment h (request_of moment h)
  request_told is =
      let right = operation_right moment (frame_at h.rest) (IsBytes-drop 12 h.rest all) in
      chosen (Told moment h) (is_asked h) (λ long. with_told is long _ right) (λ short kind request others.
      let long = le-leb 12 (length h.rest) (request (eqb-true _ _ is)) in absurd cc)

  bare_told : (h.kind == 0) ≡ false → h.rest ≡ [] → Told moment h (bare_of h.kind)
  bare_told other nothing =
      let P = Told moment h in
      chosen P (h.kind == 1) (λ is. (sym (eqb-true _ _ is), sym nothing, refl)) (λ first.
      chosen P (h.kind == 2) (λ is. (sym (eqb-true _ _ is), sym nothing, refl)) (λ second.
      chosen P (h.kind == 3) (λ is. (sym (eqb-true _ _ is), sym nothing, refl)) (λ third.
      λ kind request others. no_kind h.kind other first second third kind)))

  kind_told : Told moment h (kind_of moment h)
  kind_told =
      let P = Told moment h in
      chosen P (h.kind == 0) request_told (λ other.
      chosen P (length h.rest == 0) (λ is. bare_told other (nil_from_length h.rest (eqb-true _ _ is))) (λ more.
      λ kind request others.
      let some : h.kind ≢ 0 = λ zero. (let is = is_same _ _ zero in absurd cc) in
      let none = is_same (length h.rest) 0 (ap length (others some)) in
      absurd cc))

-- what came of a record
abbrev pub Sound : ℕ → List ℕ → Result Incoming Unread → Type 0
Sound moment bytes (Ok incoming) = (spelled incoming ≡ bytes) × (at_moment moment incoming ≡ incoming)
Sound moment bytes (Err unread) = Says bytes unread

module _ (moment : ℕ) (bytes : List ℕ) (all : IsBytes bytes) where
  asked_says : (connection number : ℕ) → IsAskedIn bytes connection number → IsFrameOf connection number bytes
  asked_says connection number is =
      let h = head_at bytes in
      let asked = is.asked in
      let behind = frame_spells h.rest (IsBytes-drop 24 bytes all) asked.long in
      let same : h ≡ record {
        connection = connection;
        kind = 0;
        caller = h.caller;
        rest = frame_bytes (frame_at h.rest);
      } = λ i. record {
        connection = sym asked.connection_is i;
        kind = asked.kind i;
        caller = h.caller;
        rest = sym behind i;
      } in
      record {
        caller = h.caller;
        frame = frame_at h.rest;
        numbered = sym asked.number_is;
        is = sym (head_spells bytes all is.head) ∙ ap head_bytes same;
      }

  with_sound : is_head bytes ≡ true → (kind : Result Kind Unread) → Told moment (head_at bytes) kind
      → Sound moment bytes (with_kind (head_at bytes) kind)
  with_sound headed (Ok kind) told =
      let h = head_at bytes in
      let told_by : Kind → Incoming = λ k. record { connection = h.connection; caller = h.caller; kind = k } in
      let same : head_of (told_by kind) ≡ h = λ i. record {
        connection = h.connection;
        kind = told.0 i;
        caller = h.caller;
        rest = told.1 i;
      } in
      (ap head_bytes same ∙ head_spells bytes all headed, ap told_by told.2)
  with_sound headed (Err Broken) told = λ h is.
      let same = sym (head_again h bytes is.fits is.is).1 in
      told (subst (λ (x : Head). x.kind ≤ 3) same is.kind)
      (subst (λ (x : Head). x.kind ≡ 0 → 12 ≤ length x.rest) same is.request)
      (subst (λ (x : Head). x.kind ≢ 0 → x.rest ≡ []) same is.others)
  with_sound headed (Err (Wrong connection number)) told =
      asked_says connection number (record { head = headed; asked = told })
  with_sound headed (Err (NoMemory connection number)) told =
      asked_says connection number (record { head = headed; asked = told })

  incoming_sound : Sound moment bytes (incoming_of moment bytes)
  incoming_sound =
      let told = kind_told moment (head_at bytes) (IsBytes-drop 24 bytes all) in
      chosen (Sound moment bytes) (is_head bytes) (λ headed. with_sound headed _ told) (λ wrong h is.
      let headed = (head_again h bytes is.fits is.is).0 in absurd cc)

  given_sound : (r : Result Incoming Unread) → Gives (IsAskedIn bytes) (incoming_of moment bytes) r
      → Sound moment bytes r
  given_sound (Ok incoming) gives = subst (Sound moment bytes) gives incoming_sound
  given_sound (Err Broken) gives = subst (Sound moment bytes) gives incoming_sound
  given_sound (Err (Wrong connection number)) gives = subst (Sound moment bytes) gives incoming_sound
  given_sound (Err (NoMemory connection number)) gives = asked_says connection number gives

  pub given_ok : (r : Result Incoming Unread) → Gives (IsAskedIn bytes) (incoming_of moment bytes) r
      → IfOk r (λ incoming. (spelled incoming ≡ bytes) × (at_moment moment incoming ≡ incoming))
  given_ok (Ok incoming) gives = given_sound (Ok incoming) gives
  given_ok (Err unread) gives = tt

  pub given_err : (r : Result Incoming Unread) → Gives (IsAskedIn bytes) (incoming_of moment bytes) r
      → IfErr r (Says bytes)
  given_err (Ok incoming) gives = tt
  given_err (Err unread) gives = given_sound (Err unread) gives

-- ---- what is spelled is read

number_is : (n : ℕ) (op : Operation) → (frame_of n op).number ≡ n
number_is n (operations.Call (Get a)) = refl
number_is n (operations.Call (Send a)) = refl
number_is n (operations.Call (Receive a)) = refl
number_is n (operations.Call (Stat id)) = refl
number_is n (operations.Call (Set a)) = refl
number_is n (operations.Call (Remove id)) = refl
number_is n (operations.Next after) = refl
number_is n (operations.Nth place) = refl
number_is n operations.Save = refl
number_is n operations.Info = refl
number_is n (operations.Cancel number) = refl
number_is n (operations.Reserve id mtype nowait) = refl
number_is n (operations.Acknowledge id) = refl
number_is n (operations.Release id) = refl

-- fields are at most as long as those of the longest Send
few_fields : (n : ℕ) (op : Operation) → FitsOperation op → length (frame_of n op).fields ≤ 1032
few_fields n (operations.Call (Get a)) fits = omega (arith, length-four (or_zero a.key))
few_fields n (operations.Call (Send a)) fits =
    let short = fits.1 in
    omega (arith, short, length-append (eight (type_number a.mtype)) a.body, length-eight (type_number a.mtype))
few_fields n (operations.Call (Receive a)) fits =
    let mtype = type_number a.mtype in
    omega (arith, length-append (eight mtype) (four a.size), length-eight mtype, length-four a.size)
few_fields n (operations.Call (Stat id)) fits = omega arith
few_fields n (operations.Call (Set a)) fits =
    let user = or_zero a.uid in
    let group = or_zero a.gid in
    omega (
      arith,
      length-append (four a.qbytes) (four user ++ four group),
      length-append (four user) (four group),
      length-four a.qbytes,
      length-four user,
      length-four group,
    )
few_fields n (operations.Call (Remove id)) fits = omega arith
few_fields n (operations.Next after) fits = omega arith
few_fields n (operations.Nth place) fits = omega arith
few_fields n operations.Save fits = omega arith
few_fields n operations.Info fits = omega arith
few_fields n (operations.Cancel number) fits = omega arith
few_fields n (operations.Reserve id mtype nowait) fits = omega (arith, length-eight (type_number mtype))
few_fields n (operations.Acknowledge id) fits = omega arith
few_fields n (operations.Release id) fits = omega arith

few_bytes : (kind : Kind) → FitsKind kind → length (kind_bytes kind) ≤ 1044
few_bytes (kinds.Request r) fits =
    omega (arith, few_fields r.number r.operation fits.1, length-frame (frame_of r.number r.operation))
few_bytes kinds.Gone fits = omega arith
few_bytes kinds.Tick fits = omega arith
few_bytes kinds.End fits = omega arith

low_kind : (kind : Kind) → kind_number kind ≤ 3
low_kind (kinds.Request r) = omega arith
low_kind kinds.Gone = omega arith
low_kind kinds.Tick = omega arith
low_kind kinds.End = omega arith

pub fits_head : (i : Incoming) → Fits i → FitsHead (head_of i)
fits_head i fits = record {
  connection = fits.connection;
  kind = omega (arith, low_kind i.kind);
  caller = fits.caller;
  rest = omega (arith, few_bytes i.kind fits.kind);
}

kind_again : (moment connection : ℕ) (caller : Caller) (kind : Kind) → FitsKind kind
    → kind_of moment (record {
      connection = connection;
      kind = kind_number kind;
      caller = caller;
      rest = kind_bytes kind;
    }) ≡ Ok (kind_at moment kind)
kind_again moment connection caller (kinds.Request r) fits =
    let f = frame_of r.number r.operation in
    let again = frame_again f (frame_bytes f) fits.0 refl in
    let numbered : ℕ → Result Kind Unread = λ n. Ok (kinds.Request (record {
      number = n;
      operation = operation_at moment r.operation;
    })) in
    (λ i. if again.0 i then with_operation connection (again.1 i) (operation_of moment (again.1 i)) else Err Broken)
    ∙ ap (with_operation connection f) (operation_again r.number moment r.operation fits.1)
    ∙ ap numbered (number_is r.number r.operation)
kind_again moment connection caller kinds.Gone fits = refl
kind_again moment connection caller kinds.Tick fits = refl
kind_again moment connection caller kinds.End fits = refl

incoming_again : (moment : ℕ) (bytes : List ℕ) (i : Incoming) → Fits i → spelled i ≡ bytes
    → incoming_of moment bytes ≡ Ok (at_moment moment i)
incoming_again moment bytes i fits is =
    let again = head_again (head_of i) bytes (fits_head i fits) (sym is) in
    (λ j. if again.0 j then with_kind (again.1 j) (kind_of moment (again.1 j)) else Err Broken)
    ∙ ap (with_kind (head_of i)) (kind_again moment i.connection i.caller i.kind fits.kind)

given_as : (asked : ℕ → ℕ → Type 0) (want : Result Incoming Unread) (i : Incoming) (r : Result Incoming Unread)
    → Gives asked want r → want ≡ Ok i → ReadsAs i r
given_as asked want i (Ok incoming) gives is = cc
given_as asked want i (Err Broken) gives is = absurd cc
given_as asked want i (Err (Wrong connection number)) gives is = absurd cc
given_as asked want i (Err (NoMemory connection number)) gives is = tt

pub given_again : (moment : ℕ) (bytes : List ℕ) (r : Result Incoming Unread)
    → Gives (IsAskedIn bytes) (incoming_of moment bytes) r
    → (i : Incoming) → Fits i → spelled i ≡ bytes → ReadsAs (at_moment moment i) r
given_again moment bytes r gives i fits is =
    given_as (IsAskedIn bytes) _ (at_moment moment i) r gives (incoming_again moment bytes i fits is)

-- ---- a record in a stream

-- a record that stands first is found
pub found_first : (bytes : List ℕ) (r : Result (Option ℕ) Unread) → Measures bytes r
    → (i : Incoming) (rest : List ℕ) → Fits i → bytes ≡ spelled i ++ rest
    → r ≡ Ok (Some (length (spelled i)))
found_first bytes r measured i rest fits is = found r measured where
  size : 4 + four_at 0 bytes ≡ length (spelled i)
  size = head_first (head_of i) bytes rest (fits_head i fits) is

  long : 24 ≤ length (spelled i)
  long = omega (arith, length-head (head_of i))

  short : length (spelled i) ≤ 1068
  short = omega (arith, length-head (head_of i), few_bytes i.kind fits.kind)

  within : length (spelled i) ≤ length bytes
  within = omega (arith, ap length is, length-append (spelled i) rest)

  found : (x : Result (Option ℕ) Unread) → Measures bytes x → x ≡ Ok (Some (length (spelled i)))
  found (Ok None) cut = let more = cut.more (omega (arith, long, within)) in absurd (omega (arith, more, size, within))
  found (Ok (Some n)) first = ap (λ (k : ℕ). Ok (Some k)) (first.counted ∙ size)
  found (Err unread) out =
      let past = out.1.out (omega (arith, size, long)) in absurd (omega (arith, past, size, short))

-- ---- a record is of one incoming, but for the moment of its call

pub one_incoming : (a b : Incoming) (moment : ℕ) → Fits a → Fits b → spelled a ≡ spelled b
    → at_moment moment a ≡ at_moment moment b
one_incoming a b moment first second same =
    let other = incoming_again moment (spelled b) b second refl in
    is_one (sym (incoming_again moment (spelled b) a first same) ∙ other) where
      is_one : {x y : Incoming} → ◌≡◌ {A = Result Incoming Unread} (Ok x) (Ok y) → x ≡ y
      is_one is = cc
