-- What is owed, key by key.
use Rattle.std.proofs.Common.{◌≡◌, ℕ, zero, suc, Bool, true, false, List, [], ◌∷◌, ◌++◌, length, Option, Some, None, refl, sym, ap, ◌∙◌, ◌<◌, slice_index_or, slice_set, arith}
use Rattle.std.specs.Prelude.{◌≢◌, ◌||◌, if◌then◌else◌}
use Rattle.bucket_page.specs.declared.record_key.RecordKey.{RecordKey}
use Rattle.bucket_page.specs.Keys.{is_same}
use Rattle.queue_records.specs.declared.record.Record.{Record}
use Rattle.queue_records.specs.Spelling.{key_of}
use Rattle.xsi_inquiry.specs.declared.write.Write.{Write}
use Rattle.xsi_inquiry.specs.declared.write.Write.TheVariants.{Delete}
use Rattle.xsi_inquiry.specs.Writing.{Records, key_written, turned, with_at, written, written_by}
use Rattle.xsi_inquiry.proofs.LeadLemmas.{same_keys}
use Rattle.call_decisions.specs.Owing.{Owes, Sweeps, Writes, is_swept, is_written, overlaid, overlaid_by, owes_at, undoing, without_swept}

-- ---- a key alone

pub one_local : (w : Write) (r t : Records) (key : RecordKey) → r key ≡ t key → written_by w r key ≡ written_by w t key
one_local w r t key same = by (is_same key (key_written w)) refl
  where
    by : (b : Bool) → is_same key (key_written w) ≡ b → written_by w r key ≡ written_by w t key
    by true is =
        let at = same_keys key (key_written w) is in
        rw is (ap (turned w) (ap r (sym at) ∙ same ∙ ap t at))
    by false other = rw other same

pub written_local : (ws : List Write) (r t : Records) (key : RecordKey) → r key ≡ t key →
    written ws r key ≡ written ws t key
written_local [] r t key same = same
written_local (w ∷ ws) r t key same =
    written_local ws (written_by w r) (written_by w t) key (one_local w r t key same)

pub overlaid_local : (o : Owes) (r t : Records) (key : RecordKey) → r key ≡ t key → overlaid o r key ≡ overlaid o t key
overlaid_local (Writes ws) r t key same = written_local ws r t key same
overlaid_local (Sweeps id ws) r t key same = written_local ws (without_swept id r) (without_swept id t) key
    (ap (λ (found : Option Record). if is_swept id key then None else found) same)

pub all_local : (os : List Owes) (r t : Records) (key : RecordKey) → r key ≡ t key →
    overlaid_by os r key ≡ overlaid_by os t key
all_local [] r t key same = same
all_local (o ∷ os) r t key same =
    all_local os (overlaid o r) (overlaid o t) key (overlaid_local o r t key same)

-- ---- where nothing is owed

neither : (a b : Bool) → (a || b) ≡ false → (a ≡ false) × (b ≡ false)
neither true b is = absurd cc
neither false b is = (refl, is)

one_rest : (w : Write) (r : Records) (key : RecordKey) → is_same key (key_written w) ≡ false →
    written_by w r key ≡ r key
one_rest w r key other = rw other refl

pub written_rest : (ws : List Write) (r : Records) (key : RecordKey) → is_written ws key ≡ false →
    written ws r key ≡ r key
written_rest [] r key none = refl
written_rest (w ∷ ws) r key none =
    let (first, more) = neither (is_same key (key_written w)) (is_written ws key) none in
    written_rest ws (written_by w r) key more ∙ one_rest w r key first

pub overlaid_rest : (o : Owes) (r : Records) (key : RecordKey) → owes_at o key ≡ false → overlaid o r key ≡ r key
overlaid_rest (Writes ws) r key none = written_rest ws r key none
overlaid_rest (Sweeps id ws) r key none =
    let (stays, more) = neither (is_swept id key) (is_written ws key) none in
    let stands : without_swept id r key ≡ r key = rw stays refl in
    written_rest ws (without_swept id r) key more ∙ stands

all_rest : (os : List Owes) (r : Records) (key : RecordKey) →
    ((other : ℕ) → owes_at (slice_index_or os other (Writes [])) key ≡ false) → overlaid_by os r key ≡ r key
all_rest [] r key none = refl
all_rest (o ∷ os) r key none =
    all_rest os (overlaid o r) key (λ other. none (suc other)) ∙ overlaid_rest o r key (none zero)

-- ---- seats

pub owes_alone : (os : List Owes) (seat : ℕ) (r : Records) (key : RecordKey) → seat < length os →
    ((other : ℕ) → other ≢ seat → owes_at (slice_index_or os other (Writes [])) key ≡ false) →
    overlaid_by os r key ≡ overlaid (slice_index_or os seat (Writes [])) r key
owes_alone [] seat r key within none = absurd (omega (arith, within))
owes_alone (o ∷ os) zero r key within none =
    all_rest os (overlaid o r) key (λ other. none (suc other) (λ (is : suc other ≡ zero). omega (arith, is)))
owes_alone (o ∷ os) (suc seat) r key within none =
    let shorter : seat < length os = omega (arith, within) in
    let first : overlaid o r key ≡ r key =
    overlaid_rest o r key (none zero (λ (is : zero ≡ suc seat). omega (arith, is))) in
    owes_alone os seat (overlaid o r) key shorter
    (λ other apart. none (suc other) (λ (is : suc other ≡ suc seat). apart (omega (arith, is))))
    ∙ overlaid_local (slice_index_or os seat (Writes [])) (overlaid o r) r key first

pub leaves_others : (os : List Owes) (seat : ℕ) (o : Owes) (r after : Records) (key : RecordKey) →
    owes_at (slice_index_or os seat (Writes [])) key ≡ false → owes_at o key ≡ false → after key ≡ r key →
    overlaid_by (slice_set os seat o) after key ≡ overlaid_by os r key
leaves_others [] seat o r after key old new same = same
leaves_others (p ∷ os) zero o r after key old new same = all_local os (overlaid o after) (overlaid p r) key
    (overlaid_rest o after key new ∙ same ∙ sym (overlaid_rest p r key old))
leaves_others (p ∷ os) (suc seat) o r after key old new same =
    leaves_others os seat o (overlaid p r) (overlaid p after) key old new (overlaid_local p after r key same)

-- ---- trials

undoing_last : (trials : List Record) (x : Record) → undoing (trials ++ x ∷ []) ≡ Delete (key_of x) ∷ undoing trials
undoing_last [] x = refl
undoing_last (r ∷ rs) x = ap (λ (ws : List Write). ws ++ Delete (key_of r) ∷ []) (undoing_last rs x)

-- what was put where nothing stood, and is deleted
gone_again : (k : RecordKey) (x : Record) (r : Records) (key : RecordKey) → r k ≡ None →
    with_at k None (with_at k (Some x) r) key ≡ r key
gone_again k x r key none = by (is_same key k) refl
  where
    by : (b : Bool) → is_same key k ≡ b → with_at k None (with_at k (Some x) r) key ≡ r key
    by true is = rw is (sym none ∙ ap r (sym (same_keys key k is)))
    by false other = rw other refl

pub trial_owed : (trials : List Record) (x : Record) (r : Records) (key : RecordKey) → r (key_of x) ≡ None →
    written (undoing (trials ++ x ∷ [])) (with_at (key_of x) (Some x) r) key ≡ written (undoing trials) r key
trial_owed trials x r key none =
    ap (λ (ws : List Write). written ws (with_at (key_of x) (Some x) r) key) (undoing_last trials x)
    ∙ written_local (undoing trials) (with_at (key_of x) None (with_at (key_of x) (Some x) r)) r key
    (gone_again (key_of x) x r key none)
