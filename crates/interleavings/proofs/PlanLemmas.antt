-- A plan that deletes nothing leaves each record as long as it was, and each that it inserts.
use Rattle.std.proofs.Common.{ℕ, zero, suc, ◌≡◌, refl, sym, ap, ◌∙◌, subst, Bool, true, false, List, [], ◌∷◌, Option, Some, None, length-append, take, arith}
use Rattle.std.specs.List.{All, Contains}
use Rattle.std.specs.Option.{option_map}
use Rattle.std.specs.Prelude.{if◌then◌else◌}
use Rattle.std.proofs.lemmas.Bool.{eq-eqb}
use Rattle.std.proofs.lemmas.List.Elements.{All-head, All-tail}
use Rattle.std.proofs.lemmas.Option.{same_Some}
use Rattle.bucket_page.specs.Keys.{is_same}
use Rattle.bucket_page.specs.declared.record_key.RecordKey.{RecordKey}
use Rattle.queue_records.proofs.of_numbers.NumberLaws.{length-eight, length-four}
use Rattle.queue_records.specs.Relinking.{HasSuch, relinked}
use Rattle.queue_records.specs.Spelling.{key_of}
use Rattle.queue_records.specs.declared.links.Links.{Links}
use Rattle.queue_records.specs.declared.links.Links.TheVariants as links
use Rattle.queue_records.specs.declared.record.Record.{Record}
use Rattle.queue_records.specs.declared.record.Record.TheVariants as records
use Rattle.xsi_inquiry.proofs.LeadLemmas.{same_keys}
use Rattle.xsi_inquiry.specs.Writing.{AreAbsent, CanAllBe, CanBe, KeepsAll, Leads, Plan, Records, inserted, key_written, somes, turned, value_length, with_at, writes_of, written, written_by}
use Rattle.xsi_inquiry.specs.declared.write.Write.{Write}
use Rattle.xsi_inquiry.specs.declared.write.Write.TheVariants.{Delete, Relink, Replace}

-- a record stands there, as long as this one
pub record StandsAsLong (records : Records) (key : RecordKey) (r : Record) : Type 0 where
  pub entry : Record
  pub there : records key ≡ Some entry
  pub long : value_length entry ≡ value_length r

-- ---- a write

relinked_long : (l : Links) (r : Record) → HasSuch l (Some r) → value_length (relinked l r) ≡ value_length r
relinked_long (links.Message l) (records.Message m) has = simp (length-append, length-eight, length-four) (omega arith)
relinked_long (links.Message l) (records.Counter c) has = refl
relinked_long (links.Message l) (records.Key k) has = refl
relinked_long (links.Message l) (records.Queue q) has = refl
relinked_long (links.Message l) (records.Type t) has = refl
relinked_long (links.Type l) (records.Type t) has = simp (length-append, length-eight) (omega arith)
relinked_long (links.Type l) (records.Counter c) has = refl
relinked_long (links.Type l) (records.Key k) has = refl
relinked_long (links.Type l) (records.Queue q) has = refl
relinked_long (links.Type l) (records.Message m) has = refl

-- what it makes of what stands there is as long
turned_long : (w : Write) (records : Records) (r : Record) → KeepsAll (Some w) → CanBe w records →
    records (key_written w) ≡ Some r → StandsAsLong (λ key. turned w (records (key_written w))) (key_written w) r
turned_long (Replace q) records r keeps can there = record {
  entry = q;
  there = refl;
  long = sym (same_Some (value_length r) (value_length q) (sym (ap (option_map value_length) there) ∙ can));
}
turned_long (Relink key l) records r keeps can there = record {
  entry = relinked l r;
  there = ap (option_map (relinked l)) there;
  long = relinked_long l r (subst (HasSuch l) there can);
}
turned_long (Delete key) records r keeps can there = absurd keeps

write_long : (w : Write) (records : Records) (key : RecordKey) (r : Record) → KeepsAll (Some w) → CanBe w records →
    records key ≡ Some r → StandsAsLong (written_by w records) key r
write_long w records key r keeps can there = by (is_same key (key_written w)) refl
  where
    by : (b : Bool) → is_same key (key_written w) ≡ b → StandsAsLong (written_by w records) key r
    by true same =
        let is = same_keys key (key_written w) same in
        let at = turned_long w records r keeps can (ap records (sym is) ∙ there) in
        record {
          entry = at.entry;
          there = ap (λ (b : Bool). if b then turned w (records (key_written w)) else records key) same ∙ at.there;
          long = at.long;
        }
    by false other = record {
      entry = r;
      there = ap (λ (b : Bool). if b then turned w (records (key_written w)) else records key) other ∙ there;
      long = refl;
    }

-- ---- all of them

-- each of these
abbrev KeepEach : List Write → Type 0
KeepEach [] = Unit {0}
KeepEach (w ∷ ws) = KeepsAll (Some w) × KeepEach ws

kept_each : (slots : List (Option Write)) → All KeepsAll slots → KeepEach (somes slots)
kept_each [] all = tt
kept_each (None ∷ slots) all = kept_each slots (All-tail KeepsAll None slots all)
kept_each (Some w ∷ slots) all =
    (All-head KeepsAll (Some w) slots all, kept_each slots (All-tail KeepsAll (Some w) slots all))

writes_long : (ws : List Write) (records : Records) (key : RecordKey) (r : Record) → KeepEach ws → CanAllBe ws records →
    records key ≡ Some r → StandsAsLong (written ws records) key r
writes_long [] records key r keeps can there = record { entry = r; there = there; long = refl }
writes_long (w ∷ ws) records key r keeps can there =
    let first = write_long w records key r keeps.0 can.0 there in
    let rest = writes_long ws (written_by w records) key first.entry keeps.1 can.1 first.there in
    record { entry = rest.entry; there = rest.there; long = rest.long ∙ first.long }

pub plan_long : (p : Plan) (old new : Records) (key : RecordKey) (r : Record) → Leads p old new → All KeepsAll p.slots →
    inserted p.trials old key ≡ Some r → StandsAsLong new key r
plan_long p old new key r leads keeps there =
    let at = writes_long (writes_of p) (inserted p.trials old) key r (kept_each p.slots keeps) leads.can there in
    record { entry = at.entry; there = sym (leads.leads key) ∙ at.there; long = at.long }

-- ---- what is inserted

-- one that stood stands
pub stood_still : (rs : List Record) (records : Records) (key : RecordKey) (r : Record) → AreAbsent rs records →
    records key ≡ Some r → inserted rs records key ≡ Some r
stood_still [] records key r absent there = there
stood_still (q ∷ rs) records key r absent there =
    stood_still rs (with_at (key_of q) (Some q) records) key r absent.1 (by (is_same key (key_of q)) refl)
  where
    by : (b : Bool) → is_same key (key_of q) ≡ b → with_at (key_of q) (Some q) records key ≡ Some r
    by true same =
        let clash : ◌≡◌ {A = Option Record} None (Some r) =
        sym absent.0 ∙ ap records (sym (same_keys key (key_of q) same)) ∙ there in
        cc
    by false other = ap (λ (b : Bool). if b then Some q else records key) other ∙ there

-- and so does one of the first of them
pub first_ones : (n : ℕ) (rs : List Record) (records : Records) (key : RecordKey) (r : Record) → AreAbsent rs records →
    inserted (take n rs) records key ≡ Some r → inserted rs records key ≡ Some r
first_ones zero rs records key r absent there = stood_still rs records key r absent there
first_ones (suc n) [] records key r absent there = there
first_ones (suc n) (q ∷ rs) records key r absent there =
    first_ones n rs (with_at (key_of q) (Some q) records) key r absent.1 there

same_self : (key : RecordKey) → is_same key key ≡ true
same_self key =
    rw (eq-eqb key.kind key.kind refl, eq-eqb key.queue key.queue refl, eq-eqb key.number key.number refl) refl

-- each of them stands at its key
pub its_own : (rs : List Record) (records : Records) (r : Record) → AreAbsent rs records → Contains rs r →
    inserted rs records (key_of r) ≡ Some r
its_own [] records r absent (k, within, at) = absurd (omega (arith, within))
its_own (q ∷ rs) records r absent (zero, within, at) =
    subst (λ (x : Record). inserted rs (with_at (key_of q) (Some q) records) (key_of x) ≡ Some x) at
    (stood_still rs (with_at (key_of q) (Some q) records) (key_of q) q absent.1
    (ap (λ (b : Bool). if b then Some q else records (key_of q)) (same_self (key_of q))))
its_own (q ∷ rs) records r absent (suc k, within, at) =
    its_own rs (with_at (key_of q) (Some q) records) r absent.1 (k, omega (arith, within), at)
