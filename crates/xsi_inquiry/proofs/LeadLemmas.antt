-- Plans in order, of which each write makes the record that is wanted, and all else stands as it is wanted.
use Rattle.std.proofs.Common.{◌≡◌, ℕ, Bool, true, false, List, [], ◌∷◌, Option, Some, None, inl, inr, refl, sym, ap, ◌∙◌, subst, arith}
use Rattle.std.specs.Prelude.{◌==◌, ◌&&◌, option_map, unwrap_or, IfSome, IsSome}
use Rattle.std.specs.List.{All}
use Rattle.std.proofs.lemmas.Bool.{eqb-true}
use Rattle.std.proofs.lemmas.List.Elements.{All-nil, All-cons, All-head, All-tail, All-weaker}
use Rattle.type_chains.specs.bucket_page.declared.record_key.RecordKey.{RecordKey}
use Rattle.type_chains.specs.bucket_page.Keys.{is_same}
use Rattle.type_chains.proofs.of_numbers.Tests.{both_true}
use Rattle.type_chains.specs.queue_records.declared.record.Record.{Record}
use Rattle.type_chains.specs.queue_records.declared.record.Record.TheVariants as records
use Rattle.type_chains.specs.queue_records.declared.links.Link.{Link}
use Rattle.type_chains.specs.queue_records.declared.links.Link.TheVariants.{Stays, Ends, LeadsTo}
use Rattle.type_chains.specs.queue_records.declared.links.Links.{Links}
use Rattle.type_chains.specs.queue_records.declared.links.Links.TheVariants as links
use Rattle.type_chains.specs.queue_records.Range.{IsInRange, IsSerial, IsType}
use Rattle.type_chains.specs.queue_records.Relinking.{HasSuch, IfLeads, linked, relinked, with_message_links, with_type_links}
use Rattle.type_chains.specs.queue_records.Spelling.{key_of}
use Rattle.type_chains.proofs.Tests.{key_is, mapped}
use Rattle.xsi_inquiry.specs.declared.write.Write.{Write}
use Rattle.xsi_inquiry.specs.declared.write.Write.TheVariants.{Replace, Relink, Delete}
use Rattle.xsi_inquiry.specs.Owning.{Ascend, IsBefore, deletion_rank, kind_rank, write_rank}
use Rattle.xsi_inquiry.specs.Writing.{AreAbsent, CanAllBe, CanBe, HasRange, Leads, Plan, Records, inserted, key_written, turned, value_length, with_at, writes_of, written, written_by}

pub same_keys : (a b : RecordKey) → is_same a b ≡ true → a ≡ b
same_keys a b same =
    let first = both_true (a.kind == b.kind) (a.queue == b.queue && a.number == b.number) same in
    let second = both_true (a.queue == b.queue) (a.number == b.number) first.1 in
    key_is b a.kind a.queue a.number (eqb-true a.kind b.kind first.0) (eqb-true a.queue b.queue second.0)
    (eqb-true a.number b.number second.1)

-- a write is no write at a key
abbrev pub Misses : RecordKey → Write → Type 0
Misses key w = is_same key (key_written w) ≡ false

abbrev pub MissesRecord : RecordKey → Record → Type 0
MissesRecord key r = is_same key (key_of r) ≡ false

some_of : (o : Option Record) → IsSome o → (x : Record) × (o ≡ Some x)
some_of None some = absurd cc
some_of (Some x) some = (x, refl)

-- new links make a record of one that has such
has_new : (l : Links) (found : Option Record) → HasSuch l found →
    (x : Record) × (option_map (relinked l) found ≡ Some x)
has_new (links.Message l) found (m, at) =
    (records.Message (with_message_links l m), ap (option_map (relinked (links.Message l))) at)
has_new (links.Type l) found (t, at) = (
  records.Type (with_type_links l t),
  ap (option_map (relinked (links.Type l)))
      at,
)

both : (at : Records) (key : RecordKey) (x : Record) → at key ≡ Some x → at key ≡ None → ⊥
both at key x some none =
    let clash : ◌≡◌ {A = Option Record} None (Some x) = sym none ∙ some in
    absurd cc

-- writes at one key of one rank are in no order
not_before : (w v : Write) → write_rank v ≡ write_rank w → key_written v ≡ key_written w → IsBefore w v → ⊥
not_before w v ranks same (inl less) = omega (arith, less, ranks)
not_before w v ranks same (inr (equal, less)) =
    let numbers = ap (λ (k : RecordKey). k.number) same in
    omega (arith, less, numbers)

-- links that a record in range has now are in range
leads_in_range : {T : Type 0} (l : Link T) (before : Option T) (IsSo : T → Type 0) → IfSome (linked l before) IsSo →
    IfLeads l IsSo
leads_in_range Stays before IsSo is = tt
leads_in_range Ends before IsSo is = tt
leads_in_range (LeadsTo there) before IsSo is = is

given_in_range : (l : Option ℕ) (before : ℕ) (IsSo : ℕ → Type 0) → IsSo (unwrap_or l before) → IfSome l IsSo
given_in_range None before IsSo is = tt
given_in_range (Some there) before IsSo is = is

module _ (old new : Records) where
  -- the record is that of the new ones at its key
  abbrev pub IsNew : Record → Type 0
  IsNew r = new (key_of r) ≡ Some r

  -- a write can be carried out, and makes the new record at its key
  abbrev pub Fits : Records → Write → Type 0
  Fits cur (Replace r) = IsNew r × (option_map value_length (cur (key_of r)) ≡ Some (value_length r))
  Fits cur (Relink key links) = HasSuch links (cur key) × (new key ≡ option_map (relinked links) (cur key))
  Fits cur (Delete key) = IsSome (cur key) × (new key ≡ None)

  abbrev pub Fills : Write → Type 0
  Fills w = Fits old w

  gives : (cur : Records) (w : Write) → Fits cur w → turned w (cur (key_written w)) ≡ new (key_written w)
  gives cur (Replace r) fits = sym fits.0
  gives cur (Relink key links) fits = sym fits.1
  gives cur (Delete key) fits = sym fits.1

  can_one : (cur : Records) (w : Write) → Fits cur w → CanBe w cur
  can_one cur (Replace r) fits = fits.1
  can_one cur (Relink key links) fits = fits.0
  can_one cur (Delete key) fits = fits.0

  -- where nothing changed at its key it still does
  fits_by : (cur cur' : Records) (w : Write) → cur' (key_written w) ≡ cur (key_written w) → Fits cur w → Fits cur' w
  fits_by cur cur' (Replace r) same fits = (fits.0, ap (option_map value_length) same ∙ fits.1)
  fits_by cur cur' (Relink key links) same (has, is) =
      (subst (HasSuch links) (sym same) has, is ∙ ap (option_map (relinked links)) (sym same))
  fits_by cur cur' (Delete key) same fits = (subst IsSome (sym same) fits.0, fits.1)

  at_record : (key k : RecordKey) (found : Option Record) (cur : Records) → found ≡ new k →
      (is_same key k ≡ false → cur key ≡ new key) → with_at k found cur key ≡ new key
  at_record key k found cur is else = by (is_same key k) refl
    where
      by : (b : Bool) → is_same key k ≡ b → with_at k found cur key ≡ new key
      by true same = rw same (is ∙ ap new (sym (same_keys key k same)))
      by false other = rw other (else other)

  -- two writes that fit and are in order are at two keys
  apart : (cur : Records) (w v : Write) → IsBefore w v → Fits cur w → Fits cur v → key_written v ≡ key_written w → ⊥
  apart cur (Replace r) (Replace x) before first fits same =
      not_before (Replace r) (Replace x) (ap (λ (k : RecordKey). kind_rank k.kind) same) same before
  apart cur (Replace r) (Relink key l) before first fits same =
      not_before (Replace r) (Relink key l) (ap (λ (k : RecordKey). kind_rank k.kind) same) same before
  apart cur (Relink k l) (Replace x) before first fits same =
      not_before (Relink k l) (Replace x) (ap (λ (k : RecordKey). kind_rank k.kind) same) same before
  apart cur (Relink k l) (Relink key l') before first fits same =
      not_before (Relink k l) (Relink key l') (ap (λ (k : RecordKey). kind_rank k.kind) same) same before
  apart cur (Delete k) (Delete key) before first fits same =
      not_before (Delete k) (Delete key) (ap (λ (k : RecordKey). deletion_rank k.kind) same) same before
  apart cur (Replace r) (Delete key) before first fits same = both new key r (ap new same ∙ first.0) fits.1
  apart cur (Relink k l) (Delete key) before first fits same =
      let (x, is) = has_new l (cur k) first.0 in
      both new key x (ap new same ∙ first.1 ∙ is) fits.1
  apart cur (Delete k) (Replace x) before first fits same = both new k x (ap new (sym same) ∙ fits.0) first.1
  apart cur (Delete k) (Relink key l) before first fits same =
      let (x, is) = has_new l (cur key) fits.0 in
      both new k x (ap new (sym same) ∙ fits.1 ∙ is) first.1

  -- a write that fits leaves those behind it fitting
  stays : (w : Write) (cur : Records) → Fits cur w → (v : Write) → IsBefore w v → Fits cur v → Fits (written_by w cur) v
  stays w cur first v before fits = by (is_same (key_written v) (key_written w)) refl
    where
      by : (b : Bool) → is_same (key_written v) (key_written w) ≡ b → Fits (written_by w cur) v
      by true same = absurd (apart cur w v before first fits (same_keys (key_written v) (key_written w) same))
      by false other = fits_by cur (written_by w cur) v (rw other refl) fits

  all_stay : (w : Write) (cur : Records) → Fits cur w → (vs : List Write) → All (IsBefore w) vs → All (Fits cur) vs →
      All (Fits (written_by w cur)) vs
  all_stay w cur first [] before all = All-nil (Fits (written_by w cur))
  all_stay w cur first (v ∷ vs) before all = All-cons (Fits (written_by w cur)) v vs
      (stays w cur first v (All-head (IsBefore w) v vs before) (All-head (Fits cur) v vs all))
      (all_stay w cur first vs (All-tail (IsBefore w) v vs before) (All-tail (Fits cur) v vs all))

  at_inserted : (rs : List Record) (cur : Records) (key : RecordKey) → All IsNew rs →
      (All (MissesRecord key) rs → cur key ≡ new key) → inserted rs cur key ≡ new key
  at_inserted [] cur key all else = else (All-nil (MissesRecord key))
  at_inserted (r ∷ rs) cur key all else =
      at_inserted rs (with_at (key_of r) (Some r) cur) key (All-tail IsNew r rs all)
      (λ rest. at_record key (key_of r) (Some r) cur (sym (All-head IsNew r rs all))
      (λ first. else (All-cons (MissesRecord key) r rs first rest)))

  at_written : (ws : List Write) (cur : Records) (key : RecordKey) → Ascend ws → All (Fits cur) ws →
      (All (Misses key) ws → cur key ≡ new key) → written ws cur key ≡ new key
  at_written [] cur key up all else = else (All-nil (Misses key))
  at_written (w ∷ ws) cur key up all else =
      let first = All-head (Fits cur) w ws all in
      at_written ws (written_by w cur) key up.1 (all_stay w cur first ws up.0 (All-tail (Fits cur) w ws all))
      (λ rest. at_record key (key_written w) (turned w (cur (key_written w))) cur (gives cur w first)
      (λ missed. else (All-cons (Misses key) w ws missed rest)))

  can_all : (ws : List Write) (cur : Records) → Ascend ws → All (Fits cur) ws → CanAllBe ws cur
  can_all [] cur up all = tt
  can_all (w ∷ ws) cur up all =
      let first = All-head (Fits cur) w ws all in (
        can_one cur w first,
        can_all ws (written_by w cur) up.1
            (all_stay w cur first ws up.0 (All-tail (Fits cur) w ws all)),
      )

  -- what is there stays where records are inserted at keys that have none
  stays_put : (rs : List Record) (cur : Records) (key : RecordKey) (x : Record) → AreAbsent rs cur →
      cur key ≡ Some x → inserted rs cur key ≡ Some x
  stays_put [] cur key x absent at = at
  stays_put (r ∷ rs) cur key x (none, rest) at =
      stays_put rs (with_at (key_of r) (Some r) cur) key x rest (by (is_same key (key_of r)) refl)
    where
      by : (b : Bool) → is_same key (key_of r) ≡ b → with_at (key_of r) (Some r) cur key ≡ Some x
      by true same =
          let clash : ◌≡◌ {A = Option Record} None (Some x) = sym none ∙ sym (ap cur (same_keys key (key_of r) same))
          ∙ at in
          absurd cc
      by false other = rw other at

  stands : (w : Write) → Fits old w → (x : Record) × (old (key_written w) ≡ Some x)
  stands (Replace r) fits =
      let (x, at, long) = mapped value_length (old (key_of r)) (value_length r) fits.1 in (x, at)
  stands (Relink key (links.Message l)) ((m, at), is) = (records.Message m, at)
  stands (Relink key (links.Type l)) ((t, at), is) = (records.Type t, at)
  stands (Delete key) fits = some_of (old key) fits.0

  after_trials : (rs : List Record) → AreAbsent rs old → (w : Write) → Fits old w → Fits (inserted rs old) w
  after_trials rs absent w fits =
      let (x, at) = stands w fits in
      fits_by old (inserted rs old) w (stays_put rs old (key_written w) x absent at ∙ sym at) fits

  in_range : ((key : RecordKey) (r : Record) → new key ≡ Some r → IsInRange r) → (w : Write) → Fits old w → HasRange w
  in_range ranges (Replace r) fits = ranges (key_of r) r fits.0
  in_range ranges (Relink key (links.Message l)) ((m, at), is) =
      let range = ranges key (records.Message (with_message_links l m))
      (is ∙ ap (option_map (relinked (links.Message l))) at) in
      record {
        previous = leads_in_range l.previous m.previous IsSerial range.previous;
        next = leads_in_range l.next m.next IsSerial range.next;
        next_of_type = leads_in_range l.next_of_type m.next_of_type IsSerial range.next_of_type;
      }
  in_range ranges (Relink key (links.Type l)) ((t, at), is) =
      let range = ranges key (records.Type (with_type_links l t))
      (is ∙ ap (option_map (relinked (links.Type l))) at) in
      record {
        first = given_in_range l.first t.first IsSerial range.first;
        last = given_in_range l.last t.last IsSerial range.last;
        lower = leads_in_range l.lower t.lower IsType range.lower;
        higher = leads_in_range l.higher t.higher IsType range.higher;
      }
  in_range ranges (Delete key) fits = tt

  -- the plan leads from the old records to the new ones
  pub leads_by : (p : Plan) → AreAbsent p.trials old → All IsNew p.trials → Ascend (writes_of p) →
      All Fills (writes_of p) → ((key : RecordKey) (r : Record) → new key ≡ Some r → IsInRange r) →
      ((key : RecordKey) → All (MissesRecord key) p.trials → All (Misses key) (writes_of p) → old key ≡ new key) →
      Leads p old new
  leads_by p absent trials up writes ranges else =
      let ready = All-weaker Fills (Fits (inserted p.trials old)) (after_trials p.trials absent) (writes_of p) writes
      in
      record {
        absent = absent;
        trials_in_range = All-weaker IsNew IsInRange (λ r is. ranges (key_of r) r is) p.trials trials;
        can = can_all (writes_of p) (inserted p.trials old) up ready;
        in_range = All-weaker Fills HasRange (in_range ranges) (writes_of p) writes;
        leads = λ key. at_written (writes_of p) (inserted p.trials old) key up ready
            (λ missed. at_inserted p.trials old key trials (λ none. else key none missed));
      }
