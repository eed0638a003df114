-- Records under new links, and the values that stand at keys.
use Rattle.std.proofs.Common.{◌≡◌, refl, sym, ap, ◌∙◌, ℕ, List, ◌++◌, length, drop, Option, Some, None, IfSome, arith}
use Rattle.std.proofs.lemmas.List.{drop_at, length-append}
use Rattle.std.specs.Option.{option_map}
use Rattle.queue_records.specs.declared.links.Link.{Link}
use Rattle.queue_records.specs.declared.links.Link.TheVariants.{Stays, Ends, LeadsTo}
use Rattle.queue_records.specs.declared.links.Links.TheVariants as kinds
use Rattle.queue_records.specs.declared.record.Record.TheVariants as records
use Rattle.queue_records.specs.Relinking.{IfLeads, linked, with_message_links, with_type_links}
use Rattle.std.specs.Prelude.{unwrap_or}
use Rattle.record_file.specs.AccessWords.{RecordKey, Links, Record, SpellsRecord, AreLinksInRange, HasSuch, relinked, value_of, with_front}
use Rattle.record_file.specs.Purposes.{FitLinks}
use Rattle.record_file.specs.Accesses.{IsFrontOf}

-- ---- the record that has such links

pub record IsSuch (links : Links) (found : Option Record) : Type 0 where
  pub entry : Record
  pub is : found ≡ Some entry
  pub such : HasSuch links (Some entry)

pub is_such : (links : Links) (found : Option Record) → HasSuch links found → IsSuch links found
is_such (kinds.Message l) found (m, is) = record { entry = records.Message m; is = is; such = (m, refl) }
is_such (kinds.Type l) found (t, is) = record { entry = records.Type t; is = is; such = (t, refl) }

pub such_then : (links : Links) (found : Option Record) → HasSuch links found →
    HasSuch links (option_map (relinked links) found)
such_then (kinds.Message l) found (m, is) =
    (with_message_links l m, ap (option_map (relinked (kinds.Message l))) is)
such_then (kinds.Type l) found (t, is) = (with_type_links l t, ap (option_map (relinked (kinds.Type l))) is)

-- ---- links set twice

linked_twice : {T : Type 0} (link : Link T) (old : Option T) → linked link (linked link old) ≡ linked link old
linked_twice Stays old = refl
linked_twice Ends old = refl
linked_twice (LeadsTo there) old = refl

set_twice : (new : Option ℕ) (old : ℕ) → unwrap_or new (unwrap_or new old) ≡ unwrap_or new old
set_twice None old = refl
set_twice (Some n) old = refl

relinked_twice : (links : Links) (r : Record) → HasSuch links (Some r) →
    relinked links (relinked links r) ≡ relinked links r
relinked_twice (kinds.Message l) (records.Message m) such = λ i. records.Message (record m {
  previous = linked_twice l.previous m.previous i;
  next = linked_twice l.next m.next i;
  next_of_type = linked_twice l.next_of_type m.next_of_type i;
})
relinked_twice (kinds.Message l) (records.Counter c) such = refl
relinked_twice (kinds.Message l) (records.Key k) such = refl
relinked_twice (kinds.Message l) (records.Queue q) such = refl
relinked_twice (kinds.Message l) (records.Type t) such = refl
relinked_twice (kinds.Type l) (records.Type t) such = λ i. records.Type (record t {
  first = set_twice l.first t.first i;
  last = set_twice l.last t.last i;
  lower = linked_twice l.lower t.lower i;
  higher = linked_twice l.higher t.higher i;
})
relinked_twice (kinds.Type l) (records.Counter c) such = refl
relinked_twice (kinds.Type l) (records.Key k) such = refl
relinked_twice (kinds.Type l) (records.Queue q) such = refl
relinked_twice (kinds.Type l) (records.Message m) such = refl

-- what was a front of the value with links is one of the value that it made
pub front_stays : (links : Links) (bytes : List ℕ) (r : Record) → HasSuch links (Some r) → IsFrontOf links bytes r →
    IsFrontOf links bytes (relinked links r)
front_stays links bytes r such front =
    let rest : List ℕ = drop (length bytes) (value_of r) in
    let long : length (value_of (relinked links r)) ≡ length (bytes ++ rest) = sym (ap length front.made) in
    let parts = length-append bytes rest in
    record {
      within = omega (arith, long, parts);
      made = ap (with_front bytes) (sym front.made)
          ∙ ap (λ (xs : List ℕ). bytes ++ xs) (drop_at bytes rest (length bytes) refl)
          ∙ front.made ∙ sym (ap value_of (relinked_twice links r such));
    }

-- ---- limits

leads_or : {T : Type 0} (IsSo : T → Type 0) (link : Link T) (old : Option T) → IfLeads link IsSo → IfSome old IsSo →
    IfSome (linked link old) IsSo
leads_or IsSo Stays old new was = was
leads_or IsSo Ends old new was = tt
leads_or IsSo (LeadsTo there) old new was = new

set_or : (IsSo : ℕ → Type 0) (new : Option ℕ) (old : ℕ) → IfSome new IsSo → IsSo old → IsSo (unwrap_or new old)
set_or IsSo None old is was = was
set_or IsSo (Some n) old is was = is

pub relinked_spelled : (links : Links) (r : Record) (key : RecordKey) → AreLinksInRange links → FitLinks links →
    SpellsRecord r key (value_of r) → SpellsRecord (relinked links r) key (value_of (relinked links r))
relinked_spelled (kinds.Message l) (records.Message m) key range fit spells = record {
  fits = record {
    serial = spells.fits.serial;
    mtype = spells.fits.mtype;
    sender = spells.fits.sender;
    previous = leads_or _ l.previous m.previous fit.previous spells.fits.previous;
    next = leads_or _ l.next m.next fit.next spells.fits.next;
    next_of_type = leads_or _ l.next_of_type m.next_of_type fit.next_of_type spells.fits.next_of_type;
  };
  in_range = record {
    id = spells.in_range.id;
    serial = spells.in_range.serial;
    mtype = spells.in_range.mtype;
    short = spells.in_range.short;
    previous = leads_or _ l.previous m.previous range.previous spells.in_range.previous;
    next = leads_or _ l.next m.next range.next spells.in_range.next;
    next_of_type = leads_or _ l.next_of_type m.next_of_type range.next_of_type spells.in_range.next_of_type;
  };
  keyed = spells.keyed;
  spelled = refl;
}
relinked_spelled (kinds.Message l) (records.Counter c) key range fit spells = spells
relinked_spelled (kinds.Message l) (records.Key k) key range fit spells = spells
relinked_spelled (kinds.Message l) (records.Queue q) key range fit spells = spells
relinked_spelled (kinds.Message l) (records.Type t) key range fit spells = spells
relinked_spelled (kinds.Type l) (records.Type t) key range fit spells = record {
  fits = record {
    mtype = spells.fits.mtype;
    first = set_or _ l.first t.first fit.first spells.fits.first;
    last = set_or _ l.last t.last fit.last spells.fits.last;
    lower = leads_or _ l.lower t.lower fit.lower spells.fits.lower;
    higher = leads_or _ l.higher t.higher fit.higher spells.fits.higher;
  };
  in_range = record {
    id = spells.in_range.id;
    mtype = spells.in_range.mtype;
    first = set_or _ l.first t.first range.first spells.in_range.first;
    last = set_or _ l.last t.last range.last spells.in_range.last;
    lower = leads_or _ l.lower t.lower range.lower spells.in_range.lower;
    higher = leads_or _ l.higher t.higher range.higher spells.in_range.higher;
  };
  keyed = spells.keyed;
  spelled = refl;
}
relinked_spelled (kinds.Type l) (records.Counter c) key range fit spells = spells
relinked_spelled (kinds.Type l) (records.Key k) key range fit spells = spells
relinked_spelled (kinds.Type l) (records.Queue q) key range fit spells = spells
relinked_spelled (kinds.Type l) (records.Message m) key range fit spells = spells
