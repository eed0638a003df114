-- What a file of a layout holds at a key is what was found there, as of today's.
use Rattle.std.proofs.Common.{ℕ, ◌≡◌, Bool, true, false, List, Option, Some, None, refl, sym, ap, ◌∙◌}
use Rattle.record_walk.specs.Versions.{found_by, found_in, held_by, held_in, is_today, today_in}
use Rattle.record_walk.specs.LookupWords.{Layout, RecordKey, Store, contents}

found_today : (key : RecordKey) (found : Option (List ℕ)) → found_by true key found ≡ found
found_today key None = refl
found_today key (Some value) = refl

held_is_by : (today : Bool) (s : Store) (key : RecordKey) → held_by today s key ≡ found_by today key (contents s key)
held_is_by true s key = sym (found_today key (contents s key))
held_is_by false s key = refl

pub held_is : (l : Layout) (s : Store) (key : RecordKey) → held_in l s key ≡ found_in l key (contents s key)
held_is l s key = held_is_by (is_today l) s key

-- a value that is held was found
pub found_back : (l : Layout) (key : RecordKey) (found : Option (List ℕ)) (value : List ℕ) →
    found_in l key found ≡ Some value → (raw : List ℕ) × (found ≡ Some raw) × (today_in l key raw ≡ value)
found_back l key None value is = absurd cc
found_back l key (Some raw) value is = (raw, refl, cc)

module _ (l : Layout) (s : Store) (key : RecordKey) where
  pub held_some : (value : List ℕ) → contents s key ≡ Some value → held_in l s key ≡ Some (today_in l key value)
  held_some value is = held_is l s key ∙ ap (found_in l key) is

  pub held_none : contents s key ≡ None → held_in l s key ≡ None
  held_none is = held_is l s key ∙ ap (found_in l key) is

  -- what is held stands there
  pub some_held : (value : List ℕ) → held_in l s key ≡ Some value →
      (raw : List ℕ) × (contents s key ≡ Some raw) × (today_in l key raw ≡ value)
  some_held value is = found_back l key (contents s key) value (sym (held_is l s key) ∙ is)

  pub none_held : held_in l s key ≡ None → contents s key ≡ None
  none_held is = by_found (contents s key) (sym (held_is l s key) ∙ is)
    where
      by_found : (found : Option (List ℕ)) → found_in l key found ≡ None → found ≡ None
      by_found None e = refl
      by_found (Some value) e = absurd cc
