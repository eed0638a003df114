-- What the record at its key, or the Counter, tells a Get.
use Rattle.xsi_control.proofs.Names.{At, Bool, Caller, Counter, ENOENT, GetArguments, IsFreshKey, IsSome, IsTold, KeyEntry, KnowsOfGet, None, Option, Queue, Record, Some, State, absent_or_counted, ap, counter_key, counter_of, create, false, find, get_by, get_found, has_key, id_found, if◌then◌else◌, key_entry, key_of_key, key_wanted, mapped, option_map, outcome_of_get, refl, refuse, subst, sym, true, ℕ, ◌∙◌, ◌≡◌}
use Rattle.queue_records.specs.declared.record.Record.TheVariants as records

-- ---- the Counter always stands

pub counter_missing : (s : State) → IsTold s (Some (At counter_key)) None → ⊥
counter_missing s told =
    let at : None ≡ Some (records.Counter (counter_of s)) = told counter_key refl in
    absurd cc

pub counter_is : (s : State) (r : Record) → IsTold s (Some (At counter_key)) (Some r) →
    r ≡ records.Counter (counter_of s)
counter_is s r told =
    let at : Some r ≡ Some (records.Counter (counter_of s)) = told counter_key refl in
    cc

pub same_counter : (s : State) (n : Counter) → IsTold s (Some (At counter_key)) (Some (records.Counter n)) →
    n ≡ counter_of s
same_counter s n told =
    let is = counter_is s (records.Counter n) told in
    cc

-- ---- the record at its key

none_mapped : (key : ℕ) (o : Option Queue) → None ≡ option_map (λ (q : Queue). records.Key (key_entry key q)) o →
    o ≡ None
none_mapped key None none = refl
none_mapped key (Some q) none = absurd cc

pub key_told : (key : Option ℕ) (s : State) (r : Record) → IsSome key → IsTold s (key_wanted key) (Some r) →
    (e : KeyEntry) × (r ≡ records.Key e)
key_told None s r some told = absurd cc
key_told (Some key) s r some told =
    let (q, found, is) = mapped (λ (q : Queue). records.Key (key_entry key q)) (find (has_key key) s.queues) r
    (sym (told (key_of_key key) refl)) in
    (key_entry key q, sym is)

module _ (c : Caller) (a : GetArguments) (s : State) where
  by_key : (key : ℕ) (o : Option Queue) → a.key ≡ Some key → find (has_key key) s.queues ≡ o →
      outcome_of_get c a s ≡ get_found o c a s
  by_key key o given found =
      ap (λ (k : Option ℕ). get_by k c a s) given ∙ ap (λ (o : Option Queue). get_found o c a s) found

  -- no queue has the key: one is made, or ENOENT
  pub absent_told : (key : Option ℕ) → a.key ≡ key → IsSome key → IsTold s (key_wanted key) None →
      KnowsOfGet c a (absent_or_counted a.create) s
  absent_told None given some told = absurd cc
  absent_told (Some key) given some told =
      let none = none_mapped key (find (has_key key) s.queues) (told (key_of_key key) refl) in
      let fresh : IsFreshKey a.key s = λ k its.
      let both : ◌≡◌ {A = Option ℕ} (Some key) (Some k) = sym given ∙ its in
      let same : key ≡ k = cc in
      subst (λ (n : ℕ). find (has_key n) s.queues ≡ None) same none in
      by a.create fresh (by_key key None given none)
    where
      by : (b : Bool) → IsFreshKey a.key s →
          outcome_of_get c a s ≡ (if b then create c a s else refuse ENOENT s) →
          KnowsOfGet c a (absent_or_counted b) s
      by true fresh outcome = record { outcome = outcome; fresh = fresh }
      by false fresh outcome = outcome

  -- a queue has the key
  pub found_told : (key : Option ℕ) → a.key ≡ key → IsSome key → (e : KeyEntry) →
      IsTold s (key_wanted key) (Some (records.Key e)) → outcome_of_get c a s ≡ id_found e.id a s
  found_told None given some e told = absurd cc
  found_told (Some key) given some e told =
      let (q, found, is) = mapped (λ (q : Queue). records.Key (key_entry key q)) (find (has_key key) s.queues)
      (records.Key e) (sym (told (key_of_key key) refl)) in
      let same : key_entry key q ≡ e = cc in
      by_key key (Some q) given found ∙ ap (λ (e : KeyEntry). id_found e.id a s) same
