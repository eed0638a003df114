-- An insert in its first try, which passes on to the second, and in its second one.
use Rattle.std.proofs.Common.{◌≡◌, refl, sym, ap, ◌∙◌, subst, ℕ, ◌+◌, true, false, List, Option, Some, None, is_some, length, arith, inl, inr}
use Rattle.std.proofs.lemmas.Bool.{true≢false}
use Rattle.split_merge.specs.file_pages.declared.fault.FileFault.{FileFault}
use Rattle.step_rules.specs.declared.kind.Kind.TheVariants as kinds
use Rattle.split_merge.specs.stale_search.Steps.{Nears}
use Rattle.record_file.specs.Machines.{FindsAt}
use Rattle.record_file.specs.BucketAccesses.{BucketView, ask_in, bucket_facts, bucket_left, found_of, has_ended}
use Rattle.record_file.specs.BucketAccesses.{facts_in as bucket_facts_in, left_in as bucket_left_in, locks_in as bucket_locks_in}
use Rattle.record_file.specs.BucketSteps.{MakesBucket}
use Rattle.record_file.specs.declared.bucket_access.BucketStage.{BucketStage}
use Rattle.record_file.specs.declared.bucket_access.Deed.TheVariants as deeds
use Rattle.record_file.proofs.StepLemmas.{ended_is, fault_spares}
use Rattle.split_merge.proofs.of_stale_search.StayLemmas.{Stays-of}
use Rattle.record_file.specs.InsertWords.{RecordKey, Pair, pair, Put, Known, Ask, Turn, PoolState, Table, Lock, Change, Progress, Moved, Blocked, Fault, Ended, World, is_fault, HasNoFileLock, Owns, row_of, with_row, store_of, Stays, Tells, world, Sees, Step, Tried, IsPut, IsThere}
use Rattle.record_file.specs.SecondSteps.{IsSeenThere, MakesStep, NearsOrSpares, SaysAt}
use Rattle.record_file.specs.SecondTries.{SecondTryView, said_at, second_facts, second_turn}
use Rattle.record_file.specs.Inserts.{InsertView, IsFirstAt, IsSecondAt, SECOND_STEPS, is_there}
use Rattle.record_file.specs.InsertSteps.{MakesInsert}
use Rattle.record_file.specs.declared.insert.InsertStage.{InsertStage}
use Rattle.record_file.specs.declared.insert.InsertStage.TheVariants.{First, Second}
use Rattle.split_merge.specs.stale_search.declared.place.ApproachPlace.TheVariants.{GrantDirectory}
use Rattle.record_file.specs.declared.second_place.SecondPlace.TheVariants.{Approaching}

pub none_said : (said : Option Tried) → is_some said ≡ false → said ≡ None
none_said None none = refl
none_said (Some tried) none = absurd cc

-- what it came to stays
says_same : (hash : RecordKey → ℕ) (seat : ℕ) (did : Progress FileFault) (p : Pair) (said : Option Tried)
    (old new : World) → SaysAt hash seat did p said said old new
says_same hash seat did p None old new = tt
says_same hash seat did p (Some tried) old new = refl

-- the key is seen where it was not
sees_key : (hash : RecordKey → ℕ) (seat : ℕ) (did : Progress FileFault) (key : RecordKey)
    (before after : Option (ℕ × Option ℕ)) (w : World) → is_there before ≡ false → is_there after ≡ true →
    FindsAt hash seat did key before after w → IsSeenThere hash seat did key w
sees_key hash seat did key before after w none some (inl same) =
    absurd (true≢false (sym some ∙ ap is_there same ∙ none))
sees_key hash seat did key before after w none some (inr f) = by f.found f.is f.tells
  where
    by : (found : Option ℕ) → after ≡ Some (f.page, found) → Tells hash seat f.page key found w →
        IsSeenThere hash seat did key w
    by None is tells = absurd (true≢false (sym some ∙ ap is_there is))
    by (Some bytes) is tells = record { looked = f.looked; page = f.page; bytes = bytes; tells = tells }

-- further by as many, where a fault changes no page
nears_more : (did : Progress FileFault) (left left' more : ℕ) (pool pool' : PoolState) →
    (is_fault did ≡ true → pool'.images ≡ pool.images) → Nears did left left' pool pool' →
    NearsOrSpares did (left + more) (left' + more) pool pool'
nears_more (Moved kind) left left' more pool pool' same n = omega (arith, n)
nears_more (Blocked other) left left' more pool pool' same n = tt
nears_more (Fault fault) left left' more pool pool' same n = record { devices = n; images = same refl }
nears_more Ended left left' more pool pool' same n = tt

-- where a first try is not what it was, it moved
stays_else : {T : Type 0} (did : Progress FileFault) (t t' : BucketView) (old new : T) → Stays did t t' →
    (t' ≡ t → ⊥) → Stays did old new
stays_else (Moved kind) t t' old new still other = tt
stays_else (Blocked seat) t t' old new still other = absurd (other still)
stays_else (Fault fault) t t' old new still other = absurd (other still)
stays_else Ended t t' old new still other = absurd (other still)

-- the second try begins where the first has no step left
nears_to : (did : Progress FileFault) (left left' : ℕ) (pool pool' : PoolState) → left' ≡ 0 →
    NearsOrSpares did (left + SECOND_STEPS) (left' + SECOND_STEPS) pool pool' →
    NearsOrSpares did (left + SECOND_STEPS) SECOND_STEPS pool pool'
nears_to did left left' pool pool' none near =
    subst (λ (n : ℕ). NearsOrSpares did (left + SECOND_STEPS) (n + SECOND_STEPS) pool pool') none near

-- a second try that has just begun
abbrev pub second_of : RecordKey → ℕ → List ℕ → SecondTryView
second_of key k value = record {
  key = key;
  pseudokey = k;
  bytes = length value;
  place = Approaching (record { pseudokey = k; place = GrantDirectory });
}

module _ (hash : RecordKey → ℕ) (seat : ℕ) (key : RecordKey) (k : ℕ) (value : List ℕ) (pool pool' : PoolState)
    (locks locks' : Table) (did : Progress FileFault) where
  abbrev pub insert_at : InsertStage → InsertView
  insert_at stage = record { key = key; pseudokey = k; stage = stage }

  abbrev pub Inserts : (stage stage' : InsertStage) → Type 0
  Inserts stage stage' =
      MakesInsert hash seat value did (insert_at stage) (insert_at stage') pool pool' locks locks'

  -- a try at this key puts the value there
  abbrev put_at : Option Ask → RecordKey → Turn
  put_at ask own = record { ask = ask; write = Some (Put (pair own value)) }

  puts_at : (own : RecordKey) (ask : Option Ask) (facts : List Known) (change : Change) → own ≡ key →
      Step hash seat (put_at ask own) did facts pool pool' locks locks' change →
      Step hash seat (put_at ask key) did facts pool pool' locks locks' change
  puts_at own ask facts change same made =
      subst (λ (x : RecordKey). Step hash seat (put_at ask x) did facts pool pool' locks locks' change) same made

  module _ (t t' : BucketView) (said : Option Tried) (inv : IsFirstAt key k t said)
      (made : MakesBucket deeds.Put seat value did t t' pool pool' locks locks') where
    -- it is still a first try at this key, where what it came to fits
    pub first_stays : (said' : Option Tried) → (said' ≡ None → is_there (found_of t') ≡ false) →
        (said' ≡ None → has_ended t'.stage ≡ false) → IsFirstAt key k t' said'
    first_stays said' unseen going = record {
      key_is = made.aim.key ∙ inv.key_is;
      pseudokey_is = made.aim.pseudokey ∙ inv.pseudokey_is;
      kind_is = made.aim.kind ∙ inv.kind_is;
      unseen = unseen;
      going = going;
    }

    keyed_first : hash key ≡ k → hash t.search.key ≡ t.search.pseudokey
    keyed_first keyed = ap hash inv.key_is ∙ keyed ∙ sym inv.pseudokey_is

    nears_on : (change : Change) → Sees hash seat (bucket_facts deeds.Put t) pool locks change →
        NearsOrSpares did (bucket_left deeds.Put t (store_of pool.images) + SECOND_STEPS)
        (bucket_left deeds.Put t' (store_of pool'.images) + SECOND_STEPS) pool pool'
    nears_on change sees = nears_more did (bucket_left deeds.Put t (store_of pool.images))
        (bucket_left deeds.Put t' (store_of pool'.images)) SECOND_STEPS pool pool'
        (λ f. (fault_spares deeds.Put did pool pool' made.writes made.cause).spares f sees.honest)
        (made.progress hash change tt sees)

    puts : (change : Change) (before : List Lock) → HasNoFileLock before → Owns before key →
        row_of locks seat ≡ bucket_locks_in t.stage t.search before → hash key ≡ k →
        Sees hash seat (bucket_facts deeds.Put t) pool locks change → is_fault did ≡ false →
        Step hash seat (put_at (ask_in t.stage t.search) key) did (bucket_facts deeds.Put t') pool pool' locks locks'
        change
    puts change before bare owns here keyed sees fine =
        puts_at t.search.key (ask_in t.stage t.search) (bucket_facts deeds.Put t') change inv.key_is
        (made.step hash change before bare (keyed_first keyed, subst (Owns before) (sym inv.key_is) owns) here tt sees
        fine)

    goes_on : (said' : Option Tried) → Stays did (insert_at (First t said)) (insert_at (First t' said')) →
        ((change : Change) → hash key ≡ k →
        Sees hash seat (bucket_facts deeds.Put t) pool locks change → is_fault did ≡ false →
        SaysAt hash seat did (pair key value) said said' (world pool.images locks change)
        (world pool'.images locks' change)) → Inserts (First t said) (First t' said')
    goes_on said' stays says = record {
      writes = made.writes.writes;
      cause = made.cause;
      aim = record {
        key = refl;
        pseudokey = refl;
        ended = made.aim.ended;
        stays = stays;
        goes = tt;
        lent = λ lent. tt;
      };
      row = made.row;
      progress = λ change keyed sees. nears_on change sees;
      step = puts;
      answer = says;
    }

    -- it came to nothing, or had come to something before
    pub says_on : Inserts (First t said) (First t' said)
    says_on = goes_on said (Stays-of (λ (x : BucketView). insert_at (First x said)) did t t' made.aim.stays)
        (λ change keyed sees fine. says_same hash seat did (pair key value) said
        (world pool.images locks change) (world pool'.images locks' change))

    module _ (none : said ≡ None) where
      -- the record is put
      pub has_put : did ≡ Moved kinds.WriteRecord → Inserts (First t said) (First t' (Some IsPut))
      has_put wrote = goes_on (Some IsPut) (subst (λ (d : Progress FileFault). Stays d (insert_at (First t said))
          (insert_at (First t' (Some IsPut)))) (sym wrote) tt) (λ change keyed sees fine. subst (λ (x : Option Tried).
          SaysAt hash seat did (pair key value) x (Some IsPut) (world pool.images locks change)
          (world pool'.images locks' change)) (sym none) wrote)

      -- the key was seen
      pub has_seen : is_there (found_of t') ≡ true → Inserts (First t said) (First t' (Some IsThere))
      has_seen there = goes_on (Some IsThere) (stays_else did t t' _ _ made.aim.stays (λ same.
          true≢false (sym there ∙ ap (λ (x : BucketView). is_there (found_of x)) same ∙ inv.unseen none)))
          (λ change keyed sees fine. subst (λ (x : Option Tried).
          SaysAt hash seat did (pair key value) x (Some IsThere) (world pool.images locks change)
          (world pool'.images locks' change)) (sym none)
          (sees_key hash seat did key (found_of t) (found_of t') (world pool.images locks change) (inv.unseen none)
          there (subst (λ (x : RecordKey). FindsAt hash seat did x (found_of t) (found_of t')
          (world pool.images locks change)) inv.key_is
          (made.answer hash change (keyed_first keyed) sees fine).0)))

      -- it gave up, and the second try begins
      pub passes_on : has_ended t'.stage ≡ true → Inserts (First t said) (Second (second_of key k value))
      passes_on over =
          let is = (ended_is t'.stage over).1 in
          record {
            writes = made.writes.writes;
            cause = made.cause;
            aim = record {
              key = refl;
              pseudokey = refl;
              ended = made.aim.ended;
              stays = stays_else did t t' _ _ made.aim.stays (λ same.
                  true≢false (sym over ∙ ap (λ (x : BucketView). has_ended x.stage) same ∙ inv.going none));
              goes = tt;
              lent = λ lent. refl;
            };
            row = λ before bare here. made.row before bare here
                ∙ ap (λ (x : BucketStage). with_row locks seat (bucket_locks_in x t'.search before)) is;
            progress = λ change keyed sees. nears_to did (bucket_left deeds.Put t (store_of pool.images))
                (bucket_left deeds.Put t' (store_of pool'.images)) pool pool'
                (ap (λ (x : BucketStage). bucket_left_in deeds.Put x t'.search (store_of pool'.images)) is)
                (nears_on change sees);
            step = λ change before bare owns here keyed sees fine.
                subst (λ (x : BucketStage). Step hash seat (put_at (ask_in t.stage t.search) key) did
                (bucket_facts_in deeds.Put x t'.search) pool pool' locks locks' change) is
                (puts change before bare owns here keyed sees fine);
            answer = λ change keyed sees fine. subst (λ (x : Option Tried). SaysAt hash seat did (pair key value) x
                None (world pool.images locks change) (world pool'.images locks' change)) (sym none) tt;
          }

  -- the second try goes on
  pub second_goes_on : (t t' : SecondTryView) → IsSecondAt key k t →
      MakesStep hash seat value did t t' pool pool' locks locks' → Inserts (Second t) (Second t')
  second_goes_on t t' inv made =
      let keyed_second : hash key ≡ k → hash t.key ≡ t.pseudokey =
      λ keyed. ap hash inv.key_is ∙ keyed ∙ sym inv.pseudokey_is in
      record {
        writes = made.writes;
        cause = made.cause;
        aim = record {
          key = refl;
          pseudokey = refl;
          ended = made.aim.ended;
          stays = Stays-of (λ (x : SecondTryView). insert_at (Second x)) did t t' made.aim.stays;
          goes = made.aim;
          lent = λ lent. lent ∙ sym made.aim.bytes;
        };
        row = made.row;
        progress = λ change keyed sees. made.progress change (keyed_second keyed) sees;
        step = λ change before bare owns here keyed sees fine. puts_at t.key (second_turn t value).ask
            (second_facts t') change inv.key_is (made.step change before bare
            (subst (Owns before) (sym inv.key_is) owns) here (keyed_second keyed) sees fine);
        answer = λ change keyed sees fine. subst (λ (x : RecordKey). SaysAt hash seat did (pair x value)
            (said_at t.place) (said_at t'.place) (world pool.images locks change) (world pool'.images locks' change))
            inv.key_is (made.answer change (keyed_second keyed) sees fine);
      }
