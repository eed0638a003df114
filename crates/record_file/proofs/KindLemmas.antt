-- What the machine of each kind promises of its step is what an operation does.
use Rattle.std.proofs.Common.{◌≡◌, refl, sym, ap, ◌∙◌, ℕ, true, false, List, inl}
use Rattle.std.proofs.lemmas.Bool.{true≢false}
use Rattle.record_file.proofs.OperationNames.{FileFault, MakesOperation, Stays-of}
use Rattle.record_file.specs.OperationWords.{RecordKey, PoolState, Table, Lock, Change, row_of, store_of, WritesOrSpares, Progress, Moved, Blocked, Fault, Ended, WriteRecord, is_fault, HasNoFileLock, Nears, Sees, Step, FollowsRow, NearsOrSpares, world, Owns, FindsAt, TurnsAwayAt, TurnsAwayIn}
use Rattle.record_file.specs.OperationWords.{BucketView, MakesBucket, bucket_left, found_of}
use Rattle.record_file.specs.declared.bucket_access.Deed.TheVariants as deeds
use Rattle.record_file.proofs.StepLemmas.{leaves_search}
use Rattle.record_file.specs.OperationWords.{DeleteView, KeepsDelete, delete_facts, delete_left, delete_locks, delete_turn}
use Rattle.record_file.specs.OperationWords.{InsertView, MakesInsert, RecordOperation, Find, Insert, Replace, Delete}

-- a fault of the device, by which no page has changed
nears_or_spares : (did : Progress FileFault) (left left' : ℕ) (pool pool' : PoolState) →
    (is_fault did ≡ true → pool'.images ≡ pool.images) → Nears did left left' pool pool' →
    NearsOrSpares did left left' pool pool'
nears_or_spares (Moved kind) left left' pool pool' same near = near
nears_or_spares (Blocked other) left left' pool pool' same near = tt
nears_or_spares (Fault fault) left left' pool pool' same near = record { devices = near; images = same refl }
nears_or_spares Ended left left' pool pool' same near = tt

fault_writes_none : (did : Progress FileFault) → is_fault did ≡ true → did ≡ Moved WriteRecord → ⊥
fault_writes_none did failed wrote = true≢false (sym failed ∙ ap is_fault wrote)

module _ (hash : RecordKey → ℕ) (seat : ℕ) (bytes : List ℕ) (did : Progress FileFault) (pool pool' : PoolState)
    (locks locks' : Table) where
  abbrev Makes : (old new : RecordOperation) → Type 0
  Makes old new = MakesOperation hash seat bytes did old new pool pool' locks locks'

  pub find_makes : (f f' : BucketView) → MakesBucket deeds.Find seat bytes did f f' pool pool' locks locks' →
      Makes (Find f) (Find f')
  find_makes f f' made = record {
    writes = record { writes = made.writes.writes; spares = made.writes.spares (λ may. may) };
    cause = made.cause;
    aim = record {
      key = made.aim.key;
      pseudokey = made.aim.pseudokey;
      ended = made.aim.ended;
      stays = Stays-of (λ (x : BucketView). Find x) did f f' made.aim.stays;
      lent = λ lent. tt;
      leaves = tt;
      kind = made.aim;
    };
    row = made.row;
    progress = λ change keyed suits sees. nears_or_spares did (bucket_left deeds.Find f (store_of pool.images))
        (bucket_left deeds.Find f' (store_of pool'.images)) pool pool'
        (λ failed. made.writes.spares (λ may. may) sees.honest) (made.progress hash change tt sees);
    step = λ change before bare owns here keyed suits sees fine.
        made.step hash change before bare tt here tt sees fine;
    answer = λ change keyed sees fine.
        record { found = (made.answer hash change keyed sees fine).0; tried = tt; turns_away = tt };
  }

  pub insert_makes : (i i' : InsertView) → MakesInsert hash seat bytes did i i' pool pool' locks locks' →
      Makes (Insert i) (Insert i')
  insert_makes i i' made = record {
    writes = record { writes = made.writes; spares = λ honest. tt };
    cause = made.cause;
    aim = record {
      key = made.aim.key;
      pseudokey = made.aim.pseudokey;
      ended = made.aim.ended;
      stays = Stays-of (λ (x : InsertView). Insert x) did i i' made.aim.stays;
      lent = made.aim.lent;
      leaves = tt;
      kind = made.aim;
    };
    row = made.row;
    progress = λ change keyed suits sees. made.progress change keyed sees;
    step = λ change before bare owns here keyed suits sees fine.
        made.step change before bare owns here keyed sees fine;
    answer = λ change keyed sees fine.
        record { found = inl refl; tried = made.answer change keyed sees fine; turns_away = tt };
  }

  pub replace_makes : (r r' : BucketView) → MakesBucket deeds.Replace seat bytes did r r' pool pool' locks locks' →
      Makes (Replace r) (Replace r')
  replace_makes r r' made = record {
    writes = record { writes = made.writes.writes; spares = λ honest other. made.writes.spares other honest };
    cause = made.cause;
    aim = record {
      key = made.aim.key;
      pseudokey = made.aim.pseudokey;
      ended = made.aim.ended;
      stays = Stays-of (λ (x : BucketView). Replace x) did r r' made.aim.stays;
      lent = λ lent. made.aim.kind ∙ lent;
      leaves = leaves_search deeds.Replace did (found_of r) r.stage r'.stage (λ due gave. gave.1) made.aim.passes;
      kind = made.aim;
    };
    row = made.row;
    progress = λ change keyed suits sees. nears_or_spares did (bucket_left deeds.Replace r (store_of pool.images))
        (bucket_left deeds.Replace r' (store_of pool'.images)) pool pool'
        (λ failed. made.writes.spares (fault_writes_none did failed) sees.honest)
        (made.progress hash change (keyed, suits) sees);
    step = λ change before bare owns here keyed suits sees fine.
        made.step hash change before bare (keyed, owns) here (keyed, suits) sees fine;
    answer = λ change keyed sees fine.
        record { found = (made.answer hash change keyed sees fine).0; tried = tt; turns_away = tt };
  }

  pub delete_makes : (d d' : DeleteView) → WritesOrSpares did pool pool' → KeepsDelete did d d' →
      FollowsRow seat (delete_locks d) (delete_locks d') locks locks' →
      ((change : Change) → Sees hash seat (delete_facts d) pool locks change →
      Nears did (delete_left d (store_of pool.images)) (delete_left d' (store_of pool'.images)) pool pool') →
      ((change : Change) (before : List Lock) → HasNoFileLock before → Owns before d.removal.search.key →
      row_of locks seat ≡ delete_locks d before → hash d.removal.search.key ≡ d.removal.search.pseudokey →
      Sees hash seat (delete_facts d) pool locks change → is_fault did ≡ false →
      Step hash seat (delete_turn d) did (delete_facts d') pool pool' locks locks' change) →
      ((change : Change) → hash d.removal.search.key ≡ d.removal.search.pseudokey →
      Sees hash seat (delete_facts d) pool locks change → is_fault did ≡ false →
      FindsAt hash seat did d.removal.search.key (found_of d.removal) (found_of d'.removal)
      (world pool.images locks change)
      × TurnsAwayIn hash d.removal.search.key seat d.removal.stage d'.removal.stage
      (world pool'.images locks' change)
      × TurnsAwayAt hash seat d.merge d'.merge (world pool'.images locks' change)) →
      Makes (Delete d) (Delete d')
  delete_makes d d' writes aim row progress step answer = record {
    writes = record { writes = writes.writes; spares = λ honest failed. writes.spares failed honest };
    cause = writes.cause;
    aim = record {
      key = aim.key;
      pseudokey = aim.pseudokey;
      ended = aim.ended;
      stays = Stays-of (λ (x : DeleteView). Delete x) did d d' aim.stays;
      lent = λ lent. tt;
      leaves = aim.leaves;
      kind = aim;
    };
    row = row;
    progress = λ change keyed suits sees. nears_or_spares did (delete_left d (store_of pool.images))
        (delete_left d' (store_of pool'.images)) pool pool' (λ failed. writes.spares failed sees.honest)
        (progress change sees);
    step = λ change before bare owns here keyed suits sees fine. step change before bare owns here keyed sees fine;
    answer = λ change keyed sees fine.
        let told = answer change keyed sees fine in
        record { found = told.0; tried = tt; turns_away = (told.1, told.2) };
  }
