-- A first try that goes straight to a page without a record of its key: each of its moves is one of the insert.
use Rattle.std.proofs.Common.{◌≡◌, sym, ap, ◌∙◌, subst, ℕ, length, Option, None}
use Rattle.std.specs.Option.{option_map}
use Rattle.bucket_page.specs.Records.{lookup}
use Rattle.hash_file.specs.Store.{records_at}
use Rattle.record_file.specs.stale_search.SearchRuns.{At, HasNoLock, at, standing}
use Rattle.record_file.specs.stale_search.declared.place.SearchPlace.{SearchPlace}
use Rattle.record_file.specs.step_rules.Runs.{MovesAlong}
use Rattle.record_file.specs.step_rules.declared.kind.Kind.{Kind}
use Rattle.record_file.specs.Words.{found_at}
use Rattle.record_file.specs.BucketAccesses.{bucket_locks}
use Rattle.record_file.specs.BucketRuns.{BucketHeads, BucketStep, bucket_at, bucket_way}
use Rattle.record_file.specs.declared.bucket_access.BucketStage.TheVariants.{Searching}
use Rattle.record_file.specs.declared.bucket_access.Deed.TheVariants as deeds
use Rattle.record_file.specs.declared.insert.InsertStage.TheVariants.{First}
use Rattle.record_file.specs.Inserts.{InsertView, IsFirstAt, is_there}
use Rattle.record_file.specs.OperationRuns.{GoesToPage, OperationHeads, OperationStep}
use Rattle.record_file.specs.OperationWords.{BucketView, Insert, Moved, PoolState, RecordKey, RecordOperation, Table, store_of}
use Rattle.record_file.proofs.AheadLemmas.{along_way}
use Rattle.record_file.proofs.InsertLemmas.{says_on}
use Rattle.record_file.proofs.KindLemmas.{insert_makes}

module _ (seat : ℕ) (key : RecordKey) (k : ℕ) where
  -- an insert in its first try, which has come to nothing yet
  abbrev trying : BucketView → InsertView
  trying t = record { key = key; pseudokey = k; stage = First t None }

  abbrev insert_of : At BucketView → At RecordOperation
  insert_of s = at (Insert (trying s.machine)) s.pool s.locks

  move_of_try : (kind : Kind) (old new : At BucketView) → IsFirstAt key k old.machine None →
      BucketStep deeds.Put seat (Moved kind) old new → OperationStep seat (Moved kind) (insert_of old) (insert_of new)
  move_of_try kind old new inv moves hash bytes =
      insert_makes hash seat bytes (Moved kind) old.pool new.pool old.locks new.locks (trying old.machine)
      (trying new.machine)
      (says_on hash seat key k bytes old.pool new.pool old.locks new.locks (Moved kind) old.machine new.machine None inv
      (moves bytes))

  module _ (t : BucketView) (inv : IsFirstAt key k t None) where
    -- on its way no page has answered
    still_first : (place : SearchPlace) → found_at place ≡ None → IsFirstAt key k (bucket_at place t) None
    still_first place none = record {
      key_is = inv.key_is;
      pseudokey_is = inv.pseudokey_is;
      kind_is = inv.kind_is;
      unseen = λ nothing. ap is_there none;
      going = inv.going;
    }

    insert_goes : (pool : PoolState) (locks : Table) (page : ℕ) → t.stage ≡ Searching → HasNoLock (bucket_locks t) →
        MovesAlong (BucketStep deeds.Put seat) (at t pool locks) (bucket_way seat page None (at t pool locks)) →
        GoesToPage seat page None (Insert (trying t)) pool locks
    insert_goes pool locks page searches none moves = record {
      bare = none;
      moves = along_way (BucketStep deeds.Put seat) (OperationStep seat) insert_of (at t pool locks)
          (λ (place : SearchPlace). standing bucket_locks seat pool locks (bucket_at place t))
          (store_of pool.images).header.depth page None
          (λ kind new made. move_of_try kind (at t pool locks) new inv made)
          (λ place unseen kind new made. move_of_try kind
          (standing bucket_locks seat pool locks (bucket_at place t)) new (still_first place unseen) made)
          moves;
    }

    pub insert_heads : (pool : PoolState) (locks : Table) (page : ℕ) → t.stage ≡ Searching →
        HasNoLock (bucket_locks t) → BucketHeads seat page t pool locks →
        OperationHeads seat page (Insert (trying t)) pool locks
    insert_heads pool locks page searches none heads = λ found stands lacks.
        let here : None ≡ option_map length (lookup t.search.key (records_at (store_of pool.images) page)) =
        sym lacks ∙ stands ∙ ap (λ (of : RecordKey). option_map length
        (lookup of (records_at (store_of pool.images) page)))
        (sym inv.key_is) in
        subst (λ (f : Option ℕ). GoesToPage seat page f (Insert (trying t)) pool locks) (sym lacks)
        (insert_goes pool locks page searches none (heads deeds.Put None inv.kind_is here))
