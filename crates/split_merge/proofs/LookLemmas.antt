-- The steps that read the two buckets.
use Rattle.std.proofs.Common.{◌≡◌, refl, sym, ap, ◌∙◌, subst, ℕ, ◌%◌, ◌^◌, ◌≤◌, true, false, List, [], Some, arith}
use Rattle.split_merge.proofs.MergeNames.{AllKnown, ApproachPlace, At, BucketSight, FileFault, FileHasCause, HasShape, IsBucketOf, IsDevicesFault, IsFilePool, IsHeld-some, IsKnown, IsSeen, IsSoundWorld, IsTrue, IsWhole, OnlyReads, approach_facts_at, approach_locks_at, buddy_is_other_half, chain_valid, entry_at, entry_is_bucket, kind_of, lower_buddies, may_write, page_at}
use Rattle.stale_search.proofs.CauseLemmas.{no_transfer}
use Rattle.stale_search.specs.file_pages.declared.fault.FileFault.TheVariants.{Failed}
use Rattle.step_rules.specs.declared.kind.Kind.TheVariants as kinds
use Rattle.split_merge.specs.MergeWords.{RecordKey, Range, IsRange, is_lower, buddy_of, lower_half_of, parent_of, Lock, Selective, Directory, Page, Table, row_of, PoolState, store_of, Change, Moved, Fault, Built, BucketOf, ApproachView, HasNoFileLock, EndsRow, world, Own, MergePlace, Approaching, ReadBuddy, GrantRight, GiveBack, GiveUp}
use Rattle.split_merge.specs.Places.{MergeView, IsOwn, HasMergeRow, beside, locks_at, on_one}
use Rattle.split_merge.specs.Facts.{facts_at, quiet_facts}
use Rattle.split_merge.specs.Steps.{MakesStep}
use Rattle.split_merge.proofs.MergeRowLemmas.{page_held, directory_beside}
use Rattle.split_merge.proofs.MoveLemmas.{view_at, read_only, read, faulted}
use Rattle.split_merge.proofs.BuddyFacts.{IsLivePage, live_page, seen_range, seen_shape, seen_used, seen_depth}

-- the row at a place
pub row_at : (v : MergeView) (place : MergePlace) (row : List Lock) → v.place ≡ place → HasMergeRow v row →
    EndsRow (locks_at place v.approach) 3 row
row_at v place row is r = subst (λ (p : MergePlace). EndsRow (locks_at p v.approach) 3 row) is r

module _ (seat : ℕ) (key : RecordKey) (a : ApproachView) (pool pool' : PoolState) (locks : Table) where
  abbrev at_place : MergePlace → MergeView
  at_place place = view_at seat key a pool locks place

  -- ---- the bucket of the key
  module _ (depth page : ℕ) (reached : a.place ≡ At depth page) where
    -- what is known there
    at_bucket : (change : Change) → AllKnown seat (world pool.images locks change) (facts_at Approaching a) →
        AllKnown seat (world pool.images locks change) (quiet_facts depth page a.pseudokey [])
    at_bucket change known = subst (λ (p : ApproachPlace).
        AllKnown seat (world pool.images locks change) (approach_facts_at p a.pseudokey)) reached known

    on_bucket : (before : List Lock) → on_one page before ≡ locks_at Approaching a before
    on_bucket before = ap (λ (p : ApproachPlace). approach_locks_at p before) (sym reached)

    held_there : (before : List Lock) → HasNoFileLock before → row_of locks seat ≡ locks_at Approaching a before →
        kind_of (row_of locks seat) (Page page) ≡ Some Selective
    held_there before bare row = ap (λ (xs : List Lock). kind_of xs (Page page)) (row ∙ sym (on_bucket before))
        ∙ page_held before bare Selective Selective page

    pub own_not_read : (fault : FileFault) → OnlyReads false pool pool' → FileHasCause pool pool' fault →
        (IsTrue pool.honest → IsFilePool pool → IsLivePage pool.images page → IsDevicesFault pool pool' fault) →
        MakesStep seat (Fault fault) (at_place Approaching) (at_place Approaching) pool pool' locks locks
    own_not_read fault reads cause risen = faulted seat key a pool locks Approaching fault pool'
        (read_only false pool pool' reads) reads.images cause refl
        (λ hash change sees. risen sees.honest sees.file (live_page hash pool.images locks change page sees.sound
        (at_bucket change sees.known).1.1.0.1.0))

    module _ (sight : BucketSight) (reads : OnlyReads true pool pool')
        (ok : IsTrue pool.honest → IsSeen sight (page_at (store_of pool.images) page)) where
      pub own_not_valid : (IsRange (seen_range sight) → ⊥) →
          MakesStep seat (Fault Failed) (at_place Approaching) (at_place Approaching) pool pool' locks locks
      own_not_valid wrong = faulted seat key a pool locks Approaching Failed pool'
          (record {
            ready = reads.ready;
            honest = reads.honest;
            later = reads.later;
            stored = reads.stored;
            as_many = reads.as_many;
            file = λ honest fine. absurd cc;
          })
          reads.images (no_transfer pool pool') refl
          (λ hash change sees. absurd (wrong (subst IsRange
          (seen_shape (store_of pool.images) page sight (ok sees.honest)).range_is
          (chain_valid (store_of pool.images) _ page sees.sound.file.chained
          (at_bucket change sees.known).1.1.0.1.0))))

      pub own_is_whole : sight.depth ≡ 0 →
          MakesStep seat (Moved kinds.Look) (at_place Approaching) (at_place (GiveUp page)) pool pool'
          locks locks
      own_is_whole none = read seat key a pool locks Approaching (GiveUp page) kinds.Look pool' reads refl on_bucket
          (λ hash change sees. ((at_bucket change sees.known).0, tt))
          (λ before bare row hash change. record {
            page = page;
            reads = record {
              had = IsHeld-some locks seat (Page page) Selective (held_there before bare row);
              is = refl;
            };
          })
          (λ s s'. omega arith)
          (λ hash change sees keyed given up. IsWhole page
          (subst (λ (x : ℕ). IsBucketOf (store_of pool.images) x page) (sym keyed)
          (at_bucket change sees.known).1.1.0.1)
          (seen_depth (store_of pool.images) page sight (ok sees.honest) ∙ none))

      abbrev own : Own
      own = record {
        depth = depth;
        page = page;
        range = seen_range sight;
        seen = record { next = sight.next; used = sight.used };
      }

      pub own_seen : HasMergeRow (at_place Approaching) (row_of locks seat) →
          MakesStep seat (Moved kinds.Look) (at_place Approaching) (at_place (ReadBuddy own)) pool pool'
          locks locks
      own_seen r = read seat key a pool locks Approaching (ReadBuddy own) kinds.Look pool' reads refl on_bucket
          (λ hash change sees.
          let known = at_bucket change sees.known in
          let seen = ok sees.honest in (
            known.0,
            (
              known.1.0,
              (
                known.1.1.0,
                (
                  (known.0.0, seen_shape (store_of pool.images) page sight seen),
                  (
                    (
                      ap may_write (held_there r.before r.bare r.is),
                      seen_used (store_of pool.images) page sight
                          seen,
                    ),
                    tt,
                  ),
                ),
              ),
            ),
          ))
          (λ before bare row hash change. record {
            page = page;
            reads = record {
              had = IsHeld-some locks seat (Page page) Selective (held_there before bare row);
              is = refl;
            };
          })
          (λ s s'. omega arith)
          (λ hash change sees keyed given up. absurd cc)

  -- ---- the buddy's entry
  module _ (o : Own) (is : IsOwn o) where
    in_it : (before : List Lock) → HasNoFileLock before → row_of locks seat ≡ on_one o.page before →
        kind_of (row_of locks seat) Directory ≡ Some Selective
    in_it before bare row = ap (λ (xs : List Lock). kind_of xs Directory) row
        ∙ directory_beside before bare Selective Selective o.page

    pub buddy_not_read : (fault : FileFault) → OnlyReads false pool pool' → FileHasCause pool pool' fault →
        (IsTrue pool.honest → IsFilePool pool → IsDevicesFault pool pool' fault) →
        MakesStep seat (Fault fault) (at_place (ReadBuddy o)) (at_place (ReadBuddy o)) pool pool' locks locks
    buddy_not_read fault reads cause risen = faulted seat key a pool locks (ReadBuddy o) fault pool'
        (read_only false pool pool' reads) reads.images cause refl (λ hash change sees. risen sees.honest sees.file)

    module _ (buddy : ℕ) (reads : OnlyReads true pool pool')
        (ok : IsTrue pool.honest →
        buddy ≡ entry_at (store_of pool.images) ((buddy_of o.range).pattern % 2 ^ o.depth)) where
      -- it is the bucket of the turned pattern
      module _ (hash : RecordKey → ℕ) (change : Change) (honest : IsTrue pool.honest)
          (sound : IsSoundWorld hash (world pool.images locks change))
          (known : AllKnown seat (world pool.images locks change) (facts_at (ReadBuddy o) a)) where
        found : IsKnown seat (world pool.images locks change) (Built (BucketOf (buddy_of o.range).pattern buddy))
        found = subst (λ (n : ℕ). IsKnown seat (world pool.images locks change)
            (Built (BucketOf (buddy_of o.range).pattern n))) (sym (ok honest))
            (entry_is_bucket hash seat (world pool.images locks change) o.depth (buddy_of o.range).pattern sound
            known.0 known.1.0)

        not_itself : buddy ≡ o.page → ⊥
        not_itself same = (buddy_is_other_half hash (world pool.images locks change) o.page buddy sound
            known.1.1.0.1.0
            (subst (λ (r : Range). 1 ≤ r.depth) (sym known.1.1.1.0.1.range_is) is.range.deep)
            (subst (λ (r : Range). IsBucketOf (store_of pool.images) (buddy_of r).pattern buddy)
            (sym known.1.1.1.0.1.range_is) found.1)).apart same

      pub buddy_is_itself : buddy ≡ o.page →
          MakesStep seat (Fault Failed) (at_place (ReadBuddy o)) (at_place (ReadBuddy o)) pool pool' locks locks
      buddy_is_itself same = faulted seat key a pool locks (ReadBuddy o) Failed pool'
          (record {
            ready = reads.ready;
            honest = reads.honest;
            later = reads.later;
            stored = reads.stored;
            as_many = reads.as_many;
            file = λ honest fine. absurd cc;
          })
          reads.images (no_transfer pool pool') refl
          (λ hash change sees. absurd (not_itself hash change sees.honest sees.sound sees.known same))

      pub own_is_left : is_lower o.range ≡ true →
          MakesStep seat (Moved kinds.ReadEntry) (at_place (ReadBuddy o))
          (at_place (GrantRight (beside o o.page buddy) o.seen)) pool pool' locks locks
      own_is_left low = read seat key a pool locks (ReadBuddy o) (GrantRight (beside o o.page buddy) o.seen)
          kinds.ReadEntry pool' reads refl (λ before. refl)
          (λ hash change sees.
          let known = sees.known in
          let shape : HasShape (store_of pool.images) o.page (lower_half_of (parent_of o.range)) o.seen.next = record {
            is_bucket = known.1.1.1.0.1.is_bucket;
            range_is = known.1.1.1.0.1.range_is ∙ (lower_buddies o.range is.range.deep low).lower;
            next_is = known.1.1.1.0.1.next_is;
          } in
          rw low (
            known.0,
            (
              known.1.0,
              (
                known.1.1.0,
                (
                  known.1.1.1.0,
                  (
                    (rw low at (found hash change sees.honest sees.sound known)),
                    ((known.0.0, shape), (known.1.1.1.1.0, tt)),
                  ),
                ),
              ),
            ),
          ))
          (λ before bare row hash change. record {
            had = IsHeld-some locks seat Directory Selective (in_it before bare row);
            is = refl;
          })
          (λ s s'. omega arith)
          (λ hash change sees keyed given up. absurd cc)

      pub own_is_right : is_lower o.range ≡ false →
          MakesStep seat (Moved kinds.ReadEntry) (at_place (ReadBuddy o))
          (at_place (GiveBack (beside o buddy o.page))) pool pool' locks locks
      own_is_right high = read seat key a pool locks (ReadBuddy o) (GiveBack (beside o buddy o.page))
          kinds.ReadEntry pool' reads refl (λ before. refl)
          (λ hash change sees.
          let known = sees.known in
          rw high (
            known.0,
            (
              known.1.0,
              (
                known.1.1.0,
                (
                  known.1.1.1.0,
                  ((rw high at (found hash change sees.honest sees.sound known)), tt),
                ),
              ),
            ),
          ))
          (λ before bare row hash change. record {
            had = IsHeld-some locks seat Directory Selective (in_it before bare row);
            is = refl;
          })
          (λ s s'. omega arith)
          (λ hash change sees keyed given up. absurd cc)
