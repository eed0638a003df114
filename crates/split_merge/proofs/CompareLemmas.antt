-- The steps that compare the two buckets.
use Rattle.std.proofs.Common.{◌≡◌, ◌≢◌, ◌⊎◌, refl, sym, ap, ◌∙◌, ℕ, ◌+◌, ◌<◌, ◌≤◌, true, false, List, Some, arith, inl, inr}
use Rattle.std.proofs.lemmas.Bool.{cases_lt}
use Rattle.std.specs.Prelude.{IsTrue}
use Rattle.std.specs.List.{Contains}
use Rattle.stale_search.specs.file_pages.Fault.{FileHasCause, IsDevicesFault}
use Rattle.page_locks.specs.Locks.{kind_of}
use Rattle.page_locks.specs.Writers.{may_write}
use Rattle.stale_search.specs.file_pages.declared.fault.FileFault.{FileFault}
use Rattle.stale_search.specs.file_pages.declared.sight.BucketSight.{BucketSight}
use Rattle.stale_search.specs.file_pages.Files.{IsFilePool}
use Rattle.stale_search.specs.file_pages.Reads.{OnlyReads, IsSeen}
use Rattle.hash_file.specs.Store.{page_at, range_at}
use Rattle.hash_file.specs.Chain.{chain}
use Rattle.step_rules.specs.declared.kind.Kind.TheVariants as kinds
use Rattle.step_rules.specs.Structure.{HasShape}
use Rattle.step_rules.specs.Pages.{used_on}
use Rattle.step_rules.specs.Known.{AllKnown}
use Rattle.step_rules.proofs.LockLemmas.{IsHeld-some}
use Rattle.split_merge.specs.MergeWords.{RecordKey, lower_half_of, upper_half_of, parent_of, MERGED_BYTES, Lock, Selective, Page, Table, row_of, PoolState, store_of, Store, Change, Moved, Fault, ApproachView, HasNoFileLock, EndsRow, Known, Sees, world, Seen, Buddies, MergePlace, LookLeft, LookRight, WriteLeft, GiveUpRight}
use Rattle.split_merge.specs.Places.{MergeView, AreBuddies, locks_at, on_both, is_done}
use Rattle.split_merge.specs.Facts.{facts_at, buddy_facts}
use Rattle.split_merge.specs.Steps.{MakesStep}
use Rattle.split_merge.proofs.MergeRowLemmas.{left_held, right_held}
use Rattle.split_merge.proofs.MoveLemmas.{view_at, read_only, read, faulted}
use Rattle.split_merge.proofs.BuddyFacts.{IsLivePage, live_page, seen_shape, seen_used, seen_depth, both_on, left_half, right_half, differ, are_large}

module _ (seat : ℕ) (key : RecordKey) (a : ApproachView) (pool pool' : PoolState) (locks : Table) (b : Buddies)
    (are : AreBuddies b) where
  abbrev at_place : MergePlace → MergeView
  at_place place = view_at seat key a pool locks place

  abbrev store : Store
  store = store_of pool.images

  module _ (before : List Lock) (bare : HasNoFileLock before)
      (row : row_of locks seat ≡ on_both b.left b.right before) where
    left_in : kind_of (row_of locks seat) (Page b.left) ≡ Some Selective
    left_in = ap (λ (xs : List Lock). kind_of xs (Page b.left)) row ∙ left_held before bare b.left b.right are.apart

    right_in : kind_of (row_of locks seat) (Page b.right) ≡ Some Selective
    right_in = ap (λ (xs : List Lock). kind_of xs (Page b.right)) row ∙ right_held before bare b.left b.right are.apart

  -- a page that could not be read
  pub side_not_read : (place : MergePlace) (page : ℕ) (fault : FileFault) → OnlyReads false pool pool' →
      FileHasCause pool pool' fault →
      (IsTrue pool.honest → IsFilePool pool → IsLivePage pool.images page → IsDevicesFault pool pool' fault) →
      ((hash : RecordKey → ℕ) (change : Change) → Sees hash seat (facts_at place a) pool locks change →
      Contains (chain store) page) → is_done place ≡ false →
      MakesStep seat (Fault fault) (at_place place) (at_place place) pool pool' locks locks
  side_not_read place page fault reads cause risen on going = faulted seat key a pool locks place fault pool'
      (read_only false pool pool' reads) reads.images cause going
      (λ hash change sees. risen sees.honest sees.file
      (live_page hash pool.images locks change page sees.sound (on hash change sees)))

  -- both stand on the chain, where this is known of them
  pub on_chain : (facts : List Known) (hash : RecordKey → ℕ) (change : Change) →
      AllKnown seat (world pool.images locks change) (buddy_facts b a.pseudokey facts) →
      Contains (chain store) b.left × Contains (chain store) b.right
  on_chain facts hash change known = both_on hash seat (world pool.images locks change) b a.pseudokey are
      known.1.1.0.1 known.1.1.1.0.1 known.1.1.1.1.0.1

  module _ (sight : BucketSight) (reads : OnlyReads true pool pool') where
    -- ---- the left page
    module _ (ok : IsTrue pool.honest → IsSeen sight (page_at store b.left))
        (r : EndsRow (locks_at (LookLeft b) a) 3 (row_of locks seat)) where
      pub left_differs : sight.depth ≢ b.range.depth →
          MakesStep seat (Moved kinds.Look) (at_place (LookLeft b))
          (at_place (GiveUpRight b.left b.right)) pool pool' locks locks
      left_differs other = read seat key a pool locks (LookLeft b) (GiveUpRight b.left b.right) kinds.Look pool' reads
          refl (λ before. refl)
          (λ hash change sees. (sees.known.0, tt))
          (λ before bare row hash change. record {
            page = b.left;
            reads = record {
              had = IsHeld-some locks seat (Page b.left) Selective (left_in before bare row);
              is = refl;
            };
          })
          (λ s s'. omega arith)
          (λ hash change sees keyed given up. differ hash seat (world pool.images locks change) b a.pseudokey are
          sees.known.1.1.0.1 sees.known.1.1.1.0.1 sees.known.1.1.1.1.0.1 key keyed
          (ap may_write (left_in r.before r.bare r.is)) (ap may_write (right_in r.before r.bare r.is))
          (λ same _. other (sym (seen_depth store b.left sight (ok sees.honest)) ∙ same)))

      pub left_seen : sight.depth ≡ b.range.depth →
          MakesStep seat (Moved kinds.Look) (at_place (LookLeft b))
          (at_place (LookRight b (record { next = sight.next; used = sight.used }))) pool pool' locks locks
      left_seen same = read seat key a pool locks (LookLeft b)
          (LookRight b (record { next = sight.next; used = sight.used })) kinds.Look pool' reads
          refl (λ before. refl)
          (λ hash change sees.
          let known = sees.known in
          let seen = seen_shape store b.left sight (ok sees.honest) in
          let shape : HasShape store b.left (lower_half_of (parent_of b.range)) sight.next = record {
            is_bucket = seen.is_bucket;
            range_is = left_half hash seat (world pool.images locks change) b a.pseudokey are
                known.1.1.0.1 known.1.1.1.0.1 known.1.1.1.1.0.1
                (seen_depth store b.left sight (ok sees.honest) ∙ same);
            next_is = seen.next_is;
          } in (
            known.0,
            (
              known.1.0,
              (
                known.1.1.0,
                (
                  known.1.1.1.0,
                  (
                    known.1.1.1.1.0,
                    (
                      (known.0.0, shape),
                      (
                        (
                          ap may_write (left_in r.before r.bare r.is),
                          seen_used store b.left sight
                              (ok sees.honest),
                        ),
                        tt,
                      ),
                    ),
                  ),
                ),
              ),
            ),
          ))
          (λ before bare row hash change. record {
            page = b.left;
            reads = record {
              had = IsHeld-some locks seat (Page b.left) Selective (left_in before bare row);
              is = refl;
            };
          })
          (λ s s'. omega arith)
          (λ hash change sees keyed given up. absurd cc)

    -- ---- the right page
    module _ (left : Seen) (ok : IsTrue pool.honest → IsSeen sight (page_at store b.right))
        (r : EndsRow (locks_at (LookRight b left) a) 3 (row_of locks seat)) where
      -- it is given up
      gives_up : ((hash : RecordKey → ℕ) (change : Change) →
          Sees hash seat (facts_at (LookRight b left) a) pool locks change →
          ((range_at store b.left).depth ≡ b.range.depth → (range_at store b.right).depth ≡ b.range.depth → ⊥)
          ⊎ (MERGED_BYTES < used_on store b.left + used_on store b.right)) →
          MakesStep seat (Moved kinds.Look) (at_place (LookRight b left))
          (at_place (GiveUpRight b.left b.right)) pool pool' locks locks
      gives_up why = read seat key a pool locks (LookRight b left) (GiveUpRight b.left b.right) kinds.Look pool' reads
          refl (λ before. refl)
          (λ hash change sees. (sees.known.0, tt))
          (λ before bare row hash change. record {
            page = b.right;
            reads = record {
              had = IsHeld-some locks seat (Page b.right) Selective (right_in before bare row);
              is = refl;
            };
          })
          (λ s s'. omega arith)
          (λ hash change sees keyed given up. elim (why hash change sees) [
            | inl other ↦ differ hash seat (world pool.images locks change) b a.pseudokey are
                sees.known.1.1.0.1 sees.known.1.1.1.0.1 sees.known.1.1.1.1.0.1 key keyed
                (ap may_write (left_in r.before r.bare r.is)) (ap may_write (right_in r.before r.bare r.is)) other
            | inr many ↦ are_large hash seat (world pool.images locks change) b a.pseudokey are
                sees.known.1.1.0.1 sees.known.1.1.1.0.1 sees.known.1.1.1.1.0.1 key keyed
                (ap may_write (left_in r.before r.bare r.is)) (ap may_write (right_in r.before r.bare r.is)) many
          ])

      pub right_differs : sight.depth ≢ b.range.depth →
          MakesStep seat (Moved kinds.Look) (at_place (LookRight b left))
          (at_place (GiveUpRight b.left b.right)) pool pool' locks locks
      right_differs other = gives_up (λ hash change sees.
          inl (λ _ same. other (sym (seen_depth store b.right sight (ok sees.honest)) ∙ same)))

      pub too_many : (left.used + sight.used ≤ MERGED_BYTES → ⊥) →
          MakesStep seat (Moved kinds.Look) (at_place (LookRight b left))
          (at_place (GiveUpRight b.left b.right)) pool pool' locks locks
      too_many many = gives_up (λ hash change sees. inr (
          let uses_left : used_on store b.left ≡ left.used = sees.known.1.1.1.1.1.1.0.1 in
          let uses_right : used_on store b.right ≡ sight.used = seen_used store b.right sight (ok sees.honest) in
          rw (uses_left, uses_right) (past many)))
        where
          past : (left.used + sight.used ≤ MERGED_BYTES → ⊥) → MERGED_BYTES < left.used + sight.used
          past many = elim (cases_lt MERGED_BYTES (left.used + sight.used)) [
            | inl more ↦ more
            | inr few ↦ absurd (many few)
          ]

      pub right_seen : sight.depth ≡ b.range.depth →
          MakesStep seat (Moved kinds.Look) (at_place (LookRight b left))
          (at_place (WriteLeft b left (record { next = sight.next; used = sight.used }))) pool pool' locks locks
      right_seen same = read seat key a pool locks (LookRight b left)
          (WriteLeft b left (record { next = sight.next; used = sight.used })) kinds.Look pool' reads
          refl (λ before. refl)
          (λ hash change sees.
          let known = sees.known in
          let seen = seen_shape store b.right sight (ok sees.honest) in
          let shape : HasShape store b.right (upper_half_of (parent_of b.range)) sight.next = record {
            is_bucket = seen.is_bucket;
            range_is = right_half hash seat (world pool.images locks change) b a.pseudokey are
                known.1.1.0.1 known.1.1.1.0.1 known.1.1.1.1.0.1
                (seen_depth store b.right sight (ok sees.honest) ∙ same);
            next_is = seen.next_is;
          } in (
            known.0,
            (
              known.1.0,
              (
                known.1.1.0,
                (
                  known.1.1.1.0,
                  (
                    known.1.1.1.1.0,
                    (
                      known.1.1.1.1.1.0,
                      (
                        known.1.1.1.1.1.1.0,
                        (
                          (known.0.0, shape),
                          (
                            (
                              ap may_write (right_in r.before r.bare r.is),
                              seen_used store b.right sight
                                  (ok sees.honest),
                            ),
                            tt,
                          ),
                        ),
                      ),
                    ),
                  ),
                ),
              ),
            ),
          ))
          (λ before bare row hash change. record {
            page = b.right;
            reads = record {
              had = IsHeld-some locks seat (Page b.right) Selective (right_in before bare row);
              is = refl;
            };
          })
          (λ s s'. omega arith)
          (λ hash change sees keyed given up. absurd cc)
