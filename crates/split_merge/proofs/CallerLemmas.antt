-- The caller's names are held as before.
use Rattle.std.proofs.Common.{◌≡◌, refl, ◌∙◌, ℕ, List}
use Rattle.page_locks.specs.Locks.{kind_of}
use Rattle.stale_search.specs.Callers.{AddsFileLocks, IsAside}
use Rattle.stale_search.proofs.CallerLemmas.{approach_adds_locks, in_aside, on_aside}
use Rattle.split_merge.specs.MergeWords.{Lock, LockKind, Selective, Exclusive, LockName, ApproachView, in_directory, on_page, MergePlace, Approaching, ReadBuddy, GrantRight, GiveBack, GrantLeft, GrantRightAgain, LookLeft, LookRight, WriteLeft, Tombstone, Retarget, SetCounts, ReleaseRight, ReleaseLeft, Convert, GrantAlone, WriteFree, LinkFree, LowerDepth, ReleaseAlone, GiveUpRight, GiveUp, ReleaseDirectory, Done}
use Rattle.split_merge.specs.Places.{MergeView, merge_locks, locks_at, on_both}

module _ (name : LockName) (aside : IsAside name) where
  on_one : (kind lock : LockKind) (n : ℕ) (xs : List Lock) →
      kind_of (on_page n lock (in_directory kind xs)) name ≡ kind_of xs name
  on_one kind lock n xs = on_aside name aside n lock (in_directory kind xs) ∙ in_aside name aside kind xs

  on_two : (left right : ℕ) (xs : List Lock) → kind_of (on_both left right xs) name ≡ kind_of xs name
  on_two left right xs =
      on_aside name aside right Selective (on_page left Selective (in_directory Selective xs))
      ∙ on_one Selective Selective left xs

  adds : (place : MergePlace) (at : ApproachView) (xs : List Lock) → kind_of
      (locks_at place at xs) name ≡ kind_of xs name
  adds Approaching at xs = approach_adds_locks at xs name aside
  adds (ReadBuddy o) at xs = on_one Selective Selective o.page xs
  adds (GrantRight b seen) at xs = on_one Selective Selective b.left xs
  adds (GiveBack b) at xs = on_one Selective Selective b.right xs
  adds (GrantLeft b) at xs = in_aside name aside Selective xs
  adds (GrantRightAgain b) at xs = on_one Selective Selective b.left xs
  adds (LookLeft b) at xs = on_two b.left b.right xs
  adds (LookRight b seen) at xs = on_two b.left b.right xs
  adds (WriteLeft b left right) at xs = on_two b.left b.right xs
  adds (Tombstone j) at xs = on_two j.left j.right xs
  adds (Retarget j entry) at xs = on_two j.left j.right xs
  adds (SetCounts j) at xs = on_two j.left j.right xs
  adds (ReleaseRight j) at xs = on_two j.left j.right xs
  adds (ReleaseLeft j) at xs = on_one Selective Selective j.left xs
  adds (Convert j) at xs = in_aside name aside Selective xs
  adds (GrantAlone j) at xs = in_aside name aside Exclusive xs
  adds (WriteFree j) at xs = on_one Exclusive Exclusive j.right xs
  adds (LinkFree page) at xs = on_one Exclusive Exclusive page xs
  adds (LowerDepth page) at xs = on_one Exclusive Exclusive page xs
  adds (ReleaseAlone depth count) at xs = in_aside name aside Exclusive xs
  adds (GiveUpRight left right) at xs = on_two left right xs
  adds (GiveUp page) at xs = on_one Selective Selective page xs
  adds ReleaseDirectory at xs = in_aside name aside Selective xs
  adds Done at xs = refl

pub merge_adds_locks : (v : MergeView) → AddsFileLocks (merge_locks v)
merge_adds_locks v before name aside = adds name aside v.place v.approach before
