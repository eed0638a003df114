-- What two seats hold and may be granted, chains of the schedule's files, sizes of records.
use Rattle.std.proofs.Common.{◌≡◌, ◌<◌, ◌+◌, ◌%◌, ◌^◌, ℕ, zero, suc, false, List, [], ◌∷◌, ◌++◌, length, None, IsSome, refl, sym, subst, inl, arith}
use Rattle.std.specs.List.{Contains}
use Rattle.directory.specs.Ranges.{whole_range, upper_half_of}
use Rattle.directory.proofs.MemberLaws.{contains_head, contains_tail}
use Rattle.bucket_page.specs.Keys.{is_below}
use Rattle.bucket_page.specs.Records.{record_bytes}
use Rattle.bucket_page.proofs.Steps.{length-pair, length-cons}
use Rattle.std.proofs.lemmas.Bool.{true≢false}
use Rattle.std.proofs.lemmas.List.{length-replicate}
use Rattle.directory.specs.Entries.{page_of}
use Rattle.page_locks.specs.declared.row.TheConstants.{MAX_LOCKS}
use Rattle.page_locks.specs.Locks.{is_against, lock_of, kind_of, without}
use Rattle.page_locks.specs.Table.{IsFree}
use Rattle.page_locks.specs.Writers.{IsWriter}
use Rattle.hash_file.specs.Laws.{IsCopied, IsRetargeted}
use Rattle.hash_file.specs.Examples.{number_of}
use Rattle.step_rules.specs.Words.{Lock, LockKind, Read, Exclusive, LockName, Queue, Directory, Page, Store, chain, Change, Quiet, Drained, busy}
use Rattle.step_rules.specs.declared.kind.Kind.TheVariants as steps
use Rattle.step_rules.specs.World.{World, IsReached}
use Rattle.step_rules.specs.LockSteps.{Releases, IsDone}
use Rattle.step_rules.specs.Pages.{used_on, size_of}
use Rattle.step_rules.specs.Turns.{ForLock, asks, MayBeGranted, DoesTied, LacksRoom}
use Rattle.step_rules.proofs.MachineLemmas.{last_rank}
use Rattle.machine_trials.specs.Schedule.{record_of, first, third, taken, copied, raised, linked, retargeted, split, with_third, without_first, named, drained, halved, world, beside_queue, in_directory, on_page}

-- ---- two seats

pub beside_one : (one two : List Lock) (name : LockName) (kind : LockKind) → is_against kind (kind_of two name) ≡
    false →
    IsFree (one ∷ two ∷ []) 1 name kind
beside_one one two name kind ok zero apart = refl
beside_one one two name kind ok (suc zero) apart = absurd (apart refl)
beside_one one two name kind ok (suc (suc zero)) apart = ok
beside_one one two name kind ok (suc (suc (suc n))) apart = refl

pub beside_two : (one two : List Lock) (name : LockName) (kind : LockKind) → is_against kind (kind_of one name) ≡
    false →
    IsFree (one ∷ two ∷ []) 2 name kind
beside_two one two name kind ok zero apart = refl
beside_two one two name kind ok (suc zero) apart = ok
beside_two one two name kind ok (suc (suc zero)) apart = absurd (apart refl)
beside_two one two name kind ok (suc (suc (suc n))) apart = refl

pub only_page : (w : World) (n : ℕ) → IsReached w n → (page : ℕ) → Page n ≡ Page page → IsReached w page
only_page w n reached page same = subst (IsReached w) (let e : n ≡ page = cc in e) reached

-- ---- chains

pub chain_first : chain first ≡ 257 ∷ []
unfolding chain is_below
chain_first = refl

pub chain_taken : chain taken ≡ 257 ∷ []
unfolding chain is_below
chain_taken = refl

pub chain_copied : chain copied ≡ 257 ∷ []
unfolding chain is_below
chain_copied = refl

pub chain_raised : chain raised ≡ 257 ∷ []
unfolding chain is_below
chain_raised = refl

pub chain_linked : chain linked ≡ 257 ∷ 258 ∷ []
unfolding chain is_below
chain_linked = refl

pub chain_split : chain split ≡ 257 ∷ 258 ∷ []
unfolding chain is_below
chain_split = refl

pub chain_with_third : chain with_third ≡ 257 ∷ 258 ∷ []
unfolding chain is_below
chain_with_third = refl

pub chain_without_first : chain without_first ≡ 257 ∷ 258 ∷ []
unfolding chain is_below
chain_without_first = refl

pub on : (s : Store) (ns : List ℕ) (n : ℕ) → chain s ≡ ns → Contains ns n → Contains (chain s) n
on s ns n is there = subst (λ (xs : List ℕ). Contains xs n) (sym is) there

pub root_alone : Contains {X = ℕ} (257 ∷ []) 257
root_alone = contains_head 257 []

pub root_first : Contains {X = ℕ} (257 ∷ 258 ∷ []) 257
root_first = contains_head 257 (258 ∷ [])

pub root_next : Contains {X = ℕ} (257 ∷ 258 ∷ []) 258
root_next = contains_tail 257 258 (258 ∷ []) (contains_head 258 [])

-- ---- sizes

pub size_is : (n bytes : ℕ) → size_of (record_of n bytes) ≡ 15 + bytes
size_is n bytes = omega (arith, length-pair (record_of n bytes), length-replicate {A = ℕ} bytes 0)

pub used_one : (n a : ℕ) → length (record_bytes (record_of n a ∷ [])) ≡ 15 + a
used_one n a = omega (arith, length-cons (record_of n a) [], length-replicate {A = ℕ} a 0)

pub used_two : (m a n b : ℕ) → length (record_bytes (record_of m a ∷ record_of n b ∷ [])) ≡ 30 + (a + b)
used_two m a n b = omega (
  arith,
  length-cons (record_of m a) (record_of n b ∷ []),
  used_one n b,
  length-replicate
      {A = ℕ} a 0,
)

-- ---- grants and releases

module _ (s : Store) (one two : List Lock) (c : Change) where
  pub grants_one : (name : LockName) (kind : LockKind) → length one < MAX_LOCKS → kind_of one name ≡ None →
      is_against kind (kind_of two name) ≡ false →
      ((page : ℕ) → name ≡ Page page → IsReached (world s one two c) page) →
      MayBeGranted name kind 1 (world s one two c) →
      DoesTied number_of (asks (ForLock name kind)) steps.Grant 1 (world s one two c)
      (world s (one ++ lock_of name kind ∷ []) two c)
  grants_one name kind room fresh ok aimed may = record {
    grants = record {
      seated = (omega arith, omega arith);
      room = room;
      name = name;
      kind = kind;
      fresh = fresh;
      free = beside_one one two name kind ok;
      aimed = aimed;
      is = refl;
    };
    name_is = refl;
    kind_is = refl;
    may = may;
  }

  pub grants_two : (name : LockName) (kind : LockKind) → length two < MAX_LOCKS → kind_of two name ≡ None →
      is_against kind (kind_of one name) ≡ false →
      ((page : ℕ) → name ≡ Page page → IsReached (world s one two c) page) →
      MayBeGranted name kind 2 (world s one two c) →
      DoesTied number_of (asks (ForLock name kind)) steps.Grant 2 (world s one two c)
      (world s one (two ++ lock_of name kind ∷ []) c)
  grants_two name kind room fresh ok aimed may = record {
    grants = record {
      seated = (omega arith, omega arith);
      room = room;
      name = name;
      kind = kind;
      fresh = fresh;
      free = beside_two one two name kind ok;
      aimed = aimed;
      is = refl;
    };
    name_is = refl;
    kind_is = refl;
    may = may;
  }

  pub releases_one : (name : LockName) → IsSome (kind_of one name) →
      ((page : ℕ) → Contains (busy c) page → ⊥) → (name ≡ Directory → IsDone 1 (world s one two c)) →
      Releases 1 (world s one two c) (world s (without one name) two c)
  releases_one name there idle done = record {
    seated = (omega arith, omega arith);
    name = name;
    had = there;
    idle = λ page same w on. idle page on;
    done = λ same w. done same;
    is = refl;
  }

  pub releases_two : (name : LockName) → IsSome (kind_of two name) →
      ((page : ℕ) → Contains (busy c) page → ⊥) → (IsWriter (one ∷ two ∷ []) 2 Directory → ⊥) →
      Releases 2 (world s one two c) (world s one (without two name) c)
  releases_two name there idle reader = record {
    seated = (omega arith, omega arith);
    name = name;
    had = there;
    idle = λ page same w on. idle page on;
    done = λ same w. absurd (reader w);
    is = refl;
  }

-- ---- the split

abbrev pub IsRoot : Store → Type 0
IsRoot s = LacksRoom number_of third 257 (world s [] [] Quiet)

pub lacks_first : IsRoot first
unfolding is_below
lacks_first = record {
  home = (on first (257 ∷ []) 257 chain_first root_alone, refl);
  absent = refl;
  full = (let used : used_on first 257 ≡ 4030 = used_two 0 1000 1 3000 in let size : size_of third ≡ 215 = size_is 3
      200 in omega (arith, used, size));
}

pub lacks_taken : IsRoot taken
unfolding is_below
lacks_taken = record {
  home = (on taken (257 ∷ []) 257 chain_taken root_alone, refl);
  absent = refl;
  full = (let used : used_on taken 257 ≡ 4030 = used_two 0 1000 1 3000 in let size : size_of third ≡ 215 = size_is 3
      200 in omega (arith, used, size));
}

pub lacks_copied : IsRoot copied
unfolding is_below
lacks_copied = record {
  home = (on copied (257 ∷ []) 257 chain_copied root_alone, refl);
  absent = refl;
  full = (let used : used_on copied 257 ≡ 4030 = used_two 0 1000 1 3000 in let size : size_of third ≡ 215 = size_is 3
      200 in omega (arith, used, size));
}

pub lacks_raised : IsRoot raised
unfolding is_below
lacks_raised = record {
  home = (on raised (257 ∷ []) 257 chain_raised root_alone, refl);
  absent = refl;
  full = (let used : used_on raised 257 ≡ 4030 = used_two 0 1000 1 3000 in let size : size_of third ≡ 215 = size_is 3
      200 in omega (arith, used, size));
}

-- no directory page stands before the first
pub none_before : (i : ℕ) → page_of i < 1 → ⊥
none_before i below = omega (arith, below)

pub copied_all : IsCopied copied
copied_all zero below = refl
copied_all (suc i) below = absurd (omega (arith, below))

pub named_new : IsRetargeted (upper_half_of whole_range) 258 retargeted
named_new zero below covers = absurd cc
named_new (suc zero) below covers = refl
named_new (suc (suc i)) below covers = absurd (omega (arith, below))

pub named_left : IsRetargeted (upper_half_of whole_range) 257 named
named_left zero below covers = absurd cc
named_left (suc zero) below covers = refl
named_left (suc (suc i)) below covers = absurd (omega (arith, below))

-- page 257 is the lower half of the pseudokeys, and does not answer for an odd one
pub even : (k : ℕ) → k % 2 ^ 1 ≡ 1 → k % 2 ^ 1 ≡ 0 → ⊥
even k odd covers = omega (arith, odd, covers)

-- what a page lacks it lacks whatever is locked
pub lacks_at : {s : Store} {one two : List Lock} {c : Change} → IsRoot s → LacksRoom number_of third 257
    (world s one two c)
lacks_at l = record { home = l.home; absent = l.absent; full = l.full }

pub queue_may : MayBeGranted (Queue 0) Exclusive 1 (world first [] (on_page 257 Read) Quiet)
queue_may = record {
  ordered = λ other there. absurd (true≢false (sym there));
  shared = λ same x. absurd cc;
  in_directory = λ page same. absurd cc;
  last = λ page same x. absurd cc;
}

pub last_may : MayBeGranted (Page 258) Exclusive 1 (world drained (beside_queue (in_directory Exclusive)) []
    (Drained 257 258))
last_may = record {
  ordered = λ other there. last_rank other;
  shared = λ same x. absurd cc;
  in_directory = λ page same. refl;
  last = λ page same x. (subst (Contains (258 ∷ [])) (let e : 258 ≡ page = cc in e) (contains_head 258 []), refl);
}

pub done : IsDone 1 (world halved (beside_queue (in_directory Exclusive)) [] Quiet)
done = record { quiet = refl; bare = λ page. refl; halved = λ alone. inl refl }
