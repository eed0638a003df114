-- The steps of a merge that write pages: up to the counts.
use Rattle.std.proofs.Common.{◌≡◌, ◌⊎◌, refl, sym, ap, ◌∙◌, subst, ℕ, suc, ◌+◌, ◌-◌, ◌*◌, ◌^◌, ◌<◌, ◌≤◌, nat_lt, Bool, true, false, List, [], ◌∷◌, length, slice_index_or, if◌then◌else◌, arith, inl, inr}
use Rattle.split_merge.proofs.MergeNames.{All, All-head, All-tail, AllKnown, AreHalvesOf, AreJoinable, Bucket, Contains, FileFault, FileHasCause, IfErr, IsBucketOf, IsDevicesFault, IsFilePool, IsPlaced, IsRetargetedBefore, IsSoundFile, IsThere, IsTrue, MayJoin, MayRetarget, OnErr, OnOk, OnlyWrites, PSEUDOKEY_BITS, Pair, Result, Retargets, ShareNoKey, Store, World, WritesLeft, WritesTombstone, absent_elsewhere, bucket_at, cases_Bool, chain, contains_head, halves_apart, is_ok, kind_of, layout_is, ltb-false, may_write, numbered, owned, pages_are, parent_valid, pow_mono, range_of, record_bytes, retarget, retargets_on, target_of, used_on, write_left, write_tombstone}
use Rattle.step_rules.specs.declared.kind.Kind.TheVariants as kinds
use Rattle.split_merge.specs.MergeWords.{RecordKey, Range, Covers, IsRange, is_lower, parent_of, upper_half_of, MERGED_BYTES, ROOT_PAGE, page_of, Lock, Directory, Page, Table, row_of, PoolState, store_of, Change, Absorbed, Buried, Progress, ApproachView, Sees, world, Seen, Buddies, Joint, MergePlace, WriteLeft, Tombstone, Retarget, SetCounts}
use Rattle.split_merge.specs.Places.{MergeView, AreBuddies, IsJoint, HasEntry, at, own_of, joint_of, first_entry, entry_behind, stride_of, retargets_from, locks_at, on_both, is_given_up}
use Rattle.split_merge.specs.Facts.{facts_at, left_at}
use Rattle.split_merge.specs.Steps.{MakesStep, GoesOn}
use Rattle.split_merge.proofs.MergeRowLemmas.{right_held}
use Rattle.split_merge.proofs.MoveLemmas.{IsWritten}
use Rattle.split_merge.proofs.ArmLemmas.{goes_on}
use Rattle.split_merge.proofs.BuddyFacts.{live_page, both_on}
use Rattle.split_merge.proofs.EntryLemmas.{page_mono, page_steps, page_within, upper_valid, first_is_first, none_between, none_behind}

-- records of keys that lie elsewhere share no key
share_none : (hash : RecordKey → ℕ) (b : Bucket) (qs : List Pair) → IsPlaced hash b →
    All (λ (q : Pair). Covers (range_of b) (hash q.key) → ⊥) qs → ShareNoKey b.records qs
share_none hash b [] placed out = tt
share_none hash b (q ∷ qs) placed out = (
  absent_elsewhere hash b q.key placed (All-head (λ (q : Pair). Covers (range_of b) (hash q.key) → ⊥) q qs out),
  share_none hash b qs placed (All-tail (λ (q : Pair). Covers (range_of b) (hash q.key) → ⊥) q qs out),
)

-- the two halves of a range may be joined
module _ (hash : RecordKey → ℕ) (x y : Bucket) (whole : Range) (halves : AreHalvesOf whole (range_of x) (range_of y))
    (px : IsPlaced hash x) (py : IsPlaced hash y) (valid : IsRange whole) (shallow : whole.depth < PSEUDOKEY_BITS)
    (small : length (record_bytes x.records) + length (record_bytes y.records) ≤ MERGED_BYTES) where
  apart : ShareNoKey x.records y.records
  apart = share_none hash x y.records px (λ i e within low.
      let k = hash (slice_index_or y.records i e).key in
      halves_apart whole k valid shallow (subst (λ (r : Range). Covers r k) halves.lower low)
      (subst (λ (r : Range). Covers r k) halves.upper (py.within i e within)))

  pub halves_join : AreJoinable x y
  halves_join =
      let xd : x.depth ≡ suc whole.depth = ap (λ (r : Range). r.depth) halves.lower in
      let yd : y.depth ≡ suc whole.depth = ap (λ (r : Range). r.depth) halves.upper in
      let xp : x.pattern ≡ whole.pattern = ap (λ (r : Range). r.pattern) halves.lower in
      let yp : y.pattern ≡ whole.pattern + 2 ^ whole.depth = ap (λ (r : Range). r.pattern) halves.upper in
      let less : whole.depth ≡ x.depth - 1 = omega (arith, xd) in
      record {
        buddies = record {
          deep = omega (arith, xd);
          level = yd ∙ sym xd;
          patterns = yp ∙ ap (λ (n : ℕ). n + 2 ^ whole.depth) (sym xp) ∙ ap (λ (n : ℕ). x.pattern + 2 ^ n) less;
        };
        apart = apart;
        room = omega (arith, small);
      }

-- a page that the change under way owns is one of the file
pub owned_there : (hash : RecordKey → ℕ) (images : List (List ℕ)) (c : Change) (page : ℕ) →
    IsSoundFile hash (store_of images) c → Contains (owned c) page → IsThere page (store_of images)
owned_there hash images c page file mine =
    let has = numbered hash (store_of images) c (chain (store_of images)) file page (inr (inr mine)) in
    record { behind = rw (layout_is images) at has.0; within = has.1 }

-- ---- where a merge goes on among the pages of the directory
module _ (j : Joint) (entry : ℕ) (a : ApproachView) where
  abbrev onto : Bool → MergePlace
  onto c = if c then Retarget j entry else SetCounts j

  pub onward_not_up : is_given_up (retargets_from j entry) ≡ false
  onward_not_up = by (nat_lt entry (2 ^ j.depth))
    where
      by : (c : Bool) → is_given_up (onto c) ≡ false
      by true = refl
      by false = refl

  pub onward_locks : (before : List Lock) → locks_at (retargets_from j entry) a before ≡ on_both j.left j.right before
  onward_locks before = by (nat_lt entry (2 ^ j.depth))
    where
      by : (c : Bool) → locks_at (onto c) a before ≡ on_both j.left j.right before
      by true = refl
      by false = refl

  pub onward_left : (t : Store) (most : ℕ) → 26 < most → (ROOT_PAGE - page_of entry) + 26 < most →
      left_at (retargets_from j entry) a t < most
  onward_left t most last more = by (nat_lt entry (2 ^ j.depth))
    where
      by : (c : Bool) → left_at (onto c) a t < most
      by true = more
      by false = last

  pub onward_known : (seat : ℕ) (w : World) → may_write (kind_of (row_of w.locks seat) Directory) ≡ true →
      w.change ≡ Buried j.left j.right j.whole → w.store.header.depth ≡ j.depth →
      IsRetargetedBefore w.store (upper_half_of j.whole) j.left (page_of entry) →
      (2 ^ j.depth ≤ entry → IsRetargetedBefore w.store (upper_half_of j.whole) j.left ROOT_PAGE) →
      AllKnown seat w (facts_at (retargets_from j entry) a)
  onward_known seat w may phase deep before all = by (nat_lt entry (2 ^ j.depth)) refl
    where
      by : (c : Bool) → nat_lt entry (2 ^ j.depth) ≡ c → AllKnown seat w (facts_at (onto c) a)
      by true is = ((may, phase), ((may, deep), ((may, before), tt)))
      by false is = ((may, phase), ((may, deep), ((may, all (ltb-false entry (2 ^ j.depth) is)), tt)))

far_apart : (j : Joint) → 512 ≤ stride_of j
far_apart j = elim (cases_Bool (nat_lt (2 * 2 ^ j.whole.depth) 512)) [
  | inl short ↦ rw short (omega arith)
  | inr long ↦ rw long (let b = ltb-false (2 * 2 ^ j.whole.depth) 512 long in omega (arith, b))
]

module _ (seat : ℕ) (pool : PoolState) (locks : Table) (v : MergeView) (r : Result Unit FileFault)
    (did : Progress FileFault) (pool' : PoolState) (new : MergeView) (writes : OnlyWrites (is_ok r) pool pool')
    (cause : IfErr r (FileHasCause pool pool'))
    (spares : IsTrue pool.honest → OnErr r (pool'.images ≡ pool.images)) where
  abbrev s : Store
  s = store_of pool.images

  -- ---- WriteLeft
  module _ (b : Buddies) (are : AreBuddies b) (left right : Seen) (few : left.used + right.used ≤ MERGED_BYTES) where
    abbrev here_at : MergePlace
    here_at = WriteLeft b left right

    abbrev joined_store : Store
    joined_store = write_left b.left b.right s

    may_join : (hash : RecordKey → ℕ) (change : Change) → Sees hash seat (facts_at here_at v.approach) pool locks
        change →
        MayJoin b.left b.right s
    may_join hash change sees =
        let known = sees.known in
        let on = both_on hash seat (world pool.images locks change) b v.approach.pseudokey are known.1.1.0.1
        known.1.1.1.0.1 known.1.1.1.1.0.1 in
        let first = live_page hash pool.images locks change b.left sees.sound on.0 in
        let second = live_page hash pool.images locks change b.right sees.sound on.1 in
        let small : used_on s b.left + used_on s b.right ≤ MERGED_BYTES =
        rw (known.1.1.1.1.1.1.0.1, known.1.1.1.1.1.1.1.1.0.1) few in
        record {
          left_there = record {
            behind = first.behind;
            within = subst (λ (n : ℕ). b.left < n) (sym (pages_are pool.images)) first.within;
            bucket = first.bucket;
          };
          right_there = record {
            behind = second.behind;
            within = subst (λ (n : ℕ). b.right < n) (sym (pages_are pool.images)) second.within;
            bucket = second.bucket;
          };
          joinable = halves_join hash (bucket_at s b.left) (bucket_at s b.right) (parent_of b.range)
              (record { lower = known.1.1.1.1.1.0.1.range_is; upper = known.1.1.1.1.1.1.1.0.1.range_is })
              (sees.sound.file.placed b.left on.0) (sees.sound.file.placed b.right on.1)
              (parent_valid b.range are.range.valid are.range.deep)
              (let deep = are.range.deep in let within = are.range.valid.within in omega (arith, deep, within)) small;
        }

    writes_both : (hash : RecordKey → ℕ) (change : Change) →
        Sees hash seat (facts_at here_at v.approach) pool locks change → hash v.key ≡ v.approach.pseudokey →
        IsWritten seat v.key v.approach pool locks hash change here_at (Tombstone (joint_of b)) kinds.WriteLeft
        joined_store
    writes_both hash change sees keyed =
        let known = sees.known in
        let on = both_on hash seat (world pool.images locks change) b v.approach.pseudokey are known.1.1.0.1
        known.1.1.1.0.1 known.1.1.1.1.0.1 in
        let after : Change = Absorbed b.left b.right (parent_of b.range) in
        let w : WritesLeft seat (world pool.images locks change)
        (record { store = joined_store; locks = locks; change = after }) = record {
          left = b.left;
          right = b.right;
          whole = parent_of b.range;
          left_owned = known.1.1.1.1.1.1.0.0;
          right_owned = known.1.1.1.1.1.1.1.1.0.0;
          left_on = on.0;
          right_on = on.1;
          halves = record { lower = known.1.1.1.1.1.0.1.range_is; upper = known.1.1.1.1.1.1.1.0.1.range_is };
          small = rw (known.1.1.1.1.1.1.0.1, known.1.1.1.1.1.1.1.1.0.1) few;
          changes = record { leader = known.0.0; phase = known.0.1; is = refl };
        } in
        record {
          after = after;
          does = (
            w,
            (
              own_of b,
              subst (λ (k : ℕ). IsBucketOf s k (own_of b)) (sym keyed) known.1.1.0.1,
              side (is_lower b.range),
            ),
          );
          known = ((known.0.0, refl), ((known.0.0, known.1.0.1), tt));
        }
      where
        side : (c : Bool) → ((if c then b.left else b.right) ≡ b.left) ⊎ ((if c then b.left else b.right) ≡ b.right)
        side true = inl refl
        side false = inr refl

    pub joins : v.place ≡ here_at → GoesOn r did kinds.WriteLeft v (at (Tombstone (joint_of b)) v) new →
        (IsTrue pool.honest → OnOk r (store_of pool'.images ≡ joined_store)) →
        (IsTrue pool.honest → IsFilePool pool → MayJoin b.left b.right s →
        IfErr r (IsDevicesFault pool pool')) →
        MakesStep seat did v new pool pool' locks locks
    joins is given becomes fault = goes_on seat pool locks v r did here_at (Tombstone (joint_of b))
        kinds.WriteLeft pool'
        joined_store new is given writes cause becomes spares (λ e. absurd cc) refl refl (λ before. refl)
        (λ hash change sees. fault sees.honest sees.file (may_join hash change sees))
        (λ hash change sees. omega arith)
        (λ before bare row hash change sees keyed. writes_both hash change sees keyed)

  module _ (j : Joint) (is_joint : IsJoint j) where
    abbrev upper : Range
    upper = upper_half_of j.whole

    -- ---- Tombstone
    abbrev buried_store : Store
    buried_store = write_tombstone j.left j.right s

    pub buries : v.place ≡ Tombstone j → GoesOn r did kinds.Tombstone v (at (retargets_from j (first_entry j)) v) new →
        (IsTrue pool.honest → OnOk r (store_of pool'.images ≡ buried_store)) →
        (IsTrue pool.honest → IsFilePool pool → IsThere j.right s → IfErr r (IsDevicesFault pool pool')) →
        MakesStep seat did v new pool pool' locks locks
    buries is given becomes fault = goes_on seat pool locks v r did (Tombstone j) (retargets_from j (first_entry j))
        kinds.Tombstone pool' buried_store new is given writes cause becomes spares (λ e. absurd cc) refl
        (onward_not_up j (first_entry j) v.approach) (onward_locks j (first_entry j) v.approach)
        (λ hash change sees. fault sees.honest sees.file
        (owned_there hash pool.images (Absorbed j.left j.right j.whole) j.right
        (subst (IsSoundFile hash s) sees.known.0.1 sees.sound.file) (contains_head j.right [])))
        (λ hash change sees. onward_left j (first_entry j) v.approach buried_store 283 (omega arith) (omega arith))
        (λ before bare row hash change sees keyed.
        let known = sees.known in
        let file = subst (IsSoundFile hash s) known.0.1 sees.sound.file in
        let after : Change = Buried j.left j.right j.whole in
        let w : WritesTombstone seat (world pool.images locks change)
        (record { store = buried_store; locks = locks; change = after }) = record {
          left = j.left;
          right = j.right;
          whole = j.whole;
          owned = ap may_write (ap (λ (xs : List Lock). kind_of xs (Page j.right)) row
              ∙ right_held before bare j.left j.right is_joint.apart);
          changes = record { leader = known.0.0; phase = known.0.1; is = refl };
        } in
        let inside : first_entry j < 2 ^ j.depth =
        omega (
          arith,
          (upper_valid j is_joint).below,
          pow_mono {i = suc j.whole.depth} {j = j.depth} (omega (arith, file.phase.shallow, known.1.0.1)),
        ) in
        record {
          after = after;
          does = w;
          known = onward_known j (first_entry j) v.approach seat
              (record { store = buried_store; locks = locks; change = after }) known.0.0 refl known.1.0.1
              (λ i low covers early. absurd (omega (arith, early, first_is_first j is_joint i covers)))
              (λ past. absurd (omega (arith, past, inside)));
        })

    -- ---- Retarget
    module _ (entry : ℕ) (has : HasEntry j entry) where
      abbrev named_store : Store
      named_store = retarget (page_of entry) upper j.left s

      retargets_one : (hash : RecordKey → ℕ) (change : Change) →
          Sees hash seat (facts_at (Retarget j entry) v.approach) pool locks change →
          IsWritten seat v.key v.approach pool locks hash change (Retarget j entry)
          (retargets_from j (entry_behind j entry)) kinds.Retarget named_store
      retargets_one hash change sees =
          let known = sees.known in
          let after : Change = Buried j.left j.right j.whole in
          let new : World = record { store = named_store; locks = locks; change = after } in
          let does : Retargets seat (world pool.images locks change) new = record {
            lower = j.left;
            upper = j.right;
            page = page_of entry;
            whole = j.whole;
            entry = record {
              entry = entry;
              below = subst (λ (d : ℕ). entry < 2 ^ d) (sym known.1.0.1) has.below;
              covered = has.covered;
              there = refl;
            };
            before = subst (λ (c : Change). IsRetargetedBefore s upper (target_of c) (page_of entry)) (sym known.0.1)
                known.1.1.0.1;
            changes = inr (record { leader = known.0.0; phase = known.0.1; is = refl });
          } in
          let now = retargets_on hash seat (world pool.images locks change) new does sees.sound in
          record {
            after = after;
            does = does;
            known = onward_known j (entry_behind j entry) v.approach seat new known.0.0 refl known.1.0.1
                (λ i low covers early. now i low covers (none_between j is_joint entry has.covered i covers early))
                (λ past i low covers early. now i low covers (none_behind j is_joint entry has.covered i j.depth covers
                (subst (λ (d : ℕ). i < 2 ^ d) known.1.0.1 low) past));
          }

      pub names_left : v.place ≡ Retarget j entry →
          GoesOn r did kinds.Retarget v (at (retargets_from j (entry_behind j entry)) v) new →
          (IsTrue pool.honest → OnOk r (store_of pool'.images ≡ named_store)) →
          (IsTrue pool.honest → IsFilePool pool → MayRetarget (page_of entry) upper →
          IfErr r (IsDevicesFault pool pool')) →
          MakesStep seat did v new pool pool' locks locks
      names_left is given becomes fault =
          let within : page_of entry < 257 = page_within entry j.depth is_joint.depth has.below in
          goes_on seat pool locks v r did (Retarget j entry) (retargets_from j (entry_behind j entry))
          kinds.Retarget pool' named_store new is given writes cause becomes spares (λ e. absurd cc) refl
          (onward_not_up j (entry_behind j entry) v.approach) (onward_locks j (entry_behind j entry) v.approach)
          (λ hash change sees.
          let file = subst (IsSoundFile hash s) sees.known.0.1 sees.sound.file in
          fault sees.honest sees.file (record {
            first = omega arith;
            last = omega (arith, within);
            shallow = omega (arith, file.phase.shallow, sees.known.1.0.1, is_joint.depth);
          }))
          (λ hash change sees. onward_left j (entry_behind j entry) v.approach named_store
          ((ROOT_PAGE - page_of entry) + 26) (omega (arith, within))
          (let further = page_mono (entry + 512) (entry_behind j entry) (omega (arith, far_apart j)) in
          let next = page_steps entry in
          omega (arith, within, further, next)))
          (λ before bare row hash change sees keyed. retargets_one hash change sees)
