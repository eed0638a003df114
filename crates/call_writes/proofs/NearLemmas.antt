-- A move leaves fewer steps of the plan.
use Rattle.std.proofs.Common.{◌≡◌, refl, sym, ap, ◌∙◌, subst, ℕ, suc, ◌+◌, ◌-◌, ◌*◌, ◌<◌, ◌≤◌, Bool, true, false, not, ◌&&◌, List, Option, Some, if◌then◌else◌, arith}
use Rattle.std.proofs.lemmas.Bool.{true≢false}
use Rattle.record_file.specs.AccessWords.{Blocked}
use Rattle.call_writes.proofs.WriteBeginLemmas.{begun_unwritten}
use Rattle.call_writes.proofs.BegunLemmas.{doing_start, owned_start, row_start, sees_start}
use Rattle.call_writes.proofs.CarryLemmas.{all_made, faces}
use Rattle.call_writes.proofs.DoneLemmas.{has_written}
use Rattle.call_writes.proofs.DueLemmas.{paid_for}
use Rattle.call_writes.proofs.WriteNames.{FileFault, has_few_steps}
use Rattle.call_writes.proofs.NextLemmas.{is_next}
use Rattle.call_writes.proofs.SortLemmas.{Anew, EndsAs, Fails, Fills, Goes, Idles, IsIdle, IsSorted, LetsGo, Over, Refused, StartsAs, Stepping, Steps, Stuck, Under}
use Rattle.call_writes.specs.declared.writes.CallWrites.{CallWrites}
use Rattle.call_writes.specs.WriteWords.{RecordKey, Plan, Records, Due, Deed, PoolState, Table, Lock, Change, Store, store_of, IsSeat, Progress, Moved, Ended, Fault, is_fault, is_write, HasEnded, NearsOrSpares, IsSmall, AccessView, access_left, MOST_STEPS}
use Rattle.call_writes.specs.Carrying.{IsCarrying, IsDoing, IsGoingOn}
use Rattle.call_writes.specs.Dues.{CanGoOn, deeds_left, next_deed}
use Rattle.call_writes.specs.MakeSteps.{IsNoTrial, PaysDue}
use Rattle.call_writes.specs.Views.{deeds_behind, left_under, writes_left_in}

-- fewer of one are fewer of the other
nears_so : (did : Progress FileFault) (l l' m m' : ℕ) (pool pool' : PoolState) → NearsOrSpares did l l' pool pool' →
    (l' < l → m' < m) → NearsOrSpares did m m' pool pool'
nears_so (Moved kind) l l' m m' pool pool' near less = less near
nears_so (Blocked other) l l' m m' pool pool' near less = tt
nears_so (Fault fault) l l' m m' pool pool' near less = near
nears_so Ended l l' m m' pool pool' near less = tt

add_less : (l l' n : ℕ) → l' < l → l' + n < l + n
add_less l l' n less = omega (arith, less)

one_off : (n m : ℕ) → n ≡ suc m → n - 1 ≡ m
one_off n m is = omega (arith, is)

-- what is left of an access and of the deeds after it
abbrev left_of : (a : AccessView) (deeds : ℕ) (s : Store) → ℕ
left_of a deeds s = access_left a s + deeds_behind (Some a) deeds * MOST_STEPS

module _ (p : Plan) where
  -- as many deeds are after the access before and after its step
  same_behind : (due due' : Due) (records : Records) (d : Deed) (w b b' : Bool) → IsSmall p → CanGoOn p due records →
      (b ≡ false → next_deed p due ≡ Some d) → b' ≡ (if w then true else b) → PaysDue p (not b && b') due due' →
      (if b' then deeds_left p due' else deeds_left p due' - 1) ≡ (if b then deeds_left p due else deeds_left p due - 1)
  same_behind due due' records d true true true small can next is pays = ap (deeds_left p) pays
  same_behind due due' records d false true true small can next is pays = ap (deeds_left p) pays
  same_behind due due' records d w true false small can next is pays = absurd (never w is)
    where
      never : (w : Bool) → false ≡ (if w then true else true) → ⊥
      never true is = true≢false (sym is)
      never false is = true≢false (sym is)
  same_behind due due' records d w false true small can next is pays =
      sym (one_off (deeds_left p due) (deeds_left p due')
      (paid_for p records due due' d (next refl) small pays can).fewer)
  same_behind due due' records d w false false small can next is pays = ap (λ (x : Due). deeds_left p x - 1) pays

module _ (hash : RecordKey → ℕ) (seat : ℕ) (p : Plan) (did : Progress FileFault) (old new : CallWrites)
    (pool pool' : PoolState) (locks locks' : Table) (seated : IsSeat locks seat) (names : List Lock)
    (records : Records) (change : Change) (c : IsCarrying hash seat names p old records pool locks change) where
  abbrev left : ℕ
  left = writes_left_in p old (store_of pool.images)

  abbrev left' : ℕ
  left' = writes_left_in p new (store_of pool'.images)

  -- that of an access that begins takes no more steps than were counted for its deed
  start_left : (a : AccessView) → StartsAs hash p old a →
      left_of a (deeds_left p old.due) (store_of pool.images) ≤ left
  start_left a (Under was) =
      let is : left ≡ left_of a (deeds_left p old.due) (store_of pool.images) =
      ap (λ (o : Option AccessView). left_under o (store_of pool.images)
      + deeds_behind o (deeds_left p old.due) * MOST_STEPS) was in
      omega (arith, is)
  start_left a (Anew d rests next serves same) =
      let n = is_next p records old.due d next c.can in
      let few : access_left a (store_of pool.images) ≤ MOST_STEPS =
      has_few_steps hash seat a.operation pool locks change
      (sees_start hash seat names p old records pool locks change c a (Anew d rests next serves same)) in
      let unwritten : a.written ≡ false = ap (λ (x : AccessView). x.written) same ∙ begun_unwritten hash d in
      let whole : left ≡ 0 + suc n.left * MOST_STEPS =
      ap (λ (o : Option AccessView). left_under o (store_of pool.images)
      + deeds_behind o (deeds_left p old.due) * MOST_STEPS) rests
      ∙ ap (λ (m : ℕ). 0 + m * MOST_STEPS) n.more in
      let rest : deeds_behind (Some a) (deeds_left p old.due) ≡ n.left =
      ap (λ (b : Bool). if b then deeds_left p old.due else deeds_left p old.due - 1) unwritten
      ∙ one_off (deeds_left p old.due) n.left n.more in
      let parts : left_of a (deeds_left p old.due) (store_of pool.images)
      ≡ access_left a (store_of pool.images) + n.left * MOST_STEPS =
      ap (λ (m : ℕ). access_left a (store_of pool.images) + m * MOST_STEPS) rest in
      omega (arith, few, whole, parts)

  module _ (s : Stepping hash seat p did old new pool pool' locks locks') where
    near : (d : Deed) → IsDoing hash names p old.due records d s.a →
        NearsOrSpares s.made (access_left s.a (store_of pool.images)) (access_left s.a' (store_of pool'.images))
        pool pool'
    near d doing =
        s.step.progress _ _ change (faces hash seat names s.made s.a s.a' pool pool' locks locks' seated s.step p
        old.due s.due' s.pays records change d c.small c.can doing
        (sees_start hash seat names p old records pool locks change c s.a s.starts) c.bare
        (row_start hash seat names p old records pool locks change c did new pool' locks' s.a s.starts)
        (owned_start hash seat names p old records pool locks change c s.a d doing) c.stands)

    behind_same : (d : Deed) → IsDoing hash names p old.due records d s.a →
        deeds_behind (Some s.a') (deeds_left p s.due') ≡ deeds_behind (Some s.a) (deeds_left p old.due)
    behind_same d doing = same_behind p old.due s.due' records d (is_write s.made) s.a.written s.a'.written c.small
        c.can doing.next s.step.aim.written s.pays

    -- after the step itself
    fewer : (d : Deed) → IsDoing hash names p old.due records d s.a →
        access_left s.a' (store_of pool'.images) < access_left s.a (store_of pool.images) →
        left_of s.a' (deeds_left p s.due') (store_of pool'.images)
        < left_of s.a (deeds_left p old.due) (store_of pool.images)
    fewer d doing less =
        subst (λ (m : ℕ). access_left s.a' (store_of pool'.images) + m * MOST_STEPS
        < left_of s.a (deeds_left p old.due) (store_of pool.images)) (sym (behind_same d doing))
        (add_less (access_left s.a (store_of pool.images)) (access_left s.a' (store_of pool'.images))
        (deeds_behind (Some s.a) (deeds_left p old.due) * MOST_STEPS) less)

    -- an access that has ended has written, or is that of a trial, which has no room
    never_fails : (d : Deed) → IsDoing hash names p old.due records d s.a → HasEnded s.a'.operation →
        s.a'.written ≡ false → is_fault s.made ≡ false → IsNoTrial s.due' s.a' → ⊥
    never_fails d doing ended unwritten fine untried =
        let m = all_made hash seat names s.made s.a s.a' pool pool' locks locks' seated s.step p old.due s.due' s.pays
        records change d c.small c.can doing
        (sees_start hash seat names p old records pool locks change c s.a s.starts) c.bare
        (row_start hash seat names p old records pool locks change c did new pool' locks' s.a s.starts)
        (owned_start hash seat names p old records pool locks change c s.a d doing) c.stands fine in
        has_written hash names p s.due' m.after d s.a' m.doing ended unwritten untried

    end_did : (d : Deed) → IsDoing hash names p old.due records d s.a → EndsAs s.made did s.due' s.a' new → did ≡ s.made
    end_did d doing (Goes going same kept) = same
    end_did d doing (LetsGo ended written same kept) = same
    end_did d doing (Fills standing ended full due same kept) = same
    end_did d doing (Fails ended unwritten fine untried fault kept) =
        absurd (never_fails d doing ended unwritten fine untried)

    -- what is let go takes no more steps
    end_left : (d : Deed) → IsDoing hash names p old.due records d s.a → EndsAs s.made did s.due' s.a' new →
        left' ≤ left_of s.a' (deeds_left p s.due') (store_of pool'.images)
    end_left d doing (Goes going same kept) =
        let is : left' ≡ left_of s.a' (deeds_left p s.due') (store_of pool'.images) =
        ap (λ (w : CallWrites). writes_left_in p w (store_of pool'.images)) kept in
        omega (arith, is)
    end_left d doing (LetsGo ended written same kept) =
        let is : left' ≡ 0 + deeds_left p s.due' * MOST_STEPS =
        ap (λ (w : CallWrites). writes_left_in p w (store_of pool'.images)) kept in
        let so : left_of s.a' (deeds_left p s.due') (store_of pool'.images)
        ≡ access_left s.a' (store_of pool'.images) + deeds_left p s.due' * MOST_STEPS =
        ap (λ (b : Bool). access_left s.a' (store_of pool'.images)
        + (if b then deeds_left p s.due' else deeds_left p s.due' - 1) * MOST_STEPS) written in
        omega (arith, is, so)
    end_left d doing (Fills standing ended full due same kept) =
        let is : left' ≡ 0 = ap (λ (w : CallWrites). writes_left_in p w (store_of pool'.images)) kept in
        omega (arith, is)
    end_left d doing (Fails ended unwritten fine untried fault kept) =
        absurd (never_fails d doing ended unwritten fine untried)

    nears_by : (d : Deed) → IsDoing hash names p old.due records d s.a → NearsOrSpares did left left' pool pool'
    nears_by d doing =
        subst (λ (x : Progress FileFault). NearsOrSpares x left left' pool pool') (sym (end_did d doing s.ends))
        (nears_so s.made (access_left s.a (store_of pool.images)) (access_left s.a' (store_of pool'.images)) left left'
        pool pool' (near d doing) (λ less.
        let start = start_left s.a s.starts in
        let end = end_left d doing s.ends in
        let step = fewer d doing less in
        chain left' (left_of s.a' (deeds_left p s.due') (store_of pool'.images))
        (left_of s.a (deeds_left p old.due) (store_of pool.images)) left end step start))
      where
        chain : (n m k l : ℕ) → n ≤ m → m < k → k ≤ l → n < l
        chain n m k l first second third = omega (arith, first, second, third)

  idle_nears : IsIdle p did old → NearsOrSpares did left left' pool pool'
  idle_nears (Refused fault refused same) =
      absurd (refused.out (is_next p records old.due refused.deed refused.next c.can).in_range)
  idle_nears (Over over same) =
      subst (λ (x : Progress FileFault). NearsOrSpares x left left' pool pool') (sym same) tt
  idle_nears (Stuck a was ended fault) = absurd (subst IsGoingOn was c.going ended)

  pub nears : IsSorted hash seat p did old new pool pool' locks locks' → NearsOrSpares did left left' pool pool'
  nears (Idles why kept pools tables) = idle_nears why
  nears (Steps s) =
      let both = doing_start hash seat names p old records pool locks change c s.a s.starts in
      nears_by s both.0 both.1
