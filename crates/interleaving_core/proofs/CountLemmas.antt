-- What a step leaves of the counts of seats.
use Rattle.std.proofs.Common.{◌≡◌, ◌≢◌, refl, sym, ap, ◌∙◌, subst, true≢false, ℕ, zero, suc, ◌+◌, ◌-◌, ◌≤◌, ◌<◌, Bool, true, false, ◌&&◌, ◌||◌, List, length, map, slice_set, slice_index_or, length-set, get_or-set_same, get_or-set_other, arith}
use Rattle.std.specs.Prelude.{Vec, min, if◌then◌else◌}
use Rattle.std.specs.Vec.{with_items}
use Rattle.std.proofs.Math.ListN.{get_or-map}
use Rattle.std.proofs.Math.Nat.{min-le_right}
use Rattle.std.proofs.lemmas.List.{get_or_read, length-map, with_items_is}
use Rattle.std.proofs.lemmas.List.Elements.{All-map, All-set}
use Rattle.std.proofs.lemmas.List.Folds.{map_fixed}
use Rattle.step_rules.specs.Kinds.{may_lengthen}
use Rattle.step_rules.specs.Ways.{hops_added}
use Rattle.step_rules.specs.declared.kind.Kind.{Kind}
use Rattle.step_rules.specs.declared.kind.Kind.TheVariants as kinds
use Rattle.interleaving_core.specs.Counting.{AreSoundCounts, CountsState, IsCountedSeat, MOST_COUNTED, Notes, begins_change, change_after, changes_counts, count_at, count_behind, counts_for_all, ends_change, gone_count, is_nothing, no_count, own_count, touches_all}
use Rattle.interleaving_core.specs.declared.count.SearchCount.{SearchCount}
use Rattle.interleaving_core.specs.declared.under_way.UnderWay.{UnderWay}
use Rattle.interleaving_core.specs.declared.under_way.UnderWay.TheVariants.{Nothing, Split, Merge}

-- ---- tests

and_true : (b : Bool) → b && true ≡ b
and_true true = refl
and_true false = refl

and_false : (b : Bool) → b && false ≡ false
and_false true = refl
and_false false = refl

first_fails : (a b : Bool) → a || b ≡ false → a ≡ false
first_fails true b fails = absurd cc
first_fails false b fails = refl

second_fails : (a b : Bool) → a || b ≡ false → b ≡ false
second_fails true b fails = absurd cc
second_fails false b fails = fails

-- ---- a step that touches no count

-- no change begins by it
none_begins : (kind : Kind) (u : UnderWay) → begins_change kind ≡ false → is_nothing (change_after kind u) ≡ false →
    is_nothing u ≡ false
none_begins kinds.Grant u quiet some = some
none_begins kinds.Release u quiet some = some
none_begins kinds.ReadDepth u quiet some = some
none_begins kinds.ReadEntry u quiet some = some
none_begins kinds.Look u quiet some = some
none_begins kinds.Hop u quiet some = some
none_begins kinds.WriteRecord u quiet some = some
none_begins kinds.Decide u quiet some = some
none_begins kinds.TakePage u quiet some = absurd cc
none_begins kinds.CopyDirectory u quiet some = some
none_begins kinds.RaiseDepth u quiet some = some
none_begins kinds.WriteNew u quiet some = some
none_begins kinds.WriteOld u quiet some = some
none_begins kinds.Retarget u quiet some = some
none_begins kinds.SetCounts Nothing quiet some = absurd cc
none_begins kinds.SetCounts Split quiet some = refl
none_begins kinds.SetCounts Merge quiet some = refl
none_begins kinds.WriteLeft u quiet some = absurd cc
none_begins kinds.Tombstone u quiet some = some
none_begins kinds.Convert u quiet some = some
none_begins kinds.WriteFree u quiet some = some
none_begins kinds.LinkFree u quiet some = absurd cc
none_begins kinds.LowerDepth u quiet some = some

-- a number that is counted to its end stays there
stays_few : (n more : ℕ) → more ≡ 0 → n ≤ MOST_COUNTED → min (n + more) MOST_COUNTED ≡ n
stays_few n more none few = omega (arith, none, few)

calm_by : (b nothing : Bool) → (nothing ≡ false → b ≡ false) → b && nothing ≡ b
calm_by b true stirred = and_true b
calm_by b false stirred = and_false b ∙ sym (stirred refl)

same_count : (c : SearchCount) (changes : ℕ) (calm : Bool) → changes ≡ c.changes → calm ≡ c.calm →
    record c { changes = changes; calm = calm } ≡ c
same_count c changes calm same_changes same_calm =
    ap (λ (n : ℕ). record c { changes = n; calm = calm }) same_changes
    ∙ ap (λ (b : Bool). record c { calm = b }) same_calm

module _ (kind : Kind) (s : CountsState) (sound : AreSoundCounts s) (quiet : touches_all kind ≡ false) where
  none_added : hops_added kind ≡ 0
  none_added = ap (λ (b : Bool). if b then 1 else 0) (first_fails (may_lengthen kind) (begins_change kind) quiet)

  -- that of a search which is over stays, and one that is calm stays so
  stays : (c : SearchCount) → c.changes ≤ MOST_COUNTED →
      (is_nothing s.under_way ≡ false → c.over ≡ false → c.calm ≡ false) →
      count_behind kind (change_after kind s.under_way) c ≡ c
  stays c few stirred = by c.over refl
    where
      by : (b : Bool) → c.over ≡ b → record c {
        changes = if b then c.changes else min (c.changes + hops_added kind) MOST_COUNTED;
        calm = if b then c.calm else c.calm && is_nothing (change_after kind s.under_way);
      } ≡ c
      by true is = refl
      by false is =
          same_count c (min (c.changes + hops_added kind) MOST_COUNTED)
          (c.calm && is_nothing (change_after kind s.under_way)) (stays_few c.changes (hops_added kind) none_added few)
          (calm_by c.calm (is_nothing (change_after kind s.under_way))
          (λ some. stirred (none_begins kind s.under_way (second_fails (may_lengthen kind) (begins_change kind) quiet)
          some) is))

  pub none_touched : map (count_behind kind (change_after kind s.under_way)) s.counts ≡ s.counts
  none_touched = map_fixed (count_behind kind (change_after kind s.under_way)) s.counts
      (λ place d within. stays (slice_index_or s.counts place d) (sound.few place d within)
      (λ some. sound.stirred some place d within))

-- ---- one count behind a step of any seat, and of its own

module _ (kind : Kind) (u : UnderWay) (c : SearchCount) where
  behind_few : c.changes ≤ MOST_COUNTED → (count_behind kind u c).changes ≤ MOST_COUNTED
  behind_few few = by c.over
    where
      by : (b : Bool) → (if b then c.changes else min (c.changes + hops_added kind) MOST_COUNTED) ≤ MOST_COUNTED
      by true = few
      by false = min-le_right _ MOST_COUNTED

  behind_stirred : is_nothing u ≡ false → (count_behind kind u c).over ≡ false → (count_behind kind u c).calm ≡ false
  behind_stirred some = by c.over refl
    where
      by : (b : Bool) → c.over ≡ b → c.over ≡ false → (if b then c.calm else c.calm && is_nothing u) ≡ false
      by true is going = absurd (true≢false (sym is ∙ going))
      by false is going = ap (λ (x : Bool). c.calm && x) some ∙ and_false c.calm

gone_few : (goes_on ends : Bool) (c : SearchCount) → c.changes ≤ MOST_COUNTED →
    (gone_count goes_on ends c).changes ≤ MOST_COUNTED
gone_few true ends c few = few
gone_few false ends c few = few

gone_calm : (goes_on ends : Bool) (c : SearchCount) → (gone_count goes_on ends c).calm ≡ c.calm
gone_calm true ends c = refl
gone_calm false ends c = refl

own_few : (begins goes_on ends : Bool) (u : UnderWay) (c : SearchCount) → c.changes ≤ MOST_COUNTED →
    (own_count begins goes_on ends u c).changes ≤ MOST_COUNTED
own_few true goes_on ends u c few = omega arith
own_few false goes_on ends u c few = by c.over
  where
    by : (b : Bool) → (if b then c else gone_count goes_on ends c).changes ≤ MOST_COUNTED
    by true = few
    by false = gone_few goes_on ends c few

own_stirred : (begins goes_on ends : Bool) (u : UnderWay) (c : SearchCount) → is_nothing u ≡ false →
    (c.over ≡ false → c.calm ≡ false) → (own_count begins goes_on ends u c).over ≡ false →
    (own_count begins goes_on ends u c).calm ≡ false
own_stirred true goes_on ends u c some stirred = λ going. some
own_stirred false goes_on ends u c some stirred = by c.over refl
  where
    by : (b : Bool) → c.over ≡ b → (if b then c else gone_count goes_on ends c).over ≡ false →
        (if b then c else gone_count goes_on ends c).calm ≡ false
    by true is going = stirred going
    by false is going = gone_calm goes_on ends c ∙ stirred is

-- none of these is done by the step
own_none : (u : UnderWay) (c : SearchCount) → own_count false false false u c ≡ c
own_none u c = by c.over refl
  where
    by : (b : Bool) → c.over ≡ b → (if b then c else gone_count false false c) ≡ c
    by true is = refl
    by false is = ap (λ (x : Bool). record c { over = x }) (sym is)

-- the count that stands for no seat
unseated : (kind : Kind) (u : UnderWay) → count_behind kind u no_count ≡ no_count
unseated kind u = refl

count_same : (counts : List SearchCount) (seat : ℕ) (c : SearchCount) → 1 ≤ seat → seat ≤ length counts →
    count_at (slice_set counts (seat - 1) c) seat ≡ c
count_same counts zero c some within = absurd (omega (arith, some))
count_same counts (suc place) c some within =
    ap (λ (n : ℕ). slice_index_or (slice_set counts n c) place no_count) less
    ∙ get_or-set_same counts place c no_count (omega (arith, within))
  where
    less : suc place - 1 ≡ place
    less = omega arith

count_other : (counts : List SearchCount) (seat other : ℕ) (c : SearchCount) → 1 ≤ seat → other ≢ seat →
    count_at (slice_set counts (seat - 1) c) other ≡ count_at counts other
count_other counts zero other c some apart = absurd (omega (arith, some))
count_other counts (suc place) zero c some apart = refl
count_other counts (suc place) (suc there) c some apart =
    ap (λ (n : ℕ). slice_index_or (slice_set counts n c) there no_count) less
    ∙ get_or-set_other counts place there c no_count (λ is. apart (ap suc is))
  where
    less : suc place - 1 ≡ place
    less = omega arith

count_behind_at : (kind : Kind) (u : UnderWay) (counts : List SearchCount) (seat : ℕ) →
    count_at (map (count_behind kind u) counts) seat ≡ count_behind kind u (count_at counts seat)
count_behind_at kind u counts zero = sym (unseated kind u)
count_behind_at kind u counts (suc place) =
    ap (λ (d : SearchCount). slice_index_or (map (count_behind kind u) counts) place d) (sym (unseated kind u))
    ∙ get_or-map (count_behind kind u) counts place no_count

-- the count of a seat by its place in the list
pub count_there : (counts : List SearchCount) (seat : ℕ) (c : SearchCount) → IsCountedSeat counts seat →
    c ≡ slice_index_or counts (seat - 1) c → c ≡ count_at counts seat
count_there counts zero c is at = absurd (let some = is.0 in omega (arith, some))
count_there counts (suc place) c is at =
    get_or_read counts (suc place - 1) c (let last = is.1 in omega (arith, last)) at no_count
    ∙ ap (λ (n : ℕ). slice_index_or counts n no_count) less
  where
    less : suc place - 1 ≡ place
    less = omega arith

-- ---- a step is counted

-- the list in its place, after the loop over a slice of it
pub written_over : {Z : Type 0} (v : Vec SearchCount Z) (kind : Kind) (u : UnderWay) (seen counts : List SearchCount) →
    seen ≡ v.items → counts ≡ map (count_behind kind u) seen →
    (with_items v counts).items ≡ map (count_behind kind u) v.items
written_over v kind u seen counts is_seen are_behind =
    with_items_is v counts (ap length behind ∙ length-map v.items (count_behind kind u) ∙ sym v.ok.0) ∙ behind
  where
    behind : counts ≡ map (count_behind kind u) v.items
    behind = are_behind ∙ ap (map (count_behind kind u)) is_seen

module _ (seat : ℕ) (kind : Kind) (begins goes_on ends : Bool) (old : CountsState) (c : SearchCount)
    (sound : AreSoundCounts old) (is : IsCountedSeat old.counts seat)
    (at : c ≡ slice_index_or old.counts (seat - 1) c) where
  abbrev now : UnderWay
  now = change_after kind old.under_way

  abbrev behind : List SearchCount
  behind = map (count_behind kind (change_after kind old.under_way)) old.counts

  -- its own count
  abbrev own_by : UnderWay → SearchCount
  own_by u = own_count begins goes_on ends u (count_behind kind u c)

  abbrev noted : CountsState
  noted = record {
    counts = slice_set (map (count_behind kind (change_after kind old.under_way)) old.counts) (seat - 1)
        (own_by (change_after kind old.under_way));
    under_way = change_after kind old.under_way;
  }

  -- what it is made of
  is_noted : (counts : List SearchCount) (own : SearchCount) (u : UnderWay) → u ≡ now →
      counts ≡ map (count_behind kind u) old.counts → own ≡ own_by u →
      noted ≡ record { counts = slice_set counts (seat - 1) own; under_way = u }
  is_noted counts own u is_now are_behind is_own =
      ap (λ (x : UnderWay). record {
        counts = slice_set (map (count_behind kind x) old.counts) (seat - 1) (own_by x);
        under_way = x;
      }) (sym is_now)
      ∙ ap (λ (xs : List SearchCount). record { counts = slice_set xs (seat - 1) (own_by u); under_way = u })
      (sym are_behind)
      ∙ ap (λ (x : SearchCount). record { counts = slice_set counts (seat - 1) x; under_way = u }) (sym is_own)

  many : length behind ≡ length old.counts
  many = length-map old.counts (count_behind kind now)

  there : seat - 1 < length old.counts
  there = let first = is.0 in let last = is.1 in omega (arith, first, last)

  few_there : c.changes ≤ MOST_COUNTED
  few_there = subst (λ (x : SearchCount). x.changes ≤ MOST_COUNTED) (sym at) (sound.few (seat - 1) c there)

  notes : Notes seat kind begins goes_on ends old noted
  notes = record {
    under_way = refl;
    as_many = length-set behind (seat - 1) (own_by now) ∙ many;
    own = count_same behind seat (own_by now) is.0
        (let last = is.1 in let as_many = many in omega (arith, last, as_many))
        ∙ ap (λ (x : SearchCount). own_count begins goes_on ends now (count_behind kind now x))
        (count_there old.counts seat c is at);
    others = λ other apart. count_other behind seat other (own_by now) is.0 apart
        ∙ count_behind_at kind now old.counts other;
  }

  noted_sound : AreSoundCounts noted
  noted_sound = record {
    few = All-set (λ (x : SearchCount). x.changes ≤ MOST_COUNTED) behind (seat - 1) (own_by now)
        (own_few begins goes_on ends now (count_behind kind now c) (behind_few kind now c few_there))
        (All-map (λ (x : SearchCount). x.changes ≤ MOST_COUNTED) (count_behind kind now) old.counts
        (λ place d within. behind_few kind now (slice_index_or old.counts place d) (sound.few place d within)));
    stirred = λ some. All-set (λ (x : SearchCount). x.over ≡ false → x.calm ≡ false) behind (seat - 1) (own_by now)
        (own_stirred begins goes_on ends now (count_behind kind now c) some (behind_stirred kind now c some))
        (All-map (λ (x : SearchCount). x.over ≡ false → x.calm ≡ false) (count_behind kind now) old.counts
        (λ place d within. behind_stirred kind now (slice_index_or old.counts place d) some));
  }

  pub counts_notes : (counts : List SearchCount) (own : SearchCount) (u : UnderWay) → u ≡ now →
      counts ≡ map (count_behind kind u) old.counts → own ≡ own_by u →
      Notes seat kind begins goes_on ends old (record { counts = slice_set counts (seat - 1) own; under_way = u })
  counts_notes counts own u is_now are_behind is_own =
      subst (Notes seat kind begins goes_on ends old) (is_noted counts own u is_now are_behind is_own) notes

  pub counts_sound : (counts : List SearchCount) (own : SearchCount) (u : UnderWay) → u ≡ now →
      counts ≡ map (count_behind kind u) old.counts → own ≡ own_by u →
      AreSoundCounts (record { counts = slice_set counts (seat - 1) own; under_way = u })
  counts_sound counts own u is_now are_behind is_own =
      subst AreSoundCounts (is_noted counts own u is_now are_behind is_own) noted_sound

-- ---- a step that changes no count

-- no change begins or ends by it
none_changes : (kind : Kind) (u : UnderWay) → begins_change kind ≡ false → ends_change kind ≡ false →
    u ≡ change_after kind u
none_changes kinds.Grant u begins ends = refl
none_changes kinds.Release u begins ends = refl
none_changes kinds.ReadDepth u begins ends = refl
none_changes kinds.ReadEntry u begins ends = refl
none_changes kinds.Look u begins ends = refl
none_changes kinds.Hop u begins ends = refl
none_changes kinds.WriteRecord u begins ends = refl
none_changes kinds.Decide u begins ends = refl
none_changes kinds.TakePage u begins ends = absurd cc
none_changes kinds.CopyDirectory u begins ends = refl
none_changes kinds.RaiseDepth u begins ends = refl
none_changes kinds.WriteNew u begins ends = refl
none_changes kinds.WriteOld u begins ends = refl
none_changes kinds.Retarget u begins ends = refl
none_changes kinds.SetCounts u begins ends = absurd cc
none_changes kinds.WriteLeft u begins ends = absurd cc
none_changes kinds.Tombstone u begins ends = refl
none_changes kinds.Convert u begins ends = refl
none_changes kinds.WriteFree u begins ends = refl
none_changes kinds.LinkFree u begins ends = absurd cc
none_changes kinds.LowerDepth u begins ends = refl

module _ (seat : ℕ) (kind : Kind) (s : CountsState) (sound : AreSoundCounts s) (is : IsCountedSeat s.counts seat)
    (quiet : counts_for_all kind ≡ false) where
  touches_none : touches_all kind ≡ false
  touches_none = first_fails (touches_all kind) (ends_change kind) quiet

  stays_under_way : s.under_way ≡ change_after kind s.under_way
  stays_under_way = none_changes kind s.under_way
      (second_fails (may_lengthen kind) (begins_change kind) touches_none)
      (second_fails (touches_all kind) (ends_change kind) quiet)

  pub other_stays : (other : ℕ) → count_at s.counts other ≡ count_behind kind s.under_way (count_at s.counts other)
  other_stays other =
      ap (λ (xs : List SearchCount). count_at xs other) (sym (none_touched kind s sound touches_none))
      ∙ count_behind_at kind (change_after kind s.under_way) s.counts other
      ∙ ap (λ (u : UnderWay). count_behind kind u (count_at s.counts other)) (sym stays_under_way)

  seat_noted : Notes seat kind false false false s s
  seat_noted = record {
    under_way = stays_under_way;
    as_many = refl;
    own = other_stays seat ∙ sym (own_none s.under_way (count_behind kind s.under_way (count_at s.counts seat)));
    others = λ other apart. other_stays other;
  }

  -- ---- a step that is counted for its own seat alone

  all_stay : s.counts ≡ map (count_behind kind s.under_way) s.counts
  all_stay = sym (ap (λ (u : UnderWay). map (count_behind kind u) s.counts) stays_under_way
      ∙ none_touched kind s sound touches_none)

  own_stays : (c : SearchCount) → c ≡ slice_index_or s.counts (seat - 1) c → c ≡ count_behind kind s.under_way c
  own_stays c at =
      count_there s.counts seat c is at ∙ other_stays seat
      ∙ ap (count_behind kind s.under_way) (sym (count_there s.counts seat c is at))

  pub own_notes : (begins goes_on ends : Bool) (c own : SearchCount) → c ≡ slice_index_or s.counts (seat - 1) c →
      own ≡ own_count begins goes_on ends s.under_way c →
      Notes seat kind begins goes_on ends s
      (record { counts = slice_set s.counts (seat - 1) own; under_way = s.under_way })
  own_notes begins goes_on ends c own at is_own =
      counts_notes seat kind begins goes_on ends s c sound is at s.counts own s.under_way stays_under_way all_stay
      (is_own ∙ ap (own_count begins goes_on ends s.under_way) (own_stays c at))

  pub own_sound : (begins goes_on ends : Bool) (c own : SearchCount) → c ≡ slice_index_or s.counts (seat - 1) c →
      own ≡ own_count begins goes_on ends s.under_way c →
      AreSoundCounts (record { counts = slice_set s.counts (seat - 1) own; under_way = s.under_way })
  own_sound begins goes_on ends c own at is_own =
      counts_sound seat kind begins goes_on ends s c sound is at s.counts own s.under_way stays_under_way all_stay
      (is_own ∙ ap (own_count begins goes_on ends s.under_way) (own_stays c at))

pub none_noted : (seat : ℕ) (kind : Kind) (begins goes_on ends : Bool) (s : CountsState) → AreSoundCounts s →
    IsCountedSeat s.counts seat → changes_counts kind begins goes_on ends ≡ false →
    Notes seat kind begins goes_on ends s s
none_noted seat kind true goes_on ends s sound is quiet = absurd cc
none_noted seat kind false true ends s sound is quiet = absurd cc
none_noted seat kind false false true s sound is quiet = absurd cc
none_noted seat kind false false false s sound is quiet = seat_noted seat kind s sound is quiet
