-- Events one after the other: what each seat is told by them, and those that were played so far.
use Rattle.std.proofs.Common.{◌≡◌, refl, sym, ap, ◌∙◌, subst, ℕ, zero, suc, ◌+◌, ◌≤◌, List, [], ◌∷◌, ◌++◌, Option, drop, length, take, append-nil, append_assoc, length-append, arith}
use Rattle.std.proofs.lemmas.List.{nil_from_length}
use Rattle.std.proofs.lemmas.List.Elements.{All-tail, filter-append}
use Rattle.interleavings.specs.Words.{Call, Entry, KernelState, RecordKey, call_at, call_of, is_of, part_of, untold}
use Rattle.interleavings.specs.Runs.{AreOfSeats, Happens, IsLinearized, IsOfSeat, IsToldItsPart, Runs, last_call, told_along, told_by}
use Rattle.interleavings.specs.declared.event.Event.{Event}
use Rattle.interleavings.specs.declared.event.Outcome.{Outcome}
use Rattle.interleavings.proofs.EventLemmas.{HasLast, IsTold, event_keeps, event_tells}

-- ---- one event more

pub Runs-push : {K : Type 0} (hash : RecordKey → ℕ) (es : List Event) (os : List Outcome) (e : Event) (o : Outcome)
    (a b c : KernelState K) → Runs hash es os a b → Happens hash e o b c → Runs hash (es ++ e ∷ []) (os ++ o ∷ []) a c
Runs-push hash [] [] e o a b c same happens = record {
  between = c;
  first = subst (λ (k : KernelState _). Happens hash e o k c) same happens;
  rest = refl;
}
Runs-push hash [] (p ∷ os) e o a b c never happens = absurd never
Runs-push hash (f ∷ es) [] e o a b c never happens = absurd never
Runs-push hash (f ∷ es) (p ∷ os) e o a b c runs happens = record {
  between = runs.between;
  first = runs.first;
  rest = Runs-push hash es os e o runs.between b c runs.rest happens;
}

-- ---- what a seat is told

nothing_told : {K : Type 0} (seat : ℕ) (old new : KernelState K) → new ≡ old → IsTold seat [] old new
nothing_told {K} seat old new same = record {
  added = [];
  journal = ap (λ (k : KernelState K). k.journal) same ∙ sym (append-nil old.journal);
  owed = ap (λ (k : KernelState K). untold seat (call_at k.seats seat)) same
      ∙ sym (append-nil (untold seat (call_at old.seats seat)));
}

told_then : {K : Type 0} (seat : ℕ) (first rest : List Entry) (a b c : KernelState K) → IsTold seat first a b →
    IsTold seat rest b c → IsTold seat (first ++ rest) a c
told_then seat first rest a b c before behind =
    let owed_a = untold seat (call_at a.seats seat) in
    let owed_b = untold seat (call_at b.seats seat) in
    let owed_c = untold seat (call_at c.seats seat) in
    record {
      added = before.added ++ behind.added;
      journal = behind.journal ∙ ap (λ (es : List Entry). es ++ behind.added) before.journal
          ∙ append_assoc a.journal before.added behind.added;
      owed = append_assoc first rest owed_c
          ∙ ap (λ (es : List Entry). first ++ es) behind.owed
          ∙ sym (append_assoc first owed_b (part_of seat behind.added))
          ∙ ap (λ (es : List Entry). es ++ part_of seat behind.added) before.owed
          ∙ append_assoc owed_a (part_of seat before.added) (part_of seat behind.added)
          ∙ ap (λ (es : List Entry). owed_a ++ es)
          (sym (filter-append (is_of seat) before.added behind.added));
    }

tells_along : {K : Type 0} (hash : RecordKey → ℕ) (seat : ℕ) (es : List Event) (os : List Outcome)
    (last : Option Call) (old new : KernelState K) → HasLast seat last old → Runs hash es os old new →
    IsTold seat (told_along seat last es os) old new
tells_along hash seat [] [] last old new has same = nothing_told seat old new same
tells_along hash seat [] (o ∷ os) last old new has never = absurd never
tells_along hash seat (e ∷ es) [] last old new has never = absurd never
tells_along hash seat (e ∷ es) (o ∷ os) last old new has runs =
    let first = event_tells hash seat e o last old runs.between has runs.first in
    told_then seat (told_by seat e o last) (told_along seat (last_call seat e o last) es os) old runs.between new
    first.told (tells_along hash seat es os (last_call seat e o last) runs.between new first.has runs.rest)

pub tells_its_part : {K : Type 0} (hash : RecordKey → ℕ) (es : List Event) (os : List Outcome)
    (old new : KernelState K) → Runs hash es os old new → (seat : ℕ) → IsToldItsPart seat es os old new
tells_its_part hash es os old new runs seat =
    let all = tells_along hash seat es os (call_of (call_at old.seats seat)) old new (λ some. refl) runs in
    record { added = all.added; journal = all.journal; told = all.owed }

-- ---- a moment of a run

record IsCut {K : Type 0} (hash : RecordKey → ℕ) (first rest : List Event) (first_os rest_os : List Outcome)
    (old new : KernelState K) : Type 0 where
  pub between : KernelState K
  pub before : Runs hash first first_os old between
  pub behind : Runs hash rest rest_os between new

cut : {K : Type 0} (hash : RecordKey → ℕ) (many : ℕ) (es : List Event) (os : List Outcome) (old new : KernelState K) →
    Runs hash es os old new → IsCut hash (take many es) (drop many es) (take many os) (drop many os) old new
cut hash zero es os old new runs = record { between = old; before = refl; behind = runs }
cut hash (suc n) [] [] old new same = record { between = old; before = refl; behind = same }
cut hash (suc n) [] (o ∷ os) old new never = absurd never
cut hash (suc n) (e ∷ es) [] old new never = absurd never
cut hash (suc n) (e ∷ es) (o ∷ os) old new runs =
    let rest = cut hash n es os runs.between new runs.rest in
    record {
      between = rest.between;
      before = record { between = runs.between; first = runs.first; rest = rest.before };
      behind = rest.behind;
    }

pub linearizes : {K : Type 0} (hash : RecordKey → ℕ) (es : List Event) (os : List Outcome) (old new : KernelState K) →
    Runs hash es os old new → IsLinearized hash es os old new
linearizes hash es os old new runs many =
    let at = cut hash many es os old new runs in
    record {
      between = at.between;
      before = at.before;
      behind = at.behind;
      told_before = tells_its_part hash (take many es) (take many os) old at.between at.before;
      told_behind = tells_its_part hash (drop many es) (drop many os) at.between new at.behind;
    }

-- ---- those that were played so far

pub record HavePlayed {K : Type 0} (hash : RecordKey → ℕ) (all played left : List Event) (many : ℕ)
    (os : List Outcome) (room : ℕ) (old now : KernelState K) : Type 0 where
  pub runs : Runs hash played os old now
  -- all are those, and so many that are left
  pub are_all : all ≡ played ++ left
  pub as_many : length left ≡ many
  pub seats : AreOfSeats (length now.locks) left
  pub keys : now.keys ≡ old.keys
  -- there is room for what comes of them
  pub fits : length os + length left ≤ room

module _ {K : Type 0} (of : K → RecordKey → ℕ) (all played left : List Event) (many : ℕ) (os : List Outcome)
    (room : ℕ) (old now : KernelState K) (so_far : HavePlayed (of old.keys) all played left many os room old now) where
  module _ (e : Event) (rest : List Event) (is : left ≡ e ∷ rest) where
    pub one_more : (o : Outcome) (fewer : ℕ) (os' : List Outcome) (room' : ℕ) (new : KernelState K) →
        Happens (of now.keys) e o now new → fewer + 1 ≡ many → os' ≡ os ++ o ∷ [] → room ≤ room' →
        HavePlayed (of old.keys) all (played ++ e ∷ []) rest fewer os' room' old new
    one_more o fewer os' room' new happens less pushed grown =
        let keeps = event_keeps (of now.keys) e o now new happens in
        record {
          runs = subst (λ (ps : List Outcome). Runs (of old.keys) (played ++ e ∷ []) ps old new) (sym pushed)
              (Runs-push (of old.keys) played os e o old now new so_far.runs
              (subst (λ (keys : K). Happens (of keys) e o now new) so_far.keys happens));
          are_all = so_far.are_all ∙ ap (λ (es : List Event). played ++ es) is
              ∙ sym (append_assoc played (e ∷ []) rest);
          as_many =
              let long = ap length is in
              let many_left = so_far.as_many in
              omega (arith, long, many_left, less);
          seats = subst (λ (n : ℕ). AreOfSeats n rest) (sym keeps.seats)
              (All-tail (IsOfSeat (length now.locks)) e rest
              (subst (AreOfSeats (length now.locks)) is so_far.seats));
          keys = keeps.keys ∙ so_far.keys;
          fits =
              let long = ap length is in
              let more = ap length pushed ∙ length-append os (o ∷ []) in
              let fits = so_far.fits in
              omega (arith, long, more, fits, grown);
        }

  pub all_played : many ≡ 0 → Runs (of old.keys) all os old now
  all_played is =
      let none = nil_from_length left (so_far.as_many ∙ is) in
      subst (λ (es : List Event). Runs (of old.keys) es os old now)
      (sym (so_far.are_all ∙ ap (λ (es : List Event). played ++ es) none ∙ append-nil played)) so_far.runs
