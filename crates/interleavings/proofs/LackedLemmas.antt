-- A seat is told that a record has no room where, at a moment since its call began, that had one to insert.
use Rattle.std.proofs.Common.{ℕ, zero, suc, ◌≡◌, ◌≢◌, inl, inr, refl, sym, ap, ◌∙◌, subst, Bool, true, false, ◌&&◌, ◌||◌, IsSome, List, [], ◌∷◌, ◌++◌, Option, Some, None, append_assoc, drop, length, take}
use Rattle.std.specs.Prelude.{slice_get}
use Rattle.std.proofs.lemmas.List.Elements.{All-take}
use Rattle.std.proofs.lemmas.Option.{none-some, same_Some}
use Rattle.interleaving_core.specs.Kernel.{locks_of}
use Rattle.queue_model.specs.Rules.{AddsTo}
use Rattle.interleavings.specs.Words.{ActiveView, Call, Caller, Entry, KernelState, RecordKey, State, after, call_at, call_of, outcome}
use Rattle.interleavings.specs.Laws.{EventsRefine, StepsRefine, StepsRefineAndDo}
use Rattle.interleavings.specs.Moments.{HaveStood, IsInTheWayOf, LackedRoom, calls_so_far}
use Rattle.interleavings.specs.Outcomes.{begins_along, call_along, call_under_way, is_begun, lapsed_by, may_hold_locks}
use Rattle.interleavings.specs.Refining.{Refines}
use Rattle.interleavings.specs.Rooms.{FindsAlong, FindsBy}
use Rattle.interleavings.specs.Runs.{AreOfSeats, Happens, IsOfSeat, Runs, is_at}
use Rattle.interleavings.specs.declared.event.Event.{Event}
use Rattle.interleavings.specs.declared.event.Event.TheVariants as events
use Rattle.interleavings.specs.declared.event.Outcome.{Outcome}
use Rattle.interleavings.specs.declared.event.Outcome.TheVariants as outcomes
use Rattle.interleavings.proofs.EventLemmas.{places_along}
use Rattle.interleavings.proofs.FindingLemmas.{LacksIn, lacks_by}
use Rattle.interleavings.proofs.NoRoomLemmas.{LacksSoundly, event_told}
use Rattle.interleavings.proofs.OnWayLemmas.{still_from_none}
use Rattle.interleavings.proofs.RoomLemmas.{finds_along}
use Rattle.interleavings.proofs.RunLemmas.{tells_its_part}
use Rattle.interleavings.proofs.SettleLemmas.{and_false}
use Rattle.interleavings.proofs.UnderWayLemmas.{call_on, leaves_along}

-- ---- lists

take_twice : {X : Type 0} (n : ℕ) (xs : List X) → take n (take n xs) ≡ take n xs
take_twice zero xs = refl
take_twice (suc n) [] = refl
take_twice (suc n) (x ∷ xs) = ap (λ ys. x ∷ ys) (take_twice n xs)

drop_taken : {X : Type 0} (n : ℕ) (xs : List X) → drop n (take n xs) ≡ []
drop_taken zero xs = refl
drop_taken (suc n) [] = refl
drop_taken (suc n) (x ∷ xs) = drop_taken n xs

grows_on : (a b c x y : List Entry) → b ≡ a ++ x → c ≡ b ++ y → c ≡ a ++ (x ++ y)
grows_on a b c x y first then = then ∙ ap (λ es. es ++ y) first ∙ append_assoc a x y

-- by an event that begins no call
not_begun : (seat j : ℕ) (es : List Event) (os : List Outcome) (e : Event) (o : Outcome) → slice_get es j ≡ Some e →
    slice_get os j ≡ Some o → is_begun o ≡ false →
    begins_along seat (drop (suc j) es) (drop (suc j) os) ≡ false →
    begins_along seat (drop j es) (drop j os) ≡ false
not_begun seat zero [] os e o is_e is_o not rest = absurd cc
not_begun seat zero (x ∷ es) [] e o is_e is_o not rest = absurd cc
not_begun seat zero (x ∷ es) (y ∷ os) e o is_e is_o not rest =
    let none = ap is_begun (same_Some y o is_o) ∙ not in
    ap (λ (b : Bool). (is_at seat x && b) || begins_along seat es os) none
    ∙ ap (λ (b : Bool). b || begins_along seat es os) (and_false (is_at seat x)) ∙ rest
not_begun seat (suc j) [] os e o is_e is_o not rest = absurd cc
not_begun seat (suc j) (x ∷ es) [] e o is_e is_o not rest = absurd cc
not_begun seat (suc j) (x ∷ es) (y ∷ os) e o is_e is_o not rest = not_begun seat j es os e o is_e is_o not rest

-- ---- after events from a kernel without calls

module _ {K : Type 0} (does : StepsRefineAndDo K) (steps : StepsRefine K) (lead : EventsRefine K) (hash : RecordKey → ℕ)
    (base : State) (callers : List Caller) (es : List Event) (os : List Outcome) (old before behind : KernelState K)
    (led : Refines hash base old) (none : (seat : ℕ) → call_at old.seats seat ≡ None) (sit : old.callers ≡ callers)
    (are : AreOfSeats (length old.locks) es) (are_seats : AreOfSeats (length old.seats) es)
    (stood : (many : ℕ) (k : KernelState K) → Runs hash (take many es) (take many os) old k →
    HaveStood many es os k.journal) (first : Runs hash es os old before) (grown : List Entry)
    (journal : behind.journal ≡ before.journal ++ grown) (seat : ℕ) where
  module _ (many : ℕ) (k : KernelState K) (runs : Runs hash (take many es) (take many os) old k)
      (lacks : LacksIn base seat k) where
    those : AreOfSeats (length old.seats) (take many es)
    those = All-take (IsOfSeat (length old.seats)) many es are_seats

    under_way : (other : ℕ) → call_on other k ≡ call_under_way other (take many es) (take many os)
    under_way other = leaves_along hash other (take many es) (take many os) old k those runs
        ∙ ap (λ (c : Option Call). call_along other c (take many es) (take many os)) (ap call_of (none other))

    its_callers : k.callers ≡ callers
    its_callers = (places_along hash (take many es) (take many os) old k runs).callers ∙ sit

    -- one that is not in its way holds nothing
    free : ((other : ℕ) → IsInTheWayOf seat other (calls_so_far (take many es) (take many os)) → ⊥) → (other : ℕ) →
        other ≢ seat → locks_of (call_at k.seats other) ≡ []
    free alone other apart = by (may_hold_locks other (take many es) (take many os)) refl (call_at k.seats other) refl
      where
        by : (b : Bool) → may_hold_locks other (take many es) (take many os) ≡ b → (at : Option ActiveView) →
            call_at k.seats other ≡ at → locks_of at ≡ []
        by b is None there = refl
        by true is (Some a) there = absurd (alone other (record {
          another = apart;
          there = subst IsSome (sym (ap call_of there) ∙ under_way other) refl;
          moved = is;
        }))
        by false is (Some a) there = ap locks_of (sym there)
            ∙ (still_from_none hash (take many es) (take many os) old k those runs none lacks.sound other).unmoved is

    lacked_at : begins_along seat (drop many es) (drop many os) ≡ false → (later : List Entry) →
        behind.journal ≡ k.journal ++ later → LackedRoom callers base seat es os behind.journal
    lacked_at same later is = record {
      many = many;
      same = same;
      call = lacks.call;
      under_way = sym (under_way seat) ∙ lacks.there;
      moment = record { stood = k.journal; later = later; journal_is = is; was = stood many k runs };
      caller = lacks.caller;
      answer = lacks.answer;
      then = lacks.then;
      comes = ap (λ (cs : List Caller). outcome lacks.caller lacks.call (after cs k.journal base)) (sym its_callers)
          ∙ lacks.comes;
      adds = subst (λ (cs : List Caller). AddsTo (after cs k.journal base) lacks.answer) its_callers lacks.adds;
      full = λ alone. lacks.full (free alone);
    }

  -- by the event itself
  found_now : (e : Event) (o : Outcome) → FindsBy hash base seat e o before behind → (many : ℕ) →
      take many es ≡ es → take many os ≡ os → drop many es ≡ [] →
      LackedRoom callers base seat es os behind.journal
  found_now e o finds many all_es all_os past =
      lacked_at many before (subst (λ (xs : List Event). Runs hash xs (take many os) old before) (sym all_es)
      (subst (λ (xs : List Outcome). Runs hash es xs old before) (sym all_os) first))
      (lacks_by hash base seat e o before behind finds)
      (ap (λ (xs : List Event). begins_along seat xs (drop many os)) past) grown journal

  no_begin : (e : Event) (o : Outcome) (k new : KernelState K) → FindsBy hash base seat e o k new → is_begun o ≡ false
  no_begin (events.Step other) (outcomes.Stepped did) k new finds = refl
  no_begin (events.Drive other) (outcomes.Driven did) k new finds = refl
  no_begin _ _ k new never = absurd never

  -- or by one before it
  found_before : FindsAlong hash base seat es os old before → LackedRoom callers base seat es os behind.journal
  found_before found =
      let here = tells_its_part hash (found.event ∷ []) (found.outcome ∷ []) found.before found.behind
      (record { between = found.behind; first = found.happens; rest = refl }) 0 in
      let rest = tells_its_part hash (drop (suc found.many) es) (drop (suc found.many) os) found.behind before
      found.rest 0 in
      let so_far = grows_on found.before.journal found.behind.journal before.journal here.added rest.added here.journal
      rest.journal in
      lacked_at found.many found.before found.first
      (lacks_by hash base seat found.event found.outcome found.before found.behind found.finds)
      (not_begun seat found.many es os found.event found.outcome found.is_event found.is_outcome
      (no_begin found.event found.outcome found.before found.behind found.finds) found.same)
      ((here.added ++ rest.added) ++ grown)
      (grows_on found.before.journal before.journal behind.journal (here.added ++ rest.added) grown so_far journal)

  pub lacked_before : LacksSoundly seat before → LackedRoom callers base seat es os behind.journal
  lacked_before lacks = elim (finds_along does steps lead hash base seat es os old before are led first lacks.sound
      lacks.at) [
        | inl had ↦ absurd (none-some had.at.active (sym (none seat) ∙ had.at.there))
        | inr found ↦ found_before found
      ]

-- it is told so by an event after so many of these
pub lacked_told : {K : Type 0} → StepsRefineAndDo K → StepsRefine K → EventsRefine K → (hash : RecordKey → ℕ)
    (base : State) (callers : List Caller) (es : List Event) (os : List Outcome) (many : ℕ)
    (old before behind : KernelState K) (led : Refines hash base old) → ((seat : ℕ) → call_at old.seats seat ≡ None) →
    old.callers ≡ callers → AreOfSeats (length old.locks) es → AreOfSeats (length old.seats) es →
    ((n : ℕ) (k : KernelState K) → Runs hash (take n (take many es)) (take n (take many os)) old k →
    HaveStood n (take many es) (take many os) k.journal) → Runs hash (take many es) (take many os) old before →
    (e : Event) (o : Outcome) → Refines hash base before → IsOfSeat (length before.locks) e →
    Happens hash e o before behind → (seat : ℕ) → is_at seat e ≡ true → lapsed_by o ≡ 1 →
    LackedRoom callers base seat (take many es) (take many os) behind.journal
lacked_told {K} does steps lead hash base callers es os many old before behind led none sit are are_seats stood first
    e o led_before its_seat happens seat here lapses =
    let grown = tells_its_part hash (e ∷ []) (o ∷ []) before behind
    (record { between = behind; first = happens; rest = refl }) 0 in
    let rows = All-take (IsOfSeat (length old.locks)) many es are in
    let seats = All-take (IsOfSeat (length old.seats)) many es are_seats in
    elim (event_told does steps hash base seat before behind led_before e o its_seat happens here lapses) [
      | inl lacks ↦ lacked_before does steps lead hash base callers (take many es) (take many os) old before behind led
          none sit rows seats stood first grown.added grown.journal seat lacks
      | inr finds ↦ found_now does steps lead hash base callers (take many es) (take many os) old before behind led
          none sit rows seats stood first grown.added grown.journal seat e o finds many (take_twice many es)
          (take_twice many os) (drop_taken many es)
    ]
