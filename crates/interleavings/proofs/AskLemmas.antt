-- A call that has not decided, beside a step of another seat.
use Rattle.std.proofs.Common.{ℕ, ◌≡◌, ◌≢◌, ◌+◌, inl, inr, refl, sym, ap, ◌∙◌, subst, Bool, true, false, Option, Some, None, take, arith}
use Rattle.std.specs.Prelude.{nat_lt}
use Rattle.std.specs.List.{Contains}
use Rattle.page_locks.specs.declared.lock.LockName.TheVariants as names_are
use Rattle.xsi_calls.specs.UndecidedBelow.{questions_facts}
use Rattle.xsi_calls.proofs.HeldLemmas.{is_among}
use Rattle.xsi_calls.specs.Knowing.{IsAsking, IsUndecidedIn, standing}
use Rattle.xsi_calls.specs.Undecided.{its_plan}
use Rattle.xsi_calls.specs.UndecidedWords.{IsCarrying, inserted, questions_locks}
use Rattle.interleavings.specs.SeatWords.{AreAlike, AreSameUnder, Call, Change, IsFiled, IsTrying, KnowsNear, PoolState, QuestionsView, RecordKey, Records, StandsAt, State, Table, Trials, guard_of, names_in, record_of, store_of}
use Rattle.interleavings.specs.Beside.{CountsUnder, LeavesSeat}
use Rattle.interleavings.specs.SeatLaws.{AsksUnderNewNames, CountsForOthers, StaysUndecided}
use Rattle.interleavings.proofs.BesideLemmas.{sees_on}
use Rattle.interleavings.proofs.SeatNameLemmas.{held_so, holds_names, is_held, questions_aside}
use Rattle.interleavings.proofs.PayLemmas.{carries_on}

-- ---- one that tries

-- over another system, records or file under its names
pub trying_over : (hash : RecordKey → ℕ) (seat : ℕ) (call : Call) (q : QuestionsView) (t : Trials) (s after : State)
    (records others : Records) (pool pool' : PoolState) (locks locks' : Table) (change change' : Change) →
    IsTrying hash seat call s q t records pool locks change → IsFiled after → KnowsNear call q after →
    IsCarrying hash seat q.names (its_plan call q) t.writes others pool' locks' change' →
    AreAlike (names_in q.names) others
    (inserted (take (standing t.writes.due) (its_plan call q).trials) (record_of after)) →
    IsTrying hash seat call after q t others pool' locks' change'
trying_over hash seat call q t s after records others pool pool' locks locks' change change' y filed knows carries
    alike = record {
      asked = y.asked;
      rests = y.rests;
      filed = filed;
      knows = knows;
      decision = y.decision;
      changes = y.changes;
      names = y.names;
      inserts = y.inserts;
      carries = carries;
      on_trial = y.on_trial;
      alike = alike;
    }

-- ---- beside a step of another seat

module _ (hash : RecordKey → ℕ) (seat : ℕ) (call : Call) (s : State) (q : QuestionsView) (records others : Records)
    (same : AreAlike (names_in q.names) records others) (pool pool' : PoolState) (locks locks' : Table)
    (change change' : Change) (leaves : LeavesSeat hash seat pool pool' locks locks' change change') where
  asks_on : CountsUnder (names_in q.names) (store_of pool'.images) s →
      IsAsking hash seat call s q records pool locks change → IsAsking hash seat call s q others pool' locks' change'
  asks_on counts a = record {
    faces = record {
      right = a.faces.right;
      sees = sees_on hash seat (questions_facts q) pool pool' locks locks' change change' leaves a.faces.sees;
      agrees = record {
        filed = a.faces.agrees.filed;
        stands = λ key under. leaves.stands key _ (held_so locks seat q.names
            (holds_names locks seat q.names (questions_locks q) a.row (questions_aside q.question q.names)) key
            (is_held q.names (guard_of key) under)) (a.faces.agrees.stands key under);
        counter = counts.counter;
        counts = counts.counts;
        given = counts.given;
      };
      knows = a.faces.knows;
    };
    row = leaves.row ∙ a.row;
    alike = λ key under. sym (same key under) ∙ a.alike key under;
  }

  same_under : AreSameUnder q.names records others
  same_under key mine = same key (is_among q.names (guard_of key) mine)

  tries_on : (t : Trials) → IsTrying hash seat call s q t records pool locks change →
      IsTrying hash seat call s q t others pool' locks' change'
  tries_on t y = trying_over hash seat call q t s s records others pool pool' locks locks' change change' y y.filed
      y.knows (carries_on hash seat pool pool' locks locks' change change' leaves q.names (its_plan call q) t.writes
      records others same_under y.carries) (λ key under. sym (same key under) ∙ y.alike key under)

  pub stays_in : (t : Option Trials) → CountsUnder (names_in q.names) (store_of pool'.images) s →
      IsUndecidedIn hash seat call s q t records pool locks change →
      IsUndecidedIn hash seat call s q t others pool' locks' change'
  stays_in None counts a = asks_on counts a
  stays_in (Some t) counts y = tries_on t y

pub stays_undecided : StaysUndecided
stays_undecided hash seat call s u records others same pool pool' locks locks' change change' leaves is counts =
    stays_in hash seat call s u.questions records others same pool pool' locks locks' change change' leaves u.trials
    counts is

-- ---- after its own step

pub asks_under_new_names : AsksUnderNewNames
asks_under_new_names hash seat call s q records pool locks change on sees row filed stands alike counts = record {
  faces = record {
    right = on.right;
    sees = sees;
    agrees = record {
      filed = filed;
      stands = λ key under. subst (StandsAt (store_of pool.images) key) (alike key under) (stands key under);
      counter = counts.counter;
      counts = counts.counts;
      given = counts.given;
    };
    knows = on.knows;
  };
  row = row;
  alike = alike;
}

-- ---- the Counter

module _ (id n : ℕ) where
  -- one id more tells the same of each other id
  pub one_more : id ≢ n → nat_lt id n ≡ nat_lt id (n + 1)
  one_more apart = by (nat_lt id n) refl
    where
      by : (b : Bool) → nat_lt id n ≡ b → b ≡ nat_lt id (n + 1)
      by true e = let more : nat_lt id (n + 1) ≡ true = grind (arith, e) in sym more
      by false e = let less : nat_lt id (n + 1) ≡ false = grind (arith, e, apart) in sym less

pub counts_for_others : CountsForOthers
counts_for_others names store s c apart = record {
  counter = c.counter;
  counts = c.counts;
  given = λ id has none. elim c.next [
    | inl same ↦ ap (nat_lt id) (sym same)
    | inr more ↦ one_more id c.counter.next_id (λ is. apart more
        (subst (λ (m : ℕ). Contains names (names_are.Queue m)) is has)) ∙ ap (nat_lt id) (sym more)
  ];
}
