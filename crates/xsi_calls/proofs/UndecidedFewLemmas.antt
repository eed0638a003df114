-- The names that a call holds until its Decide are its own, and it has few steps left wherever it is.
use Rattle.std.proofs.Common.{ℕ, zero, suc, ◌≤◌, List, [], ◌∷◌, length, drop, Option, Some, None, sym, subst, arith}
use Rattle.xsi_calls.proofs.QuestionFewLemmas.{few_left as few_questions}
use Rattle.xsi_calls.proofs.QuestionHeldLemmas.{all_held}
use Rattle.xsi_calls.proofs.ToldLemmas.{all_told, told_names_in}
use Rattle.xsi_calls.proofs.WriteFewLemmas.{few_left as few_writes}
use Rattle.call_writes.specs.declared.due.Due.TheVariants.{Undoing, Writing}
use Rattle.xsi_inquiry.proofs.AgreeLemmas.{agrees_itself}
use Rattle.xsi_inquiry.specs.declared.write.TheConstants.{MAX_TRIALS}
use Rattle.xsi_calls.specs.ToldNames.{AreNamesIn, AreTold}
use Rattle.xsi_calls.specs.Undecided.{Trials, UndecidedCall, its_plan, left_in, undecided_left}
use Rattle.xsi_calls.specs.UndecidedWords.{AreNamesOf, Call, Change, Due, Full, Plan, PoolState, QuestionsView, RecordKey, Records, State, Table, Trying, store_of}
use Rattle.xsi_calls.specs.Knowing.{IsOnTrial, IsUndecided, IsUndecidedIn}
use Rattle.xsi_calls.proofs.UndecidedNames.{IsSmall, deeds_left, few_of}

-- those of what it asks, and of its trials
abbrev pub MOST_UNDECIDED_LEFT : ℕ
MOST_UNDECIDED_LEFT = 434202

few_behind : {X : Type 0} (place : ℕ) (xs : List X) → length (drop place xs) ≤ length xs
few_behind zero xs = omega arith
few_behind (suc place) [] = omega arith
few_behind (suc place) (x ∷ xs) = let less = few_behind place xs in omega (arith, less)

few_trials : (p : Plan) (due : Due) → IsSmall p → IsOnTrial due → deeds_left p due ≤ MAX_TRIALS
few_trials p (Trying place) small on =
    let less = few_behind place p.trials in let few = small.trials in omega (arith, less, few)
few_trials p (Full place) small on = omega arith
few_trials p (Undoing place) small on = absurd on
few_trials p (Writing from) small on = absurd on

module _ (hash : RecordKey → ℕ) (seat : ℕ) (call : Call) (s : State) (q : QuestionsView) (records : Records)
    (pool : PoolState) (locks : Table) (change : Change) where
  its_names : (o : Option Trials) → IsUndecidedIn hash seat call s q o records pool locks change →
      AreNamesOf call q.names
  its_names None is = is.faces.right.names
  its_names (Some t) is = all_held call q.inquiry q.names is.names

  -- and those that it takes by what it was told are the system's
  names_in_system : (o : Option Trials) → IsUndecidedIn hash seat call s q o records pool locks change →
      AreNamesIn call q.inquiry s q.names
  names_in_system None is = told_names_in call q.inquiry q.room s q.names
      (is.faces.knows s is.faces.agrees.filed (agrees_itself call _ s)) is.faces.right.told
  names_in_system (Some t) is = told_names_in call q.inquiry q.room s q.names
      (is.knows s is.filed (agrees_itself call _ s))
      (subst (AreTold call q.inquiry) (sym is.names) (all_told call q.inquiry))

  few_in : (o : Option Trials) → IsUndecidedIn hash seat call s q o records pool locks change →
      left_in call q o (store_of pool.images) ≤ MOST_UNDECIDED_LEFT
  few_in None is =
      let few = few_questions hash seat call s q pool locks change is.faces in omega (arith, few)
  few_in (Some t) is =
      let few = few_writes hash seat pool locks change q.names (its_plan call q) t.writes records MAX_TRIALS is.carries
      (few_trials (its_plan call q) t.writes.due (few_of call q.inquiry) is.on_trial) in
      omega (arith, few)

pub undecided_names : (hash : RecordKey → ℕ) (seat : ℕ) (call : Call) (s : State) (u : UndecidedCall)
    (records : Records) (pool : PoolState) (locks : Table) (change : Change) →
    IsUndecided hash seat call s u records pool locks change → AreNamesOf call u.questions.names
undecided_names hash seat call s u records pool locks change is =
    its_names hash seat call s u.questions records pool locks change u.trials is

pub undecided_names_in : (hash : RecordKey → ℕ) (seat : ℕ) (call : Call) (s : State) (u : UndecidedCall)
    (records : Records) (pool : PoolState) (locks : Table) (change : Change) →
    IsUndecided hash seat call s u records pool locks change →
    AreNamesIn call u.questions.inquiry s u.questions.names
undecided_names_in hash seat call s u records pool locks change is =
    names_in_system hash seat call s u.questions records pool locks change u.trials is

pub few_undecided : (hash : RecordKey → ℕ) (seat : ℕ) (call : Call) (s : State) (u : UndecidedCall)
    (records : Records) (pool : PoolState) (locks : Table) (change : Change) →
    IsUndecided hash seat call s u records pool locks change →
    undecided_left call u (store_of pool.images) ≤ MOST_UNDECIDED_LEFT
few_undecided hash seat call s u records pool locks change is =
    few_in hash seat call s u.questions records pool locks change u.trials is
