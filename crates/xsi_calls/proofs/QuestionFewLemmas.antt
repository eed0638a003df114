-- A call that asks has few steps left wherever it is.
use Rattle.std.proofs.Common.{ℕ, ◌≤◌, ◌+◌, ◌*◌, Bool, true, false, not, ◌&&◌, Option, Some, None, if◌then◌else◌, arith}
use Rattle.xsi_calls.proofs.HeldTurnLemmas.{are_few_turns}
use Rattle.queue_model.specs.declared.call.Call.TheVariants as calls
use Rattle.call_writes.proofs.of_record_file.AccessNames.{has_few_steps}
use Rattle.call_writes.specs.record_file.AccessWords.{MOST_STEPS}
use Rattle.xsi_inquiry.specs.Telling.{most_asked}
use Rattle.xsi_calls.specs.declared.question.Question.{Question}
use Rattle.xsi_calls.specs.QuestionWords.{Call, Change, MAX_NAMES, PoolState, RecordKey, Sees, State, Store, Table, access_left, has_set_out, left_of, names_for, names_left, store_of}
use Rattle.xsi_calls.specs.Questions.{ROUND_STEPS, QuestionsView, asks_more, facts_of, left_behind, questions_left, untold}
use Rattle.xsi_calls.specs.QuestionSteps.{Faces}
use Rattle.xsi_calls.proofs.GoingLemmas.{few_of, round_of}
use Rattle.xsi_calls.proofs.QuestionHeldLemmas.{in_order}
use Rattle.xsi_calls.proofs.QuestionNames.{take_in_order}

-- those of one question as far as others may have moved what it looks for, and of the questions behind it
abbrev pub MOST_QUESTIONS_LEFT : ℕ
MOST_QUESTIONS_LEFT = 155024

few_asked : (call : Call) → most_asked call ≤ 1027
few_asked (calls.Get a) = omega arith
few_asked (calls.Send a) = omega arith
few_asked (calls.Receive a) = omega arith
few_asked (calls.Stat id) = omega arith
few_asked (calls.Set a) = omega arith
few_asked (calls.Remove id) = omega arith

few_untold : (o : Option Question) → untold o ≤ 1
few_untold None = omega arith
few_untold (Some q) = by (has_set_out q.access) q.told
  where
    by : (begun told : Bool) → (if begun && not told then 1 else 0) ≤ 1
    by false told = omega arith
    by true true = omega arith
    by true false = omega arith

few_round : (told : Bool) → round_of told ≤ ROUND_STEPS
few_round true = omega arith
few_round false = omega arith

module _ (hash : RecordKey → ℕ) (seat : ℕ) (call : Call) (s : State) (v : QuestionsView) (pool : PoolState)
    (locks : Table) (change : Change) (f : Faces hash seat call s v pool locks change) where
  abbrev file : Store
  file = store_of pool.images

  few_names : names_left v.names (names_for call v.inquiry) ≤ 2 * MAX_NAMES
  few_names = are_few_turns v.names (names_for call v.inquiry) (in_order call v.names f.right.names)
      (take_in_order call v.inquiry)

  few_behind : (o : Option Question) → Sees hash seat (facts_of o) pool locks change →
      left_behind o call v file ≤ MOST_STEPS + ROUND_STEPS
  few_behind None sees =
      let names = few_names in
      let asks = few_of (asks_more call v.inquiry) in
      omega (arith, names, asks)
  few_behind (Some q) sees =
      let access : access_left q.access file ≤ MOST_STEPS =
      has_few_steps hash seat q.access.operation pool locks change sees in
      let told = few_round q.told in
      omega (arith, access, told)

  pub few_left : questions_left call v file ≤ MOST_QUESTIONS_LEFT
  few_left =
      let behind = few_behind v.question f.sees in
      let asked = few_asked call in
      let one = few_untold v.question in
      let few = f.right.few in
      let left : left_of call v.inquiry ≤ 1028 = omega (arith, asked, one, few) in
      omega (arith, behind, left)
