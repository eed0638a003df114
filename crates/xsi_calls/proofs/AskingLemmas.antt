-- The first step of a question is one of the call.
use Rattle.std.proofs.Common.{ℕ, ◌≡◌, ◌<◌, Bool, true, false, not, ◌||◌, ◌&&◌, List, [], Option, Some, None, refl, sym, ap, ◌∙◌, subst}
use Rattle.std.proofs.lemmas.Bool.{true≢false}
use Rattle.std.specs.Option.{is_some}
use Rattle.file_pages.specs.declared.fault.FileFault.{FileFault}
use Rattle.xsi_calls.specs.declared.turn.NameTurn.{NameTurn}
use Rattle.xsi_inquiry.proofs.AgreeLemmas.{agrees_itself}
use Rattle.xsi_calls.proofs.HeldTurnLemmas.{turns_are_right, turns_come_nearer}
use Rattle.xsi_calls.specs.declared.question.Question.{Question}
use Rattle.xsi_calls.specs.declared.questions.Questions.{Questions}
use Rattle.xsi_calls.specs.QuestionWords.{RecordKey, PoolState, Table, Lock, Change, Store, store_of, with_row, NearsOrSpares, Progress, Moved, Blocked, Fault, Ended, Step, ToFind, begun, AnyInquiry, asked_of, left_of, names_in, names_for, name_turn, names_left, Ready, Call, State, Roomful, Wanted}
use Rattle.xsi_calls.specs.Answering.{IsAskedUnder, key_asked}
use Rattle.xsi_calls.specs.Questions.{IsRightQuestion, QuestionsView, asks_more, changes, has_asked, is_ready, questions_facts, questions_left, questions_locks, turn_of_names}
use Rattle.xsi_calls.specs.QuestionSteps.{BeginsNext, Faces, MakesQuestions, Rests, is_blocked}
use Rattle.xsi_calls.specs.Parts.{asked_with}
use Rattle.xsi_calls.proofs.AskLemmas.{asks_under}
use Rattle.xsi_calls.proofs.KnowLemmas.{may_read}
use Rattle.xsi_calls.proofs.LeftLemmas.{asks_leave}

module _ (hash : RecordKey → ℕ) (seat : ℕ) (call : Call) (i : AnyInquiry) (room : Roomful) (held : List Lock)
    (searches : ℕ) (wanted : Wanted) (asked : asked_of call i ≡ Some wanted)
    (turn : name_turn held (names_for call i) ≡ Ready) where
  abbrev before : QuestionsView
  before = record { inquiry = i; room = room; names = held; question = None; finds = searches }

  abbrev pub first_of : ℕ → Question
  first_of k = record { access = begun (ToFind (key_asked wanted)) k; told = false }

  abbrev pub begins_with : ℕ → QuestionsView
  begins_with k = record { inquiry = i; room = room; names = held; question = Some (first_of k); finds = searches }

  all_held : held ≡ names_for call i
  all_held = (turns_are_right held (names_for call i)).ready.0 turn

  asks_on : asks_more call i ≡ true
  asks_on = ap is_some asked

  not_done : has_asked call before ≡ false
  not_done = ap (λ (b : Bool). not b && (not (changes call i) || is_ready (name_turn held (names_for call i)))) asks_on

  module _ (k : ℕ) (keyed : hash (key_asked wanted) ≡ k) (pool : PoolState) (locks : Table) where
    right_question : 0 < left_of call i → IsRightQuestion hash call (begins_with k) (first_of k)
    right_question left = record {
      keyed = keyed;
      may_read = may_read _ wanted
          (subst (λ (ls : List Lock). IsAskedUnder
          (names_in ls) wanted) (sym all_held) (asks_under call i wanted asked));
      asked = λ untold. record {
        wanted = wanted;
        asked = asked;
        key = refl;
        names = all_held;
        left = left;
        unanswered = refl;
      };
      first = λ unset. refl;
    }

    faces : (s : State) (change : Change) → Faces hash seat call s before pool locks change →
        Faces hash seat call s (begins_with k) pool locks change
    faces s change f = record {
      right = record {
        question = right_question (asks_leave call i room s f.agrees.filed wanted asked
            (f.knows s f.agrees.filed (agrees_itself call _ s)));
        begins = f.right.begins;
        grows = f.right.grows;
        names = f.right.names;
        told = f.right.told;
        apart = f.right.apart;
        few = f.right.few;
      };
      sees = f.sees;
      agrees = f.agrees;
      knows = f.knows;
    }

    same_left : (s : Store) → questions_left call before s ≡ questions_left call (begins_with k) s
    same_left s =
        let none : names_left held (names_for call i) ≡ 0 =
        (turns_come_nearer held (names_for call i)).ready.1 all_held in
        rw (none, asks_on) refl

    -- it is that of the question, from the call without it
    pub first_step : (did : Progress FileFault) (new : QuestionsView) (pool' : PoolState) (locks' : Table) →
        MakesQuestions hash seat call did (begins_with k) new pool pool' locks locks' → is_blocked did ≡ false →
        MakesQuestions hash seat call did before new pool pool' locks locks'
    first_step did new pool' locks' made free = record {
      writes = made.writes;
      cause = made.cause;
      aim = record {
        caller = made.aim.caller;
        ended = (λ e. absurd (true≢false (sym (made.aim.ended.0 e))), λ d. absurd (true≢false (sym d ∙ not_done)));
        rests = by did refl free;
        most = made.aim.most;
        finds = made.aim.finds;
      };
      row = made.row;
      progress = λ s change f. subst (λ n. NearsOrSpares did n (questions_left call new
          (store_of pool'.images)) pool pool') (sym (same_left (store_of pool.images)))
          (made.progress s change (faces s change f));
      step = λ s change f fine. subst (λ (t : NameTurn). Step {F = FileFault} hash seat (turn_of_names t) did
          (questions_facts new) pool pool' locks locks'
          change) (sym turn) (made.step s change (faces s change f) fine);
      means = λ s change f fine. made.means s change (faces s change f) fine;
    }
      where
        by : (d : Progress FileFault) → did ≡ d → is_blocked d ≡ false → Rests d before new
        by (Moved kind) is free = tt
        by (Blocked other) is free = absurd (true≢false free)
        by (Fault fault) is free = tt
        by Ended is free = absurd (true≢false (sym (made.aim.ended.0 is)))

    -- where another seat stood in the way it has not begun
    pub not_begun : (did : Progress FileFault) (new : QuestionsView) (pool' : PoolState) (locks' : Table) →
        MakesQuestions hash seat call did (begins_with k) new pool pool' locks locks' → is_blocked did ≡ true →
        MakesQuestions hash seat call did before (record new { question = None }) pool
        pool' locks locks'
    not_begun (Moved kind) new pool' locks' made blocked = absurd (true≢false (sym blocked))
    not_begun (Fault fault) new pool' locks' made blocked = absurd (true≢false (sym blocked))
    not_begun Ended new pool' locks' made blocked = absurd (true≢false (sym blocked))
    not_begun (Blocked other) new pool' locks' made blocked =
        let back : record new { question = None } ≡ before =
        ap (λ (v : QuestionsView). record v { question = None }) made.aim.rests in
        subst (λ (v : QuestionsView). MakesQuestions hash seat call (Blocked other) before v pool pool' locks locks')
        (sym back) (record {
          writes = made.writes;
          cause = λ fault is. absurd cc;
          aim = record {
            caller = refl;
            ended = (λ e. absurd cc, λ d. absurd (true≢false (sym d ∙ not_done)));
            rests = refl;
            most = refl;
            finds = refl;
          };
          row = made.row ∙ ap (λ (v : QuestionsView). with_row locks seat
              (questions_locks v)) made.aim.rests;
          progress = λ s change f. tt;
          step = λ s change f fine.
              let made' = made.step s change (faces s change f) fine in
              subst (λ (t : NameTurn). Step {F = FileFault} hash seat (turn_of_names t) (Blocked other) [] pool
              pool' locks locks' change)
              (sym turn) (subst (λ (v : QuestionsView). Step {F = FileFault} hash seat (turn_of_names Ready)
              (Blocked other)
              (questions_facts v) pool pool' locks locks' change)
              made.aim.rests made');
          means = λ s change f fine. record { right = f.right; knows = f.knows; reads = refl };
        })

-- ---- of the question that has begun in the room

module _ (hash : RecordKey → ℕ) (seat : ℕ) (call : Call) (q q1 : Questions) (same : q1 ≡ q) (o : Option Question)
    (none : o ≡ None) (question : Option Question) (next : BeginsNext hash call (asked_with q None) question)
    (locks locks1 : Table) (kept : locks1 ≡ locks) where
  module _ (did : Progress FileFault) (new : Questions) (question' : Option Question) (pool pool' : PoolState)
      (locks' : Table) (made : MakesQuestions hash seat call did (asked_with q1 question) (asked_with new question')
      pool pool' locks1 locks') where
    abbrev Makes : Questions → Option Question → Option Question → Table → Type 0
    Makes x o' o2 t =
        MakesQuestions hash seat call did (asked_with x o') (asked_with new o2) pool pool' t locks'

    abbrev first : Option Question
    first = Some (record {
      access = begun (ToFind (key_asked next.wanted)) (hash (key_asked next.wanted));
      told = false;
    })

    made_first : Makes q first question' locks
    made_first =
        subst (λ (t : Table). Makes q first question' t) kept
        (subst (λ (x : Questions). Makes x first question' locks1) same
        (subst (λ (o' : Option Question). Makes q1 o' question' locks1) next.begins made))

    pub makes_next : is_blocked did ≡ false → Makes q o question' locks
    makes_next free =
        subst (λ (o' : Option Question). Makes q o' question' locks) (sym none)
        (first_step hash seat call q.inquiry q.room q.names q.finds next.wanted next.asked next.names
        (hash (key_asked next.wanted)) refl pool locks did (asked_with new question') pool' locks' made_first free)

    -- where another seat stood in the way none is under way
    pub leaves_next : is_blocked did ≡ true → Makes q o None locks
    leaves_next blocked =
        subst (λ (o' : Option Question). Makes q o' None locks) (sym none)
        (not_begun hash seat call q.inquiry q.room q.names q.finds next.wanted next.asked next.names
        (hash (key_asked next.wanted)) refl pool locks did (asked_with new question') pool' locks' made_first blocked)
