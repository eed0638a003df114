-- What a call knows after a step of its question, whether it was told an answer or not.
use Rattle.std.proofs.Common.{ℕ, ◌≡◌, Bool, false, List, [], Option, Some, None, IfSome, IsOk, Result, Ok, Err, refl, sym, ap, ◌∙◌, subst, inl, inr, ◌⊎◌}
use Rattle.std.proofs.lemmas.Bool.{true≢false}
use Rattle.std.specs.Option.{is_some}
use Rattle.call_writes.specs.call_decisions.Others.{HoldsOwn}
use Rattle.file_pages.specs.declared.fault.FileFault.{FileFault}
use Rattle.file_pages.specs.declared.fault.FileFault.TheVariants.{Failed}
use Rattle.call_writes.specs.record_file.AccessSteps.{FindsRecord, MakesAccess}
use Rattle.xsi_inquiry.proofs.AgreeLemmas.{agrees_itself}
use Rattle.xsi_calls.specs.declared.question.Question.{Question}
use Rattle.xsi_calls.specs.Counting.{finds_behind}
use Rattle.xsi_calls.specs.QuestionWords.{RecordKey, PoolState, Table, Lock, Change, row_of, IsSeat, store_of, Progress, Moved, Fault, Look, is_fault, Record, ToFind, StandsAt, AccessView, Serves, access_answer, access_key, access_locks, AnyInquiry, KnowsOf, asked_of, AreNames, names_in, names_for, Begins, Call, State, NotASystem, IsSoNear, Roomful, Wanted}
use Rattle.xsi_calls.specs.Answering.{Answers, IsAskedUnder}
use Rattle.xsi_calls.specs.QuestionLaws.{IsAnswered}
use Rattle.xsi_calls.specs.Questions.{Holds, IsAsked, IsUnderWay, KnowsItsKey, QuestionsView, asks_more, keeping}
use Rattle.xsi_calls.specs.QuestionSteps.{Closes, Faces, IsHeard, IsQuiet, IsSilent, Listens, MakesQuestions, Told}
use Rattle.xsi_calls.proofs.AskLemmas.{asks_under}
use Rattle.xsi_calls.proofs.GoingLemmas.{Comes, faces, fails, goes_on, view_of}
use Rattle.xsi_calls.proofs.KnowLemmas.{files_answer, heard, some_stands}
use Rattle.xsi_calls.proofs.QuestionOwnLemmas.{own_names}
use Rattle.xsi_calls.proofs.QuestionPlanLemmas.{begins_on, grows_on}
use Rattle.xsi_calls.proofs.ToldLemmas.{told_on}
use Rattle.xsi_calls.specs.ToldNames.{AreTold}

some_not_none : (o : Option Wanted) (wanted : Wanted) → o ≡ Some wanted → o ≡ None → ⊥
some_not_none o wanted is none = true≢false (sym (ap is_some is) ∙ ap is_some none)

module _ (hash : RecordKey → ℕ) (seat : ℕ) (call : Call) (i : AnyInquiry) (room : Roomful) (held : List Lock)
    (searches : ℕ) (names : AreNames held) (q : Question) (under : IsUnderWay q.access) (did : Progress FileFault)
    (a' : AccessView) (pool pool' : PoolState) (locks locks' : Table)
    (row : row_of locks seat ≡ access_locks q.access held)
    (makes : MakesAccess hash seat did q.access a' pool pool' locks locks') (j : AnyInquiry) (r : Roomful)
    (q' : Question) (result : Result Unit NotASystem)
    (listens : Listens call did result (record { access = a'; told = q.told }) q'
    (record { inquiry = i; room = room }) (record { inquiry = j; room = r })) (o : Option Question)
    (closes : Closes q' o) where
  abbrev read : Question
  read = record { access = a'; told = q.told }

  abbrev before : QuestionsView
  before = record { inquiry = i; room = room; names = held; question = Some q; finds = searches }

  abbrev told_before : Told
  told_before = record { inquiry = i; room = room }

  abbrev told_after : Told
  told_after = record { inquiry = j; room = r }

  abbrev ComesTo : State → AnyInquiry → Roomful → Bool → Type 0
  ComesTo s = Comes hash seat call i room held searches names q under did a' pool pool' locks locks' row makes s

  rests : (did ≡ Moved Look → ⊥) → (q'.told ≡ q.told) × (j ≡ i) × (r ≡ room)
  rests still = by listens.either
    where
      by : IsQuiet did result read q' told_before told_after ⊎ IsHeard call did result read q' told_before told_after →
          (q'.told ≡ q.told) × (j ≡ i) × (r ≡ room)
      by (inl quiet) = (
        ap (λ (x : Question). x.told) quiet.same.0,
        ap (λ (t : Told). t.inquiry) quiet.same.1,
        ap (λ (t : Told). t.room) quiet.same.1,
      )
      by (inr heard) = absurd (still heard.looked)

  module _ (s : State) (change : Change) (f : Faces hash seat call s before pool locks change) where
    found_at : (found : Option Record) × StandsAt (store_of pool.images) (access_key q.access) found
    found_at =
        some_stands (names_in held) (store_of pool.images) s (access_key q.access) f.right.question.may_read f.agrees

    module _ (fine : is_fault did ≡ false) where
      finds : (found : Option Record) → StandsAt (store_of pool.images) (access_key q.access) found →
          FindsRecord did q.access a' found
      finds found stands =
          (makes.answer (ToFind (access_key q.access)) found change (faces hash seat call i room held searches names q
          under did a' pool pool' locks locks' row makes s change f found stands) fine).finds

      -- where it is told nothing no page has answered
      still_open : IsSilent did read → q.told ≡ false → access_answer q.access ≡ None → access_answer a' ≡ None
      still_open silent untold none = by (finds found_at.0 found_at.1) silent
        where
          by : FindsRecord did q.access a' found_at.0 → IsSilent did read → access_answer a' ≡ None
          by (inl same) silent = same ∙ none
          by (inr has) (inl told) = absurd (true≢false (sym told ∙ untold))
          by (inr has) (inr (inl never)) = absurd (never has.0)
          by (inr has) (inr (inr nothing)) = absurd (nothing found_at.0 has.2)

      quietly : IsQuiet did result read q' told_before told_after → ComesTo s j r q'.told
      quietly quiet =
          let told : q'.told ≡ q.told = ap (λ (x : Question). x.told) quiet.same.0 in
          let asked : q'.told ≡ false → IsAsked call (view_of hash seat call i room held searches names q under did a'
          pool pool' locks locks' row makes i room None) a' =
          λ untold. let was = f.right.question.asked (sym told ∙ untold) in
          record {
            wanted = was.wanted;
            asked = was.asked;
            key = makes.aim.key ∙ was.key;
            names = was.names;
            left = was.left;
            unanswered = still_open quiet.silent (sym told ∙ untold) was.unanswered;
          } in
          subst (λ (t : Told). ComesTo s t.inquiry t.room q'.told) (sym quiet.same.1) (record {
            begins = f.right.begins;
            grows = f.right.grows;
            named = f.right.told;
            apart = f.right.apart;
            knows = f.knows;
            asked = asked;
            left = inl (told, refl);
          })

      -- ---- it is told

      module _ (h : IsHeard call did result read q' told_before told_after) where
        was : IsAsked call before q.access
        was = f.right.question.asked h.untold

        asked_under : IsAskedUnder (names_in held) was.wanted
        asked_under = subst (λ (ls : List Lock). IsAskedUnder (names_in ls) was.wanted) (sym was.names)
            (asks_under call i was.wanted was.asked)

        answer : IsAnswered (store_of pool.images) was.wanted s
        answer =
            files_answer call i room was.wanted (names_in held) (store_of pool.images) s was.asked
            (f.knows s f.agrees.filed (agrees_itself call _ s)) asked_under f.agrees

        told_is : FindsRecord did q.access a' answer.found → h.told ≡ answer.found
        told_is (inl same) = absurd (h.answered (same ∙ was.unanswered))
        told_is (inr has) = h.only answer.found has.2

        answers : Answers was.wanted h.told s
        answers = subst (λ (x : Option Record). Answers was.wanted x s)
            (sym (told_is (finds answer.found (subst (λ (k : RecordKey). StandsAt (store_of pool.images) k answer.found)
            (sym was.key) answer.stands)))) answer.answers

        near : IsSoNear call [] (KnowsOf call i room) s
        near = subst (λ (b : Bool). IsSoNear call (keeping b held) (KnowsOf call i room) s)
            (ap is_some was.asked) f.knows

        hears : IsOk result × IsSoNear call (keeping (asks_more call j) held) (KnowsOf call j r) s
        hears = heard call i j room r held s f.agrees.filed h.told result h.hears near was.wanted was.asked asked_under
            answers

        aloud : ComesTo s j r q'.told
        aloud = record {
          begins = λ none does. subst (λ (ls : List Lock). Begins ls (names_for call j)) (sym was.names)
              (begins_on call i j (some_not_none (asked_of call i) was.wanted was.asked) does
              (h.hears.fewer hears.0) (h.hears.follows hears.0));
          grows = λ asks. subst (λ (ls : List Lock). Begins ls (names_for call j) ⊎ KnowsItsKey call j) (sym was.names)
              (grows_on call i j (some_not_none (asked_of call i) was.wanted was.asked) asks
              (h.hears.fewer hears.0) (h.hears.follows hears.0));
          named = subst (AreTold call j) (sym was.names)
              (told_on call i j was.wanted was.asked (h.hears.follows hears.0));
          apart = Holds (subst (λ (ls : List Lock). HoldsOwn call (names_in ls)) (sym was.names)
              (own_names call i room s (f.knows s f.agrees.filed (agrees_itself call _ s))));
          knows = hears.1;
          asked = λ untold. absurd (true≢false (sym (h.counts hears.0) ∙ untold));
          left = inr (h.untold, h.counts hears.0, h.hears.fewer hears.0);
        }

      comes : ComesTo s j r q'.told
      comes = by listens.either
        where
          by : IsQuiet did result read q' told_before told_after
              ⊎ IsHeard call did result read q' told_before told_after → ComesTo s j r q'.told
          by (inl quiet) = quietly quiet
          by (inr heard) = aloud heard

    is_ok : IsOk result
    is_ok = by listens.either
      where
        by : IsQuiet did result read q' told_before told_after
            ⊎ IsHeard call did result read q' told_before told_after → IsOk result
        by (inl quiet) = quiet.fine
        by (inr heard) = (hears (ap is_fault heard.looked) heard).0

  -- with so many searches
  abbrev after : ℕ → QuestionsView
  after more = record { inquiry = j; room = r; names = held; question = o; finds = more }

  pub went_on : (seated : IsSeat locks seat) (more : ℕ) → more ≡ finds_behind did (row_of locks' seat) searches →
      MakesQuestions hash seat call did before (after more) pool pool' locks locks'
  went_on seated more counts =
      goes_on hash seat call i room held searches names q under did a' pool pool' locks locks' row makes j r q' o
      listens.access closes listens.caller listens.most found_at rests comes more seated counts

  pub failed : ((x : Unit) → result ≡ Ok x → ⊥) →
      MakesQuestions hash seat call (Fault Failed) before (after searches) pool pool' locks locks'
  failed not = fails hash seat call i room held searches names q under did a' pool pool' locks locks' row makes j r q' o
      listens.access closes listens.caller listens.most found_at rests comes searches refl
      (λ s change f. not_ok result refl (is_ok s change f))
    where
      not_ok : (y : Result Unit NotASystem) → result ≡ y → IsOk y → ⊥
      not_ok (Ok x) is ok = not x is
      not_ok (Err e) is ok = cc

  -- what is left of the question is under way
  pub under_on : IfSome o (λ (u : Question). IsUnderWay u.access)
  under_on = by closes
    where
      by : Closes q' o → IfSome o (λ (u : Question). IsUnderWay u.access)
      by (inl is) = subst (λ (x : Option Question). IfSome x (λ (u : Question). IsUnderWay u.access)) (sym is.1) tt
      by (inr is) = subst (λ (x : Option Question). IfSome x (λ (u : Question). IsUnderWay u.access)) (sym is.1)
          (record {
            finds = subst (λ (a : AccessView). Serves (ToFind (access_key a)) a) (sym listens.access)
                (subst (λ (k : RecordKey). Serves (ToFind k) a') (sym makes.aim.key)
                (makes.aim.serves (ToFind (access_key q.access)) under.finds));
            goes_on = is.0;
          })
