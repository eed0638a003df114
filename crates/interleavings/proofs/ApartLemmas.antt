-- A call that has not decided, over a system that another call has changed.
use Rattle.std.proofs.Common.{ℕ, ◌≡◌, refl, sym, ◌∙◌, subst, Bool, true, false, List, Option, Some, None, take, arith}
use Rattle.std.specs.Prelude.{nat_lt}
use Rattle.std.specs.List.{Contains}
use Rattle.std.proofs.lemmas.Bool.Decides.{nat_tests}
use Rattle.call_decisions.specs.Anything.{caller_of}
use Rattle.call_decisions.specs.InquiryWords.{RemoveInquiry, Roomful}
use Rattle.call_decisions.specs.declared.any_inquiry.AnyInquiry.TheVariants as any
use Rattle.call_decisions.proofs.OtherLemmas.{leaves_others}
use Rattle.xsi_calls.proofs.IdleLemmas.{none_in}
use Rattle.xsi_calls.specs.UndecidedBelow.{asks_more, keeping}
use Rattle.queue_model.specs.declared.call.Call.TheVariants as calls
use Rattle.xsi_calls.specs.Knowing.{IsAsking, IsUndecidedIn, standing}
use Rattle.xsi_calls.specs.Undecided.{its_plan}
use Rattle.xsi_inquiry.proofs.AgreeLemmas.{agrees_itself, agrees_less, near_after}
use Rattle.xsi_inquiry.specs.Agreeing.{AgreeOnCall, AgreeOnId, AgreeOnKey, AgreesFor}
use Rattle.xsi_inquiry.specs.Seeking.{IsKeyed}
use Rattle.xsi_control.proofs.KeyedLemmas.{keeps_keyed}
use Rattle.xsi_control.specs.Knowing.{KnowsAt}
use Rattle.xsi_control.specs.declared.stage.Stage.{Stage}
use Rattle.xsi_control.specs.declared.stage.Stage.TheVariants.{Keyed}
use Rattle.interleavings.specs.SeatWords.{Answer, AnyInquiry, Call, Caller, Change, DecidesApart, HasBegun, HasKey, Holds, IsFiled, IsTrying, KnowsItsKey, KnowsNear, KnowsOf, Lock, LockName, PoolState, QuestionsView, Record, RecordKey, Records, StandsAt, State, Table, Trials, guard_of, names_in, outcome, record_of, store_of}
use Rattle.interleavings.specs.Apart.{IsAsGood, IsKeptApart}
use Rattle.interleavings.specs.DecisionLaws.{GoesOver, OthersDecide, StopsBeside}
use Rattle.interleavings.proofs.AskLemmas.{trying_over}
use Rattle.interleavings.proofs.OwnLemmas.{inserted_local}

-- ---- over a system that the call can't tell from the first

module _ (hash : RecordKey → ℕ) (seat : ℕ) (call : Call) (s after : State) (q : QuestionsView) (records : Records)
    (pool : PoolState) (locks : Table) (change : Change) (good : IsAsGood call q s after) where
  asks_over : IsAsking hash seat call s q records pool locks change →
      IsAsking hash seat call after q records pool locks change
  asks_over a = record {
    faces = record {
      right = a.faces.right;
      sees = a.faces.sees;
      agrees = record {
        filed = good.filed;
        stands = λ key under. subst (StandsAt (store_of pool.images) key) (sym (good.records key under))
            (a.faces.agrees.stands key under);
        counter = a.faces.agrees.counter;
        counts = a.faces.agrees.counts;
        given = λ id under none.
            a.faces.agrees.given id under ((good.ids id under).queue ∙ none) ∙ (good.ids id under).given;
      };
      knows = good.knows a.faces.knows;
    };
    row = a.row;
    alike = λ key under. a.alike key under ∙ sym (good.records key under);
  }

  tries_over : (t : Trials) → IsTrying hash seat call s q t records pool locks change →
      IsTrying hash seat call after q t records pool locks change
  tries_over t y =
      let trials : List Record = take (standing t.writes.due) (its_plan call q).trials in
      trying_over hash seat call q t s after records records pool pool locks locks change change y good.filed
      (good.knows y.knows) y.carries (λ key under. y.alike key under
      ∙ inserted_local trials (record_of s) (record_of after) key (sym (good.records key under)))

  pub goes_in : (t : Option Trials) → IsUndecidedIn hash seat call s q t records pool locks change →
      IsUndecidedIn hash seat call after q t records pool locks change
  goes_in None a = asks_over a
  goes_in (Some t) y = tries_over t y

pub goes_over : GoesOver
goes_over hash seat call s after u records pool locks change good is =
    goes_in hash seat call s after u.questions records pool locks change good u.trials is

-- ---- what it knows

among : (asks : Bool) (names : List Lock) (name : LockName) → Contains (keeping asks names) name →
    Contains (names_in names) name
among true names name has = absurd (none_in name has)
among false names name has = has

-- over a system that agrees under its names
pub near_over : (call : Call) (q : QuestionsView) (s after : State) → AgreesFor call (names_in q.names) s after →
    KnowsNear call q s → KnowsNear call q after
near_over call q s after agrees near =
    let asks : Bool = asks_more call q.inquiry in
    near_after call (keeping asks q.names) (KnowsOf call q.inquiry q.room) s after
    (agrees_less call (keeping asks q.names) (names_in q.names) s after (among asks q.names) agrees) near

-- ---- a Remove between its phases

module _ (call : Call) (i : AnyInquiry) (room : Roomful) (id : ℕ) (key : Option ℕ) (is : call ≡ calls.Remove id)
    (inquiry : RemoveInquiry) (asks : i ≡ any.Remove inquiry) (stage : inquiry.stage ≡ Keyed key) (t : State) where
  keyed_of : KnowsOf call i room t → IsKeyed id key t
  keyed_of knows =
      subst (λ (x : Stage). KnowsAt inquiry.caller id x t) stage
      (subst (λ (x : AnyInquiry). KnowsOf (calls.Remove id) x room t) asks
      (subst (λ (x : Call). KnowsOf x i room t) is knows))

  of_keyed : IsKeyed id key t → KnowsOf call i room t
  of_keyed keyed =
      subst (λ (x : Call). KnowsOf x i room t) (sym is)
      (subst (λ (x : AnyInquiry). KnowsOf (calls.Remove id) x room t) (sym asks)
      (subst (λ (x : Stage). KnowsAt inquiry.caller id x t) (sym stage) keyed))

keyed_near : (id : ℕ) (key : Option ℕ) (s t : State) → AgreeOnId id s t → IsKeyed id key s → IsKeyed id key t
keyed_near id key s t agrees keyed =
    let below = keyed.given in
    let first : nat_lt id s.next_id ≡ true = grind (arith, below) in
    let then : nat_lt id t.next_id ≡ true = sym agrees.given ∙ first in
    record {
      given = grind (arith, nat_tests, then);
      keeps = λ q found. keyed.keeps q (agrees.queue ∙ found);
    }

pub key_over : (call other : Call) (q : QuestionsView) (c : Caller) (answer : Answer) (s after : State) → IsFiled s →
    KnowsItsKey call q.inquiry → outcome c other s ≡ Some (answer, after) → KnowsNear call q s → KnowsNear call q after
key_over call other q c answer s after filed k answered near t filed' agrees =
    let knows = near s filed (agrees_itself call _ s) in
    let first = keyed_of call q.inquiry q.room k.id k.key k.is k.inquiry k.asks k.stage s knows in
    let then = keeps_keyed k.id k.key c other answer s after filed answered first in
    let on : AgreeOnId k.id after t = subst (λ (x : Call). AgreeOnCall x after t) k.is agrees.asked in
    of_keyed call q.inquiry q.room k.id k.key k.is k.inquiry k.asks k.stage t
    (keyed_near k.id k.key after t on then)

-- ---- another call decides

kept : (call other : Call) (q : QuestionsView) (i : AnyInquiry) (s after : State) → IsFiled s → IsKeptApart call q →
    DecidesApart (names_in q.names) other i s after → KnowsNear call q s → KnowsNear call q after
kept call other q i s after filed (Holds own) d near =
    near_over call q s after (leaves_others call other (names_in q.names) i s after filed own d) near
kept call other q i s after filed (HasBegun all) d near = λ t filed' agrees. all t filed'
kept call other q i s after filed (HasKey k) d near =
    key_over call other q (caller_of i) d.answer s after filed k d.outcome near

pub others_decide : OthersDecide
others_decide call other q i s after filed filed' apart d = record {
  filed = filed';
  records = λ key under. d.rest key (λ theirs. d.apart (guard_of key) under theirs);
  ids = λ id under. (leaves_others (calls.Stat id) other (names_in q.names) i s after filed under d).asked;
  knows = kept call other q i s after filed apart d;
}

-- ---- the system is stopped

stopped_key : (key : Option ℕ) (s : State) (b : Bool) → AgreeOnKey key s (record s { stopped = b })
stopped_key None s b = tt
stopped_key (Some key) s b = refl

stopped_call : (call : Call) (s : State) (b : Bool) → AgreeOnCall call s (record s { stopped = b })
stopped_call (calls.Get a) s b = stopped_key a.key s b
stopped_call _ s b = record { queue = refl; given = refl }

pub stops_beside : StopsBeside
stops_beside call q s b filed = record {
  filed = filed;
  records = λ key under. refl;
  ids = λ id under. record { queue = refl; given = refl };
  knows = near_over call q s (record s { stopped = b }) (record {
    asked = stopped_call call s b;
    counter = λ has. record { next_id = refl; alive = refl };
  });
}
