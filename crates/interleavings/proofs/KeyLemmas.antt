-- A step of a Remove takes no key's name but that of its queue.
use Rattle.std.proofs.Common.{ℕ, ◌≡◌, ◌⊎◌, inl, inr, refl, sym, ap, ◌∙◌, subst, false, Option, Some, None}
use Rattle.std.proofs.lemmas.Bool.{true≢false}
use Rattle.std.specs.List.{AllByRecursion}
use Rattle.call_decisions.specs.Anything.{KnowsOf, of_remove}
use Rattle.call_decisions.specs.Names.{names_for}
use Rattle.interleaving_core.specs.Owing.{is_failure}
use Rattle.interleaving_core.specs.declared.fault.StepFault.TheVariants as faults
use Rattle.interleaving_core.specs.declared.step.Step.TheVariants as told
use Rattle.interleavings.proofs.KeyAskLemmas.{AsksKey, call_asks, remove_keyed}
use Rattle.interleavings.proofs.KeyLockLemmas.{takes}
use Rattle.interleavings.proofs.NameLemmas.{under_way}
use Rattle.interleavings.specs.Doing.{BeginsWoken, DoesBy, IsAsItStands, turn_of}
use Rattle.interleavings.specs.KeyLaws.{HoldsKey, RemovesTakeTheirKey}
use Rattle.interleavings.specs.Laws.{RefinesOn, StepsRefineAndDo}
use Rattle.interleavings.specs.Refining.{calls_of}
use Rattle.interleavings.specs.Together.{AreTogether}
use Rattle.interleavings.specs.Words.{ActiveView, Call, CallView, KernelState, RecordKey, State, Step, Table, store_of}
use Rattle.queue_model.proofs.JournalLemmas.{after-LeadsAlong}
use Rattle.queue_model.specs.declared.call.Call.TheVariants.{Remove}
use Rattle.xsi_calls.specs.Calling.{IsCallingAt}
use Rattle.xsi_calls.specs.Knowing.{IsUndecidedIn}
use Rattle.xsi_calls.specs.Stages.{Stage, Undecided, Paying, Releasing}
use Rattle.xsi_calls.specs.ToldNames.{IsKeyOf, OfKey}
use Rattle.xsi_calls.specs.Undecided.{Trials, UndecidedCall}
use Rattle.xsi_calls.specs.UndecidedWords.{Change, Lock, PoolState, QuestionsView, Records}
use Rattle.xsi_inquiry.proofs.AgreeLemmas.{agrees_itself}

-- ---- what a call knows before its Decide

knows_in : (hash : RecordKey → ℕ) (seat : ℕ) (call : Call) (s : State) (q : QuestionsView) (o : Option Trials)
    (records : Records) (pool : PoolState) (locks : Table) (change : Change) →
    IsUndecidedIn hash seat call s q o records pool locks change → KnowsOf call q.inquiry q.room s
knows_in hash seat call s q None records pool locks change is =
    is.faces.knows s is.faces.agrees.filed (agrees_itself call _ s)
knows_in hash seat call s q (Some t) records pool locks change is = is.knows s is.filed (agrees_itself call _ s)

knows_at : (hash : RecordKey → ℕ) (seat : ℕ) (call : Call) (s : State) (u : UndecidedCall) (stage : Stage)
    (records : Records) (pool : PoolState) (locks : Table) (change : Change) →
    IsCallingAt hash seat call s u stage records pool locks change → stage ≡ Undecided →
    KnowsOf call u.questions.inquiry u.questions.room s
knows_at hash seat call s u Undecided records pool locks change is same =
    knows_in hash seat call s u.questions u.trials records pool locks change is
knows_at hash seat call s u (Paying payment conclusion) records pool locks change is same = absurd cc
knows_at hash seat call s u (Releasing conclusion) records pool locks change is same = absurd cc

-- so the key of each name that a Remove needs is that of its queue
needs : (id : ℕ) (s : State) (m : CallView) → m.call ≡ Remove id →
    KnowsOf m.call m.undecided.questions.inquiry m.undecided.questions.room s →
    AllByRecursion (λ (l : Lock). OfKey (IsKeyOf id s) l.name) (names_for m.call m.undecided.questions.inquiry)
needs id s m is knows = subst (λ (c : Call). AllByRecursion (λ (l : Lock). OfKey (IsKeyOf id s) l.name)
    (names_for c m.undecided.questions.inquiry)) (sym is)
    (remove_keyed id s (of_remove m.undecided.questions.inquiry)
    (subst (λ (c : Call). KnowsOf c m.undecided.questions.inquiry m.undecided.questions.room s) is knows))

-- ---- a step of it

module _ {K : Type 0} (hash : RecordKey → ℕ) (base : State) (seat : ℕ) (did : Step) (old new : KernelState K)
    (id key : ℕ) (s : State) (fine : is_failure did ≡ false) (holds : HoldsKey new.locks seat key) where
  abbrev Takes : Type 0
  Takes = HoldsKey old.locks seat key ⊎ IsKeyOf id s key

  left : new.locks ≡ old.locks → Takes
  left same = inl (subst (λ (t : Table). HoldsKey t seat key) same holds)

  module _ (by : ActiveView) (before behind : Change) (asks : AsksKey (IsKeyOf id s) (turn_of hash by old).ask) where
    pub steps_by : (d : Step) → did ≡ d → DoesBy hash base seat by d before behind old new → Takes
    steps_by (told.Moved kind) is (come, left_is, makes) =
        takes seat key _ _ (IsKeyOf id s) hash (turn_of hash by old) kind asks makes.does holds
    steps_by (told.Blocked other) is does = left does.leaves.locks
    steps_by told.Waiting is does = left does.locks
    steps_by (told.Answered answer) is does = left does.locks
    steps_by told.Idle is does = left does.locks
    steps_by (told.Fault (faults.File fault)) is does = absurd (true≢false (sym (ap is_failure is) ∙ fine))
    steps_by (told.Fault faults.NoRoom) is does = left does.locks

pub takes_its_key : {K : Type 0} → StepsRefineAndDo K → RemovesTakeTheirKey K
takes_its_key does hash base seat a did old new id key led sound there removes step fine holds =
    subst (λ (s : State). HoldsKey old.locks seat key ⊎ IsKeyOf id s key)
    (sym (after-LeadsAlong old.callers old.journal base led.now led.leads)) (by on.does.is)
  where
    together : AreTogether hash led.now (calls_of old.seats) old.pool old.locks
    together = (led.together sound).calls

    on : RefinesOn hash base seat a did (led.together sound).calls.change old new
    on = does hash base seat a did old new led there sound step

    made : (x : ActiveView) → x.machine.call ≡ Remove id → (x.machine.stage ≡ Undecided →
        KnowsOf x.machine.call x.machine.undecided.questions.inquiry x.machine.undecided.questions.room led.now) →
        x ≡ on.does.by → HoldsKey old.locks seat key ⊎ IsKeyOf id led.now key
    made x is knows same = steps_by hash base seat did old new id key led.now fine holds on.does.by together.change
        on.behind (subst (λ (y : ActiveView). AsksKey (IsKeyOf id led.now) (turn_of hash y old).ask) same
        (call_asks (IsKeyOf id led.now) hash x.machine (store_of old.pool.images)
        (λ undecided. needs id led.now x.machine is (knows undecided)))) did refl on.does.does

    by : IsAsItStands a on.does.by did ⊎ BeginsWoken old.journal a on.does.by →
        HoldsKey old.locks seat key ⊎ IsKeyOf id led.now key
    by (inl stands) = made a removes (knows_at hash seat a.machine.call led.now a.machine.undecided a.machine.stage
        together.records old.pool old.locks together.change (under_way hash base old seat a led sound there).calls)
        (sym stands.same)
    by (inr woken) = made on.does.by (woken.begins.begins.call_is ∙ removes)
        (λ undecided. woken.begins.begins.new.knows led.now led.now together.filed (agrees_itself _ _ led.now)) refl
