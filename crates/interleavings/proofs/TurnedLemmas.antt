-- Where a trial turns out to have no room, the call inserts a record as long by what it then knows.
use Rattle.std.proofs.Common.{ℕ, zero, suc, ◌≡◌, refl, sym, ap, ◌∙◌, subst, true, List, Option, Some, None, IsSome}
use Rattle.std.specs.List.{Contains}
use Rattle.std.specs.Option.{option_map}
use Rattle.std.specs.Prelude.{slice_get}
use Rattle.std.proofs.lemmas.Option.{get_or_from_slice_get, slice_get_within}
use Rattle.interleaving_core.specs.xsi_calls.CallSteps.{GoesOnAt}
use Rattle.interleaving_core.specs.xsi_calls.Calling.{IsCallingAt}
use Rattle.interleaving_core.specs.xsi_calls.Machine.{conclusion_at}
use Rattle.interleaving_core.specs.xsi_calls.Stages.{Paying, Releasing, Stage, Undecided}
use Rattle.interleaving_core.specs.xsi_calls.Undecided.{Trials}
use Rattle.interleaving_core.specs.xsi_calls.Words.{Change, Records, has_no_room, its_plan}
use Rattle.queue_records.specs.declared.record.Record.{Record}
use Rattle.xsi_calls.proofs.Names.{is_full, trials_in}
use Rattle.xsi_calls.specs.call_writes.Dues.{next_deed, undone}
use Rattle.xsi_calls.specs.call_writes.WriteWords.{Write, writes_left}
use Rattle.xsi_calls.specs.Knowing.{IsUndecidedIn}
use Rattle.xsi_calls.specs.Questions.{QuestionsView}
use Rattle.xsi_calls.specs.UndecidedSteps.{IsBehind}
use Rattle.xsi_calls.specs.UndecidedWords.{KnowsOf}
use Rattle.xsi_calls.specs.call_writes.declared.deed.Deed.TheVariants as deeds
use Rattle.xsi_calls.specs.call_writes.declared.due.Due.{Due}
use Rattle.xsi_calls.specs.call_writes.declared.due.Due.TheVariants.{Full, Trying, Undoing, Writing}
use Rattle.xsi_inquiry.proofs.AgreeLemmas.{agrees_itself}
use Rattle.xsi_inquiry.specs.Writing.{Plan}
use Rattle.interleavings.specs.ConcurrentWords.{Call, CallView, IsCalling, IsFiled, PoolState, RecordKey, State, Table, UndecidedCall, conclusion_of}
use Rattle.interleavings.specs.Doing.{HasAsLong}
use Rattle.interleavings.proofs.TrialLemmas.{trials_alike}

-- a trial that comes next is one of the plan's
there : (rs : List Record) (place : ℕ) (r : Record) → slice_get rs place ≡ Some r → Contains rs r
there rs place r is = (place, slice_get_within rs place r is, get_or_from_slice_get rs place r r is)

pub is_of_plan : (p : Plan) (due : Due) (r : Record) → next_deed p due ≡ Some (deeds.Trial r) → Contains p.trials r
is_of_plan p (Trying place) r is = by (slice_get p.trials place) refl is
  where
    by : (o : Option Record) → slice_get p.trials place ≡ o → option_map deeds.Trial o ≡ Some (deeds.Trial r) →
        Contains p.trials r
    by None none next = absurd cc
    by (Some q) found next = let same : q ≡ r = cc in there p.trials place r (found ∙ ap Some same)
is_of_plan p (Full standing) r is = absurd cc
is_of_plan p (Undoing zero) r is = absurd cc
is_of_plan p (Undoing (suc place)) r is = absurd (by (slice_get p.trials place) is)
  where
    by : (o : Option Record) → option_map undone o ≡ Some (deeds.Trial r) → ⊥
    by None next = cc
    by (Some q) next = cc
is_of_plan p (Writing from) r is = absurd (by (slice_get (writes_left p from) zero) is)
  where
    by : (o : Option Write) → option_map deeds.Write o ≡ Some (deeds.Trial r) → ⊥
    by None next = cc
    by (Some w) next = cc

-- ---- what the call knows before its step, and behind it

module _ (hash : RecordKey → ℕ) (seat : ℕ) (s : State) (filed : IsFiled s) (call : Call) (records : Records)
    (pool : PoolState) (locks : Table) (change : Change) where
  knows_in : (q : QuestionsView) (o : Option Trials) →
      IsUndecidedIn hash seat call s q o records pool locks change → KnowsOf call q.inquiry q.room s
  knows_in q None asks = asks.faces.knows s filed (agrees_itself call _ s)
  knows_in q (Some t) tries = tries.knows s filed (agrees_itself call _ s)

  knows_at : (u : UndecidedCall) (stage : Stage) → conclusion_at stage ≡ None →
      IsCallingAt hash seat call s u stage records pool locks change →
      KnowsOf call u.questions.inquiry u.questions.room s
  knows_at u Undecided none calls = knows_in u.questions u.trials calls
  knows_at u (Paying payment conclusion) none calls = absurd cc
  knows_at u (Releasing conclusion) none calls = absurd cc

  -- behind it, where a trial has no room
  record Tries (q : QuestionsView) : Type 0 where
    pub knows : KnowsOf call q.inquiry q.room s
    pub first : IsSome (slice_get (its_plan call q).trials 0)

  tries_in : (q : QuestionsView) (o : Option Trials) → is_full (trials_in o) ≡ true →
      IsBehind hash seat call s q o records pool locks change → Tries q
  tries_in q None full behind = absurd cc
  tries_in q (Some t) full tries =
      record { knows = tries.knows s filed (agrees_itself call _ s); first = tries.inserts }

  tries_at : (u : UndecidedCall) (stage : Stage) → conclusion_at stage ≡ None → has_no_room u ≡ true →
      GoesOnAt hash seat call s u stage records pool locks change → Tries u.questions
  tries_at u Undecided none full behind = tries_in u.questions u.trials full behind
  tries_at u (Paying payment conclusion) none full behind = absurd cc
  tries_at u (Releasing conclusion) none full behind = absurd cc

module _ (hash : RecordKey → ℕ) (seat : ℕ) (s : State) (filed : IsFiled s) (old new : CallView)
    (records after : Records) (pool pool' : PoolState) (locks locks' : Table) (change change' : Change) where
  pub inserts_as_long : new.call ≡ old.call → conclusion_of old ≡ None → conclusion_of new ≡ None →
      has_no_room new.undecided ≡ true → IsCalling hash seat s old records pool locks change →
      GoesOnAt hash seat new.call s new.undecided new.stage after pool' locks' change' → (r : Record) →
      Contains (its_plan old.call old.undecided.questions).trials r →
      HasAsLong (its_plan new.call new.undecided.questions).trials r
  inserts_as_long same before behind full calls goes r has =
      let at =
      tries_at hash seat s filed new.call after pool' locks' change' new.undecided new.stage behind full goes in
      let knows = knows_at hash seat s filed old.call records pool locks change old.undecided old.stage before calls in
      by (slice_get (its_plan new.call new.undecided.questions).trials 0) refl at.first
      (subst (λ (c : Call). KnowsOf c old.undecided.questions.inquiry old.undecided.questions.room s) (sym same) knows)
      at.knows
      (subst (λ (c : Call). Contains (its_plan c old.undecided.questions).trials r) (sym same) has)
    where
      by : (o : Option Record) → slice_get (its_plan new.call new.undecided.questions).trials 0 ≡ o → IsSome o →
          KnowsOf new.call old.undecided.questions.inquiry old.undecided.questions.room s →
          KnowsOf new.call new.undecided.questions.inquiry new.undecided.questions.room s →
          Contains (its_plan new.call old.undecided.questions).trials r →
          HasAsLong (its_plan new.call new.undecided.questions).trials r
      by None none some knows same has = absurd cc
      by (Some q) first some knows same has = trials_alike s old.undecided.questions.room
          new.undecided.questions.room r q new.call old.undecided.questions.inquiry new.undecided.questions.inquiry
          knows same has (there (its_plan new.call new.undecided.questions).trials 0 q first)
