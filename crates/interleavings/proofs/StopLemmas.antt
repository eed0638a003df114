-- No call stops the system or starts it again; and the stop mark is no record.
use Rattle.std.proofs.Common.{◌≡◌, inl, inr, ap, Bool, Some}
use Rattle.queue_model.proofs.EffectLemmas.{Effect, Effect-outcome}
use Rattle.queue_model.proofs.LawfulLemmas.{IsLawful-Effect}
use Rattle.queue_model.specs.declared.answer.Answer.TheVariants.{Sent, Received, Done}
use Rattle.queue_model.specs.declared.call.Call.TheVariants.{Get, Send, Receive, Stat, Set, Remove}
use Rattle.type_chains.proofs.Fitting.{keeps_fitting}
use Rattle.files_at_rest.proofs.CloseLemmas.{lawful_still}
use Rattle.interleavings.specs.LoneCallWords.{Answer, Call, Caller, HasFittingCall, HasFittingCaller, IsFiled, State, outcome}

-- ---- after an answer

marked : (s t : State) → t ≡ s → t.stopped ≡ s.stopped
marked s t same = ap (λ (u : State). u.stopped) same

stopped_by : (c : Caller) (call : Call) (a : Answer) (s t : State) → Effect c call a s t → t.stopped ≡ s.stopped
stopped_by c (Get x) a s t (inl same) = marked s t same
stopped_by c (Get x) a s t (inr made) = ap (λ (u : State). u.stopped) made.after
stopped_by c (Send x) (Sent serial) s t did = ap (λ (u : State). u.stopped) did.changes.after
stopped_by c (Send x) _ s t same = marked s t same
stopped_by c (Receive x) (Received m) s t did = ap (λ (u : State). u.stopped) did.changes.after
stopped_by c (Receive x) _ s t same = marked s t same
stopped_by c (Stat id) a s t same = marked s t same
stopped_by c (Set x) a s t (inl same) = marked s t same
stopped_by c (Set x) a s t (inr did) = ap (λ (u : State). u.stopped) did.changes.after
stopped_by c (Remove id) Done s t did = ap (λ (u : State). u.stopped) did.after
stopped_by c (Remove id) _ s t same = marked s t same

pub keeps_stopped : (c : Caller) (call : Call) (a : Answer) (s t : State) → outcome c call s ≡ Some (a, t) →
    t.stopped ≡ s.stopped
keeps_stopped c call a s t rules = stopped_by c call a s t (Effect-outcome c call a s t rules)

pub keeps_filed : (c : Caller) (call : Call) (a : Answer) (s t : State) → HasFittingCaller c → HasFittingCall call →
    outcome c call s ≡ Some (a, t) → IsFiled s → IsFiled t
keeps_filed c call a s t caller fitting rules filed = record {
  lawful = IsLawful-Effect c call a s t (Effect-outcome c call a s t rules) filed.lawful;
  fits = keeps_fitting c call a s t caller fitting rules filed.fits;
}

-- ---- with another stop mark

pub filed_still : (s : State) (stopped : Bool) → IsFiled s → IsFiled (record s { stopped = stopped })
filed_still s stopped filed = record { lawful = lawful_still s stopped filed.lawful; fits = filed.fits }
