-- Calls whose numbers fit leave numbers that fit.
use Rattle.std.proofs.Common.{◌≡◌, ℕ, Option, Some, None, inl, inr, sym, subst, arith}
use Rattle.std.specs.Prelude.{IfSome, unwrap_or}
use Rattle.std.specs.List.{position_or_len}
use Rattle.std.proofs.lemmas.List.Elements.{All-nil, All-push, All-set, All-get_or}
use Rattle.queue_model.specs.declared.answer.Answer.{Answer}
use Rattle.queue_model.specs.declared.answer.Answer.TheVariants.{Id, Sent, Received, Info, Done, Refused}
use Rattle.queue_model.specs.declared.call.Call.{Call}
use Rattle.queue_model.specs.declared.call.Call.TheVariants.{Get, Send, Receive, Stat, Set, Remove}
use Rattle.queue_model.specs.declared.call.GetArguments.{GetArguments}
use Rattle.queue_model.specs.declared.call.ReceiveArguments.{ReceiveArguments}
use Rattle.queue_model.specs.declared.call.SendArguments.{SendArguments}
use Rattle.queue_model.specs.declared.call.SetArguments.{SetArguments}
use Rattle.queue_model.specs.declared.caller.Caller.{Caller}
use Rattle.queue_model.specs.declared.queue.Queue.{Queue}
use Rattle.queue_model.specs.Rules.{outcome, new_queue, with_message, without_message, with_settings}
use Rattle.queue_model.specs.Selection.{selects}
use Rattle.queue_model.specs.State.{State}
use Rattle.queue_model.proofs.EffectLemmas.{Effect, Effect-outcome, Changes, Stands}
use Rattle.queue_model.proofs.ListLemmas.{All-remove}
use Rattle.queue_records.specs.Records.{FitsFour, FitsEight}
use Rattle.type_chains.specs.Fits.{HasFittingQueue, HasFittingMessage, HasFittingNumbers, HasFittingCaller, HasFittingCall, HasFittingGet, HasFittingSend, HasFittingSet}

-- what is given or was there fits
fits_or : (given : Option ℕ) (n : ℕ) → IfSome given FitsFour → FitsFour n → FitsFour (unwrap_or given n)
fits_or None n given old = old
fits_or (Some m) n given old = given

fits_new : (id : ℕ) (c : Caller) (a : GetArguments) → HasFittingCaller c → HasFittingGet a →
    HasFittingQueue (new_queue id c a)
fits_new id c a caller call = record {
  key = call.key;
  lspid = omega arith;
  lrpid = omega arith;
  stime = omega arith;
  rtime = omega arith;
  ctime = call.moment;
  uid = caller.uid;
  gid = caller.gid;
  cuid = caller.uid;
  cgid = caller.gid;
  messages = All-nil HasFittingMessage;
}

fits_sent : (c : Caller) (a : SendArguments) (q : Queue) → HasFittingCaller c → HasFittingSend a → HasFittingQueue q →
    HasFittingQueue (with_message c.pid a q)
fits_sent c a q caller call fits = record {
  key = fits.key;
  lspid = caller.pid;
  lrpid = fits.lrpid;
  stime = call.moment;
  rtime = fits.rtime;
  ctime = fits.ctime;
  uid = fits.uid;
  gid = fits.gid;
  cuid = fits.cuid;
  cgid = fits.cgid;
  messages = All-push HasFittingMessage q.messages _ fits.messages (record { sender = caller.pid; mtype = call.mtype });
}

fits_received : (c : Caller) (a : ReceiveArguments) (q : Queue) → HasFittingCaller c → FitsEight a.moment →
    HasFittingQueue q → HasFittingQueue (without_message c.pid a q)
fits_received c a q caller moment fits = record {
  key = fits.key;
  lspid = fits.lspid;
  lrpid = caller.pid;
  stime = fits.stime;
  rtime = moment;
  ctime = fits.ctime;
  uid = fits.uid;
  gid = fits.gid;
  cuid = fits.cuid;
  cgid = fits.cgid;
  messages = All-remove HasFittingMessage q.messages (position_or_len (selects a.mtype q.messages) q.messages)
      fits.messages;
}

fits_set : (a : SetArguments) (q : Queue) → HasFittingSet a → HasFittingQueue q → HasFittingQueue (with_settings a q)
fits_set a q call fits = record {
  key = fits.key;
  lspid = fits.lspid;
  lrpid = fits.lrpid;
  stime = fits.stime;
  rtime = fits.rtime;
  ctime = call.moment;
  uid = fits_or a.uid q.permissions.uid call.uid fits.uid;
  gid = fits_or a.gid q.permissions.gid call.gid fits.gid;
  cuid = fits.cuid;
  cgid = fits.cgid;
  messages = fits.messages;
}

-- the queue that stands at a place is one of the queues
its_queue : (id : ℕ) (s : State) (place : ℕ) (q : Queue) → Stands id s place q → HasFittingNumbers s → HasFittingQueue q
its_queue id s place q stands fits = subst HasFittingQueue (stands.is_it q)
    (All-get_or HasFittingQueue s.queues place q stands.place_of.within fits)

changed : (id : ℕ) (s : State) (place : ℕ) (q new : Queue) (t : State) → Changes id s place q new t
    → HasFittingNumbers s →
    (HasFittingQueue q → HasFittingQueue new) → HasFittingNumbers t
changed id s place q new t did fits keeps =
    subst HasFittingNumbers (sym did.after)
    (All-set HasFittingQueue s.queues place new (keeps (its_queue id s place q did.stands fits)) fits)

left : (s t : State) → t ≡ s → HasFittingNumbers s → HasFittingNumbers t
left s t same fits = subst HasFittingNumbers (sym same) fits

of_effect : (c : Caller) (call : Call) (a : Answer) (s t : State) → HasFittingCaller c → HasFittingCall call →
    Effect c call a s t → HasFittingNumbers s → HasFittingNumbers t
of_effect c (Get x) a s t caller call (inl same) fits = left s t same fits
of_effect c (Get x) a s t caller call (inr made) fits = subst HasFittingNumbers (sym made.after)
    (All-push HasFittingQueue s.queues _ fits (fits_new s.next_id c x caller call))
of_effect c (Send x) (Sent serial) s t caller call did fits =
    changed x.id s did.place did.q _ t did.changes fits (fits_sent c x did.q caller call)
of_effect c (Send x) (Id n) s t caller call did fits = left s t did fits
of_effect c (Send x) (Received m) s t caller call did fits = left s t did fits
of_effect c (Send x) (Info i) s t caller call did fits = left s t did fits
of_effect c (Send x) Done s t caller call did fits = left s t did fits
of_effect c (Send x) (Refused e) s t caller call did fits = left s t did fits
of_effect c (Receive x) (Received m) s t caller call did fits =
    changed x.id s did.place did.q _ t did.changes fits (fits_received c x did.q caller call)
of_effect c (Receive x) (Id n) s t caller call did fits = left s t did fits
of_effect c (Receive x) (Sent n) s t caller call did fits = left s t did fits
of_effect c (Receive x) (Info i) s t caller call did fits = left s t did fits
of_effect c (Receive x) Done s t caller call did fits = left s t did fits
of_effect c (Receive x) (Refused e) s t caller call did fits = left s t did fits
of_effect c (Stat id) a s t caller call did fits = left s t did fits
of_effect c (Set x) a s t caller call (inl same) fits = left s t same fits
of_effect c (Set x) a s t caller call (inr did) fits =
    changed x.id s did.place did.q _ t did.changes fits (fits_set x did.q call)
of_effect c (Remove id) Done s t caller call did fits = subst HasFittingNumbers (sym did.after)
    (All-remove HasFittingQueue s.queues did.place fits)
of_effect c (Remove id) (Id n) s t caller call did fits = left s t did fits
of_effect c (Remove id) (Sent n) s t caller call did fits = left s t did fits
of_effect c (Remove id) (Received m) s t caller call did fits = left s t did fits
of_effect c (Remove id) (Info i) s t caller call did fits = left s t did fits
of_effect c (Remove id) (Refused e) s t caller call did fits = left s t did fits

pub keeps_fitting : (c : Caller) (call : Call) (a : Answer) (s t : State) → HasFittingCaller c → HasFittingCall call →
    outcome c call s ≡ Some (a, t) → HasFittingNumbers s → HasFittingNumbers t
keeps_fitting c call a s t caller fitting at fits =
    of_effect c call a s t caller fitting (Effect-outcome c call a s t at) fits
