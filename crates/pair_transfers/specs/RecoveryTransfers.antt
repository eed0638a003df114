-- The transfers of a recovery: which stands for which step, and what comes behind it. docs/FORMAT.md, "The journal".
use Rattle.std.specs.Prelude.{◌≡◌, ◌⊎◌, ◌≤◌, ℕ, ◌==◌, ◌||◌, nat_le, nat_lt, max, not, Bool, true, false, List, [], length, take, replicate, if◌then◌else◌, Option, Some, None, Result, Ok, Err}
use Rattle.journal_bytes.specs.Bytes.{end_of}
use Rattle.journal_bytes.specs.Entries.{image_in, put_back_of, put_back_sum}
use Rattle.journal_bytes.specs.declared.entry.Image.{Image}
use Rattle.pair_transfers.specs.Reading.{after_read, asked_of_look, came_of, looked, looks_at, plus, starting_at, transfer_of_look, wanted}
use Rattle.pair_transfers.specs.Recovering.{begun, behind, next_act}
use Rattle.pair_transfers.specs.declared.additions.Additions.{Additions}
use Rattle.pair_transfers.specs.declared.additions.Came.{Came}
use Rattle.pair_transfers.specs.declared.additions.Came.TheVariants.{Word, Calls, End as NoMore}
use Rattle.pair_transfers.specs.declared.looking.Look.{Look}
use Rattle.pair_transfers.specs.declared.looking.Look.TheVariants as look
use Rattle.pair_transfers.specs.declared.looking.TheConstants.{NO_HEAD}
use Rattle.pair_transfers.specs.declared.recovering.Recovering.{Recovering}
use Rattle.pair_transfers.specs.declared.recovering.RecoveryStep.{RecoveryStep}
use Rattle.pair_transfers.specs.declared.recovering.RecoveryStep.TheVariants as step
use Rattle.pair_transfers.specs.declared.recovery.RecoverFault.{RecoverFault}
use Rattle.pair_transfers.specs.declared.recovery.RecoverFault.TheVariants.{Device}
use Rattle.pair_transfers.specs.declared.recovery.Recovery.{Recovery}
use Rattle.pair_transfers.specs.declared.recovery.RecoveryAct.{RecoveryAct}
use Rattle.pair_transfers.specs.declared.recovery.RecoveryAct.TheVariants.{SyncJournal, Cut, PutBack, SyncFile, EndImages, End}
use Rattle.pair_transfers.specs.declared.recovery.RecoveryPlace.{RecoveryPlace}
use Rattle.pair_transfers.specs.declared.recovery.RecoveryPlace.TheVariants.{Resting, Settled, Found, Durable, Putting, Restored, Cleared, Recovered, Failed}
use Rattle.pair_transfers.specs.declared.transfers.Standing.{Standing}
use Rattle.pair_transfers.specs.declared.transfers.TheConstants.{MOST_KEPT}
use Rattle.pair_transfers.specs.declared.transfers.Transfer.{Transfer}
use Rattle.pair_transfers.specs.declared.transfers.Transfer.TheVariants as transfer

abbrev no_sum : List ℕ
no_sum = replicate 32 0

-- a recovery begins with a look at the journal
abbrev pub recovers_at : (journal file : ℕ) → Recovering
recovers_at journal file = record {
  looking = looks_at journal file NO_HEAD;
  recovery = record { place = Resting; found = record { count = 0; calls = 0; images = 0 } };
  at = 0;
  sum = no_sum;
  journal = record { size = journal; end = 0; number = 0; sum = no_sum };
  calls = starting_at no_sum 0;
  step = step.Look;
}

-- ---- which step is next

-- where the calls of the journal end, if it has any
abbrev pub standing_behind : Recovering → Standing
standing_behind t =
    if t.recovery.found.calls == 0 then t.journal
    else record { size = t.journal.size; end = t.at; number = t.looking.head.number; sum = t.sum }

abbrev with_images_at : Recovery → Recovering → Recovering
with_images_at recovery t =
    record t { recovery = recovery; at = t.looking.additions.at; sum = t.looking.additions.sum }

abbrev with_standing : Recovering → Recovering
with_standing t = record t { journal = standing_behind t; step = step.Ask }

-- the recovery begins, or there is none to be made
abbrev begins_by : Result Recovery RecoverFault → Recovering → Result Recovering RecoverFault
begins_by (Ok recovery) t = Ok (with_standing (with_images_at recovery t))
begins_by (Err fault) t = Err fault

abbrev taken_up_at : Look → Recovering → Result Recovering RecoverFault
taken_up_at look.Head t = Ok t
taken_up_at look.Calls t = Ok t
taken_up_at look.Zero t = Ok t
taken_up_at look.Image t = Ok t
taken_up_at (look.Told seen) t = begins_by (begun seen) t

abbrev taken_up_by : RecoveryStep → Recovering → Result Recovering RecoverFault
taken_up_by step.Look t = taken_up_at t.looking.step t
taken_up_by step.Ask t = Ok t
taken_up_by step.ReadImage t = Ok t
taken_up_by (step.PutPage page bytes) t = Ok t
taken_up_by (step.Make act) t = Ok t
taken_up_by step.ReadCalls t = Ok t
taken_up_by (step.HandOn calls) t = Ok t

-- the recovery begins once the look is over
abbrev pub taken_up : Recovering → Result Recovering RecoverFault
taken_up t = taken_up_by t.step t

-- with which step an act begins
abbrev step_of : Option RecoveryAct → RecoveryStep
step_of None = step.Ask
step_of (Some SyncJournal) = step.Make SyncJournal
step_of (Some (Cut pages)) = step.Make (Cut pages)
step_of (Some (PutBack index)) = step.ReadImage
step_of (Some SyncFile) = step.Make SyncFile
step_of (Some EndImages) = step.Make EndImages
step_of (Some End) = step.Make End

abbrev asked_by : RecoveryStep → Recovering → Recovering
asked_by step.Look t = t
asked_by step.Ask t = record t { step = step_of (next_act t.recovery.found t.recovery.place) }
asked_by step.ReadImage t = t
asked_by (step.PutPage page bytes) t = t
asked_by (step.Make act) t = t
asked_by step.ReadCalls t = t
asked_by (step.HandOn calls) t = t

-- the next act is asked for
abbrev pub asked_on : Recovering → Recovering
asked_on t = asked_by t.step t

-- ---- which transfer it is

-- a journal without calls is too long to be kept
abbrev pub is_long : Recovering → Bool
is_long t = nat_lt MOST_KEPT t.journal.size

abbrev is_cleared : RecoveryPlace → Bool
is_cleared Resting = false
is_cleared Settled = false
is_cleared Found = false
is_cleared Durable = false
is_cleared (Putting index) = false
is_cleared Restored = false
is_cleared Cleared = true
is_cleared Recovered = false
is_cleared Failed = false

-- not where the head alone was written over
abbrev pub waits_for_length : Recovering → Bool
waits_for_length t = not (is_cleared t.recovery.place) || nat_lt 0 t.recovery.found.calls || is_long t

abbrev pub transfer_of_act : Recovering → RecoveryAct → Transfer
transfer_of_act t SyncJournal = transfer.SyncJournal (waits_for_length t)
transfer_of_act t (Cut pages) = transfer.CutFile pages
transfer_of_act t (PutBack index) = transfer.ReadJournal t.at 4132
transfer_of_act t SyncFile = transfer.SyncFile true
transfer_of_act t EndImages = transfer.WriteEntry t.journal.end
transfer_of_act t End =
    if is_long t then transfer.CutJournal else transfer.WriteHead

-- the next part of the calls that are made again
abbrev pub next_calls : Additions → Option Transfer
next_calls a = if nat_le a.size a.at then None else Some (transfer.ReadJournal a.at (wanted a))

abbrev transfer_by : RecoveryStep → Recovering → Option Transfer
transfer_by step.Look t = Some (transfer_of_look t.looking)
transfer_by step.Ask t = None
transfer_by step.ReadImage t = Some (transfer.ReadJournal t.at 4132)
transfer_by (step.PutPage page bytes) t = Some (transfer.WritePage page)
transfer_by (step.Make act) t = Some (transfer_of_act t act)
transfer_by step.ReadCalls t = next_calls t.calls
transfer_by (step.HandOn calls) t = Some (transfer.Remake calls)

abbrev pub transfer_now : Recovering → Option Transfer
transfer_now t = transfer_by t.step t

-- what is written by it, if anything

abbrev pub written_by : Recovering → RecoveryAct → List ℕ
written_by t SyncJournal = []
written_by t (Cut pages) = []
written_by t (PutBack index) = []
written_by t SyncFile = []
written_by t EndImages = put_back_of t.journal.sum
written_by t End = if is_long t then [] else end_of t.looking.head.number

abbrev written_at : RecoveryStep → Recovering → List ℕ
written_at step.Look t = []
written_at step.Ask t = []
written_at step.ReadImage t = []
written_at (step.PutPage page bytes) t = bytes
written_at (step.Make act) t = written_by t act
written_at step.ReadCalls t = []
written_at (step.HandOn calls) t = []

abbrev pub written_now : Recovering → List ℕ
written_now t = written_at t.step t

-- what is told is the transfer of its step
pub record Asks (old new : Recovering) (told : Option Transfer) : Type 0 where
  pub taken : Recovering
  pub taken_is : Ok taken ≡ taken_up old
  pub new_is : new ≡ asked_on taken
  pub told_is : told ≡ transfer_now new

-- the journal is refused, or a transfer has failed
abbrev pub Refuses : Recovering → RecoverFault → Type 0
Refuses old fault = (Err fault ≡ taken_up old) ⊎ (fault ≡ Device)

-- ---- what is so once it was made

abbrev asked_at : RecoveryStep → Recovering → ℕ
asked_at step.Look t = asked_of_look t.looking
asked_at step.Ask t = 0
asked_at step.ReadImage t = 4132
asked_at (step.PutPage page bytes) t = 0
asked_at (step.Make act) t = 0
asked_at step.ReadCalls t = wanted t.calls
asked_at (step.HandOn calls) t = 0

-- as many bytes are read
abbrev pub asked_of : Recovering → ℕ
asked_of t = asked_at t.step t

-- an act is done
abbrev pub act_done : Recovering → Recovering
act_done t = record t {
  recovery = record t.recovery { place = behind t.recovery.found t.recovery.place };
  step = step.Ask;
}

-- an entry behind the calls says that the images are put back
abbrev pub with_put_back : Standing → Standing
with_put_back journal = record journal {
  size = max journal.size (plus journal.end 36);
  end = plus journal.end 36;
  sum = put_back_sum journal.sum;
}

abbrev pub act_made : RecoveryAct → Recovering → Recovering
act_made EndImages t = act_done (record t { journal = with_put_back t.journal })
act_made SyncJournal t = act_done t
act_made (Cut pages) t = act_done t
act_made (PutBack index) t = act_done t
act_made SyncFile t = act_done t
act_made End t = act_done t

-- an image is written over its page, where it goes on from the one before
abbrev pub put_next : Option Image → Recovering → Option Recovering
put_next None t = None
put_next (Some i) t =
    Some (record t { at = plus t.at 4132; sum = i.sum; step = step.PutPage i.number i.page })

-- calls are handed on, where there are some; they read as before
abbrev calls_came : Came → Recovering → Option Recovering
calls_came Word t = Some t
calls_came (Calls calls) t = Some (if calls == 0 then t else record t { step = step.HandOn calls })
calls_came NoMore t = None

abbrev pub calls_read : (read : List ℕ) → Recovering → Option Recovering
calls_read read t = calls_came (came_of read t.calls) (record t { calls = after_read read t.calls })

abbrev told_by : RecoveryStep → (read : List ℕ) → Recovering → Option Recovering
told_by step.Look read t = Some (record t { looking = looked read t.looking })
told_by step.Ask read t = Some t
told_by step.ReadImage read t = put_next (image_in t.sum read) t
told_by (step.PutPage page bytes) read t = Some (act_done t)
told_by (step.Make act) read t = Some (act_made act t)
told_by step.ReadCalls read t = calls_read read t
told_by (step.HandOn calls) read t = Some (record t { step = step.ReadCalls })

-- it goes on; none where what was read is not what stood there before
abbrev pub told_on : (read : List ℕ) → Recovering → Option Recovering
told_on read t = told_by t.step read t

-- as many bytes were read as were asked for, and it has gone on
pub record Tells (read : List ℕ) (old new : Recovering) : Type 0 where
  pub long : asked_of old ≤ length read
  pub goes_on : Some new ≡ told_on (take (asked_of old) read) old

-- the calls that stand in the journal are handed on, once all is done
abbrev begins_at : RecoveryPlace → Recovering → Recovering
begins_at Resting t = t
begins_at Settled t = t
begins_at Found t = t
begins_at Durable t = t
begins_at (Putting index) t = t
begins_at Restored t = t
begins_at Cleared t = t
begins_at Recovered t =
    record t { calls = starting_at t.looking.head.sum t.journal.end; step = step.ReadCalls }
begins_at Failed t = t

abbrev pub begins_calls : Recovering → Recovering
begins_calls t = begins_at t.recovery.place t
