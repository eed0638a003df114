-- The transfers of a note: which stands for which step, and what comes behind it. docs/FORMAT.md, "The journal".
use Rattle.std.specs.Prelude.{ℕ, ◌+◌, ◌-◌, ◌*◌, ◌/◌, ◌++◌, Bool, true, false, List, nat_le, nat_lt, min, take, replicate, if◌then◌else◌, Option, Some, None}
use Rattle.sha2.specs.Sha256.{sha256}
use Rattle.journal_bytes.specs.Bytes.{calls_front_of, head_of, says, seal_in}
use Rattle.journal_bytes.specs.Entries.{calls_sum, calls_word}
use Rattle.pair_transfers.specs.Noting.{behind_note, next_of_note}
use Rattle.pair_transfers.specs.Reading.{plus}
use Rattle.pair_transfers.specs.Transfers.{next_number}
use Rattle.pair_transfers.specs.declared.note.NoteAct.{NoteAct}
use Rattle.pair_transfers.specs.declared.note.NoteAct.TheVariants.{Add, Sync}
use Rattle.pair_transfers.specs.declared.note.NotePlace.{NotePlace}
use Rattle.pair_transfers.specs.declared.note.NotePlace.TheVariants.{Unnoted, Added, Noted, Failed}
use Rattle.pair_transfers.specs.declared.noting.NoteStep.{NoteStep}
use Rattle.pair_transfers.specs.declared.noting.NoteStep.TheVariants as step
use Rattle.pair_transfers.specs.declared.noting.Noting.{Noting}
use Rattle.pair_transfers.specs.declared.noting.TheConstants.{STEP, ZEROS}
use Rattle.pair_transfers.specs.declared.transfers.Standing.{Standing}
use Rattle.pair_transfers.specs.declared.transfers.Transfer.{Transfer}
use Rattle.pair_transfers.specs.declared.transfers.Transfer.TheVariants as transfer

abbrev pub is_noted : NotePlace → Bool
is_noted Unnoted = false
is_noted Added = false
is_noted Noted = true
is_noted Failed = false

-- none is under way
abbrev pub notes_over : Noting
notes_over = record {
  note = record { place = Noted };
  count = 0;
  calls = 0;
  journal = record { size = 0; end = 0; number = 0; sum = replicate 32 0 };
  head = None;
  step = step.Ask;
}

-- one begins, beside this journal; one that has no head is of save 1
abbrev pub begins_note : (count calls : ℕ) → Standing → Noting
begins_note count calls journal = record {
  note = record { place = Unnoted };
  count = count;
  calls = calls;
  journal = record journal { number = if nat_lt 0 journal.end then journal.number else 1 };
  head = None;
  step = step.Ask;
}

-- ---- which step is next

-- where the addition ends
abbrev pub end_of_note : Noting → ℕ
end_of_note n = plus n.journal.end (36 + n.calls)

-- as many steps of zeros are added as it takes
abbrev room_for : (end size : ℕ) → ℕ
room_for end size = plus size (min (((end - size) / STEP + 1) * STEP) 18446744073709551615)

abbrev pub step_behind : Noting → NoteStep
step_behind n =
    if nat_le (end_of_note n) n.journal.size then step.Write
    else step.TakeRoom (room_for (end_of_note n) n.journal.size)

-- the first addition needs a head, and that a number which no save had of which images may stand in the journal
abbrev pub first_step_of_note : Noting → NoteStep
first_step_of_note n =
    if nat_lt 0 n.journal.end then step_behind n
    else if nat_le 80 n.journal.size then step.ReadHead
    else if nat_lt 0 n.journal.size then step.Cut
    else step.ReadZero

abbrev begun_by : Option NoteAct → Noting → Noting
begun_by None n = n
begun_by (Some Add) n = record n { step = first_step_of_note n }
begun_by (Some Sync) n = record n { step = step.Sync }

abbrev asked_at : NoteStep → Noting → Noting
asked_at step.Ask n = begun_by (next_of_note n.note.place) n
asked_at step.ReadHead n = n
asked_at step.Cut n = n
asked_at step.SyncCut n = n
asked_at step.ReadZero n = n
asked_at (step.TakeRoom end) n = n
asked_at step.SyncRoom n = n
asked_at step.Write n = n
asked_at step.Sync n = n

-- the next act is asked for
abbrev pub asked_note : Noting → Noting
asked_note n = asked_at n.step n

-- ---- which transfer it is

abbrev addition_at : Option (List ℕ) → Noting → Transfer
addition_at None n = transfer.WriteCalls n.journal.end (min (n.calls + 36) 4294967295)
addition_at (Some seal) n = transfer.WriteCalls 0 (min (min (n.calls + 36) 4294967295 + 80) 4294967295)

abbrev pub addition_of_note : Noting → Transfer
addition_of_note n = addition_at n.head n

abbrev transfer_at : NoteStep → Noting → Option Transfer
transfer_at step.Ask n = None
transfer_at step.ReadHead n = Some transfer.ReadHead
transfer_at step.Cut n = Some transfer.CutJournal
transfer_at step.SyncCut n = Some (transfer.SyncJournal true)
transfer_at step.ReadZero n = Some (transfer.ReadPage 0)
transfer_at (step.TakeRoom end) n = Some (transfer.WriteZeros n.journal.size ZEROS)
transfer_at step.SyncRoom n = Some (transfer.SyncJournal true)
transfer_at step.Write n = Some (addition_of_note n)
transfer_at step.Sync n = Some (transfer.SyncJournal false)

abbrev pub transfer_of_note : Noting → Option Transfer
transfer_of_note n = transfer_at n.step n

-- a head, where the addition is the first, and else what stands there
abbrev pub head_over : Noting → Option (List ℕ) → (old : List ℕ) → List ℕ
head_over n None old = old
head_over n (Some seal) old = head_of (calls_front_of n.count n.journal.number seal)

-- and the word of the calls
abbrev pub front_of_note : Noting → (calls old : List ℕ) → List ℕ
front_of_note n calls old = head_over n n.head (take 80 old) ++ calls_word calls

-- ---- what is so once it was made

abbrev pub head_read : Option ℕ → Noting → Noting
head_read None n = record n { step = step.Cut }
head_read (Some number) n = record n { journal = record n.journal { number = number }; step = step.ReadZero }

abbrev then_behind : Noting → Noting
then_behind n = record n { step = step_behind n }

abbrev pub with_head_of : (read : List ℕ) → Noting → Noting
with_head_of read n = then_behind (record n {
  journal = record n.journal { end = 80; sum = sha256 (calls_front_of n.count n.journal.number (seal_in read)) };
  head = Some (seal_in read);
})

abbrev with_zeros : Noting → Noting
with_zeros n = record n { journal = record n.journal { size = plus n.journal.size ZEROS } }

abbrev pub room_taken : (end : ℕ) → Noting → Noting
room_taken end n =
    if nat_le end (plus n.journal.size ZEROS) then record (with_zeros n) { step = step.SyncRoom } else with_zeros n

abbrev pub with_calls_added : (calls : List ℕ) → Noting → Noting
with_calls_added calls n = record n {
  journal = record n.journal { end = end_of_note n; sum = calls_sum n.journal.sum calls };
  head = None;
  step = step.Ask;
}

-- an act is done
abbrev act_noted : Noting → Noting
act_noted n = record n { note = record { place = behind_note n.note.place } }

abbrev told_at : NoteStep → (read calls : List ℕ) → Noting → Noting
told_at step.Ask read calls n = n
told_at step.ReadHead read calls n = head_read (next_number (says (take 80 read))) n
told_at step.Cut read calls n = record n { step = step.SyncCut }
told_at step.SyncCut read calls n = record n { journal = record n.journal { size = 0 }; step = step.ReadZero }
told_at step.ReadZero read calls n = with_head_of read n
told_at (step.TakeRoom end) read calls n = room_taken end n
told_at step.SyncRoom read calls n = record n { step = step.Write }
told_at step.Write read calls n = act_noted (with_calls_added calls n)
told_at step.Sync read calls n = act_noted (record n { step = step.Ask })

abbrev pub told_note : (read calls : List ℕ) → Noting → Noting
told_note read calls n = told_at n.step read calls n
