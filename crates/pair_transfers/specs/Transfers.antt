-- The transfers of a save: which stands for which step, and what comes behind it. docs/FORMAT.md, "The journal".
use Rattle.std.specs.Prelude.{◌≡◌, ℕ, ◌+◌, ◌++◌, ◌==◌, Bool, true, false, List, [], if◌then◌else◌, drop, length, max, min, nat_le, nat_lt, take, replicate, Option, Some, None}
use Rattle.sha2.specs.Sha256.{sha256}
use Rattle.journal_bytes.specs.Bytes.{end_of, front_of, head_of, image_of, image_sum, number_of, says, seal_in}
use Rattle.journal_bytes.specs.declared.head.FoundHead.{FoundHead}
use Rattle.pair_transfers.specs.Acts.{Pages}
use Rattle.pair_transfers.specs.Saving.{Ends, IsNext, IsTurned, SaveState, advanced, begun}
use Rattle.pair_transfers.specs.declared.room.TheConstants.{ZEROS}
use Rattle.pair_transfers.specs.declared.save.Act.{Act}
use Rattle.pair_transfers.specs.declared.save.Act.TheVariants.{Guard, SyncImages, Write, SyncFile, End, SyncEnd}
use Rattle.pair_transfers.specs.declared.save.Place.TheVariants.{Saved as Over}
use Rattle.pair_transfers.specs.declared.transfers.Standing.{Standing}
use Rattle.pair_transfers.specs.declared.transfers.Step.{Step}
use Rattle.pair_transfers.specs.declared.transfers.Step.TheVariants as step
use Rattle.pair_transfers.specs.declared.transfers.TheConstants.{MOST_KEPT, MOST_KEPT_OF_CALLS}
use Rattle.pair_transfers.specs.declared.transfers.Transfer.{Transfer}
use Rattle.pair_transfers.specs.declared.transfers.Transfer.TheVariants.{ReadHead, ReadPage, WriteHead, WriteImage, WritePage, CutJournal, SyncJournal, SyncFile as SyncsFile}

pub record TransfersState : Type 0 where
  pub save : SaveState
  -- how many pages the file has
  pub count : ℕ
  -- calls stood in the journal as the save began
  pub has_calls : Bool
  pub journal : Standing
  pub step : Step
  -- whose image is added, or that is written
  pub page : List ℕ

-- a save begins, beside this journal
abbrev pub begins_at : ℕ → Standing → TransfersState → TransfersState
begins_at count journal t = record {
  save = begun (nat_lt 0 journal.end);
  count = count;
  has_calls = nat_lt 0 journal.end;
  -- a journal that has no head is of save 1
  journal = if nat_lt 0 journal.end then journal else record journal { number = 1 };
  step = step.Ask;
  page = t.page;
}

-- ---- which transfer it is

-- the journal is too long to be kept as it is ended
abbrev pub is_long : TransfersState → Bool
is_long t =
    nat_lt (if t.has_calls then MOST_KEPT_OF_CALLS else MOST_KEPT) (max t.journal.size t.journal.end)

abbrev pub transfer_of_act : TransfersState → Act → Transfer
transfer_of_act t (Guard page) = ReadPage page
transfer_of_act t SyncImages = SyncJournal (nat_lt t.journal.size t.journal.end)
transfer_of_act t (Write page) = WritePage page
transfer_of_act t SyncFile = SyncsFile false
transfer_of_act t End = if is_long t then CutJournal else WriteHead
transfer_of_act t SyncEnd = SyncJournal (is_long t)

abbrev pub transfer_of : TransfersState → Step → Transfer
transfer_of t step.Ask = SyncJournal true
transfer_of t (step.ReadHead page) = ReadHead
transfer_of t (step.Cut page) = CutJournal
transfer_of t (step.SyncCut page) = SyncJournal true
transfer_of t (step.ReadZero page) = ReadPage 0
transfer_of t (step.Begin page seal) = WriteHead
transfer_of t (step.ReadPage page) = ReadPage page
transfer_of t (step.AddImage page sum) = WriteImage t.journal.end
transfer_of t (step.Make act) = transfer_of_act t act

-- ---- what is written by it, if anything

abbrev pub written_by : TransfersState → Act → List ℕ
written_by t (Guard page) = []
written_by t SyncImages = []
written_by t (Write page) = t.page
written_by t SyncFile = []
written_by t End = if is_long t then [] else end_of t.journal.number
written_by t SyncEnd = []

abbrev pub written_of : TransfersState → Step → List ℕ
written_of t step.Ask = []
written_of t (step.ReadHead page) = []
written_of t (step.Cut page) = []
written_of t (step.SyncCut page) = []
written_of t (step.ReadZero page) = []
written_of t (step.Begin page seal) = head_of (front_of t.count t.journal.number seal)
written_of t (step.ReadPage page) = []
written_of t (step.AddImage page sum) = image_of page t.page sum
written_of t (step.Make act) = written_by t act

-- these over the first ones
abbrev pub laid_over : (part whole : List ℕ) → List ℕ
laid_over part whole = part ++ drop (length part) whole

-- ---- with which step an act begins

-- an image needs a head, and that a number which no save had of which images may stand in the journal
abbrev pub first_image : Standing → ℕ → Step
first_image journal page =
    if nat_lt 0 journal.end then step.ReadPage page
    else if nat_le 80 journal.size then step.ReadHead page
    else if nat_lt 0 journal.size then step.Cut page
    else step.ReadZero page

abbrev pub first_step : Standing → Act → Step
first_step journal (Guard page) = first_image journal page
first_step journal SyncImages = step.Make SyncImages
first_step journal (Write page) = step.Make (Write page)
first_step journal SyncFile = step.Make SyncFile
first_step journal End = step.Make End
first_step journal SyncEnd = step.Make SyncEnd

-- its act goes on, or the next one begins, which the save has told, with the page that is written
pub record Begins {S : Type 0} (saved_of : S → Pages) (wants : S → Pages → Type 0) (turned : S → S → Type 0) (act : Act)
    (pages after : S) (old new : TransfersState) : Type 0 where
  pub next : (content : Pages) → wants pages content → IsNext old.save (Some act) new.page (saved_of pages) content
  pub kept : (content : Pages) → wants pages content → wants after content
  pub turned_so : IsTurned turned pages after
  pub begun_so : new ≡ record old { step = first_step old.journal act; page = new.page }

abbrev pub GoesOnAt : {S : Type 0} → (S → Pages) → (S → Pages → Type 0) → (S → S → Type 0) → Step →
    (pages after : S) → (old new : TransfersState) → Type 0
GoesOnAt saved_of wants turned step.Ask pages after old new =
    (act : Act) × Begins saved_of wants turned act pages after old new
GoesOnAt saved_of wants turned s pages after old new = (new ≡ old) × (after ≡ pages)

-- the save says that all is done
pub record IsOver {S : Type 0} (saved_of : S → Pages) (wants : S → Pages → Type 0) (turned : S → S → Type 0)
    (pages after : S) (old new : TransfersState) : Type 0 where
  pub next : (content : Pages) → wants pages content → IsNext old.save None new.page (saved_of pages) content
  pub turned_so : IsTurned turned pages after
  pub same : new ≡ record old { page = new.page }

-- what is told is the transfer of its step
abbrev pub Asks : {S : Type 0} → (S → Pages) → (S → Pages → Type 0) → (S → S → Type 0) → (pages after : S) →
    (old new : TransfersState) → Option Transfer → Type 0
Asks saved_of wants turned pages after old new (Some transfer) =
    GoesOnAt saved_of wants turned old.step pages after old new × (transfer ≡ transfer_of new new.step)
Asks saved_of wants turned pages after old new None = IsOver saved_of wants turned pages after old new

-- ---- what is so once it was made

-- one above the number of the last save, where a head tells that
abbrev pub above : Option ℕ → Option ℕ
above None = None
above (Some last) = if last == 18446744073709551615 then None else Some (last + 1)

abbrev pub next_number : FoundHead → Option ℕ
next_number found = above (number_of found)

abbrev pub numbered : ℕ → Option ℕ → TransfersState → TransfersState
numbered page None t = record t { step = step.Cut page }
numbered page (Some number) t =
    record t { journal = record t.journal { number = number }; step = step.ReadZero page }

-- a head stands in the journal, and nothing behind it
abbrev pub begun_with : ℕ → (seal : List ℕ) → Standing → Standing
begun_with count seal journal =
    record journal { end = 80; sum = sha256 (front_of count journal.number seal) }

-- an image stands behind it that ends with this digest
abbrev pub with_image : (sum : List ℕ) → Standing → Standing
with_image sum journal =
    record journal { end = min (journal.end + 4132) 18446744073709551615; sum = sum }

-- the image of the page that was read goes on from what stands in the journal
abbrev pub image_next : (page : ℕ) → (was : List ℕ) → TransfersState → TransfersState
image_next page was t =
    record t { page = was; step = step.AddImage page (image_sum t.journal.sum page was) }

-- its act goes on
abbrev pub gone_on : Step → (read : List ℕ) → TransfersState → TransfersState
gone_on (step.ReadHead page) read t = numbered page (next_number (says (take 80 read))) t
gone_on (step.Cut page) read t = record t { step = step.SyncCut page }
gone_on (step.SyncCut page) read t =
    record t { journal = record t.journal { size = 0 }; step = step.ReadZero page }
gone_on (step.ReadZero page) read t = record t { step = step.Begin page (seal_in read) }
gone_on (step.Begin page seal) read t =
    record t { journal = begun_with t.count seal t.journal; step = step.ReadPage page }
gone_on (step.ReadPage page) read t = image_next page read t
gone_on s read t = record t { step = s }

-- or it is done, and what stands in the journal outlasts a crash where it was synced
abbrev pub done_with : Act → Standing → TransfersState → TransfersState
done_with act journal t = record t { save = advanced act t.save; journal = journal; step = step.Ask }

abbrev pub counted : Standing → Standing
counted journal = record journal { size = max journal.size journal.end }

abbrev pub Tells : {S : Type 0} → (S → Pages) → (S → Pages → Type 0) → (S → S → Type 0) → (read : List ℕ) →
    (pages after : S) → (old new : TransfersState) → Step → Type 0
Tells saved_of wants noted read pages after old new (step.AddImage page sum) =
    (new ≡ done_with (Guard page) (with_image sum old.journal) old) × (after ≡ pages)
Tells saved_of wants noted read pages after old new (step.Make act) =
    (new ≡ done_with act (counted old.journal) old) × Ends saved_of wants noted act pages after
Tells saved_of wants noted read pages after old new s = (new ≡ gone_on s read old) × (after ≡ pages)

-- none is under way
abbrev pub none_under_way : TransfersState
none_under_way = record {
  save = record { place = Over; has_calls = false; guarded = [] };
  count = 0;
  has_calls = false;
  journal = record { size = 0; end = 0; number = 0; sum = replicate 32 0 };
  step = step.Ask;
  page = ZEROS;
}
