-- How a journal is read: its head, the additions of calls behind it, and its images. docs/FORMAT.md, "The journal".
use Rattle.std.specs.Prelude.{ℕ, ◌+◌, ◌*◌, ◌/◌, ◌==◌, ◌||◌, ◌&&◌, nat_le, nat_lt, min, Bool, false, List, length, if◌then◌else◌, Option, Some, None}
use Rattle.journal_bytes.specs.Bytes.{is_page_zero, says}
use Rattle.journal_bytes.specs.Entries.{entry_in, image_in, sum_in}
use Rattle.journal_bytes.specs.declared.entry.Entry.{Entry}
use Rattle.journal_bytes.specs.declared.entry.Entry.TheVariants as entry
use Rattle.journal_bytes.specs.declared.entry.Image.{Image}
use Rattle.journal_bytes.specs.declared.head.FoundHead.{FoundHead}
use Rattle.journal_bytes.specs.declared.head.FoundHead.TheVariants as head
use Rattle.journal_bytes.specs.declared.head.Head.{Head}
use Rattle.pair_transfers.specs.declared.additions.Additions.{Additions}
use Rattle.pair_transfers.specs.declared.additions.Came.{Came}
use Rattle.pair_transfers.specs.declared.additions.Came.TheVariants.{Word, Calls, End}
use Rattle.pair_transfers.specs.declared.looking.Looking.{Looking}
use Rattle.pair_transfers.specs.declared.looking.Look.{Look}
use Rattle.pair_transfers.specs.declared.looking.Look.TheVariants as look
use Rattle.pair_transfers.specs.declared.recovery.Seen.{Seen}
use Rattle.pair_transfers.specs.declared.recovery.Seen.TheVariants.{Nothing, Whole, Foreign, OtherVersion}
use Rattle.pair_transfers.specs.declared.transfers.Transfer.{Transfer}
use Rattle.pair_transfers.specs.declared.transfers.Transfer.TheVariants.{ReadJournal, ReadPage}

-- a sum of places, which ends at the highest number of 64 bits
abbrev pub plus : (at many : ℕ) → ℕ
plus at many = min (at + many) 18446744073709551615

-- ---- additions of calls

abbrev pub starting_at : (sum : List ℕ) → (size : ℕ) → Additions
starting_at sum size = record { size = size; at = 80; sum = sum; calls = None }

-- an entry with so many bytes of calls may follow
abbrev pub has_room : (calls : ℕ) → Additions → Bool
has_room calls a = nat_le (plus a.at (36 + calls)) a.size

abbrev pub length_of : Option ℕ → ℕ
length_of None = 4
length_of (Some calls) = min (calls + 36) 4294967295

abbrev pub wanted : Additions → ℕ
wanted a = length_of a.calls

-- an entry has so many bytes of calls, of which there is room; an image has none
abbrev pub calls_in : Entry → Additions → Option ℕ
calls_in entry.Image a = None
calls_in (entry.Calls calls) a = if has_room calls a then Some calls else None
calls_in entry.PutBack a = Some 0

-- its word was read
abbrev pub opened : Option ℕ → Additions → Additions
opened None a = a
opened (Some calls) a = record a { calls = Some calls }

abbrev pub after_entry : Entry → Additions → Additions
after_entry e a = opened (calls_in e a) a

abbrev pub came_of_word : Option ℕ → Came
came_of_word None = End
came_of_word (Some calls) = Word

abbrev pub came_of_entry : Entry → Additions → Came
came_of_entry e a = came_of_word (calls_in e a)

-- it was read, and ends with this digest where that is right
abbrev pub passed : (read : List ℕ) → Option (List ℕ) → Additions → Additions
passed read None a = record a { calls = None }
passed read (Some sum) a = record a { calls = None; at = plus a.at (length read); sum = sum }

abbrev pub came_of_sum : (calls : ℕ) → Option (List ℕ) → Came
came_of_sum calls None = End
came_of_sum calls (Some sum) = Calls calls

abbrev after_part : Option ℕ → (read : List ℕ) → Additions → Additions
after_part None read a = after_entry (entry_in read) a
after_part (Some calls) read a = passed read (sum_in a.sum read) a

abbrev came_of_part : Option ℕ → (read : List ℕ) → Additions → Came
came_of_part None read a = came_of_entry (entry_in read) a
came_of_part (Some calls) read a = came_of_sum calls (sum_in a.sum read)

abbrev pub after_read : (read : List ℕ) → Additions → Additions
after_read read a = after_part a.calls read a

abbrev pub came_of : (read : List ℕ) → Additions → Came
came_of read a = came_of_part a.calls read a

-- ---- a look at a journal

-- a look at files of so many bytes
abbrev pub looks_at : (journal file : ℕ) → Head → Looking
looks_at journal file none = record {
  journal = journal;
  file = file;
  head = none;
  additions = starting_at none.sum journal;
  calls = 0;
  images = 0;
  sum = none.sum;
  at = 80;
  is_its = false;
  step = if nat_lt journal 80 then look.Told Nothing else look.Head;
}

-- the journal's calls are passed by: it is none without calls where it takes some, and else its file is looked at
abbrev pub behind_calls : Looking → Look
behind_calls l =
    if l.head.takes_calls && l.calls == 0 then look.Told Nothing
    else if nat_lt l.file (l.head.count * 4096) || nat_lt l.file 4096 then look.Told Foreign
    else look.Zero

-- images begin behind the additions
abbrev pub with_calls_passed : Looking → Looking
with_calls_passed l = record l { at = l.additions.at; sum = l.additions.sum; step = behind_calls l }

abbrev pub next_addition : Looking → Looking
next_addition l = if has_room 0 l.additions then record l { step = look.Calls } else with_calls_passed l

-- what the head says decides how it goes on
abbrev pub with_head : Head → Looking → Looking
with_head h l = record l { head = h; additions = starting_at h.sum l.journal }

abbrev pub begun_behind : Looking → Looking
begun_behind l = if l.head.takes_calls then next_addition l else with_calls_passed l

abbrev pub told_head : FoundHead → Looking → Looking
told_head head.Torn l = record l { step = look.Told Nothing }
told_head (head.Ended number) l = record l { step = look.Told Nothing }
told_head head.OtherVersion l = record l { step = look.Told OtherVersion }
told_head (head.Whole h) l = begun_behind (with_head h l)

-- what came of a part of the additions
abbrev pub one_more : (calls count : ℕ) → ℕ
one_more calls count = if calls == 0 then count else plus count 1

abbrev pub told_calls : Came → Looking → Looking
told_calls Word l = l
told_calls (Calls calls) l = next_addition (record l { calls = one_more calls l.calls })
told_calls End l = with_calls_passed l

-- what is seen once no image follows
abbrev pub seen_by : Looking → Seen
seen_by l =
    if l.is_its
    then Whole (record { count = l.head.count; calls = l.calls; images = l.images }) (min (l.file / 4096) 4294967295)
    else Foreign

abbrev pub next_image : Looking → Look
next_image l = if nat_le (plus l.at 4132) l.journal then look.Image else look.Told (seen_by l)

-- its page is there, and where it is page 0 it may be that of the head
abbrev pub with_image : Image → Looking → Looking
with_image i l = record l {
  images = min (l.images + 1) 4294967295;
  at = plus l.at 4132;
  sum = i.sum;
  is_its = l.is_its || i.number == 0 && is_page_zero l.head.page_zero i.page;
}

abbrev pub then_next_image : Looking → Looking
then_next_image l = record l { step = next_image l }

abbrev pub told_image : Option Image → Looking → Looking
told_image None l = record l { step = look.Told (seen_by l) }
told_image (Some i) l =
    if nat_le l.head.count i.number then record l { step = look.Told Foreign } else then_next_image (with_image i l)

-- the step of a look, once these bytes were read
abbrev looked_on : Look → (read : List ℕ) → Looking → Looking
looked_on look.Head read l = told_head (says read) l
looked_on look.Calls read l =
    told_calls (came_of read l.additions) (record l { additions = after_read read l.additions })
looked_on look.Zero read l = then_next_image (record l { is_its = is_page_zero l.head.page_zero read })
looked_on look.Image read l = told_image (image_in l.sum read) l
looked_on (look.Told seen) read l = l

abbrev pub looked : (read : List ℕ) → Looking → Looking
looked read l = looked_on l.step read l

-- ---- which transfer it is

abbrev transfer_at : Look → Looking → Transfer
transfer_at look.Head l = ReadJournal 0 80
transfer_at look.Calls l = ReadJournal l.additions.at (wanted l.additions)
transfer_at look.Zero l = ReadPage 0
transfer_at look.Image l = ReadJournal l.at 4132
transfer_at (look.Told seen) l = ReadPage 0

abbrev pub transfer_of_look : Looking → Transfer
transfer_of_look l = transfer_at l.step l

abbrev asked_at : Look → Looking → ℕ
asked_at look.Head l = 80
asked_at look.Calls l = wanted l.additions
asked_at look.Zero l = 4096
asked_at look.Image l = 4132
asked_at (look.Told seen) l = 0

-- as many bytes are read
abbrev pub asked_of_look : Looking → ℕ
asked_of_look l = asked_at l.step l
