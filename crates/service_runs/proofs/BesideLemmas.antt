-- What a run told, beside the journal of its service.
use Rattle.std.proofs.Common.{◌≡◌, ◌<◌, ◌≤◌, ℕ, zero, suc, ◌+◌, Bool, true, false, IsTrue, inl, inr, List, [], ◌||◌, Option, Some, length, sym, ap, ◌∙◌, subst, append-nil, arith}
use Rattle.std.specs.List.{All, list_any}
use Rattle.msgq_cli.proofs.OutputLemmas.{Prints-then}
use Rattle.numbers.specs.declared.faults.TheConstants.{FAILED, NO_MEMORY}
use Rattle.bucket_page.specs.Pseudokeys.{sha_key}
use Rattle.bucket_page.specs.declared.pseudokey.ShaKey.{ShaKey}
use Rattle.interleavings.proofs.ToldLemmas.{risen_since}
use Rattle.interleavings.specs.interleaving_core.declared.fault.Failure.{Failure}
use Rattle.interleavings.specs.interleaving_core.declared.kernel.TheConstants.{MAX_DECIDED}
use Rattle.interleavings.specs.interleaving_core.declared.fault.OpenFault.TheVariants.{NoMemory}
use Rattle.msgq_cli.specs.Outputs.{OutputState, Prints}
use Rattle.msgq_cli.specs.Refusals.{IsFaultAlone}
use Rattle.msgq_cli.specs.Runs.{printed}
use Rattle.msgq_cli.specs.Scripts.{Parts, greatest_seat}
use Rattle.msgq_cli.specs.declared.ending.Ending.{Ending}
use Rattle.msgq_cli.specs.declared.reply.Reply.{Reply}
use Rattle.queue_model.specs.declared.call.Call.{Call}
use Rattle.queue_model.specs.declared.entry.Entry.{Entry}
use Rattle.replays.specs.Replays.{EndsWith}
use Rattle.replays.specs.Texts.{Effects}
use Rattle.workers.specs.Opening.{PreparedView, origin_of}
use Rattle.workers.specs.Causes.{HadToInsert}
use Rattle.workers.specs.Closing.{Remains}
use Rattle.workers.specs.Origins.{HasFrames, IsJournalOf, LeavesFile, Origin}
use Rattle.workers.specs.Told.{Sitter}
use Rattle.service_runs.proofs.FitLemmas.{FitsAt, IsWithin, any_seat, fits_all, fitting_still}
use Rattle.service_runs.proofs.LineLemmas.{part_told}
use Rattle.service_runs.proofs.MarkLemmas.{marks}
use Rattle.service_runs.proofs.PairLemmas.{HasDone, long_sitters, sitter_there, sitters}
use Rattle.service_runs.specs.Beside.{HasEnded, IsPart, RunsBeside, RunsBesideOn, RunsFrom, counted_from, origin_on, told_to}
use Rattle.service_runs.specs.Desks.{DeskView, IsPreparedFor, MayLackRoom, desk_at}
use Rattle.service_runs.specs.Lines.{AreFitting, entries_to, is_failure, is_session_full, is_stop, lines_of, replies_to}
use Rattle.service_runs.specs.Printing.{IsPrintedOf}

-- ---- where transfers had failed before

module _ (was : ℕ) (o : Origin) (journal : List Entry) where
  abbrev journal_from : IsJournalOf o journal → IsJournalOf (counted_from was o) journal
  journal_from j = record { base = j.base; file = j.file; legal = j.legal; fifo = j.fifo }

  file_from : (content : List (List ℕ)) → LeavesFile o journal content →
      LeavesFile (counted_from was o) journal content
  file_from content l = record { plain = journal_from l.plain; left = l.left; pages = l.pages }

had_from : (was : ℕ) (o : Origin) (call : Call) → (IsTrue o.honest → HadToInsert o call) → IsTrue o.honest →
    HadToInsert (counted_from was o) call
had_from was o call had honest =
    let it = had honest in
    record { base = it.base; file = it.file; journal = it.journal; legal = it.legal; inserts = it.inserts }

-- ---- what each seat was told

module _ (script : Parts) (made : List DeskView) (many : length made ≡ greatest_seat script.lines)
    (o : Origin) (all : length o.callers ≡ greatest_seat script.lines)
    (done : (place : ℕ) → place < greatest_seat script.lines → HasDone o script.lines place (desk_at made place))
  where
    part_at : (fault : Option ℕ) (journal : List Entry) (replies : List Reply) (place : ℕ) →
        place < greatest_seat script.lines → IsPart fault journal (desk_at made place).sitter.seat
        (desk_at made place).sitter.list →
        replies_to (place + 1) script.lines replies ≡ (desk_at made place).lines.replies →
        IsPart fault journal (place + 1) (told_to (place + 1) script.lines replies)
    part_at fault journal replies place below its own =
        let d = done place below in
        subst (IsPart fault journal (place + 1))
        (d.told ∙ ap (entries_to (lines_of (place + 1) script.lines)) (sym own)
        ∙ part_told (place + 1) script.lines replies)
        (subst (λ (n : ℕ). IsPart fault journal n (desk_at made place).sitter.list) d.seat its)

    parts_of : (used untold : Bool) (fault : Option ℕ) (left : Remains) (replies : List Reply) →
        HasEnded o (sitters made) used untold fault left →
        ((place : ℕ) → place < length made →
        replies_to (place + 1) script.lines replies ≡ (desk_at made place).lines.replies) →
        (seat : ℕ) → 1 ≤ seat → seat ≤ greatest_seat script.lines →
        IsPart fault left.journal seat (told_to seat script.lines replies)
    parts_of used untold fault left replies ended own zero some few = absurd (omega arith)
    parts_of used untold fault left replies ended own (suc place) some few =
        let long = long_sitters made in
        let up : place + 1 ≡ suc place = omega arith in
        let below : place < greatest_seat script.lines = omega (arith, few) in
        let here : place < length made = omega (arith, below, many) in
        subst (λ (n : ℕ). IsPart fault left.journal n (told_to n script.lines replies)) up
        (part_at fault left.journal replies place below
        (subst (λ (x : Sitter). IsPart fault left.journal x.seat x.list) (sitter_there made place)
        (ended.parts place (omega (arith, here, long))))
        (own place here))

    fits_at : (replies : List Reply) →
        ((place : ℕ) → place < length made →
        replies_to (place + 1) script.lines replies ≡ (desk_at made place).lines.replies) →
        FitsAt (greatest_seat script.lines) (MayLackRoom o) script.lines replies
    fits_at replies own zero some few = absurd (omega arith)
    fits_at replies own (suc place) some few =
        let up : place + 1 ≡ suc place = omega arith in
        let below : place < greatest_seat script.lines = omega (arith, few) in
        let here : place < length made = omega (arith, below, many) in
        subst (λ (n : ℕ). AreFitting (MayLackRoom o) (lines_of n script.lines) (replies_to n script.lines replies)) up
        (subst (AreFitting (MayLackRoom o) (lines_of (place + 1) script.lines)) (sym (own place here))
        (done place below).fits)

    -- a line was replied 62 only where its seat knows of a failure
    failure_at : (used untold : Bool) (fault : Option ℕ) (left : Remains) (replies : List Reply) →
        HasEnded o (sitters made) used untold fault left →
        ((place : ℕ) → place < length made →
        replies_to (place + 1) script.lines replies ≡ (desk_at made place).lines.replies) →
        (seat : ℕ) → 1 ≤ seat → seat ≤ greatest_seat script.lines →
        list_any is_failure (replies_to seat script.lines replies) ≡ true → fault ≡ Some FAILED
    failure_at used untold fault left replies ended own zero some few is = absurd (omega arith)
    failure_at used untold fault left replies ended own (suc place) some few is =
        let long = long_sitters made in
        let up : suc place ≡ place + 1 = omega arith in
        let below : place < greatest_seat script.lines = omega (arith, few) in
        let here : place < length made = omega (arith, below, many) in
        let there = subst (λ (n : ℕ). list_any is_failure (replies_to n script.lines replies) ≡ true) up is in
        subst (λ (x : Sitter). x.failed ≡ true → fault ≡ Some FAILED) (sitter_there made place)
        (ended.failed place (omega (arith, here, long)))
        ((done place below).knows.failed (sym (ap (list_any is_failure) (own place here)) ∙ there))

    failures : (used untold : Bool) (fault : Option ℕ) (left : Remains) (replies : List Reply) →
        length replies ≡ length script.lines → All (IsWithin (greatest_seat script.lines)) script.lines →
        HasEnded o (sitters made) used untold fault left →
        ((place : ℕ) → place < length made →
        replies_to (place + 1) script.lines replies ≡ (desk_at made place).lines.replies) →
        list_any is_failure replies ≡ true → fault ≡ Some FAILED
    failures used untold fault left replies same within ended own is =
        let a = any_seat (greatest_seat script.lines) is_failure script.lines replies same within is in
        failure_at used untold fault left replies ended own a.seat a.some a.few a.any

    -- and 61 only where its seat was shown as many calls
    full_at : (used untold : Bool) (fault : Option ℕ) (left : Remains) (replies : List Reply) →
        HasEnded o (sitters made) used untold fault left →
        ((place : ℕ) → place < length made →
        replies_to (place + 1) script.lines replies ≡ (desk_at made place).lines.replies) →
        (seat : ℕ) → 1 ≤ seat → seat ≤ greatest_seat script.lines →
        list_any is_session_full (replies_to seat script.lines replies) ≡ true →
        MAX_DECIDED ≤ length left.journal + greatest_seat script.lines
    full_at used untold fault left replies ended own zero some few is = absurd (omega arith)
    full_at used untold fault left replies ended own (suc place) some few is =
        let long = long_sitters made in
        let up : suc place ≡ place + 1 = omega arith in
        let below : place < greatest_seat script.lines = omega (arith, few) in
        let here : place < length made = omega (arith, below, many) in
        let there = subst (λ (n : ℕ). list_any is_session_full (replies_to n script.lines replies) ≡ true) up is in
        enough MAX_DECIDED (desk_at made place).sitter.seen (length o.callers) (length left.journal)
        (greatest_seat script.lines)
        ((done place below).knows.full (sym (ap (list_any is_session_full) (own place here)) ∙ there))
        (subst (λ (x : Sitter). x.seen ≤ length left.journal) (sitter_there made place)
        (ended.shown place (omega (arith, here, long))))
        all
      where
        enough : (most seen callers entries seats : ℕ) → most ≤ seen + callers → seen ≤ entries → callers ≡ seats →
            most ≤ entries + seats
        enough most seen callers entries seats full shown same = omega arith

    fulls : (used untold : Bool) (fault : Option ℕ) (left : Remains) (replies : List Reply) →
        length replies ≡ length script.lines → All (IsWithin (greatest_seat script.lines)) script.lines →
        HasEnded o (sitters made) used untold fault left →
        ((place : ℕ) → place < length made →
        replies_to (place + 1) script.lines replies ≡ (desk_at made place).lines.replies) →
        list_any is_session_full replies ≡ true → MAX_DECIDED ≤ length left.journal + greatest_seat script.lines
    fulls used untold fault left replies same within ended own is =
        let a = any_seat (greatest_seat script.lines) is_session_full script.lines replies same within is in
        full_at used untold fault left replies ended own a.seat a.some a.few a.any

    -- and the whole of it
    pub beside : All (IsWithin (greatest_seat script.lines)) script.lines → (c : Effects)
        (ending so_far : Ending) (fault : Option ℕ) (journal : List Entry)
        (seats : List Sitter) (failure : Option Failure) (honest : Bool) (first told : OutputState)
        (has_stopped lent used : Bool) → used ≡ (has_stopped || lent) →
        (list_any is_stop script.lines ≡ false → lent ≡ false) →
        IsPrintedOf script.lines made c.old first so_far has_stopped → Prints first told [] → c.untold ≡ told.refused →
        (told.refused ≡ false → told.handed ≡ told.known) →
        HasEnded o (sitters made) used c.untold fault (record {
          journal = journal;
          seats = seats;
          failure = failure;
          content = c.left;
          honest = honest;
          synced = c.synced;
          faults = c.faults;
        }) → EndsWith fault told so_far c.new ending → o.content ≡ c.content → HasFrames o → c.was ≤ o.faults →
        RunsBeside script (counted_from c.was o) c ending
    beside within c ending so_far fault journal seats failure honest first told has_stopped lent used is unused
        p flushed untold handed ended ends same framed was =
        let fits = fits_all (greatest_seat script.lines) (MayLackRoom o) script.lines p.replies within
        (fits_at p.replies p.own) in
        record {
          replies = p.replies;
          as_many = p.as_many;
          fits = fitting_still (MayLackRoom o) (MayLackRoom (counted_from c.was o)) (had_from c.was o) script.lines
              p.replies fits;
          journal = journal;
          fault = fault;
          plain = λ honest. journal_from c.was o journal (ended.plain honest);
          mark = marks (MayLackRoom o) script.lines p.replies journal fits p.as_many has_stopped lent used is unused
              p.stops ended.mark;
          parts = parts_of used c.untold fault _ p.replies ended p.own;
          told = told;
          prints = subst (Prints c.old told) (append-nil (printed script.lines p.replies))
              (Prints-then c.old first told _ [] p.prints flushed);
          untold = untold;
          handed = λ is. handed (sym untold ∙ is);
          kept = λ is none honest. file_from c.was o journal c.left (ended.kept is none honest);
          synced = ended.synced;
          before = λ either. ended.before either framed ∙ same;
          number = ended.number;
          failed = failures used c.untold fault _ p.replies p.as_many within ended p.own;
          full = fulls used c.untold fault _ p.replies p.as_many within ended p.own;
          reason = record {
            device = λ is. risen_since was (ended.reason.device is);
            step = λ honest is. risen_since was (ended.reason.step honest is);
          };
          ends = subst (λ (e : Ending). EndsWith fault told e c.new ending) p.ends ends;
        }

-- ---- the file is not opened, or is opened for the seats

pub no_room : (script : Parts) (o : Origin) (c : Effects) (ending : Ending) → c.left ≡ c.content →
    IsFaultAlone NO_MEMORY c.old c.new ending → c.untold ≡ false → RunsFrom script o c ending
no_room script o c ending pages alone told = inr record {
  fault = NoMemory;
  framed = λ is. absurd cc;
  cause = λ honest. tt;
  failed = λ is. absurd cc;
  leaves = record { pages = pages; alone = alone; told = told };
}

module _ (script : Parts) (honest : Bool) (c : Effects) (p : PreparedView ShaKey)
    (f : IsPreparedFor script c.content honest p) where
  origin_is : counted_from c.was (origin_of (λ _. sha_key) p) ≡ origin_on script honest c
  origin_is = λ i. record {
    content = f.content_is i;
    honest = f.honest_is i;
    faults = c.was;
    frames = length (f.content_is i);
    hash = sha_key;
    callers = f.callers_are i;
  }

  pub from_prepared : (ending : Ending) →
      RunsFrom script (counted_from c.was (origin_of (λ _. sha_key) p)) (record c { content = p.content }) ending →
      RunsBesideOn script honest c ending
  from_prepared ending runs =
      subst (λ (o : Origin). RunsFrom script o c ending) origin_is
      (subst (λ (x : List (List ℕ)). RunsFrom script (counted_from c.was (origin_of (λ _. sha_key) p))
      (record c { content = x }) ending) f.content_is runs)

pub from_origin : (script : Parts) (o other : Origin) (c : Effects) (ending : Ending) → o ≡ other →
    RunsBeside script other c ending → RunsFrom script o c ending
from_origin script o other c ending same runs =
    inl (subst (λ (x : Origin). RunsBeside script x c ending) (sym same) runs)
