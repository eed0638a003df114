-- A run of several seats on a file, told of what its pages mean.
use Rattle.std.proofs.Common.{ℕ, zero, suc, refl, sym, subst, IsTrue, Bool, List, [], ◌∷◌, take}
use Rattle.bucket_page.specs.Pseudokeys.{sha_key}
use Rattle.interleavings.proofs.of_files_at_rest.SpelledLemmas.{spells}
use Rattle.queue_model.proofs.JournalLemmas.{after-Leads, after-LeadsAlong}
use Rattle.queue_model.specs.Journal.{LeadsAlong, after}
use Rattle.queue_model.specs.declared.entry.Entry.{Entry}
use Rattle.msgq_cli.specs.Scripts.{Parts, greatest_seat}
use Rattle.msgq_cli.specs.file_check.Whole.{IsFileOf}
use Rattle.msgq_cli.specs.declared.ending.Ending.{Ending}
use Rattle.interleavings.specs.LoneKernelWords.{Call, Caller, State, restarted}
use Rattle.replays.specs.Replays.{callers_of}
use Rattle.replays.specs.Texts.{Effects}
use Rattle.workers.specs.Causes.{HadToInsert}
use Rattle.workers.specs.Origins.{IsJournalOf, LeavesFile}
use Rattle.service_runs.proofs.FitLemmas.{fitting_still}
use Rattle.service_runs.specs.Beside.{RunsBeside, RunsBesideBy, origin_on}
use Rattle.service_runs.specs.Spelled.{HadToAdd, IsSpelledJournal, LeavesSpelled}

-- so many entries of a journal lead to the system after them
leads_before : (callers : List Caller) (many : ℕ) (es : List Entry) (s t : State) → LeadsAlong callers es s t →
    LeadsAlong callers (take many es) s (after callers (take many es) s)
leads_before callers zero [] s t leads = refl
leads_before callers zero (e ∷ es) s t leads = refl
leads_before callers (suc many) [] s t leads = refl
leads_before callers (suc many) (e ∷ es) s t (u, first, more) = (
  u,
  first,
  subst (λ (x : State). LeadsAlong callers (take many es) u (after callers (take many es) x))
      (sym (after-Leads callers e s u first)) (leads_before callers many es u t more),
)

module _ (script : Parts) (honest : Bool) (c : Effects) (ending : Ending) where
  abbrev journal_spelled : (journal : List Entry) → IsJournalOf (origin_on script honest c) journal →
      IsSpelledJournal script c.content journal
  journal_spelled journal is = record {
    base = is.base;
    pages = spells sha_key c.content is.base is.file;
    now = is.legal.0;
    leads = is.legal.1;
  }

  leaves_spelled : (journal : List Entry) → LeavesFile (origin_on script honest c) journal c.left →
      LeavesSpelled script c.content journal c.left
  leaves_spelled journal leaves = record {
    plain = journal_spelled journal leaves.plain;
    pages = spells sha_key c.left _ (subst (λ (s : State). IsFileOf sha_key c.left (restarted s))
        (after-LeadsAlong (callers_of script.ids (greatest_seat script.lines)) journal leaves.plain.base _
        leaves.plain.legal.1) leaves.left);
    many = leaves.pages;
  }

  -- the entries before it lead to the system in which a call had something to insert
  had_to_add : (call : Call) → (IsTrue honest → HadToInsert (origin_on script honest c) call) → IsTrue honest →
      HadToAdd script c.content call
  had_to_add call had sure =
      let it = had sure in
      let callers = callers_of script.ids (greatest_seat script.lines) in record {
        journal = take it.inserts.since it.journal;
        plain = record {
          base = it.base;
          pages = spells sha_key c.content it.base it.file;
          now = after callers (take it.inserts.since it.journal) it.base;
          leads = leads_before callers it.inserts.since it.journal it.base it.legal.0 it.legal.1;
        };
        caller = it.inserts.caller;
        answer = it.inserts.answer;
        then = it.inserts.then;
        comes = it.inserts.comes;
        adds = it.inserts.adds;
      }

  pub beside_spelled : RunsBeside script (origin_on script honest c) c ending →
      RunsBesideBy (IsSpelledJournal script c.content) (LeavesSpelled script c.content) (HadToAdd script c.content)
      script honest c ending
  beside_spelled run = record {
    replies = run.replies;
    as_many = run.as_many;
    fits = fitting_still (λ call. IsTrue honest → HadToInsert (origin_on script honest c) call)
        (λ call. IsTrue honest → HadToAdd script c.content call) had_to_add script.lines run.replies run.fits;
    journal = run.journal;
    fault = run.fault;
    plain = λ sure. journal_spelled run.journal (run.plain sure);
    mark = run.mark;
    parts = run.parts;
    told = run.told;
    prints = run.prints;
    untold = run.untold;
    handed = run.handed;
    kept = λ all none sure. leaves_spelled run.journal (run.kept all none sure);
    synced = run.synced;
    before = run.before;
    number = run.number;
    failed = run.failed;
    full = run.full;
    reason = run.reason;
    ends = run.ends;
  }
