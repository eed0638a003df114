-- The access of a deed that has ended has written, or is that of a trial.
use Rattle.std.proofs.Common.{◌≡◌, refl, sym, ◌∙◌, ℕ, zero, suc, false, List, Option, Some, None}
use Rattle.std.specs.Prelude.{slice_get, option_map}
use Rattle.std.proofs.lemmas.Bool.{true≢false}
use Rattle.record_file.proofs.EndLemmas.{ended_written}
use Rattle.call_writes.specs.declared.deed.Deed.TheVariants as deeds
use Rattle.call_writes.specs.WriteWords.{RecordKey, Record, Write, Plan, Records, Lock, HasEnded, AccessView, access_key, Deed, Due, Trying, Full, Undoing, Writing, writes_left}
use Rattle.call_writes.specs.Carrying.{IsDoing}
use Rattle.call_writes.specs.Dues.{next_deed, undone}
use Rattle.call_writes.specs.MakeSteps.{IsNoTrial}

no_trial : (s : Record) (found : Option Record) → option_map undone found ≡ Some (deeds.Trial s) → ⊥
no_trial s None is = absurd cc
no_trial s (Some q) is = absurd cc

no_write : (s : Record) (found : Option Write) → option_map deeds.Write found ≡ Some (deeds.Trial s) → ⊥
no_write s None is = absurd cc
no_write s (Some w) is = absurd cc

-- a trial comes next only where trials are due
trial_due : (p : Plan) (due : Due) (r : Record) → next_deed p due ≡ Some (deeds.Trial r) →
    (standing : ℕ) × (due ≡ Trying standing)
trial_due p (Trying standing) r next = (standing, refl)
trial_due p (Full standing) r next = absurd cc
trial_due p (Undoing zero) r next = absurd cc
trial_due p (Undoing (suc place)) r next = absurd (no_trial r (slice_get p.trials place) next)
trial_due p (Writing from) r next = absurd (no_write r (slice_get (writes_left p from) zero) next)

pub has_written : (hash : RecordKey → ℕ) (names : List Lock) (p : Plan) (due : Due) (records : Records) (d : Deed)
    (a : AccessView) → IsDoing hash names p due records d a → HasEnded a.operation → a.written ≡ false →
    IsNoTrial due a → ⊥
has_written hash names p due records (deeds.Trial r) a doing ended unwritten untried =
    let (standing, is) = trial_due p due r (doing.next unwritten) in
    untried standing r (records (access_key a)) is doing.serves doing.allows
has_written hash names p due records (deeds.Write w) a doing ended unwritten untried =
    true≢false (sym (ended_written w a (records (access_key a)) doing.serves doing.allows ended) ∙ unwritten)
