-- A desk serves on where calls are withdrawn, it is stopped, and pages are read and saved.
use Rattle.std.proofs.Common.{ℕ, ◌≡◌, refl, sym, ap, subst, Bool, true, false, List, Option, Some, None, length}
use Rattle.std.specs.Prelude.{IsSome, IsTrue, filter, nat_lt, not}
use Rattle.std.proofs.lemmas.List.Elements.{All-filter}
use Rattle.interleavings.specs.LoneKernelWords.{PoolState, State}
use Rattle.session.specs.Session.{SessionState}
use Rattle.session.specs.Session as sessions
use Rattle.desk.specs.Desk.{AreQuiet, DeskState, KeepsServing, Stops, Withdraws}
use Rattle.desk.specs.declared.asking.Asking.{Asking}
use Rattle.desk.specs.declared.due.Due.TheVariants.{Everybody}
use Rattle.desk.proofs.QuietLemmas.{quiet_fewer}

-- ---- calls are withdrawn, and it is stopped

pub withdrawn : (test : Asking → Bool) (some : Bool) (old : DeskState) (ws : List Asking) →
    ws ≡ filter (λ (a : Asking). not (test a)) old.waiting →
    some ≡ nat_lt (length ws) (length old.waiting) → Withdraws test some old (record old { waiting = ws })
withdrawn test some old ws left told = record {
  serves = λ s serves. record {
    holds = serves.holds;
    quiet = subst (AreQuiet s old.due) (sym left)
        (quiet_fewer s old.due old.waiting _
        (λ P all. All-filter (λ (a : Asking). not (test a)) P old.waiting all) serves.quiet);
  };
  waiting = left;
  told = told;
  session = refl;
  most = refl;
}

pub is_stopped : (old : DeskState) (k : SessionState) → sessions.Stops old.session k →
    Stops old (record old { session = k; due = Everybody })
is_stopped old k stops = record {
  serves = λ s serves. record { holds = stops.stops s serves.holds; quiet = λ n x within undue. absurd cc };
  waiting = refl;
  saved = ap (λ (p : PoolState). p.stored) stops.pool;
  most = refl;
}

-- ---- its pages are read and saved

pub keeps_serving : (old : DeskState) (k : SessionState) →
    ((s : State) → sessions.Holds s old.session → sessions.Holds s k) → KeepsServing old (record old { session = k })
keeps_serving old k holds = record {
  serves = λ s serves. record { holds = holds s serves.holds; quiet = serves.quiet };
  waiting = refl;
  most = refl;
}

pub page_given : (page : ℕ) (given : Option (List ℕ)) (old : DeskState) (k : SessionState) →
    sessions.GivesPage page given old.session k → IsSome given → KeepsServing old (record old { session = k })
page_given page None old k gives some = absurd cc
page_given page (Some bytes) old k gives some = keeps_serving old k (λ s holds. (gives.becomes s holds).holds)

pub save_noted : (saved : Bool) (old : DeskState) (k : SessionState) → sessions.NotesSave saved old.session k →
    IsTrue saved → KeepsServing old (record old { session = k })
save_noted true old k notes is = keeps_serving old k (λ s holds. (notes.becomes s holds).holds)
save_noted false old k notes is = absurd cc
