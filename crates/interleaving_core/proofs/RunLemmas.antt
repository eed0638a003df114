-- Steps of one seat, one after the other.
use Rattle.std.proofs.Common.{◌≡◌, ◌≢◌, refl, sym, ap, ◌∙◌, subst, ℕ, Bool, true, ◌||◌, IsSome, List, [], ◌++◌, Option, Some, None, append-nil, append_assoc, arith}
use Rattle.file_pages.specs.Fault.{FileHasCause}
use Rattle.file_pages.specs.declared.fault.FileFault.{FileFault}
use Rattle.file_pages.specs.declared.fault.FileFault.TheVariants.{Failed}
use Rattle.page_locks.proofs.ChangeLemmas.{IsSeat-with_row, with_row-own, with_row-twice}
use Rattle.step_rules.specs.declared.kind.Kind.{Kind}
use Rattle.interleaving_core.specs.Words.{Answer, Call, Entry, IsSeat, Table, row_of, with_row}
use Rattle.interleaving_core.specs.Active.{ActiveView}
use Rattle.interleaving_core.specs.Kernel.{IsWhole, KernelState, call_at, locks_of, with_call}
use Rattle.interleaving_core.specs.Owing.{IsMove, IsRun, IsTurn, answer_told, failure_by, is_end, is_failure, lapsed, told, told_of_failure}
use Rattle.interleaving_core.specs.Past.{KeepsJournal, call_of, entry_of, untold}
use Rattle.interleaving_core.specs.declared.fault.Failure.{Failure}
use Rattle.std.specs.Option.{is_some}
use Rattle.interleaving_core.specs.Searches.{Counts}
use Rattle.interleaving_core.specs.declared.step.Step.{Step}
use Rattle.interleaving_core.specs.declared.fault.StepFault.TheVariants as faults
use Rattle.interleaving_core.specs.declared.step.Step.TheVariants as steps
use Rattle.interleaving_core.proofs.PlaceLemmas.{Seats, at_other, with_own, with_twice}
use Rattle.interleaving_core.proofs.KernelLemmas.{its_row}

-- ---- nothing changes

pub stays_put : {K : Type 0} (seat : ℕ) (s : KernelState K) → row_of s.locks seat ≡ locks_of (call_at s.seats seat) →
    IsRun seat None s s
stays_put seat s row = record {
  seats = sym (with_own s.seats seat);
  locks = sym (with_row-own s.locks seat) ∙ ap (with_row s.locks seat) row;
  call = λ some. refl;
  added = [];
  journal = sym (append-nil s.journal);
  owed = append-nil (untold seat (call_at s.seats seat)) ∙ by (call_at s.seats seat);
  rest = record {
    keys = refl;
    callers = refl;
    stopped = refl;
    honest = refl;
    later = omega arith;
    stored = refl;
    pages = refl;
  };
}
  where
    by : (at : Option ActiveView) → untold seat at ≡ told seat at None ++ untold seat at
    by None = refl
    by (Some a) = refl

pub fails_put : {K : Type 0} (seat : ℕ) (did : Step) (s : KernelState K) → IsWhole s → s.failed ≡ true →
    did ≡ told_of_failure (call_at s.seats seat) → IsTurn seat did s s
fails_put seat did s whole broken is = record {
  run = subst (λ (x : Option Answer). IsRun seat x s s) (sym (ap answer_told is ∙ none (call_at s.seats seat)))
      (stays_put seat s (its_row s whole seat));
  idle = (λ e. idle_at (call_at s.seats seat) (sym is ∙ e), λ e. is ∙ ap told_of_failure e);
  spares = λ e. refl;
  over = λ ends. over_at (call_at s.seats seat) (sym (ap is_end is) ∙ ends);
  goes = λ goes. refl;
  waits = λ told. absurd (waits_at (call_at s.seats seat) (sym is ∙ told));
  decides = λ other. refl;
  entries =
      let none_is = ap lapsed is ∙ none_lapsed (call_at s.seats seat) in
      omega (arith, none_is);
  joins = λ a there.
      (subst (KeepsJournal seat s.journal) there (whole.past seat)).joined
      ∙ ap (untold seat) (sym there)
      ∙ sym (ap (λ (x : Option Answer). told seat (Some a) x ++ untold seat (call_at s.seats seat))
      (ap answer_told is ∙ none (call_at s.seats seat)));
  page = λ fault told. (no_transfer (call_at s.seats seat) fault (sym is ∙ told)).page;
  cause = λ fault told. no_transfer (call_at s.seats seat) fault (sym is ∙ told);
  failed = broken ∙ sym (ap (λ (b : Bool). b || is_failure did) broken);
  failure = first s.failure (sym whole.blamed ∙ broken);
  fails = λ b. is;
  still = λ b. refl;
  counts = subst (λ (d : Step). Counts seat d s s) (sym is) (stays (call_at s.seats seat));
}
  where
    stays : (at : Option ActiveView) → Counts seat (told_of_failure at) s s
    stays None = refl
    stays (Some a) = refl

    none_lapsed : (at : Option ActiveView) → lapsed (told_of_failure at) ≡ 0
    none_lapsed None = refl
    none_lapsed (Some a) = refl

    no_transfer : (at : Option ActiveView) (fault : FileFault) →
        told_of_failure at ≡ steps.Fault (faults.File fault) → FileHasCause s.pool s.pool fault
    no_transfer None fault told = absurd cc
    no_transfer (Some a) fault told =
        let same : Failed ≡ fault = cc in
        subst (FileHasCause s.pool s.pool) same (record { page = tt; risen = λ is. absurd cc })

    none : (at : Option ActiveView) → answer_told (told_of_failure at) ≡ None
    none None = refl
    none (Some a) = refl

    over_at : (at : Option ActiveView) → is_end (told_of_failure at) ≡ true → at ≡ None
    over_at None e = refl
    over_at (Some a) e = absurd cc

    waits_at : (at : Option ActiveView) → told_of_failure at ≡ steps.Waiting → ⊥
    waits_at None e = cc
    waits_at (Some a) e = cc

    first : (o : Option Failure) → is_some o ≡ true → o ≡ failure_by seat did o
    first None e = absurd cc
    first (Some failure) e = refl

    idle_at : (at : Option ActiveView) → told_of_failure at ≡ steps.Idle → at ≡ None
    idle_at None e = refl
    idle_at (Some a) e = absurd cc

-- ---- one step more

untold_none : (seat : ℕ) (at : Option ActiveView) → told seat at None ≡ []
untold_none seat None = refl
untold_none seat (Some a) = refl

pub runs_on : {K : Type 0} (seat : ℕ) (did : Step) (a b c : KernelState K) → IsRun seat None a b →
    IsTurn seat did b c → IsRun seat (answer_told did) a c
runs_on seat did a b c r t =
    let q = t.run in
    let at_a = call_at a.seats seat in
    let at_b = call_at b.seats seat in
    let at_c = call_at c.seats seat in
    record {
      seats = q.seats ∙ ap (λ (x : Seats). with_call x seat at_c) r.seats ∙ with_twice a.seats seat at_b at_c;
      locks = q.locks ∙ ap (λ (x : Table). with_row x seat (locks_of at_c)) r.locks
          ∙ with_row-twice a.locks seat (locks_of at_b) (locks_of at_c);
      call = λ some. q.call some ∙ r.call (subst IsSome (q.call some) some);
      added = r.added ++ q.added;
      journal = q.journal ∙ ap (λ (es : List Entry). es ++ q.added) r.journal
          ∙ append_assoc a.journal r.added q.added;
      owed = sym (append_assoc (untold seat at_a) r.added q.added)
          ∙ ap (λ (es : List Entry). es ++ q.added) (r.owed
          ∙ ap (λ (es : List Entry). es ++ untold seat at_b) (untold_none seat at_a))
          ∙ q.owed ∙ ap (λ (es : List Entry). es ++ untold seat at_c) (same_told at_b refl);
      rest = record {
        keys = q.rest.keys ∙ r.rest.keys;
        callers = q.rest.callers ∙ r.rest.callers;
        stopped = q.rest.stopped ∙ r.rest.stopped;
        honest = q.rest.honest ∙ r.rest.honest;
        later = let first = r.rest.later in let last = q.rest.later in omega (arith, first, last);
        stored = q.rest.stored ∙ r.rest.stored;
        pages = q.rest.pages ∙ r.rest.pages;
      };
    }
  where
    same_told : (at : Option ActiveView) → call_at b.seats seat ≡ at →
        told seat (call_at b.seats seat) (answer_told did) ≡ told seat (call_at a.seats seat) (answer_told did)
    same_told None is =
        let idle : did ≡ steps.Idle = t.idle.1 is in
        ap (λ (d : Step). told seat (call_at b.seats seat) (answer_told d)) idle
        ∙ untold_none seat (call_at b.seats seat) ∙ sym (untold_none seat (call_at a.seats seat))
        ∙ ap (λ (d : Step). told seat (call_at a.seats seat) (answer_told d)) (sym idle)
    same_told (Some x) is =
        ap (λ (y : Option Call). entry_of seat y (answer_told did))
        (r.call (subst (λ (y : Option ActiveView). IsSome (call_of y)) (sym is) refl))

-- what another seat has under way stays
pub others_stay : {K : Type 0} (seat other : ℕ) (answer : Option Answer) (a b : KernelState K) →
    IsRun seat answer a b → other ≢ seat → call_at b.seats other ≡ call_at a.seats other
others_stay seat other answer a b r apart =
    ap (λ (x : Seats). call_at x other) r.seats ∙ at_other a.seats seat other (call_at b.seats seat) apart

-- the seat stays one
pub seat_stays : {K : Type 0} (seat : ℕ) (answer : Option Answer) (a b : KernelState K) → IsRun seat answer a b →
    IsSeat a.locks seat → IsSeat b.locks seat
seat_stays seat answer a b r is =
    subst (λ (t : Table). IsSeat t seat) (sym r.locks)
    (IsSeat-with_row a.locks seat seat (locks_of (call_at b.seats seat)) is)

-- a step that does not move
pub no_move : (did : Step) → ((kind : Kind) → did ≡ steps.Moved kind → ⊥) → IsMove did → ⊥
no_move (steps.Moved kind) other move = other kind refl
no_move (steps.Blocked seat) other move = move
no_move steps.Waiting other move = move
no_move (steps.Answered answer) other move = move
no_move steps.Idle other move = move
no_move (steps.Fault fault) other move = move
