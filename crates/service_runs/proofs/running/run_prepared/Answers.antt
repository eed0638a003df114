use Rattle.std.proofs.Common.{rules, ◌≡◌, ◌≤◌, ◌<◌, false, List, length, sym, ap, ◌∙◌, subst, arith, ℕ}
use denote.Param.Send.{sendable}
use Rattle.std.specs.List.{list_any}
use Rattle.std.specs.Prelude.{replicate}
use Rattle.std.specs.Vec.{vec_len}
use Rattle.msgq_cli.specs.Scripts.{greatest_seat}
use Rattle.msgq_cli.specs.declared.line.Line.{Line}
use Rattle.service_runs.proofs.BesideLemmas.{beside, from_origin, no_room}
use Rattle.service_runs.proofs.LineLemmas.{seats_within}
use Rattle.service_runs.proofs.PairLemmas.{all_back, done_at, length-newcomers, many_made, of_seats, same_seats, sitters, untouched}
use Rattle.service_runs.specs.Beside.{HasEnded, counted_from}
use Rattle.service_runs.specs.Desks.{ArePaired, DeskView}
use Rattle.service_runs.specs.Lines.{is_stop}
use Rattle.service_runs.specs.Printing.{IsPrintedOf}
use Rattle.workers.specs.Closing.{HasMissing, remains_of}
use Rattle.workers.specs.Opening.{newcomers}
use Rattle.workers.specs.Origins.{HasFrames, Origin}
use Rattle.workers.specs.Told.{Sitter}
use Rattle.service_runs.proofs.running.run_prepared.Goals as goal

-- ---- there is no memory to begin

pub returns-in_default-clause-ran : goal.returns-in_default-clause-ran
returns-in_default-clause-ran g c =
    λ was before. no_room _ _ _ _ (rw c.unrun.ensures.device c.abandon.ensures.content)
    (rw c.unrun.ensures.ending c.leave_refused.ensures) c.unrun.ensures.told

pub returns-in_default-with_capacity-clause-ran : goal.returns-in_default-with_capacity-clause-ran
returns-in_default-with_capacity-clause-ran g c =
    λ was before. no_room _ _ _ _
    (rw c.unrun-in_default-with_capacity.ensures.device c.abandon-in_default-with_capacity.ensures.content)
    (rw c.unrun-in_default-with_capacity.ensures.ending c.leave_refused-in_default-with_capacity.ensures)
    c.unrun-in_default-with_capacity.ensures.told

pub returns-in-Err-clause-ran : goal.returns-in-Err-clause-ran
returns-in-Err-clause-ran g c =
    λ was before. no_room _ _ _ _ (rw c.unrun-in-Err.ensures.device c.in-Err.ensures.err.0)
    (rw c.unrun-in-Err.ensures.ending c.leave_refused-in-Err.ensures) c.unrun-in-Err.ensures.told

-- ---- each seat has its lines at a desk

pub at_desks-desks-requires-clause-many : goal.at_desks-desks-requires-clause-many
at_desks-desks-requires-clause-many g c =
    c.requires.plan.seats.as_many
    ∙ sym (ap length (c.in-Ok-start.ensures.seats ∙ ap newcomers c.requires.many) ∙ length-newcomers _)

pub at_desks-desks-requires-clause-same : goal.at_desks-desks-requires-clause-same
at_desks-desks-requires-clause-same g c =
    let new = c.in-Ok-start.ensures.seats ∙ ap newcomers c.requires.many in
    λ place below. rw new
    (same_seats _ _ _ c.requires.plan.seats place (subst (λ (l : List Sitter). place < length l) new below))

pub at_desks-desks-requires-clause-room : goal.at_desks-desks-requires-clause-room
at_desks-desks-requires-clause-room g c =
    let cap = c.in-Ok.ensures.capacity in
    let long = ap length (c.in-Ok-start.ensures.seats ∙ ap newcomers c.requires.many)
    ∙ length-newcomers (greatest_seat c.args.plan.script.now.lines) in
    let lines = c.requires.plan.seats.as_many in
    let many = c.len-many.ensures in
    let same : vec_len c.args.plan.seats ≡ length c.args.plan.seats.items = search rules in
    omega (arith, cap, long, lines, many, same)

-- nobody has begun, and what the threads are handed may cross
pub make_lines-desks-requires : goal.make_lines-desks-requires
make_lines-desks-requires g c =
    let new = c.in-Ok-start.ensures.seats ∙ ap newcomers c.requires.many in
    let fresh = untouched _ _ _ _ c.requires.plan.seats
    (subst (λ (l : List Sitter). ArePaired l c.args.plan.seats.items c.at_desks-desks.result.items) new
    c.at_desks-desks.ensures) in
    (search sendable depth 20, (search sendable depth 20, (search rules, (search rules, fresh))))

-- ---- all lines are made

pub print_all-so_far-requires-clause-made : goal.print_all-so_far-requires-clause-made
print_all-so_far-requires-clause-made g c =
    let new = c.in-Ok-start.ensures.seats ∙ ap newcomers c.requires.many in
    let paired = subst (λ (l : List Sitter). ArePaired l c.args.plan.seats.items c.at_desks-desks.result.items) new
    c.at_desks-desks.ensures in
    rw c.lines-2.ensures
    (rw c.as_slice.ensures.value
    (of_seats _ _ _ _ c.requires.plan.seats paired _ _ c.make_lines-desks.ensures.made
    (seats_within c.args.plan.script.now.lines c.keeps_seats.ensures.seats)))

pub print_all-so_far-requires-clause-none : goal.print_all-so_far-requires-clause-none
print_all-so_far-requires-clause-none g c =
    let new = c.in-Ok-start.ensures.seats ∙ ap newcomers c.requires.many in
    let paired = subst (λ (l : List Sitter). ArePaired l c.args.plan.seats.items c.at_desks-desks.result.items) new
    c.at_desks-desks.ensures in
    let many = many_made _ _ _ _ c.requires.plan.seats paired _ _ c.make_lines-desks.ensures.made in
    c.as_mut_slice.ensures.value ∙ c.requires.plan.printed
    ∙ ap (λ (n : ℕ). replicate n 0) (sym (ap length c.as_slice.ensures.value ∙ many))

pub seats_of-requires-clause-room : goal.seats_of-requires-clause-room
seats_of-requires-clause-room g c =
    let new = c.in-Ok-start.ensures.seats ∙ ap newcomers c.requires.many in
    let paired = subst (λ (l : List Sitter). ArePaired l c.args.plan.seats.items c.at_desks-desks.result.items) new
    c.at_desks-desks.ensures in
    let made = many_made _ _ _ _ c.requires.plan.seats paired _ _ c.make_lines-desks.ensures.made in
    let cap = c.in-Ok-with_capacity.ensures.capacity in
    let lines = c.requires.plan.seats.as_many in
    let many = c.len-many.ensures in
    let same : vec_len c.args.plan.seats ≡ length c.args.plan.seats.items = search rules in
    omega (arith, cap, made, lines, many, same)

-- all seats have come back
pub end_service-ended-requires : goal.end_service-ended-requires
end_service-ended-requires g c =
    let new = c.in-Ok-start.ensures.seats ∙ ap newcomers c.requires.many in
    let paired = subst (λ (l : List Sitter). ArePaired l c.args.plan.seats.items c.at_desks-desks.result.items) new
    c.at_desks-desks.ensures in
    let callers = sym (ap (λ (o : Origin). length o.callers) c.requires.origin) ∙ c.requires.many in
    record {
      all = λ missing. all_back _ _ _ _ c.requires.plan.seats paired _ _ c.make_lines-desks.ensures.made
          (subst (λ (n : ℕ). HasMissing n (sitters c.make_lines-desks.result.0.items)) callers
          (subst (λ (l : List Sitter). HasMissing (length g.N.Base.origin.callers) l) c.seats_of.ensures missing));
    }

pub returns-clause-ran : goal.returns-clause-ran
returns-clause-ran g c =
    let new = c.in-Ok-start.ensures.seats ∙ ap newcomers c.requires.many in
    let paired = subst (λ (l : List Sitter). ArePaired l c.args.plan.seats.items c.at_desks-desks.result.items) new
    c.at_desks-desks.ensures in
    let made = many_made _ _ _ _ c.requires.plan.seats paired _ _ c.make_lines-desks.ensures.made in
    let done = done_at _ _ _ _ c.requires.plan.seats paired _ _ c.make_lines-desks.ensures.made in
    let told = c.flush.new.self in
    let first = c.print_all-so_far.new.output in
    let stopped = c.print_all-so_far.result.1 in
    let printed = subst (λ (l : List Line). IsPrintedOf l c.make_lines-desks.result.0.items c.args.output.now first
    c.print_all-so_far.result.0 stopped) c.lines-2.ensures
    (subst (λ (l : List DeskView). IsPrintedOf c.lines-2.result.now l c.args.output.now first
    c.print_all-so_far.result.0
    stopped) c.as_slice.ensures.value c.print_all-so_far.ensures) in
    let ended = subst (λ (l : List Sitter). HasEnded g.N.Base.origin l c.stop_if-stopper.result.used
    c.has_refused-is_untold.result c.end_service-ended.result.1
    (remains_of g.D.PageDevice.content g.D.PageDevice.is_honest g.D.PageDevice.is_synced g.D.PageDevice.fault_count
    c.end_service-ended.result.0)) c.seats_of.ensures c.end_service-ended.ensures in
    let pages = sym (ap (λ (o : Origin). o.content) c.requires.origin) in
    let framed = subst HasFrames c.requires.origin c.requires.frames in
    let callers = sym (ap (λ (o : Origin). length o.callers) c.requires.origin) ∙ c.requires.many in
    let unused : list_any is_stop c.args.plan.script.now.lines ≡ false → c.make_lines-desks.result.1.used ≡ false =
    λ none. c.make_lines-desks.ensures.none (ap (list_any is_stop) c.lines.ensures ∙ none)
    ∙ c.in-Ok-start.ensures.stopper in
    λ was before. from_origin _ _ (counted_from was g.N.Base.origin) _ _ (ap (counted_from was) c.requires.origin)
    (beside c.args.plan.script.now c.make_lines-desks.result.0.items made g.N.Base.origin callers done
    (seats_within c.args.plan.script.now.lines c.keeps_seats.ensures.seats) _ _
    c.print_all-so_far.result.0 c.end_service-ended.result.1 c.end_service-ended.result.0.journal.items
    c.end_service-ended.result.0.seats.items c.end_service-ended.result.0.failure _ first told stopped
    c.make_lines-desks.result.1.used c.stop_if-stopper.result.used c.stop_if-stopper.ensures unused printed
    c.flush.ensures.same c.has_refused-is_untold.ensures c.flush.ensures.handed ended c.tell_end-ending.ensures pages
    framed (subst (λ (n : ℕ). was ≤ n) (ap (λ (o : Origin). o.faults) c.requires.origin) before))

-- the device comes back as honest as it was
pub returns-clause-same : goal.returns-clause-same
returns-clause-same g c =
    c.end_service-ended.ensures.honest ∙ sym (ap (λ (o : Origin). o.honest) c.requires.origin)
