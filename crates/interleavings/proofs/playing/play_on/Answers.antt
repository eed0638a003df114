-- Events over a kernel that was opened, and closed behind them.
use Rattle.std.proofs.Common.{ℕ, sym, ap, ◌∙◌, subst, [], length}
use Rattle.std.proofs.lemmas.List.{length-replicate}
use Rattle.interleavings.specs.Runs.{AreOfSeats}
use Rattle.interleavings.specs.Words.{PoolState}
use Rattle.interleavings.proofs.PlayedLemmas.{has_played, has_reason, plays_plain, plays_so}
use Rattle.files_at_rest.proofs.SpelledLemmas.{spells}
use Rattle.interleavings.proofs.EventLemmas.{places_along}
use Rattle.interleavings.proofs.playing.play_on.Goals as goal

-- there is a row of locks for each caller
pub run-requires : goal.run-requires
run-requires g c =
    subst (λ (n : ℕ). AreOfSeats n c.args.events.items)
    (sym (ap length c.in_ok-kernel.ensures.ok.locks ∙ length-replicate (length c.args.callers.now) []))
    c.requires.seats

pub returns-clause-checked : goal.returns-clause-checked
returns-clause-checked g c = λ true_to_it. (
  plays_plain g.K.PseudoKey.of_key c.args.keys (g.D.PageDevice.content c.args.device)
      (g.D.PageDevice.is_honest c.args.device) c.args.callers.now c.args.frames c.args.events.items
      c.in_ok-kernel.kernel c.run.new.kernel _ _ _ _ _ c.in_ok-kernel.ensures.ok c.requires.seats
      c.in-Ok.ensures.runs c.end-closed.ensures c.in-Ok.ensures.told c.in-Ok.ensures.linear c.events_refine.ensures
      true_to_it (c.an_opened_kernel_refines.ensures (g.K.PseudoKey.of_key c.args.keys) c.args.keys
      (g.D.PageDevice.content c.args.device) (g.D.PageDevice.is_honest c.args.device) c.args.callers.now
      c.args.frames c.in_ok-kernel.kernel c.in_ok-kernel.ensures.ok true_to_it
      (c.in_ok-kernel.ensures.file true_to_it) c.requires.some c.requires.few)
      c.a_step_does_what_its_seat_is_told.ensures c.steps_refine.ensures
      c.a_refining_kernel_answers_as_plain_lists.ensures c.a_refining_kernel_closes_on_its_file.ensures,
  tt,
)

-- and what is so of files is so of what their pages mean
pub returns-clause-headline : goal.returns-clause-headline
returns-clause-headline g c = λ true_to_it.
    plays_so (spells (g.K.PseudoKey.of_key c.args.keys)) _ _ _ _ _ _ (returns-clause-checked g c true_to_it).0

pub returns-clause-played : goal.returns-clause-played
returns-clause-played g c =
    has_played g.K.PseudoKey.of_key c.args.keys (g.D.PageDevice.content c.args.device)
    (g.D.PageDevice.is_honest c.args.device) c.args.callers.now c.args.frames c.args.events.items
    c.in_ok-kernel.kernel c.run.new.kernel _ _ _ _ _ c.in_ok-kernel.ensures.ok c.requires.seats c.in-Ok.ensures.runs
    c.end-closed.ensures c.in-Ok.ensures.told c.in-Ok.ensures.linear

-- no event changes whether the device is honest
pub returns-clause-same : goal.returns-clause-same
returns-clause-same g c = (
  c.end-closed.ensures.same
      ∙ (places_along (g.K.PseudoKey.of_key c.in_ok-kernel.kernel.keys) c.args.events.items c.in-Ok.outcomes.items
      c.in_ok-kernel.kernel c.run.new.kernel c.in-Ok.ensures.runs).honest
      ∙ ap (λ (p : PoolState). p.honest) c.in_ok-kernel.ensures.ok.pool,
  tt,
)

pub returns-clause-cause : goal.returns-clause-cause
returns-clause-cause g c = (
  has_reason g.K.PseudoKey.of_key c.args.keys (g.D.PageDevice.content c.args.device)
      (g.D.PageDevice.is_honest c.args.device) c.args.callers.now c.args.frames c.args.events.items
      c.in_ok-kernel.kernel c.run.new.kernel _ _ _ _ _ c.in_ok-kernel.ensures.ok c.requires.seats
      c.in-Ok.ensures.runs c.end-closed.ensures c.in-Ok.ensures.told c.in-Ok.ensures.linear c.events_refine.ensures
      (λ true_to_it. c.an_opened_kernel_refines.ensures (g.K.PseudoKey.of_key c.args.keys) c.args.keys
      (g.D.PageDevice.content c.args.device) (g.D.PageDevice.is_honest c.args.device) c.args.callers.now
      c.args.frames c.in_ok-kernel.kernel c.in_ok-kernel.ensures.ok true_to_it
      (c.in_ok-kernel.ensures.file true_to_it) c.requires.some c.requires.few)
      c.a_step_does_what_its_seat_is_told.ensures c.drives_end.ensures _ c.in_ok-kernel.ensures.cause.0,
  tt,
)
