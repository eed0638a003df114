use Rattle.std.proofs.Common.{inl, refl}
use Rattle.session_runs.proofs.ServeLemmas.{runs_in_memory}
use Rattle.session_runs.proofs.serving.serve_text.Goals as goal

-- the new file is that of the empty system, and a device in memory does not fail
pub returns : goal.returns
returns g c =
    let new = c.in_default.ensures.ok refl in
    let file = c.a_new_file_has_no_queues.ensures _ _ _ new in
    inl (rw c.in-Ok.ensures (runs_in_memory _ file.file new _ _ _ refl refl refl c.run_on-ending.ensures.served))
