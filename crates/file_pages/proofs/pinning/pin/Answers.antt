-- A page of a file is not pinned only where the device failed.
use Rattle.std.proofs.Common.{length}
use Rattle.file_pages.proofs.ReadLemmas.{not_past, pin_fails, pin_has_cause}
use Rattle.file_pages.proofs.pinning.pin.Goals as goal

pub returns-in-Err-clause-fault : goal.returns-in-Err-clause-fault
returns-in-Err-clause-fault g c = λ honest file within.
    let e = c.in-Err.ensures in
    pin_fails c.in-Err.fault c.args.pool.now _ _ honest file c.requires.ready within
    e.past.0 e.crowded.0 e.cause.told e.cause.failed

pub returns-in-Ok-clause-ok : goal.returns-in-Ok-clause-ok
returns-in-Ok-clause-ok g c =
    let e = c.in-Ok.ensures in
    record {
      right_is = e.ok.0;
      within = not_past (length c.args.pool.now.images) c.args.page (λ past. let clash = e.past.1 past in absurd cc);
      once = e.ok.1;
      pins = e.pins;
      keeps = e.keeps.keeps;
      stored = e.keeps.stored;
      later = e.cause.later;
    }

pub returns-in-Err-clause-cause : goal.returns-in-Err-clause-cause
returns-in-Err-clause-cause g c =
    let e = c.in-Err.ensures in
    pin_has_cause c.in-Err.fault c.args.pool.now _ _ c.requires.ready e.crowded.0 e.cause.told e.cause.failed
