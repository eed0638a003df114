-- Why a step is at fault.
use Rattle.std.proofs.Common.{◌≡◌, subst, ◌≤◌, Result, Ok, Err}
use Rattle.std.specs.Prelude.{IfErr}
use Rattle.file_pages.proofs.ReadLemmas.{devices_after}
use Rattle.file_pages.specs.Fault.{FileHasCause}
use Rattle.file_pages.specs.declared.fault.FileFault.{FileFault}
use Rattle.file_pages.specs.declared.fault.FileFault.TheVariants.{Failed}
use Rattle.stale_search.specs.Words.{PoolState, Fault}
use Rattle.stale_search.specs.Steps.{StepHasCause}

-- the cause of a fault is that of the step that tells it
pub told_cause : (fault : FileFault) (old new : PoolState) → FileHasCause old new fault →
    StepHasCause (Fault fault) old new
told_cause fault old new cause other same =
    let is : fault ≡ other = cc in subst (FileHasCause old new) is cause

-- what no page may say is not the fault of a transfer
pub no_transfer : (old new : PoolState) → FileHasCause old new Failed
no_transfer old new = record { page = tt; risen = λ same. absurd cc }

-- what failed behind a read has failed in both
pub cause_after : (old mid new : PoolState) (fault : FileFault) → old.faults ≤ mid.faults →
    FileHasCause mid new fault → FileHasCause old new fault
cause_after old mid new fault before cause = record {
  page = cause.page;
  risen = λ same.
      (devices_after {s = old} {t = mid} {v = new} before (record { risen = cause.risen same; told = same })).risen;
}

pub causes_after : {T : Type 0} (r : Result T FileFault) (old mid new : PoolState) → old.faults ≤ mid.faults →
    IfErr r (FileHasCause mid new) → IfErr r (FileHasCause old new)
causes_after (Ok value) old mid new before cause = tt
causes_after (Err fault) old mid new before cause = cause_after old mid new fault before cause
