-- What is kept of a device whose reads are shown.
use Rattle.msgq_cli.specs.declared.progress.Shown.{Shown}

-- the device whose reads are shown
abbrev pub device_of : {D E : Type 0} → Shown D E → D
device_of shown = shown.device
