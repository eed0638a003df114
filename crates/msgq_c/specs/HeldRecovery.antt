-- What a `HeldRecovery` owns: the box of its recovery, or nothing.
use base.Fml.{Fml, ftrue}
use base.Stored.{Coded}
use denote.RawPtr.{Ptr}
use Rattle.std.specs.Coded.{coded_option}
use Rattle.std.specs.Box.Ownership.{box_owns}
use Rattle.std.specs.Global.{Global}
use Rattle.std.specs.declared.option.Option.{Option}
use Rattle.std.specs.declared.option.Option.TheVariants.{None, Some}
use Rattle.std_heap.specs.contracts.GlobalAllocator.TheImpl.{ghosts}
use Rattle.msgq_c.specs.contracts.recovered.Recovered.{the_row}

-- a recovery, or nothing
abbrev pub RecoveryUnderWay : Type 0
RecoveryUnderWay = Option the_row.Denot

abbrev pub recovery_coded : Coded RecoveryUnderWay
recovery_coded = coded_option the_row.coded

-- the box of a recovery at a pointer, or nothing, wherever the pointer points
abbrev pub owns_recovery : Global → Ptr → RecoveryUnderWay → Fml
owns_recovery alloc p None = ftrue
owns_recovery alloc p (Some recovery) = box_owns (ghosts.dealloc_token alloc) the_row p recovery
