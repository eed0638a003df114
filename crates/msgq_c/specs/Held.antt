-- What a `Held` owns: the box of its session, or nothing.
use base.Fml.{Fml, ftrue}
use base.Stored.{Coded}
use denote.RawPtr.{Ptr}
use Rattle.std.specs.Coded.{coded_option}
use Rattle.std.specs.Box.Ownership.{box_owns}
use Rattle.std.specs.Global.{Global}
use Rattle.std.specs.declared.option.Option.{Option}
use Rattle.std.specs.declared.option.Option.TheVariants.{None, Some}
use Rattle.std_heap.specs.contracts.GlobalAllocator.TheImpl.{ghosts}
use Rattle.msgq_c.specs.contracts.kept.Kept.{the_row}

-- a session, or nothing
abbrev pub KeptSession : Type 0
KeptSession = Option the_row.Denot

abbrev pub kept_session_coded : Coded KeptSession
kept_session_coded = coded_option the_row.coded

-- the box of a session at a pointer, or nothing, wherever the pointer points
abbrev pub owns_kept_session : Global → Ptr → KeptSession → Fml
owns_kept_session alloc p None = ftrue
owns_kept_session alloc p (Some session) = box_owns (ghosts.dealloc_token alloc) the_row p session
