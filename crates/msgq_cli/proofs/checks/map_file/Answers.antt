-- The map that was read is printed.
use Rattle.std.proofs.Common.{inl, refl}
use Rattle.msgq_cli.proofs.checks.map_file.Goals as goal

pub returns-in-Ok-print_map : goal.returns-in-Ok-print_map
returns-in-Ok-print_map g c =
    inl (record { map = c.in-Ok.map; prints = c.in-Ok-print_map.ensures.ok; ends = refl })
