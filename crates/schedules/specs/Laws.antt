-- Laws of schedules. Each is the contract of a function of laws.rt.
use Rattle.std.specs.Prelude.{◌≡◌, Some}
use Rattle.step_rules.specs.declared.kind.Kind.{Kind}
use Rattle.step_rules.specs.Kinds.{name_of}
use Rattle.schedules.specs.Events.{kind_named}

abbrev pub AreNamed : Type 0
AreNamed = (kind : Kind) → kind_named (name_of kind) ≡ Some kind
