-- A step that is tied to its turn is one of its kind.
use Rattle.std.proofs.Common.{ℕ, Option, Some, None}
use Rattle.bucket_page.specs.declared.record_key.RecordKey.{RecordKey}
use Rattle.hash_file.specs.Changes.{RecordWrite}
use Rattle.step_rules.specs.declared.kind.Kind.{Kind}
use Rattle.step_rules.specs.declared.kind.Kind.TheVariants.{Grant, Release, ReadDepth, ReadEntry, Look, Hop, WriteRecord, Decide, TakePage, CopyDirectory, RaiseDepth, WriteNew, WriteOld, Retarget, SetCounts, WriteLeft, Tombstone, Convert, WriteFree, LinkFree, LowerDepth}
use Rattle.step_rules.specs.World.{World}
use Rattle.step_rules.specs.LockSteps.{Grants, Hops, Converts}
use Rattle.step_rules.specs.PageSteps.{WritesRecord}
use Rattle.step_rules.specs.Does.{Does}
use Rattle.step_rules.specs.Laws.{TurnKeeps}
use Rattle.step_rules.specs.Turns.{Ask, ForLock, ForEntry, ForPage, ForAnswer, HopFrom, ToExclusive, Turn, GrantsAsked, HopsAsked, ConvertsAsked, WritesAsked, DoesTied}
use Rattle.step_rules.proofs.KindLemmas.{kind_keeps}

module _ (hash : RecordKey → ℕ) (seat : ℕ) (old new : World) where
  grants : (ask : Option Ask) → GrantsAsked ask seat old new → Grants seat old new
  grants None d = absurd d
  grants (Some (ForLock name kind)) d = d.grants
  grants (Some (ForEntry depth k)) d = absurd d
  grants (Some (ForPage page k kind)) d = d.grants
  grants (Some (ForAnswer page k)) d = absurd d
  grants (Some (HopFrom page k)) d = absurd d
  grants (Some ToExclusive) d = absurd d

  hops : (ask : Option Ask) → HopsAsked ask seat old new → Hops seat old new
  hops None d = absurd d
  hops (Some (ForLock name kind)) d = absurd d
  hops (Some (ForEntry depth k)) d = absurd d
  hops (Some (ForPage page k kind)) d = absurd d
  hops (Some (ForAnswer page k)) d = absurd d
  hops (Some (HopFrom page k)) d = d.hops
  hops (Some ToExclusive) d = absurd d

  converts : (ask : Option Ask) → ConvertsAsked ask seat old new → Converts seat old new
  converts None d = absurd d
  converts (Some (ForLock name kind)) d = absurd d
  converts (Some (ForEntry depth k)) d = absurd d
  converts (Some (ForPage page k kind)) d = absurd d
  converts (Some (ForAnswer page k)) d = absurd d
  converts (Some (HopFrom page k)) d = absurd d
  converts (Some ToExclusive) d = d

  writes : (write : Option RecordWrite) → WritesAsked hash write seat old new → WritesRecord hash seat old new
  writes None d = absurd d
  writes (Some w) d = d.writes

  pub is_of_its_kind : (turn : Turn) (kind : Kind) → DoesTied hash turn kind seat old new → Does hash kind seat old new
  is_of_its_kind turn Grant d = grants turn.ask d
  is_of_its_kind turn Release d = d
  is_of_its_kind turn ReadDepth d = d
  is_of_its_kind turn ReadEntry d = d
  is_of_its_kind turn Look d = d
  is_of_its_kind turn Hop d = hops turn.ask d
  is_of_its_kind turn WriteRecord d = writes turn.write d
  is_of_its_kind turn Decide d = d
  is_of_its_kind turn TakePage d = d.0
  is_of_its_kind turn CopyDirectory d = d.0
  is_of_its_kind turn RaiseDepth d = d.0
  is_of_its_kind turn WriteNew d = d.0
  is_of_its_kind turn WriteOld d = d
  is_of_its_kind turn Retarget d = d
  is_of_its_kind turn SetCounts d = d
  is_of_its_kind turn WriteLeft d = d.0
  is_of_its_kind turn Tombstone d = d
  is_of_its_kind turn Convert d = converts turn.ask d
  is_of_its_kind turn WriteFree d = d
  is_of_its_kind turn LinkFree d = d
  is_of_its_kind turn LowerDepth d = d

pub turn_keeps : (kind : Kind) → TurnKeeps kind
turn_keeps kind hash turn seat old new sound does =
    kind_keeps kind hash seat old new sound (is_of_its_kind hash seat old new turn kind does)
