-- The kinds of step: their names in schedules, and which may lengthen a search.
-- docs/STEPS.md, "The kinds of step".
use Rattle.std.specs.Prelude.{ℕ, Bool, true, false, List, codes}
use Rattle.step_rules.specs.declared.kind.Kind.{Kind}
use Rattle.step_rules.specs.declared.kind.Kind.TheVariants.{Grant, Release, ReadDepth, ReadEntry, Look, Hop, WriteRecord, Decide, TakePage, CopyDirectory, RaiseDepth, WriteNew, WriteOld, Retarget, SetCounts, WriteLeft, Tombstone, Convert, WriteFree, LinkFree, LowerDepth}

-- the ASCII letters of a kind's name
abbrev pub name_of : Kind → List ℕ
name_of Grant = codes "Grant"
name_of Release = codes "Release"
name_of ReadDepth = codes "ReadDepth"
name_of ReadEntry = codes "ReadEntry"
name_of Look = codes "Look"
name_of Hop = codes "Hop"
name_of WriteRecord = codes "WriteRecord"
name_of Decide = codes "Decide"
name_of TakePage = codes "TakePage"
name_of CopyDirectory = codes "CopyDirectory"
name_of RaiseDepth = codes "RaiseDepth"
name_of WriteNew = codes "WriteNew"
name_of WriteOld = codes "WriteOld"
name_of Retarget = codes "Retarget"
name_of SetCounts = codes "SetCounts"
name_of WriteLeft = codes "WriteLeft"
name_of Tombstone = codes "Tombstone"
name_of Convert = codes "Convert"
name_of WriteFree = codes "WriteFree"
name_of LinkFree = codes "LinkFree"
name_of LowerDepth = codes "LowerDepth"

-- the kinds after which a search of another seat may have one hop more to make
abbrev pub may_lengthen : Kind → Bool
may_lengthen WriteOld = true
may_lengthen Tombstone = true
may_lengthen kind = false
