-- The file of a system has exactly its records, and nothing is wrong with it.
use Rattle.std.proofs.Common.{ℕ, ◌≡◌, Bool, IsTrue, List, ◌⊎◌, inl, inr, sym, subst}
use Rattle.file_walk.specs.Laws.{IsQuietFile}
use Rattle.file_walk.specs.Structure as walk
use Rattle.file_walk.proofs.FaultLemmas.{one_chain}
use Rattle.record_walk.specs.Systems.{IsSystemOf}
use Rattle.record_walk.specs.Told.{IsToldOfSystem}
use Rattle.record_walk.proofs.SystemLemmas.{wrong_queue}
use Rattle.file_check.specs.declared.fault.CheckFault.TheVariants as faults
use Rattle.record_walk.specs.declared.fault.WalkFault.{WalkFault}
use Rattle.record_walk.specs.declared.fault.WalkFault.TheVariants as walked
use Rattle.record_walk.specs.Files.{HasRecords, Source, source}
use Rattle.file_check.specs.Fault.{IsOfMachineToo, of_walk}
use Rattle.file_check.specs.Gathered.{AreJustOf}
use Rattle.file_check.specs.Ids.{HasChain}
use Rattle.file_check.specs.Right.{IsRightFile, IsRightFileOf}
use Rattle.file_check.specs.Records.{AreRightOn}
use Rattle.file_check.specs.Strays.{AreNeeded, IsFirstStray}
use Rattle.file_check.specs.Whole.{IsFileIn, IsToldIn, IsWrongBeside, IsWrongTogether, IsWrongWith}
use Rattle.file_check.specs.Words.{CheckFault, IsLayout, Layout, RecordKey, State, Store, StructureFault, file_in, held_in}
use Rattle.file_check.proofs.RightLemmas.{placed, right_has_no_fault, right_sound}
use Rattle.file_check.proofs.GatheredLemmas.{are_needed, is_system}
use Rattle.file_check.proofs.JustLemmas.{has_just, none_stray}

-- ---- the file of a system

module _ (l : Layout) (laid : IsLayout l) (hash : RecordKey → ℕ) (content : List (List ℕ)) (outline : Store)
    (ns : List ℕ) (right : IsRightFileOf l hash content outline ns) where
  pub is_right : IsRightFile l hash content ns
  is_right = record { structure = right.structure.right; records = right.records }

  pub has_records : HasRecords l hash content outline
  has_records = record {
    chain = ns;
    structure = right.structure;
    placed = placed l laid hash content ns right.structure.right right.records;
    spelled = λ n on k d within.
        (subst (AreRightOn l hash (file_in l content)) on.2 (right.records on.0 n on.1) k d within).spelled;
  }

-- records are honest where their device is
module _ (x : Source) (l : Layout) (content : List (List ℕ)) (honest : Bool) (count : ℕ)
    (is : x ≡ source l content honest count) where
  pub is_honest_too : IsTrue x.honest → IsTrue honest
  is_honest_too h = subst (λ (y : Source). IsTrue y.honest) is h

  pub is_honest_back : IsTrue honest → IsTrue x.honest
  is_honest_back h = subst (λ (y : Source). IsTrue y.honest) (sym is) h

-- what the tests of the structure tell
pub structure_told : (l : Layout) (hash : RecordKey → ℕ) (content : List (List ℕ)) (fault : StructureFault) →
    walk.IsFirstFaultIn l content fault → IsToldIn l hash content (faults.Structure fault)
structure_told l hash content fault (inl machine) = inl machine
structure_told l hash content fault (inr w) = inr (inl w)

module _ (l : Layout) (laid : IsLayout l) (hash : RecordKey → ℕ) (content : List (List ℕ)) (ns : List ℕ)
    (right : IsRightFile l hash content ns) where
  quiet : IsQuietFile hash (file_in l content) ns
  quiet = right_sound l laid hash content ns right.structure right.records

  pub has_chain : HasChain l content ns
  has_chain = record { layout = laid; structure = right.structure; chained = quiet.chained }

  pub is_file : (s : State) → IsSystemOf (held_in l (file_in l content)) s → AreNeeded s (file_in l content) ns →
      IsFileIn l hash content s
  is_file s system needed = record {
    chain = ns;
    right = right;
    quiet = quiet;
    system = system;
    just = has_just l hash (file_in l content) ns quiet s system.has needed;
  }

  pub file_of_just : (s : State) → AreJustOf l (file_in l content) ns s → IsFileIn l hash content s
  file_of_just s just =
      is_file s (is_system l hash (file_in l content) ns quiet s just)
      (are_needed l hash (file_in l content) ns quiet s just)

  -- what a walk tells
  pub walk_told : (fault : WalkFault) → IsToldOfSystem (held_in l (file_in l content)) fault →
      IsToldIn l hash content (of_walk fault)
  walk_told walked.Device w = inl tt
  walk_told walked.NoMemory w = inl tt
  walk_told (walked.Changed page) w = absurd w
  walk_told walked.WrongCounter none = inr (inr (record { chain = ns; right = right; none = none }))
  walk_told (walked.WrongQueue queue) first = inr (inr (record { chain = ns; right = right; first = first }))

  pub stray_told : (s : State) (fault : CheckFault) → IsSystemOf (held_in l (file_in l content)) s →
      IsOfMachineToo fault ⊎ IsFirstStray s (file_in l content) ns fault → IsToldIn l hash content fault
  stray_told s fault system (inl machine) = inl machine
  stray_told s (faults.Stray page kind queue number) system (inr w) =
      inr (inr (record { chain = ns; right = right; system = s; stands = system; stray = w }))
  stray_told s fault system (inr w) = absurd w.stray

module _ (l : Layout) (laid : IsLayout l) (hash : RecordKey → ℕ) (content : List (List ℕ)) (s : State)
    (file : IsFileIn l hash content s) where
  not_beside : (fault : CheckFault) → IsWrongBeside l hash content fault → ⊥
  not_beside fault w =
      let chains : w.chain ≡ file.chain =
      one_chain (file_in l content) w.chain file.chain w.right.structure.chain file.right.structure.chain in
      let systems : w.system ≡ s = file.system.only w.system w.stands.has in
      none_stray l hash (file_in l content) file.chain file.quiet s fault file.just
      (subst (λ (ns : List ℕ). IsFirstStray s (file_in l content) ns fault) chains
      (subst (λ (t : State). IsFirstStray t (file_in l content) w.chain fault) systems w.stray))

  not_together : (fault : CheckFault) → IsWrongTogether l hash content fault → ⊥
  not_together faults.WrongCounter w = w.none s file.system.has
  not_together (faults.WrongQueue queue) w =
      wrong_queue (held_in l (file_in l content)) queue w.first s file.system.has
  not_together (faults.Stray page kind queue number) w = not_beside (faults.Stray page kind queue number) w
  not_together fault w = absurd w

pub file_has_no_fault : (l : Layout) → IsLayout l → (hash : RecordKey → ℕ) (content : List (List ℕ)) (s : State)
    (fault : CheckFault) →
    IsFileIn l hash content s → IsWrongWith l hash content fault → ⊥
file_has_no_fault l laid hash content s fault file (inl w) =
    right_has_no_fault l laid hash content file.chain fault file.right w
file_has_no_fault l laid hash content s fault file (inr w) = not_together l laid hash content s file fault w
