-- What an access asks for while it searches is what its seat knows.
use Rattle.std.proofs.Common.{ℕ, ◌≡◌, refl, true, List, Some}
use Rattle.record_file.proofs.OperationAimLemmas.{operation_aimed}
use Rattle.record_file.specs.step_rules.Searching.{IsAimed}
use Rattle.record_file.specs.declared.operation.RecordOperation.TheVariants as operations
use Rattle.record_file.specs.BucketAccesses.{ask_in}
use Rattle.record_file.specs.declared.bucket_access.BucketStage.{BucketStage}
use Rattle.record_file.specs.declared.bucket_access.BucketStage.TheVariants.{Searching, Written, Ended as HasEnded}
use Rattle.record_file.specs.stale_search.Searches.{SearchView, ask_at}
use Rattle.record_file.specs.stale_search.declared.place.SearchPlace.{SearchPlace}
use Rattle.record_file.specs.stale_search.declared.place.SearchPlace.TheVariants as places
use Rattle.record_file.specs.step_rules.LockSteps.{Grants}
use Rattle.record_file.specs.step_rules.Turns.{ForLock, GrantsAsked}
use Rattle.record_file.specs.step_rules.Words.{Directory, Page, Read}
use Rattle.record_file.specs.AccessWords.{RecordKey, RecordOperation, Store, World, operation_turn, Replace, Relink, Delete}
use Rattle.record_file.specs.Purposes.{Purpose, ToFind, ToInsert, ToWrite}
use Rattle.record_file.specs.Accesses.{AccessView, IsOfKind, access_facts, access_turn, begun, has_set_out, is_past_grant, set_out_in}

pub access_aimed : (a : AccessView) (s : Store) → IsAimed (access_turn a s).ask (access_facts a)
access_aimed a s = operation_aimed a.operation a.bytes s

-- one that begins asks for the directory
pub begun_asks : (p : Purpose) (k : ℕ) (s : Store) → (access_turn (begun p k) s).ask ≡ Some (ForLock Directory Read)
begun_asks (ToFind key) k s = refl
begun_asks (ToInsert r) k s = refl
begun_asks (ToWrite (Replace r)) k s = refl
begun_asks (ToWrite (Relink key links)) k s = refl
begun_asks (ToWrite (Delete key)) k s = refl

-- a page is granted
abbrev pub GrantsPage : ℕ → World → World → Type 0
GrantsPage seat w w' = (grants : Grants seat w w') × (page : ℕ) × (grants.name ≡ Page page)

module _ (seat : ℕ) (w w' : World) where
  of_search : (stage : BucketStage) (v : SearchView) → is_past_grant v.place ≡ true →
      GrantsAsked (ask_in stage v) seat w w' → GrantsPage seat w w'
  of_search Searching v out grants = at v.place out grants
    where
      at : (place : SearchPlace) → is_past_grant place ≡ true →
          GrantsAsked (ask_at place v.kind v.pseudokey) seat w w' → GrantsPage seat w w'
      at places.GrantDirectory out grants = absurd cc
      at places.ReadDepth out grants = absurd grants
      at (places.ReadEntry depth) out grants = absurd grants
      at (places.GrantPage n) out grants = (grants.grants, n, grants.name_is)
      at (places.ReleaseDirectory n) out grants = absurd grants
      at (places.Look n) out grants = absurd grants
      at (places.Hop n) out grants = absurd grants
      at (places.Found n found) out grants = absurd grants
  of_search (Written n due) v out grants = absurd grants
  of_search (HasEnded due) v out grants = absurd grants

  of_operation : (key : RecordKey) (bytes : List ℕ) (s : Store) (o : RecordOperation) → IsOfKind (ToFind key) o →
      set_out_in o ≡ true → GrantsAsked (operation_turn o bytes s).ask seat w w' → GrantsPage seat w w'
  of_operation key bytes s (operations.Find f) kind out grants =
      of_search f.stage f.search out grants
  of_operation key bytes s (operations.Insert i) kind out grants = absurd kind
  of_operation key bytes s (operations.Replace r) kind out grants = absurd kind
  of_operation key bytes s (operations.Delete d) kind out grants = absurd kind

  -- behind its first step a find is granted pages alone
  pub grants_pages : (key : RecordKey) (a : AccessView) (s : Store) → IsOfKind (ToFind key) a.operation →
      has_set_out a ≡ true → GrantsAsked (access_turn a s).ask seat w w' → GrantsPage seat w w'
  grants_pages key a s kind out grants = of_operation key a.bytes s a.operation kind out grants
