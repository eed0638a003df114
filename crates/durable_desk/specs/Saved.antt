-- Pages, and the calls that were noted behind them: the system that they come to. docs/FORMAT.md, "Calls".
use Rattle.std.specs.Prelude.{ℕ, ◌≡◌, List, [], ◌∷◌}
use Rattle.bucket_page.specs.Pseudokeys.{sha_key}
use Rattle.safe_device.specs.Left.{Saved}
use Rattle.interleavings.specs.LoneKernelWords.{IsFileOf, State}
use Rattle.call_entries.specs.Entries.{LeadsBy, spelled}
use Rattle.call_entries.specs.declared.entry.CallEntry.{CallEntry}

-- an addition of calls leads from a system to another
pub record IsAddition (calls : List ℕ) (s t : State) : Type 0 where
  pub entries : List CallEntry
  pub is : calls ≡ spelled entries
  pub leads : LeadsBy entries s t

-- so do additions, each from where the one before it led
abbrev pub LeadOn : List (List ℕ) → State → State → Type 0
LeadOn [] s t = t ≡ s
LeadOn (calls ∷ more) s t = (u : State) × IsAddition calls s u × LeadOn more u t

-- the pages are the file of a system, and the calls behind them lead from it to this one
pub record ComesTo (saved : Saved) (t : State) : Type 0 where
  pub system : State
  pub file : IsFileOf sha_key saved.pages system
  pub made : LeadOn saved.calls system t

-- these calls lead on to this one
pub record ComesWith (saved : Saved) (calls : List ℕ) (t : State) : Type 0 where
  pub before : State
  pub comes : ComesTo saved before
  pub more : IsAddition calls before t
