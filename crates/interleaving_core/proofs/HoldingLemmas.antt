-- What a seat holds of the file is what its call holds.
use Rattle.std.proofs.Common.{ℕ, ◌≡◌, refl, ap, ◌∙◌, List, Option, Some, None}
use Rattle.page_locks.specs.Locks.{kind_of}
use Rattle.page_locks.specs.declared.lock.LockName.TheVariants.{Directory, Page}
use Rattle.std.specs.Prelude.{IfSome}
use Rattle.xsi_calls.specs.FileLocks.{HoldsOfFile, directory_under, page_under}
use Rattle.interleaving_core.specs.Words.{Lock}
use Rattle.interleaving_core.specs.Active.{ActiveView}
use Rattle.interleaving_core.specs.Holding.{HoldsFileLocks, access_of}
use Rattle.interleaving_core.specs.Kernel.{IsWhole, KernelState, call_at, locks_of}
use Rattle.interleaving_core.proofs.KernelLemmas.{its_row}

in_directory : (o : Option ActiveView) → IfSome o (λ (a : ActiveView). HoldsOfFile a.machine) →
    kind_of (locks_of o) Directory ≡ directory_under (access_of o)
in_directory None holds = refl
in_directory (Some a) holds = holds.directory

on_page : (o : Option ActiveView) → IfSome o (λ (a : ActiveView). HoldsOfFile a.machine) → (n : ℕ) →
    kind_of (locks_of o) (Page n) ≡ page_under (access_of o) n
on_page None holds n = refl
on_page (Some a) holds n = holds.pages n

pub holds_locks : {K : Type 0} (seat : ℕ) (k : KernelState K) → IsWhole k →
    IfSome (call_at k.seats seat) (λ (a : ActiveView). HoldsOfFile a.machine) → HoldsFileLocks seat k
holds_locks seat k whole holds = record {
  directory = ap (λ (ls : List Lock). kind_of ls Directory) (its_row k whole seat)
      ∙ in_directory (call_at k.seats seat) holds;
  pages = λ n. ap (λ (ls : List Lock). kind_of ls (Page n)) (its_row k whole seat)
      ∙ on_page (call_at k.seats seat) holds n;
}
