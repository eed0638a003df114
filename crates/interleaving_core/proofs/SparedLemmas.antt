-- A kernel with a frame for each page leaves what its device had when it was opened.
use Rattle.std.proofs.Common.{◌≡◌, ◌∙◌, sym, ap, subst, ℕ, ◌≤◌, Bool, List, length}
use Rattle.buffer_pool.specs.Pool.{PoolState, spared}
pub use Rattle.buffer_pool.proofs.SparedLemmas.{stored_kept}
use Rattle.interleaving_core.specs.Words.{Caller}
use Rattle.interleaving_core.specs.Beginning.{IsOpened}
use Rattle.interleaving_core.specs.Kernel.{KernelState}

pub stored_again : {K : Type 0} (keys : K) (content : List (List ℕ)) (honest : Bool) (callers : List Caller)
    (frames : ℕ) (first last : KernelState K) → IsOpened keys content honest callers frames first →
    spared last.pool ≡ spared first.pool → length content ≤ frames → last.pool.stored ≡ content
stored_again keys content honest callers frames first last opened same roomy =
    stored_kept first.pool last.pool same
    (subst (λ (p : PoolState). length p.stored ≤ p.frames) (sym opened.pool) roomy)
    ∙ ap (λ (p : PoolState). p.stored) opened.pool
