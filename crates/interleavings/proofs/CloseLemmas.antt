-- A file at rest whose pool is flushed to pages has the pages of a file that is checked.
use Rattle.std.proofs.Common.{ℕ, List, refl}
use Rattle.bucket_page.specs.declared.record_key.RecordKey.{RecordKey}
use Rattle.buffer_pool.specs.Pool.{PoolState}
use Rattle.page_locks.specs.Table.{Table}
use Rattle.queue_model.specs.State.{State}
use Rattle.interleaving_core.specs.Closing.{IsFlushedTo}
use Rattle.files_at_rest.specs.file_check.Whole.{IsFileOf}
use Rattle.files_at_rest.specs.OpenedLaws.{restarted}
use Rattle.files_at_rest.specs.Resting.{IsFileAtRest}
use Rattle.files_at_rest.proofs.CloseLemmas.{closes_at_rest}

pub closes_flushed : (hash : RecordKey → ℕ) (s : State) (pool : PoolState) (locks : Table) (content : List (List ℕ)) →
    IsFileAtRest hash s pool locks → IsFlushedTo pool content → IsFileOf hash content (restarted s)
closes_flushed hash s pool locks content rest flushed =
    closes_at_rest hash s pool (record pool { stored = content }) locks rest (record {
      written = flushed.images;
      keeps = record {
        images = λ _. refl;
        pinned = λ page _. refl;
        as_many = refl;
        frames = refl;
        honest = refl;
        seals = λ _ _. flushed.seals;
      };
    })
