-- What a key that is kept is known by, beside its queue: its kind and its number as one number.
use Rattle.std.specs.Prelude.{◌≡◌, ℕ, ◌+◌, ◌*◌, ◌<◌, ◌^◌}
use Rattle.bucket_page.specs.declared.record_key.RecordKey.{RecordKey}
use Rattle.bucket_page.specs.Keys.{IsKey}

-- a key has this mark and this queue; no key has the greatest mark of 64 bits
pub record IsMarked (mark queue : ℕ) (key : RecordKey) : Type 0 where
  pub fits : IsKey key
  -- greater numbers have no mark
  pub small : key.number + 1 < 2 ^ 56
  pub its_mark : mark ≡ key.number * 256 + key.kind
  pub its_queue : queue ≡ key.queue
