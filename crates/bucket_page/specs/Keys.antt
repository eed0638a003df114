-- Keys of records: their bytes and their order.
use Rattle.std.specs.Prelude.{ℕ, ◌+◌, ◌*◌, ◌<◌, ◌^◌, ◌==◌, nat_lt, Bool, ◌&&◌, ◌||◌, List, ◌∷◌, ◌++◌, slice_index}
use Rattle.bucket_page.specs.declared.record_key.RecordKey.{RecordKey}
use Rattle.directory.specs.numbers.Numbers.{four, eight, four_at, eight_at}

-- a key's numbers fit their bytes
pub record IsKey (k : RecordKey) : Type 0 where
  pub kind : k.kind < 2 ^ 8
  pub queue : k.queue < 2 ^ 32
  pub number : k.number < 2 ^ 64

-- the thirteen bytes of a key; unfoldable, as are the next two, so that goals keep them as one word
unfoldable pub key_bytes : RecordKey → List ℕ
key_bytes k = k.kind ∷ (four k.queue ++ eight k.number)

-- the key whose bytes stand first
unfoldable pub key_at : List ℕ → RecordKey
key_at bytes = record {
  kind = slice_index bytes 0;
  queue = four_at 1 bytes;
  number = eight_at 5 bytes;
}

-- two keys are one
abbrev pub is_same : RecordKey → RecordKey → Bool
is_same a b = a.kind == b.kind && (a.queue == b.queue && a.number == b.number)

-- two keys are of one kind and of one queue
abbrev pub is_beside : RecordKey → RecordKey → Bool
is_beside a b = a.kind == b.kind && a.queue == b.queue

-- the kind and the queue of a key as one number, which its five upper bytes spell
unfoldable pub owner_of : RecordKey → ℕ
owner_of k = k.kind * 2 ^ 32 + k.queue

-- the order of keys: by kind, then by queue, then by number
unfoldable pub is_below : RecordKey → RecordKey → Bool
is_below a b =
    nat_lt a.kind b.kind || a.kind == b.kind
    && (nat_lt a.queue b.queue || a.queue == b.queue && nat_lt a.number b.number)
