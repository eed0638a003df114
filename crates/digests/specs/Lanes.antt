-- Messages side by side: a row has a word of each, and a message has a column of the rows. And the
-- message whose digest a page keeps, with its padding.
use Rattle.std.specs.Prelude.{◌≡◌, ℕ, ◌*◌, ◌<◌, List, ◌++◌, map, take, drop, slice_index}
use Rattle.byteorder.specs.Endian.{big_bytes}
use Rattle.sha2.specs.Sha256.{padded_message, word_at}
use Rattle.page_device.specs.Sealed.{payload_of}

-- the word at a lane of each of the rows
abbrev pub column : ℕ → List (List ℕ) → List ℕ
column lane rows = map (λ (words : List ℕ). slice_index words lane) rows

-- sixteen words are those of a block
abbrev pub SpellsBlock : List ℕ → List ℕ → Type 0
SpellsBlock words block = (k : ℕ) → k < 16 → slice_index words k ≡ word_at block (4 * k)

-- a block of a padded message
abbrev pub block_of : List ℕ → ℕ → List ℕ
block_of padded block = take 64 (drop (block * 64) padded)

-- the number of a page and its payload, padded; it has 64 blocks, which no search is to spell
unfoldable pub padded_page : ℕ → List ℕ → List ℕ
padded_page n page = padded_message (big_bytes 4 n ++ payload_of page)
