-- What a search may rely on: each hop leads on, each look answers, and what was read before leads still.
use Rattle.std.specs.Prelude.{ℕ, ◌≡◌, ◌≢◌, ◌<◌, ◌≤◌, ◌%◌, ◌^◌, true}
use Rattle.std.specs.List.{Contains}
use Rattle.bucket_page.specs.declared.record_key.RecordKey.{RecordKey}
use Rattle.bucket_page.specs.Records.{lookup}
use Rattle.directory.specs.Ranges.{Covers}
use Rattle.hash_file.specs.Store.{Store, entry_at, has_bucket, range_at, records_at, next_at}
use Rattle.hash_file.specs.Chain.{chain, contents}
use Rattle.hash_file.specs.Change.{Change, Drained, owned, aside}
use Rattle.hash_file.specs.Search.{PageLeads, distance, IsNearer}
use Rattle.hash_file.specs.Sound.{IsSoundFile}

-- page n is a bucket whose own range has the pseudokey
abbrev pub Answers : Store → ℕ → ℕ → Type 0
Answers s n k = (has_bucket s n ≡ true) × Covers (range_at s n) k

-- a page that leads to a pseudokey and does not answer for it names one that leads there too, and is one hop nearer
abbrev pub HopsLeadOn : Type 0
HopsLeadOn = (hash : RecordKey → ℕ) (s : Store) (c : Change) (n k : ℕ) → IsSoundFile hash s c → PageLeads s c n k →
    (Answers s n k → ⊥) → IsNearer s c (chain s) n k

-- a page that leads to the pseudokey of a key and answers for it has of that key what the file holds
abbrev pub LooksAnswer : Type 0
LooksAnswer = (hash : RecordKey → ℕ) (s : Store) (c : Change) (n : ℕ) (key : RecordKey) → IsSoundFile hash s c →
    PageLeads s c n (hash key) → Answers s n (hash key) → contents s key ≡ lookup key (records_at s n)

-- a page that leads to the low bits of a pseudokey leads to it: a depth read before is as good as the depth
abbrev pub StaleDepthsLead : Type 0
StaleDepthsLead = (s : Store) (c : Change) (n k depth : ℕ) → PageLeads s c n (k % 2 ^ depth) → PageLeads s c n k

-- each entry of the directory leads to its index, in one hop at most; and to pseudokeys that end in it
pub record EntryLeads (s : Store) (c : Change) (i : ℕ) : Type 0 where
  pub leads : PageLeads s c (entry_at s i) i
  pub near : distance s (entry_at s i) i ≤ 1

abbrev pub EntriesLead : Type 0
EntriesLead = (hash : RecordKey → ℕ) (s : Store) (c : Change) (i : ℕ) → IsSoundFile hash s c →
    i < 2 ^ s.header.depth → EntryLeads s c i

-- no entry of the directory names page n, and no next link of a live bucket
pub record HasNoWayIn (s : Store) (n : ℕ) : Type 0 where
  pub entries : (i : ℕ) → i < 2 ^ s.header.depth → entry_at s i ≢ n
  pub links : (m : ℕ) → Contains (chain s) m → next_at s m ≢ n

abbrev pub DrainedHasNoWayIn : Type 0
DrainedHasNoWayIn = (hash : RecordKey → ℕ) (s : Store) (left right : ℕ) → IsSoundFile hash s (Drained left right) →
    HasNoWayIn s right

-- the page that a change owns leads nowhere, but for the one that a merge took aside
abbrev pub OwnedLeadsNowhere : Type 0
OwnedLeadsNowhere = (hash : RecordKey → ℕ) (s : Store) (c : Change) (n k : ℕ) → IsSoundFile hash s c →
    Contains (owned c) n → (Contains (aside c) n → ⊥) → PageLeads s c n k → ⊥
