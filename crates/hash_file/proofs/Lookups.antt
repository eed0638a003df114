-- What is looked up in the records of a chain.
use Rattle.std.proofs.Common.{ℕ, ◌≡◌, ◌≢◌, None, List, [], ◌∷◌, arith, refl, ◌∙◌, inl, inr}
use Rattle.std.specs.List.{Contains, All}
use Rattle.directory.specs.declared.pseudokey.TheConstants.{POSITIONS}
use Rattle.directory.specs.Positions.{position_of}
use Rattle.directory.specs.Ranges.{Covers, HasPosition, stop_of}
use Rattle.directory.specs.Tiles.{Tiles}
use Rattle.directory.proofs.MemberLaws.{contains_head, contains_tail, contains_cases, contains_none}
use Rattle.directory.proofs.RangeLaws.{range_has}
use Rattle.directory.proofs.TileLaws.{LiesWithin, tiles_within}
use Rattle.bucket_page.specs.declared.record_key.RecordKey.{RecordKey}
use Rattle.bucket_page.specs.Bucket.{Bucket}
use Rattle.bucket_page.specs.Records.{Pair, lookup}
use Rattle.hash_file.specs.Store.{Store, bucket_at, range_of, range_at, records_at}
use Rattle.hash_file.specs.Chain.{IsChain, IsBucketOn, IsPlaced, pairs_on}
use Rattle.hash_file.proofs.Lists.{lookup_past, lookup_before, lookup_none}
use Rattle.hash_file.proofs.Chains.{has_position}

-- a bucket whose range has not the pseudokey of a key has no record of it
pub absent_elsewhere : (hash : RecordKey → ℕ) (b : Bucket) (key : RecordKey) → IsPlaced hash b →
    (Covers (range_of b) (hash key) → ⊥) → lookup key b.records ≡ None
absent_elsewhere hash b key placed out = lookup_none key b.records (λ i d lt same. other i d lt same)
  where
    other : All (λ (p : Pair). p.key ≢ key) b.records
    other i d lt same = let there = rw same at (placed.within i d lt) in out there

module _ (hash : RecordKey → ℕ) (s : Store) (key : RecordKey) where
  -- nor have pages that all lie elsewhere
  pub absent_on : (ns : List ℕ) → ((n : ℕ) → Contains ns n → lookup key (records_at s n) ≡ None) →
      lookup key (pairs_on s ns) ≡ None
  absent_on [] each = refl
  absent_on (n ∷ ns) each =
      lookup_past key (records_at s n) (pairs_on s ns) (each n (contains_head n ns))
      ∙ absent_on ns (λ m c. each m (contains_tail n m ns c))

  -- the records of a chain have of a key what the bucket of its position has
  pub look_up : (ns : List ℕ) (a b m : ℕ) → Tiles (range_at s) a ns b →
      ((n : ℕ) → Contains ns n → IsPlaced hash (bucket_at s n)) → Contains ns m →
      HasPosition (range_at s m) (position_of (hash key)) → lookup key (pairs_on s ns) ≡ lookup key (records_at s m)
  look_up [] a b m t placed c has = absurd (contains_none m c)
  look_up (n ∷ ns) a b m t placed c has = elim (contains_cases n m ns c) [
    | inl same ↦ at_head same
    | inr d ↦ in_tail (tiles_within (range_at s) ns (stop_of (range_at s n)) b m t.1 d)
        (look_up ns (stop_of (range_at s n)) b m t.1 (λ k e. placed k (contains_tail n k ns e)) d has)
  ]
    where
      at_head : n ≡ m → lookup key (pairs_on s (n ∷ ns)) ≡ lookup key (records_at s m)
      at_head same =
          let has' = rw (← same) at has in
          rw (← same) (lookup_before key (records_at s n) (pairs_on s ns) (absent_on ns (λ k d.
          let w = tiles_within (range_at s) ns (stop_of (range_at s n)) b k t.1 d in
          absent_elsewhere hash (bucket_at s k) key (placed k (contains_tail n k ns d)) (λ there.
          let has_k = range_has (range_at s k) (hash key) w.valid there in
          omega (arith, has'.1, has_k.0, w.from)))))

      in_tail : LiesWithin (range_at s m) (stop_of (range_at s n)) b →
          lookup key (pairs_on s ns) ≡ lookup key (records_at s m) →
          lookup key (pairs_on s (n ∷ ns)) ≡ lookup key (records_at s m)
      in_tail w rest = lookup_past key (records_at s n) (pairs_on s ns)
          (absent_elsewhere hash (bucket_at s n) key (placed n (contains_head n ns)) (λ there.
          let has_n = range_has (range_at s n) (hash key) t.0.valid there in
          omega (arith, has_n.1, w.from, has.0))) ∙ rest

  -- so what the file holds at a key its bucket has
  pub look_at : (ns : List ℕ) (m : ℕ) → IsChain s ns →
      ((n : ℕ) → Contains ns n → IsPlaced hash (bucket_at s n)) → IsBucketOn s ns (hash key) m →
      lookup key (pairs_on s ns) ≡ lookup key (records_at s m)
  look_at ns m h placed b = look_up ns 0 POSITIONS m h.tiled placed b.0 (has_position s ns (hash key) m h b)
