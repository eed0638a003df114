-- The map of a file has no float.
use Rattle.std.proofs.Common.{◌≡◌, ℕ, List, [], ◌∷◌, false, map, refl}
use Rattle.serde_json.specs.View.{items_of}
use Rattle.serde_json.specs.Written.{has_float, items_have_float}
use Rattle.msgq_cli.specs.Maps.{bucket_data, count, map_data}
use Rattle.msgq_cli.specs.declared.file_map.FileMap.{FileMap}
use Rattle.msgq_cli.specs.declared.file_map.MappedBucket.{MappedBucket}

counts_whole : (ns : List ℕ) → items_have_float (items_of (map count ns)) ≡ false
counts_whole [] = refl
counts_whole (n ∷ ns) = counts_whole ns

buckets_whole : (bs : List MappedBucket) → items_have_float (items_of (map bucket_data bs)) ≡ false
buckets_whole [] = refl
buckets_whole (b ∷ bs) = buckets_whole bs

pub map_whole : (m : FileMap) → has_float (map_data m) ≡ false
map_whole m = rw (buckets_whole m.buckets.items, counts_whole m.entries.items, counts_whole m.free.items) refl
