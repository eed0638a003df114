-- What a payload that was read as a bucket says: kind, depth and lengths are tested once more, and nothing else.
use Rattle.std.specs.Prelude.{◌==◌, ℕ, ◌&&◌, List, Option, Some, None, if◌then◌else◌}
use Rattle.bucket_page.specs.declared.layout.TheConstants.{BUCKET}
use Rattle.bucket_page.specs.Reading.{bucket_in, has_depth, has_lengths, kind_at}
use Rattle.record_walk.specs.LookupWords.{Bucket}

abbrev pub tested_in : List ℕ → Option Bucket
tested_in payload =
    if kind_at payload == BUCKET && has_depth payload && has_lengths payload then Some (bucket_in payload) else None
