use Rattle.std.proofs.Common.{◌-◌, length}
use Rattle.bucket_page.proofs.SeekLaws.{IsAt}
use Rattle.bucket_page.proofs.records.Records.seek.Given as goal

-- the records passed so far are below the key
abbrev pub invariant-walk : goal.invariant-walk
invariant-walk l = IsAt l.key l.self l.bytes l.at

-- fewer bytes are left after each record
abbrev pub decreases-walk : goal.decreases-walk
decreases-walk l = length l.bytes - l.at
