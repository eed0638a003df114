use Rattle.std.proofs.Common.{◌≡◌, ◌-◌}
use Rattle.bucket_page.specs.Records.{fills}
use Rattle.bucket_page.proofs.records.fill.Given as goal

-- the records that are left fill the bytes that are left where all fill all
abbrev pub invariant-loop : goal.invariant-loop
invariant-loop l = fills (l.count - l.counter) l.rest ≡ fills l.count l.bytes
