-- The header gets the depth before.
use Rattle.std.proofs.Common.{◌-◌}
use Rattle.directory.specs.declared.header.Header.{Header}
use Rattle.file_pages.proofs.HeaderLemmas.{header_changed, nothing_changed}
use Rattle.file_pages.proofs.ReadLemmas.{fails_after}
use Rattle.file_pages.proofs.WriteLemmas.{writes_on}
use Rattle.file_pages.proofs.header.lower_depth.Goals as goal

pub returns-clause-writes : goal.returns-clause-writes
returns-clause-writes g c =
    writes_on _ c.args.pool.now c.read_header.new.pool c.write_header.new.pool c.in_ok-header.ensures.reads
    c.write_header.ensures.writes

pub returns-clause-ok : goal.returns-clause-ok
returns-clause-ok g c = λ honest.
    header_changed c.write_header.result c.args.pool.now c.read_header.new.pool c.write_header.new.pool
    c.in_ok-header.header _
    (λ (h : Header). record h { depth = h.depth - 1 }) honest c.in_ok-header.ensures.reads
    (c.in_ok-header.ensures.ok honest)
    c.lower.ensures c.write_header.ensures.ok

pub returns-clause-err : goal.returns-clause-err
returns-clause-err g c = λ honest.
    nothing_changed c.write_header.result c.args.pool.now c.read_header.new.pool c.write_header.new.pool honest
    c.in_ok-header.ensures.reads c.write_header.ensures.err

pub returns-clause-fault : goal.returns-clause-fault
returns-clause-fault g c = λ honest file deep.
    fails_after c.write_header.result c.args.pool.now c.read_header.new.pool c.write_header.new.pool honest file
    c.in_ok-header.ensures.reads c.write_header.ensures.fault
