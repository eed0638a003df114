-- The header's page becomes the spelling of the header.
use Rattle.std.proofs.Common.{◌∙◌, ap}
use Rattle.directory.specs.declared.header.Header.{Header}
use Rattle.buffer_pool.proofs.FormLemmas.{header_is, same_header}
use Rattle.hash_file.specs.Changes.{with_header}
use Rattle.file_pages.specs.Files.{store_of}
use Rattle.file_pages.proofs.ReadLemmas.{page_there}
use Rattle.file_pages.proofs.WriteLemmas.{header_file, header_set, only_writes, written_store}
use Rattle.file_pages.proofs.header.write_header.Goals as goal

pub returns-clause-writes : goal.returns-clause-writes
returns-clause-writes g c =
    let within = page_there c.args.pool.now c.pin.new.pool 0 c.in_ok-frame.frame c.image_mut.result.now
    c.in_ok-frame.ensures.ok c.image_mut.ensures.value in
    only_writes _ c.args.pool.now c.pin.new.pool c.unpin.new.self 0 c.in_ok-frame.frame c.write_header.new.self
    c.requires.ready
    c.in_ok-frame.ensures.ok
    (header_file c.args.pool.now.images c.write_header.new.self within (same_header _ _ c.write_header.ensures))
    c.unpin.ensures

pub returns-clause-ok : goal.returns-clause-ok
returns-clause-ok g c = λ honest.
    let within = page_there c.args.pool.now c.pin.new.pool 0 c.in_ok-frame.frame c.image_mut.result.now
    c.in_ok-frame.ensures.ok c.image_mut.ensures.value in
    written_store c.args.pool.now c.pin.new.pool c.unpin.new.self 0 c.in_ok-frame.frame c.write_header.new.self honest
    c.in_ok-frame.ensures.ok c.unpin.ensures
    ∙ header_set c.args.pool.now.images c.write_header.new.self within
    ∙ ap (λ (h : Header). with_header h (store_of c.args.pool.now.images))
    (header_is c.args.header.now c.write_header.new.self c.write_header.ensures)
