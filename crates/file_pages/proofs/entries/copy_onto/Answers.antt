-- The page gets the entries of the lower half.
use Rattle.std.proofs.Common.{◌≡◌, ◌∙◌, subst, IsTrue, arith}
use Rattle.directory.specs.Pages.{IsDirectoryPage}
use Rattle.file_pages.specs.Files.{image}
use Rattle.file_pages.proofs.EntryLemmas.{copied_set, directory_file}
use Rattle.file_pages.proofs.ReadLemmas.{handed_on, image_was}
use Rattle.file_pages.proofs.WriteLemmas.{gives_back, only_writes, written_store}
use Rattle.file_pages.proofs.entries.copy_onto.Given as given
use Rattle.file_pages.proofs.entries.copy_onto.Goals as goal

pub returns-in_err-frame-clause-fault : goal.returns-in_err-frame-clause-fault
returns-in_err-frame-clause-fault g c = λ honest file.
    let least = file.file.least in handed_on c.from_residual.result _ _ c.from_residual.ensures.1
    (c.in_err-frame.ensures.fault honest file (omega (arith, least, c.requires.last)))

-- a page of the directory passes the test
pub returns-then-not-is_directory-clause-fault : goal.returns-then-not-is_directory-clause-fault
returns-then-not-is_directory-clause-fault g c = λ honest file.
    let was = image_was c.args.pool.now c.pin.new.pool _ c.in_ok-frame.frame c.image.result.now
    c.in_ok-frame.ensures.ok c.image.ensures honest in
    let passes = c.is_directory.ensures.taken (subst IsDirectoryPage was
    (file.file.directory c.args.page c.requires.first c.requires.last)) in
    let fails = c.if-not-is_directory.true in
    absurd cc

was : (g : given.Over) (c : goal.After-unpin-2 g) → IsTrue c.args.pool.now.honest
    → image c.args.pool.now.images c.args.page ≡ c.image_mut.result.now
was g c honest = image_was c.args.pool.now c.pin.new.pool _ c.in_ok-frame.frame c.image_mut.result.now
    c.in_ok-frame.ensures.ok c.image_mut.ensures.value honest

pub returns-then-not-is_directory-clause-writes : goal.returns-then-not-is_directory-clause-writes
returns-then-not-is_directory-clause-writes g c =
    gives_back c.args.pool.now c.pin.new.pool c.unpin.new.self _ c.in_ok-frame.frame c.requires.ready
    c.in_ok-frame.ensures.ok c.unpin.ensures

pub returns-clause-writes : goal.returns-clause-writes
returns-clause-writes g c =
    only_writes _ c.args.pool.now c.pin.new.pool c.unpin-2.new.self _ c.in_ok-frame.frame c.copy_upper.new.self
    c.requires.ready c.in_ok-frame.ensures.ok
    (directory_file c.args.pool.now.images c.args.page c.copy_upper.new.self c.requires.first c.requires.last
    c.in_ok-frame.ensures.ok.within
    c.copy_upper.ensures.directory) c.unpin-2.ensures

pub returns-clause-ok : goal.returns-clause-ok
returns-clause-ok g c = λ honest half.
    written_store c.args.pool.now c.pin.new.pool c.unpin-2.new.self _ c.in_ok-frame.frame c.copy_upper.new.self
    honest c.in_ok-frame.ensures.ok c.unpin-2.ensures
    ∙ copied_set c.args.pool.now.images c.args.page c.copy_upper.new.self c.requires.first c.requires.last
    c.in_ok-frame.ensures.ok.within
    c.args.depth c.image_mut.result.now c.args.lower.now (was g c honest) half c.copy_upper.ensures.ok
