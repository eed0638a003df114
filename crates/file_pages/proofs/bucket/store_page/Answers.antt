-- One page behind the directory is new.
use Rattle.std.proofs.Common.{◌≡◌, ◌∙◌, ◌-◌, ap, slice_set}
use Rattle.buffer_pool.specs.Pool.{PoolState, pins_at}
use Rattle.file_pages.proofs.ReadLemmas.{handed_on}
use Rattle.file_pages.proofs.PageLemmas.{there_is}
use Rattle.file_pages.proofs.WriteLemmas.{file_set, only_writes, store_set, written_store}
use Rattle.file_pages.proofs.bucket.store_page.Given as given
use Rattle.file_pages.proofs.bucket.store_page.Goals as goal

pub returns-in_err-frame-clause-fault : goal.returns-in_err-frame-clause-fault
returns-in_err-frame-clause-fault g c = λ honest file there.
    handed_on c.from_residual.result _ _ c.from_residual.ensures.1
    (c.in_err-frame.ensures.fault honest file (there_is c.args.pool.now.images c.args.page there))

given_back : (g : given.Over) (c : goal.After-unpin g) → c.unpin.new.self ≡ record c.pin.new.pool {
  images = slice_set c.pin.new.pool.images c.in_ok-frame.frame c.args.new;
  pins = slice_set c.pin.new.pool.pins c.in_ok-frame.frame (pins_at c.pin.new.pool c.in_ok-frame.frame - 1);
}
given_back g c =
    c.unpin.ensures
    ∙ ap (λ (p : PoolState). record p {
      pins = slice_set p.pins c.in_ok-frame.frame
          (pins_at p c.in_ok-frame.frame - 1);
    })
    c.store.ensures

pub returns-clause-writes : goal.returns-clause-writes
returns-clause-writes g c =
    let pinned = c.in_ok-frame.ensures.ok in
    only_writes _ c.args.pool.now c.pin.new.pool c.unpin.new.self _ c.in_ok-frame.frame c.args.new c.requires.ready
    pinned
    (file_set c.args.pool.now.images c.args.page c.args.new c.if-page-lt-ROOT_PAGE.false pinned.within _
    c.requires.spells)
    (given_back g c)

pub returns-clause-ok : goal.returns-clause-ok
returns-clause-ok g c = λ honest.
    let pinned = c.in_ok-frame.ensures.ok in
    written_store c.args.pool.now c.pin.new.pool c.unpin.new.self _ c.in_ok-frame.frame c.args.new honest pinned
    (given_back g c)
    ∙ store_set c.args.pool.now.images c.args.page c.args.new c.if-page-lt-ROOT_PAGE.false pinned.within
