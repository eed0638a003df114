-- The pin is given back.
use Rattle.buffer_pool.proofs.ImagesLemmas.{rest_again}
use Rattle.page_trials.proofs.pools.put.Goals as goal

pub returns : goal.returns
returns g c = λ k. rw (c.unpin.ensures, c.store.ensures)
    (rest_again c.args.pool.now c.pin.new.self c.args.page c.in_ok-frame.frame c.requires c.in_ok-frame.ensures.pins
    c.in_ok-frame.ensures.ok.0 c.in_ok-frame.ensures.ok.1 k)
