-- Page by page, and then sorted.
use Rattle.std.proofs.Common.{IsTrue, sym, subst}
use Rattle.std.specs.Prelude.{slice_index}
use Rattle.std.proofs.lemmas.List.Filters.{dedup_is}
use Rattle.file_check.specs.Records.{IsLivePage}
use Rattle.file_check.specs.Words.{file_in}
use Rattle.file_check.proofs.IdsLemmas.{are_queue_ids, ids_end}
use Rattle.file_check.proofs.RecordLemmas.{live_page, stands_on}
use Rattle.file_check.proofs.ids.queue_ids.Goals as goal

pub put_ids_on-requires : goal.put_ids_on-requires
put_ids_on-requires g c = λ is.
    let before = c.loop-page.invariant in
    let chain = c.requires (subst IsTrue before.still.honesty is) in
    subst (λ pages. IsLivePage c.args.layout.now pages (slice_index c.args.chain.now c.loop-page.page-index))
    (sym before.still.same)
    (live_page _ chain.layout _ _ chain.structure _ (stands_on _ _ c.loop-page-test.true))

pub returns-clause-ok : goal.returns-clause-ok
returns-clause-ok g c = λ is.
    let s = file_in c.args.layout.now (g.D.PageDevice.content c.args.device.now) in
    are_queue_ids c.args.layout.now s c.args.chain.now c.loop-page.ids.items c.sort_unstable.new.self.items
    c.dedup.new.self.items
    (c.requires is).chained
    (ids_end s c.args.chain.now _ _ c.loop-page-test.false (c.loop-page.invariant.put is))
    c.sort_unstable.ensures.permutation c.sort_unstable.ensures.sorted (dedup_is _ _ _ c.dedup.ensures.filtered)
