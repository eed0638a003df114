-- The file that is opened is a new one.
use Rattle.std.proofs.Common.{IfErr, length, sym, ap, subst, ◌∙◌}
use Rattle.buffer_pool.specs.Pool.{PoolState}
use Rattle.migration.specs.Filling.{IsNew, MayNotFill}
use Rattle.migration.proofs.MakeLemmas.{as_many_images, new_file}
use Rattle.migration.proofs.made.fill.Goals as goal

pub returns-clause-told : goal.returns-clause-told
returns-clause-told g c = λ pages it honest.
    let hash = g.K.PseudoKey.of_key c.args.keys.now in
    let content = g.D.PageDevice.content c.args.device in
    let is = c.in-Ok.ensures.ok in
    subst (λ n. IfErr c.write_out-made.result (MayNotFill hash n c.args.system.now))
    (ap (λ (p : PoolState). length p.images) is ∙ as_many_images pages content it)
    (c.write_out-made.ensures.told (subst (λ (p : PoolState). IsNew hash p) (sym is)
    (new_file hash pages content _ _ _ _ it honest)))
