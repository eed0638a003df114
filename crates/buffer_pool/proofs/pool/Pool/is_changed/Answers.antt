-- A page that is in no frame, or in one that was not changed, is on the device.
use Rattle.std.proofs.Common.{◌∙◌, sym, subst, ◌<◌, IsTrue, length}
use Rattle.buffer_pool.specs.Pool.{PoolState}
use Rattle.buffer_pool.proofs.ImagesLemmas.{image_outside, images_length}
use Rattle.buffer_pool.proofs.PoolLemmas.{on_device}
use Rattle.buffer_pool.proofs.TableLemmas.{within_if_found}
use Rattle.buffer_pool.proofs.pool.Pool.is_changed.Goals as goal

pub place-requires : goal.place-requires
place-requires g c =
    let within = subst (λ (s : PoolState). c.args.page < length s.images) (sym c.self.view_is) c.requires in
    subst (λ n. c.args.page < n) (images_length _ c.self.inside.table ∙ sym c.self.invariant.as_many) within

pub is_changed-requires : goal.is_changed-requires
is_changed-requires g c =
    within_if_found _ c.in-Some.frame c.args.page
    (c.self.invariant.whole.in_frame c.args.page c.in-Some.frame (sym c.in-Some.ensures))

pub returns-in-Some : goal.returns-in-Some
returns-in-Some g c = λ unchanged is.
    let honest = subst (λ (s : PoolState). IsTrue s.honest) (sym c.self.view_is) is in
    let within = subst (λ (s : PoolState). c.args.page < length s.images) (sym c.self.view_is) c.requires in
    rw (← c.self.view_is) (on_device _ _ c.self.inside.table c.self.invariant honest c.args.page c.in-Some.frame
    (subst (λ n. c.args.page < n) (images_length _ c.self.inside.table) within) (sym c.in-Some.ensures)
    (sym c.is_changed.ensures ∙ unchanged))

pub returns-in-None : goal.returns-in-None
returns-in-None g c = λ _ is.
    let within = subst (λ (s : PoolState). c.args.page < length s.images) (sym c.self.view_is) c.requires in
    rw (← c.self.view_is) (sym (image_outside _ c.self.inside.table c.args.page
    (subst (λ n. c.args.page < n) (images_length _ c.self.inside.table) within) (sym c.in-None.ensures)))
