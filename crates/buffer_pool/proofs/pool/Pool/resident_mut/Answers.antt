-- What is written to the frame of a page is its image.
use Rattle.std.proofs.Common.{◌≡◌, ◌∙◌, sym, ap, subst, inl, ℕ, ◌<◌, List, length, Some}
use Rattle.std.specs.Option.{is_some}
use Rattle.buffer_pool.specs.Table.{place_of}
use Rattle.buffer_pool.specs.Pool.{PoolState}
use Rattle.buffer_pool.proofs.TableLemmas.{within_if_found}
use Rattle.buffer_pool.proofs.ImagesLemmas.{image_found}
use Rattle.buffer_pool.proofs.PoolLemmas.{images-stored_in}
use Rattle.buffer_pool.proofs.pool.Pool.resident_mut.Goals as goal

pub payload_mut-requires : goal.payload_mut-requires
payload_mut-requires g c =
    ap is_some (c.self.invariant.whole.in_frame c.args.page c.in_ok-frame.frame (sym c.in_ok-frame.ensures))

pub returns : goal.returns
returns g c =
    let page = c.args.page in
    let table = c.self.inside.table in
    let device = c.self.inside.device in
    let frame = c.in_ok-frame.frame in
    let place : place_of table page ≡ Some frame = sym c.in_ok-frame.ensures in
    let within = subst (λ n. page < n) c.self.invariant.as_many (within_if_found _ page frame place) in
    let with_images : List (List ℕ) → PoolState = λ images. record {
      images = images;
      pins = table.pins;
      stored = g.D.PageDevice.content device;
      frames = length table.pages;
      honest = g.D.PageDevice.is_honest device;
      synced = g.D.PageDevice.is_synced device;
      faults = g.D.PageDevice.fault_count device;
    } in
    rw (← c.self.view_is) (
      λ j. inl (
        c.payload_mut.result.ghost_name,
        λ payload. ap with_images (images-stored_in _ _ _ c.self.invariant frame page payload place) j,
      ),
      record {
        writes_back = tt;
        value = image_found _ table page frame within place ∙ ap Some (sym c.payload_mut.ensures.value);
      },
    )
