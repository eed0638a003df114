-- The device has what the frame has once the page is written, and the frame stays changed where that fails.
use Rattle.std.proofs.Common.{rules, ◌∙◌, refl, sym, ap, [], slice_index_or}
use Rattle.std.proofs.lemmas.List.{get_or-set_same}
use Rattle.page_device.specs.Device.{HasCause, MayOnlyFail}
use Rattle.page_device.specs.Sealed.{payload_of}
use Rattle.buffer_pool.proofs.PoolLemmas.{IsSoundPool-failed, IsSoundPool-cleaned, images-written, page_within}
use Rattle.buffer_pool.proofs.TransferLemmas.{handed_on, not_ok, only_fails, seals_written}
use Rattle.buffer_pool.proofs.transfer.write_back.Goals as goal

pub returns-in_err-write-clause-sound : goal.returns-in_err-write-clause-sound
returns-in_err-write-clause-sound g c =
    let here = sym c.page.ensures ∙ c.in-Some.is in
    rw (c.write.ensures.honest, c.sealed-sealed.ensures.same)
    (IsSoundPool-failed _ _ _ c.requires.sound _ c.args.frame c.in-Some.page here c.write.ensures.others
    (sym c.is_changed.ensures ∙ c.if-not-is_changed.false))

pub returns-in_err-write-clause-images : goal.returns-in_err-write-clause-images
returns-in_err-write-clause-images g c =
    let here = sym c.page.ensures ∙ c.in-Some.is in
    rw c.sealed-sealed.ensures.same
    (images-written _ _ _ c.requires.sound _ c.args.frame c.in-Some.page here c.write.ensures.others)

pub returns-in_err-write-clause-cause : goal.returns-in_err-write-clause-cause
returns-in_err-write-clause-cause g c =
    let here = sym c.page.ensures ∙ c.in-Some.is in
    let within = page_within _ _ _ c.requires.sound c.args.frame c.in-Some.page here in
    handed_on c.from_residual.result c.in_err-write.field-0.0 c.from_residual.ensures.1 (HasCause MayOnlyFail _ _)
    (only_fails c.in_err-write.field-0.0 _ _ _ c.in-Some.page c.in_err-write.ensures.cause
    c.in_err-write.ensures.past within)

pub returns-in_err-write-clause-device : goal.returns-in_err-write-clause-device
returns-in_err-write-clause-device g c =
    rw (not_ok c.from_residual.result c.from_residual.ensures.0) (record {
      honest = c.write.ensures.honest;
      seals = λ is good. absurd cc;
      spared = λ none. let here = sym c.page.ensures ∙ c.in-Some.is in absurd cc;
    })

pub returns-clause-sound : goal.returns-clause-sound
returns-clause-sound g c =
    let here = sym c.page.ensures ∙ c.in-Some.is in
    let within = page_within _ _ _ c.requires.sound c.args.frame c.in-Some.page here in
    rw (c.write.ensures.honest, c.clean.ensures, c.sealed-sealed.ensures.same)
    (IsSoundPool-cleaned _ _ _ c.requires.sound _ c.args.frame c.in-Some.page here c.write.ensures.others (λ is.
    ap (λ s. payload_of (slice_index_or s c.in-Some.page [])) (c.in_ok-write.ensures.ok is)
    ∙ ap payload_of (get_or-set_same _ c.in-Some.page c.sealed-sealed.result [] within)
    ∙ c.sealed-sealed.ensures.payload))

pub returns-clause-images : goal.returns-clause-images
returns-clause-images g c =
    let here = sym c.page.ensures ∙ c.in-Some.is in
    rw (c.clean.ensures, c.sealed-sealed.ensures.same)
    (images-written _ _ _ c.requires.sound _ c.args.frame c.in-Some.page here c.write.ensures.others)

pub returns-clause-device : goal.returns-clause-device
returns-clause-device g c = record {
  honest = c.write.ensures.honest;
  seals = λ is _.
      let here = sym c.page.ensures ∙ c.in-Some.is in
      let within = page_within _ _ _ c.requires.sound c.args.frame c.in-Some.page here in
      rw (c.in_ok-write.ensures.ok is) (seals_written _ c.in-Some.page _ within c.sealed-sealed.ensures.sealed);
  spared = λ none. let here = sym c.page.ensures ∙ c.in-Some.is in absurd cc;
}

pub returns-clause-pages : goal.returns-clause-pages
returns-clause-pages g c = rw (c.clean.ensures, c.sealed-sealed.ensures.same) (record {
  places = refl;
  pins = refl;
  pages = refl;
  payloads = refl;
  clean = λ frame was. search rules;
})
