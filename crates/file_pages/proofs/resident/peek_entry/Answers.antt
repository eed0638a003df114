-- The image of the entry's page says the entry.
use Rattle.std.proofs.Common.{◌∙◌, sym, ap, []}
use Rattle.std.proofs.lemmas.Option.{get_or_from_slice_get}
use Rattle.file_pages.specs.Files.{image}
use Rattle.file_pages.proofs.ReadLemmas.{if_told, same_slot}
use Rattle.file_pages.proofs.StoreLemmas.{entry_is}
use Rattle.file_pages.proofs.resident.peek_entry.Goals as goal

pub returns-clause-ok : goal.returns-clause-ok
returns-clause-ok g c =
    let images = c.args.pool.now.images in
    let here = c.in_ok-resident.ensures in
    rw (c.ok-bucket.ensures.value) (if_told c.entry_of.result _ (same_slot c.entry_of.result c.entry_of.ensures.ok
    c.slot_of.ensures.value
    (sym (get_or_from_slice_get images c.page_of-page.result c.in_ok-resident.field-0.now [] here)
    ∙ ap (image images) c.page_of-page.ensures.value)
    (sym (entry_is images c.args.index c.requires.within))))
