-- The Type of the type at the place.
use Rattle.std.proofs.Common.{ℤ, ◌+◌, List, ap, ◌∙◌, rules, w64}
use Rattle.std.specs.Prelude.{slice_get}
use Rattle.std.proofs.lemmas.Int.{to_z-of_z}
use mir.Val.{SFits}
use Rattle.type_chains.specs.Neighbours.{before_place}
use Rattle.record_walk.proofs.QueueLinksLemmas.{type_is, type_there, type_which}
use Rattle.record_walk.proofs.queue_links.QueueLinks.type_at.Goals as goal

pub returns-clause-stands : goal.returns-clause-stands
returns-clause-stands c =
    let t = c.index.result.now in
    let fits : SFits w64 t = search rules in
    type_there c.args.queue.now c.args.self.now c.requires.links c.args.place t c.requires.within c.index.ensures _
    (type_is c.args.queue.now c.args.self.now c.requires.links c.args.place t c.requires.within c.index.ensures
    c.index-ends.result.now _ _ _ c.index-ends.ensures (to_z-of_z w64 t fits)
    (c.type_before.ensures ∙ ap (λ (xs : List ℤ). before_place xs c.args.place) c.deref.ensures.value)
    (c.type_behind.ensures ∙ ap (λ (xs : List ℤ). slice_get xs (c.args.place + 1)) c.deref-2.ensures.value))

pub returns-clause-which : goal.returns-clause-which
returns-clause-which c =
    let t = c.index.result.now in
    let fits : SFits w64 t = search rules in
    type_which c.args.queue.now c.args.self.now c.requires.links c.args.place t c.requires.within c.index.ensures _
    (type_is c.args.queue.now c.args.self.now c.requires.links c.args.place t c.requires.within c.index.ensures
    c.index-ends.result.now _ _ _ c.index-ends.ensures (to_z-of_z w64 t fits)
    (c.type_before.ensures ∙ ap (λ (xs : List ℤ). before_place xs c.args.place) c.deref.ensures.value)
    (c.type_behind.ensures ∙ ap (λ (xs : List ℤ). slice_get xs (c.args.place + 1)) c.deref-2.ensures.value))
