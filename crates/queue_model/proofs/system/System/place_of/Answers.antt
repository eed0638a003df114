use Rattle.std.proofs.Common.{◌≡◌, false, arith, sym, ap, ◌∙◌}
use Rattle.std.specs.Prelude.{◌==◌, ◌||◌, nat_le, position}
use Rattle.queue_model.proofs.PlaceLemmas.{place_found, place_refused}
use Rattle.queue_model.proofs.system.System.place_of.Goals as goal

pub returns-clause-found : goal.returns-clause-found
returns-clause-found c =
    let given : (c.args.id == 0 || nat_le c.self.inside.next_id c.args.id) ≡ false = grind
    (arith, c.if-id-eq0.false, c.if-id-self.false) in
    let at = sym (c.first_with_id.ensures ∙ ap (position _) c.as_slice.ensures.value) in
    rw (c.ok_or.ensures.value, ← c.self.view_is) (place_found c.args.id _ given c.first_with_id.result at)

pub returns-clause-refused : goal.returns-clause-refused
returns-clause-refused c =
    let given : (c.args.id == 0 || nat_le c.self.inside.next_id c.args.id) ≡ false = grind
    (arith, c.if-id-eq0.false, c.if-id-self.false) in
    let at = sym (c.first_with_id.ensures ∙ ap (position _) c.as_slice.ensures.value) in
    rw (c.ok_or.ensures.value, ← c.self.view_is) (place_refused c.args.id _ given c.first_with_id.result at)
