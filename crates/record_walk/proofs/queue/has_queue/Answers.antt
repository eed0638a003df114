-- The parts of a queue make it up.
use Rattle.std.proofs.Common.{IsTrue, refl, sym, ap, subst, ◌∙◌}
use Rattle.queue_records.specs.declared.record.Record.TheVariants as records
use Rattle.record_walk.proofs.MessageLemmas.{links_are, messages_stand}
use Rattle.record_walk.proofs.QueueLemmas.{all_before, holds_before}
use Rattle.record_walk.proofs.queue.has_queue.Goals as goal

pub returns-clause-ok : goal.returns-clause-ok
returns-clause-ok g c = λ is.
    let one = c.in_ok-holds.ensures in
    let two = c.in_ok-has_key.ensures in
    let three = c.in_ok-has_types.ensures in
    let is1 = subst IsTrue (sym one.still.honesty) is in
    let is2 = subst IsTrue (sym two.still.honesty) is1 in
    let same1 = one.still.same in
    let same2 = two.still.same ∙ same1 in
    let linked = c.requires.links is in
    let links = c.has_links.ensures in (
      λ t. record {
        lawful = c.if-not-is_lawful.ensures.0 refl;
        key = all_before _ _ _ same1 ((two.ok is1).0 c.if-not-branch-2.false);
        queue = holds_before _ _ _ _ refl (ap (λ e. records.Queue e) c.queue_entry.ensures)
            ((one.ok is).0 c.if-not-branch.false);
        types = all_before _ _ _ same2 ((three.ok is2).0 c.if-not-branch-3.false);
        messages = messages_stand _ c.args.queue.now c.args.links.now linked (links.0 t);
      },
      λ h. links.1 (links_are _ c.args.queue.now c.args.links.now linked h.messages),
    )
