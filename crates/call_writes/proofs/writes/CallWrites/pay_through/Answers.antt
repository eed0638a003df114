-- The write in the next slot that is not empty is the deed that comes next.
use Rattle.std.proofs.Common.{◌≡◌, ◌∙◌, ◌+◌, ℕ, List, [], Option, ap, refl, subst, sym, zero}
use Rattle.std.specs.Prelude.{MatchOption, slice_get, option_map, drop}
use Rattle.call_decisions.specs.Anything.{plan_of}
use Rattle.xsi_inquiry.specs.Slots.{IsNextWrite, writes_left}
use Rattle.xsi_inquiry.specs.declared.write.Write.{Write}
use Rattle.call_writes.specs.declared.deed.Deed.TheVariants as deeds
use Rattle.call_writes.specs.WriteWords.{Plan, Writing}
use Rattle.call_writes.proofs.StartLemmas.{none_of}
use Rattle.call_writes.proofs.WriteAtOnceLemmas.{deed_from}
use Rattle.call_writes.proofs.writes.CallWrites.pay_through.Goals as goal

pub returns : goal.returns
returns g c =
    let hash = g.K.PseudoKey.of_key c.args.keys.now in
    let from = c.in-Writing.from in
    let slot = c.in-Some.slot in
    let write = c.in-Some.write in
    let told = plan_of c.plan.inside.call.now c.plan.inside.inquiry.now in
    let next : IsNextWrite c.args.plan.now from slot write =
    subst (λ (p : Plan). IsNextWrite p from slot write) c.plan.view_is
    (subst (λ (o : Option (ℕ × Write)). MatchOption o (writes_left told from ≡ [])
    (λ n. IsNextWrite told from n.0 n.1)) c.in-Some.is c.next_write.ensures) in
    deed_from hash c.args.seat c.args.plan.now c.args.pool.now c.write_at_once.new.pool c.args.locks.now
    c.args.self.now (none_of _ (sym c.is_under_way.ensures ∙ c.if-is_under_way.false)) (deeds.Write write)
    (Writing from) (Writing (slot + 1)) c.in-Writing.is
    (record {
      deed = ap (λ (ws : List Write). option_map deeds.Write (slice_get ws zero)) next.first;
      behind = (slot + 1, refl, sym (ap (drop 1) next.first));
    }) c.of-pseudokey.result (c.of-pseudokey.ensures ∙ ap hash c.key_written.ensures)
    (c.write_at_once.ensures.made c.if-not-write_at_once.false) c.write_at_once.new.self
    c.write_at_once.ensures.rests
