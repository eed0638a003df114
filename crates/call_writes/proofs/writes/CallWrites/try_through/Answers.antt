-- The trial at this place is the deed that comes next.
use Rattle.std.proofs.Common.{◌≡◌, ◌∙◌, Some, ap, subst, sym}
use Rattle.std.specs.Prelude.{slice_get, option_map}
use Rattle.call_writes.specs.declared.deed.Deed.TheVariants as deeds
use Rattle.call_writes.specs.WriteWords.{Plan, Trying}
use Rattle.call_writes.proofs.StartLemmas.{none_of}
use Rattle.call_writes.proofs.WriteAtOnceLemmas.{deed_from}
use Rattle.call_writes.proofs.writes.CallWrites.try_through.Goals as goal

pub returns : goal.returns
returns g c =
    let hash = g.K.PseudoKey.of_key c.args.keys.now in
    let entry = c.in-Some.entry in
    deed_from hash c.args.seat c.args.plan.now c.args.pool.now c.insert_at_once.new.pool c.args.locks.now
    c.args.self.now (none_of _ (sym c.is_under_way.ensures ∙ c.if-is_under_way.false)) (deeds.Trial entry)
    (Trying c.in-Trying.place) c.behind-self.result c.in-Trying.is
    (record {
      deed = subst (λ (p : Plan).
          option_map deeds.Trial (slice_get p.trials c.in-Trying.place) ≡ Some (deeds.Trial entry)) c.plan.view_is
          (ap (option_map deeds.Trial) (sym c.trial.ensures ∙ c.in-Some.is));
      behind = c.behind-self.ensures;
    }) c.of-pseudokey.result (c.of-pseudokey.ensures ∙ ap hash c.key.ensures)
    (c.insert_at_once.ensures.made c.if-not-insert_at_once.false) c.insert_at_once.new.self
    c.insert_at_once.ensures.rests
