-- A plan has few trials and few slots.
use Rattle.std.proofs.Common.{◌≡◌, sym, ap, subst, arith, length, ◌≤◌, None, Option}
use Rattle.std.specs.Prelude.{List, slice_get, option_map}
use Rattle.std.proofs.lemmas.Bool.{leb-true}
use Rattle.std.proofs.lemmas.List.{drop_all}
use Rattle.std.proofs.lemmas.Option.{slice_get_past}
use Rattle.call_decisions.specs.Asked.{few_of}
use Rattle.xsi_inquiry.specs.Writing.{Plan, somes}
use Rattle.call_writes.specs.Dues.{next_deed}
use Rattle.call_writes.specs.declared.deed.Deed.TheVariants as deeds
use Rattle.call_writes.specs.WriteWords.{Due, Write}
use Rattle.call_writes.proofs.plan.PlanOf.is_done.Goals as goal

pub returns-in-Trying : goal.returns-in-Trying
returns-in-Trying c = λ past.
    let plan : Plan = c.args.self.now in
    let small : length plan.trials ≤ 2 =
    subst (λ (p : Plan). length p.trials ≤ 2) c.self.view_is
    (few_of c.self.inside.call.now c.self.inside.inquiry.now).trials in
    let many : 2 ≤ c.in-Trying.place = leb-true _ _ past in
    let few : length plan.trials ≤ c.in-Trying.place = omega (arith, small, many) in
    subst (λ (d : Due). next_deed plan d ≡ None) (sym c.in-Trying.is)
    (ap (option_map deeds.Trial) (slice_get_past plan.trials c.in-Trying.place few))

pub returns-in-Writing : goal.returns-in-Writing
returns-in-Writing c = λ past.
    let plan : Plan = c.args.self.now in
    let small : length plan.slots ≤ 7 =
    subst (λ (p : Plan). length p.slots ≤ 7) c.self.view_is
    (few_of c.self.inside.call.now c.self.inside.inquiry.now).slots in
    let many : 7 ≤ c.in-Writing.from = leb-true _ _ past in
    let few : length plan.slots ≤ c.in-Writing.from = omega (arith, small, many) in
    subst (λ (d : Due). next_deed plan d ≡ None) (sym c.in-Writing.is)
    (ap (λ (os : List (Option Write)). option_map deeds.Write (slice_get (somes os) 0))
    (drop_all c.in-Writing.from plan.slots few))
