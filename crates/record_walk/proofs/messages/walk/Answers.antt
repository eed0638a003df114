-- A message brings the walk nearer to its end.
use Rattle.std.proofs.Common.{ℕ, ◌+◌, List, [], ◌∷◌, ◌++◌, Option, IsTrue, length, length-append, refl, sym, ap, subst, ◌∙◌, inr, arith}
use Rattle.queue_records.specs.declared.record.Record.TheVariants as records
use Rattle.record_walk.specs.Held.{AreLinked, Holds, IsLinked, IsMessageAt}
use Rattle.record_walk.specs.Words.{RecordKey}
use Rattle.record_walk.proofs.MessageLemmas.{is_linked, linked_push}
use Rattle.record_walk.proofs.StillLemmas.{still_more}
use Rattle.record_walk.proofs.WalkLemmas.{IsWalkedTo, walked_there, walked_more, walked_all}
use Rattle.record_walk.proofs.messages.walk.Goals as goal

pub returns-in_default-2-clause-err : goal.returns-in_default-2-clause-err
returns-in_default-2-clause-err g c = λ is. inr (
  refl,
  λ q has its e.
      let before = c.walk.invariant in
      let so = subst (IsWalkedTo q c.walk.messages) c.in-Some.is (before.walked is q has its e) in
      let told = c.in_ok-found.ensures.ok (subst IsTrue (sym before.still.honesty) is) in
      let there = walked_there (g.F.Records.held c.args.file.now) q has c.args.id c.args.first its c.walk.messages
      c.in-Some.serial c.in_ok-found.field-0 so
      (λ m h a b. told m (subst (λ (held : RecordKey → Option (List ℕ)). Holds held (records.Message m))
      (sym before.still.same) h) a b) in
      let none = sym c.in_default-2.is ∙ there.1 in
      absurd cc,
)

pub walk-preserved : goal.walk-preserved
walk-preserved g c =
    let before = c.walk.invariant in
    record {
      still = still_more g.F.Records.held g.F.Records.pages g.F.Records.is_honest g.F.Records.fault_count _ _ _
          before.still c.in_ok-found.ensures.still;
      few =
          (let longer = ap length c.in_ok-push-2.ensures.ok ∙ length-append c.walk.messages _ in
          let long = c.len.ensures in let less = c.if-len.false in let few = before.few in
          omega (arith, longer, long, less, few));
      walked = λ is q has its e.
          let so = subst (IsWalkedTo q c.walk.messages) c.in-Some.is (before.walked is q has its e) in
          let told = c.in_ok-found.ensures.ok (subst IsTrue (sym before.still.honesty) is) in
          subst (λ ms. IsWalkedTo q ms c.in-Some-2.found.links.next) (sym c.in_ok-push-2.ensures.ok)
          (walked_more (g.F.Records.held c.args.file.now) q has c.args.id c.args.first its c.walk.messages
          c.in-Some.serial c.in-Some-2.found so
          (λ m h a b. sym c.in-Some-2.is
          ∙ told m (subst (λ (held : RecordKey → Option (List ℕ)). Holds held (records.Message m))
          (sym before.still.same) h) a b));
      linked = λ is.
          let told = c.in_ok-found.ensures.ok (subst IsTrue (sym before.still.honesty) is) in
          let at = rw c.in-Some-2.is at (c.in_ok-found.ensures.stands (subst IsTrue (sym before.still.honesty) is)) in
          let held = g.F.Records.held c.args.file.now in
          let found = c.in-Some-2.found in
          subst (AreLinked held c.args.id _)
          (sym c.in_ok-push.ensures.items)
          (subst (λ ms. AreLinked held c.args.id ms (c.walk.links.items ++ found.links ∷ []))
          (sym c.in_ok-push-2.ensures.ok)
          (linked_push (IsLinked held c.args.id) c.walk.messages c.walk.links.items found.message found.links
          (before.linked is)
          (is_linked held c.args.id c.in-Some.serial found
          (λ m h a b. sym c.in-Some-2.is
          ∙ told m (subst (λ (held : RecordKey → Option (List ℕ)). Holds held (records.Message m))
          (sym before.still.same) h) a b)
          (subst (λ (held : RecordKey → Option (List ℕ)). IsMessageAt held c.args.id c.in-Some.serial found)
          before.still.same at))));
      number =
          ap length c.in_ok-push.ensures.items ∙ length-append c.walk.links.items _
          ∙ ap (λ n. n + 1) before.number
          ∙ sym (ap length c.in_ok-push-2.ensures.ok ∙ length-append c.walk.messages _);
    }

pub returns-clause-ok : goal.returns-clause-ok
returns-clause-ok g c = λ is q has its e.
    walked_all (g.F.Records.held c.args.file.now) q has c.args.id c.args.first its c.walk.messages
    (subst (IsWalkedTo q c.walk.messages) c.in_default.is (c.walk.invariant.walked is q has its e))

pub returns-clause-links : goal.returns-clause-links
returns-clause-links g c = λ is. c.walk.invariant.linked is

pub returns-clause-number : goal.returns-clause-number
returns-clause-number g c = c.walk.invariant.number
