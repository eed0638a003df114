-- The calls are noted, or there were none.
use Rattle.std.proofs.Common.{◌∙◌, IsTrue, List, ℕ, ap, length, subst, sym, true, false}
use Rattle.std.proofs.lemmas.Bool.{eqb-true}
use Rattle.std.proofs.lemmas.List.{nil_from_length}
use Rattle.safe_device.specs.Crash.{Keeps}
use Rattle.safe_device.specs.Device.{HasNoted, Notes}
use Rattle.safe_device.specs.Left.{with_calls}
use Rattle.safe_device.specs.Safe.{StandsFor, committed}
use Rattle.durable_desk.proofs.CommitLemmas.{is_noted, none_noted, noted_short}
use Rattle.durable_desk.proofs.commit.keep.Goals as goal

pub returns-then-is_empty-clause-becomes : goal.returns-then-is_empty-clause-becomes
returns-then-is_empty-clause-becomes g c =
    let whole : IsTrue c.args.log.now.is_whole = sym c.is_whole.ensures ∙ c.if-not-is_whole.false in
    let empty = eqb-true _ _ (sym c.is_empty.ensures ∙ c.if-is_empty.true) in
    let nothing = nil_from_length c.args.log.now.bytes (ap length (sym c.as_slice.ensures) ∙ empty) in
    none_noted g.P.PagePair.is_honest g.P.PagePair.file g.P.PagePair.journal g.P.PagePair.moment
    g.P.PagePair.left_since g.P.PagePair.may_leave c.args.desk.now c.args.log.now c.clear.new.self c.args.device.now
    c.args.device.now c.requires
    (g.met.P.PagePair.seen_may_stay c.args.device.now.pair) whole nothing c.clear.ensures

pub returns-in-Ok-clause-becomes : goal.returns-in-Ok-clause-becomes
returns-in-Ok-clause-becomes g c =
    let honest = g.P.PagePair.is_honest in
    let whole : IsTrue c.args.log.now.is_whole = sym c.is_whole.ensures ∙ c.if-not-is_whole.false in
    let old = c.args.device.now in
    let noted = subst (λ (xs : List ℕ). HasNoted honest xs old c.note.new.self) c.as_slice-2.ensures
    c.in-Ok.ensures.ok in
    let durable = subst (λ (xs : List ℕ). IsTrue honest →
    Keeps (StandsFor (with_calls xs (committed g.P.PagePair.file g.P.PagePair.journal old.pair)))
    (g.P.PagePair.may_leave c.note.new.self.pair)) c.as_slice-2.ensures c.in-Ok.ensures.durable in
    is_noted g.P.PagePair.is_honest g.P.PagePair.file g.P.PagePair.journal g.P.PagePair.moment
    g.P.PagePair.left_since g.P.PagePair.may_leave c.args.desk.now c.args.log.now c.clear-in-Ok.new.self old
    c.note.new.self c.requires
    (g.met.P.PagePair.seen_may_stay old.pair) whole c.in-Ok.ensures.same noted durable c.clear-in-Ok.ensures

pub returns-in-Ok-clause-any_moment : goal.returns-in-Ok-clause-any_moment
returns-in-Ok-clause-any_moment g c =
    let whole : IsTrue c.args.log.now.is_whole = sym c.is_whole.ensures ∙ c.if-not-is_whole.false in
    noted_short g.P.PagePair.is_honest g.P.PagePair.file g.P.PagePair.journal g.P.PagePair.moment
    g.P.PagePair.left_since g.P.PagePair.may_leave c.args.desk.now c.args.log.now c.clear-in-Ok.new.self
    c.args.device.now c.note.new.self c.requires
    (g.met.P.PagePair.seen_may_stay c.args.device.now.pair) whole true
    (subst (λ (xs : List ℕ). Notes g.P.PagePair.is_honest g.P.PagePair.file g.P.PagePair.journal g.P.PagePair.moment
    g.P.PagePair.left_since xs true c.args.device.now c.note.new.self) c.as_slice-2.ensures c.in-Ok.ensures.any_moment)

pub returns-in-Err-Device-clause-any_moment : goal.returns-in-Err-Device-clause-any_moment
returns-in-Err-Device-clause-any_moment g c =
    let whole : IsTrue c.args.log.now.is_whole = sym c.is_whole.ensures ∙ c.if-not-is_whole.false in
    noted_short g.P.PagePair.is_honest g.P.PagePair.file g.P.PagePair.journal g.P.PagePair.moment
    g.P.PagePair.left_since g.P.PagePair.may_leave c.args.desk.now c.args.log.now c.args.log.now c.args.device.now
    c.note.new.self c.requires
    (g.met.P.PagePair.seen_may_stay c.args.device.now.pair) whole false
    (subst (λ (xs : List ℕ). Notes g.P.PagePair.is_honest g.P.PagePair.file g.P.PagePair.journal g.P.PagePair.moment
    g.P.PagePair.left_since xs false c.args.device.now c.note.new.self) c.as_slice-2.ensures
    c.in-Err-Device.ensures.any_moment)
