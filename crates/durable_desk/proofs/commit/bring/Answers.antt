use Rattle.std.proofs.Common.{◌≡◌, ◌∙◌, refl, rules, sym, true, false}
use Rattle.std.proofs.lemmas.List.{nil_from_length}
use Rattle.durable_desk.proofs.CommitLemmas.{cut_short, is_committed, stays_committed}
use Rattle.durable_desk.proofs.commit.bring.Goals as goal

pub returns-clause-becomes : goal.returns-clause-becomes
returns-clause-becomes g c =
    is_committed g.P.PagePair.is_honest g.P.PagePair.file g.P.PagePair.journal g.P.PagePair.moment
    g.P.PagePair.left_since g.P.PagePair.may_leave c.in_ok-is_changed.is_changed c.args.desk.now
    c.write_changed.new.desk c.args.device.now c.write_changed.new.device c.requires
    c.in_ok-is_changed.ensures.becomes c.the_pages_are_the_file.ensures
    c.args.log.now c.clear-2.new.self c.sync.new.self c.note_saved.new.self
    c.in-Ok.ensures.same c.in-Ok.ensures.usable.ended c.in-Ok.ensures.usable.usable c.in-Ok.ensures.durable
    c.if-not-note_saved.ensures.noted (c.if-not-note_saved.ensures.kept refl) c.clear-2.ensures

pub returns-in_default-clause-any_moment : goal.returns-in_default-clause-any_moment
returns-in_default-clause-any_moment g c =
    cut_short g.P.PagePair.is_honest g.P.PagePair.file g.P.PagePair.journal g.P.PagePair.moment
    g.P.PagePair.left_since g.P.PagePair.may_leave c.in_ok-is_changed.is_changed c.args.desk.now
    c.write_changed.new.desk c.args.device.now c.write_changed.new.device c.requires
    c.in_ok-is_changed.ensures.becomes c.the_pages_are_the_file.ensures
    c.args.log.now false c.sync.new.self c.in_ok-is_changed.ensures.any_moment c.in_default.ensures.any_moment

pub returns-then-not-note_saved-clause-any_moment : goal.returns-then-not-note_saved-clause-any_moment
returns-then-not-note_saved-clause-any_moment g c =
    cut_short g.P.PagePair.is_honest g.P.PagePair.file g.P.PagePair.journal g.P.PagePair.moment
    g.P.PagePair.left_since g.P.PagePair.may_leave c.in_ok-is_changed.is_changed c.args.desk.now
    c.write_changed.new.desk c.args.device.now c.write_changed.new.device c.requires
    c.in_ok-is_changed.ensures.becomes c.the_pages_are_the_file.ensures
    c.args.log.now true c.sync.new.self c.in_ok-is_changed.ensures.any_moment c.in-Ok.ensures.any_moment

pub returns-clause-any_moment : goal.returns-clause-any_moment
returns-clause-any_moment g c =
    cut_short g.P.PagePair.is_honest g.P.PagePair.file g.P.PagePair.journal g.P.PagePair.moment
    g.P.PagePair.left_since g.P.PagePair.may_leave c.in_ok-is_changed.is_changed c.args.desk.now
    c.write_changed.new.desk c.args.device.now c.write_changed.new.device c.requires
    c.in_ok-is_changed.ensures.becomes c.the_pages_are_the_file.ensures
    c.args.log.now true c.sync.new.self c.in_ok-is_changed.ensures.any_moment c.in-Ok.ensures.any_moment

-- no page had changed, and there are no calls
pub returns-then-many-eq0-clause-becomes : goal.returns-then-many-eq0-clause-becomes
returns-then-many-eq0-clause-becomes g c =
    let none : c.noted_count-many.result ≡ 0 = search rules in
    stays_committed g.P.PagePair.is_honest g.P.PagePair.file g.P.PagePair.journal g.P.PagePair.moment
    g.P.PagePair.left_since g.P.PagePair.may_leave c.in_ok-is_changed.is_changed c.args.desk.now
    c.write_changed.new.desk c.args.device.now c.write_changed.new.device c.requires
    c.in_ok-is_changed.ensures.becomes c.the_pages_are_the_file.ensures
    c.args.log.now c.clear.new.self c.if-not-is_changed.true
    (λ sound. nil_from_length c.write_changed.new.device.calls (sym (c.noted_count-many.ensures sound) ∙ none))
    c.clear.ensures
