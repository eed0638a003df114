-- It has begun anew, and makes the first step of its machine.
use Rattle.std.proofs.Common.{rules, ◌≡◌, sym, ◌∙◌, subst, true≢false, None, length}
use Rattle.std.specs.Vec.{vec_len}
use Rattle.interleaving_core.specs.Active.{ActiveView, BeginsAgain}
use Rattle.interleaving_core.proofs.SeatLemmas.{awake_by, goes_on_by, is_marked}
use Rattle.interleaving_core.proofs.active.Active.turn_anew.Goals as goal

pub returns-clause-anew : goal.returns-clause-anew
returns-clause-anew g c =
    let again : ActiveView = record {
      machine = c.self.inside.machine;
      draft = c.self.inside.draft;
      begun = c.self.inside.begun;
      decided = c.self.inside.decided;
      wait = c.self.inside.wait;
    } in
    let come : ActiveView = record {
      machine = c.step-did.new.self;
      draft = c.note_entry.new.draft;
      begun = c.self.inside.begun;
      decided = c.decided_by-self-inside.result;
      wait = None;
    } in
    let many : vec_len c.args.journal.now ≡ length c.args.journal.now.items = search rules in
    let same : again ≡ c.begin_again.new.self =
    c.self.view_is ∙ c.stays_waiting.ensures.goes c.if-stays_waiting.false in
    let awake = awake_by c.begin_again.new.self again c.as_slice.result.now c.args.journal.now.items
    c.stays_waiting.result same c.as_slice.ensures.value c.stays_waiting.ensures.is c.if-stays_waiting.false in
    record {
      again = again;
      begins = subst (BeginsAgain c.args.self.now) (sym same) c.begin_again.ensures;
      waits = λ stays. absurd (true≢false (sym stays ∙ awake));
      goes = λ woken. goes_on_by (g.K.PseudoKey.of_key c.args.keys.now) c.args.seat c.args.stopped c.step-did.result
          again come c.args.pool.now c.step-did.new.pool c.args.locks.now c.step-did.new.locks
          c.args.journal.now.items c.note_entry.new.journal.items c.step-did.ensures c.self.invariant.drafted
          c.note_entry.ensures.draft c.note_entry.ensures.journal
          (is_marked again c.step-did.new.self c.note_entry.new.draft c.decided_by-self-inside.result c.len.result
          (length c.args.journal.now.items) c.decided_by-self-inside.ensures (c.len.ensures ∙ many)) c.unwrap.result
          (sym c.of.ensures ∙ c.unwrap.ensures);
    }
