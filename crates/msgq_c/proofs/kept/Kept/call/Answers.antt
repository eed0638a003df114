-- It is made by its caller, and what is written down of it is its entry.
use Rattle.std.proofs.Common.{refl}
use Rattle.call_entries.proofs.LogLemmas.{noted_is}
use Rattle.msgq_c.specs.Keeping.{answer_of}
use Rattle.msgq_c.proofs.kept.Kept.call.Goals as goal

pub returns : goal.returns
returns c = record {
  becomes = c.call_as-result.ensures.becomes;
  notes = noted_is c.args.self.now.caller c.args.call.now (answer_of c.call_as-result.result) c.args.self.now.log
      c.begin.new.self c.end_with.new.log c.begin.ensures c.end_with.ensures;
  room = c.has_lacked_room-self.ensures;
  caller = refl;
  saved = c.call_as-result.ensures.keeps.saved;
}
