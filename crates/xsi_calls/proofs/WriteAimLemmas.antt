-- What a call that writes asks for while it searches is what its seat knows.
use Rattle.std.proofs.Common.{ℕ, List, Option, Some, None, sym, subst}
use Rattle.call_writes.proofs.of_record_file.AskLemmas.{access_aimed, begun_asks}
use Rattle.call_writes.specs.record_file.step_rules.Known.{Known}
use Rattle.call_writes.specs.record_file.step_rules.Searching.{IsAimed}
use Rattle.call_writes.specs.record_file.step_rules.Turns.{Ask}
use Rattle.call_writes.specs.declared.writes.CallWrites.{CallWrites}
use Rattle.call_writes.specs.Dues.{next_deed, purpose_of}
use Rattle.call_writes.specs.Views.{facts_under, set_out, turn_under, writes_facts, writes_turn}
use Rattle.call_writes.specs.WriteWords.{AccessView, Plan, RecordKey, Store}
use Rattle.call_writes.specs.declared.deed.Deed.{Deed}

-- an access that begins asks for nothing of a search yet
pub sets_out_aimed : (hash : RecordKey → ℕ) (d : Option Deed) (s : Store) (facts : List Known) →
    IsAimed (turn_under (set_out hash d None) s).ask facts
sets_out_aimed hash None s facts = tt
sets_out_aimed hash (Some d) s facts =
    subst (λ (a : Option Ask). IsAimed a facts) (sym (begun_asks (purpose_of d) _ s)) tt

pub writes_aimed : (hash : RecordKey → ℕ) (p : Plan) (w : CallWrites) (s : Store) →
    IsAimed (writes_turn hash p w s).ask (writes_facts w)
writes_aimed hash p w s = by w.access
  where
    by : (o : Option AccessView) → IsAimed (turn_under (set_out hash (next_deed p w.due) o) s).ask (facts_under o)
    by None = sets_out_aimed hash (next_deed p w.due) s (facts_under None)
    by (Some a) = access_aimed a s
