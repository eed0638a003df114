-- What a sweep asks for while it searches is what its seat knows.
use Rattle.std.proofs.Common.{Option, Some, None}
use Rattle.record_file.proofs.AskLemmas.{access_aimed}
use Rattle.step_rules.specs.Searching.{IsAimed}
use Rattle.xsi_remove.specs.declared.work.Work.{Work}
use Rattle.xsi_remove.specs.Sweeps.{sweep_facts, sweep_turn}
use Rattle.xsi_remove.specs.Words.{Store}

pub sweep_aimed : (o : Option Work) (s : Store) → IsAimed (sweep_turn o s).ask (sweep_facts o)
sweep_aimed None s = tt
sweep_aimed (Some w) s = access_aimed w.access s
