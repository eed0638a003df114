use Rattle.hash_file.proofs.Searches.{entries_lead}
use Rattle.hash_file.specs.Chain.{chain}
use Rattle.hash_file.specs.Store.{entry_at}
use Rattle.hash_file.proofs.laws.an_entry_leads_to_its_bucket.Goals as goal

pub returns : goal.returns
returns c = λ hash s d i h within.
    let l = entries_lead hash s d (chain s) (entry_at s i) i h (h.entries i within) in
    record { leads = l.leads; near = l.near }
