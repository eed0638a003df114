-- The bytes of the value may be lent to an insert.
use Rattle.std.proofs.Common.{ap, ◌∙◌, sym, subst, length}
use Rattle.record_file.specs.AccessWords.{MayBeLent, RecordOperation}
use Rattle.record_file.specs.Accesses.{AccessView}
use Rattle.record_file.proofs.ReadLemmas.{short_value}
use Rattle.record_file.proofs.access.Access.begin_insert.Goals as goal

pub invariant_of-self : goal.invariant_of-self
invariant_of-self c =
    let begun = ap (λ (a : AccessView). a.operation) (c.self.view_is ∙ c.begin_again.ensures) ∙ c.insert.ensures in
    record {
      key_is = c.self.invariant.key_is;
      within = rw (c.encode.ensures.value) (short_value c.args.entry.now c.requires);
      lent = subst (λ (o : RecordOperation). MayBeLent (length c.encode.new.value) o) (sym begun) tt;
    }
