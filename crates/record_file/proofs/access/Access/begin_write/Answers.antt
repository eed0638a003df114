-- The bytes of the value may be lent to a replace.
use Rattle.std.proofs.Common.{refl, ap, ◌∙◌, sym, subst, length}
use Rattle.record_file.specs.AccessWords.{MayBeLent, RecordOperation}
use Rattle.record_file.specs.Accesses.{AccessView}
use Rattle.record_file.proofs.ReadLemmas.{short_value}
use Rattle.record_file.proofs.access.Access.begin_write.Goals as goal

pub invariant_of-self : goal.invariant_of-self
invariant_of-self c =
    let begun = ap (λ (a : AccessView). a.operation) (c.self.view_is ∙ c.begin_again.ensures) ∙ c.replace.ensures in
    record {
      key_is = c.self.invariant.key_is;
      within = rw (c.encode.ensures.value) (short_value c.in-Replace.entry (rw (c.in-Replace.is) at c.requires));
      lent = subst (λ (o : RecordOperation). MayBeLent (length c.encode.new.value) o) (sym begun) refl;
    }
