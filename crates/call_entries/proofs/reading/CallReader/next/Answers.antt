-- An entry is read, or the bytes begin with none.
use Rattle.std.proofs.Common.{sym, ◌∙◌}
use Rattle.call_entries.proofs.ReadLemmas.{is_read, not_broken, not_of_call, not_wrong}
use Rattle.call_entries.proofs.reading.CallReader.next.Goals as goal

pub returns-in-Err-Broken : goal.returns-in-Err-Broken
returns-in-Err-Broken c =
    rw (← c.self.view_is) (not_broken _ c.in-Some.parts c.in-Some.ensures c.read.result c.read.ensures.only
    c.in-Err-Broken.field-0 c.in-Err-Broken.is c.in-Err-Broken.field-0-is)

pub returns-in-Err-Wrong : goal.returns-in-Err-Wrong
returns-in-Err-Wrong c =
    rw (← c.self.view_is) (not_wrong _ c.in-Some.parts c.in-Some.ensures c.read.result c.read.ensures.only
    c.in-Err-Wrong.field-0 c.in-Err-Wrong.field-0-0 c.in-Err-Wrong.field-0-1 c.in-Err-Wrong.is
    c.in-Err-Wrong.field-0-is)

pub returns-in_default-entry_in : goal.returns-in_default-entry_in
returns-in_default-entry_in c =
    rw (← c.self.view_is) (not_of_call _ c.in-Some.parts c.in-Some.ensures c.read.result c.read.ensures.only
    c.in-Ok.incoming c.in-Ok.is (sym c.in_default-entry_in.is ∙ c.entry_in.ensures))

pub returns : goal.returns
returns c =
    rw (← c.self.view_is) (is_read _ c.in-Some.parts c.in-Ok.incoming c.in-Some-entry_in.entry c.in-Some.ensures
    c.in-Ok.ensures.ok.0 (sym c.entry_in.ensures ∙ c.in-Some-entry_in.is))
