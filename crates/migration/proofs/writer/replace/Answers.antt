-- The Counter of a new file is replaced by one as long.
use Rattle.std.proofs.Common.{IfErr, Result, ap, sym, ◌∙◌}
use Rattle.bucket_page.specs.declared.record_key.RecordKey.{RecordKey}
use Rattle.buffer_pool.proofs.TransferLemmas.{handed_on}
use Rattle.queue_records.specs.Keys.{guard_of}
use Rattle.record_file.specs.Accesses.{AccessView, access_key, access_locks}
use Rattle.migration.specs.Fault.{of_file}
use Rattle.migration.specs.Filling.{MayNotWrite}
use Rattle.migration.specs.Writing.{KeepsDevice}
use Rattle.migration.specs.declared.fault.MakingFault.{MakingFault}
use Rattle.migration.proofs.BeginLemmas.{begun_replace, of_device}
use Rattle.migration.proofs.KeepingLemmas.{keeps_failed}
use Rattle.migration.proofs.writer.replace.Goals as goal

pub carry_out-requires-clause-begun : goal.carry_out-requires-clause-begun
carry_out-requires-clause-begun g c = λ before.
    ap (λ (a : AccessView). access_locks a before) c.write-access.ensures.value

pub carry_out-requires-clause-name : goal.carry_out-requires-clause-name
carry_out-requires-clause-name g c = sym (ap (λ (a : AccessView). guard_of (access_key a)) c.write-access.ensures.value)

pub returns-in_err-carry_out-clause-kept : goal.returns-in_err-carry_out-clause-kept
returns-in_err-carry_out-clause-kept g c =
    handed_on c.from_residual.result (of_file c.in_err-carry_out.field-0.0) c.from_residual.ensures.1
    (λ (r : Result Unit MakingFault). KeepsDevice c.args.pool.now c.carry_out.new.pool r)
    (keeps_failed c.args.pool.now c.carry_out.new.pool c.in_err-carry_out.field-0.0 c.in_err-carry_out.ensures.kept
    c.in_err-carry_out.ensures.cause)

pub returns-in_err-carry_out-clause-told : goal.returns-in_err-carry_out-clause-told
returns-in_err-carry_out-clause-told g c = λ range rest counter.
    handed_on c.from_residual.result (of_file c.in_err-carry_out.field-0.0) c.from_residual.ensures.1
    (λ (r : Result Unit MakingFault). IfErr r MayNotWrite)
    (of_device c.in_err-carry_out.field-0.0 _ _
    (c.in_err-carry_out.ensures.told _ _ (begun_replace (g.K.PseudoKey.of_key c.args.keys.now) c.args.counter _ _ _
    c.write-access.ensures.value c.write-access.ensures.serves
    (c.of-pseudokey.ensures ∙ ap (λ (key : RecordKey). g.K.PseudoKey.of_key c.args.keys.now key) c.key.ensures) rest
    counter)))
