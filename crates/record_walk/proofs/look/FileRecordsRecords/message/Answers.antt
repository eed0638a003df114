-- What is found at its key is the Message.
use Rattle.std.proofs.Common.{◌≡◌, w64, sym, subst, ap, ◌∙◌}
use Rattle.std.specs.Prelude.{FitsSigned}
use Rattle.std.proofs.lemmas.Int.{to_z-of_z}
use Rattle.queue_records.specs.declared.record.Record.TheVariants as records
use Rattle.queue_records.specs.Keys.{key_of_message}
use Rattle.record_walk.specs.Answers.{StandsAt}
use Rattle.record_walk.specs.Files.{held_on}
use Rattle.record_walk.specs.LookupWords.{MessageEntry, RecordKey}
use Rattle.record_walk.proofs.ValueLemmas.{answers_in, found_is, linked_at, linked_is}
use Rattle.record_walk.proofs.look.FileRecordsRecords.message.Goals as goal

pub returns-in_ok-from_slice-in-Some-Message-clause-ok : goal.returns-in_ok-from_slice-in-Some-Message-clause-ok
returns-in_ok-from_slice-in-Some-Message-clause-ok g c = λ is other h its serial.
    let same : records.Message c.in-Some-Message.message ≡ records.Message other =
    sym c.in-Some-Message.field-0-is
    ∙ found_is _ _ _ _ _ (c.in_ok-message.ensures.ok _ (answers_in _ _ _ _ _ c.layout-layout.ensures
    (c.in_ok-page.ensures.ok is))) c.in-Some-Message.is
    (ap (λ id. key_of_message id other.serial) its ∙ ap (key_of_message c.args.id) serial
    ∙ sym c.message_key-key.ensures) h in
    let it : c.in-Some-Message.message ≡ other = cc in
    linked_is _ other _ _ it
    (to_z-of_z w64 _ (subst (λ (e : MessageEntry). FitsSigned w64 e.mtype) (sym it) h.spelled.fits.mtype))
    (c.new.ensures ∙ c.in_ok-from_slice-in-Some-Message.ensures.items ∙ c.as_slice.ensures)

pub returns-in_ok-from_slice-in-Some-Message-clause-stands : goal.returns-in_ok-from_slice-in-Some-Message-clause-stands
returns-in_ok-from_slice-in-Some-Message-clause-stands g c = λ is.
    let held = held_on c.args.self.now in
    let found = rw c.in-Some-Message.is at (c.in_ok-message.ensures.stands held
    (answers_in _ _ _ _ _ c.layout-layout.ensures (c.in_ok-page.ensures.ok is))) in
    let at =
    subst (λ (k : RecordKey). StandsAt held k (records.Message c.in-Some-Message.message)) c.message_key-key.ensures
    (subst (StandsAt held c.message_key-key.result) c.in-Some-Message.field-0-is found) in
    linked_at held c.args.id c.args.serial c.in-Some-Message.message _ _ at
    (to_z-of_z w64 _ at.stands.spelled.fits.mtype)
    (c.new.ensures ∙ c.in_ok-from_slice-in-Some-Message.ensures.items ∙ c.as_slice.ensures)
