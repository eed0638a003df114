-- Values of one kind are as long, but for Messages.
use Rattle.std.proofs.Common.{◌≡◌, ℕ, ◌+◌, List, ◌++◌, length, sym, ap, subst, ◌∙◌, arith}
use Rattle.std.proofs.lemmas.List.{length-append}
use Rattle.bucket_page.proofs.of_numbers.NumberLaws.{length-two, length-four, length-eight}
use Rattle.queue_records.specs.declared.counter.Counter.{Counter}
use Rattle.queue_records.specs.declared.queue_entry.QueueEntry.{QueueEntry}
use Rattle.queue_records.specs.declared.record.Record.{Record}
use Rattle.queue_records.specs.declared.record.Record.TheVariants as records
use Rattle.queue_records.specs.Older.{SpellsOlder, older_end}
use Rattle.queue_records.specs.Spelling.{counter_bytes, key_of, queue_bytes}

pub length-counter : (c : Counter) → length (counter_bytes c) ≡ 8
length-counter c = simp (length-append, length-four) (omega arith)

pub length-queue : (q : QueueEntry) → length (queue_bytes q) ≡ 99
length-queue q = simp (length-append, length-two, length-four, length-eight) (omega arith)

length-older_end : length older_end ≡ 18
length-older_end = simp (length-append, length-two, length-four) (omega arith)

-- what an older value and its end spell a Queue with is as long as each older one
pub completes_queue : (q : QueueEntry) (value : List ℕ) → value ++ older_end ≡ queue_bytes q → length value ≡ 81
completes_queue q value is =
    let both : length value + length older_end ≡ 99 =
    sym (length-append value older_end) ∙ ap (λ (xs : List ℕ). length xs) is ∙ length-queue q in
    let end = length-older_end in
    omega (arith, both, end)

pub older_queue_length : (r : Record) (q : QueueEntry) (value : List ℕ) → r ≡ records.Queue q
    → SpellsOlder r (key_of r) value → length value ≡ 81
older_queue_length r q value is spells =
    let spelled = subst (λ (x : Record). SpellsOlder x (key_of x) value) is spells in
    completes_queue q value spelled.spelled
