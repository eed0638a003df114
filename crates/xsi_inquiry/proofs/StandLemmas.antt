-- The records of a queue's messages and types, at their keys.
use Rattle.std.proofs.Common.{◌≡◌, ℕ, ◌<◌, ◌≤◌, ℤ, pos, negsuc, ◌≤ℤ◌, ◌<ℤ◌, length, Option, Some, None, refl, sym, ap, ◌∙◌, subst, get_or, arith}
use Rattle.std.specs.Prelude.{◌≢◌, option_and_then, option_map}
use Rattle.std.specs.List.{All, Contains, find}
use Rattle.std.proofs.lemmas.Bool.{eqb-true}
use Rattle.std.proofs.lemmas.Bool.Decides.{Decides-eqb}
use Rattle.std.proofs.lemmas.Int.{ints}
use Rattle.std.proofs.lemmas.List.Elements.{All-contains}
use Rattle.std.proofs.lemmas.Option.{same_Some}
use Rattle.queue_model.proofs.ListLemmas.{find-Some}
use Rattle.queue_model.specs.Lawful.{IsLawful, IsLawfulMessage, IsLawfulQueue}
use Rattle.queue_model.specs.Rules.{has_id}
use Rattle.queue_model.specs.State.{State}
use Rattle.queue_model.specs.declared.message.Message.{Message}
use Rattle.queue_model.specs.declared.queue.Queue.{Queue}
use Rattle.type_chains.specs.queue_records.declared.record.Record.{Record}
use Rattle.type_chains.specs.queue_records.declared.record.Record.TheVariants as records
use Rattle.type_chains.specs.queue_records.Fields.{type_number}
use Rattle.type_chains.specs.queue_records.Keys.{key_of_message, key_of_queue, key_of_type}
use Rattle.type_chains.proofs.Limits.{all_types, lawful_queue}
use Rattle.type_chains.proofs.Pairs.{all_of}
use Rattle.type_chains.proofs.Tests.{mapped}
use Rattle.type_chains.proofs.Unique.{find_one, numbers_apart, types_ascend}
use Rattle.type_chains.specs.Entries.{message_entry, queue_entry, type_entry}
use Rattle.type_chains.specs.Lists.{types}
use Rattle.type_chains.specs.RecordOf.{has_number, has_serial, message_record, record_of, type_record}

-- types from 1 on have each a number of their own
pub same_number : (t u : ℤ) → pos 1 ≤ℤ t → pos 1 ≤ℤ u → type_number t ≡ type_number u → t ≡ u
same_number (pos m) (pos k) one two same = ap pos same
same_number (pos m) (negsuc k) one two same = absurd (omega (arith, ints, two))
same_number (negsuc m) u one two same = absurd (omega (arith, ints, one))

-- in their order
pub numbers_ascend : (t u : ℤ) → pos 1 ≤ℤ t → t <ℤ u → type_number t < type_number u
numbers_ascend (pos m) (pos k) one less = omega (arith, ints, less)
numbers_ascend (pos m) (negsuc k) one less = absurd (omega (arith, ints, less))
numbers_ascend (negsuc m) u one less = absurd (omega (arith, ints, one))

-- and messages of a lawful queue their serials
pub found_by_serial : (q : Queue) → IsLawfulQueue q → (m : Message) → Contains q.messages m →
    find (has_serial m.serial) q.messages ≡ Some m
found_by_serial q lawful m there = find_one (has_serial m.serial) q.messages m there
    ((Decides-eqb m.serial m.serial).1 refl)
    (λ i j d before within one two.
    let first = eqb-true _ m.serial one in
    let second = eqb-true _ m.serial two in
    omega (arith, lawful.serials_ascend i j d before within, first, second))

pub serial_tells : (q : Queue) → IsLawfulQueue q → (m n : Message) → Contains q.messages m → Contains q.messages n →
    m.serial ≡ n.serial → m ≡ n
serial_tells q lawful m n first second same = same_Some m n (sym (found_by_serial q lawful m first)
    ∙ ap (λ k. find (has_serial k) q.messages) same ∙ found_by_serial q lawful n second)

module _ (s : State) (lawful : IsLawful s) (id : ℕ) (q : Queue) (found : find (has_id id) s.queues ≡ Some q) where
  pub stands : Contains s.queues q
  stands = (find-Some (has_id id) s.queues q found).1

  pub fine : IsLawfulQueue q
  fine = lawful_queue s lawful q stands

  pub typed : (t : ℤ) → Contains (types q.messages) t → pos 1 ≤ℤ t
  typed t there = All-contains (λ (t : ℤ). pos 1 ≤ℤ t) (types q.messages) t (all_types s lawful q stands) there

  pub short : (n : Message) → Contains q.messages n → length n.bytes ≤ 1024
  short n there = (All-contains (IsLawfulMessage q.next_serial) q.messages n fine.messages_lawful there).short

  pub by_serial : (n : Message) → Contains q.messages n → find (has_serial n.serial) q.messages ≡ Some n
  by_serial n there = found_by_serial q fine n there

  pub by_number : (t : ℤ) → Contains (types q.messages) t
      → find (has_number (type_number t)) (types q.messages) ≡ Some t
  by_number t there =
      find_one (has_number (type_number t)) (types q.messages) t there
      ((Decides-eqb (type_number t) (type_number t)).1 refl)
      (λ i j d before within one two.
      let all = all_types s lawful q stands in
      numbers_apart (get_or (types q.messages) i d) (get_or (types q.messages) j d) (type_number t)
      (all i d (omega (arith, before, within))) (all j d within) (types_ascend q.messages i j d before within)
      (eqb-true _ (type_number t) one) (eqb-true _ (type_number t) two))

  -- it has its Queue, a message a Message, and a type that stands a Type
  pub queue_stands : record_of s (key_of_queue id) ≡ Some (records.Queue (queue_entry q))
  queue_stands = ap (option_map (λ (x : Queue). records.Queue (queue_entry x))) found

  pub message_stands : (n : Message) → Contains q.messages n →
      record_of s (key_of_message id n.serial) ≡ Some (records.Message (message_entry q n))
  message_stands n there =
      ap (option_and_then (message_record n.serial)) found
      ∙ ap (option_map (λ (m : Message). records.Message (message_entry q m))) (by_serial n there)

  type_at : (t : ℤ) → record_of s (key_of_type id t) ≡ type_record (type_number t) q
  type_at t = ap (option_and_then (type_record (type_number t))) found

  pub type_stands : (t : ℤ) → Contains (types q.messages) t →
      record_of s (key_of_type id t) ≡ Some (records.Type (type_entry q t))
  type_stands t there = type_at t ∙ ap (option_map (λ (t : ℤ). records.Type (type_entry q t))) (by_number t there)

  -- what stands at a type's key is that type's Type
  pub type_found : (t : ℤ) (r : Record) → pos 1 ≤ℤ t → record_of s (key_of_type id t) ≡ Some r →
      Contains (types q.messages) t × (r ≡ records.Type (type_entry q t))
  type_found t r one at =
      let (u, there, is) = mapped (λ (t : ℤ). records.Type (type_entry q t))
      (find (has_number (type_number t)) (types q.messages)) r (sym (type_at t) ∙ at) in
      let passes = find-Some (has_number (type_number t)) (types q.messages) u there in
      let same : u ≡ t = same_number u t (typed u passes.1) one (eqb-true (type_number u) (type_number t) passes.0) in
      (subst (Contains (types q.messages)) same passes.1, sym is ∙ ap (λ v. records.Type (type_entry q v)) same)

  -- so a type from 1 on that does not stand has none, and one that has none does not stand
  pub type_absent : (t : ℤ) → pos 1 ≤ℤ t → (Contains (types q.messages) t → ⊥) → record_of s (key_of_type id t) ≡ None
  type_absent t one none = by (record_of s (key_of_type id t)) refl
    where
      by : (o : Option Record) → record_of s (key_of_type id t) ≡ o → o ≡ None
      by None is = refl
      by (Some r) is = absurd (none (type_found t r one is).0)

  pub none_of_type : (t : ℤ) → record_of s (key_of_type id t) ≡ None → All (λ (u : ℤ). u ≢ t) (types q.messages)
  none_of_type t none = all_of (λ (u : ℤ). u ≢ t) (types q.messages) (λ u there same.
      let at = type_stands u there in
      let clash : ◌≡◌ {A = Option Record} None (Some (records.Type (type_entry q u))) =
      sym none ∙ ap (λ v. record_of s (key_of_type id v)) (sym same) ∙ at in
      absurd cc)
