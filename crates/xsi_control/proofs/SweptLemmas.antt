-- What is left of a queue while its messages are swept, key by key.
use Rattle.std.proofs.Common.{◌≡◌, ℕ, true, false, Option, Some, None, inl, inr, refl, ap, ◌∙◌, arith}
use Rattle.std.specs.Prelude.{◌==◌, ◌≢◌, ◌&&◌, IsSome, option_and_then}
use Rattle.xsi_control.specs.RemoveWords.{find, RecordKey, both_true, Queue, has_id, State, TYPE, MESSAGE, Record, message_record, record_of, type_record, swept, type_left, message_left}
use Rattle.std.proofs.lemmas.Bool.{eqb-true}
use Rattle.std.proofs.lemmas.Bool.Decides.{nat_tests}
use Rattle.xsi_inquiry.proofs.of_type_chains.Tests.{by_guard, by_test, chained}
use Rattle.xsi_control.proofs.KindLemmas.{kind_message, kind_type}

pub some_is : {X : Type 0} (o : Option X) (x : X) → o ≡ Some x → IsSome o
some_is None x is = absurd cc
some_is (Some y) x is = refl

-- records of other kinds stand as they did
pub swept_otherwise : (id count : ℕ) (s : State) (key : RecordKey) → key.kind ≢ TYPE → key.kind ≢ MESSAGE →
    swept id count s key ≡ record_of s key
swept_otherwise id count s key no_type no_message =
    let first : (key.queue == id && key.kind == TYPE) ≡ false = grind (arith, nat_tests, no_type) in
    let second : (key.queue == id && key.kind == MESSAGE) ≡ false = grind (arith, nat_tests, no_message) in
    rw (first, second) refl

-- and those of other queues
pub swept_elsewhere : (id count : ℕ) (s : State) (key : RecordKey) → key.queue ≢ id →
    swept id count s key ≡ record_of s key
swept_elsewhere id count s key apart =
    let first : (key.queue == id && key.kind == TYPE) ≡ false = grind (arith, nat_tests, apart) in
    let second : (key.queue == id && key.kind == MESSAGE) ≡ false = grind (arith, nat_tests, apart) in
    rw (first, second) refl

module _ (id count : ℕ) (s : State) (q : Queue) (found : find (has_id id) s.queues ≡ Some q) where
  pub swept_type : (key : RecordKey) → key.queue ≡ id → key.kind ≡ TYPE →
      swept id count s key ≡ type_left count key.number q
  swept_type key its kind =
      let first : (key.queue == id && key.kind == TYPE) ≡ true = grind (arith, nat_tests, its, kind) in
      rw first (ap (λ (n : ℕ). option_and_then (type_left count key.number) (find (has_id n) s.queues)) its
      ∙ ap (option_and_then (type_left count key.number)) found)

  pub swept_message : (key : RecordKey) → key.queue ≡ id → key.kind ≡ MESSAGE →
      swept id count s key ≡ message_left count key.number q
  swept_message key its kind =
      let first : (key.queue == id && key.kind == TYPE) ≡ false = grind (arith, nat_tests, kind) in
      let second : (key.queue == id && key.kind == MESSAGE) ≡ true = grind (arith, nat_tests, its, kind) in
      rw (first, second) (ap (λ (n : ℕ). option_and_then (message_left count key.number) (find (has_id n) s.queues)) its
      ∙ ap (option_and_then (message_left count key.number)) found)

-- what is left stands as it did
pub swept_is : (id count : ℕ) (s : State) (key : RecordKey) (r : Record) → swept id count s key ≡ Some r →
    record_of s key ≡ Some r
swept_is id count s key r is = elim (by_test (key.queue == id && key.kind == TYPE) _ _ (Some r) is) [
  | inl (both, at) ↦
      let kind = eqb-true key.kind TYPE (both_true (key.queue == id) (key.kind == TYPE) both).1 in
      let (q, found, left) = chained (type_left count key.number) (find (has_id key.queue) s.queues) r at in
      kind_type s key kind ∙ ap (option_and_then (type_record key.number)) found
      ∙ (by_guard _ (type_record key.number q) r left).1
  | inr (_, more) ↦ elim (by_test (key.queue == id && key.kind == MESSAGE) _ _ (Some r) more) [
    | inl (both, at) ↦
        let kind = eqb-true key.kind MESSAGE (both_true (key.queue == id) (key.kind == MESSAGE) both).1 in
        let (q, found, left) = chained (message_left count key.number) (find (has_id key.queue) s.queues) r at in
        kind_message s key kind ∙ ap (option_and_then (message_record key.number)) found
        ∙ (by_guard _ (message_record key.number q) r left).1
    | inr (_, same) ↦ same
  ]
]
