-- A change of one queue leaves the records of the others.
use Rattle.std.proofs.Common.{◌≡◌, ℕ, Bool, true, false, cond, Option, Some, None, refl, sym, ap, ◌∙◌, arith}
use Rattle.std.specs.Prelude.{◌==◌, ◌≢◌, not, option_map, option_and_then}
use Rattle.std.specs.List.{All, find}
use Rattle.std.proofs.lemmas.Bool.{eqb-true}
use Rattle.std.proofs.lemmas.Bool.Decides.{nat_tests}
use Rattle.queue_records.specs.bucket_page.declared.record_key.RecordKey.{RecordKey}
use Rattle.queue_model.specs.declared.queue.Queue.{Queue}
use Rattle.queue_model.specs.Rules.{has_id, has_key, is_key}
use Rattle.queue_model.specs.State.{State}
use Rattle.queue_records.specs.declared.layout.TheConstants.{COUNTER, KEY, QUEUE, TYPE, MESSAGE}
use Rattle.queue_records.specs.declared.record.Record.TheVariants as records
use Rattle.type_chains.specs.Entries.{key_entry, queue_entry}
use Rattle.type_chains.specs.Others.{IsElsewhere, IsNoKeyOf, others}
use Rattle.type_chains.specs.RecordOf.{type_record, message_record, record_of}
use Rattle.type_chains.proofs.Tests.{find_filter}

-- a queue with another key is passed over
passes_key : (key : ℕ) (has : Option ℕ) → has ≢ Some key → is_key key has ≡ false
passes_key key None other = refl
passes_key key (Some k) other = by (k == key) refl
  where
    by : (b : Bool) → (k == key) ≡ b → (k == key) ≡ false
    by true e = absurd (other (ap Some (eqb-true k key e)))
    by false e = e

module _ (id : ℕ) (s t : State) (same : others id s ≡ others id t) where
  -- the queue of another id is found among the others
  same_by_id : (other : ℕ) → other ≢ id → find (has_id other) s.queues ≡ find (has_id other) t.queues
  same_by_id other apart =
      sym (find_filter (has_id other) (λ (q : Queue). not (q.id == id)) s.queues
      (λ k d within out. grind (arith, nat_tests)))
      ∙ ap (find (has_id other)) same
      ∙ find_filter (has_id other) (λ (q : Queue). not (q.id == id)) t.queues
      (λ k d within out. grind (arith, nat_tests))

  no_key : (key : ℕ) (u : State) → IsNoKeyOf id key u →
      All (λ (q : Queue). not (q.id == id) ≡ false → has_key key q ≡ false) u.queues
  no_key key u none k d within out =
      passes_key key _ (none k d within (grind (arith, nat_tests)))

  -- so is that of another queue's key
  same_by_key : (key : ℕ) → IsNoKeyOf id key s → IsNoKeyOf id key t →
      find (has_key key) s.queues ≡ find (has_key key) t.queues
  same_by_key key before after =
      sym (find_filter (has_key key) (λ (q : Queue). not (q.id == id)) s.queues (no_key key s before))
      ∙ ap (find (has_key key)) same
      ∙ find_filter (has_key key) (λ (q : Queue). not (q.id == id)) t.queues (no_key key t after)

  -- at a queue's key
  at_a_key : (key : RecordKey) → key.kind ≡ KEY → IsElsewhere id s t key → record_of s key ≡ record_of t key
  at_a_key key kind is =
      let key_kind : (key.kind == KEY) ≡ true = grind (arith, nat_tests) in
      let no_counter : (key.kind == COUNTER) ≡ false = grind (arith, nat_tests) in
      rw (no_counter, key_kind) (ap
      (λ (o : Option Queue). cond (key.queue == 0)
      (option_map (λ (q : Queue). records.Key (key_entry key.number q)) o) None)
      (same_by_key key.number (is.key_before kind) (is.key_after kind)))

  -- at a key with another queue's id
  at_an_id : (key : RecordKey) → key.kind ≢ KEY → IsElsewhere id s t key → record_of s key ≡ record_of t key
  at_an_id key kind is =
      let no_key_kind : (key.kind == KEY) ≡ false = grind (arith, nat_tests) in
      let counter : key.kind ≢ COUNTER = is.no_counter in
      let no_counter : (key.kind == COUNTER) ≡ false = grind (arith, nat_tests) in
      rw (no_counter, no_key_kind) (ap
      (λ (o : Option Queue). cond (key.kind == QUEUE)
      (cond (key.number == 0) (option_map (λ (q : Queue). records.Queue (queue_entry q)) o) None)
      (cond (key.kind == TYPE) (option_and_then (type_record key.number) o)
      (cond (key.kind == MESSAGE) (option_and_then (message_record key.number) o) None)))
      (same_by_id key.queue (is.other_id kind)))

  pub agree_elsewhere : (key : RecordKey) → IsElsewhere id s t key → record_of s key ≡ record_of t key
  agree_elsewhere key is = by (key.kind == KEY) refl
    where
      by : (b : Bool) → (key.kind == KEY) ≡ b → record_of s key ≡ record_of t key
      by true e = at_a_key key (eqb-true key.kind KEY e) is
      by false e = at_an_id key (grind (arith, nat_tests)) is
