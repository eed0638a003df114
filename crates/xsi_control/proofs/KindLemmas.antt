-- Records compared kind by kind.
use Rattle.std.proofs.Common.{◌≡◌, ℕ, Bool, true, false, cond, refl, ap}
use Rattle.std.specs.Prelude.{◌==◌}
use Rattle.std.proofs.lemmas.Bool.{eqb-true}
use Rattle.xsi_control.specs.RemoveWords.{RecordKey, State, COUNTER, KEY, QUEUE, TYPE, MESSAGE, at_counter, at_key, at_queue, at_queue_of, type_record, message_record, record_of}

-- by a test
pub by_test : {X : Type 0} (b : Bool) (x y z : X) → (b ≡ true → x ≡ z) → (b ≡ false → y ≡ z) → cond b x y ≡ z
by_test true x y z first second = first refl
by_test false x y z first second = second refl

-- what a test lets choose is the same on both sides
pub alike : {X : Type 0} (b : Bool) (x y u v : X) → (b ≡ true → x ≡ u) → (b ≡ false → y ≡ v) → cond b x y ≡ cond b u v
alike true x y u v first second = first refl
alike false x y u v first second = second refl

-- two systems have the same at a key where they have it by the key's kind
pub record HasSame (s t : State) (key : RecordKey) : Type 0 where
  pub counter : key.kind ≡ COUNTER → at_counter s key ≡ at_counter t key
  pub of_key : key.kind ≡ KEY → at_key s key ≡ at_key t key
  pub queue : key.kind ≡ QUEUE → at_queue s key ≡ at_queue t key
  pub of_type : key.kind ≡ TYPE → at_queue_of type_record s key ≡ at_queue_of type_record t key
  pub message : key.kind ≡ MESSAGE → at_queue_of message_record s key ≡ at_queue_of message_record t key

pub same_record : (s t : State) (key : RecordKey) → HasSame s t key → record_of s key ≡ record_of t key
same_record s t key has =
    alike (key.kind == COUNTER) _ _ _ _ (λ e. has.counter (eqb-true key.kind COUNTER e)) (λ _.
    alike (key.kind == KEY) _ _ _ _ (λ e. has.of_key (eqb-true key.kind KEY e)) (λ _.
    alike (key.kind == QUEUE) _ _ _ _ (λ e. has.queue (eqb-true key.kind QUEUE e)) (λ _.
    alike (key.kind == TYPE) _ _ _ _ (λ e. has.of_type (eqb-true key.kind TYPE e)) (λ _.
    alike (key.kind == MESSAGE) _ _ _ _ (λ e. has.message (eqb-true key.kind MESSAGE e)) (λ _. refl)))))

-- the record at a key of a kind
pub kind_type : (s : State) (key : RecordKey) → key.kind ≡ TYPE → record_of s key ≡ at_queue_of type_record s key
kind_type s key kind = ap (λ (k : ℕ). record_of s (record { kind = k; queue = key.queue; number = key.number })) kind

pub kind_message : (s : State) (key : RecordKey) → key.kind ≡ MESSAGE →
    record_of s key ≡ at_queue_of message_record s key
kind_message s key kind = ap (λ (k : ℕ). record_of s (record { kind = k; queue = key.queue; number = key.number })) kind
