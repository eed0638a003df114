-- The records of a queue, and of all queues of a system, are put into a file one after the other.
use Rattle.std.proofs.Common.{◌≡◌, ◌<◌, ◌≤◌, ◌+◌, ◌*◌, ℕ, suc, Bool, true, false, List, [], length, map, inl, Option, Some, None, Result, Ok, Err, IfErr, refl, sym, ap, subst, ◌∙◌, arith}
use Rattle.std.specs.Prelude.{◌⊎◌, OnOk, option_to_list, slice_index_or}
use Rattle.std.specs.List.{Contains}
use Rattle.std.proofs.lemmas.List.{get_or_default}
use Rattle.std.proofs.lemmas.Option.{none-some}
use Rattle.bucket_page.specs.Keys.{is_same}
use Rattle.bucket_page.specs.declared.record_key.RecordKey.{RecordKey}
use Rattle.bucket_page.proofs.KeyLaws.{same_is}
use Rattle.buffer_pool.specs.Pool.{PoolState}
use Rattle.queue_model.specs.State.{State}
use Rattle.queue_model.specs.Lawful.{IsLawful, IsLawfulQueue}
use Rattle.queue_model.specs.declared.message.Message.{Message}
use Rattle.queue_model.specs.declared.queue.Queue.{Queue}
use Rattle.queue_records.specs.Range.{IsInRange}
use Rattle.queue_records.specs.Spelling.{counter_key, key_of}
use Rattle.queue_records.specs.declared.record.Record.{Record}
use Rattle.queue_records.specs.declared.record.Record.TheVariants as records
use Rattle.type_chains.specs.Entries.{key_entry}
use Rattle.type_chains.specs.Image.{image, queue_records}
use Rattle.type_chains.proofs.Members.{contains_head}
use Rattle.type_chains.proofs.Owners.{tells_queue}
use Rattle.type_chains.proofs.Unique.{pairs_unmap}
use Rattle.migration.specs.Filling.{HoldsOnly, IsFilling, IsNew, IsOpen, IsPart, LacksQueue, MayNotFill, MayNotPut, Puts, held_in, turn_of}
use Rattle.migration.specs.Rooms.{IsOfSystem}
use Rattle.migration.specs.declared.fault.MakingFault.{MakingFault}
use Rattle.migration.proofs.PartLemmas.{held_still, keyed_in, not_counter, not_itself, of_image, part_still, ranged, told_still}

-- what is so of an answer, or of a fault

pub on_ok : {T E A B : Type 0} (r : Result T E) → (A → B) → OnOk r A → OnOk r B
on_ok (Ok value) f x = f x
on_ok (Err fault) f x = tt

pub if_err : {T E : Type 0} {A B : E → Type 0} (r : Result T E) → ((e : E) → A e → B e) → IfErr r A → IfErr r B
if_err (Ok value) f x = tt
if_err (Err fault) f x = f fault x

-- ---- one queue

pub key_there : (q : Queue) (k : ℕ) → q.key ≡ Some k → Contains (queue_records q) (records.Key (key_entry k q))
key_there q k has = keyed_in q (records.Key (key_entry k q))
    (subst (λ (o : Option ℕ). Contains (map (λ (k : ℕ). records.Key (key_entry k q)) (option_to_list o))
    (records.Key (key_entry k q))) (sym has) (contains_head (records.Key (key_entry k q)) []))

pub begun_filling : (hash : RecordKey → ℕ) (s : State) (q : Queue) (pool : PoolState) → IsOpen hash s q pool →
    (turn : ℕ) → IsFilling hash s q turn pool pool
begun_filling hash s q pool free turn = record {
  part = free.part;
  lacks = λ r has later. free.lacks r has;
  others = λ r its not. refl;
}

pub ended_filling : (hash : RecordKey → ℕ) (s : State) (q : Queue) (turn : ℕ) (start pool : PoolState) →
    IsFilling hash s q turn start pool → HoldsOnly hash s q start pool
ended_filling hash s q turn start pool f = record { part = f.part; others = f.others }

pub later_filling : (hash : RecordKey → ℕ) (s : State) (q : Queue) (turn later : ℕ) (start pool : PoolState) →
    turn ≤ later → IsFilling hash s q turn start pool → IsFilling hash s q later start pool
later_filling hash s q turn later start pool less f = record {
  part = f.part;
  lacks = λ r has from. f.lacks r has (omega (arith, less, from));
  others = f.others;
}

module _ (hash : RecordKey → ℕ) (s : State) (lawful : IsLawful s) (q : Queue) (stands : Contains s.queues q)
    (r : Record) (has : Contains (queue_records q) r) where
  its : Contains (image s) r
  its = of_image s lawful q r stands has

  pub in_range : IsInRange r
  in_range = ranged s lawful r its

  module _ (turn : ℕ) (start old : PoolState) (before : turn ≤ turn_of r) (f : IsFilling hash s q turn start old)
    where
      pub next_open : held_in old (key_of r) ≡ None
      next_open = f.lacks r has before

      pub next_put : (new : PoolState) → Puts hash r old new → IsFilling hash s q (suc (turn_of r)) start new
      next_put new puts = record {
        part = part_still s lawful hash r old new its (not_counter q r has) f.part puts;
        lacks = λ other there later.
            held_still s lawful hash r old new its (not_counter q r has) f.part puts other
            (of_image s lawful q other stands there)
            (λ same. let turns = ap turn_of same in absurd (omega (arith, turns, later)))
            ∙ f.lacks other there (omega (arith, before, later));
        others = λ other there not.
            held_still s lawful hash r old new its (not_counter q r has) f.part puts other there
            (λ same. not (subst (Contains (queue_records q)) same has))
            ∙ f.others other there not;
      }

      pub next_told : (pages : ℕ) → length old.images ≡ pages → (fault : MakingFault) → MayNotPut hash r old fault →
          MayNotFill hash pages s fault
      next_told pages as_many fault told = subst (λ n. MayNotFill hash n s fault) as_many
          (told_still s lawful hash r old old its (not_counter q r has) f.part fault told)

-- up to the message at a place
pub record IsUpTo (hash : RecordKey → ℕ) (s : State) (q : Queue) (place : ℕ) (start pool : PoolState) : Type 0 where
  pub turn : ℕ
  pub filling : IsFilling hash s q turn start pool
  pub before : (n : ℕ) (d : Message) → place ≤ n → n < length q.messages →
      turn ≤ 2 + 2 * (slice_index_or q.messages n d).serial

pub first_message : (hash : RecordKey → ℕ) (s : State) (q : Queue) (start pool : PoolState) →
    IsFilling hash s q 2 start pool → IsUpTo hash s q 0 start pool
first_message hash s q start pool f = record { turn = 2; filling = f; before = λ n d from within. omega arith }

pub next_message : (hash : RecordKey → ℕ) (s : State) (q : Queue) (place : ℕ) (start pool : PoolState) (m : Message) →
    IsLawfulQueue q → m ≡ slice_index_or q.messages place m → place < length q.messages → (serial : ℕ) →
    serial ≡ m.serial → IsFilling hash s q (suc (3 + 2 * serial)) start pool → IsUpTo hash s q (place + 1) start pool
next_message hash s q place start pool m lawful at inside serial same f = record {
  turn = suc (3 + 2 * serial);
  filling = f;
  before = λ n d from within.
      let ascend = lawful.serials_ascend place n d (omega (arith, from)) within in
      let here : (slice_index_or q.messages place d).serial ≡ m.serial =
      ap (λ (x : Message). x.serial) (get_or_default q.messages place d m inside ∙ sym at) in
      omega (arith, ascend, here, same);
}

-- ---- all queues

-- those from a place on are not there
pub record IsUpToQueue (hash : RecordKey → ℕ) (s : State) (place : ℕ) (pool : PoolState) : Type 0 where
  pub part : IsPart hash s pool
  pub lacks : (n : ℕ) (d : Queue) → place ≤ n → n < length s.queues → LacksQueue (slice_index_or s.queues n d) pool

module _ (hash : RecordKey → ℕ) (s : State) (lawful : IsLawful s) where
  pub first_queue : (pool : PoolState) → IsNew hash pool → IsUpToQueue hash s 0 pool
  first_queue pool new = record {
    part = record { rest = new.rest; counter = new.counter; just = λ key value at. just key value at };
    lacks = λ n d from within r has. new.none (key_of r) (not_counter (slice_index_or s.queues n d) r has);
  }
    where
      just : (key : RecordKey) (value : List ℕ) → held_in pool key ≡ Some value →
          (counter_key ≡ key) ⊎ IsOfSystem s key value
      just key value at = by (is_same counter_key key) refl
        where
          by : (same : Bool) → is_same counter_key key ≡ same → (counter_key ≡ key) ⊎ IsOfSystem s key value
          by true is = inl (same_is counter_key key is)
          by false is =
              let none = new.none key (λ same. absurd (not_itself key (subst (λ (k : RecordKey). is_same k key ≡ false)
              same is))) in
              absurd (none-some value (sym none ∙ at))

  module _ (place : ℕ) (q : Queue) (old : PoolState) (at : q ≡ slice_index_or s.queues place q)
      (inside : place < length s.queues) (u : IsUpToQueue hash s place old) where
    pub queue_stands : Contains s.queues q
    queue_stands = (place, inside, sym at)

    pub queue_open : IsOpen hash s q old
    queue_open = record {
      part = u.part;
      lacks = subst (λ (x : Queue). LacksQueue x old) (sym at) (u.lacks place q (omega arith) inside);
    }

    pub next_queue : (new : PoolState) → HoldsOnly hash s q old new → IsUpToQueue hash s (place + 1) new
    next_queue new holds = record {
      part = holds.part;
      lacks = λ n d from within r has.
          let other : Queue = slice_index_or s.queues n d in
          let there : Contains s.queues other = (n, within, get_or_default s.queues n other d within) in
          holds.others r (of_image s lawful other r there has) (λ its. apart n d from within r has its)
          ∙ u.lacks n d (omega (arith, from)) within r has;
    }
      where
        apart : (n : ℕ) (d : Queue) → place + 1 ≤ n → n < length s.queues → (r : Record) →
            Contains (queue_records (slice_index_or s.queues n d)) r → Contains (queue_records q) r → ⊥
        apart n d from within r has its =
            let other : Queue = slice_index_or s.queues n d in
            let there : Contains s.queues other = (n, within, get_or_default s.queues n other d within) in
            let same : q ≡ other = tells_queue s lawful q other r r queue_stands there its has refl in
            let ascend = pairs_unmap (λ (x : Queue). x.id) (λ (a b : ℕ). a < b) s.queues lawful.ids_ascend place n d
            (omega (arith, from)) within in
            let here = ap (λ (x : Queue). x.id) (get_or_default s.queues place d q inside ∙ sym at ∙ same) in
            omega (arith, ascend, here)
