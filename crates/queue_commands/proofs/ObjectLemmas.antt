-- Objects put together one by one, and how deep they nest.
use Rattle.std.proofs.Common.{false, ℤ, pos, negsuc, ◌≡◌, ◌∙◌, ◌<◌, ◌≤◌, ◌+◌, ℕ, zero, suc, List, [], ◌∷◌, ◌++◌, Option, Some, None, arith, length, take, get_or, map, slice_index_or, refl, sym, ap}
use Rattle.std.specs.Prelude.{slice_get}
use Rattle.std.specs.Option.{option_map}
use Rattle.std.proofs.lemmas.Int.{clamps}
use Rattle.std.proofs.lemmas.List.{take_more, map-append}
use Rattle.queue_model.specs.Rules.{info_of}
use Rattle.queue_model.specs.declared.answer.QueueInfo.{QueueInfo}
use Rattle.queue_model.specs.declared.message.Message.{Message}
use Rattle.queue_model.specs.declared.queue.Queue.{Queue}
use Rattle.queue_model.specs.State.{State}
use Rattle.serde_json.specs.Data.{Data, depth, items_depth}
use Rattle.serde_json.specs.Find.{is_float, of_integer}
use Rattle.serde_json.specs.Written.{has_float, items_have_float}
use Rattle.serde_json.specs.View.{items_of, view}
use Rattle.serde_json.specs.declared.value.Value.{Value}
use Rattle.queue_commands.specs.Json.{IsPlain, info_data, key_data, message_data, messages_data, queue_data, queues_data}

-- one value more
views-push : (before after : List Value) (v : Value) (ds : List Data) (d : Data) → map view before ≡ ds →
    after ≡ before ++ v ∷ [] → view v ≡ d → map view after ≡ ds ++ d ∷ []
views-push before after v ds d first pushed is =
    ap (map view) pushed ∙ map-append view before (v ∷ []) ∙ ap (λ l. l ++ view v ∷ []) first
    ∙ ap (λ e. ds ++ e ∷ []) is

queues-more : (queues : List Queue) (place : ℕ) (info : QueueInfo) →
    option_map info_of (slice_get queues place) ≡ Some info →
    map queue_data (take (suc place) queues) ≡ map queue_data (take place queues) ++ info_data info ∷ []
queues-more [] place info is = absurd cc
queues-more (queue ∷ queues) zero info is =
    let same : info_of queue ≡ info = cc in
    ap (λ i. info_data i ∷ []) same
queues-more (queue ∷ queues) (suc place) info is = ap (λ l. queue_data queue ∷ l) (queues-more queues place info is)

-- one queue more
pub push-queue : (before after : List Value) (v : Value) (queues : List Queue) (place : ℕ) (info : QueueInfo) →
    option_map info_of (slice_get queues place) ≡ Some info →
    map view before ≡ map queue_data (take place queues) → after ≡ before ++ v ∷ [] → view v ≡ info_data info →
    map view after ≡ map queue_data (take (place + 1) queues)
push-queue before after v queues place info is first pushed seen =
    let next : place + 1 ≡ suc place = omega arith in
    views-push before after v _ (info_data info) first pushed seen
    ∙ sym (queues-more queues place info is) ∙ ap (λ n. map queue_data (take n queues)) (sym next)

-- one message more
pub push-message : (before after : List Value) (v : Value) (ms : List Message) (place : ℕ) (m : Message) →
    place < length ms → m ≡ slice_index_or ms place m → map view before ≡ map message_data (take place ms) →
    after ≡ before ++ v ∷ [] → view v ≡ message_data m → map view after ≡ map message_data (take (place + 1) ms)
push-message before after v ms place m below is first pushed seen =
    let same : get_or ms place m ≡ m = sym is in
    let more : map message_data (take (place + 1) ms) ≡ map message_data (take place ms) ++ message_data m ∷ [] =
    ap (map message_data) (take_more ms place m below)
    ∙ map-append message_data (take place ms) (get_or ms place m ∷ [])
    ∙ ap (λ n. map message_data (take place ms) ++ message_data n ∷ []) same in
    views-push before after v _ (message_data m) first pushed seen ∙ sym more

-- ---- they have no float, and are not deep

key_flat : (key : Option ℕ) → depth (key_data key) ≡ 0
key_flat None = refl
key_flat (Some key) = refl

info_depth : (i : QueueInfo) → depth (info_data i) ≡ 2
info_depth i = rw (key_flat i.key) refl

queues_depth : (queues : List Queue) → items_depth (items_of (map queue_data queues)) ≤ 2
queues_depth [] = omega arith
queues_depth (queue ∷ queues) =
    let rest = queues_depth queues in
    let first = info_depth (info_of queue) in
    omega (arith, clamps, rest, first)

messages_depth : (ms : List Message) → items_depth (items_of (map message_data ms)) ≤ 1
messages_depth [] = omega arith
messages_depth (m ∷ ms) =
    let rest = messages_depth ms in
    let first : depth (message_data m) ≡ 1 = refl in
    omega (arith, clamps, rest, first)

key_whole : (key : Option ℕ) → has_float (key_data key) ≡ false
key_whole None = refl
key_whole (Some key) = refl

type_whole : (t : ℤ) → is_float (of_integer t) ≡ false
type_whole (pos n) = refl
type_whole (negsuc n) = refl

info_whole : (i : QueueInfo) → has_float (info_data i) ≡ false
info_whole i = rw (key_whole i.key) refl

message_whole : (m : Message) → has_float (message_data m) ≡ false
message_whole m = rw (type_whole m.mtype) refl

queues_whole : (queues : List Queue) → items_have_float (items_of (map queue_data queues)) ≡ false
queues_whole [] = refl
queues_whole (queue ∷ queues) = rw (info_whole (info_of queue)) (queues_whole queues)

messages_whole : (ms : List Message) → items_have_float (items_of (map message_data ms)) ≡ false
messages_whole [] = refl
messages_whole (m ∷ ms) = rw (message_whole m) (messages_whole ms)

pub queues_plain : (s : State) → IsPlain (queues_data s)
queues_plain s =
    let deep = queues_depth s.queues in
    record { whole = rw (queues_whole s.queues) refl; flat = omega (arith, clamps, deep) }

pub messages_plain : (i : QueueInfo) (ms : List Message) → IsPlain (messages_data i ms)
messages_plain i ms =
    let deep = messages_depth ms in
    let queue = info_depth i in
    record {
      whole = rw (messages_whole ms, info_whole i) refl;
      flat = omega (arith, clamps, deep, queue);
    }
