-- Rows and tables put together piece by piece.
use Rattle.std.proofs.Common.{◌≡◌, ◌∙◌, ◌<◌, ◌≤◌, ◌+◌, ◌^◌, ℕ, zero, suc, List, [], ◌∷◌, ◌++◌, Some, None, arith, length, take, get_or, map, slice_index_or, refl, sym, subst, ap, append_assoc, append-nil}
use Rattle.std.specs.Prelude.{slice_get}
use Rattle.std.specs.Option.{option_map}
use Rattle.std.proofs.lemmas.List.{take_more, map-append}
use Rattle.std.specs.List.{sum_by}
use Rattle.std.proofs.lemmas.List.Elements.{All-weaker}
use Rattle.std.proofs.lemmas.List.Sums.{sum_by-le, sum_by_more_le}
use Rattle.queue_model.specs.Lawful.{IsLawful, IsLawfulQueue}
use Rattle.queue_model.specs.Rules.{info_of}
use Rattle.queue_model.specs.Selection.{total_bytes}
use Rattle.queue_model.specs.State.{State}
use Rattle.queue_model.specs.declared.answer.QueueInfo.{QueueInfo}
use Rattle.queue_model.specs.declared.message.Message.{Message}
use Rattle.queue_model.specs.declared.queue.Queue.{Queue}
use Rattle.queue_commands.specs.Cells.{row_text, tabbed}
use Rattle.queue_commands.specs.Tables.{bytes_of, message_cells, message_rows, queue_cells, queue_rows}

-- two pieces put last, one after the other, are one
pub put-then : (a b c xs ys : List ℕ) → b ≡ a ++ xs → c ≡ b ++ ys → c ≡ a ++ (xs ++ ys)
put-then a b c xs ys first second = second ∙ ap (λ l. l ++ ys) first ∙ append_assoc a xs ys

-- ---- the front of a body

-- a list has as many elements as are taken of it
pub taken : (n : ℕ) (xs : List ℕ) → n ≤ length xs → n ≡ length (take n xs)
taken zero xs long = refl
taken (suc n) [] long = absurd (omega (arith, long))
taken (suc n) (x ∷ xs) long = ap suc (taken n xs (omega (arith, long)))

-- or is taken whole
pub whole : (n : ℕ) (xs : List ℕ) → length xs ≤ n → xs ≡ take n xs
whole zero [] short = refl
whole (suc n) [] short = refl
whole zero (x ∷ xs) short = absurd (omega (arith, short))
whole (suc n) (x ∷ xs) short = ap (λ l. x ∷ l) (whole n xs (omega (arith, short)))

-- ---- a row

tabbed-append : (xs ys : List (List ℕ)) → tabbed (xs ++ ys) ≡ tabbed xs ++ tabbed ys
tabbed-append [] ys = refl
tabbed-append (x ∷ xs) ys =
    ap (λ l. 9 ∷ x ++ l) (tabbed-append xs ys) ∙ ap (λ l. 9 ∷ l) (sym (append_assoc x (tabbed xs) (tabbed ys)))

-- one cell more
pub put-cell : {X : Type 0} (a b c d : List ℕ) (text : X → List ℕ) (cells : List X) (i : ℕ) (x : X) →
    i < length cells → b ≡ a ++ tabbed (map text (take i cells)) → c ≡ b ++ 9 ∷ [] →
    d ≡ c ++ text (get_or cells i x) → d ≡ a ++ tabbed (map text (take (i + 1) cells))
put-cell a b c d text cells i x below before tab cell =
    let word = text (get_or cells i x) in
    let more : tabbed (map text (take (i + 1) cells)) ≡ tabbed (map text (take i cells)) ++ (9 ∷ word) =
    ap (λ l. tabbed (map text l)) (take_more cells i x below)
    ∙ ap tabbed (map-append text (take i cells) (get_or cells i x ∷ []))
    ∙ tabbed-append (map text (take i cells)) (word ∷ [])
    ∙ ap (λ l. tabbed (map text (take i cells)) ++ 9 ∷ l) (append-nil word) in
    put-then a b d _ _ before (put-then b c d (9 ∷ []) word tab cell) ∙ ap (λ l. a ++ l) (sym more)

-- ---- tables

queue_rows-more : (queues : List Queue) (place : ℕ) (info : QueueInfo) →
    option_map info_of (slice_get queues place) ≡ Some info →
    queue_rows (take (suc place) queues) ≡ queue_rows (take place queues) ++ row_text (queue_cells info)
queue_rows-more [] place info is = absurd cc
queue_rows-more (queue ∷ queues) zero info is =
    let same : info_of queue ≡ info = cc in
    append-nil (row_text (queue_cells (info_of queue))) ∙ ap (λ i. row_text (queue_cells i)) same
queue_rows-more (queue ∷ queues) (suc place) info is =
    ap (λ text. row_text (queue_cells (info_of queue)) ++ text) (queue_rows-more queues place info is)
    ∙ sym (append_assoc (row_text (queue_cells (info_of queue))) (queue_rows (take place queues))
    (row_text (queue_cells info)))

-- one queue more
pub put-queue : (a b c : List ℕ) (queues : List Queue) (place : ℕ) (info : QueueInfo) →
    option_map info_of (slice_get queues place) ≡ Some info → b ≡ a ++ queue_rows (take place queues) →
    c ≡ b ++ row_text (queue_cells info) → c ≡ a ++ queue_rows (take (place + 1) queues)
put-queue a b c queues place info is before row =
    let next : place + 1 ≡ suc place = omega arith in
    put-then a b c _ _ before row
    ∙ ap (λ l. a ++ l) (sym (queue_rows-more queues place info is))
    ∙ ap (λ n. a ++ queue_rows (take n queues)) (sym next)

-- there is a queue at each place
pub no_queue : (queues : List Queue) (place : ℕ) → place < length queues →
    option_map info_of (slice_get queues place) ≡ None → ⊥
no_queue [] place below is = absurd (omega (arith, below))
no_queue (queue ∷ queues) zero below is = absurd cc
no_queue (queue ∷ queues) (suc place) below is = no_queue queues place (omega (arith, below)) is

message_rows-append : (xs ys : List Message) → message_rows (xs ++ ys) ≡ message_rows xs ++ message_rows ys
message_rows-append [] ys = refl
message_rows-append (x ∷ xs) ys =
    ap (λ l. row_text (message_cells x) ++ l) (message_rows-append xs ys)
    ∙ sym (append_assoc (row_text (message_cells x)) (message_rows xs) (message_rows ys))

-- one message more
pub put-message : (a b c : List ℕ) (ms : List Message) (place : ℕ) (m : Message) → place < length ms →
    m ≡ slice_index_or ms place m → b ≡ a ++ message_rows (take place ms) → c ≡ b ++ row_text (message_cells m) →
    c ≡ a ++ message_rows (take (place + 1) ms)
put-message a b c ms place m below is before row =
    let same : get_or ms place m ≡ m = sym is in
    let more : message_rows (take (place + 1) ms) ≡ message_rows (take place ms) ++ row_text (message_cells m) =
    ap message_rows (take_more ms place m below)
    ∙ message_rows-append (take place ms) (get_or ms place m ∷ [])
    ∙ ap (λ l. message_rows (take place ms) ++ l) (append-nil (row_text (message_cells (get_or ms place m))))
    ∙ ap (λ n. message_rows (take place ms) ++ row_text (message_cells n)) same in
    put-then a b c _ _ before row ∙ ap (λ l. a ++ l) (sym more)

-- ---- the bytes of queues

module _ (s : State) (lawful : IsLawful s) where
  few_bytes : (q : Queue) → IsLawfulQueue q → bytes_of q ≤ 65536
  few_bytes q is = is.few_bytes

  -- those of all queues fit a number
  pub bytes-most : sum_by bytes_of s.queues ≤ 16777216
  bytes-most =
      let most = sum_by-le bytes_of 65536 s.queues
      (All-weaker IsLawfulQueue (λ (q : Queue). bytes_of q ≤ 65536) few_bytes s.queues lawful.queues_lawful) in
      let few = lawful.few_queues in
      omega (arith, most, few)

  -- those so far, and those of one queue more
  pub bytes-more : (place : ℕ) (q : Queue) → place < length s.queues → q ≡ slice_index_or s.queues place q →
      sum_by bytes_of (take place s.queues) + total_bytes q.messages < 2 ^ 64
  bytes-more place q below is =
      let same : get_or s.queues place q ≡ q = sym is in
      let more = subst (λ (r : Queue). sum_by bytes_of (take place s.queues) + bytes_of r ≤ sum_by bytes_of s.queues)
      same (sum_by_more_le bytes_of s.queues place q below) in
      let most = bytes-most in
      omega (arith, more, most)
