-- How long answers are, and what stands behind others once their parts are put one by one.
use Rattle.std.proofs.Common.{◌≡◌, ℕ, ◌+◌, List, [], ◌∷◌, ◌++◌, length, refl, sym, ap, ◌∙◌, arith}
use Rattle.std.proofs.lemmas.List.{append-nil, append_assoc, length-append}
use Rattle.queue_model.specs.declared.answer.Answer.{Answer}
use Rattle.queue_model.specs.declared.answer.Answer.TheVariants as answers
use Rattle.queue_model.specs.declared.answer.QueueInfo.{QueueInfo}
use Rattle.queue_model.specs.declared.message.Message.{Message}
use Rattle.queue_model.specs.Errnos.{number_of}
use Rattle.frames.specs.declared.reply.Counts.{Counts}
use Rattle.frames.specs.declared.reply.Reply.{Reply}
use Rattle.frames.specs.declared.reply.Reply.TheVariants as replies
use Rattle.frames.specs.Little.{four, eight}
use Rattle.frames.specs.Frames.{joined}
use Rattle.frames.specs.Answers.{answer_len, answer_parts, appended, counts_parts, message_parts, reply_len, reply_parts, stat_parts, told}
use Rattle.frames.proofs.LittleLaws.{length-two, length-four, length-eight}

-- ---- lengths

length_code : (a b : ℕ) (parts : List (List ℕ))
    → length (joined (four a ∷ four b ∷ parts)) ≡ 8 + length (joined parts)
length_code a b parts =
    length-append (four a) (four b ++ joined parts)
    ∙ (λ i. length-four a i + length-append (four b) (joined parts) i)
    ∙ ap (λ (n : ℕ). 4 + (n + length (joined parts))) (length-four b)
    ∙ omega arith

length_message : (m : Message) → length (joined (message_parts m)) ≡ 24 + length m.bytes
length_message m = simp (length-append, length-eight, length-four, append-nil) (omega arith)

length_stat : (q : QueueInfo) → length (joined (stat_parts q)) ≡ 72
length_stat q = simp (length-append, length-eight, length-four, length-two, append-nil) refl

length_counts : (c : Counts) → length (joined (counts_parts c)) ≡ 40
length_counts c = simp (length-append, length-eight, length-four, append-nil) refl

length_alone : (a b : ℕ) → length (joined (four a ∷ four b ∷ [])) ≡ 8
length_alone a b = length_code a b []

answer_is : (a : Answer) → length (joined (answer_parts a)) ≡ answer_len a
answer_is (answers.Id id) = length_alone 0 id
answer_is (answers.Sent serial) =
    length_code 0 0 (eight serial ∷ []) ∙ ap (λ (xs : List ℕ). 8 + length xs) (append-nil (eight serial))
    ∙ ap (λ (n : ℕ). 8 + n) (length-eight serial)
answer_is (answers.Received m) =
    length_code 0 (length m.bytes) (message_parts m) ∙ omega (arith, length_message m)
answer_is (answers.Info q) = length_code 0 0 (stat_parts q) ∙ ap (λ (n : ℕ). 8 + n) (length_stat q)
answer_is answers.Done = length_alone 0 0
answer_is (answers.Refused errno) = length_alone (number_of errno) 0

reply_is : (r : Reply) → length (joined (reply_parts r)) ≡ reply_len r
reply_is (replies.Answer answer) = answer_is answer.now
reply_is (replies.Held id message) =
    length_code 0 id (message_parts message.now) ∙ omega (arith, length_message message.now)
reply_is (replies.Number code value) = length_alone code value
reply_is (replies.Info counts) =
    length_code 0 0 (counts_parts counts.now) ∙ ap (λ (n : ℕ). 8 + n) (length_counts counts.now)

-- ---- parts one by one

pub regrouped : (front : List ℕ) (parts : List (List ℕ)) → appended front parts ≡ front ++ joined parts
regrouped front [] = sym (append-nil front)
regrouped front (part ∷ parts) = regrouped (front ++ part) parts ∙ append_assoc front part (joined parts)

pub told_is : (front : List ℕ) (len connection number : ℕ) (reply : Reply)
    → len ≡ 8 + reply_len reply
    → appended front (four len ∷ four connection ∷ four number ∷ reply_parts reply)
    ≡ front ++ told connection number reply
told_is front len connection number reply is =
    let behind = joined (four connection ∷ four number ∷ reply_parts reply) in
    let size : length behind ≡ 8 + reply_len reply =
    length_code connection number (reply_parts reply) ∙ ap (λ (n : ℕ). 8 + n) (reply_is reply) in
    regrouped front (four len ∷ four connection ∷ four number ∷ reply_parts reply)
    ∙ ap (λ (n : ℕ). front ++ (four n ++ behind)) (is ∙ sym size)

-- the same where each part was put behind what stood there
pub put_is : (front kept counted whose asked new : List ℕ) (len connection number : ℕ) (reply : Reply)
    → kept ≡ front → counted ≡ kept ++ four len → whose ≡ counted ++ four connection
    → asked ≡ whose ++ four number → new ≡ appended asked (reply_parts reply)
    → len ≡ 8 + reply_len reply → new ≡ front ++ told connection number reply
put_is front kept counted whose asked new len connection number reply a b d e is size =
    let first = b ∙ ap (λ (xs : List ℕ). xs ++ four len) a in
    let second = d ∙ ap (λ (xs : List ℕ). xs ++ four connection) first in
    let third = e ∙ ap (λ (xs : List ℕ). xs ++ four number) second in
    is ∙ ap (λ (xs : List ℕ). appended xs (reply_parts reply)) third
    ∙ told_is front len connection number reply size
