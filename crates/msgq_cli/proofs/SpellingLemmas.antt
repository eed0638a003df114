-- Texts spelled into a room from its end on.
use Rattle.std.proofs.Common.{◌≡◌, ℕ, zero, suc, ◌<◌, ◌≤◌, ◌+◌, ◌-◌, ◌==◌, ◌&&◌, nat_lt, Bool, true, if◌then◌else◌, List, [], ◌∷◌, ◌++◌, length, take, drop, get_or, map, slice_index, slice_set, Option, Some, None, refl, sym, ap, ◌∙◌, subst, arith, append_assoc, inl, inr}
use Rattle.std.proofs.lemmas.Bool.{and_parts, cases_lt, eqb-true}
use Rattle.std.proofs.lemmas.List.{drop_at, drop-drop, drop_more, drop-set, length-take-le}
use Rattle.std.specs.Prelude.{IfSome}
use borrow.Rule.Slice.PartMut.{put_mid}
use Rattle.hex.specs.Hex.{lower_digits}
use Rattle.numbers.specs.Numbers.{overwritten}
use Rattle.msgq_cli.specs.Answers.{line_of}
use Rattle.msgq_cli.specs.Spelling.{IsSpelled}

-- a part from a start to an end was written
pub IsSpelled-part : (old text : List ℕ) (start long end : ℕ) → start + long ≡ end
    → start ≤ length old → IsSpelled text old (put_mid start long old text) end start
IsSpelled-part old text start long end sum within = record {
  within = omega (arith, sum);
  spelled =
      drop_at (take start old) (text ++ drop long (drop start old)) start
      (length-take-le start old within)
      ∙ ap (λ l. text ++ l) (drop-drop long start old ∙ ap (λ n. drop n old) sum);
}

-- a text was written over what stood there
pub IsSpelled-over : (old text : List ℕ) (start end : ℕ) → start + length text ≡ end
    → start ≤ length old → IsSpelled text old (overwritten old start text) end start
IsSpelled-over old text start end sum within = record {
  within = omega (arith, sum);
  spelled =
      ap (drop start) (append_assoc (take start old) text (drop (start + length text) old))
      ∙ drop_at (take start old) (text ++ drop (start + length text) old) start
      (length-take-le start old within)
      ∙ ap (λ n. text ++ drop n old) sum;
}

-- a text was spelled before a byte
pub IsSpelled-before : (text old new : List ℕ) (byte place end : ℕ) (start : Option ℕ)
    → place + 1 ≡ end → place < length old
    → IfSome start (IsSpelled text (slice_set old place byte) new place)
    → IfSome start (IsSpelled (text ++ byte ∷ []) old new end)
IsSpelled-before text old new byte place end None next below is = tt
IsSpelled-before text old new byte place end (Some start) next below is =
    let within = is.within in record {
      within = omega (arith, within, next);
      spelled =
          is.spelled
          ∙ ap (λ l. text ++ l) (drop-set old place byte below ∙ ap (λ n. byte ∷ drop n old) next)
          ∙ sym (append_assoc text (byte ∷ []) (drop end old));
    }

-- what stands behind a word, before these: a space (32), or an LF (10) where there is none
abbrev pub byte_before : List (List ℕ) → ℕ
byte_before [] = 10
byte_before (text ∷ texts) = 32

-- the line of these, if there are any
abbrev pub line_from : List (List ℕ) → List ℕ
line_from [] = []
line_from (text ∷ texts) = line_of (text ∷ texts)

line_from-cons : (text : List ℕ) (texts : List (List ℕ)) →
    text ++ byte_before texts ∷ line_from texts ≡ line_of (text ∷ texts)
line_from-cons text [] = refl
line_from-cons text (next ∷ texts) = refl

-- these were spelled, to the end of the room
pub record AreSpelled (texts : List (List ℕ)) (room : List ℕ) (start behind : ℕ) : Type 0 where
  pub within : start ≤ length room
  pub next : behind ≡ byte_before texts
  pub spelled : drop start room ≡ line_from texts

-- one more in front of them
AreSpelled-cons : (texts : List (List ℕ)) (text room new : List ℕ) (start first behind : ℕ)
    → length new ≡ length room → AreSpelled texts room start behind
    → IsSpelled (text ++ behind ∷ []) room new start first → AreSpelled (text ∷ texts) new first 32
AreSpelled-cons texts text room new start first behind long are is =
    let ends = are.within in
    let begins = is.within in record {
      within = omega (arith, ends, begins, long);
      next = refl;
      spelled =
          is.spelled ∙ append_assoc text (behind ∷ []) (drop start room)
          ∙ ap (λ b. text ++ b ∷ drop start room) are.next
          ∙ ap (λ l. text ++ byte_before texts ∷ l) are.spelled ∙ line_from-cons text texts;
    }

pub AreSpelled-more : {X : Type 0} (text : X → List ℕ) (words : List X) (left : ℕ) (word : X)
    (room new : List ℕ) (start first behind : ℕ) → 0 < left → left ≤ length words
    → length new ≡ length room
    → AreSpelled (map text (drop left words)) room start behind
    → IsSpelled (text (get_or words (left - 1) word) ++ behind ∷ []) room new start first
    → AreSpelled (map text (drop (left - 1) words)) new first 32
AreSpelled-more text words left word room new start first behind some within long are spelled =
    let next : left - 1 + 1 ≡ left = omega (arith, some) in
    let rest = drop_more words (left - 1) word (omega (arith, some, within))
    ∙ ap (λ n. get_or words (left - 1) word ∷ drop n words) next in
    subst (λ ws. AreSpelled (map text ws) new first 32) (sym rest)
    (AreSpelled-cons (map text (drop left words)) (text (get_or words (left - 1) word)) room new
    start first behind long are spelled)

-- the digit of a value
abbrev digit_of : ℕ → ℕ
digit_of value = if nat_lt value 10 then 48 + value else 87 + value

abbrev are_digits : ℕ → Bool
are_digits zero = true
are_digits (suc n) = (slice_index lower_digits n == digit_of n) && are_digits n

digits_below : (n value : ℕ) → are_digits n ≡ true → value < n
    → slice_index lower_digits value ≡ digit_of value
digits_below zero value are below = absurd (omega (arith, below))
digits_below (suc n) value are below =
    let parts = and_parts (slice_index lower_digits n == digit_of n) (are_digits n) are in
    elim (cases_lt value n) [
      | inl lower ↦ digits_below n value parts.1 lower
      | inr top ↦
          let is : value ≡ n = omega (arith, below, top) in
          rw is (eqb-true (slice_index lower_digits n) (digit_of n) parts.0)
    ]
