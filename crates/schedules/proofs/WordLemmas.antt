-- Words taken off a line one by one.
use Rattle.std.proofs.Common.{◌≡◌, ℕ, ◌<◌, ◌≤◌, ◌+◌, ◌-◌, ◌==◌, not, cond, subst, Bool, true, false, List, [], ◌∷◌, ◌++◌, length, take, drop, get_or, Some, None, refl, sym, ap, ◌∙◌, arith, append_assoc, take-append-drop, length-take}
use Rattle.std.proofs.lemmas.Int.{clamps}
use Rattle.std.proofs.lemmas.List.{drop-drop, drop_more, get_or-take, take_all, take_rest}
use Rattle.std.proofs.lemmas.List.Elements.{All-from_get_or}
use Rattle.std.proofs.lemmas.List.Splits.{slice_split_at, slice_split_none}
use Rattle.std.specs.Borrow.{Bor}
use Rattle.std.specs.List.{All, slice_split}
use Rattle.memchr.specs.Find.{IsFirstByte, Nowhere, Passes, is_byte2}
use Rattle.schedules.specs.Words.{filled, is_blank, words_of, texts}

-- the words that are read, and those of the rest, are those of the text
abbrev pub AreWordsTo : List (Bor (List ℕ)) → List ℕ → List ℕ → Type 0
AreWordsTo words rest text = texts words ++ words_of rest ≡ words_of text

not_true : (b : Bool) → ¬ (b ≡ true) → b ≡ false
not_true true fails = absurd (fails refl)
not_true false fails = refl

-- before the first blank there is none
no_blank : (text : List ℕ) (end : ℕ) → end ≤ length text → Nowhere (Passes is_blank text) 0 end
    → All (λ byte. is_blank byte ≡ false) (take end text)
no_blank text end fits none = All-from_get_or (λ byte. is_blank byte ≡ false) (take end text) 0 (λ k below.
    let inside : k < end = omega (arith, clamps, below, length-take end text) in
    rw (get_or-take end text k 0 inside) (not_true (is_blank (get_or text k 0)) (none k (omega arith) inside)))

-- a word that may be empty ends at the first blank
first_part : (text : List ℕ) (end : ℕ) → IsFirstByte (is_byte2 32 9) text (Some end)
    → slice_split is_blank text ≡ take end text ∷ slice_split is_blank (drop (end + 1) text)
first_part text end first =
    let below = first.0.high in
    let parts : text ≡ take end text ++ get_or text end 0 ∷ drop (end + 1) text =
    sym (take-append-drop end text) ∙ ap (λ l. take end text ++ l) (drop_more text end 0 below) in
    ap (slice_split is_blank) parts
    ∙ slice_split_at is_blank _ _ _ (no_blank text end (omega (arith, below)) first.0.before) first.1

-- a part is kept or left out by itself
filled-cons : (part : List ℕ) (parts : List (List ℕ)) → filled (part ∷ parts) ≡ filled (part ∷ []) ++ filled parts
filled-cons part parts = by_test (not (length part == 0)) (filled parts)
  where
    by_test : (is_kept : Bool) (rest : List (List ℕ))
        → cond is_kept (part ∷ rest) rest ≡ cond is_kept (part ∷ []) [] ++ rest
    by_test true rest = refl
    by_test false rest = refl

-- what stands before the first blank is kept
pub AreWordsTo-more : (words more : List (Bor (List ℕ))) (rest after text : List ℕ) (end : ℕ)
    → IsFirstByte (is_byte2 32 9) rest (Some end) → texts more ≡ texts words ++ filled (take end rest ∷ [])
    → after ≡ drop end rest → AreWordsTo words rest text
    → AreWordsTo more (take (length after - 1) (drop 1 after)) text
AreWordsTo-more words more rest after text end first kept is are =
    let left : take (length after - 1) (drop 1 after) ≡ drop (end + 1) rest =
    take_rest after 1 ∙ ap (drop 1) is ∙ drop-drop 1 end rest in
    ap (λ l. texts more ++ words_of l) left
    ∙ ap (λ l. l ++ words_of (drop (end + 1) rest)) kept
    ∙ append_assoc (texts words) (filled (take end rest ∷ [])) (words_of (drop (end + 1) rest))
    ∙ sym (ap (λ l. texts words ++ filled l) (first_part rest end first)
    ∙ ap (λ l. texts words ++ l) (filled-cons (take end rest) (slice_split is_blank (drop (end + 1) rest))))
    ∙ are

-- where there is no blank, the rest is kept
pub AreWordsTo-all : (words more : List (Bor (List ℕ))) (rest text : List ℕ) → IsFirstByte (is_byte2 32 9) rest None
    → texts more ≡ texts words ++ filled (rest ∷ []) → AreWordsTo words rest text → texts more ≡ words_of text
AreWordsTo-all words more rest text none kept are =
    let whole : take (length rest) rest ≡ rest = take_all (length rest) rest (omega arith) in
    let before = no_blank rest (length rest) (omega arith) none in
    let fails = subst (λ l. All (λ byte. is_blank byte ≡ false) l) whole before in
    kept ∙ sym (ap (λ l. texts words ++ filled l) (slice_split_none is_blank rest fails)) ∙ are
