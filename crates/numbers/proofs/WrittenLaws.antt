-- Bytes that are written over, and one number of many.
use Rattle.std.proofs.Common.{◌≡◌, ℕ, zero, suc, ◌+◌, ◌*◌, ◌<◌, List, [], ◌∷◌, ◌++◌, length, take, drop, slice_set, append_assoc, refl, sym, ap, ◌∙◌, arith}
use Rattle.std.proofs.lemmas.List.{take_at, drop_at, drop-drop}
use Rattle.std.proofs.Math.Seq.{take-append-add, drop-append-add}
use Rattle.numbers.specs.Numbers.{four, numbers_bytes, overwritten}
use Rattle.numbers.proofs.NumberLaws.{length-four}

-- bytes between a front and a back are written over
pub written_between : (f old new b : List ℕ) (at : ℕ) → length f ≡ at → length old ≡ length new
    → overwritten (f ++ (old ++ b)) at new ≡ f ++ (new ++ b)
written_between f old new b at len same =
    let front = take_at f (old ++ b) at len in
    let back : drop (at + length new) (f ++ (old ++ b)) ≡ b =
    sym (drop-drop (length new) at (f ++ (old ++ b))) ∙ ap (drop (length new)) (drop_at f (old ++ b) at len)
    ∙ drop_at old b (length new) same in
    (λ i. front i ++ new ++ back i) ∙ append_assoc f new b

-- what is written behind a part leaves it
pub written_behind : (p q new : List ℕ) (at : ℕ) → overwritten (p ++ q) (length p + at) new
    ≡ p ++ overwritten q at new
written_behind p q new at =
    let front = take-append-add p q at in
    let end : length p + at + length new ≡ length p + (at + length new) = omega arith in
    let back : drop (length p + at + length new) (p ++ q) ≡ drop (at + length new) q =
    ap (λ (k : ℕ). drop k (p ++ q)) end ∙ drop-append-add p q (at + length new) in
    (λ i. front i ++ new ++ back i)
    ∙ ap (λ (xs : List ℕ). xs ++ drop (at + length new) q) (append_assoc p (take at q) new)
    ∙ append_assoc p (take at q ++ new) (drop (at + length new) q)

-- one number of many is written, with bytes behind them
pub number_written : (ns rest : List ℕ) (slot number : ℕ) → slot < length ns
    → overwritten (numbers_bytes ns ++ rest) (4 * slot) (four number) ≡ numbers_bytes (slice_set ns slot number) ++ rest
number_written [] rest slot number within = absurd (omega (arith, within))
number_written (n ∷ ns) rest zero number within =
    ap (λ (xs : List ℕ). overwritten xs 0 (four number)) (append_assoc (four n) (numbers_bytes ns) rest)
    ∙ written_between [] (four n) (four number) (numbers_bytes ns ++ rest) 0 refl
    (length-four n ∙ sym (length-four number))
    ∙ sym (append_assoc (four number) (numbers_bytes ns) rest)
number_written (n ∷ ns) rest (suc slot) number within =
    let next : 4 * suc slot ≡ length (four n) + 4 * slot = omega (arith, length-four n) in
    (λ i. overwritten (append_assoc (four n) (numbers_bytes ns) rest i) (next i) (four number))
    ∙ written_behind (four n) (numbers_bytes ns ++ rest) (four number) (4 * slot)
    ∙ ap (λ (xs : List ℕ). four n ++ xs) (number_written ns rest slot number (omega (arith, within)))
    ∙ sym (append_assoc (four n) (numbers_bytes (slice_set ns slot number)) rest)
