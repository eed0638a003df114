-- The lock that a seat was granted last.
use Rattle.std.proofs.Common.{◌≡◌, ◌-◌, ◌++◌, ◌∷◌, List, [], length, Some, refl, ap, ◌∙◌, arith}
use Rattle.std.proofs.lemmas.List.{length-append}
use Rattle.std.specs.Prelude.{slice_get}
use Rattle.call_writes.specs.WriteRuns.{last_of}
use Rattle.call_writes.specs.WriteWords.{Lock}

stands_behind : (xs : List Lock) (x : Lock) → slice_get (xs ++ x ∷ []) (length xs) ≡ Some x
stands_behind [] x = refl
stands_behind (y ∷ ys) x = stands_behind ys x

pub last_there : (xs : List Lock) (x : Lock) → last_of (xs ++ x ∷ []) ≡ Some x
last_there xs x =
    let more = length-append xs (x ∷ []) in
    let place : length (xs ++ x ∷ []) - 1 ≡ length xs = omega (arith, more) in
    ap (slice_get (xs ++ x ∷ [])) place ∙ stands_behind xs x
