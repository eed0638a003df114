-- What a reader gives is cut behind one byte more than is wanted of it.
use Rattle.std.proofs.Common.{ℕ, ◌+◌, ◌≡◌, ◌≤◌, ◌∙◌, arith, List, [], ◌++◌, Option, Some, None, IfSome, length, take, ap, sym, subst, Result, Ok, Err, IfErr, IsErrAnd}
use Rattle.std.specs.Option.{option_map}
use Rattle.std.proofs.lemmas.List.{length-take, take_all}
use Rattle.std.proofs.lemmas.Int.{clamps}
use Rattle.queue_commands.specs.Messages.{IsAllOf, Refuses}
use Rattle.queue_commands.specs.declared.messages.Framing.{Framing}
use Rattle.queue_commands.specs.declared.unsent.Unsent.{Unsent}

-- the text is the known bytes, of which one more than so many are taken
abbrev pub IsCutAt : ℕ → Option (List ℕ) → List ℕ → Type 0
IsCutAt most known text = IfSome (option_map (take (most + 1)) known) (λ (xs : List ℕ). text ≡ xs)

pub all_are_read : (most : ℕ) (known : Option (List ℕ)) (text : List ℕ) → IsCutAt most known text →
    length text ≤ most → IsAllOf known text
all_are_read most None text read few = tt
all_are_read most (Some xs) text read few =
    let long = ap (λ (bytes : List ℕ). length bytes) read ∙ length-take (most + 1) xs in
    let short : length xs ≤ most + 1 = omega (arith, clamps, long, few) in
    read ∙ take_all (most + 1) xs short

-- what is read of a reader up to a limit is cut there
pub limit_cuts : {X : Type 0} (inner reader : X) (remaining : X → Option (List ℕ)) (most limit : ℕ)
    (old text : List ℕ) → inner ≡ reader → limit ≡ most + 1 → old ≡ [] →
    IfSome (option_map (take limit) (remaining inner)) (λ (xs : List ℕ). text ≡ old ++ xs) →
    IsCutAt most (remaining reader) text
limit_cuts inner reader remaining most limit old text same at none read =
    cuts (remaining reader)
    (subst (λ x. IfSome (option_map (take limit) (remaining x)) (λ (xs : List ℕ). text ≡ old ++ xs)) same read)
  where
    cuts : (known : Option (List ℕ)) → IfSome (option_map (take limit) known) (λ (xs : List ℕ). text ≡ old ++ xs) →
        IsCutAt most known text
    cuts None is = tt
    cuts (Some xs) is = is ∙ ap (λ (os : List ℕ). os ++ take limit xs) none ∙ ap (λ (n : ℕ). take n xs) at

-- an error that is handed on is of what it was
pub refused_on : {T : Type 0} (r : Result T Unsent) (error : Unsent) → IsErrAnd r (λ e. e ≡ error) →
    (framing : Framing) (known : Option (List ℕ)) → Refuses framing known error → IfErr r (Refuses framing known)
refused_on (Ok value) error same framing known is = tt
refused_on (Err e) error same framing known is = subst (Refuses framing known) (sym same) is
