-- The lists along which the links of a queue's records run: its serials, those of each type, and its types.
-- docs/FORMAT.md, "Records".
use Rattle.std.specs.Prelude.{◌≡◌, ◌↔◌, ℕ, ℤ, ◌<ℤ◌, int_lt, Bool, List, [], ◌∷◌, map, if◌then◌else◌}
use Rattle.std.specs.List.{AllPairs, Contains, filter, fold}
use Rattle.std.specs.Ordering.{int_eq}
use Rattle.queue_model.specs.declared.message.Message.{Message}

-- the serials of messages, in the messages' order
abbrev pub serials : List Message → List ℕ
serials ms = map (λ (m : Message). m.serial) ms

abbrev pub is_of_type : ℤ → Message → Bool
is_of_type mtype m = int_eq m.mtype mtype

-- the serials of the messages of a type, in their order
abbrev pub serials_of_type : ℤ → List Message → List ℕ
serials_of_type mtype ms = serials (filter (is_of_type mtype) ms)

-- ascending types with one more, which stands once
abbrev pub with_type : List ℤ → ℤ → List ℤ
with_type [] mtype = mtype ∷ []
with_type (t ∷ ts) mtype =
    if int_lt mtype t then mtype ∷ t ∷ ts
    else if int_eq mtype t then t ∷ ts
    else t ∷ with_type ts mtype

-- the types of messages, each once, in ascending order
abbrev pub types : List Message → List ℤ
types ms = fold (λ (ts : List ℤ) (m : Message). with_type ts m.mtype) [] ms

-- the types ascend, and are exactly those that a message has
pub record AreTypesOf (ms : List Message) (ts : List ℤ) : Type 0 where
  pub ascend : AllPairs (λ (a b : ℤ). a <ℤ b) ts
  pub stand : (t : ℤ) → Contains ts t ↔ ((m : Message) × Contains ms m × (m.mtype ≡ t))
