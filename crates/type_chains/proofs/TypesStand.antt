-- The types of messages are those that a message has.
use Rattle.std.proofs.Common.{◌≡◌, ℤ, List, [], ◌∷◌, inl, inr, refl, sym, subst, arith}
use Rattle.std.specs.Prelude.{int_lt}
use Rattle.std.specs.List.{Contains, fold}
use Rattle.std.specs.Ordering.{int_eq}
use Rattle.std.proofs.lemmas.Bool.Decides.{Decides-int_eq}
use Rattle.std.proofs.lemmas.List.Elements.{All-nil, All-contains}
use Rattle.queue_model.specs.declared.message.Message.{Message}
use Rattle.type_chains.specs.Lists.{with_type, types, AreTypesOf}
use Rattle.type_chains.proofs.Elements.{All-types}
use Rattle.type_chains.proofs.Members.{contains_head, contains_tail, head_or_tail}
use Rattle.type_chains.proofs.Pairs.{all_of}
use Rattle.type_chains.proofs.Unique.{cond_with, types_ascend}

with_type_keeps : (ts : List ℤ) (t u : ℤ) → Contains ts u → Contains (with_type ts t) u
with_type_keeps [] t u (k, within, at) = absurd (omega (arith, within))
with_type_keeps (v ∷ vs) t u stands =
    cond_with (λ (ts : List ℤ). Contains ts u) (int_lt t v) (t ∷ v ∷ vs) _ (λ less. contains_tail t u (v ∷ vs) stands)
    (λ no_less. cond_with (λ (ts : List ℤ). Contains ts u) (int_eq t v) (v ∷ vs) (v ∷ with_type vs t)
    (λ same. stands)
    (λ no_same. elim (head_or_tail v u vs stands) [
      | inl is ↦ subst (λ (x : ℤ). Contains (v ∷ with_type vs t) x) is (contains_head v (with_type vs t))
      | inr later ↦ contains_tail v u (with_type vs t) (with_type_keeps vs t u later)
    ]))

with_type_has : (ts : List ℤ) (t : ℤ) → Contains (with_type ts t) t
with_type_has [] t = contains_head t []
with_type_has (v ∷ vs) t =
    cond_with (λ (ts : List ℤ). Contains ts t) (int_lt t v) (t ∷ v ∷ vs) _ (λ less. contains_head t (v ∷ vs))
    (λ no_less. cond_with (λ (ts : List ℤ). Contains ts t) (int_eq t v) (v ∷ vs) (v ∷ with_type vs t)
    (λ same. subst (λ (x : ℤ). Contains (v ∷ vs) x) (sym ((Decides-int_eq t v).0 same)) (contains_head v vs))
    (λ no_same. contains_tail v t (with_type vs t) (with_type_has vs t)))

stays : (ts : List ℤ) (ms : List Message) (t : ℤ) → Contains ts t →
    Contains (fold (λ (ts : List ℤ) (m : Message). with_type ts m.mtype) ts ms) t
stays ts [] t stands = stands
stays ts (m ∷ ms) t stands = stays (with_type ts m.mtype) ms t (with_type_keeps ts m.mtype t stands)

comes : (ts : List ℤ) (ms : List Message) (m : Message) → Contains ms m →
    Contains (fold (λ (ts : List ℤ) (m : Message). with_type ts m.mtype) ts ms) m.mtype
comes ts [] m (k, within, at) = absurd (omega (arith, within))
comes ts (n ∷ ns) m stands = elim (head_or_tail n m ns stands) [
  | inl is ↦ subst (λ (x : Message). Contains (fold (λ (ts : List ℤ) (m : Message). with_type ts m.mtype)
      (with_type ts n.mtype) ns) x.mtype) is (stays (with_type ts n.mtype) ns n.mtype (with_type_has ts n.mtype))
  | inr later ↦ comes (with_type ts n.mtype) ns m later
]

abbrev Stands : List Message → ℤ → Type 0
Stands ms t = (m : Message) × Contains ms m × (m.mtype ≡ t)

pub are_types_of : (ms : List Message) → AreTypesOf ms (types ms)
are_types_of ms = record {
  ascend = types_ascend ms;
  stand = λ t. (
    λ stands. All-contains (Stands ms) (types ms) t
        (All-types (Stands ms) [] ms (All-nil (Stands ms))
        (all_of (λ (m : Message). Stands ms m.mtype) ms (λ m there. (m, there, refl)))) stands,
    λ (m, there, is). subst (λ (x : ℤ). Contains (types ms) x) is (comes [] ms m there),
  );
}
