-- Numbers of eight bytes set in their places at the front of a value.
use Rattle.std.proofs.Common.{◌≡◌, ℕ, ◌+◌, ◌≤◌, List, [], ◌++◌, length, take, drop, Option, Some, subst, sym, ap, ◌∙◌, append_assoc, refl, arith}
use Rattle.std.specs.Prelude.{unwrap_or}
use Rattle.std.proofs.lemmas.List.{append-nil, drop-append-le, drop_at, length-append, take-append-drop, take-append-le, take_at}
use Rattle.bucket_page.specs.numbers.Numbers.{eight}
use Rattle.bucket_page.proofs.of_numbers.NumberLaws.{length-eight, length-four}
use Rattle.queue_records.specs.declared.links.Links.{Links}
use Rattle.queue_records.specs.declared.links.Links.TheVariants as kinds
use Rattle.queue_records.specs.declared.record.Record.{Record}
use Rattle.queue_records.specs.Relinking.{HasSuch, linked_bytes}
use Rattle.queue_records.specs.Spelling.{value_of}

same_of : {X : Type 0} {x y : X} → ◌≡◌ {A = Option X} (Some x) (Some y) → x ≡ y
same_of is = cc

-- bytes that hold a front have it at their own front
pub record HasFront (front body bytes rest : List ℕ) : Type 0 where
  pub is : bytes ≡ front ++ drop (length front) bytes
  pub behind : drop (length front) bytes ++ rest ≡ body

pub has_front : (front body bytes rest : List ℕ) (n : ℕ) → length front ≡ n → n ≤ length bytes
    → bytes ++ rest ≡ front ++ body → HasFront front body bytes rest
has_front front body bytes rest n len long same =
    let within : length front ≤ length bytes = omega (arith, len, long) in
    let head : take (length front) bytes ≡ front =
    sym (take-append-le (length front) bytes rest within) ∙ ap (take (length front)) same
    ∙ take_at front body (length front) refl in
    record {
      is = sym (take-append-drop (length front) bytes) ∙ ap (λ (xs : List ℕ). xs ++ drop (length front) bytes) head;
      behind = sym (drop-append-le (length front) bytes rest within) ∙ ap (drop (length front)) same
          ∙ drop_at front body (length front) refl;
    }

-- one more number is set behind those that were
pub length-more : (front : List ℕ) (number n : ℕ) → length front ≡ n → length (front ++ eight number) ≡ n + 8
length-more front number n len =
    let a = length-append front (eight number) in let e = length-eight number in omega (arith, a, e, len)

-- a number is set between what stands before it and behind it, if there is one to set
abbrev pub Sets : Option ℕ → ℕ → List ℕ → List ℕ → Type 0
Sets number place old new = (before behind : List ℕ) (was : ℕ) → length before ≡ place
    → old ≡ before ++ (eight was ++ behind) → new ≡ before ++ (eight (unwrap_or number was) ++ behind)

-- what was set makes a value with what stands behind it
closed : (f last w v rest body : List ℕ) → v ≡ f ++ (last ++ w) → w ++ rest ≡ body → v ++ rest ≡ f ++ last ++ body
closed f last w v rest body is behind =
    ap (λ (xs : List ℕ). xs ++ rest) is ∙ append_assoc f (last ++ w) rest
    ∙ ap (λ (xs : List ℕ). f ++ xs) (append_assoc last w rest ∙ ap (λ (xs : List ℕ). last ++ xs) behind)
    ∙ sym (append_assoc f last body)

-- three numbers behind a head
pub three_set : (h body v0 v1 v2 v3 rest : List ℕ) (o1 o2 o3 : ℕ) (n1 n2 n3 : Option ℕ) → length h ≡ 12
    → 36 ≤ length v0 → v0 ++ rest ≡ h ++ eight o1 ++ eight o2 ++ eight o3 ++ body
    → Sets n1 12 v0 v1 → Sets n2 20 v1 v2 → Sets n3 28 v2 v3
    → v3 ++ rest ≡ h ++ eight (unwrap_or n1 o1) ++ eight (unwrap_or n2 o2) ++ eight (unwrap_or n3 o3) ++ body
three_set h body v0 v1 v2 v3 rest o1 o2 o3 n1 n2 n3 len long is set1 set2 set3 =
    let a : List ℕ = eight o1 in
    let b : List ℕ = eight o2 in
    let c : List ℕ = eight o3 in
    let x : List ℕ = h ++ eight (unwrap_or n1 o1) in
    let y : List ℕ = x ++ eight (unwrap_or n2 o2) in
    let whole : length (h ++ a ++ b ++ c) ≡ 36 =
    length-more (h ++ a ++ b) o3 28 (length-more (h ++ a) o2 20 (length-more h o1 12 len)) in
    let it = has_front (h ++ a ++ b ++ c) body v0 rest 36 whole long is in
    let w : List ℕ = drop (length (h ++ a ++ b ++ c)) v0 in
    let parts : v0 ≡ h ++ (a ++ (b ++ (c ++ w))) =
    it.is ∙ append_assoc (h ++ a ++ b) c w ∙ append_assoc (h ++ a) b (c ++ w) ∙ append_assoc h a (b ++ (c ++ w)) in
    let one = set1 h (b ++ (c ++ w)) o1 len parts in
    let two = set2 x (c ++ w) o2 (length-more h (unwrap_or n1 o1) 12 len)
    (one ∙ sym (append_assoc h (eight (unwrap_or n1 o1)) (b ++ (c ++ w)))) in
    let three = set3 y w o3 (length-more x (unwrap_or n2 o2) 20 (length-more h (unwrap_or n1 o1) 12 len))
    (two ∙ sym (append_assoc x (eight (unwrap_or n2 o2)) (c ++ w))) in
    closed y (eight (unwrap_or n3 o3)) w v3 rest body three it.behind

-- four numbers
pub four_set : (v0 v1 v2 v3 v4 rest : List ℕ) (o1 o2 o3 o4 : ℕ) (n1 n2 n3 n4 : Option ℕ) → 32 ≤ length v0
    → v0 ++ rest ≡ eight o1 ++ eight o2 ++ eight o3 ++ eight o4
    → Sets n1 0 v0 v1 → Sets n2 8 v1 v2 → Sets n3 16 v2 v3 → Sets n4 24 v3 v4
    → v4 ++ rest ≡ eight (unwrap_or n1 o1) ++ eight (unwrap_or n2 o2) ++ eight (unwrap_or n3 o3) ++ eight
    (unwrap_or n4 o4)
four_set v0 v1 v2 v3 v4 rest o1 o2 o3 o4 n1 n2 n3 n4 long is set1 set2 set3 set4 =
    let a : List ℕ = eight o1 in
    let b : List ℕ = eight o2 in
    let c : List ℕ = eight o3 in
    let d : List ℕ = eight o4 in
    let x : List ℕ = eight (unwrap_or n1 o1) in
    let y : List ℕ = x ++ eight (unwrap_or n2 o2) in
    let z : List ℕ = y ++ eight (unwrap_or n3 o3) in
    let whole : length (a ++ b ++ c ++ d) ≡ 32 =
    length-more (a ++ b ++ c) o4 24 (length-more (a ++ b) o3 16 (length-more a o2 8 (length-eight o1))) in
    let it = has_front (a ++ b ++ c ++ d) [] v0 rest 32 whole long (is ∙ sym (append-nil (a ++ b ++ c ++ d))) in
    let w : List ℕ = drop (length (a ++ b ++ c ++ d)) v0 in
    let parts : v0 ≡ a ++ (b ++ (c ++ (d ++ w))) =
    it.is ∙ append_assoc (a ++ b ++ c) d w ∙ append_assoc (a ++ b) c (d ++ w) ∙ append_assoc a b (c ++ (d ++ w)) in
    let first = length-eight (unwrap_or n1 o1) in
    let second = length-more x (unwrap_or n2 o2) 8 first in
    let one = set1 [] (b ++ (c ++ (d ++ w))) o1 refl parts in
    let two = set2 x (c ++ (d ++ w)) o2 first one in
    let three = set3 y (d ++ w) o3 second (two ∙ sym (append_assoc x (eight (unwrap_or n2 o2)) (c ++ (d ++ w)))) in
    let four = set4 z w o4 (length-more y (unwrap_or n3 o3) 16 second)
    (three ∙ sym (append_assoc y (eight (unwrap_or n3 o3)) (d ++ w))) in
    closed z (eight (unwrap_or n4 o4)) w v4 rest [] four it.behind ∙ append-nil (z ++ eight (unwrap_or n4 o4))

-- such links stand within the value of such a record
pub links_within : (links : Links) (r : Record) → HasSuch links (Some r) → linked_bytes links ≤ length (value_of r)
links_within (kinds.Message l) r (m, is) = subst (λ x. 36 ≤ length (value_of x)) (sym (same_of is))
    (simp (length-append, length-eight, length-four) (omega arith))
links_within (kinds.Type l) r (t, is) = subst (λ x. 32 ≤ length (value_of x)) (sym (same_of is))
    (simp (length-append, length-eight) (omega arith))
