-- The head of a bucket is read from its bytes.
use Rattle.std.proofs.Common.{◌≡◌, ℕ, ◌<◌, ◌^◌, true, List, [], ◌∷◌, ◌++◌, length, take, drop, sym, ap, ◌∙◌, append_assoc, arith}
use Rattle.std.proofs.lemmas.List.{take_at, drop_at, length-append}
use Rattle.bucket_page.specs.declared.layout.TheConstants.{BUCKET}
use Rattle.bucket_page.specs.declared.head.Head.{Head}
use Rattle.directory.specs.numbers.Numbers.{two, four, zeros, four_at}
use Rattle.bucket_page.specs.Spelling.{head_bytes}
use Rattle.bucket_page.specs.Reading.{record_count_at, used_at}
use Rattle.directory.specs.numbers.Numbers.{is_zero}
use Rattle.directory.proofs.of_numbers.ZeroLaws.{zeros_again, length-zeros}
use Rattle.directory.proofs.of_numbers.NumberLaws.{after_part, two_again, four_again, length-two, length-four}

-- the fields one by one
pub head_parts : (h : Head) (body : List ℕ) → head_bytes h ++ body
    ≡ BUCKET ∷ h.depth ∷ (two h.count ++ (four h.pattern ++ (four h.next ++ (two h.used ++ (zeros 2 ++ body)))))
head_parts h body =
    let x3 : List ℕ = two h.used ++ zeros 2 in
    let x2 : List ℕ = four h.next ++ x3 in
    let x1 : List ℕ = four h.pattern ++ x2 in
    let used = append_assoc (two h.used) (zeros 2) body in
    let next = append_assoc (four h.next) x3 body ∙ ap (λ (xs : List ℕ). four h.next ++ xs) used in
    let pattern = append_assoc (four h.pattern) x2 body ∙ ap (λ (xs : List ℕ). four h.pattern ++ xs) next in
    ap (λ (xs : List ℕ). BUCKET ∷ h.depth ∷ xs) (append_assoc (two h.count) x1 body
    ∙ ap (λ (xs : List ℕ). two h.count ++ xs) pattern)

pub length-head : (h : Head) → length (head_bytes h) ≡ 16
length-head h =
    let x3 : List ℕ = two h.used ++ zeros 2 in
    let x2 : List ℕ = four h.next ++ x3 in
    let x1 : List ℕ = four h.pattern ++ x2 in
    omega (
      arith,
      length-append (two h.count) x1,
      length-append (four h.pattern) x2,
      length-append (four h.next) x3,
      length-append (two h.used) (zeros 2),
      length-two h.count,
      length-four h.pattern,
      length-four h.next,
      length-two h.used,
      length-zeros 2,
    )

-- what a head and the bytes behind it say
pub record IsHead (h : Head) (body bytes : List ℕ) : Type 0 where
  pub count : record_count_at bytes ≡ h.count
  pub pattern : four_at 4 bytes ≡ h.pattern
  pub next : four_at 8 bytes ≡ h.next
  pub used : used_at bytes ≡ h.used
  pub blank : is_zero (take 2 (drop 14 bytes)) ≡ true
  pub rest : drop 16 bytes ≡ body

pub head_again : (h : Head) (body : List ℕ) → h.count < 2 ^ 16 → h.pattern < 2 ^ 32 → h.next < 2 ^ 32
    → h.used < 2 ^ 16 → IsHead h body (head_bytes h ++ body)
head_again h body count pattern next used =
    let bytes : List ℕ = head_bytes h ++ body in
    let x4 : List ℕ = zeros 2 ++ body in
    let x3 : List ℕ = two h.used ++ x4 in
    let x2 : List ℕ = four h.next ++ x3 in
    let x1 : List ℕ = four h.pattern ++ x2 in
    let at2 : drop 2 bytes ≡ two h.count ++ x1 = ap (drop 2) (head_parts h body) in
    let at4 : drop 4 bytes ≡ x1 = after_part 2 2 bytes (two h.count) x1 at2 (length-two h.count) in
    let at8 : drop 8 bytes ≡ x2 = after_part 4 4 bytes (four h.pattern) x2 at4 (length-four h.pattern) in
    let at12 : drop 12 bytes ≡ x3 = after_part 8 4 bytes (four h.next) x3 at8 (length-four h.next) in
    let at14 : drop 14 bytes ≡ x4 = after_part 12 2 bytes (two h.used) x4 at12 (length-two h.used) in
    record {
      count = two_again 2 h.count bytes x1 at2 count;
      pattern = four_again 4 h.pattern bytes x2 at4 pattern;
      next = four_again 8 h.next bytes x3 at8 next;
      used = two_again 12 h.used bytes x4 at12 used;
      blank = rw (at14, take_at (zeros 2) body 2 (length-zeros 2)) (zeros_again 2);
      rest = after_part 14 2 bytes (zeros 2) body at14 (length-zeros 2);
    }

-- two numbers of a head are written over
pub counts_set : (h : Head) (count used : ℕ) (bytes first b0 b1 between b2 last w1 w2 : List ℕ) → bytes ≡ head_bytes h
    → first ≡ take 2 bytes → b0 ≡ drop 2 bytes → b1 ≡ drop 2 b0 → between ≡ take 8 b1 → b2 ≡ drop 8 b1
    → last ≡ drop 2 b2 → w1 ≡ two count → w2 ≡ two used
    → first ++ (w1 ++ (between ++ (w2 ++ last))) ≡ head_bytes (record h { count = count; used = used })
counts_set h count used bytes first b0 b1 between b2 last w1 w2 is first-is b0-is b1-is between-is b2-is last-is w1-is
    w2-is =
    let x3 : List ℕ = two h.used ++ zeros 2 in
    let x2 : List ℕ = four h.next ++ x3 in
    let x1 : List ℕ = four h.pattern ++ x2 in
    let f : List ℕ = four h.pattern ++ four h.next in
    let long : length f ≡ 8 =
    omega (arith, length-append (four h.pattern) (four h.next), length-four h.pattern, length-four h.next) in
    let front : first ≡ BUCKET ∷ h.depth ∷ [] = first-is ∙ ap (take 2) is in
    let rest : b1 ≡ f ++ x3 =
    b1-is ∙ ap (drop 2) (b0-is ∙ ap (drop 2) is) ∙ drop_at (two h.count) x1 2 (length-two h.count)
    ∙ sym (append_assoc (four h.pattern) (four h.next) x3) in
    let middle : between ≡ f = between-is ∙ ap (take 8) rest ∙ take_at f x3 8 long in
    let back : last ≡ zeros 2 =
    last-is ∙ ap (drop 2) (b2-is ∙ ap (drop 8) rest ∙ drop_at f x3 8 long)
    ∙ drop_at (two h.used) (zeros 2) 2 (length-two h.used) in
    (λ i. front i ++ (w1-is i ++ (middle i ++ (w2-is i ++ back i))))
    ∙ ap (λ (xs : List ℕ). BUCKET ∷ h.depth ∷ (two count ++ xs)) (append_assoc (four h.pattern) (four h.next)
    (two used ++ zeros 2))
