-- A header is read from its spelling, and a payload that passes all tests is the spelling of what is read.
use Rattle.std.proofs.Common.{◌≡◌, ℕ, zero, suc, ◌+◌, ◌-◌, ◌*◌, ◌≤◌, ◌<◌, Bool, true, false, cond, ◌&&◌, leb, eqb, nat_eq, ◌==◌, List, [], ◌∷◌, ◌++◌, length, take, drop, replicate, slice_index, slice_set, Option, Some, None, Result, Ok, refl, sym, ap, subst, ◌∙◌, arith}
use Rattle.std.specs.Prelude.{IfOk}
use Rattle.std.specs.Cmp.Lexicographic.{pointwise}
use Rattle.std.proofs.lemmas.Bool.{eq-eqb, eqb-true, leb-true, le-leb}
use Rattle.std.proofs.lemmas.List.{append_assoc, drop-drop, drop-take, drop_at, take-replicate, take_at, take-append-drop, length-take, length-drop, nil_from_length}
use Rattle.page_device.specs.declared.page.TheConstants.{MAX_PAGES, PAYLOAD_BYTES}
use Rattle.directory.specs.declared.layout.TheConstants.{COUNTS_BYTES, HEADER, HEADER_BYTES, LAYOUT, LOCAL_DEPTHS, MAGIC}
use Rattle.directory.specs.declared.layout.Layout.{Layout}
use Rattle.directory.specs.Layouts.{IsLayout, header_size, least_pages}
use Rattle.directory.specs.declared.header.Header.{Header}
use Rattle.directory.specs.declared.read.HeaderFault.{HeaderFault}
use Rattle.numbers.specs.Numbers.{four, four_at, numbers_bytes, numbers_of, zeros, is_zero}
use Rattle.directory.specs.Spelling.{IsHeaderIn, SpellsHeader, SpellsIn, bytes_in}
use Rattle.directory.specs.Reading.{kind_at, version_at, depth_at, pages_at, counts_area, counts_at, header_at, has_magic, has_range, has_padding, has_layout, fault_in, answer, reading, reading_in}
use Rattle.numbers.proofs.Tests.{both_true}
use Rattle.numbers.proofs.ZeroLaws.{drop-zeros, zeros-zeros, zeros_of, zeros_again}
use Rattle.numbers.proofs.NumberLaws.{IsBytes, IsBytes-drop, IsBytes-take, past, four_takes, four_again, four_small, after_part, length-four}
use Rattle.numbers.proofs.ListLaws.{number_is, numbers_take, numbers_again, length-numbers}

pub is_today : IsLayout LAYOUT
is_today = record { root = refl; room = omega arith; depths = refl; depth = omega arith; pages = omega arith }

-- ---- counts that a layout lacks

zero_bytes : (n : ℕ) → numbers_bytes (zeros n) ≡ zeros (4 * n)
unfolding four zeros
zero_bytes zero = refl
zero_bytes (suc n) =
    let next : suc (suc (suc (suc (4 * n)))) ≡ 4 * suc n = omega arith in
    (λ i. 0 ∷ 0 ∷ 0 ∷ 0 ∷ zero_bytes n i) ∙ ap zeros next

drop_numbers : (k : ℕ) (ns behind : List ℕ) → k ≤ length ns
    → drop (4 * k) (numbers_bytes ns ++ behind) ≡ numbers_bytes (drop k ns) ++ behind
drop_numbers zero ns behind le = refl
drop_numbers (suc k) [] behind le = absurd (omega (arith, le))
drop_numbers (suc k) (n ∷ ns) behind le =
    let next : 4 * suc k ≡ 4 + 4 * k = omega arith in
    ap (λ (m : ℕ). drop m (numbers_bytes (n ∷ ns) ++ behind)) next
    ∙ sym (drop-drop (4 * k) 4 (numbers_bytes (n ∷ ns) ++ behind))
    ∙ ap (drop (4 * k)) (ap (drop 4) (append_assoc (four n) (numbers_bytes ns) behind)
    ∙ drop_at (four n) (numbers_bytes ns ++ behind) 4 (length-four n))
    ∙ drop_numbers k ns behind (omega (arith, le))

-- a list that is zero from a place on ends in zeros
ends_zero : (k n : ℕ) (ns : List ℕ) → length ns ≡ n → ((i : ℕ) → k ≤ i → i < n → slice_index ns i ≡ 0)
    → drop k ns ≡ zeros (n - k)
unfolding zeros
ends_zero zero zero [] long none = refl
ends_zero zero zero (x ∷ xs) long none = absurd cc
ends_zero zero (suc n) [] long none = absurd cc
ends_zero zero (suc n) (x ∷ xs) long none =
    let rest : length xs ≡ n = omega (arith, long) in
    let next : suc (n - 0) ≡ suc n - 0 = omega arith in
    (λ i. none 0 (omega arith) (omega arith) i
    ∷ ends_zero zero n xs rest (λ j low high. none (suc j) (omega arith) (omega (arith, high))) i) ∙ ap zeros next
ends_zero (suc k) zero [] long none = let nothing : 0 ≡ 0 - suc k = omega arith in ap zeros nothing
ends_zero (suc k) zero (x ∷ xs) long none = absurd cc
ends_zero (suc k) (suc n) [] long none = absurd cc
ends_zero (suc k) (suc n) (x ∷ xs) long none =
    let rest : length xs ≡ n = omega (arith, long) in
    let fewer : suc n - suc k ≡ n - k = omega arith in
    ends_zero k n xs rest (λ j low high. none (suc j) (omega (arith, low)) (omega (arith, high)))
    ∙ ap (λ (m : ℕ). replicate m 0) (sym fewer)

four_zeros : (m : ℕ) → zeros (suc (suc (suc (suc m)))) ≡ four 0 ++ zeros m
unfolding four zeros
four_zeros m = refl

-- a number whose bytes are zero
zero_number : (at m : ℕ) (bytes : List ℕ) → drop at bytes ≡ zeros (suc (suc (suc (suc m)))) → four_at at bytes ≡ 0
zero_number at m bytes is = four_again at 0 bytes (zeros m) (is ∙ four_zeros m) (omega arith)

take-zeros : (m n : ℕ) → m ≤ n → take m (zeros n) ≡ zeros m
unfolding zeros
take-zeros m n le = take-replicate m n 0 le

-- where bytes are zero from a place on, they are so from a later one
zero_behind : (at more n : ℕ) (bytes : List ℕ) → drop at bytes ≡ zeros n → drop (at + more) bytes ≡ zeros (n - more)
zero_behind at more n bytes is = sym (past at more bytes) ∙ ap (drop more) is ∙ drop-zeros more n

-- the numbers in them are zero too
zero_counts : (k d : ℕ) (bytes : List ℕ) → length bytes ≡ PAYLOAD_BYTES → k ≤ d → d < LOCAL_DEPTHS
    → drop (20 + 4 * k) bytes ≡ zeros (PAYLOAD_BYTES - (20 + 4 * k)) → slice_index (counts_at bytes) d ≡ 0
unfolding counts_at counts_area
zero_counts k d bytes long from to is =
    let rest : ℕ = COUNTS_BYTES - 4 * d in
    let there : 20 + 4 * k + 4 * (d - k) ≡ 20 + 4 * d = omega (arith, from) in
    let later : drop (20 + 4 * d) bytes ≡ zeros (PAYLOAD_BYTES - (20 + 4 * k) - 4 * (d - k)) =
    ap (λ (n : ℕ). drop n bytes) (sym there) ∙ zero_behind (20 + 4 * k) (4 * (d - k)) _ bytes is in
    let whole : COUNTS_BYTES ≡ 4 * d + rest = omega (arith, to) in
    let four_more : rest ≡ suc (suc (suc (suc (68 - 4 * d)))) = omega (arith, to) in
    let inside : drop (4 * d) (take COUNTS_BYTES (drop 20 bytes)) ≡ zeros (suc (suc (suc (suc (68 - 4 * d))))) =
    ap (λ (n : ℕ). drop (4 * d) (take n (drop 20 bytes))) whole
    ∙ drop-take (4 * d) rest (drop 20 bytes)
    ∙ ap (take rest) (past 20 (4 * d) bytes ∙ later)
    ∙ take-zeros rest _ (omega (arith, from, to))
    ∙ ap zeros four_more in
    number_is LOCAL_DEPTHS d (take COUNTS_BYTES (drop 20 bytes)) to
    ∙ zero_number (4 * d) (68 - 4 * d) (take COUNTS_BYTES (drop 20 bytes)) inside

-- ---- spelled, then read

-- what the bytes of a header say
pub record IsSaid (l : Layout) (h : Header) (bytes : List ℕ) : Type 0 where
  pub magic : has_magic bytes ≡ true
  pub layout : has_layout l bytes ≡ true
  pub value : header_at bytes ≡ h

pub header_again : (l : Layout) (h : Header) → IsLayout l → IsHeaderIn l h → IsSaid l h (bytes_in l h)
unfolding has_magic has_layout counts_area counts_at
header_again l h right is =
    let bytes : List ℕ = bytes_in l h in
    let x3 : List ℕ = numbers_bytes h.counts ++ zeros (PAYLOAD_BYTES - HEADER_BYTES) in
    let x2 : List ℕ = four h.first_free ++ x3 in
    let x1 : List ℕ = four h.pages ++ x2 in
    let at12 : drop 12 bytes ≡ x1 = refl in
    let at16 : drop 16 bytes ≡ x2 = after_part 12 4 bytes (four h.pages) x2 at12 (length-four h.pages) in
    let at20 : drop 20 bytes ≡ x3 = after_part 16 4 bytes (four h.first_free) x3 at16 (length-four h.first_free) in
    let long : length (numbers_bytes h.counts) ≡ COUNTS_BYTES =
    omega (arith, length-numbers h.counts, is.numbers.local_depths) in
    let k : ℕ = l.local_depths in
    let few : k ≤ LOCAL_DEPTHS = omega (arith, right.depths, right.depth) in
    let behind : drop (header_size l) bytes ≡ zeros (4 * (LOCAL_DEPTHS - k) + (PAYLOAD_BYTES - HEADER_BYTES)) =
    sym (past 20 (4 * k) bytes) ∙ ap (drop (4 * k)) at20
    ∙ drop_numbers k h.counts (zeros (PAYLOAD_BYTES - HEADER_BYTES)) (omega (arith, few, is.numbers.local_depths))
    ∙ ap (λ (ns : List ℕ). numbers_bytes ns ++ zeros (PAYLOAD_BYTES - HEADER_BYTES))
    (ends_zero k LOCAL_DEPTHS h.counts is.numbers.local_depths is.lacks)
    ∙ ap (λ (xs : List ℕ). xs ++ zeros (PAYLOAD_BYTES - HEADER_BYTES)) (zero_bytes (LOCAL_DEPTHS - k))
    ∙ zeros-zeros (4 * (LOCAL_DEPTHS - k)) (PAYLOAD_BYTES - HEADER_BYTES) in
    let area : take COUNTS_BYTES (drop 20 bytes) ≡ numbers_bytes h.counts = ap (take COUNTS_BYTES) at20
    ∙ take_at (numbers_bytes h.counts) (zeros (PAYLOAD_BYTES - HEADER_BYTES)) COUNTS_BYTES long in
    let counts : numbers_of LOCAL_DEPTHS (take COUNTS_BYTES (drop 20 bytes)) ≡ h.counts =
    (λ i. numbers_of (sym is.numbers.local_depths i) (area i)) ∙ numbers_again h.counts is.numbers.counts in
    let pages : four_at 12 bytes ≡ h.pages = four_again 12 h.pages bytes x2 at12 is.numbers.pages in
    let first_free : four_at 16 bytes ≡ h.first_free = four_again 16 h.first_free bytes x3 at16 is.numbers.first_free in
    let blank : is_zero (drop (header_size l) bytes) ≡ true =
    ap is_zero behind ∙ zeros_again (4 * (LOCAL_DEPTHS - k) + (PAYLOAD_BYTES - HEADER_BYTES)) in
    let depth = le-leb _ _ is.depth in
    let least = le-leb _ _ is.least in
    let most = le-leb _ _ is.most in
    record {
      magic = refl;
      layout = rw (pages, depth, least, most, blank) refl;
      value = λ i. record { depth = h.depth; pages = pages i; first_free = first_free i; counts = counts i };
    }

-- what a payload spells is read from it
pub spelled_in : (l : Layout) (h : Header) (payload : List ℕ) → IsLayout l → SpellsIn l h payload
    → reading_in l payload ≡ Ok h
spelled_in l h payload right it =
    let said = header_again l h right it.in_range in
    let version : (l.version == l.version) ≡ true = eq-eqb l.version l.version refl in
    let fault : fault_in l (bytes_in l h) ≡ None = rw (said.magic, version, said.layout) refl in
    ap (reading_in l) it.spelled ∙ (λ i. answer (fault i) (said.value i))

-- in today's layout
pub spelled_reads : (h : Header) (payload : List ℕ) → SpellsHeader h payload → reading payload ≡ Ok h
spelled_reads h payload it = spelled_in LAYOUT h payload is_today it

-- ---- read, then spelled

same_text : (xs ys : List ℕ) → pointwise nat_eq xs ys ≡ true → xs ≡ ys
same_text [] [] h = refl
same_text [] (y ∷ ys) h = absurd cc
same_text (x ∷ xs) [] h = absurd cc
same_text (x ∷ xs) (y ∷ ys) h =
    let both = both_true (eqb x y) (pointwise nat_eq xs ys) h in
    λ i. eqb-true x y both.0 i ∷ same_text xs ys both.1 i

magic_takes : (bytes : List ℕ) → has_magic bytes ≡ true → drop 4 bytes ≡ MAGIC ++ drop 12 bytes
unfolding has_magic
magic_takes bytes h =
    sym (take-append-drop 8 (drop 4 bytes)) ∙ (λ i. same_text (take 8 (drop 4 bytes)) MAGIC h i ++ past 4 8 bytes i)

four_first : (bytes : List ℕ) → 4 ≤ length bytes
    → bytes ≡ kind_at bytes ∷ version_at bytes ∷ depth_at bytes ∷ slice_index bytes 3 ∷ drop 4 bytes
four_first [] long = absurd (omega (arith, long))
four_first (a ∷ []) long = absurd (omega (arith, long))
four_first (a ∷ b ∷ []) long = absurd (omega (arith, long))
four_first (a ∷ b ∷ c ∷ []) long = absurd (omega (arith, long))
four_first (a ∷ b ∷ c ∷ d ∷ rest) long = refl

header_takes : (l : Layout) (bytes : List ℕ) → IsLayout l → length bytes ≡ PAYLOAD_BYTES → IsBytes bytes →
    kind_at bytes ≡ HEADER → version_at bytes ≡ l.version
    → has_magic bytes ≡ true → has_layout l bytes ≡ true → SpellsIn l (header_at bytes) bytes
unfolding has_layout counts_area counts_at
header_takes l bytes right long all kind version magic layout =
    let parts = both_true (has_range l bytes) (has_padding l bytes) layout in
    let range = both_true (leb (depth_at bytes) l.greatest_depth && leb (least_pages l) (pages_at bytes))
    (leb (pages_at bytes) MAX_PAGES) parts.0 in
    let low-range = both_true (leb (depth_at bytes) l.greatest_depth) (leb (least_pages l) (pages_at bytes)) range.0 in
    let padding = both_true (eqb (slice_index bytes 3) 0) (is_zero (drop (header_size l) bytes)) parts.1 in
    let zero-byte : slice_index bytes 3 ≡ 0 = eqb-true _ _ padding.0 in
    let area : List ℕ = take COUNTS_BYTES (drop 20 bytes) in
    let area-len : length area ≡ COUNTS_BYTES =
    omega (arith, long, length-take COUNTS_BYTES (drop 20 bytes), length-drop 20 bytes) in
    let counts =
    numbers_take LOCAL_DEPTHS area area-len (IsBytes-take COUNTS_BYTES (drop 20 bytes) (IsBytes-drop 20 bytes all)) in
    let k : ℕ = l.local_depths in
    let few : k ≤ LOCAL_DEPTHS = omega (arith, right.depths, right.depth) in
    let zero : drop (header_size l) bytes ≡ zeros (PAYLOAD_BYTES - header_size l) =
    zeros_of (PAYLOAD_BYTES - header_size l)
    (drop (header_size l) bytes) (omega (arith, long, length-drop (header_size l) bytes)) padding.1 in
    let to : header_size l + 4 * (LOCAL_DEPTHS - k) ≡ HEADER_BYTES = omega (arith, few) in
    let left : PAYLOAD_BYTES - header_size l - 4 * (LOCAL_DEPTHS - k) ≡ PAYLOAD_BYTES - HEADER_BYTES =
    omega (arith, few) in
    let blank : drop HEADER_BYTES bytes ≡ zeros (PAYLOAD_BYTES - HEADER_BYTES) =
    ap (λ (n : ℕ). drop n bytes) (sym to)
    ∙ zero_behind (header_size l) (4 * (LOCAL_DEPTHS - k)) _ bytes zero ∙ ap zeros left in
    let body : drop 20 bytes ≡ numbers_bytes (numbers_of LOCAL_DEPTHS area) ++ zeros (PAYLOAD_BYTES - HEADER_BYTES) =
    sym (take-append-drop COUNTS_BYTES (drop 20 bytes)) ∙ (λ i. counts.0 i ++ (past 20 COUNTS_BYTES bytes ∙ blank) i) in
    let first_free =
    four_takes 16 bytes (omega (arith, long)) all ∙ ap (λ (xs : List ℕ). four (four_at 16 bytes) ++ xs) body in
    let pages =
    four_takes 12 bytes (omega (arith, long)) all ∙ ap (λ (xs : List ℕ). four (four_at 12 bytes) ++ xs) first_free in
    let text = magic_takes bytes magic ∙ ap (λ (xs : List ℕ). MAGIC ++ xs) pages in
    record {
      in_range = record {
        depth = leb-true _ _ low-range.0;
        least = leb-true _ _ low-range.1;
        most = leb-true _ _ range.1;
        numbers = record {
          pages = four_small 12 bytes all;
          first_free = four_small 16 bytes all;
          local_depths = counts.2;
          counts = counts.1;
        };
        lacks = λ d from to. zero_counts k d bytes long from to zero;
      };
      spelled =
          four_first bytes (omega (arith, long)) ∙ (λ i. kind i ∷ version i ∷ depth_at bytes ∷ zero-byte i ∷ text i);
    }

passed : (b : Bool) (m : HeaderFault) (o : Option HeaderFault) → cond b o (Some m) ≡ None → (b ≡ true) × (o ≡ None)
passed true m o e = (refl, e)
passed false m o e = absurd cc

none_failed : (l : Layout) (bytes : List ℕ) → IsLayout l → length bytes ≡ PAYLOAD_BYTES → IsBytes bytes
    → fault_in l bytes ≡ None → SpellsIn l (header_at bytes) bytes
none_failed l bytes right long all passes =
    let first = passed _ _ _ passes in
    let version = passed _ _ _ first.1 in
    let layout = passed _ _ _ version.1 in
    let both = both_true _ _ first.0 in
    header_takes l bytes right long all (eqb-true _ _ both.0) (eqb-true _ _ version.0) both.1 layout.0

answered : (l : Layout) (fault : Option HeaderFault) (h : Header) (bytes : List ℕ)
    → (fault ≡ None → SpellsIn l h bytes) → IfOk (answer fault h) (λ g. SpellsIn l g bytes)
answered l None h bytes spells = spells refl
answered l (Some m) h bytes spells = tt

-- what is read is spelled
pub is_spelled : (l : Layout) (bytes : List ℕ) (r : Result Header HeaderFault) → IsLayout l
    → length bytes ≡ PAYLOAD_BYTES → IsBytes bytes → r ≡ reading_in l bytes → IfOk r (λ h. SpellsIn l h bytes)
is_spelled l bytes r right long all is =
    subst (λ (x : Result Header HeaderFault). IfOk x (λ h. SpellsIn l h bytes)) (sym is)
    (answered l (fault_in l bytes) (header_at bytes) bytes (none_failed l bytes right long all))

-- ---- written

pub four_written : (bytes : List ℕ) (a b c d : ℕ) → length bytes ≡ 4
    → slice_set (slice_set (slice_set (slice_set bytes 0 a) 1 b) 2 c) 3 d ≡ a ∷ b ∷ c ∷ d ∷ []
four_written [] a b c d long = absurd (omega (arith, long))
four_written (p ∷ []) a b c d long = absurd (omega (arith, long))
four_written (p ∷ q ∷ []) a b c d long = absurd (omega (arith, long))
four_written (p ∷ q ∷ r ∷ []) a b c d long = absurd (omega (arith, long))
four_written (p ∷ q ∷ r ∷ s ∷ rest) a b c d long =
    ap (λ (xs : List ℕ). a ∷ b ∷ c ∷ d ∷ xs) (nil_from_length rest (omega (arith, long)))
