-- What reading a bucket once more tells, and how far its records are tested.
use Rattle.std.proofs.Common.{ℕ, zero, suc, ◌≡◌, ◌+◌, ◌<◌, ◌≤◌, ◌⊎◌, nat_lt, Bool, true, false, IsTrue, List, [], ◌∷◌, ◌++◌, length, map, take, drop, replicate, Option, None, Some, IfSome, Result, Ok, Err, IfErr, OnOk, refl, sym, ap, subst, ◌∙◌, inl, inr, arith}
use Rattle.std.specs.List.{All, Contains}
use Rattle.std.specs.Prelude.{slice_index, slice_index_or}
use Rattle.std.specs.Option.{is_some}
use Rattle.std.specs.Result.{result_ok}
use Rattle.std.proofs.Math.ListN.{get_or-eq_default}
use Rattle.std.proofs.Math.Seq.{take-suc}
use Rattle.std.proofs.lemmas.Bool.Decides.{nat_tests}
use Rattle.std.proofs.lemmas.List.{get_or_append_left, get_or-replicate, get_or_default, length-replicate, take_all}
use Rattle.std.proofs.lemmas.List.Elements.{All-nil, All-push}
use Rattle.bucket_page.specs.declared.page.Malformed.{Malformed}
use Rattle.bucket_page.specs.declared.page.PageKind.{PageKind}
use Rattle.bucket_page.specs.declared.page.PageKind.TheVariants as kinds
use Rattle.bucket_page.specs.Reading.{reading}
use Rattle.file_walk.specs.Files.{said_by, pages_in}
use Rattle.file_walk.specs.Readings.{IsPayloadOf}
use Rattle.file_walk.proofs.PageLemmas.{is_malformed, right_formed, said}
use Rattle.file_walk.proofs.PagesLemmas.{pages_at, pages_length}
use Rattle.file_check.specs.Words.{IsLayout, IsRightStructureIn, Layout, RecordKey, Bucket, Pair, Store, file_in, payload_on, has_bucket, bucket_at, bucket_of, is_bucket, CheckFault}
use Rattle.file_check.specs.Fault.{IsOfMachineToo}
use Rattle.file_check.specs.Records.{IsLivePage, IsFirstIn, IsWrongIn, AreRightOn, AreRightRecordsIn, IsFirstWrongRecord}

-- ---- a bucket is read once more

module _ (l : Layout) (content : List (List ℕ)) (n : ℕ) (payload : List ℕ) (live : IsLivePage l content n)
    (same : payload ≡ payload_on content n) where
  read_so : IsPayloadOf content n payload
  read_so = record { sealed = live.right.sealed; value = same }

  page_is : (page : PageKind) → Ok page ≡ reading payload →
      slice_index_or (pages_in l content) n (kinds.Free 0) ≡ page
  page_is page e =
      pages_at l live.layout content n (kinds.Free 0) live.behind live.within ∙ said content n payload read_so page e

  -- what is read is the bucket of the file
  bucket_again : (b : Bucket) → Ok (kinds.Bucket b) ≡ reading payload → bucket_at (file_in l content) n ≡ b
  bucket_again b e = ap bucket_of (page_is (kinds.Bucket b) e)

  -- and nothing else
  no_other : (page : PageKind) → Ok page ≡ reading payload → is_bucket page ≡ false → ⊥
  no_other page e other =
      let b : true ≡ false = sym live.live ∙ ap is_bucket (page_is page e) ∙ other in
      absurd cc

  no_refusal : (reason : Malformed) → Err reason ≡ reading payload → ⊥
  no_refusal reason e =
      let wrong = is_malformed l live.layout content n payload read_so reason e in
      let clash = sym (right_formed l live.layout content n live.right) ∙ wrong.2 in
      absurd cc

  pub read_live : reading payload ≡ Ok (kinds.Bucket (bucket_at (file_in l content) n))
  read_live = by_answer (reading payload) refl
    where
      by_answer : (r : Result PageKind Malformed) → reading payload ≡ r →
          reading payload ≡ Ok (kinds.Bucket (bucket_at (file_in l content) n))
      by_answer (Ok (kinds.Bucket b)) e = e ∙ ap (λ (x : Bucket). Ok (kinds.Bucket x)) (sym (bucket_again b (sym e)))
      by_answer (Ok (kinds.Directory es)) e = absurd (no_other (kinds.Directory es) (sym e) refl)
      by_answer (Ok (kinds.Tombstone link)) e = absurd (no_other (kinds.Tombstone link) (sym e) refl)
      by_answer (Ok (kinds.Free link)) e = absurd (no_other (kinds.Free link) (sym e) refl)
      by_answer (Err reason) e = absurd (no_refusal reason (sym e))

-- two answers that are the same are of the same bucket
pub bucket_is : (b c : Bucket) → ◌≡◌ {A = Result Bucket CheckFault} (Ok b) (Ok c) → b ≡ c
bucket_is b c e = cc

-- and no answer is a fault
pub is_read : (fault : CheckFault) (b : Bucket) → ◌≡◌ {A = Result Bucket CheckFault} (Err fault) (Ok b) → ⊥
is_read fault b e = absurd cc

-- ---- the pages of a chain are buckets

low_bucket : (l : Layout) (content : List (List ℕ)) (n : ℕ) → n < l.root_page → has_bucket (file_in l content) n ≡ false
unfolding pages_in
low_bucket l content n small =
    let d : PageKind = kinds.Directory [] in
    let some : n < length (replicate l.root_page d) =
    subst (λ m. n < m) (sym (length-replicate l.root_page d)) small in
    ap is_bucket (get_or_append_left (replicate l.root_page d) (map said_by (drop l.root_page content)) (kinds.Free 0) n
    some
    ∙ get_or-replicate l.root_page n d (kinds.Free 0) small)

past_bucket : (l : Layout) → IsLayout l → (content : List (List ℕ)) (n : ℕ) → l.root_page ≤ length content →
    length content ≤ n → has_bucket (file_in l content) n ≡ false
past_bucket l laid content n long past =
    ap is_bucket (get_or-eq_default (pages_in l content) (kinds.Free 0)
    (subst (λ m. m ≤ n) (sym (pages_length l laid content long)) past))

module _ (l : Layout) (laid : IsLayout l) (content : List (List ℕ)) (ns : List ℕ) (r : IsRightStructureIn l content ns)
    (n : ℕ) (on : Contains ns n) where
  live_bucket : has_bucket (file_in l content) n ≡ true
  live_bucket = r.chain.buckets n on

  long : l.root_page ≤ length content
  long = let h = r.pages.header in let least = h.in_range.least in let many = h.as_many in omega (arith, least, many)

  behind_root : (b : Bool) → nat_lt n l.root_page ≡ b → l.root_page ≤ n
  behind_root true less = (
      let small : n < l.root_page = grind (arith, nat_tests) in
      let clash : true ≡ false = sym live_bucket ∙ low_bucket l content n small in
      absurd cc)
  behind_root false more = grind (arith, nat_tests)

  within_file : (b : Bool) → nat_lt n (length content) ≡ b → n < length content
  within_file true less = grind (arith, nat_tests)
  within_file false more = (
      let past : length content ≤ n = grind (arith, nat_tests) in
      let clash : true ≡ false = sym live_bucket ∙ past_bucket l laid content n long past in
      absurd cc)

  pub live_page : IsLivePage l content n
  live_page =
      let behind = behind_root (nat_lt n l.root_page) refl in
      let within = within_file (nat_lt n (length content)) refl in
      let root = laid.root in
      record {
        layout = laid;
        behind = behind;
        within = within;
        right = r.pages.pages n (omega (arith, behind, root)) within;
        live = live_bucket;
      }

-- what is wrong with what was read is wrong with the bucket of the file
pub wrong_in : (l : Layout) (hash : RecordKey → ℕ) (page : ℕ) (b c : Bucket) (result : Result Unit CheckFault) →
    b ≡ c → IfErr result (IsWrongIn l hash b page) →
    IfErr result (λ fault. IsOfMachineToo fault ⊎ IsWrongIn l hash c page fault)
wrong_in l hash page b c (Ok u) same h = tt
wrong_in l hash page b c (Err fault) same h = inr (subst (λ (x : Bucket). IsWrongIn l hash x page fault) same h)

-- a bucket of the file is no page past its end
pub not_past : (l : Layout) (content : List (List ℕ)) (n : ℕ) (fault : CheckFault) → IsLivePage l content n →
    IsOfMachineToo fault ⊎ (length content ≤ n) → IsOfMachineToo fault
not_past l content n fault live (inl machine) = machine
not_past l content n fault live (inr past) = absurd (let w = live.within in omega (arith, w, past))

-- ---- record by record

-- the records before a slot are right, and these are left
pub record AreTestedTo (IsRight : Pair → Type 0) (ps left : List Pair) : Type 0 where
  pub slot : ℕ
  pub before : All IsRight (take slot ps)
  pub left_are : left ≡ drop slot ps

drop_next : (ps : List Pair) (slot : ℕ) (p : Pair) (rest : List Pair) → drop slot ps ≡ p ∷ rest →
    (slot < length ps) × ((d : Pair) → slice_index_or ps slot d ≡ p) × (drop (suc slot) ps ≡ rest)
drop_next [] zero p rest e = absurd cc
drop_next [] (suc slot) p rest e = absurd cc
drop_next (q ∷ qs) zero p rest e =
    let head : q ≡ p = cc in let tail : qs ≡ rest = cc in (omega arith, (λ d. head), tail)
drop_next (q ∷ qs) (suc slot) p rest e =
    let next = drop_next qs slot p rest e in (omega (arith, next.0), next.1, next.2)

drop_end : (ps : List Pair) (slot : ℕ) → drop slot ps ≡ [] → length ps ≤ slot
drop_end [] slot e = omega arith
drop_end (q ∷ qs) zero e = absurd cc
drop_end (q ∷ qs) (suc slot) e = let rest = drop_end qs slot e in omega (arith, rest)

module _ (IsRight : Pair → Type 0) (ps : List Pair) where
  pub tested_none : (left : List Pair) → left ≡ ps → AreTestedTo IsRight ps left
  tested_none left same = record { slot = 0; before = All-nil IsRight; left_are = same }

  pub tested_more : (left rest : List Pair) (p : Pair) → AreTestedTo IsRight ps left →
      left ≡ p ∷ rest → IsRight p → AreTestedTo IsRight ps rest
  tested_more left rest p so step good =
      let slot : ℕ = so.slot in
      let next = drop_next ps slot p rest (sym so.left_are ∙ step) in
      let grown : take (suc slot) ps ≡ take slot ps ++ p ∷ [] =
      take-suc ps slot p next.0 ∙ ap (λ x. take slot ps ++ x ∷ []) (next.1 p) in
      record {
        slot = suc slot;
        before = subst (All IsRight) (sym grown) (All-push IsRight (take slot ps) p so.before good);
        left_are = sym next.2;
      }

  pub tested_all : (left : List Pair) → AreTestedTo IsRight ps left → left ≡ [] → All IsRight ps
  tested_all left so ended =
      subst (All IsRight) (take_all so.slot ps (drop_end ps so.slot (sym so.left_are ∙ ended))) so.before

pub tested_wrong : (b : Bucket) (IsRight IsWrong : Pair → Type 0) (left rest : List Pair) (p : Pair) →
    AreTestedTo IsRight b.records left → left ≡ p ∷ rest → IsWrong p → IsFirstIn b IsRight IsWrong p.key
tested_wrong b IsRight IsWrong left rest p so step bad =
    let next = drop_next b.records so.slot p rest (sym so.left_are ∙ step) in
    record {
      slot = so.slot;
      within = next.0;
      keyed = λ d. ap (λ (q : Pair). q.key) (next.1 d);
      before = so.before;
      wrong = λ d. subst IsWrong (sym (next.1 d)) bad;
    }

-- ---- page by page

-- a device that was only read
pub record IsStill {D : Type 0} (content : D → List (List ℕ)) (honest : D → Bool) (count : D → ℕ) (old now : D) : Type
    0 where
  pub same : content now ≡ content old
  pub honesty : honest now ≡ honest old
  pub later : count old ≤ count now

module _ {D : Type 0} (content : D → List (List ℕ)) (honest : D → Bool) (count : D → ℕ) where
  pub still_none : (old : D) → IsStill content honest count old old
  still_none old = record { same = refl; honesty = refl; later = omega arith }

  pub still_more : (old now next : D) → IsStill content honest count old now → content next ≡ content now →
      honest next ≡ honest now → count now ≤ count next → IsStill content honest count old next
  still_more old now next h same honesty later = record {
    same = same ∙ h.same;
    honesty = honesty ∙ h.honesty;
    later = let before = h.later in omega (arith, before, later);
  }

-- a page that was read from a list stands there
pub stands_on : (ns : List ℕ) (i : ℕ) → i < length ns → Contains ns (slice_index ns i)
stands_on ns i within = (i, within, get_or_default ns i (slice_index ns i) 0 within)

module _ (l : Layout) (hash : RecordKey → ℕ) (s : Store) (ns : List ℕ) where
  pub right_none : AreRightRecordsIn l hash s (take 0 ns)
  right_none = All-nil (AreRightOn l hash s)

  pub right_next : (i : ℕ) → i < length ns → AreRightRecordsIn l hash s (take i ns)
      → AreRightOn l hash s (slice_index ns i) →
      AreRightRecordsIn l hash s (take (i + 1) ns)
  right_next i within before here =
      let one : i + 1 ≡ suc i = omega arith in
      subst (All (AreRightOn l hash s)) (sym (ap (λ n. take n ns) one ∙ take-suc ns i 0 within))
      (All-push (AreRightOn l hash s) (take i ns) (slice_index ns i) before here)

  pub right_end : (i : ℕ) → length ns ≤ i → AreRightRecordsIn l hash s (take i ns) → AreRightRecordsIn l hash s ns
  right_end i ended before = subst (All (AreRightOn l hash s)) (take_all i ns ended) before

  pub wrong_next : (i : ℕ) (fault : CheckFault) → i < length ns → AreRightRecordsIn l hash s (take i ns) →
      IsOfMachineToo fault ⊎ IsWrongIn l hash (bucket_at s (slice_index ns i)) (slice_index ns i) fault →
      IsOfMachineToo fault ⊎ IsFirstWrongRecord l hash s ns fault
  wrong_next i fault within before (inl machine) = inl machine
  wrong_next i fault within before (inr wrong) =
      inr (record { place = i; within = within; before = before; wrong = wrong })

-- ---- what was asked went well

pub on_ok : {T E : Type 0} (P : Type 0) (r : Result T E) (x : T) → Some x ≡ result_ok r → OnOk r P → P
on_ok P (Ok y) x e held = held
on_ok P (Err f) x e held = absurd cc

pub kept : {T : Type 0} (P : Type 0) (o : Option T) → P → IfSome o (λ x. P)
kept P None held = tt
kept P (Some x) held = held

pub same_ok : {T E : Type 0} (r : Result T E) (x y : T) → Some x ≡ result_ok r → r ≡ Ok y → x ≡ y
same_ok (Ok z) x y e is = cc
same_ok (Err f) x y e is = absurd cc

pub some_of : {T : Type 0} (P : Type 0) (o : Option T) → IfSome o (λ x. P) → IsTrue (is_some o) → P
some_of P None held some = absurd cc
some_of P (Some x) held some = held
