-- The pages of a file by their numbers, and the entries of its directory by its pages.
use Rattle.std.proofs.Common.{ℕ, ◌≡◌, ◌⊎◌, ◌+◌, ◌-◌, ◌<◌, ◌≤◌, Bool, List, [], ◌∷◌, ◌++◌, length, map, take, drop, replicate, get_or, refl, sym, ap, subst, ◌∙◌, inl, inr, length-append, append-nil, nat_lt, ◌*◌, ◌^◌, lit<, min, true, false, zero, suc, IsTrue, arith}
use Rattle.std.specs.List.{flat_map}
use Rattle.std.proofs.lemmas.List.{map-append, get_or-append_right, get_or-drop, get_or-map, length-map, length-drop, length-replicate, map_more, take_more, take_at, take_all}
use Rattle.std.proofs.Math.Nat.{pow-le-pow_right}
use Rattle.std.proofs.lemmas.Grind.{flat_map-append}
use Rattle.std.proofs.lemmas.Bool.Decides.{nat_tests}
use Rattle.directory.specs.declared.layout.TheConstants.{FIRST_DIRECTORY_PAGE, PAGE_ENTRIES}
use Rattle.bucket_page.specs.declared.page.PageKind.{PageKind}
use Rattle.bucket_page.specs.declared.page.PageKind.TheVariants as kinds
use Rattle.file_walk.specs.declared.fault.StructureFault.{StructureFault}
use Rattle.file_walk.specs.declared.form.Form.{Form}
use Rattle.file_walk.specs.declared.form.Form.TheVariants as forms
use Rattle.file_walk.specs.Files.{said_by, said_on, directory_entries, entries_in, pages_in}
use Rattle.file_walk.specs.Outlines.{shown, bare}
use Rattle.file_walk.proofs.KeptLemmas.{taken_again}
use Rattle.file_walk.specs.Order.{AreRightIn, IsRightPageIn, IsFaultIn, IsFirstWrongIn, IsOfMachine}
use Rattle.directory.specs.declared.layout.Layout.{Layout}
use Rattle.directory.specs.Layouts.{IsLayout}

-- the pages from here up to `to` are right, where the device is honest; it has the same pages still
pub record IsReadTo (l : Layout) {D : Type 0} (content : D → List (List ℕ)) (honest : D → Bool) (faults : D → ℕ)
    (old now : D)
    (from to : ℕ) : Type 0 where
  pub same : content now ≡ content old
  pub honesty : honest now ≡ honest old
  pub later : faults old ≤ faults now
  pub right : IsTrue (honest old) → AreRightIn l (content old) from to

-- the entries of the directory pages before page n
abbrev pub entries_before : List (List ℕ) → ℕ → List ℕ
entries_before content n =
    flat_map (λ (page : List ℕ). directory_entries (said_by page))
    (take (n - FIRST_DIRECTORY_PAGE) (drop FIRST_DIRECTORY_PAGE content))

module _ (l : Layout) (laid : IsLayout l) where
  -- ---- a list behind so many equal items

  module _ {X : Type 0} (x : X) (r : ℕ) (f : List ℕ → X) (content : List (List ℕ)) where
    behind_length : r ≤ length content → length (replicate r x ++ map f (drop r content)) ≡ length content
    behind_length long =
        length-append (replicate r x) (map f (drop r content))
        ∙ ap (λ n. n + length (map f (drop r content))) (length-replicate r x)
        ∙ ap (λ n. r + n) (length-map (drop r content) f ∙ length-drop r content)
        ∙ let same : r + (length content - r) ≡ length content = omega arith in same

    behind_at : (n : ℕ) (d : X) → r ≤ n → n < length content →
        get_or (replicate r x ++ map f (drop r content)) n d ≡ f (get_or content n [])
    behind_at n d behind within =
        let left : n - r < length (drop r content) = rw length-drop (omega arith) in
        let place : r + (n - r) ≡ n = omega arith in
        get_or-append_right (replicate r x) (map f (drop r content)) r n d (length-replicate r x) behind
        ∙ get_or-map f (drop r content) (n - r) [] d left
        ∙ ap f (get_or-drop r content (n - r) [] ∙ ap (λ k. get_or content k []) place)

    behind_start : take r (replicate r x ++ map f (drop r content)) ≡ replicate r x
    behind_start = take_at (replicate r x) (map f (drop r content)) r (length-replicate r x)

  pub pages_length : (content : List (List ℕ)) → l.root_page ≤ length content
      → length (pages_in l content) ≡ length content
  unfolding pages_in
  pages_length content long = behind_length (kinds.Directory []) l.root_page said_by content long

  pub pages_at : (content : List (List ℕ)) (n : ℕ) (d : PageKind) → l.root_page ≤ n → n < length content →
      get_or (pages_in l content) n d ≡ said_on content n
  unfolding pages_in
  pages_at content n d behind within = behind_at (kinds.Directory []) l.root_page said_by content n d behind within

  pub pages_start : (content : List (List ℕ)) → take l.root_page (pages_in l content)
      ≡ replicate l.root_page (kinds.Directory [])
  unfolding pages_in
  pages_start content = behind_start (kinds.Directory []) l.root_page said_by content

  map_replicated : {X Y : Type 0} (f : X → Y) (n : ℕ) (x : X) → map f (replicate n x) ≡ replicate n (f x)
  map_replicated f zero x = refl
  map_replicated f (suc n) x = ap (λ ys. f x ∷ ys) (map_replicated f n x)

  -- below the root nothing is kept
  pub forms_start : (content : List (List ℕ)) →
      map shown (replicate l.root_page forms.Other) ≡ map bare (take l.root_page (pages_in l content))
  forms_start content =
      map_replicated shown l.root_page forms.Other ∙ sym (map_replicated bare l.root_page (kinds.Directory []))
      ∙ ap (map bare) (sym (pages_start content))

  -- one page more is kept
  pub forms_more : (content : List (List ℕ)) (fs : List Form) (n : ℕ) (form : Form) → l.root_page ≤ n
      → n < length content →
      map shown fs ≡ map bare (take n (pages_in l content)) → shown form ≡ bare (said_on content n) →
      map shown (fs ++ form ∷ []) ≡ map bare (take (n + 1) (pages_in l content))
  forms_more content fs n form behind within kept same =
      let long : l.root_page ≤ length content = omega arith in
      let there : n < length (pages_in l content) = subst (λ k. n < k) (sym (pages_length content long)) within in
      let d : PageKind = kinds.Directory [] in
      map-append shown fs (form ∷ [])
      ∙ ap (λ ps. ps ++ shown form ∷ []) kept
      ∙ ap (λ p. map bare (take n (pages_in l content)) ++ p ∷ [])
      (same ∙ ap bare (sym (pages_at content n d behind within)))
      ∙ sym (map_more bare (pages_in l content) n d there)

  -- ---- right pages

  pub right_none : (content : List (List ℕ)) (from : ℕ) → AreRightIn l content from from
  right_none content from = λ n behind within. absurd (omega arith)

  pub right_more : (content : List (List ℕ)) (from n : ℕ) → AreRightIn l content from n → IsRightPageIn l content n →
      AreRightIn l content from (n + 1)
  right_more content from n before here = λ m behind within.
      elim (split m within) [
        | inl less ↦ before m behind less
        | inr same ↦ subst (IsRightPageIn l content) (sym same) here
      ]
    where
      split : (m : ℕ) → m < n + 1 → (m < n) ⊎ (m ≡ n)
      split m within = at_most m (nat_lt m n) refl within
        where
          at_most : (m : ℕ) (b : Bool) → nat_lt m n ≡ b → m < n + 1 → (m < n) ⊎ (m ≡ n)
          at_most m true less within = inl (grind (arith, nat_tests))
          at_most m false more within = inr (grind (arith, nat_tests))

  pub right_join : (content : List (List ℕ)) (from middle to : ℕ) → AreRightIn l content from middle →
      AreRightIn l content middle to → AreRightIn l content from to
  right_join content from middle to low high = λ n behind within.
      on_side n (nat_lt n middle) refl behind within
    where
      on_side : (n : ℕ) (b : Bool) → nat_lt n middle ≡ b → from ≤ n → n < to → IsRightPageIn l content n
      on_side n true less behind within = low n behind (grind (arith, nat_tests))
      on_side n false more behind within = high n (grind (arith, nat_tests)) within

  -- the first page that is wrong
  pub first_wrong : (content now : List (List ℕ)) (from n : ℕ) (fault : StructureFault) → now ≡ content →
      AreRightIn l content from n → from ≤ n → n < length content → IsOfMachine fault ⊎ IsFaultIn l now n fault →
      IsOfMachine fault ⊎ IsFirstWrongIn l content from fault
  first_wrong content now from n fault same before behind within (inl machine) = inl machine
  first_wrong content now from n fault same before behind within (inr wrong) = inr (record {
    page = n;
    behind = behind;
    within = within;
    before = before;
    wrong = subst (λ pages. IsFaultIn l pages n fault) same wrong;
  })

  -- ---- a device whose pages are read one by one

  module _ {D : Type 0} (content : D → List (List ℕ)) (honest : D → Bool) (faults : D → ℕ) where
    pub read_none : (old : D) (from : ℕ) → IsReadTo l content honest faults old old from from
    read_none old from = record {
      same = refl;
      honesty = refl;
      later = omega arith;
      right =
          λ is. right_none (content old) from;
    }

    pub read_more : (old now next : D) (from to : ℕ) → IsReadTo l content honest faults old now from to →
        content next ≡ content now → honest next ≡ honest now → faults old ≤ faults next →
        (IsTrue (honest now) → IsRightPageIn l (content now) to)
        → IsReadTo l content honest faults old next from (to + 1)
    read_more old now next from to h same honesty later right = record {
      same = same ∙ h.same;
      honesty = honesty ∙ h.honesty;
      later = later;
      right = λ is. right_more (content old) from to (h.right is)
          (subst (λ pages. IsRightPageIn l pages to) h.same (right (subst IsTrue (sym h.honesty) is)));
    }

  -- ---- entries

  pub entries_all : (content : List (List ℕ)) → entries_before content l.root_page ≡ entries_in l content
  unfolding entries_in
  entries_all content =
      let pages : l.root_page - FIRST_DIRECTORY_PAGE ≡ l.directory_pages = omega (arith, laid.root) in
      ap (λ (n : ℕ). flat_map (λ (page : List ℕ). directory_entries (said_by page))
      (take n (drop FIRST_DIRECTORY_PAGE content)))
      pages

  -- those of one page more
  pub entries_more : (content : List (List ℕ)) (n : ℕ) → FIRST_DIRECTORY_PAGE ≤ n → n < length content →
      entries_before content (n + 1) ≡ entries_before content n ++ directory_entries (said_on content n)
  entries_more content n behind within =
      let f : List ℕ → List ℕ = λ page. directory_entries (said_by page) in
      let k : n + 1 - FIRST_DIRECTORY_PAGE ≡ (n - FIRST_DIRECTORY_PAGE) + 1 = omega arith in
      let place : FIRST_DIRECTORY_PAGE + (n - FIRST_DIRECTORY_PAGE) ≡ n = omega arith in
      let left : n - FIRST_DIRECTORY_PAGE < length (drop FIRST_DIRECTORY_PAGE content) = rw length-drop (omega arith) in
      ap (λ i. flat_map f (take i (drop FIRST_DIRECTORY_PAGE content))) k
      ∙ ap (flat_map f) (take_more (drop FIRST_DIRECTORY_PAGE content) (n - FIRST_DIRECTORY_PAGE) [] left)
      ∙ flat_map-append f (take (n - FIRST_DIRECTORY_PAGE) (drop FIRST_DIRECTORY_PAGE content)) _
      ∙ ap (λ xs. entries_before content n ++ xs) (append-nil
      (f (get_or (drop FIRST_DIRECTORY_PAGE content) (n - FIRST_DIRECTORY_PAGE) [])))
      ∙ ap (λ page. entries_before content n ++ f page)
      (get_or-drop FIRST_DIRECTORY_PAGE content (n - FIRST_DIRECTORY_PAGE) [] ∙ ap (λ i. get_or content i []) place)

  -- the entries of one page more are kept
  pub entries_kept : (content : List (List ℕ)) (n most : ℕ) (old new : List ℕ) → FIRST_DIRECTORY_PAGE ≤ n →
      n < length content → old ≡ take most (entries_before content n) →
      new ≡ take most (old ++ directory_entries (said_on content n)) → new ≡ take most (entries_before content (n + 1))
  entries_kept content n most old new behind within before taken =
      taken ∙ ap (λ es. take most (es ++ directory_entries (said_on content n))) before
      ∙ taken_again most (entries_before content n) (directory_entries (said_on content n))
      ∙ ap (take most) (sym (entries_more content n behind within))

  pub entries_counted : (most n a b : ℕ) → FIRST_DIRECTORY_PAGE ≤ n →
      a ≡ min most (PAGE_ENTRIES * (n - FIRST_DIRECTORY_PAGE)) → b ≡ min most (a + PAGE_ENTRIES) →
      b ≡ min most (PAGE_ENTRIES * (n + 1 - FIRST_DIRECTORY_PAGE))
  entries_counted most n a b behind before taken = omega arith

  -- at the end all entries of the directory are kept
  module _ (content : List (List ℕ)) (d most n : ℕ) (es : List ℕ) (small : d ≤ l.greatest_depth) (is : most ≡ 2 ^ d)
      (ended : n ≡ l.root_page) where
    pub entries_number : length es ≡ min most (PAGE_ENTRIES * (n - FIRST_DIRECTORY_PAGE)) → length es ≡ 2 ^ d
    entries_number kept =
        let bound : 2 ^ d ≤ 2 ^ l.greatest_depth = pow-le-pow_right {n = 2} (lit< tt) small in
        let pages : length es ≡ min most (PAGE_ENTRIES * (l.root_page - FIRST_DIRECTORY_PAGE)) =
        subst (λ k. length es ≡ min most (PAGE_ENTRIES * (k - FIRST_DIRECTORY_PAGE))) ended kept in
        omega (arith, bound, pages, is, laid.root, laid.room)

    pub entries_whole : es ≡ take most (entries_before content n) → es ≡ take (2 ^ d) (entries_in l content)
    entries_whole kept =
        kept ∙ ap (λ k. take k (entries_before content n)) is
        ∙ ap (take (2 ^ d)) (ap (entries_before content) ended ∙ entries_all content)

  -- and all pages
  pub forms_end : (content : List (List ℕ)) (fs : List Form) (n : ℕ) → l.root_page ≤ length content
      → n ≡ length content →
      map shown fs ≡ map bare (take n (pages_in l content)) → map shown fs ≡ map bare (pages_in l content)
  forms_end content fs n long ended kept =
      kept ∙ ap (map bare) (take_all n (pages_in l content)
      (subst (λ k. k ≤ n) (sym (pages_length content long)) (subst (λ k. k ≤ n) ended (omega arith))))
