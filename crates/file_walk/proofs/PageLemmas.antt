-- What reading the payload of a page tells of it.
use Rattle.std.proofs.Common.{ℕ, ◌≡◌, ◌<◌, ◌≤◌, ◌⊎◌, ◌+◌, ◌++◌, take, min, IsTrue, nat_lt, Bool, true, false, List, length, Option, Some, None, Ok, Err, refl, sym, ap, subst, ◌∙◌, inl, inr, arith}
use Rattle.std.proofs.lemmas.Bool.Decides.{nat_tests}
use Rattle.directory.specs.declared.layout.TheConstants.{PAGE_ENTRIES}
use Rattle.directory.specs.declared.header.Header.{Header}
use Rattle.directory.specs.declared.read.HeaderFault.{HeaderFault}
use Rattle.directory.specs.Reading as header
use Rattle.bucket_page.specs.declared.page.Malformed.{Malformed}
use Rattle.bucket_page.specs.declared.page.Malformed.TheVariants as reasons
use Rattle.bucket_page.specs.declared.page.PageKind.{PageKind}
use Rattle.bucket_page.specs.declared.page.PageKind.TheVariants as kinds
use Rattle.bucket_page.specs.Reading.{reading, fault_of, page_in, answer}
use Rattle.bucket_page.specs.Spelling.{Spells}
use Rattle.file_walk.specs.declared.fault.StructureFault.{StructureFault}
use Rattle.file_walk.specs.declared.fault.StructureFault.TheVariants as faults
use Rattle.file_walk.specs.Files.{payload_on, said_by, said_on, header_on, directory_entries}
use Rattle.file_walk.specs.declared.form.Form.{Form}
use Rattle.file_walk.specs.Outlines.{shown, bare}
use Rattle.file_walk.specs.Order.{IsCutIn, IsTooLongIn, is_directory, IsUnread, may_stand_in, after_reading, after_standing, depth_of, malformed_in, standing_in, IsRightPageIn, IsFaultIn, IsOfMachine, IsHeaderFaultIn}
use Rattle.file_walk.specs.Readings.{IsPayloadOf, IsFormOf, TakesEntries}
use Rattle.file_walk.proofs.KeptLemmas.{taken_length}
use Rattle.directory.specs.declared.layout.Layout.{Layout}
use Rattle.directory.specs.Layouts.{IsLayout}

-- what an answer says of the fault and of the value
accepted : {X : Type 0} (fault : Option Malformed) (x y : X) → Ok x ≡ answer fault y → (fault ≡ None) × (x ≡ y)
accepted None x y e = (refl, cc)
accepted (Some reason) x y e = absurd cc

refused : {X : Type 0} (fault : Option Malformed) (reason : Malformed) (y : X) → Err reason ≡ answer fault y →
    fault ≡ Some reason
refused None reason y e = absurd cc
refused (Some other) reason y e = let same : reason ≡ other = cc in ap (λ r. Some r) (sym same)

said_is : (content : List (List ℕ)) (n : ℕ) → said_on content n ≡ page_in (payload_on content n)
unfolding said_by
said_is content n = refl

module _ (content : List (List ℕ)) (n : ℕ) (payload : List ℕ) (h : IsPayloadOf content n payload) where
  -- what was read is what the page says
  pub said : (page : PageKind) → Ok page ≡ reading payload → said_on content n ≡ page
  said page e =
      said_is content n ∙ ap page_in (sym h.value) ∙ sym (accepted (fault_of payload) page (page_in payload) e).1

  formed : (page : PageKind) → Ok page ≡ reading payload → fault_of (payload_on content n) ≡ None
  formed page e = ap fault_of (sym h.value) ∙ (accepted (fault_of payload) page (page_in payload) e).0

module _ (l : Layout) (laid : IsLayout l) where
  module _ (content : List (List ℕ)) (n : ℕ) (payload : List ℕ) (h : IsPayloadOf content n payload) where
    judged : (page : PageKind) → Ok page ≡ reading payload
        → standing_in l content n ≡ after_reading None (may_stand_in l n page)
    judged page e =
        ap (λ f. after_reading f (may_stand_in l n (said_on content n))) (formed content n payload h page e)
        ∙ ap (λ p. after_reading None (may_stand_in l n p)) (said content n payload h page e)

    abbrev deeper : Bool
    deeper = nat_lt l.greatest_depth (depth_of (said_on content n))

    -- it is right where a page of that kind may stand there, and its bucket is not too deep
    pub is_right : (page : PageKind) → Ok page ≡ reading payload → Spells page payload → may_stand_in l n page ≡ true
        → depth_of page ≤ l.greatest_depth → IsRightPageIn l content n
    is_right page e it stands shallow = record {
      sealed = h.sealed;
      formed = judged page e ∙ ap (after_reading None) stands;
      shallow = subst (λ (p : PageKind). depth_of p ≤ l.greatest_depth) (sym (said content n payload h page e)) shallow;
      spelled = subst (λ (p : PageKind). Spells p (payload_on content n)) (sym (said content n payload h page e))
          (subst (Spells page) h.value it);
    }

    -- and malformed where it may not
    pub is_misplaced : (page : PageKind) → Ok page ≡ reading payload → may_stand_in l n page ≡ false →
        IsFaultIn l content n (faults.Malformed n reasons.Kind)
    is_misplaced page e stands = (
      refl,
      h.sealed,
      ap (λ s. after_standing s deeper) (judged page e ∙ ap (after_reading None) stands),
    )

    -- or where its bucket is too deep
    pub is_too_deep : (page : PageKind) → Ok page ≡ reading payload → may_stand_in l n page ≡ true
        → l.greatest_depth < depth_of page → IsFaultIn l content n (faults.Malformed n reasons.Depth)
    is_too_deep page e stands deep =
        let same : depth_of (said_on content n) ≡ depth_of page = ap depth_of (said content n payload h page e) in
        let is : deeper ≡ true = grind (arith, nat_tests) in
        let formed : standing_in l content n ≡ None = judged page e ∙ ap (after_reading None) stands in
        (refl, h.sealed, λ i. after_standing (formed i) (is i))

    -- a payload that is refused is malformed so
    pub is_malformed : (reason : Malformed) → Err reason ≡ reading payload →
        IsFaultIn l content n (faults.Malformed n reason)
    is_malformed reason e = (
      refl,
      h.sealed,
      ap (λ f. after_standing (after_reading f (may_stand_in l n (said_on content n))) deeper)
          (ap fault_of (sym h.value) ∙ refused (fault_of payload) reason (page_in payload) e),
    )

  -- nothing is malformed of a right page
  pub right_formed : (content : List (List ℕ)) (n : ℕ) → IsRightPageIn l content n → malformed_in l content n ≡ None
  right_formed content n right =
      let shallow = right.shallow in
      let is : nat_lt l.greatest_depth (depth_of (said_on content n)) ≡ false = grind (arith, nat_tests) in
      λ i. after_standing (right.formed i) (is i)

  -- ---- where pages may stand

  not_below : (n : ℕ) → l.root_page ≤ n → nat_lt n l.root_page ≡ false
  not_below n behind = grind (arith, nat_tests)

  is_below : (n : ℕ) → n < l.root_page → nat_lt n l.root_page ≡ true
  is_below n within = grind (arith, nat_tests)

  may_behind : (n : ℕ) (page : PageKind) → l.root_page ≤ n → is_directory page ≡ false → may_stand_in l n page ≡ true
  may_behind n page behind other = rw (not_below n behind, other) refl

  may_not_behind : (n : ℕ) (page : PageKind) → l.root_page ≤ n → is_directory page ≡ true
      → may_stand_in l n page ≡ false
  may_not_behind n page behind is = rw (not_below n behind, is) refl

  pub may_below : (n : ℕ) (page : PageKind) (b : Bool) → n < l.root_page → is_directory page ≡ b
      → may_stand_in l n page ≡ b
  may_below n page b within is = rw (is_below n within, is) refl

  -- ---- the header

  header_accepted : (fault : Option HeaderFault) (x y : Header) → Ok x ≡ header.answer fault y → x ≡ y
  header_accepted None x y e = cc
  header_accepted (Some reason) x y e = absurd cc

  pub header_is : (content : List (List ℕ)) (payload : List ℕ) (h : Header) → IsPayloadOf content 0 payload →
      Ok h ≡ header.reading_in l payload → h ≡ header_on content
  unfolding header_on
  header_is content payload h p e =
      header_accepted (header.fault_in l payload) h (header.header_at payload) e ∙ ap header.header_at p.value

  pub header_read : (content : List (List ℕ)) (payload : List ℕ) (h : Header) → IsPayloadOf content 0 payload →
      Ok h ≡ header.reading_in l payload → header.reading_in l (payload_on content 0) ≡ Ok (header_on content)
  header_read content payload h p e =
      ap (header.reading_in l) (sym p.value) ∙ sym e ∙ ap (λ x. Ok x) (header_is content payload h p e)

  -- a page that is there and not sealed is wrong so; of page 0 it is the header's fault also that there is no page
  module _ (content : List (List ℕ)) where
    pub seal_fault : (n : ℕ) (fault : StructureFault) → n < length content →
        IsOfMachine fault ⊎ IsUnread content n fault → IsOfMachine fault ⊎ IsFaultIn l content n fault
    seal_fault n fault there (inl machine) = inl machine
    seal_fault n fault there (inr (inl past)) = absurd (omega (arith, there, past.1))
    seal_fault n fault there (inr (inr bad)) = inr (rw bad.0 (refl, bad.2))

    pub header_fault : (fault : StructureFault) → IsOfMachine fault ⊎ IsUnread content 0 fault →
        IsOfMachine fault ⊎ IsHeaderFaultIn l content fault
    header_fault fault (inl machine) = inl machine
    header_fault fault (inr (inl past)) = inr (rw past.0 (inl (omega (arith, past.1))))
    header_fault fault (inr (inr bad)) = inr (rw bad.0 (refl, bad.1, bad.2))

    -- a page from the root on that is no directory page is kept so
    pub form_taken : (n : ℕ) (payload : List ℕ) (page : PageKind) (form : Form) → IsPayloadOf content n payload →
        Ok page ≡ reading payload → Spells page payload → l.root_page ≤ n → is_directory page ≡ false →
        depth_of page ≤ l.greatest_depth → shown form ≡ bare page → IsFormOf l content n form
    form_taken n payload page form h e it behind other shallow same = record {
      right = is_right content n payload h page e it (may_behind n page behind other) shallow;
      value = same ∙ ap bare (sym (said content n payload h page e));
    }

    pub form_too_deep : (n : ℕ) (payload : List ℕ) (page : PageKind) (fault : StructureFault) →
        IsPayloadOf content n payload → Ok page ≡ reading payload → l.root_page ≤ n → is_directory page ≡ false →
        l.greatest_depth < depth_of page → fault ≡ faults.Malformed n reasons.Depth → IsFaultIn l content n fault
    form_too_deep n payload page fault h e behind other deep is =
        rw is (is_too_deep content n payload h page e (may_behind n page behind other) deep)

    pub directory_misplaced : (n : ℕ) (payload : List ℕ) (page : PageKind) (fault : StructureFault) →
        IsPayloadOf content n payload → Ok page ≡ reading payload → n < l.root_page → is_directory page ≡ false →
        fault ≡ faults.Malformed n reasons.Kind → IsFaultIn l content n fault
    directory_misplaced n payload page fault h e below other is =
        rw is (is_misplaced content n payload h page e (may_below n page false below other))

    pub form_misplaced : (n : ℕ) (payload : List ℕ) (page : PageKind) (fault : StructureFault)
        → IsPayloadOf content n payload →
        Ok page ≡ reading payload → l.root_page ≤ n → is_directory page ≡ true →
        fault ≡ faults.Malformed n reasons.Kind → IsFaultIn l content n fault
    form_misplaced n payload page fault h e behind is same =
        rw same (is_misplaced content n payload h page e (may_not_behind n page behind is))

  -- page 0 is a header that tells of another number of pages
  module _ (content : List (List ℕ)) (payload : List ℕ) (h : Header) (pages : ℕ) (p : IsPayloadOf content 0 payload)
      (e : Ok h ≡ header.reading_in l payload) (counted : pages ≡ length content) where
    pub header_cut : pages < h.pages → IsCutIn l content
    header_cut less = record {
      sealed = p.sealed;
      read = header_read content payload h p e;
      more = subst (λ n. n < (header_on content).pages) counted
          (subst (λ (x : Header). pages < x.pages) (header_is content payload h p e) less);
    }

    pub header_too_long : h.pages < pages → IsTooLongIn l content
    header_too_long less = record {
      sealed = p.sealed;
      read = header_read content payload h p e;
      fewer = subst (λ n. (header_on content).pages < n) counted
          (subst (λ (x : Header). x.pages < pages) (header_is content payload h p e) less);
    }

  -- the entries of a directory page are taken
  pub entries_taken : (honest : Bool) (content : List (List ℕ)) (n most : ℕ) (old new es payload : List ℕ) →
      (IsTrue honest → IsPayloadOf content n payload) → Ok (kinds.Directory es) ≡ reading payload →
      Spells (kinds.Directory es) payload → n < l.root_page → length es ≡ PAGE_ENTRIES → new ≡ take most (old ++ es) →
      TakesEntries l honest content n most old new
  entries_taken honest content n most old new es payload h e it below long taken = record {
    number = ap length taken ∙ taken_length most old es ∙ ap (λ k. min most (length old + k)) long;
    right = λ is. is_right content n payload (h is) (kinds.Directory es) e it
        (may_below n (kinds.Directory es) true below refl) (omega arith);
    value = λ is.
        taken
        ∙ ap (λ p. take most (old ++ directory_entries p)) (sym (said content n payload (h is) (kinds.Directory es) e));
  }
