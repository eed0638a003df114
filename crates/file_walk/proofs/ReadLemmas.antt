-- The header, the entries and the pages together are the outline of a file.
use Rattle.std.proofs.Common.{ℕ, ◌≡◌, ◌⊎◌, ◌^◌, Bool, List, length, map, take, IsTrue, sym, ap, subst, ◌∙◌, inl, inr, arith}
use Rattle.directory.specs.declared.layout.TheConstants.{FIRST_DIRECTORY_PAGE}
use Rattle.directory.specs.declared.header.Header.{Header}
use Rattle.bucket_page.specs.declared.page.PageKind.{PageKind}
use Rattle.hash_file.specs.Store.{Store}
use Rattle.file_walk.specs.declared.fault.StructureFault.{StructureFault}
use Rattle.file_walk.specs.declared.form.Form.{Form}
use Rattle.file_walk.specs.Files.{layout_in, entries_in, pages_in}
use Rattle.file_walk.specs.Outlines.{IsOutlineIn, shown_in, bare}
use Rattle.file_walk.specs.Order.{HasHeaderIn, AreRightIn, IsOfMachine, IsFirstWrongIn, IsReadingFaultIn}
use Rattle.file_walk.specs.Readings.{IsHeaderOf, AreEntriesOf, AreFormsOf, IsOutlineOf}
use Rattle.file_walk.proofs.PagesLemmas.{right_join}
use Rattle.directory.specs.declared.layout.Layout.{Layout}
use Rattle.directory.specs.Layouts.{IsLayout}

module _ (l : Layout) (laid : IsLayout l) where
  -- what is said of a device stands while its pages and its honesty stay
  pub moved : (P : Bool → List (List ℕ) → Type 0) (h k : Bool) (content now : List (List ℕ)) → k ≡ h → now ≡ content →
      P k now → P h content
  moved P h k content now e f p = subst (λ x. P x content) e (subst (λ y. P k y) f p)

  module _ (honest : Bool) (content : List (List ℕ)) (header : Header) (es : List ℕ) (fs : List Form)
      (a : IsHeaderOf l honest content header) (b : AreEntriesOf l honest content header.depth es)
      (c : AreFormsOf l honest content fs) where
    pub outline_kept : IsOutlineIn l header es fs
    outline_kept = record {
      layout = laid;
      depth = a.in_range.depth;
      counts = a.in_range.numbers.local_depths;
      least = a.in_range.least;
      most = a.in_range.most;
      below = b.number;
      pages = c.number ∙ sym a.as_many;
      low = c.low;
    }

    pub outline_read : IsTrue honest → IsOutlineOf l content (shown_in l header es fs)
    outline_read is = record {
      header = a.right is;
      pages = right_join l laid content FIRST_DIRECTORY_PAGE l.root_page (length content) (b.right is) (c.right is);
      value =
          ap (λ (xs : List ℕ). shown_in l header xs fs) (b.value is)
          ∙ ap (λ (ps : List PageKind). store header (take (2 ^ header.depth) (entries_in l content)) ps) (c.value is)
          ∙ ap (λ (h : Header). store h (take (2 ^ h.depth) (entries_in l content)) (map bare (pages_in l content)))
          (a.value is);
    }
      where
        store : Header → List ℕ → List PageKind → Store
        store h xs ps = record { layout = layout_in l; header = h; entries = xs; pages = ps }

  -- what is wrong from the root on is the first that is wrong, where the directory pages are right
  pub root_wrong : (content : List (List ℕ)) (fault : StructureFault) → HasHeaderIn l content →
      AreRightIn l content FIRST_DIRECTORY_PAGE l.root_page →
      IsOfMachine fault ⊎ IsFirstWrongIn l content l.root_page fault →
      IsReadingFaultIn l content fault
  root_wrong content fault header right (inl machine) = inl machine
  root_wrong content fault header right (inr w) = inr (inr (
    header,
    record {
      page = w.page;
      behind = let behind = w.behind in omega arith;
      within = w.within;
      before = right_join l laid content FIRST_DIRECTORY_PAGE l.root_page w.page right w.before;
      wrong = w.wrong;
    },
  ))
