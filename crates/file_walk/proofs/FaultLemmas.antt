-- Nothing is wrong with what is right.
use Rattle.std.proofs.Common.{ℕ, suc, ◌≡◌, ◌≢◌, ◌+◌, ◌<◌, nat_le, nat_lt, ◌&&◌, Bool, true, false, if◌then◌else◌, List, [], ◌∷◌, ◌++◌, length, refl, sym, ap, subst, ◌∙◌, inl, inr, arith}
use Rattle.std.specs.List.{Contains}
use Rattle.std.proofs.lemmas.List.{append_assoc, append-nil}
use Rattle.std.proofs.lemmas.Bool.Decides.{nat_tests}
use Rattle.directory.specs.declared.pseudokey.TheConstants.{POSITIONS}
use Rattle.directory.specs.Links.{Links}
use Rattle.directory.specs.Ranges.{stop_of}
use Rattle.directory.specs.Tiles.{Tiles, IsTileAt}
use Rattle.directory.proofs.MemberLaws.{contains_head, contains_tail}
use Rattle.directory.proofs.PartitionLaws.{partition_tiles}
use Rattle.hash_file.specs.Store.{Store, range_at, next_at, IsFreePage}
use Rattle.hash_file.specs.Chain.{times}
use Rattle.hash_file.specs.Sound.{is_numbered}
use Rattle.hash_file.proofs.Lists.{times_append, times_member}
use Rattle.file_walk.specs.declared.fault.StructureFault.{StructureFault}
use Rattle.file_walk.specs.declared.fault.StructureFault.TheVariants as faults
use Rattle.file_walk.specs.Files.{file_in, pages_in}
use Rattle.file_walk.specs.Order.{HasHeaderIn, IsHeaderFaultIn, IsFaultIn, IsRightPageIn}
use Rattle.file_walk.specs.Structure.{IsRightStructureIn, IsFirstWrongThingIn}
use Rattle.file_walk.specs.Walks.{IsRightChain, AreRightSpares, IsNotFree, IsLost, IsRightDirectory, IsChainFault, IsSparesFault, IsDirectoryFault}
use Rattle.file_walk.proofs.PageLemmas.{right_formed}
use Rattle.file_walk.proofs.ChainLemmas.{broken_is_no_chain, no_tile_behind}
use Rattle.directory.specs.declared.layout.Layout.{Layout}
use Rattle.directory.specs.Layouts.{IsLayout}

-- what stands between two lists stands on both together
contains_inside : (front : List ℕ) (x : ℕ) (back : List ℕ) → Contains (front ++ x ∷ back) x
contains_inside [] x back = contains_head x back
contains_inside (y ∷ front) x back = contains_tail y x (front ++ x ∷ back) (contains_inside front x back)

-- ---- pages

module _ (l : Layout) (laid : IsLayout l) where
  header_right : (content : List (List ℕ)) (fault : StructureFault) → HasHeaderIn l content
      → IsHeaderFaultIn l content fault → ⊥
  header_right content (faults.BadDigest page) h w = w.2 h.sealed
  header_right content faults.PastEnd h (inl none) =
      let some = h.as_many in let least = h.in_range.least in absurd (omega arith)
  header_right content faults.PastEnd h (inr cut) = let same = h.as_many in let more = cut.more in absurd (omega arith)
  header_right content faults.BadHeader h (inl refused) = let read = h.read in let other = refused.read in absurd cc
  header_right content faults.BadHeader h (inr long) = let same = h.as_many in let fewer =
      long.fewer in absurd (omega arith)
  header_right content faults.BadVersion h refused = let read = h.read in let other = refused.read in absurd cc
  header_right content fault h w = absurd w

  page_right : (content : List (List ℕ)) (n : ℕ) (fault : StructureFault) → IsRightPageIn l content n →
      IsFaultIn l content n fault → ⊥
  page_right content n (faults.BadDigest page) r w = w.1 r.sealed
  page_right content n (faults.Malformed page reason) r w =
      let none = right_formed l laid content n r in let some = w.2 in absurd cc
  page_right content n fault r w = absurd w

-- ---- the chain

module _ (s : Store) where
  -- from a page and a position on there is one chain
  one_from : (ns ms : List ℕ) (x y p : ℕ) → x ≡ y → Links (next_at s) x ns 0 → Tiles (range_at s) p ns POSITIONS →
      Links (next_at s) y ms 0 → Tiles (range_at s) p ms POSITIONS → ns ≡ ms
  one_from [] [] x y p same l t k u = refl
  one_from [] (z ∷ zs) x y p same l t k u =
      absurd (no_tile_behind (range_at s z) (subst (IsTileAt (range_at s z)) t u.0))
  one_from (w ∷ ws) [] x y p same l t k u =
      absurd (no_tile_behind (range_at s w) (subst (IsTileAt (range_at s w)) u t.0))
  one_from (w ∷ ws) (z ∷ zs) x y p same l t k u =
      let is : w ≡ z = sym l.0 ∙ same ∙ k.0 in
      let rest : ws ≡ zs = one_from ws zs (next_at s w) (next_at s z) (stop_of (range_at s w)) (ap (next_at s) is)
      l.1 t.1 k.1
      (subst (λ m. Tiles (range_at s) (stop_of (range_at s m)) zs POSITIONS) (sym is) u.1) in
      ap (λ m. m ∷ ws) is ∙ ap (λ xs. z ∷ xs) rest

  pub one_chain : (ns ms : List ℕ) → IsRightChain s ns → IsRightChain s ms → ns ≡ ms
  one_chain ns ms c d =
      one_from ns ms s.layout.root s.layout.root 0 refl c.linked (partition_tiles (range_at s) ns c.partition) d.linked
      (partition_tiles (range_at s) ms d.partition)

  chain_right : (ns : List ℕ) (fault : StructureFault) → IsRightChain s ns → IsChainFault s fault → ⊥
  chain_right ns (faults.ChainBroken page) c w = broken_is_no_chain s page ns w c
  chain_right ns fault c w = absurd w

  -- ---- the free pages

  -- a list that was walked to a page is the front of the whole list
  front_of : (xs ys : List ℕ) (x y n : ℕ) → x ≡ y → Links (next_at s) x xs n → ((m : ℕ) → Contains xs m → m ≢ 0) →
      Links (next_at s) y ys 0 → ((m : ℕ) → Contains ys m → m ≢ 0) →
      (rest : List ℕ) × (ys ≡ xs ++ rest) × Links (next_at s) n rest 0
  front_of [] ys x y n same l begun k all = (ys, refl, subst (λ m. Links (next_at s) m ys 0) (sym same ∙ l) k)
  front_of (w ∷ ws) [] x y n same l begun k all =
      absurd (begun w (contains_head w ws) (sym l.0 ∙ same ∙ k))
  front_of (w ∷ ws) (z ∷ zs) x y n same l begun k all =
      let is : w ≡ z = sym l.0 ∙ same ∙ k.0 in
      let r = front_of ws zs (next_at s w) (next_at s z) n (ap (next_at s) is) l.1
      (λ m on. begun m (contains_tail w m ws on))
      k.1 (λ m on. all m (contains_tail z m zs on)) in
      (r.0, ap (λ m. m ∷ zs) (sym is) ∙ ap (λ ms. w ∷ ms) r.1, r.2)

  module _ (ns spares : List ℕ) (r : AreRightSpares s ns spares) (header : is_numbered s 0 ≡ false) where
    -- page 0 is not on the free list
    begun : (m : ℕ) → Contains spares m → m ≢ 0
    begun m on same =
        let stands = times_member m spares on in
        let is : times m spares ≡ suc stands.0 = stands.1 in
        let parts = times_append m ns spares in
        let role : times m (ns ++ spares) ≡ 0 =
        r.roles m ∙ ap (λ (b : Bool). if b then 1 else 0) (ap (is_numbered s) same ∙ header) in
        absurd (omega arith)

    -- a page on the free list is one of the file, and stands there once
    numbered : (m : ℕ) → Contains spares m → (b : Bool) → is_numbered s m ≡ b → is_numbered s m ≡ true
    numbered m on true e = e
    numbered m on false e =
        let stands = times_member m spares on in
        let is : times m spares ≡ suc stands.0 = stands.1 in
        let parts = times_append m ns spares in
        let role : times m (ns ++ spares) ≡ 0 = r.roles m ∙ ap (λ (b : Bool). if b then 1 else 0) e in
        absurd (omega arith)

    -- behind a free list so far comes a page that is free and was not met
    goes_on : (so_far rest : List ℕ) (page : ℕ) → spares ≡ so_far ++ rest → Links (next_at s) page rest 0 → page ≢ 0 →
        (IsFreePage s page × (page < length s.pages)) × (times page (ns ++ so_far) ≡ 0)
    goes_on so_far [] page parts l other = absurd (other l)
    goes_on so_far (z ∷ zs) page parts l other =
        ((r.spared.free page on, within), fresh)
      where
        on : Contains spares page
        on = subst (λ xs. Contains xs page) (sym parts)
            (subst (λ m. Contains (so_far ++ z ∷ zs) m) (sym l.0) (contains_inside so_far z zs))

        number : is_numbered s page ≡ true
        number = numbered page on (is_numbered s page) refl

        within : page < length s.pages
        within = let e = number in grind (arith, nat_tests)

        fresh : times page (ns ++ so_far) ≡ 0
        fresh =
            let stands = times_member page (z ∷ zs) (subst (λ m. Contains (z ∷ zs) m) (sym l.0) (contains_head z zs)) in
            let is : times page (z ∷ zs) ≡ suc stands.0 = stands.1 in
            let whole : times page (ns ++ spares) ≡ times page (ns ++ so_far) + times page (z ∷ zs) =
            ap (λ xs. times page (ns ++ xs)) parts ∙ ap (times page) (sym (append_assoc ns so_far (z ∷ zs)))
            ∙ times_append page (ns ++ so_far) (z ∷ zs) in
            let role : times page (ns ++ spares) ≡ 1 =
            r.roles page ∙ ap (λ (b : Bool). if b then 1 else 0) number in
            omega arith

    not_free_right : (page : ℕ) → IsNotFree s ns page → ⊥
    not_free_right page w =
        let f = front_of w.so_far spares s.header.first_free s.header.first_free page refl w.right.linked
        (λ m on. (w.right.free m on).2) r.spared.linked begun in
        let next = goes_on w.so_far f.0 page f.1 f.2 w.goes_on in
        elim w.wrong [ inl other ↦ other next.0 | inr met ↦ let none = next.1 in absurd (omega arith) ]

    lost_right : (page : ℕ) → IsLost s ns page → ⊥
    lost_right page w =
        let f = front_of w.spares spares s.header.first_free s.header.first_free 0 refl w.right.linked
        (λ m on. (w.right.free m on).2) r.spared.linked begun in
        let role : times page (ns ++ spares) ≡ 1 = r.roles page ∙ ap (λ (b : Bool). if b then 1 else 0) w.numbered in
        let whole : times page (ns ++ spares) ≡ 0 =
        ap (λ xs. times page (ns ++ xs)) (f.1 ∙ nothing_behind f.0 f.1 f.2) ∙ w.nowhere in
        absurd (omega arith)
      where
        nothing_behind : (rest : List ℕ) → spares ≡ w.spares ++ rest → Links (next_at s) 0 rest 0
            → w.spares ++ rest ≡ w.spares
        nothing_behind [] parts l = append-nil w.spares
        nothing_behind (z ∷ zs) parts l =
            absurd (begun z (subst (λ xs. Contains xs z) (sym parts) (contains_inside w.spares z zs)) (sym l.0))

    spares_right : (fault : StructureFault) → IsSparesFault s ns fault → ⊥
    spares_right (faults.NotFree page) w = not_free_right page w
    spares_right (faults.PageLost page) w = lost_right page w
    spares_right fault w = absurd w

  directory_right : (ns : List ℕ) (fault : StructureFault) → IsRightDirectory s ns → IsDirectoryFault s ns fault → ⊥
  directory_right ns (faults.TooDeep page) d w =
      let shallow = d.shallow page w.0 in let deep = w.1 in absurd (omega arith)
  directory_right ns (faults.WrongEntry entry) d w = w.1 (d.entries entry w.0)
  directory_right ns (faults.WrongCount depth) d w = w.1 (d.counts depth w.0)
  directory_right ns fault d w = absurd w

-- ---- all of it

module _ (l : Layout) (laid : IsLayout l) where
  no_page_0 : (n : ℕ) → (nat_le l.root_page 0 && nat_lt 0 n) ≡ false
  no_page_0 n = let root = laid.root in grind (arith, nat_tests)

  pub right_has_no_fault : (content : List (List ℕ)) (ns : List ℕ) (fault : StructureFault) →
      IsRightStructureIn l content ns → IsFirstWrongThingIn l content fault → ⊥
  right_has_no_fault content ns fault r (inl w) = header_right l laid content fault r.pages.header w
  right_has_no_fault content ns fault r (inr (inl w)) =
      page_right l laid content w.1.page fault (r.pages.pages w.1.page w.1.behind w.1.within) w.1.wrong
  right_has_no_fault content ns fault r (inr (inr (inl w))) = chain_right (file_in l content) ns fault r.chain w.wrong
  right_has_no_fault content ns fault r (inr (inr (inr (inl w)))) =
      let same : w.chain ≡ ns = one_chain (file_in l content) w.chain ns w.chain_is r.chain in
      spares_right (file_in l content) ns r.spares.0 r.spares.1 (no_page_0 (length (pages_in l content))) fault
      (subst (λ xs. IsSparesFault (file_in l content) xs fault) same w.wrong)
  right_has_no_fault content ns fault r (inr (inr (inr (inr w)))) =
      let same : w.chain ≡ ns = one_chain (file_in l content) w.chain ns w.chain_is r.chain in
      directory_right (file_in l content) ns fault r.index
      (subst (λ xs. IsDirectoryFault (file_in l content) xs fault) same w.wrong)
