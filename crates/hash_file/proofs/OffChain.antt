-- A page that the change owns is written: the chain and its records stay.
use Rattle.std.proofs.Common.{ℕ, ◌≡◌, ◌+◌, ◌-◌, ◌<◌, ◌≤◌, List, [], ◌∷◌, ◌++◌, Bool, false, cond, length, arith, refl, sym, ap, subst, ◌∙◌, inl, inr, if◌then◌else◌}
use Rattle.std.specs.List.{Contains}
use Rattle.std.proofs.lemmas.Bool.{both_ways}
use Rattle.std.proofs.lemmas.List.{length-set}
use Rattle.hash_file.proofs.Names.{IsRange, POSITIONS, PSEUDOKEY_BITS, PageKind, Range, RecordKey, begun, position_of, start_of, stop_of, upper_half_of}
use Rattle.directory.proofs.MemberLaws.{contains_head, contains_tail, contains_cases, contains_none}
use Rattle.directory.proofs.CountLaws.{begun_inside}
use Rattle.directory.proofs.RangeLaws.{range_has_start, upper_half_start, upper_half_stop}
use Rattle.bucket_page.specs.declared.page.PageKind.TheVariants as kinds
use Rattle.bucket_page.specs.Records.{Pair, lookup}
use Rattle.bucket_page.specs.Dividing.{upper_half}
use Rattle.hash_file.specs.Store.{Store, page_at, is_bucket, bucket_of, bucket_at, range_of, range_at, entry_at, records_at, next_at, has_bucket}
use Rattle.hash_file.specs.Chain.{chain, contents, pairs_on, IsChain, IsPlaced, times}
use Rattle.hash_file.specs.Change.{Change, Taken, Filled, Absorbed, Buried, Drained, Freed, owned, TakesDetour, gained, lost}
use Rattle.hash_file.specs.Search.{reach, PageLeadsOn, distance, distance_on}
use Rattle.hash_file.specs.Phases.{HasPhase}
use Rattle.hash_file.specs.Sound.{IsSoundOn, IsSoundFile, HasEntry}
use Rattle.hash_file.specs.Changes.{with_page, write_new, write_tombstone, write_free}
use Rattle.hash_file.specs.Kept.{HasShapeOf, KeepsFile, LengthensWays, KeepsWaysBut}
use Rattle.hash_file.specs.Laws.{FreesPage}
use Rattle.hash_file.proofs.Chains.{chain_is, chain_valid}
use Rattle.hash_file.proofs.Roles.{numbered, numbered_positive, live_not_owned, spare_not_owned}
use Rattle.hash_file.proofs.Frames.{shape_of_page, reach_same, page_other, page_same, chain_shaped, entry_shaped, number_shaped, spared_same, numbered_same, layout_same, sound_by, keeps_by, ways_by, begun_shaped, distance_shaped}

-- pages with the records that they had
pub pairs_same : (s t : Store) (ns : List ℕ) → ((n : ℕ) → Contains ns n → records_at t n ≡ records_at s n) →
    pairs_on t ns ≡ pairs_on s ns
pairs_same s t [] same = refl
pairs_same s t (n ∷ ns) same =
    ap (λ (ps : List Pair). ps ++ pairs_on t ns) (same n (contains_head n ns))
    ∙ ap (λ (ps : List Pair). records_at s n ++ ps) (pairs_same s t ns (λ m c. same m (contains_tail n m ns c)))

module _ (hash : RecordKey → ℕ) (s : Store) (c : Change) (n : ℕ) (page : PageKind) (h : IsSoundFile hash s c)
    (own : Contains (owned c) n) where
  abbrev ns : List ℕ
  ns = chain s

  abbrev t : Store
  t = with_page n page s

  pub here : page_at t n ≡ page
  here = page_same s n page (numbered hash s c ns h n (inr (inr own))).1

  pub live_same : (m : ℕ) → Contains ns m → page_at t m ≡ page_at s m
  live_same m on = page_other s n m page (live_not_owned hash s c ns h m n on own)

  shape : (m : ℕ) → Contains ns m → HasShapeOf s t m
  shape m on = shape_of_page s t m (live_same m on)

  as_long : length t.pages ≡ length s.pages
  as_long = length-set s.pages n page

  -- but for the phase and the free list all goes on
  pub sound_off : (d : Change) → owned c ≡ owned d → ((i m : ℕ) → TakesDetour c i m → TakesDetour d i m) →
      ((depth : ℕ) → (gained d depth ≡ gained c depth) × (lost d depth ≡ lost c depth)) → HasPhase hash t ns d →
      IsSoundOn hash t d ns
  sound_off d same_owned detours same_counts phase = record {
    layout = layout_same s t.pages as_long
        (ap is_bucket (page_other s n 0 page (numbered_positive hash s c ns h n (inr (inr own))))) h.layout;
    chained = chain_shaped s t.pages ns shape h.chained;
    placed = λ m on. subst (IsPlaced hash) (sym (ap bucket_of (live_same m on))) (h.placed m on);
    spares = h.spares;
    spared = spared_same s t.pages h.spares
        (λ m spare. page_other s n m page (spare_not_owned hash s c ns h m n spare own)) h.spared;
    roles = λ m. ap (λ (xs : List ℕ). times m (ns ++ (h.spares ++ xs))) (sym same_owned) ∙ h.roles m
        ∙ ap (λ (x : Bool). cond x 1 0) (sym (numbered_same s t.pages as_long m));
    entries = λ i within. entry i (entry_shaped s t.pages c ns i shape (h.entries i within));
    counts = λ depth within. omega (
      arith,
      h.counts depth within,
      (same_counts depth).0,
      (same_counts depth).1,
      number_shaped s t.pages ns depth shape,
    );
    phase = phase;
  }
    where
      entry : (i : ℕ) → HasEntry t c ns i → HasEntry t d ns i
      entry i (inl b) = inl b
      entry i (inr detour) = inr (detours i (entry_at s i) detour)

  pub contents_off : (key : RecordKey) → lookup key (pairs_on t ns) ≡ contents s key
  contents_off key =
      ap (lookup key) (pairs_same s t ns (λ m on. ap (λ (p : PageKind). (bucket_of p).records) (live_same m on)))

  -- a live page reaches what it reached
  pub live_reach : (m : ℕ) → Contains ns m → reach t m ≡ reach s m
  live_reach m on =
      reach_same s t m (shape m on) (λ dead. absurd (both_ways (has_bucket s m) dead (h.chained.buckets m on)))

  pub chained_off : IsChain t ns
  chained_off = chain_shaped s t.pages ns shape h.chained

  -- and is as far off as it was
  pub live_distance : (m k : ℕ) → Contains ns m → distance_on t ns m k ≡ distance_on s ns m k
  live_distance m k on = distance_shaped s t.pages ns m k shape (live_reach m on) (shape m on).live

  pub live_begun : (p : ℕ) → begun (range_at t) ns p ≡ begun (range_at s) ns p
  live_begun p = begun_shaped s t.pages ns p shape

-- the one member of a list of one
one : (m n : ℕ) → Contains (m ∷ []) n → m ≡ n
one m n off = elim (contains_cases m n [] off) [ inl same ↦ same | inr d ↦ absurd (contains_none n d) ]

pub write_new_keeps : (hash : RecordKey → ℕ) (s : Store) (old new : ℕ) → IsSoundFile hash s (Taken new) →
    Contains (chain s) old → (bucket_at s old).depth < s.header.depth →
    KeepsFile hash s (Taken new) (write_new hash old new s) (Filled old new)
write_new_keeps hash s old new h on shallow =
    let page : PageKind = kinds.Bucket (upper_half hash (bucket_at s old)) in
    let t = write_new hash old new s in
    let own = contains_head new [] in
    let same = live_same hash s (Taken new) new page h own old on in
    keeps_by hash s (Taken new) t (Filled old new) (chain s)
    (sound_off hash s (Taken new) new page h own (Filled old new)
    refl (λ i m detour. detour) (λ depth. (refl, refl)) (record {
      old_on = on;
      shallow = omega (arith, shallow, ap (λ (p : PageKind). (bucket_of p).depth) same);
      upper = here hash s (Taken new) new page h own
          ∙ sym (ap (λ (p : PageKind). kinds.Bucket (upper_half hash (bucket_of p))) same);
    })) (contents_off hash s (Taken new) new page h own) (λ n k l. record {
      stands = l.stands;
      reaches = elim l.stands [
        | inl live ↦ omega (arith, l.reaches, live_reach hash s (Taken new) new page h own n live)
        | inr off ↦ absurd (contains_none n off)
      ];
    })

pub write_tombstone_keeps : (hash : RecordKey → ℕ) (s : Store) (left right : ℕ) (whole : Range) →
    IsSoundFile hash s (Absorbed left right whole) →
    KeepsFile hash s (Absorbed left right whole) (write_tombstone left right s) (Buried left right whole)
write_tombstone_keeps hash s left right whole h =
    let page : PageKind = kinds.Tombstone left in
    let c = Absorbed left right whole in
    let d = Buried left right whole in
    let t = write_tombstone left right s in
    let own = contains_head right [] in
    keeps_by hash s c t d (chain s) (sound_off hash s c right page h own d
    refl (λ i m detour. detour) (λ depth. (refl, refl)) (record {
      left_on = h.phase.left_on;
      shallow = h.phase.shallow;
      joined = ap (λ (p : PageKind). range_of (bucket_of p)) same ∙ h.phase.joined;
      tombstone = now;
    })) (contents_off hash s c right page h own) (λ n k l. record {
      stands = l.stands;
      reaches = elim l.stands [
        | inl live ↦ omega (arith, l.reaches, live_reach hash s c right page h own n live)
        | inr off ↦ fallen n k (one right n off) l.reaches
      ];
    })
  where
    now : page_at (write_tombstone left right s) right ≡ kinds.Tombstone left
    now = here hash s (Absorbed left right whole) right (kinds.Tombstone left) h (contains_head right [])

    same : page_at (write_tombstone left right s) left ≡ page_at s left
    same = live_same hash s (Absorbed left right whole) right (kinds.Tombstone left) h (contains_head right []) left
        h.phase.left_on

    -- the tombstone reaches as far as the left bucket, which begins no later
    fallen : (n k : ℕ) → right ≡ n → reach s n ≤ position_of k → reach (write_tombstone left right s) n ≤ position_of k
    fallen n k is low =
        let p = h.phase in
        let valid : IsRange whole = rw (p.joined) at (chain_valid s (chain s) left h.chained p.left_on) in
        let shallow : whole.depth < PSEUDOKEY_BITS = omega (arith, p.shallow, h.layout.depth, h.layout.greatest) in
        let low' = rw (← is) at low in
        let low'' = rw (p.stands) at low' in
        let starts : start_of (range_at (write_tombstone left right s) left) ≡ start_of whole =
        ap (λ (q : PageKind). start_of (range_of (bucket_of q))) same ∙ ap start_of p.joined in
        let reaches : reach (write_tombstone left right s) right
        ≡ start_of (range_at (write_tombstone left right s) left) =
        ap (λ (q : PageKind). if is_bucket q then start_of (range_of (bucket_of q))
        else start_of (range_at (write_tombstone left right s) (bucket_of q).next)) now in
        let here' : reach (write_tombstone left right s) right ≤ position_of k =
        omega (arith, reaches, starts, ap start_of p.upper, upper_half_start whole valid shallow, low'') in
        subst (λ m. reach (write_tombstone left right s) m ≤ position_of k) is here'

pub write_free_keeps : (hash : RecordKey → ℕ) (s : Store) (left right : ℕ) → IsSoundFile hash s (Drained left right) →
    FreesPage hash s (Drained left right) (write_free right s) right
write_free_keeps hash s left right h =
    let page : PageKind = kinds.Free s.header.first_free in
    let c = Drained left right in
    let t = write_free right s in
    let own = contains_head right [] in
    let sound = sound_off hash s c right page h own (Freed right)
    refl (λ i m detour. detour) (λ depth. (refl, refl)) (here hash s c right page h own) in
    let is = chain_is t (chain s) sound.layout sound.chained in
    record {
      sound = sound_by hash t (Freed right) (chain s) sound;
      contents = λ key. ap (λ (ms : List ℕ). lookup key (pairs_on t ms)) is
          ∙ contents_off hash s c right page h own key;
      leads = λ n k other l. subst (λ (ms : List ℕ). PageLeadsOn t (Freed right) ms n k) (sym is) (elim l.stands [
        | inl live ↦ record {
          stands = inl live;
          reaches = omega (arith, l.reaches, live_reach hash s c right page h own n live);
        }
        | inr off ↦ absurd (other (sym (one right n off)))
      ]);
    }

-- ---- ways

pub write_new_ways : (hash : RecordKey → ℕ) (s : Store) (old new : ℕ) → IsSoundFile hash s (Taken new) →
    Contains (chain s) old → (bucket_at s old).depth < s.header.depth →
    LengthensWays 0 s (Taken new) (write_new hash old new s)
write_new_ways hash s old new h on shallow =
    let page : PageKind = kinds.Bucket (upper_half hash (bucket_at s old)) in
    let t = write_new hash old new s in
    let own = contains_head new [] in
    let after = (write_new_keeps hash s old new h on shallow).sound in
    let kept = chained_off hash s (Taken new) new page h own in
    ways_by 0 s (Taken new) t (chain s) after.layout kept (λ n k l. elim l.stands [
      | inl live ↦ omega (arith, live_distance hash s (Taken new) new page h own n k live)
      | inr off ↦ absurd (contains_none n off)
    ])

pub write_free_ways : (hash : RecordKey → ℕ) (s : Store) (left right : ℕ) → IsSoundFile hash s (Drained left right) →
    KeepsWaysBut right s (Drained left right) (write_free right s)
write_free_ways hash s left right h n k other l =
    let page : PageKind = kinds.Free s.header.first_free in
    let t = write_free right s in
    let own = contains_head right [] in
    let after = (write_free_keeps hash s left right h).sound in
    let is = chain_is t (chain s) after.layout (chained_off hash s (Drained left right) right page h own) in
    subst (λ (ns : List ℕ). distance_on t ns n k ≤ distance s n k) (sym is) (elim l.stands [
      | inl live ↦ omega (arith, live_distance hash s (Drained left right) right page h own n k live)
      | inr off ↦ absurd (other (sym (one right n off)))
    ])

pub write_tombstone_ways : (hash : RecordKey → ℕ) (s : Store) (left right : ℕ) (whole : Range) →
    IsSoundFile hash s (Absorbed left right whole) →
    LengthensWays 1 s (Absorbed left right whole) (write_tombstone left right s)
write_tombstone_ways hash s left right whole h =
    let page : PageKind = kinds.Tombstone left in
    let c = Absorbed left right whole in
    let t = write_tombstone left right s in
    let own = contains_head right [] in
    let after = (write_tombstone_keeps hash s left right whole h).sound in
    ways_by 1 s c t (chain s) after.layout (chained_off hash s c right page h own) (λ n k l. elim l.stands [
      | inl live ↦ omega (arith, live_distance hash s c right page h own n k live)
      | inr off ↦ subst (λ m. distance_on t (chain s) m k ≤ distance s m k + 1) (one right n off) (fallen k)
    ])
  where
    -- the tombstone is one hop off the left bucket, inside which the right one began
    fallen : (k : ℕ) → distance_on (write_tombstone left right s) (chain s) right k ≤ distance s right k + 1
    fallen k =
        let p = h.phase in
        let c = Absorbed left right whole in
        let t = write_tombstone left right s in
        let own = contains_head right [] in
        let now : page_at t right ≡ kinds.Tombstone left = here hash s c right (kinds.Tombstone left) h own in
        let valid : IsRange whole = rw (p.joined) at (chain_valid s (chain s) left h.chained p.left_on) in
        let shallow : whole.depth < PSEUDOKEY_BITS = omega (arith, p.shallow, h.layout.depth, h.layout.greatest) in
        let starts = upper_half_start whole valid shallow in
        let ends = upper_half_stop whole valid shallow in
        let inside = range_has_start (upper_half_of whole) in
        let upper : start_of (range_at s right) ≡ start_of (upper_half_of whole) = ap start_of p.upper in
        let lower : start_of (range_at s left) ≡ start_of whole = ap start_of p.joined in
        let stops : stop_of (range_at s left) ≡ stop_of whole = ap stop_of p.joined in
        let same = begun_inside (range_at s) (chain s) 0 POSITIONS left (start_of (range_at s right)) h.chained.tiled
        p.left_on
        (omega (arith, upper, lower, starts), omega (arith, upper, inside.1, ends, stops)) in
        let dead : has_bucket t right ≡ false = ap is_bucket now in
        let link : next_at t right ≡ left = ap (λ (q : PageKind). (bucket_of q).next) now in
        let left_same : start_of (range_at t left) ≡ start_of (range_at s left) =
        ap (λ (q : PageKind). start_of (range_of (bucket_of q)))
        (live_same hash s c right (kinds.Tombstone left) h own left p.left_on) in
        let here_now : distance_on t (chain s) right k ≡ (begun (range_at s) (chain s) (position_of k)
        - begun (range_at s) (chain s) (start_of (range_at s left))) + 1 =
        rw (
          dead,
          link,
          left_same,
          live_begun hash s c right (kinds.Tombstone left) h own (position_of k),
          live_begun hash s c right (kinds.Tombstone left) h own (start_of (range_at s left)),
        ) refl in
        let was : distance s right k ≡ begun (range_at s) (chain s) (position_of k)
        - begun (range_at s) (chain s) (start_of (range_at s right)) = rw (p.stands) (omega arith) in
        omega (arith, here_now, was, same)
