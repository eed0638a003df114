-- The images of a pool, page by page, and its pins.
use Rattle.std.proofs.Common.{◌≡◌, ◌∙◌, refl, sym, ap, subst, ℕ, ◌+◌, ◌-◌, ◌<◌, ◌≤◌, List, [], ◌∷◌}
use Rattle.std.proofs.Common.{length, arith, ◌⊎◌, inl, inr, Option, Some, None, zero, suc}
use Rattle.std.proofs.Common.{replicate, slice_get, slice_index_or, slice_set}
use Rattle.std.proofs.Math.ListN.{get_or, get_or-map, get_or-eq_default}
use Rattle.std.proofs.lemmas.Bool.{cases_eq, cases_lt}
use Rattle.std.proofs.lemmas.List.{get_or-set_same, get_or-set_other, length-set, length-map, same_lists}
use Rattle.std.proofs.lemmas.List.{get_or_default}
use Rattle.page_device.specs.Pages.{first_pages}
use Rattle.page_device.specs.Sealed.{payload_of}
use Rattle.page_device.proofs.PagesLemmas.{first_pages_length, first_pages_at, first_pages_get, first_pages_same}
use Rattle.buffer_pool.specs.Table.{Held, place_of, payload_in}
use Rattle.buffer_pool.specs.Table.{count_pinned, no_pages}
use Rattle.buffer_pool.specs.Pool.{PoolState, IsAtRest, pins_at, shown, image_at}
use Rattle.buffer_pool.specs.Pool.{images_of, payloads_of}

-- the same images at each page are the same list
pub images_same : (stored after : List (List ℕ)) (s t : Held) → length after ≡ length stored
    → ((n : ℕ) → n < length stored → image_at after t n ≡ image_at stored s n) → images_of after t ≡ images_of stored s
images_same stored after s t size same =
    ap (λ n. first_pages n (image_at after t)) size
    ∙ first_pages_same (length stored) (image_at stored s) (image_at after t) same

pub images_length : (stored : List (List ℕ)) (t : Held) → length (images_of stored t) ≡ length stored
images_length stored t = first_pages_length (length stored) (image_at stored t)

-- no page is pinned in a list of zeros
pub none_pinned : (n page : ℕ) → ◌≡◌ {A = ℕ} (slice_index_or (replicate n 0) page 0) 0
none_pinned zero page = refl
none_pinned (suc n) zero = refl
none_pinned (suc n) (suc page) = none_pinned n page

-- where no page is pinned, none is counted
pub count_none : (pins : List ℕ) → ((k : ℕ) → ◌≡◌ {A = ℕ} (slice_index_or pins k 0) 0) → count_pinned pins ≡ 0
count_none [] rest = refl
count_none (zero ∷ pins) rest = count_none pins (λ k. rest (suc k))
count_none (suc n ∷ pins) rest = absurd (let first = rest 0 in omega (arith, first))

-- the payload of each page
pub payload_at : (stored : List (List ℕ)) (n : ℕ) (d : List ℕ) → n < length stored
    → get_or (payloads_of stored) n d ≡ payload_of (slice_index_or stored n [])
payload_at stored n d within =
    get_or_default (payloads_of stored) n d (payload_of [])
    (subst (λ m. n < m) (sym (length-map stored payload_of)) within)
    ∙ get_or-map payload_of stored n []

-- the images of a pool that was opened
pub images_of-no_pages : (stored : List (List ℕ)) (pages frames : ℕ)
    → images_of stored (no_pages pages frames) ≡ payloads_of stored
images_of-no_pages stored pages frames =
    same_lists (images_of stored t) (payloads_of stored) (images_length stored t ∙ sym (length-map stored payload_of))
    (λ n d within. at n d (subst (λ m. n < m) (images_length stored t) within))
  where
    t : Held
    t = no_pages pages frames

    none_at : (m n : ℕ) → ◌≡◌ {A = Option ℕ} (slice_index_or (replicate m None) n None) None
    none_at zero n = refl
    none_at (suc m) zero = refl
    none_at (suc m) (suc n) = none_at m n

    at : (n : ℕ) (d : List ℕ) → n < length stored → get_or (images_of stored t) n d ≡ get_or (payloads_of stored) n d
    at n d within =
        first_pages_at (length stored) n (image_at stored t) d within
        ∙ ap (λ p. shown t p (slice_index_or stored n [])) (none_at pages n)
        ∙ sym (payload_at stored n d within)

-- the image of a page in a frame
pub image_found : (stored : List (List ℕ)) (t : Held) (page frame : ℕ) → page < length stored
    → place_of t page ≡ Some frame
    → slice_get (images_of stored t) page ≡ Some (payload_in t frame)
image_found stored t page frame within place =
    first_pages_get (length stored) page (image_at stored t) within
    ∙ ap (λ p. Some (shown t p (slice_index_or stored page []))) place

-- the image of a page without a frame is its payload on the device
pub image_outside : (stored : List (List ℕ)) (t : Held) (page : ℕ) → page < length stored → place_of t page ≡ None
    → get_or (images_of stored t) page [] ≡ payload_of (slice_index_or stored page [])
image_outside stored t page within outside =
    first_pages_at (length stored) page (image_at stored t) [] within
    ∙ ap (λ p. shown t p (slice_index_or stored page [])) outside

-- so it is the same before and after a change that keeps the images
pub stored_outside : (stored after : List (List ℕ)) (s t : Held) (page : ℕ) → images_of after t ≡ images_of stored s
    → page < length stored → page < length after → place_of s page ≡ None → place_of t page ≡ None
    → payload_of (slice_index_or after page []) ≡ payload_of (slice_index_or stored page [])
stored_outside stored after s t page same within within_after outside outside_after =
    sym (image_outside after t page within_after outside_after) ∙ ap (λ xs. get_or xs page []) same
    ∙ image_outside stored s page within outside

-- a page that is pinned once and given back leaves no pin
pub rest_again : (s t : PoolState) (page frame : ℕ) → IsAtRest s → t.pins ≡ slice_set s.pins page (pins_at s page + 1)
    → frame ≡ page
    → pins_at t page ≡ pins_at s page + 1 → (k : ℕ)
    → ◌≡◌ {A = ℕ} (slice_index_or (slice_set t.pins frame (pins_at t frame - 1)) k 0) 0
rest_again s t page frame rest pinned same once k = at (cases_eq k frame)
  where
    last : pins_at t frame - 1 ≡ 0
    last = let was = rest page in let here : pins_at t frame ≡ pins_at t page = ap (pins_at t) same in omega arith

    at_frame : (frame < length t.pins) ⊎ (length t.pins ≤ frame)
        → ◌≡◌ {A = ℕ} (slice_index_or (slice_set t.pins frame (pins_at t frame - 1)) frame 0) 0
    at_frame (inl within) = get_or-set_same t.pins frame (pins_at t frame - 1) 0 within ∙ last
    at_frame (inr past) =
        get_or-eq_default (slice_set t.pins frame (pins_at t frame - 1)) 0
        (subst (λ n. n ≤ frame) (sym (length-set t.pins frame (pins_at t frame - 1))) past)

    at : (k ≡ frame) ⊎ (k ≡ frame → ⊥)
        → ◌≡◌ {A = ℕ} (slice_index_or (slice_set t.pins frame (pins_at t frame - 1)) k 0) 0
    at (inl is) = ap (λ n. slice_index_or (slice_set t.pins frame (pins_at t frame - 1)) n 0) is
        ∙ at_frame (cases_lt frame (length t.pins))
    at (inr other) =
        get_or-set_other t.pins frame k (pins_at t frame - 1) 0 other
        ∙ ap (λ pins. slice_index_or pins k 0) pinned
        ∙ get_or-set_other s.pins page k (pins_at s page + 1) 0 (λ is. other (is ∙ sym same))
        ∙ rest k
