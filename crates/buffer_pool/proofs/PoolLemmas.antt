-- What the changes of a pool leave true of it, and of its images.
use Rattle.std.proofs.Common.{◌≡◌, ◌∙◌, refl, sym, ap, subst, arith, ℕ, ◌<◌, Bool, true, false, List, []}
use Rattle.std.proofs.Common.{length, ◌⊎◌, inl, inr, Option, Some, None, IsTrue, unwrap_or}
use Rattle.std.proofs.Common.{slice_index_or, slice_set}
use Rattle.std.proofs.Math.ListN.{get_or}
use Rattle.std.proofs.lemmas.Bool.{cases_eq}
use Rattle.std.proofs.lemmas.List.{get_or-set_same, get_or-set_other, length-set, length-map, same_lists}
use Rattle.std.proofs.lemmas.Option.{unwrap_or-slice_get}
use Rattle.page_device.specs.Sealed.{payload_of}
use Rattle.page_device.specs.Device.{DiffersAtMostAt}
use Rattle.page_device.proofs.PagesLemmas.{first_pages_at}
use Rattle.page_device.proofs.PagesLemmas.{first_pages_set}
use Rattle.buffer_pool.specs.Table.{Held, IsFree, place_of, pins_of, page_of, is_changed, payload_in, with_pins, moved_in}
use Rattle.buffer_pool.specs.Table.{stored_in, cleaned_at, without}
use Rattle.buffer_pool.specs.Transfer.{KeepsPins, StaysIn}
use Rattle.buffer_pool.specs.Pool.{IsSoundPool, IsClean, AgreesAt, shown, image_at}
use Rattle.buffer_pool.specs.Pool.{images_of, payloads_of}
use Rattle.buffer_pool.proofs.TableLemmas.{IsWhole-moved_in, IsWhole-with_pins, within_if_found, without_keeps}
use Rattle.buffer_pool.proofs.TableLemmas.{without_goes, length-without}
use Rattle.buffer_pool.proofs.ImagesLemmas.{images_same, images_length, payload_at}

-- whether an option is this number
cases_some : (o : Option ℕ) (n : ℕ) → (o ≡ Some n) ⊎ (o ≡ Some n → ⊥)
cases_some None n = inr (λ is. absurd cc)
cases_some (Some m) n = at (cases_eq m n)
  where
    at : (m ≡ n) ⊎ (m ≡ n → ⊥) → (Some m ≡ Some n) ⊎ (Some m ≡ Some n → ⊥)
    at (inl same) = inl (ap Some same)
    at (inr other) = inr (λ is. let same : m ≡ n = cc in other same)

module _ (stored : List (List ℕ)) (honest : Bool) (t : Held) (sound : IsSoundPool stored honest t) where
  pub IsSoundPool-with_pins : (page n : ℕ) → ((frame : ℕ) × (place_of t page ≡ Some frame))
      → IsSoundPool stored honest (with_pins page n t)
  IsSoundPool-with_pins page n place = record {
    as_many = sound.as_many;
    whole = IsWhole-with_pins t sound.whole page n place;
    agrees = sound.agrees;
  }

  -- where no frame is changed the device has the images
  pub payloads_if_clean : IsTrue honest → ((frame : ℕ) → frame < length t.pages → IsClean t frame)
      → payloads_of stored ≡ images_of stored t
  payloads_if_clean is clean =
      same_lists (payloads_of stored) (images_of stored t) (length-map stored payload_of ∙ sym (images_length stored t))
      (λ n d within. at n d (subst (λ m. n < m) (length-map stored payload_of) within))
    where
      in_place : (n : ℕ) (o : Option ℕ) → place_of t n ≡ o
          → payload_of (slice_index_or stored n []) ≡ shown t o (slice_index_or stored n [])
      in_place n None place = refl
      in_place n (Some frame) place =
          let here = sound.whole.in_frame n frame place in
          sym (sound.agrees is n frame here (clean frame (within_if_found t.pages frame n here) n here))

      at : (n : ℕ) (d : List ℕ) → n < length stored → get_or (payloads_of stored) n d ≡ get_or (images_of stored t) n d
      at n d within =
          payload_at stored n d within ∙ in_place n (place_of t n) refl
          ∙ sym (first_pages_at (length stored) n (image_at stored t) d within)

  -- the device has the image of a page whose frame was not changed
  pub on_device : IsTrue honest → (page frame : ℕ) → page < length stored → place_of t page ≡ Some frame
      → is_changed t frame ≡ false → payload_of (slice_index_or stored page []) ≡ get_or (images_of stored t) page []
  on_device is page frame within place unchanged =
      sym (sound.agrees is page frame (sound.whole.in_frame page frame place) unchanged)
      ∙ sym (first_pages_at (length stored) page (image_at stored t) [] within
      ∙ ap (λ o. shown t o (slice_index_or stored page [])) place)

  -- the page of a frame is one of the device
  pub page_within : (frame page : ℕ) → page_of t frame ≡ Some page → page < length stored
  page_within frame page here =
      subst (λ n. page < n) sound.as_many (within_if_found t.places page frame (sound.whole.at_place page frame here))

  -- a page of the device comes into a frame whose page may go
  module _ (frame page : ℕ) (payload : List ℕ) (in_range : frame < length t.pages) (free : IsFree t frame)
      (on_device : page < length t.places)
      (outside : place_of t page ≡ None) (clean : IsClean t frame)
      (read : IsTrue honest → payload ≡ payload_of (slice_index_or stored page [])) where
    abbrev after : Held
    after = moved_in frame page payload t

    abbrev gone : List (Option ℕ)
    gone = without (page_of t frame) t.places

    put : page_of after frame ≡ Some page
    put = get_or-set_same t.pages frame (Some page) None in_range

    filled : payload_in after frame ≡ payload
    filled = get_or-set_same t.payloads frame payload []
        (subst (λ n. frame < n) (sym sound.whole.even_payloads) in_range)

    -- another frame has what it had
    put_other : (g : ℕ) → (g ≡ frame → ⊥) → page_of after g ≡ page_of t g
    put_other g other = get_or-set_other t.pages frame g (Some page) None other

    filled_other : (g : ℕ) → (g ≡ frame → ⊥) → payload_in after g ≡ payload_in t g
    filled_other g other = get_or-set_other t.payloads frame g payload [] other

    pub IsSoundPool-moved_in : IsSoundPool stored honest after
    IsSoundPool-moved_in = record {
      as_many = length-set gone page (Some frame) ∙ length-without (page_of t frame) t.places ∙ sound.as_many;
      whole = IsWhole-moved_in t sound.whole frame page payload in_range free on_device outside;
      agrees = λ is j g. agrees_at is j g (cases_eq g frame);
    }
      where
        agrees_at : IsTrue honest → (j g : ℕ) → (g ≡ frame) ⊎ (g ≡ frame → ⊥) → AgreesAt stored after j g
        agrees_at is j g (inl same) here unchanged =
            let at_page : Some page ≡ Some j = sym put ∙ ap (page_of after) (sym same) ∙ here in
            let pages_same : page ≡ j = cc in
            ap (payload_in after) same ∙ filled ∙ read is ∙ ap (λ n. payload_of (slice_index_or stored n [])) pages_same
        agrees_at is j g (inr other) here unchanged =
            filled_other g other
            ∙ sound.agrees is j g (sym (put_other g other) ∙ here)
            (sym (get_or-set_other t.changed frame g false false other) ∙ unchanged)

    -- a pinned page stays in its frame
    pub stays-moved_in : (j g : ℕ) → 0 < pins_of t j → place_of t j ≡ Some g → StaysIn j g t after
    stays-moved_in j g pinned place = record {
      place = get_or-set_other gone page j (Some frame) None apart
          ∙ without_keeps (page_of t frame) t.places j
          (λ here. let equal : Some g ≡ Some frame = sym place ∙ sound.whole.at_place j frame here in
          let same : g ≡ frame = cc in other same)
          ∙ place;
      payload = filled_other g other;
    }
      where
        other : g ≡ frame → ⊥
        other same =
            let none = free j (ap (page_of t) (sym same) ∙ sound.whole.in_frame j g place) in
            absurd (omega (arith, none, pinned))

        apart : j ≡ page → ⊥
        apart same = let clash : None ≡ Some g = sym outside ∙ ap (place_of t) (sym same) ∙ place in absurd cc

    pub images-moved_in : IsTrue honest → images_of stored after ≡ images_of stored t
    images-moved_in is = images_same stored stored t after refl (λ n within. at n within (cases_eq n page))
      where
        at_rest : (n : ℕ) → (o : Option ℕ) → place_of t n ≡ o → (page_of t frame ≡ Some n → ⊥)
            → shown after o (slice_index_or stored n []) ≡ shown t o (slice_index_or stored n [])
        at_rest n None place elsewhere = refl
        at_rest n (Some g) place elsewhere =
            filled_other g (λ same. elsewhere (ap (page_of t) (sym same) ∙ sound.whole.in_frame n g place))

        not_page : (n : ℕ) → (n ≡ page → ⊥) → n < length t.places → (o : Option ℕ) → page_of t frame ≡ o
            → (o ≡ Some n) ⊎ (o ≡ Some n → ⊥)
            → shown after (slice_index_or (without o t.places) n None)
            (slice_index_or stored n []) ≡ image_at stored t n
        not_page n other within o is_o (inl leaves) =
            ap (λ p. shown after p (slice_index_or stored n [])) (without_goes o t.places n leaves within)
            ∙ sym (ap (λ p. shown t p (slice_index_or stored n [])) (sound.whole.at_place n frame (is_o ∙ leaves))
            ∙ sound.agrees is n frame (is_o ∙ leaves) (clean n (is_o ∙ leaves)))
        not_page n other within o is_o (inr stays) =
            ap (λ p. shown after p (slice_index_or stored n [])) (without_keeps o t.places n stays)
            ∙ at_rest n (place_of t n) refl (λ in_it. stays (sym is_o ∙ in_it))

        at : (n : ℕ) → n < length stored → (n ≡ page) ⊎ (n ≡ page → ⊥) → image_at stored after n ≡ image_at stored t n
        at n within (inl same) =
            ap (image_at stored after) same
            ∙ ap (λ p. shown after p (slice_index_or stored page []))
            (get_or-set_same gone page (Some frame) None
            (subst (λ m. page < m) (sym (length-without (page_of t frame) t.places)) on_device))
            ∙ filled ∙ read is
            ∙ sym (ap (λ p. shown t p (slice_index_or stored page [])) outside)
            ∙ ap (image_at stored t) (sym same)
        at n within (inr other) =
            ap (λ p. shown after p (slice_index_or stored n [])) (get_or-set_other gone page n (Some frame) None other)
            ∙ not_page n other (subst (λ m. n < m) (sym sound.as_many) within) (page_of t frame) refl
            (cases_some (page_of t frame) n)

  -- a frame's page is written to the device, or the write fails
  module _ (written : List (List ℕ)) (frame page : ℕ) (here : page_of t frame ≡ Some page)
      (differs : DiffersAtMostAt page stored written) where
    others : (n : ℕ) → (n ≡ page → ⊥) → slice_index_or written n [] ≡ slice_index_or stored n []
    others n other =
        sym (unwrap_or-slice_get written n []) ∙ ap (λ o. unwrap_or o []) (differs.others n other)
        ∙ unwrap_or-slice_get stored n []

    -- no other frame has that page
    apart : (j g : ℕ) → page_of t g ≡ Some j → (g ≡ frame → ⊥) → j ≡ page → ⊥
    apart j g at_g other same =
        let place_here = sound.whole.at_place page frame here in
        let place_g = sound.whole.at_place j g at_g in
        let moved : place_of t j ≡ place_of t page = ap (place_of t) same in
        let equal : Some g ≡ Some frame = sym place_g ∙ moved ∙ place_here in
        let frames_same : g ≡ frame = cc in
        other frames_same

    agrees_elsewhere : IsTrue honest → (j g : ℕ) → page_of t g ≡ Some j → (g ≡ frame → ⊥) → is_changed t g ≡ false
        → payload_in t g ≡ payload_of (slice_index_or written j [])
    agrees_elsewhere is j g at_g other unchanged =
        sound.agrees is j g at_g unchanged ∙ ap payload_of (sym (others j (apart j g at_g other)))

    pub images-written : images_of written t ≡ images_of stored t
    images-written = images_same stored written t t differs.as_many (λ n within. at n (place_of t n) refl)
      where
        at : (n : ℕ) (o : Option ℕ) → place_of t n ≡ o
            → shown t o (slice_index_or written n []) ≡ shown t o (slice_index_or stored n [])
        at n (Some g) place = refl
        at n None place = ap payload_of (others n (λ same.
            let place_here = sound.whole.at_place page frame here in
            let moved : place_of t n ≡ place_of t page = ap (place_of t) same in
            absurd cc))

    pub IsSoundPool-failed : is_changed t frame ≡ true → IsSoundPool written honest t
    IsSoundPool-failed changed = record {
      as_many = sound.as_many ∙ sym differs.as_many;
      whole = sound.whole;
      agrees = λ is j g at_g unchanged. agrees_elsewhere is j g at_g
          (λ same. let marked = ap (is_changed t) same in absurd cc) unchanged;
    }

    pub IsSoundPool-cleaned : (IsTrue honest → payload_of (slice_index_or written page []) ≡ payload_in t frame)
        → IsSoundPool written honest (cleaned_at frame t)
    IsSoundPool-cleaned same_there = record {
      as_many = sound.as_many ∙ sym differs.as_many;
      whole = record {
        even_pins = sound.whole.even_pins;
        even_changed = length-set t.changed frame false ∙ sound.whole.even_changed;
        even_payloads = sound.whole.even_payloads;
        in_frame = sound.whole.in_frame;
        at_place = sound.whole.at_place;
        stays = sound.whole.stays;
      };
      agrees = λ is j g. at is j g (cases_eq g frame);
    }
      where
        at : IsTrue honest → (j g : ℕ) → (g ≡ frame) ⊎ (g ≡ frame → ⊥) → AgreesAt written (cleaned_at frame t) j g
        at is j g (inl same) at_g unchanged =
            let in_frame : page_of t frame ≡ Some j = ap (page_of t) (sym same) ∙ at_g in
            let equal : Some page ≡ Some j = sym here ∙ in_frame in
            let pages_same : page ≡ j = cc in
            ap (payload_in t) same ∙ sym (same_there is) ∙ ap (λ n. payload_of (slice_index_or written n [])) pages_same
        at is j g (inr other) at_g unchanged =
            agrees_elsewhere is j g at_g other (sym (get_or-set_other t.changed frame g false false other) ∙ unchanged)

  -- a payload is stored in the frame of a page
  module _ (frame page : ℕ) (payload : List ℕ) (place : place_of t page ≡ Some frame) where
    frame_in_range : frame < length t.pages
    frame_in_range = within_if_found t.pages frame page (sound.whole.in_frame page frame place)

    pub IsSoundPool-stored_in : IsSoundPool stored honest (stored_in frame payload t)
    IsSoundPool-stored_in = record {
      as_many = sound.as_many;
      whole = record {
        even_pins = sound.whole.even_pins;
        even_changed = length-set t.changed frame true ∙ sound.whole.even_changed;
        even_payloads = length-set t.payloads frame payload ∙ sound.whole.even_payloads;
        in_frame = sound.whole.in_frame;
        at_place = sound.whole.at_place;
        stays = sound.whole.stays;
      };
      agrees = λ is j g. at is j g (cases_eq g frame);
    }
      where
        at : IsTrue honest → (j g : ℕ) → (g ≡ frame) ⊎ (g ≡ frame → ⊥) → AgreesAt stored (stored_in frame payload t) j g
        at is j g (inl same) at_g unchanged =
            let marked = get_or-set_same t.changed frame true false
            (subst (λ n. frame < n) (sym sound.whole.even_changed) frame_in_range) in
            let moved : is_changed (stored_in frame payload t) g ≡ is_changed (stored_in frame payload t) frame = ap
            (is_changed (stored_in frame payload t)) same in
            absurd cc
        at is j g (inr other) at_g unchanged =
            get_or-set_other t.payloads frame g payload [] other
            ∙ sound.agrees is j g at_g (sym (get_or-set_other t.changed frame g true false other) ∙ unchanged)

    pub images-stored_in : images_of stored (stored_in frame payload t) ≡ slice_set (images_of stored t) page payload
    images-stored_in =
        first_pages_set (length stored) page (image_at stored t) (image_at stored (stored_in frame payload t)) payload
        (subst (λ n. page < n) sound.as_many (within_if_found t.places page frame place))
        (ap (λ p. shown (stored_in frame payload t) p (slice_index_or stored page [])) place
        ∙ get_or-set_same t.payloads frame payload []
        (subst (λ n. frame < n) (sym sound.whole.even_payloads) frame_in_range))
        (λ n other. at n other (place_of t n) refl)
      where
        at : (n : ℕ) → (n ≡ page → ⊥) → (o : Option ℕ) → place_of t n ≡ o
            → shown (stored_in frame payload t) o (slice_index_or stored n []) ≡ shown t o (slice_index_or stored n [])
        at n other None is_o = refl
        at n other (Some g) is_o = get_or-set_other t.payloads frame g payload [] (λ same.
            let in_g = sound.whole.in_frame n g is_o in
            let in_f = sound.whole.in_frame page frame place in
            let moved : page_of t g ≡ page_of t frame = ap (page_of t) same in
            let equal : Some n ≡ Some page = sym in_g ∙ moved ∙ in_f in
            let pages_same : n ≡ page = cc in
            other pages_same)

-- ---- the images of pinned pages

-- the image of a page that is in a frame is what the frame has
in_frame_is : (stored : List (List ℕ)) (honest : Bool) (t : Held) → IsSoundPool stored honest t → (page frame : ℕ)
    → place_of t page ≡ Some frame → get_or (images_of stored t) page [] ≡ payload_in t frame
in_frame_is stored honest t sound page frame place =
    first_pages_at (length stored) page (image_at stored t) []
    (page_within stored honest t sound frame page (sound.whole.in_frame page frame place))
    ∙ ap (λ p. shown t p (slice_index_or stored page [])) place

pub pinned_kept : (before after : List (List ℕ)) (was is : Bool) (old new : Held) → IsSoundPool before was old
    → IsSoundPool after is new → KeepsPins old new → (page : ℕ) → 0 < pins_of old page
    → get_or (images_of after new) page [] ≡ get_or (images_of before old) page []
pinned_kept before after was is old new sound sound' keeps page pinned =
    let place = sound.whole.stays page pinned in
    let stays = keeps.stays page place.0 pinned place.1 in
    in_frame_is after is new sound' page place.0 stays.place ∙ stays.payload
    ∙ sym (in_frame_is before was old sound page place.0 place.1)
