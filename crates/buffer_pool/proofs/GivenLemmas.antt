-- The payloads that were given to the frames which hold pages.
use Rattle.std.proofs.Common.{◌≡◌, ◌∙◌, sym, ap, subst, ℕ, suc, ◌+◌, ◌-◌, ◌<◌, Bool, true, List, [], ◌∷◌, ◌++◌, length}
use Rattle.std.proofs.Common.{arith, Some, None, slice_index_or, slice_set, replicate}
use Rattle.std.proofs.Math.Seq.{set-append_seam}
use Rattle.std.proofs.lemmas.List.{append_assoc, get_or_append_left, length-append, length-set, set-append_left}
use Rattle.buffer_pool.specs.Forms.{blank_page}
use Rattle.buffer_pool.specs.Table.{Held, IsFree, IsKept, IsNext, filled_up, moved_in, place_of, stored_in}
use Rattle.buffer_pool.proofs.FilledLemmas.{IsKept-moved_in, filled_again, filled_next, is_earlier}

-- the next frame is given its payload
filled_up-next : (frames : ℕ) (given : List (List ℕ)) (payload : List ℕ) → length given < frames
    → filled_up frames (given ++ payload ∷ []) ≡ slice_set (filled_up frames given) (length given) payload
filled_up-next frames given payload within =
    let left : frames - length given ≡ suc (frames - (length given + 1)) = omega arith in
    ap (λ n. (given ++ payload ∷ []) ++ replicate (frames - n) blank_page) (length-append given (payload ∷ []))
    ∙ append_assoc given (payload ∷ []) (replicate (frames - (length given + 1)) blank_page)
    ∙ sym (set-append_seam given blank_page (replicate (frames - (length given + 1)) blank_page) payload)
    ∙ ap (λ n. slice_set (given ++ replicate n blank_page) (length given) payload) (sym left)

-- or one of them another
filled_up-again : (frames : ℕ) (given : List (List ℕ)) (frame : ℕ) (payload : List ℕ) → frame < length given
    → filled_up frames (slice_set given frame payload) ≡ slice_set (filled_up frames given) frame payload
filled_up-again frames given frame payload within =
    ap (λ n. slice_set given frame payload ++ replicate (frames - n) blank_page) (length-set given frame payload)
    ∙ sym (set-append_left given (replicate (frames - length given) blank_page) frame payload within)

-- what one of them was given is in it
pub filled_up-at : (frames : ℕ) (given : List (List ℕ)) (frame : ℕ) (d : List ℕ) → frame < length given
    → slice_index_or (filled_up frames given) frame d ≡ slice_index_or given frame d
filled_up-at frames given frame d within =
    get_or_append_left given (replicate (frames - length given) blank_page) d frame within

-- the table whose first frames were given these payloads
abbrev pub with_given : List (List ℕ) → Held → Held
with_given given t = record t { payloads = filled_up (length t.pages) given }

module _ (given : List (List ℕ)) (t : Held) (are : t.payloads ≡ filled_up (length t.pages) given) (frame : ℕ)
    (payload : List ℕ) where
  -- a page comes into the next frame
  pub given_next : (page : ℕ) → frame < length t.pages → frame ≡ length given
      → with_given (given ++ payload ∷ []) (moved_in frame page payload t) ≡ moved_in frame page payload t
  given_next page within next =
      ap (λ (ps : List (List ℕ)). record (moved_in frame page payload t) { payloads = ps })
      (ap (λ n. filled_up n (given ++ payload ∷ [])) (length-set t.pages frame (Some page))
      ∙ filled_up-next (length t.pages) given payload (subst (λ n. n < length t.pages) next within)
      ∙ ap (λ n. slice_set (filled_up (length t.pages) given) n payload) (sym next)
      ∙ ap (λ ps. slice_set ps frame payload) (sym are))

  -- or into one that held another
  pub given_again : (page : ℕ) → frame < length given
      → with_given (slice_set given frame payload) (moved_in frame page payload t) ≡ moved_in frame page payload t
  given_again page within =
      ap (λ (ps : List (List ℕ)). record (moved_in frame page payload t) { payloads = ps })
      (ap (λ n. filled_up n (slice_set given frame payload)) (length-set t.pages frame (Some page))
      ∙ filled_up-again (length t.pages) given frame payload within
      ∙ ap (λ ps. slice_set ps frame payload) (sym are))

  -- a payload that was lent is given back
  pub given_back : frame < length given
      → with_given (slice_set given frame payload) (stored_in frame payload t) ≡ stored_in frame payload t
  given_back within =
      ap (λ (ps : List (List ℕ)). record (stored_in frame payload t) { payloads = ps })
      (filled_up-again (length t.pages) given frame payload within ∙ ap (λ ps. slice_set ps frame payload) (sym are))

  module _ (pinned room : ℕ) (used : List Bool) (kept : IsKept pinned (length given) room used t) where
    module _ (page : ℕ) (in_range : frame < length t.pages) (free : IsFree t frame) (on_device : page < length t.places)
        (outside : place_of t page ≡ None) where
      pub IsKept-next : frame ≡ length given
          → IsKept pinned (length (given ++ payload ∷ [])) room (slice_set used frame true)
          (with_given (given ++ payload ∷ []) (moved_in frame page payload t))
      IsKept-next next =
          subst (IsKept pinned (length (given ++ payload ∷ [])) room (slice_set used frame true))
          (sym (given_next page in_range next))
          (subst (λ n. IsKept pinned n room (slice_set used frame true) (moved_in frame page payload t))
          (sym (length-append given (payload ∷ [])))
          (IsKept-moved_in pinned (length given) (length given + 1) room used t frame page payload kept in_range free
          on_device outside (filled_next (length given) t.pages frame page kept.holding in_range next)))

      pub IsKept-again : IsNext t.pages frame → (frame ≡ length given → ⊥)
          → IsKept pinned (length (slice_set given frame payload)) room (slice_set used frame true)
          (with_given (slice_set given frame payload) (moved_in frame page payload t))
      IsKept-again next other =
          let earlier = is_earlier (length given) t.pages frame page kept.holding in_range next other in
          subst (IsKept pinned (length (slice_set given frame payload)) room (slice_set used frame true))
          (sym (given_again page earlier))
          (subst (λ n. IsKept pinned n room (slice_set used frame true) (moved_in frame page payload t))
          (sym (length-set given frame payload))
          (IsKept-moved_in pinned (length given) (length given) room used t frame page payload kept in_range free
          on_device outside (filled_again (length given) t.pages frame page kept.holding in_range earlier)))

    pub IsKept-back : frame < length given
        → IsKept pinned (length (slice_set given frame payload)) room used
        (with_given (slice_set given frame payload) (stored_in frame payload t))
    IsKept-back within =
        subst (IsKept pinned (length (slice_set given frame payload)) room used) (sym (given_back within))
        (subst (λ n. IsKept pinned n room used (stored_in frame payload t)) (sym (length-set given frame payload))
        (record {
          whole = record {
            even_pins = kept.whole.even_pins;
            even_changed = length-set t.changed frame true ∙ kept.whole.even_changed;
            even_payloads = length-set t.payloads frame payload ∙ kept.whole.even_payloads;
            in_frame = kept.whole.in_frame;
            at_place = kept.whole.at_place;
            stays = kept.whole.stays;
          };
          roomy = kept.roomy;
          even_used = kept.even_used;
          counted = kept.counted;
          holding = kept.holding;
        }))
