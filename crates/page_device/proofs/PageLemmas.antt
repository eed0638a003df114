-- A payload with its digest behind it.
use Rattle.std.proofs.Common.{◌≡◌, ◌∙◌, sym, ap, ℕ, List, ◌++◌, length, drop}
use Rattle.std.proofs.lemmas.List.{take_at, drop_at}
use Rattle.page_device.specs.Sealed.{page_digest, payload_of, IsSealed}

pub payload_of-made : (payload digest page : List ℕ) → length payload ≡ 4064 → page ≡ payload ++ digest
    → payload_of page ≡ payload
payload_of-made payload digest page size made = ap payload_of made ∙ take_at payload digest 4064 size

pub IsSealed-made : (n : ℕ) (payload page : List ℕ) → length payload ≡ 4064
    → page ≡ payload ++ page_digest n payload → IsSealed n page
IsSealed-made n payload page size made = ap (drop 4064) made ∙ drop_at payload (page_digest n payload) 4064 size
    ∙ ap (page_digest n) (sym (payload_of-made payload (page_digest n payload) page size made))
