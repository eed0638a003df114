-- The pages that bytes are, one by one.
use Rattle.std.proofs.Common.{arith, ℕ, suc, ◌≡◌, ◌+◌, ◌*◌, ◌++◌, ◌∷◌, [], List, ap, ◌∙◌, subst, take, drop}
use Rattle.page_device.specs.declared.page.TheConstants.{PAGE_BYTES}
use Rattle.session.specs.Session.{pages_in}

pub one_more : (bytes : List ℕ) (page : ℕ) (old new : List (List ℕ)) → old ≡ pages_in page bytes →
    new ≡ old ++ take PAGE_BYTES (drop (page * PAGE_BYTES) bytes) ∷ [] → new ≡ pages_in (page + 1) bytes
one_more bytes page old new before is =
    let next : suc page ≡ page + 1 = omega arith in
    subst (λ (m : ℕ). new ≡ pages_in m bytes) next
    (is ∙ ap (λ (pages : List (List ℕ)). pages ++ take PAGE_BYTES (drop (page * PAGE_BYTES) bytes) ∷ []) before)
