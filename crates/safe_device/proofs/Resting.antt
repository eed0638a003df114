-- What recovery gives of files that it restores nothing in.
use Rattle.std.proofs.Common.{◌≡◌, ◌∙◌, ℕ, ◌≤◌, List, [], ◌∷◌, Option, Some, None, length, take, refl, sym, ap, arith}
use Rattle.std.proofs.lemmas.Int.{clamps}
use Rattle.std.proofs.lemmas.List.{take_all, length-take}
use Rattle.safe_device.specs.Left.{calls_alone, calls_of, put_back, recovered_by, rest_of, restored, restored_by}
use Rattle.safe_device.specs.Safe.{Fits, IsResting}
use Rattle.safe_device.specs.declared.journal.Journal.{Journal}
use Rattle.safe_device.specs.declared.journal.PageImage.{PageImage}
use Rattle.safe_device.proofs.Restoring.{Pages, length-put_back, saved}

-- what is there is what recovery gives
pub resting_held : (q : Option Journal) (pages : Pages) → IsResting q pages
    → recovered_by q pages ≡ saved pages (calls_of q)
resting_held None pages rests = refl
resting_held (Some j) pages rests =
    ap (λ (ps : Pages). saved ps j.calls)
    (ap (λ (images : List PageImage). put_back (take j.count pages) images) rests.no_image
    ∙ take_all j.count pages (omega (arith, rests.whole)))

alone_recovers : (count : ℕ) (calls : List (List ℕ)) (file : Pages) → length file ≤ count
    → recovered_by (calls_alone count calls) file ≡ saved file calls
alone_recovers count [] file le = refl
alone_recovers count (c ∷ cs) file le = ap (λ (ps : Pages). saved ps (c ∷ cs)) (take_all count file le)

alone_rests : (count : ℕ) (calls : List (List ℕ)) (file : Pages) → length file ≡ count
    → IsResting (calls_alone count calls) file
alone_rests count [] file is = tt
alone_rests count (c ∷ cs) file is = record { some = omega arith; whole = sym is; no_image = refl }

restored_length : (count : ℕ) (images : List PageImage) (pages : Pages) → count ≤ length pages
    → length (restored count images pages) ≡ count
restored_length count images pages le =
    let taken = length-take count pages in
    length-put_back (take count pages) images ∙ omega (arith, clamps, le, taken)

-- once its images are put back, what is left of a journal stands for the same, and restores nothing
pub rest_recovers : (q : Option Journal) (pages : Pages) → Fits q pages
    → recovered_by (rest_of q) (restored_by q pages) ≡ recovered_by q pages
rest_recovers None pages fits = absurd fits
rest_recovers (Some j) pages fits =
    let is = restored_length j.count j.images pages fits.0 in
    alone_recovers j.count j.calls (restored j.count j.images pages) (omega (arith, is))

pub rest_rests : (q : Option Journal) (pages : Pages) → Fits q pages → IsResting (rest_of q) (restored_by q pages)
rest_rests None pages fits = absurd fits
rest_rests (Some j) pages fits =
    alone_rests j.count j.calls (restored j.count j.images pages) (restored_length j.count j.images pages fits.0)
