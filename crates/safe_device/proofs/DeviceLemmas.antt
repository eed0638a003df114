-- What a device shows after each thing that is done.
use Rattle.std.proofs.Common.{◌≡◌, ◌<◌, ◌≤◌, ◌+◌, ℕ, Bool, true, false, List, [], ◌∷◌, ◌++◌, length, take, set}
use Rattle.std.proofs.Common.{slice_get, Some, refl, sym, ◌∙◌, ap, arith, IsTrue, length-set, length-append}
use Rattle.std.proofs.lemmas.Bool.Decides.{nat_tests}
use Rattle.std.proofs.lemmas.Int.{clamps}
use Rattle.std.proofs.lemmas.List.{take_all, length-take, length-replicate}
use Rattle.page_device.specs.Device.{DiffersAtMostAt}
use Rattle.safe_device.specs.Device.{content_of, is_synced}
use Rattle.safe_device.specs.Left.{put_back, restored}
use Rattle.safe_device.specs.declared.journal.PageImage.{PageImage}
use Rattle.safe_device.proofs.Restoring.{Pages, get_set, get_take, put_back-append, length-put_back, restored_longer}

pub content_length : (h : Bool) (count : ℕ) (pending : List PageImage) (file : Pages)
    → (IsTrue h → count ≤ length file) → length (content_of h count pending file) ≡ count
content_length true count pending file many =
    let le = many refl in
    let taken = length-take count file in
    length-put_back (take count file) pending ∙ omega (arith, clamps, le, taken)
content_length false count pending file many = length-replicate count []

pub content_same : (h : Bool) (count : ℕ) (pending : List PageImage) (old new : Pages)
    → (IsTrue h → restored count pending new ≡ restored count pending old)
    → content_of h count pending new ≡ content_of h count pending old
content_same true count pending old new same = same refl
content_same false count pending old new same = refl

-- what waited is in its place
pub content_written : (h : Bool) (count : ℕ) (pending : List PageImage) (old new : Pages)
    → (IsTrue h → length old ≡ count) → (IsTrue h → new ≡ put_back old pending)
    → content_of h count [] new ≡ content_of h count pending old
content_written true count pending old new whole is =
    let long = whole refl in
    let all : length (put_back old pending) ≤ count = omega (arith, length-put_back old pending, long) in
    ap (λ (ps : Pages). take count ps) (is refl)
    ∙ take_all count (put_back old pending) all
    ∙ ap (λ (ps : Pages). put_back ps pending) (sym (take_all count old (omega (arith, long))))
content_written false count pending old new whole is = refl

pub file_written : (h : Bool) (count : ℕ) (pending : List PageImage) (old new : Pages)
    → (IsTrue h → length old ≡ count) → (IsTrue h → new ≡ put_back old pending)
    → IsTrue h → new ≡ content_of h count pending old
file_written true count pending old new whole is honest =
    is refl ∙ ap (λ (ps : Pages). put_back ps pending) (sym (take_all count old (omega (arith, whole refl))))
file_written false count pending old new whole is honest = absurd cc

pub written_length : (h : Bool) (count : ℕ) (pending : List PageImage) (old new : Pages)
    → (IsTrue h → length old ≡ count) → (IsTrue h → new ≡ put_back old pending) → IsTrue h → length new ≡ count
written_length h count pending old new whole is honest =
    ap length (is honest) ∙ length-put_back old pending ∙ whole honest

-- one page more waits
pub content_set : (h : Bool) (count : ℕ) (pending : List PageImage) (image : PageImage) (file : Pages) → IsTrue h
    → content_of h count (pending ++ image ∷ []) file ≡ set (content_of h count pending file) image.page image.bytes
content_set true count pending image file honest = put_back-append (take count file) pending (image ∷ [])
content_set false count pending image file honest = absurd cc

differs_set : (page : ℕ) (bytes : List ℕ) (old new : Pages) → new ≡ set old page bytes → DiffersAtMostAt page old new
differs_set page bytes old new is = record {
  as_many = ap length is ∙ length-set old page bytes;
  others = λ other apart. ap (λ (ps : Pages). slice_get ps other) is ∙ get_set old other page bytes apart;
}

pub differs_same : (page : ℕ) (old new : Pages) → new ≡ old → DiffersAtMostAt page old new
differs_same page old new is = record {
  as_many = ap length is;
  others = λ other apart. ap (λ (ps : Pages). slice_get ps other) is;
}

pub content_differs : (h : Bool) (count : ℕ) (pending : List PageImage) (image : PageImage) (file : Pages)
    → DiffersAtMostAt image.page (content_of h count pending file) (content_of h count (pending ++ image ∷ []) file)
content_differs true count pending image file =
    differs_set image.page image.bytes _ _ (put_back-append (take count file) pending (image ∷ []))
content_differs false count pending image file = differs_same image.page _ _ refl

-- a page is added after all that are there
pub content_extended : (h : Bool) (count : ℕ) (bytes : List ℕ) (old new : Pages) → (IsTrue h → length old ≡ count)
    → (IsTrue h → new ≡ old ++ bytes ∷ []) → IsTrue h
    → content_of h (count + 1) [] new ≡ content_of h count [] old ++ bytes ∷ []
content_extended true count bytes old new whole is honest =
    let long = whole refl in
    let longer = length-append old (bytes ∷ []) in
    ap (λ (ps : Pages). take (count + 1) ps) (is refl)
    ∙ take_all (count + 1) (old ++ bytes ∷ []) (omega (arith, long, longer))
    ∙ ap (λ (ps : Pages). ps ++ bytes ∷ []) (sym (take_all count old (omega (arith, long))))
content_extended false count bytes old new whole is honest = absurd cc

pub content_longer : (h : Bool) (count : ℕ) (old new : Pages) → (IsTrue h → count ≤ length old)
    → ((more : Pages) × (new ≡ old ++ more)) → content_of h count [] new ≡ content_of h count [] old
content_longer true count old new many longer =
    ap (λ (ps : Pages). take count ps) longer.1 ∙ restored_longer count [] old longer.0 (many refl)
content_longer false count old new many longer = refl

pub content_opened : (h : Bool) (count : ℕ) (file : Pages) → (IsTrue h → length file ≡ count) → IsTrue h
    → content_of h count [] file ≡ file
content_opened true count file whole honest = take_all count file (omega (arith, whole refl))
content_opened false count file whole honest = absurd cc

-- a page as the file has it
pub page_taken : (count : ℕ) (file : Pages) (page : ℕ) (bytes : List ℕ) → page < count
    → slice_get file page ≡ Some bytes → slice_get (take count file) page ≡ Some bytes
page_taken count file page bytes lt is = get_take count file page lt ∙ is

-- and with each that waits in its place
pub content_read : (h : Bool) (count : ℕ) (pending : List PageImage) (file : Pages) (page : ℕ) (bytes read : List ℕ)
    → IsTrue h → page < count → slice_get file page ≡ Some bytes
    → ((pages : Pages) → slice_get pages page ≡ Some bytes → slice_get (put_back pages pending) page ≡ Some read)
    → slice_get (content_of h count pending file) page ≡ Some read
content_read true count pending file page bytes read honest lt is laid =
    laid (take count file) (page_taken count file page bytes lt is)
content_read false count pending file page bytes read honest lt is laid = absurd cc

-- nothing was written yet
pub opened_synced : (begun : Bool) (count : ℕ) (guarded : List ℕ) (pages : ℕ) (pending : List PageImage)
    → guarded ≡ [] → count ≡ pages → pending ≡ [] → IsTrue (is_synced begun count guarded pages pending)
opened_synced begun count (page ∷ guarded) pages pending none whole nothing = absurd cc
opened_synced begun count [] pages (image ∷ pending) none whole nothing = absurd cc
opened_synced false count [] pages [] none whole nothing = refl
opened_synced true count [] pages [] none whole nothing = grind (arith, nat_tests, whole)
