-- What a file and the journal beside it stand for.
use Rattle.std.specs.Prelude.{ℕ, List, [], ◌∷◌, ◌++◌, Option, Some, None, length, take, slice_set}
use Rattle.safe_device.specs.declared.journal.Journal.{Journal}
use Rattle.safe_device.specs.declared.journal.PageImage.{PageImage}
use Rattle.safe_device.specs.declared.page_pair.FoundJournal.{FoundJournal}

-- what a crash may leave: the pages, and the journal where a whole one is found
pub record Left : Type 0 where
  pub file : List (List ℕ)
  pub journal : Option Journal

-- what recovery gives: pages, and the additions of calls that were noted behind them
pub record Saved : Type 0 where
  pub pages : List (List ℕ)
  pub calls : List (List ℕ)

-- pages, and no calls behind them
abbrev pub alone : List (List ℕ) → Saved
alone pages = record { pages = pages; calls = [] }

-- the same with one addition of calls more
abbrev pub with_calls : List ℕ → Saved → Saved
with_calls calls saved = record { pages = saved.pages; calls = saved.calls ++ calls ∷ [] }

-- the pages, where each image was put in its place, in order
abbrev pub put_back : List (List ℕ) → List PageImage → List (List ℕ)
put_back pages [] = pages
put_back pages (image ∷ images) = put_back (slice_set pages image.page image.bytes) images

-- as many pages as there were, where each image was put in its place
abbrev pub restored : ℕ → List PageImage → List (List ℕ) → List (List ℕ)
restored count images pages = put_back (take count pages) images

-- the pages that recovery makes of these
abbrev pub restored_by : Option Journal → List (List ℕ) → List (List ℕ)
restored_by None pages = pages
restored_by (Some journal) pages = restored journal.count journal.images pages

-- the images of a journal
abbrev pub images_of : Option Journal → List PageImage
images_of None = []
images_of (Some journal) = journal.images

-- the additions of calls of a journal
abbrev pub calls_of : Option Journal → List (List ℕ)
calls_of None = []
calls_of (Some journal) = journal.calls

-- what recovery makes of these pages, with the calls of the journal
abbrev pub recovered_by : Option Journal → List (List ℕ) → Saved
recovered_by journal pages = record { pages = restored_by journal pages; calls = calls_of journal }

-- what recovery gives
abbrev pub recovered : Left → Saved
recovered left = recovered_by left.journal left.file

-- the journal with more images; where there was none, it says that there were so many pages
abbrev pub added : ℕ → List PageImage → Option Journal → Journal
added count images None = record { count = count; calls = []; images = images }
added count images (Some journal) =
    record { count = journal.count; calls = journal.calls; images = journal.images ++ images }

-- the journal with one addition of calls more, as above
abbrev pub noted : ℕ → List ℕ → Option Journal → Journal
noted count calls None = record { count = count; calls = calls ∷ []; images = [] }
noted count calls (Some journal) =
    record { count = journal.count; calls = journal.calls ++ calls ∷ []; images = journal.images }

-- the journal with its calls, and no image
abbrev pub without_images : Option Journal → Option Journal
without_images None = None
without_images (Some journal) = Some (record { count = journal.count; calls = journal.calls; images = [] })

-- what is left of a journal whose images are put back: its calls, and no journal where it has none
abbrev pub calls_alone : ℕ → List (List ℕ) → Option Journal
calls_alone count [] = None
calls_alone count (calls ∷ more) = Some (record { count = count; calls = calls ∷ more; images = [] })

abbrev pub rest_of : Option Journal → Option Journal
rest_of None = None
rest_of (Some journal) = calls_alone journal.count journal.calls

-- what a journal says of itself
abbrev pub found_of : Option Journal → Option FoundJournal
found_of None = None
found_of (Some journal) =
    Some (record { count = journal.count; calls = length journal.calls; images = length journal.images })
