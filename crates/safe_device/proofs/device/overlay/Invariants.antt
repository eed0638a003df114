use Rattle.std.proofs.Common.{◌≡◌, ℕ, List, Some, slice_get, take}
use Rattle.safe_device.specs.Left.{put_back}
use Rattle.safe_device.proofs.device.overlay.Given as goal

-- the page is what it is where the images so far are in their places
abbrev pub invariant-loop-image : goal.invariant-loop-image
invariant-loop-image l =
    (pages : List (List ℕ)) → slice_get pages l.page ≡ Some l.fn.into
    → slice_get (put_back pages (take l.image-index l.images)) l.page ≡ Some l.into
