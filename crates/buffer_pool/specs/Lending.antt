-- What a pool is once an image that it lent is given back.
use Rattle.std.specs.Prelude.{ℕ, List, Option, slice_set}
use Rattle.std.specs.Borrow.{Lends, LendsIf, MutBor, Fml, RattleType}
use Rattle.page_device.specs.declared.device.PageDevice.{Ghosts}
use Rattle.buffer_pool.specs.Table.{Held, stored_in}
use Rattle.buffer_pool.specs.Pool.{PoolState}
use Rattle.buffer_pool.specs.contracts.file_page.FilePage as page
use Rattle.buffer_pool.specs.contracts.framed.Framed as framed
use Rattle.buffer_pool.specs.contracts.table.Table as table
use Rattle.buffer_pool.specs.contracts.pool.Pool as pool

-- the page in a frame ends as what was last written to it
abbrev pub LendsFramed : MutBor (List ℕ) → MutBor (List ℕ) → Fml
LendsFramed f r = Lends framed.the_row page.the_row f r (λ payload. payload)

-- the table ends with what was last written to the payload of a frame
abbrev pub LendsPayload : MutBor Held → ℕ → MutBor (List ℕ) → Fml
LendsPayload t frame r = Lends table.the_row page.the_row t r (λ payload. stored_in frame payload t.now)

-- the pool ends with what was last written as the image of a page
abbrev pub LendsImage : (D : RattleType) → Ghosts D.Denot → MutBor PoolState → ℕ → MutBor (List ℕ) → Fml
LendsImage D device s n r =
    Lends (pool.the_row D device) page.the_row s r
    (λ payload. record s.now { images = slice_set s.now.images n payload })

-- the same where the page is in a frame, and else the pool is as it was
abbrev pub LendsResident : (D : RattleType) → Ghosts D.Denot → MutBor PoolState → ℕ → Option (MutBor (List ℕ)) → Fml
LendsResident D device s n r =
    LendsIf (pool.the_row D device) page.the_row s r
    (λ payload. record s.now { images = slice_set s.now.images n payload }) s.now
