use Rattle.std.proofs.Common.{◌≡◌, refl, sym, ap, ◌∙◌, subst, ℕ, suc, ◌%◌, ◌^◌, ◌≤◌, List, [], ◌∷◌, ◌++◌, length, arith, None, Some}
use Rattle.step_rules.proofs.OwnLemmas.{low_bits_below}
use Rattle.std.proofs.lemmas.List.{length_push}
use Rattle.step_rules.specs.Words.{Lock, Directory, Page, Read, Store, entry_at, distance, Answers}
use Rattle.stale_search.specs.Words.{kind_of, lock_of, without, Table, row_of, with_row, without_lock, IsReached, Deep, LeadsTo, ForEntry, store_of}
use Rattle.page_locks.proofs.ChangeLemmas.{with_row-own, without_lock-with_lock}
use Rattle.page_locks.proofs.TableLemmas.{row_of-same}
use Rattle.step_rules.specs.declared.kind.Kind.TheVariants as kinds
use Rattle.step_rules.proofs.LockLemmas.{IsHeld-some}
use Rattle.step_rules.proofs.OwnLemmas.{entry_read_leads}
use Rattle.step_rules.proofs.BuddyLemmas.{hop_goes_elsewhere}
use Rattle.step_rules.proofs.MachineLemmas.{directory_may, page_may}
use Rattle.stale_search.specs.Steps.{world}
use Rattle.stale_search.specs.Rows.{on_page}
use Rattle.stale_search.proofs.RowLemmas.{directory_in, both_held, page_not_in, released, other_not_on, hopped}
use Rattle.stale_search.proofs.LeftLemmas.{twice_below, hop_falls}
use Rattle.step_rules.specs.Searching.{ByEntry}
use Rattle.step_rules.specs.Ways.{hops_between}
use Rattle.step_rules.proofs.BoundLemmas.{depth_is_exact, entry_is_near, hop_is_nearer}
use Rattle.stale_search.proofs.StepLemmas.{granted, granted_page, kept_from, read, gave_back, stays_there, taken, hopped_back, hopped_on, hop_blocked}
use Rattle.stale_search.proofs.LookLemmas.{look_leaves, read_fails}
use Rattle.stale_search.proofs.search.Search.step.Goals as goal

pub read_entry-requires-clause-within : goal.read_entry-requires-clause-within
read_entry-requires-clause-within g c =
    let shallow : c.in-ReadEntry.depth ≤ 17 = rw c.in-ReadEntry.is at c.self.invariant.in_range in
    rw (c.index.ensures) (low_bits_below c.self.inside.pseudokey c.in-ReadEntry.depth 17 shallow)

pub try_grant-requires-in-GrantPage-clause-fresh : goal.try_grant-requires-in-GrantPage-clause-fresh
try_grant-requires-in-GrantPage-clause-fresh g c =
    let row = rw (← c.self.view_is, c.in-GrantPage.is) at c.requires.row in
    ap (λ (locks : List Lock). kind_of locks (Page c.in-GrantPage.page)) row.is ∙ page_not_in row.before row.bare Read
    c.in-GrantPage.page

pub returns-in-Granted-clause-step : goal.returns-in-Granted-clause-step
returns-in-Granted-clause-step g c = λ hash change write before bare row sees _.
    let sees' = rw (← c.self.view_is, c.in-GrantDirectory.is) at sees in
    let row' = rw (← c.self.view_is, c.in-GrantDirectory.is) at c.requires.row in
    rw (← c.self.view_is, c.in-GrantDirectory.is)
    (granted hash c.args.seat [] c.args.pool.now c.args.locks.now change sees' write c.try_grant.new.self Directory
    _ tt c.requires.seat
    (let room = row'.room in let size = ap length row'.is in omega (arith, room, size))
    (ap (λ (locks : List Lock). kind_of locks Directory) row'.is ∙ row'.bare.directory)
    c.in-Granted.ensures.busy.1 (λ page same. absurd cc)
    (directory_may c.args.seat Read (world c.args.pool.now.images c.args.locks.now change) (λ same. absurd cc)
    (λ n. ap (λ (locks : List Lock). kind_of locks (Page n)) row'.is ∙ row'.bare.pages n))
    c.in-Granted.ensures.ok)

pub returns-in-Ok-clause-step : goal.returns-in-Ok-clause-step
returns-in-Ok-clause-step g c = λ hash change write before bare row sees _.
    let sees' = rw (← c.self.view_is, c.in-ReadDepth.is) at sees in
    let row' = rw (← c.self.view_is, c.in-ReadDepth.is) at row in
    let here = IsHeld-some c.args.locks.now c.args.seat Directory _
    (ap (λ (locks : List Lock). kind_of locks Directory) row' ∙ directory_in before bare Read) in
    let deep = c.in-Ok.ensures.ok sees'.honest in
    rw (← c.self.view_is, c.in-ReadDepth.is)
    (read hash c.args.seat [] c.args.pool.now c.args.locks.now change sees' write kinds.ReadDepth
    (record { ask = None; write = write }) (Deep c.in-Ok.depth ∷ [])
    c.read_depth.new.pool c.in-Ok.ensures.reads ((here, omega (arith, deep)), tt) (record { had = here; is = refl })
    (record {
      moved = refl;
      shared = ap (λ (locks : List Lock). kind_of locks Directory) row' ∙ directory_in before bare Read;
      is = deep;
    }))

pub returns-in-Ok-read_entry-clause-step : goal.returns-in-Ok-read_entry-clause-step
returns-in-Ok-read_entry-clause-step g c = λ hash change write before bare row sees _.
    let sees' = rw (← c.self.view_is, c.in-ReadEntry.is) at sees in
    let row' = rw (← c.self.view_is, c.in-ReadEntry.is) at row in
    let here = IsHeld-some c.args.locks.now c.args.seat Directory _
    (ap (λ (locks : List Lock). kind_of locks Directory) row' ∙ directory_in before bare Read) in
    let led = entry_read_leads hash c.args.seat (world c.args.pool.now.images c.args.locks.now change)
    c.in-ReadEntry.depth c.self.inside.pseudokey sees'.sound sees'.known.0 in
    let is = c.in-Ok-read_entry.ensures.ok sees'.honest in
    let at = c.index.ensures in
    rw (← c.self.view_is, c.in-ReadEntry.is)
    (read hash c.args.seat _ c.args.pool.now c.args.locks.now change sees' write kinds.ReadEntry
    (record { ask = Some (ForEntry c.in-ReadEntry.depth c.self.inside.pseudokey); write = write })
    (LeadsTo c.in-Ok-read_entry.page c.self.inside.pseudokey ∷ [])
    c.read_entry.new.pool c.in-Ok-read_entry.ensures.reads ((rw (is, at) led), tt) (record { had = here; is = refl })
    (record {
      still = refl;
      behind = λ e. absurd cc;
      by = ByEntry c.in-ReadEntry.depth refl (is ∙ ap (entry_at (store_of c.args.pool.now.images)) at);
    }))

pub returns-in-Granted-try_grant-clause-step : goal.returns-in-Granted-try_grant-clause-step
returns-in-Granted-try_grant-clause-step g c = λ hash change write before bare row sees _.
    let sees' = rw (← c.self.view_is, c.in-GrantPage.is) at sees in
    let row' = rw (← c.self.view_is, c.in-GrantPage.is) at c.requires.row in
    let here = IsHeld-some c.args.locks.now c.args.seat Directory _
    (ap (λ (locks : List Lock). kind_of locks Directory) row'.is ∙ directory_in row'.before row'.bare Read) in
    rw (← c.self.view_is, c.in-GrantPage.is)
    (granted_page hash c.args.seat _ c.args.pool.now c.args.locks.now change sees' write
    c.in-GrantPage.page c.self.inside.pseudokey _ c.try_grant-in-GrantPage.new.self sees'.known c.requires.seat
    (let room = row'.room in let size = ap length row'.is in let more = length_push row'.before
    (lock_of Directory Read) in omega (arith, room, size, more))
    (ap (λ (locks : List Lock). kind_of locks (Page c.in-GrantPage.page)) row'.is ∙ page_not_in row'.before
    row'.bare Read c.in-GrantPage.page)
    c.in-Granted-try_grant.ensures.busy.1
    (λ page same. subst (λ (n : ℕ). IsReached (world c.args.pool.now.images c.args.locks.now change) n)
    (let e : c.in-GrantPage.page ≡ page = cc in e) sees'.known.0.1.stands)
    (page_may c.in-GrantPage.page c.self.inside.kind c.args.seat
    (world c.args.pool.now.images c.args.locks.now change)
    here c.self.invariant.shared)
    c.in-Granted-try_grant.ensures.ok)

pub returns-in-Blocked-try_grant-clause-step : goal.returns-in-Blocked-try_grant-clause-step
returns-in-Blocked-try_grant-clause-step g c = λ hash change write before bare row sees _.
    let sees' = rw (← c.self.view_is, c.in-GrantPage.is) at sees in
    rw (← c.self.view_is, c.in-GrantPage.is, c.in-Blocked-try_grant.ensures.same)
    (kept_from hash c.args.seat _ c.args.pool.now c.args.locks.now change sees' write c.in-GrantPage.page
    c.self.inside.pseudokey c.self.inside.kind c.in-Blocked-try_grant.other sees'.known
    c.in-Blocked-try_grant.ensures.blocked)

pub returns-in-Found-clause-step : goal.returns-in-Found-clause-step
returns-in-Found-clause-step g c = λ hash change write before bare row sees _.
    let sees' = rw (← c.self.view_is, c.in-Found.is) at sees in
    rw (← c.self.view_is, c.in-Found.is)
    (stays_there hash c.args.seat _ c.args.pool.now c.args.locks.now change sees' write c.in-Found.field-0
    c.self.inside.pseudokey sees'.known)

pub returns-in-ReleaseDirectory-clause-row : goal.returns-in-ReleaseDirectory-clause-row
returns-in-ReleaseDirectory-clause-row g c = λ before bare row.
    let row' = rw (← c.self.view_is, c.in-ReleaseDirectory.is) at row in
    c.release.ensures ∙ ap (with_row c.args.locks.now c.args.seat)
    (ap (λ (locks : List Lock). without locks Directory) row' ∙ released before bare c.in-ReleaseDirectory.page
    c.self.inside.kind)

pub returns-in-ReleaseDirectory-clause-step : goal.returns-in-ReleaseDirectory-clause-step
returns-in-ReleaseDirectory-clause-step g c = λ hash change write before bare row sees _.
    let sees' = rw (← c.self.view_is, c.in-ReleaseDirectory.is) at sees in
    let row' = rw (← c.self.view_is, c.in-ReleaseDirectory.is) at row in
    let back : c.release.new.self ≡ with_row c.args.locks.now c.args.seat
    (on_page c.in-ReleaseDirectory.page c.self.inside.kind before) =
    c.release.ensures ∙ ap (with_row c.args.locks.now c.args.seat)
    (ap (λ (locks : List Lock). without locks Directory) row' ∙ released before bare c.in-ReleaseDirectory.page
    c.self.inside.kind) in
    rw (← c.self.view_is, c.in-ReleaseDirectory.is)
    (gave_back hash c.args.seat _ c.args.pool.now c.args.locks.now change sees' write c.release.new.self
    c.in-ReleaseDirectory.page c.self.inside.pseudokey c.self.inside.kind before bare c.requires.seat
    (ap (λ (locks : List Lock). kind_of locks Directory) row' ∙ both_held before bare c.in-ReleaseDirectory.page
    c.self.inside.kind)
    (ap (λ (t : Table). row_of t c.args.seat) back ∙ row_of-same c.args.locks.now c.args.seat _ c.requires.seat)
    c.release.ensures sees'.known.0.1)

pub returns-in-Ok-clause-progress : goal.returns-in-Ok-clause-progress
returns-in-Ok-clause-progress g c = λ hash change sees.
    let sees' = rw (← c.self.view_is, c.in-ReadDepth.is) at sees in
    rw (← c.self.view_is, c.in-ReadDepth.is)
    (let s : Store = store_of c.args.pool.now.images in
    let none : hops_between s c.in-Ok.depth c.self.inside.pseudokey ≡ 0 =
    ap (λ (d : ℕ). hops_between s d c.self.inside.pseudokey) (c.in-Ok.ensures.ok sees'.honest)
    ∙ depth_is_exact hash (world c.args.pool.now.images c.args.locks.now change) c.self.inside.pseudokey sees'.sound in
    rw (c.in-Ok.ensures.reads.images sees'.honest, none) (omega arith))

pub returns-in-Ok-read_entry-clause-progress : goal.returns-in-Ok-read_entry-clause-progress
returns-in-Ok-read_entry-clause-progress g c = λ hash change sees.
    let sees' = rw (← c.self.view_is, c.in-ReadEntry.is) at sees in
    rw (← c.self.view_is, c.in-ReadEntry.is)
    (let s : Store = store_of c.args.pool.now.images in
    let k : ℕ = c.self.inside.pseudokey in
    let near = entry_is_near hash c.args.seat (world c.args.pool.now.images c.args.locks.now change)
    c.in-ReadEntry.depth k sees'.sound sees'.known.0 in
    let named : c.in-Ok-read_entry.page ≡ entry_at s (k % 2 ^ c.in-ReadEntry.depth) =
    c.in-Ok-read_entry.ensures.ok sees'.honest ∙ ap (entry_at s) c.index.ensures in
    let few = rw (← named) at near in
    rw (c.in-Ok-read_entry.ensures.reads.images sees'.honest)
    (twice_below (distance s c.in-Ok-read_entry.page k) (hops_between s c.in-ReadEntry.depth k) few))

-- ---- at a Look

pub returns-in-Ok-Covering-clause-step : goal.returns-in-Ok-Covering-clause-step
returns-in-Ok-Covering-clause-step g c =
    rw (← c.self.view_is, c.in-Look.is)
    (look_leaves c.args.seat c.in-Look.page c.self.inside.pseudokey c.args.pool.now c.look.new.pool c.args.locks.now
    c.self.inside.kind c.requires.seat c.in-Ok-Covering.ensures.reads)

pub returns-in-Ok-Covering-clause-answer : goal.returns-in-Ok-Covering-clause-answer
returns-in-Ok-Covering-clause-answer g c = λ hash change keyed sees _.
    let sees' = rw (← c.self.view_is, c.in-Look.is) at sees in
    let keyed' = rw (← c.self.view_is) at keyed in
    let row' = rw (← c.self.view_is, c.in-Look.is) at c.requires.row in
    let sight = rw c.in-Ok-Covering.field-0-is at (c.in-Ok-Covering.ensures.ok sees'.honest) in
    rw (← c.self.view_is, c.in-Look.is) (
      refl,
      taken hash c.args.seat _ c.args.pool.now c.args.locks.now change sees' None c.look.new.pool
          c.in-Ok-Covering.ensures.reads c.in-Look.page c.self.inside.pseudokey c.self.inside.kind row'.before row'.bare
          c.requires.seat row'.is sees'.known.0.1
          c.self.inside.key c.in-Ok-Covering.found keyed' (sight.0.bucket, sight.0.covers) sight.1,
    )

pub returns-in-Ok-Naming-clause-step : goal.returns-in-Ok-Naming-clause-step
returns-in-Ok-Naming-clause-step g c =
    rw (← c.self.view_is, c.in-Look.is)
    (look_leaves c.args.seat c.in-Look.page c.self.inside.pseudokey c.args.pool.now c.look.new.pool c.args.locks.now
    c.self.inside.kind c.requires.seat c.in-Ok-Naming.ensures.reads)

pub returns-in-Err-look-clause-progress : goal.returns-in-Err-look-clause-progress
returns-in-Err-look-clause-progress g c =
    rw (← c.self.view_is, c.in-Look.is)
    (read_fails c.args.seat c.in-Look.page c.self.inside.pseudokey c.args.pool.now c.look.new.pool c.args.locks.now
    c.in-Err-look.fault c.in-Err-look.ensures.fault)

-- ---- at a Hop

pub returns-then-next-page-clause-progress : goal.returns-then-next-page-clause-progress
returns-then-next-page-clause-progress g c = λ hash change sees.
    let sees' = rw (← c.self.view_is, c.in-Hop.is) at sees in
    let sight = rw c.in-Ok-Naming-look.field-0-is at (c.in-Ok-Naming-look.ensures.ok sees'.honest) in
    absurd (hop_goes_elsewhere hash (world c.args.pool.now.images c.args.locks.now change) c.in-Hop.page
    c.self.inside.pseudokey sees'.sound sees'.known.0.1
    (λ answers. sight.0 (record { bucket = answers.0; covers = answers.1 })) (sight.1 ∙ c.if-next-page.true))

pub try_grant-requires-in-Ok-Naming-look-clause-fresh : goal.try_grant-requires-in-Ok-Naming-look-clause-fresh
try_grant-requires-in-Ok-Naming-look-clause-fresh g c =
    let row = rw (← c.self.view_is, c.in-Hop.is) at c.requires.row in
    ap (λ (locks : List Lock). kind_of locks (Page c.in-Ok-Naming-look.next)) row.is
    ∙ other_not_on row.before row.bare c.in-Hop.page c.in-Ok-Naming-look.next c.self.inside.kind
    (λ same. c.if-next-page.false (sym same))

pub returns-in-Ok-Covering-look-clause-step : goal.returns-in-Ok-Covering-look-clause-step
returns-in-Ok-Covering-look-clause-step g c = λ hash change write before bare row sees _.
    let sees' = rw (← c.self.view_is, c.in-Hop.is) at sees in
    let row' = rw (← c.self.view_is, c.in-Hop.is) at row in
    let sight = rw c.in-Ok-Covering-look.field-0-is at (c.in-Ok-Covering-look.ensures.ok sees'.honest) in
    rw (← c.self.view_is, c.in-Hop.is)
    (hopped_back hash c.args.seat _ c.args.pool.now c.args.locks.now change sees' write c.look-in-Hop.new.pool
    c.in-Ok-Covering-look.ensures.reads c.in-Hop.page c.self.inside.pseudokey c.self.inside.kind before bare
    c.requires.seat row' sees'.known.0.1
    (sight.0.bucket, sight.0.covers))

pub returns-in-Granted-try_grant-2-clause-row : goal.returns-in-Granted-try_grant-2-clause-row
returns-in-Granted-try_grant-2-clause-row g c = λ before bare row.
    let row' = rw (← c.self.view_is, c.in-Hop.is) at row in
    c.release-in-Granted-try_grant-2.ensures
    ∙ ap (λ (t : Table). without_lock t c.args.seat (Page c.in-Hop.page)) c.in-Granted-try_grant-2.ensures.ok
    ∙ without_lock-with_lock c.args.locks.now c.args.seat (Page c.in-Ok-Naming-look.next) c.self.inside.kind
    (Page c.in-Hop.page) c.requires.seat
    ∙ ap (with_row c.args.locks.now c.args.seat) (ap (λ (locks : List Lock). without
    (locks ++ lock_of (Page c.in-Ok-Naming-look.next) c.self.inside.kind ∷ []) (Page c.in-Hop.page)) row'
    ∙ hopped before bare c.in-Hop.page c.in-Ok-Naming-look.next c.self.inside.kind c.if-next-page.false)

pub returns-in-Granted-try_grant-2-clause-step : goal.returns-in-Granted-try_grant-2-clause-step
returns-in-Granted-try_grant-2-clause-step g c = λ hash change write before bare row sees _.
    let sees' = rw (← c.self.view_is, c.in-Hop.is) at sees in
    let row' = rw (← c.self.view_is, c.in-Hop.is) at row in
    let room = (rw (← c.self.view_is, c.in-Hop.is) at c.requires.row) in
    let sight = rw c.in-Ok-Naming-look.field-0-is at (c.in-Ok-Naming-look.ensures.ok sees'.honest) in
    let back : c.release-in-Granted-try_grant-2.new.self ≡ with_row c.args.locks.now c.args.seat
    (on_page c.in-Ok-Naming-look.next c.self.inside.kind before) =
    c.release-in-Granted-try_grant-2.ensures
    ∙ ap (λ (t : Table). without_lock t c.args.seat (Page c.in-Hop.page)) c.in-Granted-try_grant-2.ensures.ok
    ∙ without_lock-with_lock c.args.locks.now c.args.seat (Page c.in-Ok-Naming-look.next) c.self.inside.kind
    (Page c.in-Hop.page) c.requires.seat
    ∙ ap (with_row c.args.locks.now c.args.seat) (ap (λ (locks : List Lock). without
    (locks ++ lock_of (Page c.in-Ok-Naming-look.next) c.self.inside.kind ∷ []) (Page c.in-Hop.page)) row'
    ∙ hopped before bare c.in-Hop.page c.in-Ok-Naming-look.next c.self.inside.kind c.if-next-page.false) in
    rw (← c.self.view_is, c.in-Hop.is)
    (hopped_on hash c.args.seat _ c.args.pool.now c.args.locks.now change sees' write c.look-in-Hop.new.pool
    c.in-Ok-Naming-look.ensures.reads c.in-Hop.page c.self.inside.pseudokey c.self.inside.kind before bare
    c.requires.seat row' sees'.known.0.1
    c.release-in-Granted-try_grant-2.new.self c.in-Ok-Naming-look.next (sym sight.1)
    (λ answers. sight.0 (record { bucket = answers.0; covers = answers.1 }))
    (let few = room.room in let size = ap length room.is in let more = length_push room.before
    (lock_of (Page c.in-Hop.page) c.self.inside.kind) in omega (arith, few, size, more))
    c.if-next-page.false c.in-Granted-try_grant-2.ensures.busy.1
    (c.release-in-Granted-try_grant-2.ensures ∙ ap (λ (t : Table). without_lock t c.args.seat
    (Page c.in-Hop.page)) c.in-Granted-try_grant-2.ensures.ok)
    (ap (λ (t : Table). row_of t c.args.seat) back ∙ row_of-same c.args.locks.now c.args.seat _ c.requires.seat))

pub returns-in-Blocked-try_grant-2-clause-step : goal.returns-in-Blocked-try_grant-2-clause-step
returns-in-Blocked-try_grant-2-clause-step g c = λ hash change write before bare row sees _.
    let sees' = rw (← c.self.view_is, c.in-Hop.is) at sees in
    let row' = rw (← c.self.view_is, c.in-Hop.is) at row in
    let sight = rw c.in-Ok-Naming-look.field-0-is at (c.in-Ok-Naming-look.ensures.ok sees'.honest) in
    rw (← c.self.view_is, c.in-Hop.is, c.in-Blocked-try_grant-2.ensures.same)
    (hop_blocked hash c.args.seat _ c.args.pool.now c.args.locks.now change sees' write c.look-in-Hop.new.pool
    c.in-Ok-Naming-look.ensures.reads c.in-Hop.page c.self.inside.pseudokey c.self.inside.kind before bare
    c.requires.seat row' sees'.known.0.1
    c.in-Blocked-try_grant-2.other c.in-Ok-Naming-look.next (sym sight.1)
    (λ answers. sight.0 (record { bucket = answers.0; covers = answers.1 }))
    c.in-Blocked-try_grant-2.ensures.blocked)

pub returns-in-Err-look-2-clause-progress : goal.returns-in-Err-look-2-clause-progress
returns-in-Err-look-2-clause-progress g c =
    rw (← c.self.view_is, c.in-Hop.is)
    (read_fails c.args.seat c.in-Hop.page c.self.inside.pseudokey c.args.pool.now c.look-in-Hop.new.pool
    c.args.locks.now c.in-Err-look-2.fault c.in-Err-look-2.ensures.fault)

pub returns-in-Granted-try_grant-2-clause-progress : goal.returns-in-Granted-try_grant-2-clause-progress
returns-in-Granted-try_grant-2-clause-progress g c = λ hash change sees.
    let sees' = rw (← c.self.view_is, c.in-Hop.is) at sees in
    let sight = rw c.in-Ok-Naming-look.field-0-is at (c.in-Ok-Naming-look.ensures.ok sees'.honest) in
    rw (← c.self.view_is, c.in-Hop.is)
    (let s : Store = store_of c.args.pool.now.images in
    let k : ℕ = c.self.inside.pseudokey in
    let other : Answers s c.in-Hop.page k → ⊥ = λ answers. sight.0
    (record { bucket = answers.0; covers = answers.1 }) in
    let nearer = hop_is_nearer hash (world c.args.pool.now.images c.args.locks.now change) c.in-Hop.page k
    sees'.sound sees'.known.0.1 other in
    rw (c.in-Ok-Naming-look.ensures.reads.images sees'.honest)
    (hop_falls s c.in-Hop.page c.in-Ok-Naming-look.next k other
    (nearer ∙ ap (λ (n : ℕ). suc (distance s n k)) sight.1)))

pub returns-in-Blocked-try_grant-2-clause-row : goal.returns-in-Blocked-try_grant-2-clause-row
returns-in-Blocked-try_grant-2-clause-row g c = λ before bare row.
    c.in-Blocked-try_grant-2.ensures.same ∙ sym (with_row-own c.args.locks.now c.args.seat) ∙ ap
    (with_row c.args.locks.now c.args.seat) row
