use Rattle.std.proofs.Common.{◌≡◌, refl, sym, ap, ◌∙◌, subst, ℕ, ◌≤◌, List, [], ◌∷◌, length, arith, None, inl}
use Rattle.std.proofs.lemmas.List.{length_push}
use Rattle.step_rules.specs.Words.{Lock, Directory, Page, Selective, Quiet}
use Rattle.stale_search.specs.Words.{kind_of, lock_of, IsReached, Built}
use Rattle.step_rules.specs.Structure.{InPhase, HasDepth, BucketOf}
use Rattle.step_rules.specs.declared.kind.Kind.TheVariants as kinds
use Rattle.step_rules.proofs.LockLemmas.{IsHeld-writer}
use Rattle.step_rules.proofs.MachineLemmas.{directory_may, page_may}
use Rattle.step_rules.proofs.OwnLemmas.{low_bits_below, directory_is_quiet, entry_is_bucket}
use Rattle.stale_search.specs.Steps.{world}
use Rattle.stale_search.proofs.RowLemmas.{page_not_in}
use Rattle.stale_search.proofs.StepLemmas.{granted, granted_to, read}
use Rattle.stale_search.proofs.approach.Approach.step.Goals as goal

pub read_entry-requires-clause-within : goal.read_entry-requires-clause-within
read_entry-requires-clause-within g c =
    let shallow : c.in-ReadEntry.depth ≤ 17 = rw c.in-ReadEntry.is at c.self.invariant in
    rw (c.index.ensures) (low_bits_below c.self.inside.pseudokey c.in-ReadEntry.depth 17 shallow)

pub try_grant-requires-in-GrantPage-clause-fresh : goal.try_grant-requires-in-GrantPage-clause-fresh
try_grant-requires-in-GrantPage-clause-fresh g c =
    let row = rw (← c.self.view_is, c.in-GrantPage.is) at c.requires.row in
    ap (λ (locks : List Lock). kind_of locks (Page c.in-GrantPage.page)) row.is
    ∙ page_not_in row.before row.bare Selective c.in-GrantPage.page

-- who is granted the directory finds no change under way
pub returns-in-Granted-clause-step : goal.returns-in-Granted-clause-step
returns-in-Granted-clause-step g c = λ hash change write before bare row sees _.
    let sees' = rw (← c.self.view_is, c.in-GrantDirectory.is) at sees in
    let row' = rw (← c.self.view_is, c.in-GrantDirectory.is) at c.requires.row in
    rw (← c.self.view_is, c.in-GrantDirectory.is)
    (granted_to hash c.args.seat [] c.args.pool.now c.args.locks.now change sees' write
    (Built (InPhase Quiet) ∷ []) c.try_grant.new.self Directory Selective tt
    (λ new g named kinded. (
      directory_is_quiet hash c.args.seat
          (world c.args.pool.now.images c.args.locks.now change) new g sees'.sound named (rw kinded refl),
      tt,
    ))
    c.requires.seat
    (let room = row'.room in let size = ap length row'.is in omega (arith, room, size))
    (ap (λ (locks : List Lock). kind_of locks Directory) row'.is ∙ row'.bare.directory)
    c.in-Granted.ensures.busy.1 (λ page same. absurd cc)
    (directory_may c.args.seat Selective (world c.args.pool.now.images c.args.locks.now change) (λ same. absurd cc)
    (λ n. ap (λ (locks : List Lock). kind_of locks (Page n)) row'.is ∙ row'.bare.pages n))
    c.in-Granted.ensures.ok)

pub returns-in-Ok-clause-step : goal.returns-in-Ok-clause-step
returns-in-Ok-clause-step g c = λ hash change write before bare row sees _.
    let sees' = rw (← c.self.view_is, c.in-ReadDepth.is) at sees in
    let owned = sees'.known.0.0 in
    let here = IsHeld-writer c.args.locks.now c.args.seat Directory owned in
    rw (← c.self.view_is, c.in-ReadDepth.is)
    (read hash c.args.seat _ c.args.pool.now c.args.locks.now change sees' write kinds.ReadDepth
    (record { ask = None; write = write }) (Built (InPhase Quiet) ∷ Built (HasDepth c.in-Ok.depth) ∷ [])
    c.read_depth.new.pool c.in-Ok.ensures.reads
    (sees'.known.0, ((owned, sym (c.in-Ok.ensures.ok sees'.honest)), tt)) (record { had = here; is = refl }) tt)

-- by the depth that was read, the entry is the bucket
pub returns-in-Ok-read_entry-clause-step : goal.returns-in-Ok-read_entry-clause-step
returns-in-Ok-read_entry-clause-step g c = λ hash change write before bare row sees _.
    let sees' = rw (← c.self.view_is, c.in-ReadEntry.is) at sees in
    let here = IsHeld-writer c.args.locks.now c.args.seat Directory sees'.known.0.0 in
    let bucket = entry_is_bucket hash c.args.seat (world c.args.pool.now.images c.args.locks.now change)
    c.in-ReadEntry.depth c.self.inside.pseudokey sees'.sound sees'.known.0 sees'.known.1.0 in
    let is = c.in-Ok-read_entry.ensures.ok sees'.honest in
    let at = c.index.ensures in
    rw (← c.self.view_is, c.in-ReadEntry.is)
    (read hash c.args.seat _ c.args.pool.now c.args.locks.now change sees' write kinds.ReadEntry
    (record { ask = None; write = write })
    (Built (InPhase Quiet) ∷ Built (HasDepth c.in-ReadEntry.depth)
    ∷ Built (BucketOf c.self.inside.pseudokey c.in-Ok-read_entry.page) ∷ [])
    c.read_entry.new.pool c.in-Ok-read_entry.ensures.reads
    (sees'.known.0, (sees'.known.1.0, ((rw (is, at) bucket), tt))) (record { had = here; is = refl }) tt)

pub returns-in-Granted-try_grant-clause-step : goal.returns-in-Granted-try_grant-clause-step
returns-in-Granted-try_grant-clause-step g c = λ hash change write before bare row sees _.
    let sees' = rw (← c.self.view_is, c.in-GrantPage.is) at sees in
    let row' = rw (← c.self.view_is, c.in-GrantPage.is) at c.requires.row in
    let here = IsHeld-writer c.args.locks.now c.args.seat Directory sees'.known.0.0 in
    rw (← c.self.view_is, c.in-GrantPage.is)
    (granted hash c.args.seat _ c.args.pool.now c.args.locks.now change sees' write
    c.try_grant-in-GrantPage.new.self (Page c.in-GrantPage.page) Selective tt c.requires.seat
    (let room = row'.room in let size = ap length row'.is in let more = length_push row'.before
    (lock_of Directory Selective) in omega (arith, room, size, more))
    (ap (λ (locks : List Lock). kind_of locks (Page c.in-GrantPage.page)) row'.is
    ∙ page_not_in row'.before row'.bare Selective c.in-GrantPage.page)
    c.in-Granted-try_grant.ensures.busy.1
    (λ page same. subst (λ (n : ℕ). IsReached (world c.args.pool.now.images c.args.locks.now change) n)
    (let e : c.in-GrantPage.page ≡ page = cc in e) (inl sees'.known.1.1.0.1.0))
    (page_may c.in-GrantPage.page Selective c.args.seat
    (world c.args.pool.now.images c.args.locks.now change) here (λ same. absurd cc))
    c.in-Granted-try_grant.ensures.ok)
