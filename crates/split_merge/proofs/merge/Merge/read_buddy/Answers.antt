use Rattle.std.proofs.Common.{sym, ap, ◌∙◌, ◌%◌, ◌^◌}
use Rattle.stale_search.specs.file_pages.declared.fault.FileFault.TheVariants.{Failed}
use Rattle.hash_file.specs.Store.{entry_at}
use Rattle.step_rules.proofs.OwnLemmas.{low_bits_below}
use Rattle.split_merge.specs.MergeWords.{Range, ReadBuddy, store_of}
use Rattle.split_merge.proofs.ArmLemmas.{stays}
use Rattle.split_merge.proofs.LookLemmas.{buddy_not_read, buddy_is_itself, own_is_left, own_is_right}
use Rattle.split_merge.proofs.merge.Merge.read_buddy.Goals as goal

pub read_entry-requires-clause-within : goal.read_entry-requires-clause-within
read_entry-requires-clause-within g c =
    rw (c.index.ensures) (low_bits_below c.buddy.result.pattern c.args.own.depth 17 c.requires.own.depth)

pub returns-in-Err : goal.returns-in-Err
returns-in-Err g c = λ seat locks row.
    stays seat c.args.pool.now locks c.args.self.now (ReadBuddy c.args.own) c.in-Err.fault c.read_entry.new.pool
    c.requires.place
    (buddy_not_read seat c.args.self.now.key c.args.self.now.approach c.args.pool.now c.read_entry.new.pool locks
    c.args.own c.requires.own c.in-Err.fault c.in-Err.ensures.reads
    c.in-Err.ensures.cause c.in-Err.ensures.fault)

-- no bucket is its own buddy
pub returns-then-buddy-own : goal.returns-then-buddy-own
returns-then-buddy-own g c = λ seat locks row.
    stays seat c.args.pool.now locks c.args.self.now (ReadBuddy c.args.own) Failed c.read_entry.new.pool
    c.requires.place
    (buddy_is_itself seat c.args.self.now.key c.args.self.now.approach c.args.pool.now c.read_entry.new.pool locks
    c.args.own c.requires.own c.in-Ok.buddy c.in-Ok.ensures.reads
    (λ honest. c.in-Ok.ensures.ok honest ∙ ap (entry_at (store_of c.args.pool.now.images))
    (c.index.ensures ∙ ap (λ (r : Range). r.pattern % 2 ^ c.args.own.depth) c.buddy.ensures))
    c.if-buddy-own.true)

pub returns-then-is_lower_half : goal.returns-then-is_lower_half
returns-then-is_lower_half g c = λ seat locks row.
    let is = rw (← c.self.view_is) at c.requires.place in
    rw (← c.self.view_is, is, c.beside-b.ensures.value) (own_is_left seat c.self.inside.key c.self.inside.approach
    c.args.pool.now c.read_entry.new.pool locks c.args.own c.requires.own c.in-Ok.buddy c.in-Ok.ensures.reads
    (λ honest. c.in-Ok.ensures.ok honest ∙ ap (entry_at (store_of c.args.pool.now.images))
    (c.index.ensures ∙ ap (λ (r : Range). r.pattern % 2 ^ c.args.own.depth) c.buddy.ensures))
    (sym c.is_lower_half.ensures ∙ c.if-is_lower_half.true))

pub returns : goal.returns
returns g c = λ seat locks row.
    let is = rw (← c.self.view_is) at c.requires.place in
    rw (← c.self.view_is, is, c.beside.ensures.value) (own_is_right seat c.self.inside.key c.self.inside.approach
    c.args.pool.now c.read_entry.new.pool locks c.args.own c.requires.own c.in-Ok.buddy c.in-Ok.ensures.reads
    (λ honest. c.in-Ok.ensures.ok honest ∙ ap (entry_at (store_of c.args.pool.now.images))
    (c.index.ensures ∙ ap (λ (r : Range). r.pattern % 2 ^ c.args.own.depth) c.buddy.ensures))
    (sym c.is_lower_half.ensures ∙ c.if-is_lower_half.false))
