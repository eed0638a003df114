-- What was looked at allows each of the moves.
use Rattle.std.proofs.Common.{◌≡◌, ◌∙◌, ap, ℕ, ◌%◌, ◌^◌}
use Rattle.file_pages.specs.hash_file.Store.{entry_at}
use Rattle.step_rules.specs.Words.{Store}
use Rattle.stale_search.specs.Words.{PoolState, store_of}
use Rattle.step_rules.proofs.OwnLemmas.{low_bits_below}
use Rattle.stale_search.proofs.AheadLemmas.{goes_straight}
use Rattle.stale_search.proofs.search.Search.heads_for.Goals as goal

pub peek_entry-requires : goal.peek_entry-requires
peek_entry-requires g c = record {
  within = rw (c.index.ensures) (low_bits_below c.self.inside.pseudokey c.in_ok-depth.depth 17
      c.in_ok-depth.ensures.small);
}

pub returns-clause-moves : goal.returns-clause-moves
returns-clause-moves g c = λ found has.
    let k : ℕ = c.self.inside.pseudokey in
    let s : Store = store_of c.args.pool.now.images in
    let row = rw (← c.self.view_is, c.in-GrantDirectory.is) at c.requires.row in
    let begun = rw c.in-GrantDirectory.is at c.self.invariant.begun in
    let named : c.in_ok-page.page ≡ entry_at s (k % 2 ^ s.header.depth) =
    c.in_ok-page.ensures.ok
    ∙ ap (λ (p : PoolState). entry_at (store_of p.images) c.index.result) c.peek_depth.ensures.same
    ∙ ap (entry_at s) (c.index.ensures ∙ ap (λ (d : ℕ). k % 2 ^ d) c.in_ok-depth.ensures.ok) in
    let covers = rw (c.peek_entry.ensures.same, c.peek_depth.ensures.same) at
    c.peek_range.ensures.covers c.if-not-peek_range.false in
    rw (← c.self.view_is, c.in-GrantDirectory.is)
    (goes_straight c.args.seat k c.self.inside.hops c.self.inside.key c.self.inside.kind c.args.pool.now
    c.requires.ready row.before row.bare row.room c.self.invariant.shared c.args.locks.now c.in_ok-page.page
    found c.requires.seat begun row.is
    (λ opposed. absurd (let no = c.if-is_opposed.ensures.1 opposed in cc)) named
    (λ opposed. absurd (let no = c.if-is_opposed-2.ensures.1 opposed in cc)) covers (rw (← c.self.view_is) at has))
