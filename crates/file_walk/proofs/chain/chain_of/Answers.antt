-- The chain grows page by page, or breaks.
use Rattle.std.proofs.Common.{◌≡◌, ◌<◌, ◌≤◌, List, ℕ, refl, sym, subst, arith, inr, lit≤}
use Rattle.directory.specs.declared.pseudokey.TheConstants.{POSITIONS}
use Rattle.directory.specs.Ranges.{stop_of}
use Rattle.directory.specs.Tiles.{IsTileAt}
use Rattle.directory.proofs.RangeLaws.{range_stop}
use Rattle.file_walk.specs.Walks.{IsChainSoFar}
use Rattle.file_walk.proofs.ChainLemmas.{further, chain_begun, chain_goes_on, chain_whole, breaks_behind}
use Rattle.file_walk.proofs.chain.chain_of.Goals as goal

pub loop-reached-init : goal.loop-reached-init
loop-reached-init c = record {
  within = lit≤ tt;
  right =
      subst (λ n. IsChainSoFar c.args.file.now c.new-chain.result.items 0 n) (sym c.root-page.ensures)
      (subst (λ (ns : List ℕ). IsChainSoFar c.args.file.now ns 0 c.args.file.now.layout.root)
      (sym c.new-chain.ensures.items) (chain_begun c.args.file.now));
}

pub loop-reached-preserved : goal.loop-reached-preserved
loop-reached-preserved c =
    let tile : IsTileAt c.in-Some.bucket.range c.loop-reached.reached = c.if-not-is_tile_at.ensures.0 refl in
    record {
      within = subst (λ n. n ≤ POSITIONS) (sym c.stop-reached.ensures) (range_stop c.in-Some.bucket.range tile.valid);
      right =
          subst (λ n. IsChainSoFar c.args.file.now c.push.new.self.items n c.in-Some.bucket.next)
          (sym c.stop-reached.ensures)
          (subst (λ (ns : List ℕ). IsChainSoFar c.args.file.now ns (stop_of c.in-Some.bucket.range)
          c.in-Some.bucket.next)
          (sym c.in_ok-push.ensures.items)
          (chain_goes_on c.args.file.now _ _ _ _ c.loop-reached.invariant.right c.in-Some.ensures.some tile));
    }

pub loop-reached-smaller : goal.loop-reached-smaller
loop-reached-smaller c =
    let tile : IsTileAt c.in-Some.bucket.range c.loop-reached.reached = c.if-not-is_tile_at.ensures.0 refl in
    let on : c.loop-reached.reached < c.stop-reached.result =
    subst (λ n. c.loop-reached.reached < n) (sym c.stop-reached.ensures) (further c.in-Some.bucket.range _ tile) in
    let before = c.loop-reached-test.true in
    omega arith

pub returns-then-page-ne0-clause-err : goal.returns-then-page-ne0-clause-err
returns-then-page-ne0-clause-err c =
    let all : c.loop-reached.reached ≡ POSITIONS =
    let within = c.loop-reached.invariant.within in let ended = c.loop-reached-test.false in omega arith in
    inr (breaks_behind _ _ _ _ c.loop-reached.invariant.right all c.if-page-ne0.true)

pub returns-clause-ok : goal.returns-clause-ok
returns-clause-ok c =
    let all : c.loop-reached.reached ≡ POSITIONS =
    let within = c.loop-reached.invariant.within in let ended = c.loop-reached-test.false in omega arith in
    chain_whole _ _ _ _ c.loop-reached.invariant.right all c.if-page-ne0.false
