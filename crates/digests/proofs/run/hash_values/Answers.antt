use Rattle.std.proofs.Common.{◌≡◌, ◌∙◌, sym, ap, ℕ, ◌+◌, List, [], slice_index_or, arith}
use Rattle.sha2.specs.Sha256.{compress, hash_after, initial_hash_256}
use Rattle.sha2.proofs.Absorbing256.{hash_after_next}
use Rattle.digests.specs.Lanes.{block_of, padded_page}
use Rattle.digests.proofs.run.hash_values.Goals as goal

pub blocks-2-init : goal.blocks-2-init
unfolding hash_after
blocks-2-init c = λ lane within. c.initial-state.ensures lane within

pub blocks-2-preserved : goal.blocks-2-preserved
blocks-2-preserved c = λ lane within.
    let p = padded_page (c.args.first + lane) (slice_index_or c.args.pages.now lane []) in
    let block = c.blocks-2.block in
    c.compress.ensures (block_of p block) lane within (c.words.ensures lane within)
    ∙ ap (λ (h : List ℕ). compress h (block_of p block)) (c.blocks-2.invariant lane within)
    ∙ sym (hash_after_next initial_hash_256 p block)

pub returns : goal.returns
returns c = λ lane within.
    let p = padded_page (c.args.first + lane) (slice_index_or c.args.pages.now lane []) in
    let done : c.blocks-2.block ≡ 64 = omega arith in
    c.blocks-2.invariant lane within ∙ ap (hash_after initial_hash_256 p) done
