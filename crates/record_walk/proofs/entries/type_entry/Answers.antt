-- The links of a type are its neighbours.
use Rattle.std.proofs.Common.{ℤ, pos, List, ◌<ℤ◌, sym, subst, ◌∙◌, rules}
use Rattle.std.specs.List.{AllPairs}
use Rattle.std.specs.Prelude.{slice_index_or}
use Rattle.std.proofs.lemmas.Int.{to_z-of_z}
use mir.Syntax.{w64}
use mir.Val.{SFits}
use Rattle.type_chains.proofs.Unique.{types_ascend}
use Rattle.record_walk.proofs.LinkLemmas.{first_or, last_or, type_before_is, type_behind_is}
use Rattle.record_walk.proofs.entries.type_entry.Goals as goal

pub returns : goal.returns
returns c =
    let ts = c.args.kinds.now in
    let x : ℤ = slice_index_or ts c.args.place (pos 0) in
    let fits : SFits w64 x = search rules in
    let kinds = c.requires.kinds in
    let ascend = subst (λ (ts : List ℤ). AllPairs (λ (a b : ℤ). a <ℤ b) ts) (sym kinds)
    (types_ascend c.args.queue.now.messages) in
    let m = to_z-of_z w64 x fits in
    let first = c.unwrap_or.ensures ∙ first_or c.args.queue.now.messages x c.args.ends c.requires.ends in
    let last = c.unwrap_or-2.ensures ∙ last_or c.args.queue.now.messages x c.args.ends c.requires.ends in
    let lower = c.type_before.ensures ∙ type_before_is ts c.args.place ascend c.requires.within _ kinds in
    let higher = c.type_behind.ensures ∙ type_behind_is ts c.args.place ascend c.requires.within _ kinds in
    λ i. record {
      id = c.args.queue.now.id;
      mtype = m i;
      first = first i;
      last = last i;
      lower = lower i;
      higher = higher i;
    }
