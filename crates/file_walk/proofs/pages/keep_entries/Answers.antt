-- Entries are kept up to the end of the page, or up to the most.
use Rattle.std.proofs.Common.{◌≢◌, ◌≤◌, ◌<◌, length-append, subst, sym, ◌∙◌, ap, arith, length, ◌++◌, ◌∷◌, []}
use Rattle.file_walk.proofs.KeptLemmas.{kept_full, kept_all, kept_more}
use Rattle.file_walk.proofs.pages.keep_entries.Goals as goal

pub returns-then-len-most : goal.returns-then-len-most
returns-then-len-most c =
    kept_full _ _ _ _ _ c.loop-slot.invariant.kept
    (sym c.loop-slot.entries.ok.0 ∙ sym c.len.ensures ∙ c.if-len-most.true)

pub loop-slot-preserved : goal.loop-slot-preserved
loop-slot-preserved c =
    record {
      room =
          let fewer : length c.loop-slot.entries.items ≢ c.args.most =
          λ same. c.if-len-most.false (c.len.ensures ∙ c.loop-slot.entries.ok.0 ∙ same) in
          let room = c.loop-slot.invariant.room in
          rw (c.in_ok-push.ensures.items, length-append) (omega arith);
      kept =
          c.in_ok-push.ensures.items
          ∙ ap (λ e. c.loop-slot.entries.items ++ e ∷ []) c.entry.ensures
          ∙ kept_more c.args.most c.args.entries.now.items c.args.directory.now c.loop-slot.entries.items
          c.loop-slot.slot
          (subst (λ n. c.loop-slot.slot < n) (sym c.requires.whole) c.loop-slot-test.true)
          c.loop-slot.invariant.kept;
    }

pub returns : goal.returns
returns c =
    kept_all _ _ _ _ _ c.loop-slot.invariant.kept
    (subst (λ n. n ≤ c.loop-slot.slot) (sym c.requires.whole) c.loop-slot-test.false)
    c.loop-slot.invariant.room
