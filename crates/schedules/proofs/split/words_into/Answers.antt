use Rattle.schedules.proofs.WordLemmas.{AreWordsTo-more, AreWordsTo-all}
use Rattle.schedules.proofs.split.words_into.Goals as goal

pub blanks-preserved : goal.blanks-preserved
blanks-preserved c =
    let cut = c.split_at.ensures in
    let kept = rw cut.front at c.in_ok-keep.ensures in
    AreWordsTo-more c.blanks.words.items c.keep.new.words.items c.blanks.rest.now
    c.split_at.result.1.now c.args.text.now c.in-Some.end c.in-Some.ensures kept cut.back
    c.blanks.invariant

pub returns : goal.returns
returns c =
    AreWordsTo-all c.blanks.words.items c.keep-2.new.words.items c.blanks.rest.now c.args.text.now
    c.in_default.ensures c.in_ok-keep-2.ensures c.blanks.invariant
