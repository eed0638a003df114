use Rattle.std.proofs.Common.{ℕ, subst, ◌∙◌}
use Rattle.bucket_page.specs.Reading.{bucket_in}
use Rattle.bucket_page.specs.Changes.{SpellsBucket}
use Rattle.bucket_page.specs.Dividing.{joined, widened}
use Rattle.bucket_page.proofs.JoinLaws.{joining_begins, is_next_of, joining_on}
use Rattle.bucket_page.proofs.divide.join.Goals as goal

pub loop-record-init : goal.loop-record-init
loop-record-init c =
    let all = c.into_iter-record-iterator.ensures.into_iter_gives ∙ c.records_of-record-items.ensures in
    let first : SpellsBucket (widened (bucket_in c.args.right.now).next (bucket_in c.args.left.now))
    c.write_widened.new.into =
    subst (λ (next : ℕ). SpellsBucket (widened next (bucket_in c.args.left.now)) c.write_widened.new.into)
    c.four_at.ensures c.write_widened.ensures in (
      tt,
      tt,
      joining_begins (bucket_in c.args.left.now) (bucket_in c.args.right.now) _ _ first all c.requires.apart
          c.requires.right.in_range.order c.requires.room,
    )

pub put_fitting-requires-clause-bucket : goal.put_fitting-requires-clause-bucket
put_fitting-requires-clause-bucket c =
    (is_next_of (joined (bucket_in c.args.left.now) (bucket_in c.args.right.now)) _ _ _ _ c.loop-record.invariant.2
    c.in-Some.ensures.steps).page

pub put_fitting-requires-clause-room : goal.put_fitting-requires-clause-room
put_fitting-requires-clause-room c =
    (is_next_of (joined (bucket_in c.args.left.now) (bucket_in c.args.right.now)) _ _ _ _ c.loop-record.invariant.2
    c.in-Some.ensures.steps).room

pub loop-record-preserved : goal.loop-record-preserved
loop-record-preserved c = (
  tt,
  tt,
  joining_on (joined (bucket_in c.args.left.now) (bucket_in c.args.right.now)) _ _ _ _ _
      c.loop-record.invariant.2 c.in-Some.ensures.steps c.put_fitting.ensures,
)
