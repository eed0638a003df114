use Rattle.std.proofs.Common.{◌+◌, ◌<◌, List, length, ap, subst, ◌∙◌, arith, rules}
use Rattle.bucket_page.specs.Records.{Pair, ascend}
use Rattle.bucket_page.proofs.SeekLaws.{IsAt, begins_there, beside_above, begun, ends, own, owner_above, passes_number, passes_owner, reads}
use Rattle.bucket_page.proofs.records.Records.seek.Goals as goal
use Rattle.bucket_page.proofs.records.Records.seek.Goals.{then-found-owner+else-number-key, else-found-owner+else-found-owner-2}

pub walk-init : goal.walk-init
walk-init c =
    subst (λ (ps : List Pair). IsAt c.args.key.now ps c.self.inside.bytes.now 0) c.self.view_is
    (begun c.args.key.now c.self.inside.count c.self.inside.bytes.now c.self.invariant (ap ascend c.self.view_is
    ∙ c.requires))

-- a record begins where the walk stands
pub first_owner-found-requires : goal.first_owner-found-requires
first_owner-found-requires c =
    begins_there _ _ _ _ _ c.walk.invariant (omega (arith, c.walk-test.true)) c.split_at.ensures.back

pub first_number-number-requires : goal.first_number-number-requires
first_number-number-requires c =
    begins_there _ _ _ _ _ c.walk.invariant (omega (arith, c.walk-test.true)) c.split_at.ensures.back

pub split_record-requires : goal.split_record-requires
split_record-requires c =
    begins_there _ _ _ _ _ c.walk.invariant (omega (arith, c.walk-test.true)) c.split_at.ensures.back

pub first_len-at-requires : goal.first_len-at-requires
first_len-at-requires c =
    begins_there _ _ _ _ _ c.walk.invariant (omega (arith, c.walk-test.true)) c.split_at.ensures.back

-- a record below the key is passed
pub overflow_add-at : goal.overflow_add-at
overflow_add-at c =
    let r = reads _ _ _ _ _ _ _ c.walk.invariant (omega (arith, c.walk-test.true)) c.split_at.ensures.back
    c.first_owner-found.ensures.value c.first_owner-found.ensures.small c.owner-owner.ensures.value
    c.owner-owner.ensures.small in
    let next : IsAt c.args.key.now c.args.self.now c.self.inside.bytes.now (c.walk.at + c.first_len-at.result) =
    elim c.if-found-owner.branch [
      | then-found-owner+else-number-key w ↦
          passes_number _ _ _ _ _ _ _ _ _ r w.if-found-owner.true w.first_number-number.ensures
          w.if-number-key.false c.first_len-at.ensures
      | else-found-owner+else-found-owner-2 w ↦
          passes_owner _ _ _ _ _ _ _ _ r w.if-found-owner.false w.if-found-owner-2.false c.first_len-at.ensures
    ] in
    let short : length c.self.inside.bytes.now < 18446744073709551616 = search rules in
    omega (arith, next.within, short)

pub walk-preserved : goal.walk-preserved
walk-preserved c =
    let r = reads _ _ _ _ _ _ _ c.walk.invariant (omega (arith, c.walk-test.true)) c.split_at.ensures.back
    c.first_owner-found.ensures.value c.first_owner-found.ensures.small c.owner-owner.ensures.value
    c.owner-owner.ensures.small in
    elim c.if-found-owner.branch [
      | then-found-owner+else-number-key w ↦
          passes_number _ _ _ _ _ _ _ _ _ r w.if-found-owner.true w.first_number-number.ensures
          w.if-number-key.false c.first_len-at.ensures
      | else-found-owner+else-found-owner-2 w ↦
          passes_owner _ _ _ _ _ _ _ _ r w.if-found-owner.false w.if-found-owner-2.false c.first_len-at.ensures
    ]

-- the key's own record
pub returns-then-number-key-clause-place : goal.returns-then-number-key-clause-place
returns-then-number-key-clause-place c =
    let r = reads _ _ _ _ _ _ _ c.walk.invariant (omega (arith, c.walk-test.true)) c.split_at.ensures.back
    c.first_owner-found.ensures.value c.first_owner-found.ensures.small c.owner-owner.ensures.value
    c.owner-owner.ensures.small in
    (own _ _ _ _ _ _ _ _ _ r c.if-found-owner.true c.first_number-number.ensures c.if-number-key.true
    c.if-number-key-2.false c.split_record.ensures.value).place

pub returns-then-number-key-clause-some : goal.returns-then-number-key-clause-some
returns-then-number-key-clause-some c =
    let r = reads _ _ _ _ _ _ _ c.walk.invariant (omega (arith, c.walk-test.true)) c.split_at.ensures.back
    c.first_owner-found.ensures.value c.first_owner-found.ensures.small c.owner-owner.ensures.value
    c.owner-owner.ensures.small in
    (own _ _ _ _ _ _ _ _ _ r c.if-found-owner.true c.first_number-number.ensures c.if-number-key.true
    c.if-number-key-2.false c.split_record.ensures.value).value

-- a record of the same owner with a greater number
pub returns-then-number-key-2-clause-place : goal.returns-then-number-key-2-clause-place
returns-then-number-key-2-clause-place c =
    let r = reads _ _ _ _ _ _ _ c.walk.invariant (omega (arith, c.walk-test.true)) c.split_at.ensures.back
    c.first_owner-found.ensures.value c.first_owner-found.ensures.small c.owner-owner.ensures.value
    c.owner-owner.ensures.small in
    (beside_above _ _ _ _ _ _ _ _ r c.if-found-owner.true c.first_number-number.ensures
    c.if-number-key-2.true).place

pub returns-then-number-key-2-clause-none : goal.returns-then-number-key-2-clause-none
returns-then-number-key-2-clause-none c =
    let r = reads _ _ _ _ _ _ _ c.walk.invariant (omega (arith, c.walk-test.true)) c.split_at.ensures.back
    c.first_owner-found.ensures.value c.first_owner-found.ensures.small c.owner-owner.ensures.value
    c.owner-owner.ensures.small in
    (beside_above _ _ _ _ _ _ _ _ r c.if-found-owner.true c.first_number-number.ensures
    c.if-number-key-2.true).value

-- a record of a greater owner
pub returns-then-found-owner-2-clause-place : goal.returns-then-found-owner-2-clause-place
returns-then-found-owner-2-clause-place c =
    let r = reads _ _ _ _ _ _ _ c.walk.invariant (omega (arith, c.walk-test.true)) c.split_at.ensures.back
    c.first_owner-found.ensures.value c.first_owner-found.ensures.small c.owner-owner.ensures.value
    c.owner-owner.ensures.small in
    (owner_above _ _ _ _ _ _ _ r c.if-found-owner-2.true).place

pub returns-then-found-owner-2-clause-none : goal.returns-then-found-owner-2-clause-none
returns-then-found-owner-2-clause-none c =
    let r = reads _ _ _ _ _ _ _ c.walk.invariant (omega (arith, c.walk-test.true)) c.split_at.ensures.back
    c.first_owner-found.ensures.value c.first_owner-found.ensures.small c.owner-owner.ensures.value
    c.owner-owner.ensures.small in
    (owner_above _ _ _ _ _ _ _ r c.if-found-owner-2.true).value

-- all records are below the key
pub returns-clause-place : goal.returns-clause-place
returns-clause-place c = (ends _ _ _ _ c.walk.invariant (omega (arith, c.walk-test.false))).place

pub returns-clause-none : goal.returns-clause-none
returns-clause-none c = (ends _ _ _ _ c.walk.invariant (omega (arith, c.walk-test.false))).value
