use Rattle.std.proofs.Common.{◌≡◌, ◌+◌, ◌%◌, arith, refl}
use Rattle.digests.proofs.ColumnLemmas.{column-at}
use Rattle.digests.proofs.compression.next_word.Goals as goal

pub returns : goal.returns
returns c =
    let w = c.args.w.now in
    let place = c.args.place in
    let at : place % 16 ≡ place = omega arith in
    record {
      value = λ lane within.
          rw (
            at,
            c.add-word.ensures lane within,
            c.add.ensures lane within,
            c.small_sigma0.ensures lane within,
            c.add-before.ensures lane within,
            c.small_sigma1.ensures lane within,
            column-at lane w ((place + 14) % 16),
            column-at lane w ((place + 9) % 16),
            column-at lane w ((place + 1) % 16),
            column-at lane w place,
          )
          refl;
      window = refl;
    }
