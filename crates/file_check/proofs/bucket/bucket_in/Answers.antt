-- A live page is the bucket that it was.
use Rattle.std.proofs.Common.{◌≡◌, Ok, ap}
use Rattle.page_device.specs.Sealed.{payload_of}
use Rattle.file_check.specs.Words.{bucket_at, file_in}
use Rattle.file_check.proofs.RecordLemmas.{read_live}
use Rattle.file_check.proofs.bucket.bucket_in.Goals as goal

pub returns-in-Some-clause-ok : goal.returns-in-Some-clause-ok
returns-in-Some-clause-ok c = λ l content live same.
    let read = read_live l content c.args.page (payload_of c.args.bytes.now) live same in
    let is = c.in-Some.ensures.ok _ read in
    let bucket : c.in-Some.bucket ≡ bucket_at (file_in l content) c.args.page = cc in
    ap Ok bucket

pub returns-in-None-clause-ok : goal.returns-in-None-clause-ok
returns-in-None-clause-ok c = λ l content live same.
    let read = read_live l content c.args.page (payload_of c.args.bytes.now) live same in
    let is = c.in-None.ensures.ok _ read in
    absurd cc
