-- The search goes on, the deed is done, the page is given back, or it has ended.
use Rattle.std.proofs.Common.{◌≡◌, refl, sym, ◌∙◌, ap, subst, ℕ, ◌+◌, ◌≤◌, ◌<◌, true, false, Option, Some, None, length, arith}
use Rattle.bucket_page.specs.declared.layout.TheConstants.{RECORD_HEAD_BYTES, ROOM_BYTES}
use Rattle.split_merge.specs.file_pages.declared.sight.BucketSight.{BucketSight}
use Rattle.split_merge.proofs.MoveLemmas.{nothing_read, read_only}
use Rattle.split_merge.proofs.of_stale_search.CauseLemmas.{cause_after}
use Rattle.hash_file.specs.Chain.{IsBucketOf}
use Rattle.hash_file.specs.Changes.{write_record}
use Rattle.record_file.specs.Words.{Put, Remove, Selective, found_at, pair, store_of, world}
use Rattle.record_file.specs.BucketAccesses.{is_due}
use Rattle.record_file.specs.BucketSteps.{GivesBack}
use Rattle.record_file.specs.declared.bucket_access.Deed.TheVariants as deeds
use Rattle.record_file.proofs.DeedLemmas.{behind_read, bucket_there, fronting_fails, page_row_selective, put, removal_fails, removed, replaced, sees_found, writes_behind}
use Rattle.record_file.proofs.ReleaseLemmas.{no_directory}
use Rattle.record_file.proofs.RemovedLemmas.{none_due, turned}
use Rattle.record_file.proofs.RoomLemmas.{lacks_room, no_room_is, put_fails, room_is}
use Rattle.record_file.proofs.StepLemmas.{gave_back, gave_unwritten, given_no_more, has_failed, has_written, is_over, left_unwritten, searches_on}
use Rattle.record_file.proofs.WriteLemmas.{home, read_fails}
use Rattle.record_file.proofs.bucket_access.BucketAccess.step.Given as given
use Rattle.record_file.proofs.bucket_access.BucketAccess.step.Goals as goal
use Rattle.record_file.proofs.bucket_access.BucketAccess.step.Goals.{After-found, in_default-2-via-in-Put+in_default, in_default-2-via-in-Replace+in_default, in_default-2-via-in-Remove+in_default, in_default-2-via-in_default}

-- the page that answered, and what it has of the key
answered : (g : given.Over) (c : After-found g) {page : ℕ} {found found' : Option ℕ} →
    c.found.result ≡ Some (page, found) → found ≡ found' →
    found_at c.self.inside.search.place ≡ Some (page, found')
answered g c {page} is has =
    sym (rw (← c.self.view_is) at c.found.ensures) ∙ is ∙ ap (λ (f : Option ℕ). Some (page, f)) has

-- ---- no page has answered, or the deed is behind it

pub returns-in_default : goal.returns-in_default
returns-in_default g c =
    let none = sym (rw (← c.self.view_is) at c.found.ensures) ∙ c.in_default.is in
    let kind = rw (← c.self.view_is) at c.requires.kind in
    let e = c.step.ensures in
    rw (← c.self.view_is, c.in-Searching.is) (searches_on c.args.deed c.args.seat c.args.bytes.now c.args.pool.now
    c.step.new.pool c.args.locks.now c.step.result c.self.inside.search c.step.new.self c.step.new.locks none kind
    e.reads e.aim e.row e.progress e.step e.answer)

pub returns-in-Written : goal.returns-in-Written
returns-in-Written g c =
    let page = c.in-Written.page in
    let due = c.in-Written.due in
    let has_answered = c.self.invariant.answered (rw c.in-Written.is refl) in
    let ended = rw (← c.self.view_is) at c.give_back.ensures.ended in
    rw (← c.self.view_is, c.in-Written.is) (gave_back c.args.deed c.args.seat c.args.bytes.now c.args.pool.now
    c.args.pool.now c.args.locks.now c.give_back.result _ c.give_back.new.self page due c.give_back.new.locks
    (nothing_read c.args.pool.now c.requires.ready) c.requires.seat (λ before. refl) refl has_answered refl
    (λ s. omega arith)
    (λ hash change keyed sees. given_no_more c.args.deed hash c.args.seat _ c.args.bytes.now page due _ _)
    c.give_back.ensures.moved ended c.give_back.ensures.released)

pub returns-in-Ended : goal.returns-in-Ended
returns-in-Ended g c =
    let has_answered = c.self.invariant.answered (rw c.in-Ended.is refl) in
    rw (← c.self.view_is, c.in-Ended.is) (is_over c.args.deed c.args.seat c.args.bytes.now c.args.pool.now
    c.args.locks.now c.self.inside.search _ c.requires.ready has_answered)

-- ---- nothing is to be written

pub returns-in_default-2 : goal.returns-in_default-2
returns-in_default-2 g c =
    let v = c.self.inside.search in
    let at = answered g (goal.at.returns-in_default-2 g c).After-found c.in-Some.is refl in
    let gives : GivesBack c.args.deed (Some (c.in-Some.page, c.in-Some.found)) false =
    elim c.in_default-2.branch [
      | in_default-2-via-in-Put+in_default w ↦ rw (w.in_default-2.is-0, w.in_default-2.is-1) (λ none. refl)
      | in_default-2-via-in-Replace+in_default w ↦ rw (w.in_default-2.is-0, w.in_default-2.is-1) (refl, refl)
      | in_default-2-via-in-Remove+in_default w ↦ rw (w.in_default-2.is-0, w.in_default-2.is-1) (refl, refl)
      | in_default-2-via-in_default w ↦ rw (w.in_default-2.is-0) refl
    ] in
    let given = c.give_back-in_default-2 in
    let ended = rw (← c.self.view_is) at given.ensures.ended in
    rw (← c.self.view_is, c.in-Searching.is) (gave_unwritten c.args.deed c.args.seat
    c.args.bytes.now c.args.pool.now c.args.pool.now c.args.locks.now v c.in-Some.page c.in-Some.found at given.result
    given.new.self given.new.locks (nothing_read c.args.pool.now c.requires.ready) c.requires.seat false gives
    (λ hash change keyed sees. left_unwritten c.args.deed hash c.args.seat _ c.args.bytes.now _ _)
    given.ensures.moved ended given.ensures.released)

-- ---- a put

-- the bucket is not read
pub returns-in-Err : goal.returns-in-Err
returns-in-Err g c =
    let v = c.self.inside.search in
    let page = c.in-Some.page in
    let at = answered g (goal.at.returns-in-Err g c).After-found c.in-Some.is c.in-Put-None.is-1 in
    let reads = c.in-Err.ensures.reads in
    rw (← c.self.view_is, c.in-Searching.is, c.in-Put-None.is-0) (has_failed deeds.Put c.args.seat c.args.bytes.now
    c.args.pool.now c.read_bucket.new.pool c.args.locks.now v page None at tt _
    (read_only false c.args.pool.now c.read_bucket.new.pool reads) reads.images c.in-Err.ensures.cause
    (λ hash change suits sees. read_fails hash c.args.seat _ c.args.pool.now c.args.locks.now change sees page
    v.pseudokey sees.known.0 sees.known.1.0 (c.in-Err.ensures.fault sees.honest sees.file)))

-- it has no room
pub returns-then-not-has_room : goal.returns-then-not-has_room
returns-then-not-has_room g c =
    let v = c.self.inside.search in
    let page = c.in-Some.page in
    let given = c.give_back-then-not-has_room in
    let ended = rw (← c.self.view_is) at given.ensures.ended in
    let kind = rw (← c.self.view_is, c.in-Put-None.is-0) at c.requires.kind in
    let row = rw (← c.self.view_is, c.in-Searching.is) at c.requires.row in
    let at = answered g (goal.at.returns-then-not-has_room g c).After-found c.in-Some.is c.in-Put-None.is-1 in
    let full = no_room_is c.in-Ok.sight.used (length c.args.bytes.now)
    (sym c.has_room.ensures ∙ c.if-not-has_room.true) in
    rw (← c.self.view_is, c.in-Searching.is, c.in-Put-None.is-0) (gave_unwritten deeds.Put c.args.seat
    c.args.bytes.now c.args.pool.now c.read_bucket.new.pool c.args.locks.now v page None at given.result
    given.new.self given.new.locks c.in-Ok.ensures.reads c.requires.seat true (λ none. absurd cc)
    (λ hash change keyed sees.
    let found = sees_found v page None at hash c.args.seat c.args.pool.now c.args.locks.now change sees in
    let used = ap (λ (x : BucketSight). x.used) (c.in-Ok.ensures.ok sees.honest).says in (
      page,
      lacks_room hash c.args.seat c.args.pool.now c.args.locks.now change v page row.before row.bare keyed
          (page_row_selective v page None at kind _ row.before row.is) found c.args.bytes.now
          (subst (λ (n : ℕ). ROOM_BYTES < n + (RECORD_HEAD_BYTES + length c.args.bytes.now)) used full),
    ))
    given.ensures.moved ended given.ensures.released)

-- it has
pub returns-in-Ok-put_record : goal.returns-in-Ok-put_record
returns-in-Ok-put_record g c =
    let v = c.self.inside.search in
    let page = c.in-Some.page in
    let kind = rw (← c.self.view_is, c.in-Put-None.is-0) at c.requires.kind in
    let at = answered g (goal.at.returns-in-Ok-put_record g c).After-found c.in-Some.is c.in-Put-None.is-1 in
    let ok = rw (← c.self.invariant.key_is) at c.in-Ok-put_record.ensures.ok in
    let reads = c.in-Ok.ensures.reads in
    let writes = writes_behind true c.args.pool.now c.read_bucket.new.pool c.put_record.new.pool reads
    c.in-Ok-put_record.ensures.writes in
    let room =
    room_is c.in-Ok.sight.used (length c.args.bytes.now) (sym c.has_room.ensures ∙ c.if-not-has_room.false) in
    rw (← c.self.view_is, c.in-Searching.is, c.in-Put-None.is-0) (has_written deeds.Put c.args.seat c.args.bytes.now
    c.args.pool.now c.put_record.new.pool c.args.locks.now v page None at tt false kind writes
    (λ hash change before bare keyed owns row suits sees.
    let used = ap (λ (x : BucketSight). x.used) (c.in-Ok.ensures.ok sees.honest).says in
    put hash c.args.seat c.args.pool.now c.put_record.new.pool c.args.locks.now change v page before bare keyed
    owns row writes sees c.args.bytes.now
    (subst (λ (n : ℕ). n + (RECORD_HEAD_BYTES + length c.args.bytes.now) ≤ ROOM_BYTES) used room)
    (behind_read c.args.pool.now c.read_bucket.new.pool c.put_record.new.pool
    (write_record page (Put (pair v.key c.args.bytes.now))) reads sees.honest ok))
    (λ hash change keyed sees. tt))

pub returns-in-Err-put_record : goal.returns-in-Err-put_record
returns-in-Err-put_record g c =
    let v = c.self.inside.search in
    let page = c.in-Some.page in
    let at = answered g (goal.at.returns-in-Err-put_record g c).After-found c.in-Some.is c.in-Put-None.is-1 in
    let fault = rw (← c.self.invariant.key_is) at c.in-Err-put_record.ensures.fault in
    let reads = c.in-Ok.ensures.reads in
    let room =
    room_is c.in-Ok.sight.used (length c.args.bytes.now) (sym c.has_room.ensures ∙ c.if-not-has_room.false) in
    rw (← c.self.view_is, c.in-Searching.is, c.in-Put-None.is-0) (has_failed deeds.Put c.args.seat c.args.bytes.now
    c.args.pool.now c.put_record.new.pool c.args.locks.now v page None at tt _
    (writes_behind false c.args.pool.now c.read_bucket.new.pool c.put_record.new.pool reads
    c.in-Err-put_record.ensures.writes)
    (λ honest. c.in-Err-put_record.ensures.err (reads.honest ∙ honest) ∙ reads.images honest)
    (cause_after c.args.pool.now c.read_bucket.new.pool c.put_record.new.pool _ reads.later
    c.in-Err-put_record.ensures.cause)
    (λ hash change suits sees.
    let used = ap (λ (x : BucketSight). x.used) (c.in-Ok.ensures.ok sees.honest).says in
    put_fails hash c.args.seat c.args.pool.now c.args.locks.now change v page sees c.read_bucket.new.pool
    c.put_record.new.pool _ reads (length c.args.bytes.now)
    (subst (λ (n : ℕ). n + (RECORD_HEAD_BYTES + length c.args.bytes.now) ≤ ROOM_BYTES) used room)
    (fault (reads.honest ∙ sees.honest) (reads.file sees.honest refl sees.file))))

-- ---- a replace

pub returns-in-Ok-replace_front : goal.returns-in-Ok-replace_front
returns-in-Ok-replace_front g c =
    let v = c.self.inside.search in
    let page = c.in-Some.page in
    let len = c.in-Replace-Some.field-0-1 in
    let kind = rw (← c.self.view_is, c.in-Replace-Some.is-0) at c.requires.kind in
    let at = answered g (goal.at.returns-in-Ok-replace_front g c).After-found c.in-Some.is c.in-Replace-Some.is-1 in
    let done = c.in-Ok-replace_front.ensures in
    let ok = rw (← c.self.invariant.key_is) at done.ok in
    rw (← c.self.view_is, c.in-Searching.is, c.in-Replace-Some.is-0) (has_written deeds.Replace c.args.seat
    c.args.bytes.now c.args.pool.now c.replace_front.new.pool c.args.locks.now v page (Some len) at tt false kind
    done.writes
    (λ hash change before bare keyed owns row suits sees. replaced hash c.args.seat c.args.pool.now
    c.replace_front.new.pool c.args.locks.now change v page before bare keyed owns row done.writes
    len sees c.args.bytes.now suits.1 (ok sees.honest))
    (λ hash change keyed sees. tt))

pub returns-in-Err-replace_front : goal.returns-in-Err-replace_front
returns-in-Err-replace_front g c =
    let v = c.self.inside.search in
    let page = c.in-Some.page in
    let len = c.in-Replace-Some.field-0-1 in
    let at = answered g (goal.at.returns-in-Err-replace_front g c).After-found c.in-Some.is c.in-Replace-Some.is-1 in
    let failed = c.in-Err-replace_front.ensures in
    let fault = rw (← c.self.invariant.key_is) at failed.fault in
    rw (← c.self.view_is, c.in-Searching.is, c.in-Replace-Some.is-0) (has_failed deeds.Replace c.args.seat
    c.args.bytes.now c.args.pool.now c.replace_front.new.pool c.args.locks.now v page (Some len) at tt _
    failed.writes failed.err failed.cause
    (λ hash change suits sees. fronting_fails hash c.args.seat c.args.pool.now c.args.locks.now
    change v page len sees suits.0 c.args.bytes.now suits.1 (fault sees.honest sees.file)))

-- ---- a removal

-- the bucket is not read
pub returns-in-Err-read_bucket : goal.returns-in-Err-read_bucket
returns-in-Err-read_bucket g c =
    let v = c.self.inside.search in
    let page = c.in-Some.page in
    let len = c.in-Remove-Some.len in
    let at = answered g (goal.at.returns-in-Err-read_bucket g c).After-found c.in-Some.is c.in-Remove-Some.is-1 in
    let read = c.read_bucket-in-Remove-Some in
    let failed = c.in-Err-read_bucket.ensures in
    rw (← c.self.view_is, c.in-Searching.is, c.in-Remove-Some.is-0) (has_failed deeds.Remove c.args.seat
    c.args.bytes.now c.args.pool.now read.new.pool c.args.locks.now v page (Some len) at tt _
    (read_only false c.args.pool.now read.new.pool failed.reads) failed.reads.images failed.cause
    (λ hash change suits sees. read_fails hash c.args.seat _ c.args.pool.now c.args.locks.now change sees page
    v.pseudokey sees.known.0 sees.known.1.0 (failed.fault sees.honest sees.file)))

pub returns-in-Ok-remove_record : goal.returns-in-Ok-remove_record
returns-in-Ok-remove_record g c =
    let v = c.self.inside.search in
    let page = c.in-Some.page in
    let len = c.in-Remove-Some.len in
    let due = c.is_due-due.result in
    let kind = rw (← c.self.view_is, c.in-Remove-Some.is-0) at c.requires.kind in
    let row = rw (← c.self.view_is, c.in-Searching.is) at c.requires.row in
    let at = answered g (goal.at.returns-in-Ok-remove_record g c).After-found c.in-Some.is c.in-Remove-Some.is-1 in
    let here = page_row_selective v page (Some len) at kind _ row.before row.is in
    let ok = rw (← c.self.invariant.key_is) at c.in-Ok-remove_record.ensures.ok in
    let read = c.in-Ok-read_bucket.ensures in
    let pool' = c.read_bucket-in-Remove-Some.new.pool in
    let pool'' = c.remove_record.new.pool in
    let writes = writes_behind true c.args.pool.now pool' pool'' read.reads c.in-Ok-remove_record.ensures.writes in
    let s = store_of c.args.pool.now.images in
    rw (← c.self.view_is, c.in-Searching.is, c.in-Remove-Some.is-0) (has_written deeds.Remove c.args.seat
    c.args.bytes.now c.args.pool.now pool'' c.args.locks.now v page (Some len) at tt due kind writes
    (λ hash change before bare keyed owns row suits sees. removed hash c.args.seat c.args.pool.now
    pool'' c.args.locks.now change v page before bare keyed owns row writes len sees
    (behind_read c.args.pool.now pool' pool'' (write_record page (Remove v.key)) read.reads sees.honest ok))
    (λ hash change keyed sees.
    let says = (read.ok sees.honest).says in
    let is = behind_read c.args.pool.now pool' pool'' (write_record page (Remove v.key)) read.reads sees.honest ok in
    let bucket = bucket_there hash c.args.seat c.args.pool.now c.args.locks.now change v page len sees in
    let home' = subst (λ (k : ℕ). IsBucketOf s k page) (sym keyed)
    (home hash c.args.seat _ c.args.pool.now c.args.locks.now change sees page v.pseudokey sees.known.0
    sees.known.1.0
    (λ w. absurd (no_directory c.args.seat c.args.locks.now page Selective row.before row.bare here w))) in
    turned hash v.key c.args.seat page due (world pool''.images c.args.locks.now change) (λ no.
    none_due s page v.key bucket.within bucket.bucket hash c.args.seat
    (world pool''.images c.args.locks.now change) len is sees.known.1.1.0.1 home'
    (sym (ap (λ (x : BucketSight). is_due x.depth x.used len) says) ∙ sym c.is_due-due.ensures ∙ no))))

pub returns-in-Err-remove_record : goal.returns-in-Err-remove_record
returns-in-Err-remove_record g c =
    let v = c.self.inside.search in
    let page = c.in-Some.page in
    let len = c.in-Remove-Some.len in
    let at = answered g (goal.at.returns-in-Err-remove_record g c).After-found c.in-Some.is c.in-Remove-Some.is-1 in
    let failed = c.in-Err-remove_record.ensures in
    let fault = rw (← c.self.invariant.key_is) at failed.fault in
    let reads = c.in-Ok-read_bucket.ensures.reads in
    let pool' = c.read_bucket-in-Remove-Some.new.pool in
    let pool'' = c.remove_record.new.pool in
    rw (← c.self.view_is, c.in-Searching.is, c.in-Remove-Some.is-0) (has_failed deeds.Remove c.args.seat
    c.args.bytes.now c.args.pool.now pool'' c.args.locks.now v page (Some len) at tt _
    (writes_behind false c.args.pool.now pool' pool'' reads failed.writes)
    (λ honest. failed.err (reads.honest ∙ honest) ∙ reads.images honest)
    (cause_after c.args.pool.now pool' pool'' _ reads.later failed.cause)
    (λ hash change suits sees. removal_fails hash c.args.seat c.args.pool.now c.args.locks.now change v page
    len sees pool' pool'' _ reads
    (fault (reads.honest ∙ sees.honest) (reads.file sees.honest refl sees.file))))
