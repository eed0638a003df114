use Rattle.std.proofs.Common.{sym, ap, subst, is_ok, ◌∙◌, ◌≤◌, ℕ, List, slice_index_or}
use Rattle.directory.specs.declared.header.Header.{Header}
use Rattle.split_merge.specs.MergeWords.{store_of}
use Rattle.stale_search.proofs.CauseLemmas.{causes_after}
use Rattle.stale_search.proofs.of_file_pages.ReadLemmas.{fails_after}
use Rattle.hash_file.specs.Changes.{lower_depth}
use Rattle.split_merge.proofs.LockArms.{leave_page}
use Rattle.split_merge.proofs.MergeFreeLemmas.{lowers, read_then_written, ok_through, err_through}
use Rattle.split_merge.proofs.merge.Merge.lower_or_leave.Goals as goal

pub returns-then-count-eq0 : goal.returns-then-count-eq0
returns-then-count-eq0 g c =
    let reads = c.in-Ok.ensures.reads in
    lowers c.args.seat c.args.pool.now c.args.locks.now c.args.self.now c.lower_depth-done.result c.go_on.result
    c.lower_depth-done.new.pool c.go_on.new.self
    (read_then_written (is_ok c.lower_depth-done.result) c.args.pool.now c.read_header.new.pool
    c.lower_depth-done.new.pool reads
    c.lower_depth-done.ensures.writes)
    (causes_after c.lower_depth-done.result c.args.pool.now c.read_header.new.pool c.lower_depth-done.new.pool
    reads.later c.lower_depth-done.ensures.cause)
    (λ honest. err_through c.lower_depth-done.result _ _ (λ same. same ∙ reads.images honest)
    (c.lower_depth-done.ensures.err (reads.honest ∙ honest)))
    c.args.page c.in-Ok.header.depth c.requires.place c.go_on.ensures
    (λ honest. ap (λ (h : Header). h.depth) (sym (c.in-Ok.ensures.ok honest)))
    c.if-header-gt0.true
    (λ honest. ap (λ (h : Header). slice_index_or h.counts c.in-Ok.header.depth 0) (sym (c.in-Ok.ensures.ok honest))
    ∙ sym c.count-count.ensures ∙ c.if-count-eq0.true)
    (λ honest. ok_through c.lower_depth-done.result _ _
    (λ is. is ∙ ap (λ (images : List (List ℕ)). lower_depth (store_of images)) (reads.images honest))
    (c.lower_depth-done.ensures.ok (reads.honest ∙ honest)))
    (λ honest file. fails_after c.lower_depth-done.result c.args.pool.now c.read_header.new.pool
    c.lower_depth-done.new.pool honest file reads
    (λ honest' file'. c.lower_depth-done.ensures.fault honest' file'
    (subst (λ (images : List (List ℕ)). 1 ≤ (store_of images).header.depth) (sym (reads.images honest))
    (subst (λ (h : Header). 1 ≤ h.depth) (c.in-Ok.ensures.ok honest) c.if-header-gt0.true))))

pub returns : goal.returns
returns g c =
    leave_page c.args.seat c.args.pool.now c.args.locks.now c.args.self.now c.requires.ready c.requires.seat
    c.release.result c.release.new.self c.release.new.locks c.release.ensures.moved c.args.page c.in-Ok.header.depth
    c.count-count.result c.read_header.new.pool c.in-Ok.ensures.reads
    (λ hash change sees. (
      ap (λ (h : Header). h.depth) (sym (c.in-Ok.ensures.ok sees.honest)),
      ap (λ (h : Header). slice_index_or h.counts c.in-Ok.header.depth 0) (sym (c.in-Ok.ensures.ok sees.honest))
          ∙ sym c.count-count.ensures,
    ))
    c.requires.place c.release.ensures.place c.release.ensures.locks
