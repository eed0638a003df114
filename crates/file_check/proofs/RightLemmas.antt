-- A right structure whose records are all right is a sound file; and nothing is wrong with it.
use Rattle.std.proofs.Common.{ℕ, ◌≡◌, ◌==◌, Bool, true, false, List, [], ◌∷◌, Option, Some, None, if◌then◌else◌, refl, sym, ap, subst, ◌∙◌}
use Rattle.std.specs.List.{All, Contains}
use Rattle.std.specs.Prelude.{slice_index, slice_index_or}
use Rattle.directory.specs.declared.layout.TheConstants.{DIRECTORY}
use Rattle.bucket_page.specs.declared.layout.TheConstants.{BUCKET, TOMBSTONE}
use Rattle.bucket_page.specs.declared.page.Malformed.{Malformed}
use Rattle.bucket_page.specs.declared.page.Malformed.TheVariants as reasons
use Rattle.bucket_page.specs.declared.page.PageKind.{PageKind}
use Rattle.bucket_page.specs.declared.page.PageKind.TheVariants as kinds
use Rattle.bucket_page.specs.Reading as reading
use Rattle.bucket_page.specs.Records.{ascend}
use Rattle.directory.specs.Pages.{entries_at}
use Rattle.numbers.specs.Numbers.{four_at}
use Rattle.file_walk.specs.Files.{said_by, pages_in}
use Rattle.file_walk.specs.Laws.{IsQuietFile}
use Rattle.file_walk.specs.Order.{after_reading}
use Rattle.file_walk.proofs.PagesLemmas.{pages_at}
use Rattle.file_walk.proofs.SoundLemmas.{structure_sound}
use Rattle.file_walk.proofs.FaultLemmas.{one_chain, right_has_no_fault as structure_has_no_fault}
use Rattle.hash_file.specs.Chain.{IsPlaced}
use Rattle.file_check.specs.declared.fault.CheckFault.TheVariants as faults
use Rattle.file_check.specs.Words.{RecordKey, Bucket, Pair, Store, IsLayout, IsRightStructureIn, Layout, file_in, payload_on, said_on, bucket_at, bucket_of, is_bucket, CheckFault}
use Rattle.file_check.specs.Records.{IsLivePage, IsRightRecordIn, IsFirstIn, IsWrongIn, AreRightOn, AreRightRecordsIn, IsFirstWrongRecord}
use Rattle.file_check.specs.Right.{IsRightFile, IsFirstWrongThing, IsWrongAmongRecords}
use Rattle.file_check.proofs.RecordLemmas.{live_page}

-- ---- the keys of a page ascend, as its spelling says

said_is : (content : List (List ℕ)) (n : ℕ) → said_on content n ≡ reading.page_in (payload_on content n)
unfolding said_by
said_is content n = refl

no_fault : (fault : Option Malformed) (b : Bool) → after_reading fault b ≡ None → fault ≡ None
no_fault None b e = refl
no_fault (Some reason) b e = absurd cc

fourth : (a b c d e : Bool) →
    reading.first_failed ((a, reasons.Depth) ∷ (b, reasons.Pattern) ∷ (c, reasons.Lengths) ∷ (d, reasons.Order)
    ∷ (e, reasons.Padding) ∷ []) ≡ None → d ≡ true
fourth a b c true e h = refl
fourth false b c false e h = absurd cc
fourth true false c false e h = absurd cc
fourth true true false false e h = absurd cc
fourth true true true false e h = absurd cc

-- the first byte of a bucket
of_kind : (p : List ℕ) (a b c : Bool) →
    (if a then reading.bucket_fault p else if b then reading.directory_fault p else reading.link_page_fault p) ≡ None →
    is_bucket (if a then kinds.Bucket (reading.bucket_in p)
    else if b then kinds.Directory (entries_at p)
    else if c then kinds.Tombstone (four_at 4 p) else kinds.Free (four_at 4 p)) ≡ true →
    (reading.bucket_fault p ≡ None)
    × ((if a then kinds.Bucket (reading.bucket_in p)
    else if b then kinds.Directory (entries_at p)
    else if c then kinds.Tombstone (four_at 4 p) else kinds.Free (four_at 4 p))
    ≡ kinds.Bucket (reading.bucket_in p))
of_kind p true b c fault live = (fault, refl)
of_kind p false true c fault live = absurd cc
of_kind p false false true fault live = absurd cc
of_kind p false false false fault live = absurd cc

page_ascends : (p : List ℕ) → reading.fault_of p ≡ None → is_bucket (reading.page_in p) ≡ true →
    ascend (bucket_of (reading.page_in p)).records ≡ true
page_ascends p fault live =
    let is = of_kind p (reading.kind_at p == BUCKET) (reading.kind_at p == DIRECTORY) (reading.kind_at p == TOMBSTONE)
    fault live in
    ap (λ (page : PageKind). ascend (bucket_of page).records) is.1
    ∙ fourth (reading.has_depth p) (reading.has_pattern p) (reading.has_lengths p) (reading.has_order p)
    (reading.has_padding p) is.0

live_ascends : (l : Layout) (content : List (List ℕ)) (n : ℕ) → IsLivePage l content n →
    ascend (bucket_at (file_in l content) n).records ≡ true
live_ascends l content n live =
    let is : slice_index_or (pages_in l content) n (kinds.Free 0) ≡ reading.page_in (payload_on content n) =
    pages_at l live.layout content n (kinds.Free 0) live.behind live.within ∙ said_is content n in
    ap (λ (page : PageKind). ascend (bucket_of page).records) is
    ∙ page_ascends (payload_on content n) (no_fault _ _ live.right.formed) (sym (ap is_bucket is) ∙ live.live)

-- ---- a right file

module _ (l : Layout) (laid : IsLayout l) (hash : RecordKey → ℕ) (content : List (List ℕ)) (ns : List ℕ)
    (r : IsRightStructureIn l content ns) (right : AreRightRecordsIn l hash (file_in l content) ns) where
  pub placed : (n : ℕ) → Contains ns n → IsPlaced hash (bucket_at (file_in l content) n)
  placed n on =
      let here : AreRightOn l hash (file_in l content) n =
      subst (AreRightOn l hash (file_in l content)) on.2 (right on.0 n on.1) in
      record {
        within = λ i d w. (here i d w).at_home;
        ascends = live_ascends l content n (live_page l laid content ns r n on);
      }

  pub right_sound : IsQuietFile hash (file_in l content) ns
  right_sound = structure_sound l laid hash content ns r placed

-- ---- nothing is wrong with records that are right

none_first : (l : Layout) (hash : RecordKey → ℕ) (b : Bucket) (IsWrong : Pair → Type 0) (key : RecordKey) →
    ((p : Pair) → IsRightRecordIn l hash b p → IsWrong p → ⊥) → All (IsRightRecordIn l hash b) b.records →
    IsFirstIn b (IsRightRecordIn l hash b) IsWrong key → ⊥
none_first l hash b IsWrong key clash all w =
    let d : Pair = record { key = key; value = [] } in
    clash (slice_index_or b.records w.slot d) (all w.slot d w.within) (w.wrong d)

pub right_not_wrong : (l : Layout) (hash : RecordKey → ℕ) (s : Store) (ns : List ℕ) (fault : CheckFault) →
    AreRightRecordsIn l hash s ns → IsFirstWrongRecord l hash s ns fault → ⊥
right_not_wrong l hash s ns fault right w = by_fault fault w.wrong
  where
    n : ℕ
    n = slice_index ns w.place

    here : AreRightOn l hash s n
    here = right w.place 0 w.within

    by_fault : (fault : CheckFault) → IsWrongIn l hash (bucket_at s n) n fault → ⊥
    by_fault (faults.Misplaced p kind queue number) h =
        none_first l hash (bucket_at s n) _ _ (λ q good bad. bad.elsewhere good.at_home) here h.1
    by_fault (faults.BadRecord p kind queue number) h =
        none_first l hash (bucket_at s n) _ _ (λ q good bad. bad.senseless good.spelled) here h.1
    by_fault fault h = absurd h

-- a file has one chain
on_chain : (l : Layout) (hash : RecordKey → ℕ) (content : List (List ℕ)) (ns : List ℕ) (fault : CheckFault) →
    IsRightStructureIn l content ns → IsWrongAmongRecords l hash content fault →
    IsFirstWrongRecord l hash (file_in l content) ns fault
on_chain l hash content ns fault r w =
    subst (λ (ms : List ℕ). IsFirstWrongRecord l hash (file_in l content) ms fault)
    (one_chain (file_in l content) w.chain ns w.structure.chain r.chain) w.wrong

pub right_has_no_fault : (l : Layout) → IsLayout l → (hash : RecordKey → ℕ) (content : List (List ℕ)) (ns : List ℕ)
    (fault : CheckFault) →
    IsRightFile l hash content ns → IsFirstWrongThing l hash content fault → ⊥
right_has_no_fault l laid hash content ns (faults.Structure fault) right h =
    structure_has_no_fault l laid content ns fault right.structure h
right_has_no_fault l laid hash content ns (faults.Misplaced page kind queue number) right h =
    right_not_wrong l hash (file_in l content) ns (faults.Misplaced page kind queue number) right.records
    (on_chain l hash content ns (faults.Misplaced page kind queue number) right.structure h)
right_has_no_fault l laid hash content ns (faults.BadRecord page kind queue number) right h =
    right_not_wrong l hash (file_in l content) ns (faults.BadRecord page kind queue number) right.records
    (on_chain l hash content ns (faults.BadRecord page kind queue number) right.structure h)
right_has_no_fault l laid hash content ns fault right h = absurd h
