-- A step of an access within one bucket: its search goes on, the page is given back, the record is written or a fault
-- is told, or it has ended.
use Rattle.std.proofs.Common.{◌≡◌, refl, sym, ap, ◌∙◌, subst, ℕ, ◌<◌, Bool, true, false, not, List, [], Option, Some, None, IsSome, is_some, IsTrue, inl, inr, arith}
use Rattle.std.specs.Prelude.{⊤}
use Rattle.std.proofs.lemmas.Bool.{true≢false}
use Rattle.split_merge.specs.buffer_pool.Pool.{PoolState}
use Rattle.split_merge.specs.file_pages.declared.fault.FileFault.{FileFault}
use Rattle.split_merge.specs.stale_search.Searches.{GivesAnswer, KeepsAim, facts_at, locks_at, search_turn}
use Rattle.split_merge.specs.stale_search.Steps.{Advances, FollowsRow, MakesStep}
use Rattle.split_merge.specs.stale_search.declared.place.SearchPlace.{SearchPlace}
use Rattle.split_merge.specs.stale_search.declared.place.SearchPlace.TheVariants.{Found}
use Rattle.split_merge.proofs.MoveLemmas.{nothing_written, read_only}
use Rattle.split_merge.proofs.of_stale_search.CauseLemmas.{told_cause}
use Rattle.split_merge.proofs.of_stale_search.StayLemmas.{Stays-of}
use Rattle.page_locks.proofs.ChangeLemmas.{with_row-own}
use Rattle.step_rules.proofs.LockStepLemmas.{KeepsOthers-same}
use Rattle.record_file.specs.Words.{RecordKey, Table, IsSeat, Lock, Selective, Page, Change, Store, FileHasCause, IsDevicesFault, IsReady, OnlyReads, OnlyWrites, Progress, Moved, Fault, Ended, Release, WriteRecord, World, AllKnown, is_fault, row_of, with_row, without_lock, store_of, SearchView, search_facts, search_locks, found_at, steps_left, HasNoFileLock, ReadsPages, Sees, Step, StepHasCause, WritesOrSpares, on_page, world}
use Rattle.record_file.specs.Writers.{LeavesSearch, Owns, TellsNone, seen_at, seen_of}
use Rattle.record_file.specs.BucketAccesses.{BucketView, OwnsWritten, SuitsFile, SuitsKind, bucket_facts, bucket_left, bucket_locks, bucket_turn, found_of, has_ended, has_searched, seen_by, steps_behind}
use Rattle.record_file.specs.BucketSteps.{GivesBack, MakesBucket, MayWritePages, Passes, TellsDue, WritesOnce}
use Rattle.record_file.specs.declared.bucket_access.BucketStage.{BucketStage}
use Rattle.record_file.specs.declared.bucket_access.BucketStage.TheVariants.{Searching, Written, Ended as HasEnded}
use Rattle.record_file.specs.declared.bucket_access.Deed.{Deed}
use Rattle.record_file.specs.declared.bucket_access.Deed.TheVariants as deeds
use Rattle.record_file.proofs.AnswerLemmas.{found_place, nears_on, told}
use Rattle.record_file.proofs.SeenLemmas.{none_found, searches_only, sees_search, search_stepped}
use Rattle.record_file.proofs.ReleaseLemmas.{gave_page_back}
use Rattle.record_file.proofs.RoomLemmas.{behind}
use Rattle.record_file.proofs.DeedLemmas.{page_row_selective, released, sees_found}

abbrev pub searching : SearchView → BucketView
searching v = record { search = v; stage = Searching }

pub as_searching : (b : BucketView) → b.stage ≡ Searching → b ≡ searching b.search
as_searching b is = ap (λ (stage : BucketStage). record { search = b.search; stage = stage }) is

pub ended_is : (stage : BucketStage) → has_ended stage ≡ true → (due : Bool) × (stage ≡ HasEnded due)
ended_is Searching over = absurd cc
ended_is (Written n due) over = absurd cc
ended_is (HasEnded due) over = (due, refl)

-- ---- by the deed

abbrev pub IsWriter : Deed → Type 0
IsWriter deeds.Find = ⊥
IsWriter deed = ⊤

some_behind : (deed : Deed) → 0 < steps_behind deed
some_behind deeds.Find = omega arith
some_behind deeds.Put = omega arith
some_behind deeds.Replace = omega arith
some_behind deeds.Remove = omega arith

-- while it searches there is a step left
pub some_left : (deed : Deed) (v : SearchView) (s : Store) → 0 < bucket_left deed (searching v) s
some_left deed v s = omega (arith, some_behind deed)

no_more_due : (deed : Deed) (hash : RecordKey → ℕ) (seat : ℕ) (key : RecordKey) (bytes : List ℕ) (w w' : World) →
    TellsDue deed hash seat key bytes Searching Searching w w'
no_more_due deeds.Find hash seat key bytes w w' = tt
no_more_due deeds.Put hash seat key bytes w w' = tt
no_more_due deeds.Replace hash seat key bytes w w' = tt
no_more_due deeds.Remove hash seat key bytes w w' = tt

-- of a deed that wrote nothing
pub left_unwritten : (deed : Deed) (hash : RecordKey → ℕ) (seat : ℕ) (key : RecordKey) (bytes : List ℕ)
    (w w' : World) → TellsDue deed hash seat key bytes Searching (HasEnded false) w w'
left_unwritten deeds.Find hash seat key bytes w w' = tt
left_unwritten deeds.Put hash seat key bytes w w' = tt
left_unwritten deeds.Replace hash seat key bytes w w' = tt
left_unwritten deeds.Remove hash seat key bytes w w' = tt

over_no_more : (deed : Deed) (hash : RecordKey → ℕ) (seat : ℕ) (key : RecordKey) (bytes : List ℕ) (due : Bool)
    (w w' : World) → TellsDue deed hash seat key bytes (HasEnded due) (HasEnded due) w w'
over_no_more deeds.Find hash seat key bytes due w w' = tt
over_no_more deeds.Put hash seat key bytes due w w' = tt
over_no_more deeds.Replace hash seat key bytes due w w' = tt
over_no_more deeds.Remove hash seat key bytes due w w' = tt

pub given_no_more : (deed : Deed) (hash : RecordKey → ℕ) (seat : ℕ) (key : RecordKey) (bytes : List ℕ) (n : ℕ)
    (due : Bool) (w w' : World) → TellsDue deed hash seat key bytes (Written n due) (HasEnded due) w w'
given_no_more deeds.Find hash seat key bytes n due w w' = tt
given_no_more deeds.Put hash seat key bytes n due w w' = tt
given_no_more deeds.Replace hash seat key bytes n due w w' = tt
given_no_more deeds.Remove hash seat key bytes n due w w' = tt

writes_pages : (deed : Deed) → IsWriter deed → MayWritePages {F = FileFault} deed (Moved WriteRecord)
writes_pages deeds.Find writer = absurd writer
writes_pages deeds.Put writer = refl
writes_pages deeds.Replace writer = refl
writes_pages deeds.Remove writer = refl

module _ (hash : RecordKey → ℕ) (seat : ℕ) (pool : PoolState) (locks : Table) (change : Change) (v : SearchView) where
  -- as a search, where no page has answered
  as_search : (deed : Deed) → found_at v.place ≡ None → Sees hash seat (seen_by deed v) pool locks change →
      Sees hash seat (search_facts v) pool locks change
  as_search deeds.Find none sees = sees
  as_search deeds.Put none sees = sees_search hash seat pool locks change v none sees
  as_search deeds.Replace none sees = sees_search hash seat pool locks change v none sees
  as_search deeds.Remove none sees = sees_search hash seat pool locks change v none sees

  as_writer : (deed : Deed) → IsWriter deed → Sees hash seat (seen_by deed v) pool locks change →
      Sees hash seat (seen_of v) pool locks change
  as_writer deeds.Find writer sees = absurd writer
  as_writer deeds.Put writer sees = sees
  as_writer deeds.Replace writer sees = sees
  as_writer deeds.Remove writer sees = sees

owns_as : (deed : Deed) (hash : RecordKey → ℕ) (before : List Lock) (v : SearchView) → IsWriter deed →
    OwnsWritten deed hash before v → (hash v.key ≡ v.pseudokey) × Owns before v.key
owns_as deeds.Find hash before v writer owns = absurd writer
owns_as deeds.Put hash before v writer owns = owns
owns_as deeds.Replace hash before v writer owns = owns
owns_as deeds.Remove hash before v writer owns = owns

-- ---- what a step keeps

-- where nothing stands at the key a search may be left
pub leaves_search : (deed : Deed) (did : Progress FileFault) (at : Option (ℕ × Option ℕ)) (old new : BucketStage) →
    ((due : Bool) → GivesBack deed at due → TellsNone at) → Passes deed did at old new →
    LeavesSearch did at (has_searched old) (has_searched new)
leaves_search deed did at Searching Searching tells passes = tt
leaves_search deed did at Searching (Written n due) tells passes = inl passes
leaves_search deed did at Searching (HasEnded due) tells passes = inr (tells due passes)
leaves_search deed did at (Written n due) new tells passes = tt
leaves_search deed did at (HasEnded due) new tells passes = tt

faults_write_none : (deed : Deed) (did : Progress FileFault) → is_fault did ≡ true → MayWritePages deed did → ⊥
faults_write_none deeds.Find did failed wrote = wrote
faults_write_none deeds.Put did failed wrote = true≢false (sym failed ∙ ap is_fault wrote)
faults_write_none deeds.Replace did failed wrote = true≢false (sym failed ∙ ap is_fault wrote)
faults_write_none deeds.Remove did failed wrote = true≢false (sym failed ∙ ap is_fault wrote)

pub fault_spares : (deed : Deed) (did : Progress FileFault) (pool pool' : PoolState) → WritesOnce deed did pool pool' →
    StepHasCause did pool pool' → WritesOrSpares did pool pool'
fault_spares deed did pool pool' once cause = record {
  writes = once.writes;
  cause = cause;
  spares = λ failed honest. once.spares (faults_write_none deed did failed) honest;
}

-- ---- one step

module _ (deed : Deed) (seat : ℕ) (bytes : List ℕ) (pool pool' : PoolState) (locks : Table) where
  abbrev pub Makes : Progress FileFault → (old new : BucketView) → Table → Type 0
  Makes did old new locks' = MakesBucket deed seat bytes did old new pool pool' locks locks'

  -- its search goes on
  pub searches_on : (did : Progress FileFault) (v v' : SearchView) (locks' : Table) → found_at v.place ≡ None →
      SuitsKind deed v.kind → ReadsPages did pool pool' → KeepsAim did pool v v' →
      FollowsRow seat (search_locks v) (search_locks v') locks locks' →
      Advances seat (search_facts v) did (steps_left v (store_of pool.images)) (steps_left v' (store_of pool'.images))
      pool pool' locks →
      MakesStep seat (search_locks v) (search_facts v) (search_facts v') (search_turn v) did pool pool' locks locks' →
      GivesAnswer seat did v v' pool locks → Makes did (searching v) (searching v') locks'
  searches_on did v v' locks' none kind reads aim row near step answer = record {
    writes = record {
      writes = read_only (not (is_fault did)) pool pool' reads.reads;
      spares = λ other honest. reads.reads.images honest;
    };
    cause = reads.cause;
    aim = record {
      key = aim.key;
      pseudokey = aim.pseudokey;
      kind = aim.kind;
      searches = λ n. aim;
      rests = λ some. absurd (none_found v none some);
      stays = Stays-of searching did v v' aim.stays;
      ended = (λ e. absurd (none_found v none (aim.ended.0 e)), λ over. absurd cc);
      passes = tt;
      answered = λ honest wrote. absurd (searches_only did v.pseudokey (store_of pool.images) v.place v'.place
          (aim.led honest) wrote);
    };
    row = row;
    progress = λ hash change suits sees. nears_on did (steps_behind deed) (steps_left v (store_of pool.images))
        (steps_left v' (store_of pool'.images)) pool pool'
        (near hash change (as_search hash seat pool locks change v deed none sees));
    step = λ hash change before bare owns here suits sees fine. by deed hash change before bare kind owns here sees
        fine;
    answer = λ hash change keyed sees fine.
        let plain = as_search hash seat pool locks change v deed none sees in
        let old : World = world pool.images locks change in (
          told hash seat did v.key old plain.sound v.place v'.place
              (subst (λ (k : ℕ). AllKnown seat old (facts_at v.place k)) (sym keyed) plain.known)
              (answer hash change keyed plain fine),
          no_more_due deed hash seat v.key bytes old (world pool'.images locks' change),
        );
  }
    where
      by : (deed : Deed) (hash : RecordKey → ℕ) (change : Change) (before : List Lock) → HasNoFileLock before →
          SuitsKind deed v.kind → OwnsWritten deed hash before v → row_of locks seat ≡ search_locks v before →
          Sees hash seat (seen_by deed v) pool locks change → is_fault did ≡ false →
          Step hash seat (bucket_turn deed (searching v) bytes (store_of pool.images)) did (seen_by deed v') pool pool'
          locks locks' change
      by deeds.Find hash change before bare kind owns here sees fine =
          step hash change None before bare here sees fine
      by deeds.Put hash change before bare kind owns here sees fine =
          let plain = sees_search hash seat pool locks change v none sees in
          search_stepped hash seat pool locks change v none sees pool' locks' did _ v' before bare aim kind owns.0 here
          (answer hash change owns.0 plain fine) (step hash change (Some _) before bare here plain fine)
      by deeds.Replace hash change before bare kind owns here sees fine =
          let plain = sees_search hash seat pool locks change v none sees in
          search_stepped hash seat pool locks change v none sees pool' locks' did _ v' before bare aim kind owns.0 here
          (answer hash change owns.0 plain fine) (step hash change (Some _) before bare here plain fine)
      by deeds.Remove hash change before bare kind owns here sees fine =
          let plain = sees_search hash seat pool locks change v none sees in
          search_stepped hash seat pool locks change v none sees pool' locks' did _ v' before bare aim kind owns.0 here
          (answer hash change owns.0 plain fine) (step hash change (Some _) before bare here plain fine)

  -- the page is given back
  pub gives_back : (old : BucketView) (page : ℕ) (due : Bool) (locks' : Table) → OnlyReads true pool pool' →
      IsSeat locks seat → ((before : List Lock) → bucket_locks old before ≡ on_page page old.search.kind before) →
      has_ended old.stage ≡ false → IsSome (found_of old) →
      Passes {F = FileFault} deed (Moved Release) (found_of old) old.stage (HasEnded due) →
      ((s : Store) → 0 < bucket_left deed old s) →
      ((hash : RecordKey → ℕ) (change : Change) → hash old.search.key ≡ old.search.pseudokey →
      Sees hash seat (bucket_facts deed old) pool locks change →
      TellsDue deed hash seat old.search.key bytes old.stage (HasEnded due) (world pool.images locks change)
      (world pool'.images locks' change)) →
      locks' ≡ without_lock locks seat (Page page) →
      Makes (Moved Release) old (record { search = old.search; stage = HasEnded due }) locks'
  gives_back old page due locks' reads seated holds going answered passes some tells is = record {
    writes = record {
      writes = read_only true pool pool' reads;
      spares = λ other honest. reads.images honest;
    };
    cause = λ fault same. absurd cc;
    aim = record {
      key = refl;
      pseudokey = refl;
      kind = refl;
      searches = λ none. absurd (none_found old.search none answered);
      rests = λ answered. refl;
      stays = tt;
      ended = (λ e. absurd cc, λ over. absurd (true≢false (sym over ∙ going)));
      passes = passes;
      answered = λ honest wrote. answered;
    };
    row = λ before bare row. released locks locks' seat page old.search.kind before bare (row ∙ holds before) is;
    progress = λ hash change suits sees. some (store_of pool.images);
    step = λ hash change before bare owns row suits sees fine. behind pool pool' reads
        (gave_page_back hash seat _ pool locks change sees _ locks' page old.search.kind before bare seated
        (row ∙ holds before) is) sees.honest;
    answer = λ hash change keyed sees fine. (inl refl, tells hash change keyed sees);
  }

  -- as the part that gives it back tells it
  pub gave_back : (did : Progress FileFault) (old new : BucketView) (page : ℕ) (due : Bool) (locks' : Table) →
      OnlyReads true pool pool' → IsSeat locks seat →
      ((before : List Lock) → bucket_locks old before ≡ on_page page old.search.kind before) →
      has_ended old.stage ≡ false → IsSome (found_of old) →
      Passes {F = FileFault} deed (Moved Release) (found_of old) old.stage (HasEnded due) →
      ((s : Store) → 0 < bucket_left deed old s) →
      ((hash : RecordKey → ℕ) (change : Change) → hash old.search.key ≡ old.search.pseudokey →
      Sees hash seat (bucket_facts deed old) pool locks change →
      TellsDue deed hash seat old.search.key bytes old.stage (HasEnded due) (world pool.images locks change)
      (world pool'.images locks' change)) →
      did ≡ Moved Release → new ≡ record { search = old.search; stage = HasEnded due } →
      locks' ≡ without_lock locks seat (Page page) → Makes did old new locks'
  gave_back did old new page due locks' reads seated holds going answered passes some tells moved ended is =
      subst (λ (d : Progress FileFault). Makes d old new locks') (sym moved)
      (subst (λ (n : BucketView). Makes (Moved Release) old n locks') (sym ended)
      (gives_back old page due locks' reads seated holds going answered passes some tells is))

  module _ (v : SearchView) (page : ℕ) (found : Option ℕ) (at : found_at v.place ≡ Some (page, found)) where
    pub has_answered : IsSome (found_at v.place)
    has_answered = ap (λ (x : Option (ℕ × Option ℕ)). is_some x) at

    pub holds_page : (before : List Lock) → search_locks v before ≡ on_page page v.kind before
    holds_page before = ap (λ (p : SearchPlace). locks_at p v.kind before) (found_place v.place page found at)

    -- nothing was written
    pub gave_unwritten : (did : Progress FileFault) (new : BucketView) (locks' : Table) → OnlyReads true pool pool' →
        IsSeat locks seat → (due : Bool) → GivesBack deed (Some (page, found)) due →
        ((hash : RecordKey → ℕ) (change : Change) → hash v.key ≡ v.pseudokey →
        Sees hash seat (seen_by deed v) pool locks change →
        TellsDue deed hash seat v.key bytes Searching (HasEnded due) (world pool.images locks change)
        (world pool'.images locks' change)) →
        did ≡ Moved Release → new ≡ record { search = v; stage = HasEnded due } →
        locks' ≡ without_lock locks seat (Page page) → Makes did (searching v) new locks'
    gave_unwritten did new locks' reads seated due gives tells moved ended is =
        gave_back did (searching v) new page due locks' reads seated holds_page refl has_answered
        (subst (λ (x : Option (ℕ × Option ℕ)). GivesBack deed x due) (sym at) gives) (some_left deed v) tells moved
        ended is

    module _ (writer : IsWriter deed) where
      seen_there : (hash : RecordKey → ℕ) (change : Change) → Sees hash seat (seen_by deed v) pool locks change →
          Sees hash seat (seen_at (Found page found) v.key v.pseudokey) pool locks change
      seen_there hash change sees = sees_found v page found at hash seat pool locks change
          (as_writer hash seat pool locks change v deed writer sees)

      -- the record is written
      pub has_written : (due : Bool) → v.kind ≡ Selective → OnlyWrites true pool pool' →
          ((hash : RecordKey → ℕ) (change : Change) (before : List Lock) → HasNoFileLock before →
          hash v.key ≡ v.pseudokey → Owns before v.key → row_of locks seat ≡ on_page page Selective before →
          SuitsFile deed hash (store_of pool.images) v bytes →
          Sees hash seat (seen_at (Found page found) v.key v.pseudokey) pool locks change →
          Step {F = FileFault} hash seat (bucket_turn deed (searching v) bytes (store_of pool.images))
          (Moved WriteRecord) [] pool pool' locks locks change) →
          ((hash : RecordKey → ℕ) (change : Change) → hash v.key ≡ v.pseudokey →
          Sees hash seat (seen_at (Found page found) v.key v.pseudokey) pool locks change →
          TellsDue deed hash seat v.key bytes Searching (Written page due) (world pool.images locks change)
          (world pool'.images locks change)) →
          Makes (Moved WriteRecord) (searching v) (record { search = v; stage = Written page due }) locks
      has_written due kind writes wrote tells = record {
        writes = record { writes = writes; spares = λ other honest. absurd (other (writes_pages deed writer)) };
        cause = λ fault same. absurd cc;
        aim = record {
          key = refl;
          pseudokey = refl;
          kind = refl;
          searches = λ none. absurd (none_found v none has_answered);
          rests = λ answered. refl;
          stays = tt;
          ended = (λ e. absurd cc, λ over. absurd cc);
          passes = refl;
          answered = λ honest wrote. has_answered;
        };
        row = λ before bare row. sym (with_row-own locks seat)
            ∙ ap (with_row locks seat) (row ∙ holds_page before);
        progress = λ hash change suits sees. omega (arith, some_two deed writer);
        step = λ hash change before bare owns row suits sees fine.
            let own = owns_as deed hash before v writer owns in
            wrote hash change before bare own.0 own.1
            (page_row_selective v page found at kind (row_of locks seat) before row) suits
            (seen_there hash change sees);
        answer = λ hash change keyed sees fine. (inl refl, tells hash change keyed (seen_there hash change sees));
      }
        where
          some_two : (deed : Deed) → IsWriter deed → steps_behind deed ≡ 2
          some_two deeds.Find writer = absurd writer
          some_two deeds.Put writer = refl
          some_two deeds.Replace writer = refl
          some_two deeds.Remove writer = refl

      -- it is not, for a fault of the device
      pub has_failed : (fault : FileFault) → OnlyWrites false pool pool' →
          (IsTrue pool.honest → pool'.images ≡ pool.images) → FileHasCause pool pool' fault →
          ((hash : RecordKey → ℕ) (change : Change) → SuitsFile deed hash (store_of pool.images) v bytes →
          Sees hash seat (seen_at (Found page found) v.key v.pseudokey) pool locks change →
          IsDevicesFault pool pool' fault) → Makes (Fault fault) (searching v) (searching v) locks
      has_failed fault writes spares cause devices = record {
        writes = record { writes = writes; spares = λ other honest. spares honest };
        cause = told_cause fault pool pool' cause;
        aim = record {
          key = refl;
          pseudokey = refl;
          kind = refl;
          searches = λ none. absurd (none_found v none has_answered);
          rests = λ answered. refl;
          stays = refl;
          ended = (λ e. absurd cc, λ over. absurd cc);
          passes = tt;
          answered = λ honest wrote. has_answered;
        };
        row = λ before bare row. sym (with_row-own locks seat) ∙ ap (with_row locks seat) row;
        progress = λ hash change suits sees. devices hash change suits (seen_there hash change sees);
        step = λ hash change before bare owns row suits sees fine. absurd cc;
        answer = λ hash change keyed sees fine. absurd cc;
      }

-- it has ended
pub is_over : (deed : Deed) (seat : ℕ) (bytes : List ℕ) (pool : PoolState) (locks : Table) (v : SearchView)
    (due : Bool) → IsReady pool → IsSome (found_at v.place) →
    MakesBucket deed seat bytes Ended (record { search = v; stage = HasEnded due })
    (record { search = v; stage = HasEnded due }) pool pool locks locks
is_over deed seat bytes pool locks v due ready answered = record {
  writes = record { writes = nothing_written pool ready; spares = λ other honest. refl };
  cause = λ fault same. absurd cc;
  aim = record {
    key = refl;
    pseudokey = refl;
    kind = refl;
    searches = λ none. absurd (none_found v none answered);
    rests = λ answered. refl;
    stays = refl;
    ended = (λ e. refl, λ over. refl);
    passes = tt;
    answered = λ honest wrote. answered;
  };
  row = λ before bare row. sym (with_row-own locks seat) ∙ ap (with_row locks seat) row;
  progress = λ hash change suits sees. tt;
  step = λ hash change before bare owns row suits sees fine. record {
    after = change;
    file = sees.file;
    others = KeepsOthers-same hash seat (world pool.images locks change) (world pool.images locks change) sees.sound
        refl;
    known = sees.known;
    does = refl;
    led = tt;
  };
  answer = λ hash change keyed sees fine. (
    inl refl,
    over_no_more deed hash seat v.key bytes due
        (world pool.images locks change) (world pool.images locks change),
  );
}
