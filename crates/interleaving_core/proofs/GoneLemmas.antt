-- A kernel behind what its seat's call has made in one go.
use Rattle.std.proofs.Common.{◌≡◌, refl, sym, ap, ◌∙◌, subst, ℕ, ◌-◌, ◌≤◌, ◌<◌, Bool, true, false, IfSome, IsSome, List, [], ◌∷◌, ◌++◌, Option, Some, None, length, slice_set, slice_index_or, arith}
use Rattle.std.specs.Option.{is_some}
use Rattle.file_pages.specs.declared.fault.FileFault.{FileFault}
use Rattle.step_rules.specs.declared.progress.Progress.TheVariants as progress
use Rattle.xsi_calls.specs.CallSteps.{MakesCall}
use Rattle.xsi_calls.specs.Machine.{is_searching}
use Rattle.xsi_calls.specs.OneGo.{EndsBy as CallEndsBy, Errand, GoesAtOnce, RunsErrands, all_moves}
use Rattle.xsi_calls.specs.Words.{At, at}
use Rattle.xsi_calls.specs.declared.call_machine.one_go.TheConstants.{QUESTION_STEPS}
use Rattle.interleaving_core.specs.Words.{CallView, Entry, IsSeat, PoolState, RecordKey, Table, answer_of_call, conclusion_of}
use Rattle.interleaving_core.specs.Active.{ActiveView, HasRoomAs, IsDrafted, IsKept, decided_by, draft_by, entries_by}
use Rattle.interleaving_core.specs.Counting.{AreSoundCounts, CountsState, NotesGo, NotesSearch, answered_count}
use Rattle.interleaving_core.specs.Driving.{GoesThrough, HasGoneNowhere, Moves, failure_at}
use Rattle.interleaving_core.specs.Kernel.{IsWhole, KernelState, call_at, with_call}
use Rattle.interleaving_core.specs.Owing.{fault_told}
use Rattle.interleaving_core.specs.declared.active.Draft.{Draft}
use Rattle.interleaving_core.specs.declared.count.SearchCount.{SearchCount}
use Rattle.interleaving_core.specs.declared.fault.Failure.{Failure}
use Rattle.interleaving_core.proofs.AtOnceLemmas.{none_is}
use Rattle.interleaving_core.proofs.ErrandLemmas.{counts_of, counts_with, counts_without, few_moves, many_moves, none_made, searches_in}
use Rattle.interleaving_core.proofs.KernelLemmas.{is_counted}
use Rattle.interleaving_core.proofs.LentLemmas.{is_its, slot_is}
use Rattle.interleaving_core.proofs.OneGoLemmas.{HasLed, come_on, led_by, stands_behind}
use Rattle.interleaving_core.proofs.PlaceLemmas.{Seats, with_own, with_place}
use Rattle.interleaving_core.proofs.SearchLemmas.{search_noted, search_sound}

-- where nothing is made nothing is left to be said
pub goes_nowhere : {K : Type 0} (hash : RecordKey → ℕ) (seat : ℕ) (old new : KernelState K) → new ≡ old →
    GoesThrough hash seat 0 None old new
goes_nowhere hash seat old new same = record { before = old; moved = refl; ends = same }

-- a call that was lent, and is as it was
pub unmade : {K : Type 0} (seat : ℕ) (slot : Option ActiveView) (old now : KernelState K) → old ≡ now → IsWhole old →
    IsSeat now.locks seat → slot ≡ slice_index_or old.seats (seat - 1) slot → (left : Option ActiveView) →
    slot ≡ left → record old { seats = slice_set old.seats (seat - 1) left } ≡ now
unmade seat slot old now view whole seated at_slot left same =
    ap (λ (xs : Seats). record old { seats = xs })
    (with_place old.seats seat left (is_its seat slot old now view whole seated at_slot).0
    ∙ ap (with_call old.seats seat) (sym same ∙ slot_is seat slot old now view whole seated at_slot)
    ∙ with_own old.seats seat)
    ∙ view

-- a call that a kernel has lent, of which its seat was not told that it waits, has gone so far in one go
pub record HasGone {K : Type 0} (of : K → RecordKey → ℕ) (seat : ℕ) (slot : Option ActiveView) (old now : KernelState K)
    (a : ActiveView) (moves : ℕ) (fault : Option FileFault) (m : CallView) (pool : PoolState) (locks : Table)
    : Type 0 where
  pub view : old ≡ now
  pub whole : IsWhole old
  pub seated : IsSeat now.locks seat
  pub at_slot : slot ≡ slice_index_or old.seats (seat - 1) slot
  pub sound : old.failed ≡ false
  pub at_a : slot ≡ Some a
  pub awake : is_some a.wait ≡ false
  pub kept : IsDrafted a.machine a.draft
  pub calm : AreSoundCounts old.searches
  pub gone : GoesAtOnce (MakesCall (of old.keys) seat old.stopped) is_searching seat moves 2 fault
      (at a.machine old.pool old.locks) (at m pool locks)

module _ {K : Type 0} {of : K → RecordKey → ℕ} {seat : ℕ} {slot : Option ActiveView} {old now : KernelState K}
    {a : ActiveView} {moves : ℕ} {fault : Option FileFault} {m : CallView} {pool : PoolState} {locks : Table}
    (had : HasGone of seat slot old now a moves fault m pool locks) where
  is : IsSeat old.locks seat
  is = is_its seat slot old now had.view had.whole had.seated had.at_slot

  there : call_at old.seats seat ≡ Some a
  there = sym (slot_is seat slot old now had.view had.whole had.seated had.at_slot) ∙ had.at_a

  -- it does not wait
  goes_on : a.wait ≡ None
  goes_on = none_is a.wait had.awake

  -- ---- where nothing was made

  stays_by : (errands : List Errand) → moves ≡ all_moves errands → moves ≡ 0 → (s : At CallView) →
      RunsErrands (MakesCall (of old.keys) seat old.stopped) is_searching seat errands
      (at a.machine old.pool old.locks) s → s ≡ at a.machine old.pool old.locks
  stays_by errands many none s runs =
      subst (λ (es : List Errand). RunsErrands (MakesCall (of old.keys) seat old.stopped) is_searching seat es
      (at a.machine old.pool old.locks) s) (none_made errands (sym many ∙ none)) runs

  ends_there : (f : Option FileFault) → f ≡ None → (s : At CallView) →
      CallEndsBy (MakesCall (of old.keys) seat old.stopped) f s (at m pool locks) → at m pool locks ≡ s
  ends_there None none s ends = ends
  ends_there (Some f) none s ends = absurd cc

  pub stays : HasGoneNowhere moves fault → at m pool locks ≡ at a.machine old.pool old.locks
  stays none =
      ends_there fault none.1 had.gone.before had.gone.ends
      ∙ stays_by had.gone.runs.errands had.gone.runs.many none.0 had.gone.before had.gone.runs.runs

  -- the kernel is left as it was
  abbrev unmade_left : KernelState K
  unmade_left = record old {
    pool = pool;
    locks = locks;
    seats = slice_set old.seats (seat - 1) (Some (record a { machine = m }));
  }

  pub nowhere_is : HasGoneNowhere moves fault → unmade_left ≡ old
  nowhere_is none =
      ap (λ (s : At CallView). record old {
        pool = s.pool;
        locks = s.locks;
        seats = slice_set old.seats (seat - 1) (Some (record a { machine = s.machine }));
      }) (stays none)
      ∙ ap (λ (xs : Seats). record old { seats = xs })
      (with_place old.seats seat (Some a) is.0
      ∙ ap (with_call old.seats seat) (sym there) ∙ with_own old.seats seat)

  pub whole_still : HasGoneNowhere moves fault → IsWhole unmade_left
  whole_still none = subst IsWhole (sym (nowhere_is none)) had.whole

  pub kept_still : HasGoneNowhere moves fault → IsKept a.machine a.draft a.wait → IsKept m a.draft a.wait
  kept_still none is_kept =
      subst (λ (s : At CallView). IsKept s.machine a.draft a.wait) (sym (stays none)) is_kept

  pub goes_still : HasGoneNowhere moves fault → GoesThrough (of now.keys) seat moves fault now unmade_left
  goes_still none =
      subst (λ (n : ℕ). GoesThrough (of now.keys) seat n fault now unmade_left) (sym none.0)
      (subst (λ (f : Option FileFault). GoesThrough (of now.keys) seat 0 f now unmade_left) (sym none.1)
      (goes_nowhere (of now.keys) seat now unmade_left (nowhere_is none ∙ had.view)))

  -- ---- where something was

  -- the call that it is then
  abbrev come : ActiveView
  come = record {
    machine = m;
    draft = draft_by (answer_of_call m) a.draft;
    begun = a.begun;
    decided = decided_by (conclusion_of a.machine) (length old.journal) a.decided;
    wait = None;
  }

  -- and the kernel, where so much is counted, for so many entries memory is taken, and by this fault it has failed
  abbrev left_at : CountsState → ℕ → Option FileFault → KernelState K
  left_at n room f = record old {
    pool = pool;
    locks = locks;
    seats = with_call old.seats seat (Some come);
    journal = old.journal ++ entries_by seat (answer_of_call m) a.draft;
    room = room;
    failed = is_some (failure_at seat f);
    failure = failure_at seat f;
    searches = n;
  }

  record HasGoneTo (n : CountsState) (room : ℕ) (f : Option FileFault) : Type 0 where
    pub is_whole : IsWhole (left_at n room f)
    pub goes : GoesThrough (of old.keys) seat moves f old (left_at n room f)
    pub drafted : IsDrafted m (draft_by (answer_of_call m) a.draft)
    pub most : m.undecided.questions.room.most ≡ a.machine.undecided.questions.room.most

  module _ (ended : CountsState) (still : AreSoundCounts ended) (notes : NotesSearch seat old.searches ended)
      (room : ℕ) (more : old.room ≤ room) where
    abbrev start : At CallView
    start = at a.machine old.pool old.locks

    went : (f : Option FileFault) (errands : List Errand) → moves ≡ all_moves errands → (s : At CallView) →
        RunsErrands (MakesCall (of old.keys) seat old.stopped) is_searching seat errands start s →
        CallEndsBy (MakesCall (of old.keys) seat old.stopped) f s (at m pool locks) →
        (HasGoneNowhere moves f → ⊥) → HasGoneTo (counts_of old.searches ended errands) room f
    went None [] many s runs ends some = absurd (some (many, refl))
    went None (errand ∷ before) many s runs ends some =
        let led = subst (λ (x : At CallView). HasLed of seat old had.whole is had.sound a there goes_on had.kept
        had.calm ended still notes room more (all_moves (errand ∷ before))
        (counts_of old.searches ended (errand ∷ before)) x) (sym ends)
        (led_by of seat old had.whole is had.sound a there goes_on had.kept had.calm ended still notes room more
        errand before s runs) in
        record {
          is_whole = led.is_whole;
          goes = record {
            before = left_at (counts_of old.searches ended (errand ∷ before)) room None;
            moved = subst (λ (k : ℕ). Moves (of old.keys) seat k old
                (left_at (counts_of old.searches ended (errand ∷ before)) room None)) (sym many) led.made;
            ends = refl;
          };
          drafted = led.come.drafted;
          most = led.come.most;
        }
    went (Some f) errands many s runs ends some =
        let stands = stands_behind of seat old had.whole is had.sound a there goes_on had.kept had.calm ended still
        notes room more errands s runs in
        let led = stands.leads (progress.Fault f) (fault_told f) refl (counts_of old.searches ended errands)
        (Some (record { seat = seat; fault = f })) (at m pool locks) refl ends (sym stands.counts) in
        let come = come_on of seat old had.whole is had.sound a there goes_on had.kept had.calm ended still notes
        room more (progress.Fault f) s (at m pool locks) ends stands.come in
        record {
          is_whole = led.is_whole;
          goes = record {
            before = stands.before;
            moved = subst (λ (k : ℕ). Moves (of old.keys) seat k old stands.before) (sym many) stands.made;
            ends = led.step;
          };
          drafted = come.drafted;
          most = come.most;
        }

    gone_to : (HasGoneNowhere moves fault → ⊥) →
        HasGoneTo (counts_of old.searches ended had.gone.runs.errands) room fault
    gone_to some =
        went fault had.gone.runs.errands had.gone.runs.many had.gone.before had.gone.runs.runs had.gone.ends some

  -- what one search would leave
  abbrev own : SearchCount
  own = answered_count old.searches.under_way

  abbrev answered : CountsState
  answered = record {
    counts = slice_set old.searches.counts (seat - 1) own;
    under_way = old.searches.under_way;
  }

  searched : NotesSearch seat old.searches answered
  searched = search_noted seat old.searches had.calm (is_counted old had.whole seat is) own refl

  searched_sound : AreSoundCounts answered
  searched_sound = search_sound seat old.searches had.calm (is_counted old had.whole seat is) own refl

  unsearched : (some : HasGoneNowhere moves fault → ⊥) (room : ℕ) (more : old.room ≤ room) →
      HasGoneTo (counts_of old.searches answered had.gone.runs.errands) room fault
  unsearched some room more = gone_to answered searched_sound searched room more some

  -- the room that is kept for the bytes of its answer fits
  pub fits : (HasGoneNowhere moves fault → ⊥) → IfSome a.draft (λ (d : Draft). HasRoomAs d.room m)
  fits some = by a.draft had.kept
    where
      by : (d : Option Draft) → IsDrafted a.machine d → IfSome d (λ (d : Draft). HasRoomAs d.room m)
      by None had = tt
      by (Some d) had = had.room ∙ sym (unsearched some old.room (omega arith)).most

  -- ---- so counted

  module _ (some : HasGoneNowhere moves fault → ⊥) (draft : Option Draft)
      (draft_is : draft ≡ draft_by (answer_of_call m) a.draft) where
    pub kept_then : IsKept m draft a.wait
    kept_then = record {
      drafted = subst (IsDrafted m) (sym draft_is) (unsearched some old.room (omega arith)).drafted;
      waits = λ some_wait. absurd (none_waits some_wait);
    }
      where
        none_waits : IsSome a.wait → ⊥
        none_waits some_wait =
            let none = subst IsSome goes_on some_wait in
            absurd cc

    module _ (n : CountsState) (counts : NotesGo seat moves old.searches n) (still : AreSoundCounts n) (room : ℕ)
        (more : old.room ≤ room) where
      counted : HasGoneTo n room fault
      counted = by (searches_in had.gone.runs.errands) refl
        where
          by : (b : Bool) → searches_in had.gone.runs.errands ≡ b → HasGoneTo n room fault
          by true is_in =
              let least = many_moves had.gone.runs.errands is_in in
              let many = had.gone.runs.many in
              let long : QUESTION_STEPS ≤ moves = omega (arith, least, many) in
              subst (λ (x : CountsState). HasGoneTo x room fault)
              (counts_with old.searches n had.gone.runs.errands is_in)
              (gone_to n still (counts.searched long) room more some)
          by false is_in =
              let same = few_moves had.gone.runs.errands is_in in
              let many = had.gone.runs.many in
              let few = had.gone.runs.few in
              let short : moves < QUESTION_STEPS = omega (arith, same, many, few) in
              subst (λ (x : CountsState). HasGoneTo x room fault)
              (counts_without old.searches answered had.gone.runs.errands is_in ∙ sym (counts.none short))
              (unsearched some room more)

      -- ---- the kernel as it is left

      module _ (decided many : ℕ) (as_many : many ≡ length old.journal)
          (marked : decided ≡ decided_by (conclusion_of a.machine) many a.decided) (journal : List Entry)
          (grows : journal ≡ old.journal ++ entries_by seat (answer_of_call m) a.draft) (failure : Option Failure)
          (failure_is : failure ≡ failure_at seat fault) where
        abbrev left : KernelState K
        left = record old {
          pool = pool;
          locks = locks;
          seats = slice_set old.seats (seat - 1) (Some (record a { machine = m; draft = draft; decided = decided }));
          journal = journal;
          room = room;
          failed = is_some failure;
          failure = failure;
          searches = n;
        }

        come_is : record a { machine = m; draft = draft; decided = decided } ≡ come
        come_is =
            ap (λ (d : Option Draft). record a { machine = m; draft = d; decided = decided }) draft_is
            ∙ ap (λ (k : ℕ). record come { decided = k; wait = a.wait })
            (marked ∙ ap (λ (k : ℕ). decided_by (conclusion_of a.machine) k a.decided) as_many)
            ∙ ap (λ (w : Option ℕ). record come { wait = w }) goes_on

        left_is : left ≡ left_at n room fault
        left_is =
            ap (λ (xs : Seats). record left { seats = xs })
            (with_place old.seats seat (Some (record a { machine = m; draft = draft; decided = decided })) is.0
            ∙ ap (λ (b : ActiveView). with_call old.seats seat (Some b)) come_is)
            ∙ ap (λ (es : List Entry). record left { seats = with_call old.seats seat (Some come); journal = es }) grows
            ∙ ap (λ (f : Option Failure). record (left_at n room fault) { failed = is_some f; failure = f }) failure_is

        pub whole_then : IsWhole left
        whole_then = subst IsWhole (sym left_is) counted.is_whole

        pub goes_then : GoesThrough (of now.keys) seat moves fault now left
        goes_then =
            subst (λ (k : KernelState K). GoesThrough (of k.keys) seat moves fault k left) had.view
            (subst (λ (k : KernelState K). GoesThrough (of old.keys) seat moves fault old k) (sym left_is) counted.goes)
