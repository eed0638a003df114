-- What a seat's call makes in one go are steps of a kernel, one behind the other.
use Rattle.std.proofs.Common.{◌≡◌, refl, sym, ap, ◌∙◌, subst, ℕ, suc, ◌+◌, ◌≤◌, Bool, false, not, List, [], ◌∷◌, ◌++◌, Option, Some, None, length, append-nil, append_assoc, arith}
use Rattle.std.specs.Option.{is_some}
use Rattle.file_pages.specs.declared.fault.FileFault.{FileFault}
use Rattle.step_rules.specs.Runs.{MovesAlong, Stop, stop}
use Rattle.step_rules.specs.declared.kind.Kind.{Kind}
use Rattle.step_rules.specs.declared.kind.Kind.TheVariants as kinds
use Rattle.step_rules.specs.declared.progress.Progress.TheVariants as progress
use Rattle.xsi_calls.specs.CallSteps.{MakesCall}
use Rattle.xsi_calls.specs.Machine.{answer_by, is_searching}
use Rattle.xsi_calls.specs.OneGo.{Asks, Decides, Errand, GivesBack, MakesErrand, RunsErrands, Writes, all_moves, moves_of}
use Rattle.xsi_calls.specs.Words.{AskStep, AsksAtOnce, At, SearchesOnce, Way, WritesAtOnce, at}
use Rattle.xsi_calls.specs.declared.conclusion.Conclusion.{Conclusion}
use Rattle.interleaving_core.specs.Words.{Answer, CallView, Entry, IsSeat, PoolState, Progress, RecordKey, Table, answer_of_call, conclusion_of}
use Rattle.interleaving_core.specs.Active.{ActiveView, IsDrafted, decided_by, draft_by, entries_by}
use Rattle.interleaving_core.specs.Counting.{AreSoundCounts, CountsState, IsCountedSeat, Notes, NotesSearch, changes_counts}
use Rattle.interleaving_core.specs.Driving.{Moves}
use Rattle.interleaving_core.specs.Kernel.{IsWhole, KernelState, call_at, with_call}
use Rattle.interleaving_core.specs.Owing.{failure_by}
use Rattle.interleaving_core.specs.Searches.{Counts, begins_search, ends_search, goes_on}
use Rattle.interleaving_core.specs.Turn.{told_on}
use Rattle.interleaving_core.specs.declared.fault.Failure.{Failure}
use Rattle.interleaving_core.specs.declared.step.Step.{Step}
use Rattle.interleaving_core.specs.declared.step.Step.TheVariants as steps
use Rattle.interleaving_core.proofs.AtOnceLemmas.{LeadsOn, answer_stays, draft_first, draft_twice, drafted_behind, entries_twice, leads_on, undecided_before}
use Rattle.interleaving_core.proofs.CountLemmas.{none_noted}
use Rattle.interleaving_core.proofs.ErrandLemmas.{count_by, counts_of}
use Rattle.interleaving_core.proofs.KernelLemmas.{is_counted, seat_there}
use Rattle.interleaving_core.proofs.PlaceLemmas.{at_same, with_twice}
use Rattle.interleaving_core.proofs.SearchLemmas.{search_again}

-- its seat was not told that the call waits; behind its searches so much is counted, and for so many entries memory is
-- taken
module _ {K : Type 0} (of : K → RecordKey → ℕ) (seat : ℕ) (old : KernelState K) (whole : IsWhole old)
    (is : IsSeat old.locks seat) (sound : old.failed ≡ false) (a : ActiveView)
    (there : call_at old.seats seat ≡ Some a) (awake : a.wait ≡ None) (kept : IsDrafted a.machine a.draft)
    (calm : AreSoundCounts old.searches) (ended : CountsState) (still : AreSoundCounts ended)
    (notes : NotesSearch seat old.searches ended) (room : ℕ) (more : old.room ≤ room) where
  -- how long the journal was at its Decide, or is before this
  abbrev since : ℕ
  since = decided_by (conclusion_of a.machine) (length old.journal) a.decided

  -- the call while its machine is this
  abbrev active : CallView → ActiveView
  active m = record {
    machine = m;
    draft = draft_by (answer_of_call m) a.draft;
    begun = a.begun;
    decided = since;
    wait = None;
  }

  -- the kernel then, while so much is counted, and this has failed it
  abbrev kernel_at : CountsState → Option Failure → At CallView → KernelState K
  kernel_at n failure s = record old {
    pool = s.pool;
    locks = s.locks;
    seats = with_call old.seats seat (Some (active s.machine));
    journal = old.journal ++ entries_by seat (answer_of_call s.machine) a.draft;
    room = room;
    failed = is_some failure;
    failure = failure;
    searches = n;
  }

  abbrev Makes : Progress FileFault → (s t : At CallView) → Type 0
  Makes did s t = MakesCall (of old.keys) seat old.stopped did s.machine t.machine s.pool t.pool s.locks t.locks

  here : (m : CallView) → call_at (with_call old.seats seat (Some (active m))) seat ≡ Some (active m)
  here m = at_same old.seats seat (Some (active m)) is.0 (seat_there old whole seat is)

  -- ---- where moves lead

  -- what is so of the call
  pub record HasCome (m : CallView) : Type 0 where
    pub drafted : IsDrafted m (draft_by (answer_of_call m) a.draft)
    pub undecided : conclusion_of m ≡ None → conclusion_of a.machine ≡ None
    pub most : m.undecided.questions.room.most ≡ a.machine.undecided.questions.room.most

  -- so many moves have led there
  pub record HasLed (moves : ℕ) (n : CountsState) (s : At CallView) : Type 0 where
    pub made : Moves (of old.keys) seat moves old (kernel_at n None s)
    pub is_whole : IsWhole (kernel_at n None s)
    pub is_seat : IsSeat s.locks seat
    pub come : HasCome s.machine

  -- from there a step goes on
  pub record Stands (moves : ℕ) (n : CountsState) (s : At CallView) : Type 0 where
    pub before : KernelState K
    pub made : Moves (of old.keys) seat moves old before
    pub counts : before.searches ≡ n
    pub counted : IsCountedSeat n.counts seat
    pub come : HasCome s.machine
    pub leads : (did : Progress FileFault) (told : Step) → told_on did ≡ Some told → (n' : CountsState)
        (failure : Option Failure) (t : At CallView) → failure ≡ failure_by seat told None → Makes did s t →
        Counts seat told before (kernel_at n' failure t) →
        LeadsOn (of old.keys) seat told before (kernel_at n' failure t)

  pub come_on : (did : Progress FileFault) (s t : At CallView) → Makes did s t → HasCome s.machine →
      HasCome t.machine
  come_on did s t makes come = record {
    drafted = subst (IsDrafted t.machine)
        (draft_twice (answer_of_call s.machine) (answer_of_call t.machine) a.draft
        (answer_stays did s.machine t.machine makes.aim))
        (drafted_behind did s.machine t.machine makes.aim (draft_by (answer_of_call s.machine) a.draft) come.drafted);
    undecided = λ none. come.undecided (undecided_before did s.machine t.machine makes.aim none);
    most = makes.aim.most ∙ come.most;
  }

  first_come : HasCome a.machine
  first_come = record {
    drafted = subst (IsDrafted a.machine) (sym (draft_first a.machine a.draft kept)) kept;
    undecided = λ none. none;
    most = refl;
  }

  pub at_first : Stands 0 old.searches (at a.machine old.pool old.locks)
  at_first = record {
    before = old;
    made = refl;
    counts = refl;
    counted = is_counted old whole seat is;
    come = first_come;
    leads = λ did told on n' failure t fails makes counts. leads_on of seat old whole is sound a there awake kept did
        told on (active t.machine) (record { begun = refl; decided = refl; awake = refl }) refl
        (kernel_at n' failure t) refl refl refl refl more refl fails refl makes counts;
  }

  module _ (moves : ℕ) (n : CountsState) (s : At CallView) (led : HasLed moves n s) where
    marked_by : (c : Option Conclusion) → conclusion_of s.machine ≡ c →
        since ≡ decided_by c (length (old.journal ++ entries_by seat (answer_of_call s.machine) a.draft)) since
    marked_by (Some c) come = refl
    marked_by None come =
        ap (λ (x : Option Conclusion). decided_by x (length old.journal) a.decided) (led.come.undecided come)
        ∙ ap length (sym (append-nil old.journal))
        ∙ ap (λ (x : Option Answer). length (old.journal ++ entries_by seat x a.draft)) (sym unanswered)
      where
        unanswered : answer_of_call s.machine ≡ None
        unanswered = ap (λ (x : Option Conclusion). answer_by x s.machine.undecided.questions.room.bytes) come

    pub at_next : Stands moves n s
    at_next = record {
      before = kernel_at n None s;
      made = led.made;
      counts = refl;
      counted = is_counted (kernel_at n None s) led.is_whole seat led.is_seat;
      come = led.come;
      leads = λ did told on n' failure t fails makes counts. leads_on of seat (kernel_at n None s) led.is_whole
          led.is_seat refl (active s.machine) (here s.machine) refl led.come.drafted did told on (active t.machine)
          (record { begun = refl; decided = marked_by (conclusion_of s.machine) refl; awake = refl })
          (sym (draft_twice (answer_of_call s.machine) (answer_of_call t.machine) a.draft
          (answer_stays did s.machine t.machine makes.aim))) (kernel_at n' failure t)
          (sym (with_twice old.seats seat (Some (active s.machine)) (Some (active t.machine)))) refl refl refl
          (omega arith) refl fails (grown did t makes) makes counts;
    }
      where
        grown : (did : Progress FileFault) (t : At CallView) → Makes did s t →
            old.journal ++ entries_by seat (answer_of_call t.machine) a.draft
            ≡ (old.journal ++ entries_by seat (answer_of_call s.machine) a.draft)
            ++ entries_by seat (answer_of_call t.machine) (draft_by (answer_of_call s.machine) a.draft)
        grown did t makes =
            ap (λ (es : List Entry). old.journal ++ es)
            (sym (entries_twice seat (answer_of_call s.machine) (answer_of_call t.machine) a.draft
            (answer_stays did s.machine t.machine makes.aim)))
            ∙ sym (append_assoc old.journal (entries_by seat (answer_of_call s.machine) a.draft)
            (entries_by seat (answer_of_call t.machine) (draft_by (answer_of_call s.machine) a.draft)))

  -- ---- one move

  moved : (moves : ℕ) (n : CountsState) (s : At CallView) (stands : Stands moves n s) (kind : Kind)
      (n' : CountsState) (t : At CallView) → Makes (progress.Moved kind) s t →
      Notes seat kind (begins_search kind seat t.locks) (goes_on kind seat stands.before.locks t.locks)
      (ends_search kind (Some (active t.machine))) n n' → HasLed (suc moves) n' t
  moved moves n s stands kind n' t makes notes =
      let led : LeadsOn (of old.keys) seat (steps.Moved kind) stands.before (kernel_at n' None t) =
      stands.leads (progress.Moved kind) (steps.Moved kind) refl n' None t refl makes
      (subst (λ (o : Option ActiveView). Notes seat kind (begins_search kind seat t.locks)
      (goes_on kind seat stands.before.locks t.locks) (ends_search kind o) stands.before.searches n')
      (sym (here t.machine))
      (subst (λ (x : CountsState). Notes seat kind (begins_search kind seat t.locks)
      (goes_on kind seat stands.before.locks t.locks) (ends_search kind (Some (active t.machine))) x n')
      (sym stands.counts) notes)) in
      record {
        made = record { before = stands.before; stands = stands.made; kind = kind; step = led.step };
        is_whole = led.is_whole;
        is_seat = led.is_seat;
        come = come_on (progress.Moved kind) s t makes stands.come;
      }

  -- ---- a search, and what comes behind

  abbrev Along : At CallView → List (Stop (At CallView)) → Type 0
  Along s stops = MovesAlong (AskStep (MakesCall (of old.keys) seat old.stopped)) s stops

  -- the way to a page, and what comes behind
  abbrev stops_then : Way (At CallView) → List (Stop (At CallView)) → List (Stop (At CallView))
  stops_then w rest =
      stop kinds.Grant w.locked
      ∷ stop kinds.ReadDepth w.deep
      ∷ stop kinds.ReadEntry w.named
      ∷ stop kinds.Grant w.arrived
      ∷ stop kinds.Release w.alone
      ∷ stop kinds.Look w.looked
      ∷ rest

  module _ (moves : ℕ) (n : CountsState) (s : At CallView) (stands : Stands moves n s)
      (search : NotesSearch seat n ended) where
    -- what is counted while its search is under way
    abbrev noted : CountsState
    noted = search.begun

    -- a move by which no search begins, goes on or ends, and no change does, changes no count
    quiet : (kind : Kind) (x : CountsState) → AreSoundCounts x → (k : ℕ) (t : At CallView) → Stands k x t →
        changes_counts kind false false false ≡ false → Notes seat kind false false false x x
    quiet kind x sound k t stands none = none_noted seat kind false false false x sound stands.counted none

    module _ (w : Way (At CallView)) (rest : List (Stop (At CallView))) (once : SearchesOnce seat w)
        (along : Along s (stops_then w rest)) (answered : is_searching w.looked.machine ≡ false) where
      -- by the first one a search begins
      locked : Stands (suc moves) noted w.locked
      locked = at_next _ noted w.locked
          (moved moves n s stands kinds.Grant noted w.locked along.0
          (subst (λ (b : Bool). Notes seat kinds.Grant b false false n noted) (sym once.begins) search.begins))

      deep : Stands (suc (suc moves)) noted w.deep
      deep = at_next _ noted w.deep
          (moved _ noted w.locked locked kinds.ReadDepth noted w.deep along.1.0
          (quiet kinds.ReadDepth noted search.sound _ w.locked locked refl))

      named : Stands (suc (suc (suc moves))) noted w.named
      named = at_next _ noted w.named
          (moved _ noted w.deep deep kinds.ReadEntry noted w.named along.1.1.0
          (quiet kinds.ReadEntry noted search.sound _ w.deep deep refl))

      -- the other Grant is that of the page
      arrived : Stands (suc (suc (suc (suc moves)))) noted w.arrived
      arrived = at_next _ noted w.arrived
          (moved _ noted w.named named kinds.Grant noted w.arrived along.1.1.1.0
          (subst (λ (b : Bool). Notes seat kinds.Grant b false false noted noted) (sym once.once)
          (quiet kinds.Grant noted search.sound _ w.named named refl)))

      alone : Stands (suc (suc (suc (suc (suc moves))))) noted w.alone
      alone = at_next _ noted w.alone
          (moved _ noted w.arrived arrived kinds.Release noted w.alone along.1.1.1.1.0
          (quiet kinds.Release noted search.sound _ w.arrived arrived refl))

      -- and by the Look a page has answered
      looked : Stands (suc (suc (suc (suc (suc (suc moves)))))) ended w.looked
      looked = at_next _ ended w.looked
          (moved _ noted w.alone alone kinds.Look ended w.looked along.1.1.1.1.1.0
          (subst (λ (b : Bool). Notes seat kinds.Look false false b noted ended) (sym (ap not answered)) search.ends))

    -- a question is asked
    asked : (t : At CallView) →
        AsksAtOnce (MakesCall (of old.keys) seat old.stopped) is_searching seat s.machine t.machine s.pool s.locks →
        HasLed (suc (suc (suc (suc (suc (suc (suc moves))))))) ended (at t.machine s.pool s.locks)
    asked t run =
        let w = run.way in
        let led = looked w (stop kinds.Release (at t.machine s.pool s.locks) ∷ []) run.counted run.moves
        run.answered in
        moved _ ended w.looked led kinds.Release ended (at t.machine s.pool s.locks) run.moves.1.1.1.1.1.1.0
        (quiet kinds.Release ended still _ w.looked led refl)

    -- a record is written
    wrote : (t : At CallView) →
        WritesAtOnce (MakesCall (of old.keys) seat old.stopped) is_searching seat s.machine t.machine s.pool t.pool
        s.locks → HasLed (suc (suc (suc (suc (suc (suc (suc (suc moves)))))))) ended (at t.machine t.pool s.locks)
    wrote t run =
        let w = run.way in
        let led = looked w
        (stop kinds.WriteRecord run.written ∷ stop kinds.Release (at t.machine t.pool s.locks) ∷ []) run.counted
        run.moves run.answered in
        let written = at_next _ ended run.written
        (moved _ ended w.looked led kinds.WriteRecord ended run.written run.moves.1.1.1.1.1.1.0
        (quiet kinds.WriteRecord ended still _ w.looked led refl)) in
        moved _ ended run.written written kinds.Release ended (at t.machine t.pool s.locks)
        run.moves.1.1.1.1.1.1.1.0 (quiet kinds.Release ended still _ run.written written refl)

  -- ---- errands

  -- all counts are sound, and from them a search that is answered leaves the same
  record MaySearch (n : CountsState) : Type 0 where
    pub fine : AreSoundCounts n
    pub search : NotesSearch seat n ended

  may_again : MaySearch ended
  may_again = record {
    fine = still;
    search = search_again seat old.searches ended still (is_counted old whole seat is) notes;
  }

  may_by : (errand : Errand) (n : CountsState) → MaySearch n → MaySearch (count_by ended errand n)
  may_by Asks n may = may_again
  may_by Writes n may = may_again
  may_by Decides n may = may
  may_by GivesBack n may = may

  may_search : (errands : List Errand) → MaySearch (counts_of old.searches ended errands)
  may_search [] = record { fine = calm; search = notes }
  may_search (errand ∷ before) = may_by errand (counts_of old.searches ended before) (may_search before)

  abbrev MakesIt : Errand → (s t : At CallView) → Type 0
  MakesIt errand s t = MakesErrand (MakesCall (of old.keys) seat old.stopped) is_searching seat errand s t

  placed : (moves : ℕ) (n : CountsState) (t : At CallView) (pool : PoolState) (locks : Table) → t.pool ≡ pool →
      t.locks ≡ locks → HasLed moves n (at t.machine pool locks) → HasLed moves n t
  placed moves n t pool locks pools tables led =
      subst (λ (p : PoolState). HasLed moves n (at t.machine p t.locks)) (sym pools)
      (subst (λ (l : Table). HasLed moves n (at t.machine pool l)) (sym tables) led)

  made_by : (errand : Errand) (moves : ℕ) (n : CountsState) (s t : At CallView) → Stands moves n s → MaySearch n →
      MakesIt errand s t → HasLed (moves + moves_of errand) (count_by ended errand n) t
  made_by Asks moves n s t stands may makes =
      subst (λ (k : ℕ). HasLed k ended t) many
      (placed (suc (suc (suc (suc (suc (suc (suc moves))))))) ended t s.pool s.locks makes.0 makes.1.0
      (asked moves n s stands may.search t makes.1.1))
    where
      many : suc (suc (suc (suc (suc (suc (suc moves)))))) ≡ moves + 7
      many = omega arith
  made_by Writes moves n s t stands may makes =
      subst (λ (k : ℕ). HasLed k ended t) many
      (placed (suc (suc (suc (suc (suc (suc (suc (suc moves)))))))) ended t t.pool s.locks refl makes.0
      (wrote moves n s stands may.search t makes.1))
    where
      many : suc (suc (suc (suc (suc (suc (suc (suc moves))))))) ≡ moves + 8
      many = omega arith
  made_by Decides moves n s t stands may makes =
      subst (λ (k : ℕ). HasLed k n t) many
      (moved moves n s stands kinds.Decide n t makes
      (none_noted seat kinds.Decide false false false n may.fine stands.counted refl))
    where
      many : suc moves ≡ moves + 1
      many = omega arith
  made_by GivesBack moves n s t stands may makes =
      subst (λ (k : ℕ). HasLed k n t) many
      (moved moves n s stands kinds.Release n t makes
      (none_noted seat kinds.Release false false false n may.fine stands.counted refl))
    where
      many : suc moves ≡ moves + 1
      many = omega arith

  abbrev Runs : List Errand → At CallView → Type 0
  Runs errands s = RunsErrands (MakesCall (of old.keys) seat old.stopped) is_searching seat errands
      (at a.machine old.pool old.locks) s

  -- where they end a step goes on
  pub stands_behind : (errands : List Errand) (s : At CallView) → Runs errands s →
      Stands (all_moves errands) (counts_of old.searches ended errands) s
  stands_behind [] s same =
      subst (λ (x : At CallView). Stands 0 old.searches x) (sym same) at_first
  stands_behind (errand ∷ before) s runs =
      at_next (all_moves before + moves_of errand) (count_by ended errand (counts_of old.searches ended before)) s
      (made_by errand (all_moves before) (counts_of old.searches ended before) runs.before s
      (stands_behind before runs.before runs.stands) (may_search before) runs.makes)

  -- there the kernel is this one, where there are any
  pub led_by : (errand : Errand) (before : List Errand) (s : At CallView) → Runs (errand ∷ before) s →
      HasLed (all_moves (errand ∷ before)) (counts_of old.searches ended (errand ∷ before)) s
  led_by errand before s runs =
      made_by errand (all_moves before) (counts_of old.searches ended before) runs.before s
      (stands_behind before runs.before runs.stands) (may_search before) runs.makes
