-- What a step of a call leaves at its seat, in the locks and in the journal.
use Rattle.std.proofs.Common.{◌≡◌, ◌≢◌, ◌↔◌, refl, sym, ap, ◌∙◌, subst, ℕ, ◌+◌, ◌≤◌, Bool, true, false, true≢false, IsSome, List, [], ◌∷◌, ◌++◌, Option, Some, None, drop, length, append-nil, length-append, arith}
use Rattle.file_pages.specs.declared.fault.FileFault.{FileFault}
use Rattle.page_locks.proofs.ChangeLemmas.{with_row-own}
use Rattle.queue_model.specs.declared.entry.Entry.TheVariants.{Decided}
use Rattle.step_rules.specs.declared.kind.Kind.TheVariants.{Decide}
use Rattle.step_rules.specs.declared.progress.Progress.TheVariants as progress
use Rattle.xsi_calls.proofs.RowLemmas.{over_holds_nothing, new_holds_nothing}
use Rattle.xsi_calls.specs.CallSteps.{KeepsCall}
use Rattle.xsi_calls.specs.Machine.{IsNew, answer_by, conclusion_at}
use Rattle.xsi_calls.specs.declared.conclusion.Conclusion.{Conclusion}
use Rattle.xsi_calls.specs.declared.conclusion.Conclusion.TheVariants as conclusions
use Rattle.xsi_calls.specs.Stages.{Stage}
use Rattle.interleaving_core.specs.Words.{Answer, Call, CallView, Caller, Entry, IsOver, IsReady, PoolState, Progress, RecordKey, Roomful, Table, answer_of_call, call_locks, conclusion_of, row_of, spared, with_row}
use Rattle.queue_model.specs.Journal.{part_of}
use Rattle.interleaving_core.specs.Active.{ActiveView, BeginsAgain, IsDrafted, decided_by, draft_by, drafted, entries_by, is_waiting}
use Rattle.interleaving_core.specs.Kernel.{IsCallOf, due_at, locks_of}
use Rattle.interleaving_core.specs.Owing.{answer_told, is_end, lapsed, told}
use Rattle.interleaving_core.specs.Past.{IsOfJournal, KeepsJournal, call_of, entry_of, untold}
use Rattle.interleaving_core.specs.Turn.{IsLeft, IsLeftWhenOver, MakesTurn, StaysIdle, StaysWaiting, told_of, told_when_over}
use Rattle.interleaving_core.specs.Waiting.{stays_waiting}
use Rattle.interleaving_core.specs.declared.active.Draft.{Draft}
use Rattle.interleaving_core.specs.declared.fault.StepFault.TheVariants as faults
use Rattle.interleaving_core.specs.declared.step.Step.{Step}
use Rattle.interleaving_core.specs.declared.step.Step.TheVariants as steps
use Rattle.interleaving_core.proofs.PartLemmas.{AreOf, entries_are_of, part_own}
use Rattle.interleaving_core.proofs.PastLemmas.{again_keeps, part_since, waits_keeps}

-- what a step of a seat does, whether it has a call or not
pub record Does (seat : ℕ) (did : Step) (at left : Option ActiveView) (pool pool' : PoolState) (locks locks' : Table)
    (journal journal' : List Entry) : Type 0 where
  pub ready : IsReady pool → IsReady pool'
  pub honest : pool'.honest ≡ pool.honest
  pub later : pool.faults ≤ pool'.faults
  pub stored : spared pool' ≡ spared pool
  pub pages : length pool'.images ≡ length pool.images
  pub row : row_of locks seat ≡ locks_of at → locks' ≡ with_row locks seat (locks_of left)
  pub caller : (c : Option Caller) → IsCallOf c at → IsCallOf c left
  pub call : IsSome (call_of left) → call_of left ≡ call_of at
  pub idle : (did ≡ steps.Idle) ↔ (at ≡ None)
  pub over : is_end did ≡ true → left ≡ None
  pub goes : is_end did ≡ false → call_of left ≡ call_of at
  pub past : KeepsJournal seat journal at → KeepsJournal seat journal' left
  pub added : List Entry
  pub of_seat : AreOf seat added
  pub grows : journal' ≡ journal ++ added
  pub decides : did ≢ steps.Moved Decide → added ≡ []
  pub due : lapsed did + due_at left + length added ≡ due_at at
  pub owed : untold seat at ++ added ≡ told seat at (answer_told did) ++ untold seat left

-- ---- an answer

pub some_by : (c : Option Conclusion) (bytes : List ℕ) → IsSome (answer_by c bytes) → IsSome c
some_by None bytes some = absurd cc
some_by (Some c) bytes some = refl

-- what a call has come to stays
pub stays_at : (did : Progress FileFault) (m m' : CallView) → KeepsCall did m m' → (c : Option Conclusion) →
    conclusion_of m ≡ c → IsSome c → answer_of_call m' ≡ answer_of_call m
stays_at did m m' keeps None is some = absurd cc
stays_at did m m' keeps (Some c) is some =
    let then : conclusion_of m' ≡ Some c = keeps.stays c is in
    let room = keeps.bytes (subst IsSome (sym then) refl) in
    ap (λ (x : Option Conclusion). answer_by x m'.undecided.questions.room.bytes) (then ∙ sym is)
    ∙ ap (λ (r : Roomful). answer_by (conclusion_of m) r.bytes) room

-- an answer comes at a Decide
comes_at : (did : Progress FileFault) (m m' : CallView) → KeepsCall did m m' → (c c' : Option Conclusion) →
    conclusion_of m ≡ c → conclusion_of m' ≡ c' → answer_of_call m ≡ None → did ≢ progress.Moved Decide →
    answer_of_call m' ≡ None
comes_at did m m' keeps None None is is' none other =
    ap (λ (x : Option Conclusion). answer_by x m'.undecided.questions.room.bytes) is'
comes_at did m m' keeps None (Some c) is is' none other =
    absurd (other (keeps.decides is (subst IsSome (sym is') refl)))
comes_at did m m' keeps (Some c) c' is is' none other = stays_at did m m' keeps (Some c) is refl ∙ none

-- ---- its entry

none_kept : (seat : ℕ) (x : Option Answer) → entries_by seat x None ≡ []
none_kept seat None = refl
none_kept seat (Some x) = refl

pub none_left : (x : Option Answer) → draft_by x None ≡ None
none_left None = refl
none_left (Some x) = refl

joins : (seat : ℕ) (call : Call) (d : Draft) → d.call ≡ call → (x : Option Answer) →
    entries_by seat x (Some d) ≡ entry_of seat (Some call) x
joins seat call d same None = refl
joins seat call d same (Some x) = ap (λ (c : Call). Decided seat c x ∷ []) same

owed_by : (seat : ℕ) (did : Progress FileFault) (m m' : CallView) → KeepsCall did m m' → (draft : Option Draft) →
    IsDrafted m draft →
    entry_of seat (Some m.call) (answer_of_call m) ++ entries_by seat (answer_of_call m') draft
    ≡ entry_of seat (Some m'.call) (answer_of_call m')
owed_by seat did m m' keeps None kept =
    ap (λ (es : List Entry). entry_of seat (Some m.call) (answer_of_call m) ++ es) (none_kept seat (answer_of_call m'))
    ∙ append-nil (entry_of seat (Some m.call) (answer_of_call m))
    ∙ ap (λ (x : Option Answer). entry_of seat (Some m.call) x) (sym (stays_at did m m' keeps (conclusion_of m) refl
    (some_by (conclusion_of m) m.undecided.questions.room.bytes kept)))
    ∙ ap (λ (c : Call). entry_of seat (Some c) (answer_of_call m')) (sym keeps.call)
owed_by seat did m m' keeps (Some d) kept =
    ap (λ (x : Option Answer). entry_of seat (Some m.call) x ++ entries_by seat (answer_of_call m') (Some d))
    kept.unanswered
    ∙ joins seat m'.call d (kept.call ∙ sym keeps.call) (answer_of_call m')

added_by : (seat : ℕ) (did : Progress FileFault) (m m' : CallView) → KeepsCall did m m' → (draft : Option Draft) →
    IsDrafted m draft → did ≢ progress.Moved Decide → entries_by seat (answer_of_call m') draft ≡ []
added_by seat did m m' keeps None kept other = none_kept seat (answer_of_call m')
added_by seat did m m' keeps (Some d) kept other =
    ap (λ (x : Option Answer). entries_by seat x (Some d))
    (comes_at did m m' keeps (conclusion_of m) (conclusion_of m') refl refl kept.unanswered other)

due_by : (seat : ℕ) (x : Option Answer) (draft : Option Draft) →
    drafted (draft_by x draft) + length (entries_by seat x draft) ≡ drafted draft
due_by seat None None = refl
due_by seat None (Some d) = refl
due_by seat (Some x) None = refl
due_by seat (Some x) (Some d) = refl

-- the entries that are due for a call which has come to this answer, or to none yet
abbrev due_of : Option Answer → ℕ
due_of None = 1
due_of (Some x) = 0

none_some : (x : Option Answer) → x ≡ None → IsSome x → ⊥
none_some None none some = cc
none_some (Some x) none some = cc

-- what is kept for its entry is there until it has come to an answer
due_come : (did : Progress FileFault) (m m' : CallView) → KeepsCall did m m' → (draft : Option Draft) →
    IsDrafted m draft → (x : Option Answer) → answer_of_call m' ≡ x → drafted (draft_by x draft) ≡ due_of x
due_come did m m' keeps draft kept (Some x) is = refl
due_come did m m' keeps (Some d) kept None is = refl
due_come did m m' keeps None kept None is =
    absurd (none_some (answer_of_call m) (sym (stays_at did m m' keeps (conclusion_of m) refl
    (some_by (conclusion_of m) m.undecided.questions.room.bytes kept)) ∙ is) kept)

-- ---- what is told

not_idle_at_end : (waits : Bool) (x : Option Answer) → told_when_over waits x ≢ steps.Idle
not_idle_at_end true x is = cc
not_idle_at_end false None is = cc
not_idle_at_end false (Some x) is = cc

not_idle : (did : Progress FileFault) (m : CallView) → told_of did m ≢ steps.Idle
not_idle (progress.Moved kind) m is = cc
not_idle (progress.Blocked other) m is = cc
not_idle (progress.Fault fault) m is = cc
not_idle progress.Ended m is = not_idle_at_end (is_waiting (conclusion_of m)) (answer_of_call m) is

-- a step that decides is told
decide_told : (did : Progress FileFault) (m : CallView) → told_of did m ≢ steps.Moved Decide →
    did ≢ progress.Moved Decide
decide_told did m other is = other (ap (λ (d : Progress FileFault). told_of d m) is)

-- ---- what is left

-- what is so of what is left after a call that has come so far
pub record Leaves (seat : ℕ) (did : Step) (come : ActiveView) (left : Option ActiveView) : Type 0 where
  pub locks : locks_of left ≡ call_locks come.machine
  pub due : lapsed did + due_at left ≡ drafted come.draft
  pub caller : (c : Option Caller) → c ≡ Some come.machine.caller → IsCallOf c left
  pub call : IsSome (call_of left) → call_of left ≡ Some come.machine.call
  pub over : is_end did ≡ true → left ≡ None
  pub goes : is_end did ≡ false → call_of left ≡ Some come.machine.call
  pub past : (journal : List Entry) → IsOfJournal seat journal come → KeepsJournal seat journal left
  pub owed : untold seat (Some come) ≡ entry_of seat (Some come.machine.call) (answer_told did) ++ untold seat left

none_lapsed : (did : Step) → is_end did ≡ false → lapsed did ≡ 0
none_lapsed (steps.Moved kind) on = refl
none_lapsed (steps.Blocked other) on = refl
none_lapsed steps.Waiting on = refl
none_lapsed (steps.Answered answer) on = refl
none_lapsed steps.Idle on = refl
none_lapsed (steps.Fault (faults.File fault)) on = refl
none_lapsed (steps.Fault faults.NoRoom) on = absurd cc

stays_there : (seat : ℕ) (did : Step) (come : ActiveView) (left : Option ActiveView) → left ≡ Some come →
    answer_told did ≡ None → is_end did ≡ false → Leaves seat did come left
stays_there seat did come left is none on = subst (λ (x : Option ActiveView). Leaves seat did come x) (sym is) record {
  locks = refl;
  due = let none_is = none_lapsed did on in omega (arith, none_is);
  caller = λ c same. same;
  call = λ some. refl;
  over = λ ends. absurd (true≢false (sym ends ∙ on));
  goes = λ goes. refl;
  past = λ journal kept. kept;
  owed = sym (ap (λ (x : Option Answer). entry_of seat (Some come.machine.call) x ++ untold seat (Some come)) none);
}

-- what a call came to is no answer, where it waits
pub waits_unanswered : (c : Option Conclusion) (bytes : List ℕ) → is_waiting c ≡ true → answer_by c bytes ≡ None
waits_unanswered None bytes is = absurd cc
waits_unanswered (Some (conclusions.Answers verdict)) bytes is = absurd cc
waits_unanswered (Some conclusions.Waits) bytes is = refl
waits_unanswered (Some conclusions.HasNoRoom) bytes is = absurd cc

pub new_unanswered : (m : CallView) → IsNew m → answer_of_call m ≡ None
new_unanswered m new = ap (λ (x : Stage). answer_by (conclusion_at x) m.undecided.questions.room.bytes) new.stage

again_there : (seat : ℕ) (come again : ActiveView) → IsOver come.machine → BeginsAgain come again →
    answer_of_call come.machine ≡ None → Leaves seat steps.Waiting come (Some again)
again_there seat come again over begins none = record {
  locks = new_holds_nothing again.machine begins.begins.new ∙ sym (over_holds_nothing come.machine over);
  due = let same = ap drafted begins.draft in omega (arith, same);
  caller = λ c same. same ∙ ap (λ (x : Caller). Some x) (sym begins.begins.caller_is);
  call = λ some. ap (λ (x : Call). Some x) begins.begins.call_is;
  over = λ ends. absurd cc;
  goes = λ goes. ap (λ (x : Call). Some x) begins.begins.call_is;
  past = λ journal kept. again_keeps seat journal come again begins none
      (new_unanswered again.machine begins.begins.new) kept;
  owed = ap (entry_of seat (Some come.machine.call)) none
      ∙ sym (ap (entry_of seat (Some again.machine.call)) (new_unanswered again.machine begins.begins.new));
}

gone : (seat : ℕ) (come : ActiveView) → IsOver come.machine → (x : Option Answer) → answer_of_call come.machine ≡ x →
    drafted come.draft ≡ due_of x → Leaves seat (told_when_over false x) come None
gone seat come over None is due = record {
  locks = sym (over_holds_nothing come.machine over);
  due = omega (arith, due);
  caller = λ c same. tt;
  call = λ some. absurd cc;
  over = λ ends. refl;
  goes = λ goes. absurd cc;
  past = λ journal kept. tt;
  owed = ap (entry_of seat (Some come.machine.call)) is;
}
gone seat come over (Some x) is due = record {
  locks = sym (over_holds_nothing come.machine over);
  due = omega (arith, due);
  caller = λ c same. tt;
  call = λ some. absurd cc;
  over = λ ends. refl;
  goes = λ goes. absurd cc;
  past = λ journal kept. tt;
  owed = ap (entry_of seat (Some come.machine.call)) is;
}

over_there : (seat : ℕ) (come : ActiveView) (left : Option ActiveView) → IsOver come.machine → (waits : Bool) →
    is_waiting (conclusion_of come.machine) ≡ waits → drafted come.draft ≡ due_of (answer_of_call come.machine) →
    IsLeftWhenOver waits come left → Leaves seat (told_when_over waits (answer_of_call come.machine)) come left
over_there seat come left over true waits due is =
    subst (λ (x : Option ActiveView). Leaves seat steps.Waiting come x) (sym is.1)
    (again_there seat come is.0 over is.2
    (waits_unanswered (conclusion_of come.machine) come.machine.undecided.questions.room.bytes waits))
over_there seat come left over false waits due is =
    subst (λ (x : Option ActiveView). Leaves seat (told_when_over false (answer_of_call come.machine)) come x) (sym is)
    (gone seat come over (answer_of_call come.machine) refl due)

left_there : (seat : ℕ) (did : Progress FileFault) (m : CallView) (come : ActiveView) (left : Option ActiveView) →
    KeepsCall did m come.machine → drafted come.draft ≡ due_of (answer_of_call come.machine) → IsLeft did come left →
    Leaves seat (told_of did come.machine) come left
left_there seat (progress.Moved kind) m come left keeps due is =
    stays_there seat (steps.Moved kind) come left is refl refl
left_there seat (progress.Blocked other) m come left keeps due is =
    stays_there seat (steps.Blocked other) come left is refl refl
left_there seat (progress.Fault fault) m come left keeps due is =
    stays_there seat (told_of (progress.Fault fault) come.machine) come left is refl refl
left_there seat progress.Ended m come left keeps due is =
    over_there seat come left (keeps.over refl) (is_waiting (conclusion_of come.machine)) refl due is

-- ---- the whole step

-- how long the journal was at its Decide, or is
decided_within : (c : Option Conclusion) (many decided : ℕ) → decided ≤ many → decided_by c many decided ≤ many
decided_within None many decided within = omega arith
decided_within (Some c) many decided within = within

-- what the call that has come so far keeps
come_keeps : (hash : RecordKey → ℕ) (seat : ℕ) (stopped : Bool) (did : Step) (a : ActiveView)
    (left : Option ActiveView) (pool pool' : PoolState) (locks locks' : Table) (journal journal' : List Entry)
    (t : MakesTurn hash seat stopped did a left pool pool' locks locks' journal journal') →
    IsOfJournal seat journal a → IsOfJournal seat journal' t.come
come_keeps hash seat stopped did a left pool pool' locks locks' journal journal' t kept =
    subst (λ (es : List Entry). IsOfJournal seat es t.come) (sym t.journal) record {
      begun =
          let same = t.marked.begun in
          let was = kept.begun in
          omega (arith, same, was, both);
      decided =
          let same = t.marked.decided in
          let within = decided_within (conclusion_of a.machine) (length journal) a.decided kept.decided in
          omega (arith, same, within, both);
      joined = ap (λ (n : ℕ). part_of seat (drop n (journal ++ more))) t.marked.begun
          ∙ part_since seat a.begun journal more kept.begun
          ∙ ap (λ (es : List Entry). es ++ part_of seat more) kept.joined
          ∙ ap (λ (es : List Entry). untold seat (Some a) ++ es) (part_own seat more (entries_are_of seat _ a.draft))
          ∙ owed_by seat t.did a.machine t.come.machine t.makes.aim a.draft t.kept;
      looked = λ since told. absurd (awake_apart t.come.wait since t.marked.awake told);
    }
  where
    more : List Entry
    more = entries_by seat (answer_of_call t.come.machine) a.draft

    both : length (journal ++ more) ≡ length journal + length more
    both = length-append journal more

    awake_apart : (wait : Option ℕ) (since : ℕ) → wait ≡ None → wait ≡ Some since → ⊥
    awake_apart None since none some = cc
    awake_apart (Some n) since none some = cc

pub call_does : (hash : RecordKey → ℕ) (seat : ℕ) (stopped : Bool) (did : Step) (a : ActiveView)
    (left : Option ActiveView) (pool pool' : PoolState) (locks locks' : Table) (journal journal' : List Entry) →
    MakesTurn hash seat stopped did a left pool pool' locks locks' journal journal' →
    Does seat did (Some a) left pool pool' locks locks' journal journal'
call_does hash seat stopped did a left pool pool' locks locks' journal journal' t =
    let keeps = t.makes.aim in
    let x : Option Answer = answer_of_call t.come.machine in
    let leaves : Leaves seat did t.come left =
    subst (λ (d : Step). Leaves seat d t.come left) (sym t.told_is)
    (left_there seat t.did a.machine t.come left keeps (ap drafted t.draft
    ∙ due_come t.did a.machine t.come.machine keeps a.draft t.kept x refl) t.left_is) in
    record {
      ready = λ ready. t.makes.writes.ready;
      honest = t.makes.writes.honest;
      later = t.makes.writes.later;
      stored = t.makes.writes.stored;
      pages = t.makes.writes.as_many;
      row = λ row. t.makes.row ∙ ap (with_row locks seat) (sym leaves.locks);
      caller = λ c same. leaves.caller c (same ∙ ap (λ (y : Caller). Some y) (sym keeps.caller));
      call = λ some. leaves.call some ∙ ap (λ (y : Call). Some y) keeps.call;
      idle = (λ is. absurd (not_idle t.did t.come.machine (sym t.told_is ∙ is)), λ none. absurd cc);
      over = leaves.over;
      goes = λ goes. leaves.goes goes ∙ ap (λ (y : Call). Some y) keeps.call;
      past = λ kept. leaves.past journal' (come_keeps hash seat stopped did a left pool pool' locks locks' journal
          journal' t kept);
      added = entries_by seat x a.draft;
      of_seat = entries_are_of seat x a.draft;
      grows = t.journal;
      decides = λ other. added_by seat t.did a.machine t.come.machine keeps a.draft t.kept
          (decide_told t.did t.come.machine (λ is. other (t.told_is ∙ is)));
      due =
          let left_due = leaves.due in
          let come_due = ap drafted t.draft in
          let all = due_by seat x a.draft in
          omega (arith, left_due, come_due, all);
      owed = owed_by seat t.did a.machine t.come.machine keeps a.draft t.kept ∙ leaves.owed
          ∙ ap (λ (c : Call). entry_of seat (Some c) (answer_told did) ++ untold seat left) keeps.call;
    }

pub idle_does : (seat : ℕ) (did : Step) (left : Option ActiveView) (pool pool' : PoolState) (locks locks' : Table)
    (journal journal' : List Entry) → StaysIdle did left pool pool' locks locks' journal journal' →
    Does seat did None left pool pool' locks locks' journal journal'
idle_does seat did left pool pool' locks locks' journal journal' t = record {
  ready = λ ready. subst IsReady (sym t.same_pool) ready;
  honest = ap (λ (p : PoolState). p.honest) t.same_pool;
  later = let same = ap (λ (p : PoolState). p.faults) t.same_pool in omega (arith, same);
  stored = ap spared t.same_pool;
  pages = ap (λ (p : PoolState). length p.images) t.same_pool;
  row = λ row. t.same_locks ∙ sym (with_row-own locks seat) ∙ ap (with_row locks seat) row
      ∙ ap (λ (x : Option ActiveView). with_row locks seat (locks_of x)) (sym t.left_is);
  caller = λ c same. subst (IsCallOf c) (sym t.left_is) tt;
  call = λ some. ap call_of t.left_is;
  idle = (λ is. refl, λ none. t.told_is);
  over = λ ends. t.left_is;
  goes = λ goes. ap call_of t.left_is;
  past = λ kept. subst (KeepsJournal seat journal') (sym t.left_is) tt;
  added = [];
  of_seat = tt;
  grows = t.same_journal ∙ sym (append-nil journal);
  decides = λ other. refl;
  due = let same = ap due_at t.left_is in let none_is = ap lapsed t.told_is in omega (arith, same, none_is);
  owed = sym (ap (untold seat) t.left_is);
}

pub waits_does : (seat : ℕ) (did : Step) (a : ActiveView) (left : Option ActiveView) (pool pool' : PoolState)
    (locks locks' : Table) (journal journal' : List Entry) → stays_waiting a.wait a.machine.call journal ≡ true →
    StaysWaiting did a left pool pool' locks locks' journal journal' →
    Does seat did (Some a) left pool pool' locks locks' journal journal'
waits_does seat did a left pool pool' locks locks' journal journal' stays t = record {
  ready = λ ready. subst IsReady (sym t.same_pool) ready;
  honest = ap (λ (p : PoolState). p.honest) t.same_pool;
  later = let same = ap (λ (p : PoolState). p.faults) t.same_pool in omega (arith, same);
  stored = ap spared t.same_pool;
  pages = ap (λ (p : PoolState). length p.images) t.same_pool;
  row = λ row. t.same_locks ∙ sym (with_row-own locks seat) ∙ ap (with_row locks seat) row
      ∙ ap (λ (x : Option ActiveView). with_row locks seat (locks_of x)) (sym t.left_is);
  caller = λ c same. subst (IsCallOf c) (sym t.left_is) same;
  call = λ some. ap call_of t.left_is;
  idle = (λ is. absurd (not_idle_at_end true None (sym t.told_is ∙ is)), λ none. absurd cc);
  over = λ ends. absurd (true≢false (sym ends ∙ ap is_end t.told_is));
  goes = λ goes. ap call_of t.left_is;
  past = λ kept. subst (KeepsJournal seat journal') (sym t.left_is)
      (subst (λ (es : List Entry). IsOfJournal seat es (record a { wait = Some (length journal) }))
      (sym t.same_journal) (waits_keeps seat journal a stays kept));
  added = [];
  of_seat = tt;
  grows = t.same_journal ∙ sym (append-nil journal);
  decides = λ other. refl;
  due = let same = ap due_at t.left_is in let none_is = ap lapsed t.told_is in omega (arith, same, none_is);
  owed = append-nil (untold seat (Some a)) ∙ sym (ap (untold seat) t.left_is)
      ∙ sym (ap (λ (d : Step). told seat (Some a) (answer_told d) ++ untold seat left) t.told_is);
}
