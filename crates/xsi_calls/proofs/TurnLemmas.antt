-- A step of a call at which no question is under way: a name is taken or given back.
use Rattle.std.proofs.Common.{ℕ, ◌≡◌, ◌++◌, ◌∷◌, Bool, true, false, not, ◌||◌, ◌&&◌, List, [], Some, None, refl, sym, ap, ◌∙◌, subst, inl, inr, ◌⊎◌, arith}
use Rattle.std.proofs.lemmas.Bool.{true≢false}
use Rattle.std.proofs.lemmas.List.{append_assoc, map-append}
use Rattle.std.proofs.lemmas.List.Elements.{Contains-append_left}
use Rattle.std.specs.List.{Contains}
use Rattle.page_locks.specs.declared.lock.LockName.TheVariants as names
use Rattle.file_pages.specs.declared.fault.FileFault.{FileFault}
use Rattle.step_rules.specs.Turns.{ForLock}
use Rattle.step_rules.specs.declared.kind.Kind.TheVariants as kinds
use Rattle.step_rules.specs.declared.kind.Kind.{Kind}
use Rattle.xsi_calls.specs.declared.turn.NameTurn.{NameTurn}
use Rattle.xsi_calls.proofs.of_call_decisions.NamesLemmas.{take_in_order}
use Rattle.xsi_calls.specs.HeldLaws.{IsNext}
use Rattle.xsi_calls.specs.NameSteps.{GivesBack, MakesNameStep, Takes}
use Rattle.xsi_calls.proofs.OrderLemmas.{begin_are_names}
use Rattle.xsi_calls.proofs.HeldTurnLemmas.{turns_are_right, turns_come_nearer}
use Rattle.xsi_calls.specs.QuestionWords.{RecordKey, PoolState, Table, Lock, row_of, with_row, IsReady, OnlyWrites, Progress, Moved, Blocked, Fault, Ended, Step, is_write, AnyInquiry, KnowsOf, AreNames, names_in, names_for, Begins, name_turn, Take, GiveBack, LockName, Call, Roomful}
use Rattle.xsi_calls.specs.Counting.{finds_behind}
use Rattle.xsi_calls.specs.Questions.{HasBegun, HasKey, Holds, QuestionsView, IsRight, KnowsApart, KnowsItsKey, asks_more, changes, has_asked, is_done, is_ready, turn_of_names}
use Rattle.xsi_calls.specs.QuestionSteps.{MakesQuestions}
use Rattle.xsi_calls.proofs.CountLemmas.{uncounted}
use Rattle.xsi_calls.proofs.QuestionHeldLemmas.{but_the_last}
use Rattle.xsi_calls.proofs.ToldLemmas.{told_begun, told_first}
use Rattle.xsi_calls.specs.ToldNames.{AreTold}
use Rattle.xsi_calls.proofs.KnowLemmas.{near_more}
use Rattle.xsi_calls.proofs.QuestionOwnLemmas.{own_more}

-- nothing was read or written
pub writes_none : (pool : PoolState) → IsReady pool → OnlyWrites true pool pool
writes_none pool ready = record {
  ready = ready;
  honest = refl;
  later = omega arith;
  stored = refl;
  as_many = refl;
  file = λ honest done file. file;
}

pub next_are_names : (call : Call) (i : AnyInquiry) (held : List Lock) (lock : Lock) →
    name_turn held (names_for call i) ≡ Take lock → AreNames (held ++ lock ∷ [])
next_are_names call i held lock turn =
    let next = ((turns_are_right held (names_for call i)).take lock).0 turn in
    begin_are_names (held ++ lock ∷ []) next.0
    (subst AreNames (next.1 ∙ sym (append_assoc held (lock ∷ []) next.0)) (take_in_order call i))

module _ (hash : RecordKey → ℕ) (seat : ℕ) (call : Call) (i : AnyInquiry) (room : Roomful) (searches : ℕ)
    (pool : PoolState) (ready : IsReady pool) (locks : Table) where
  -- where no question is under way
  abbrev pub bare : List Lock → QuestionsView
  bare held = record { inquiry = i; room = room; names = held; question = None; finds = searches }

  -- ---- a name is taken

  -- where it has not asked all and asks nothing more, it is to change the file
  changes_on : (asks does ready : Bool) → (not asks && (not does || ready)) ≡ false → asks ≡ false → does ≡ true
  changes_on asks true ready left none = refl
  changes_on true false ready left none = absurd (true≢false none)
  changes_on false false ready left none = absurd (true≢false left)

  more_names : (held : List Lock) (lock : Lock) (name : LockName) → Contains (names_in held) name →
      Contains (names_in (held ++ lock ∷ [])) name
  more_names held lock name within =
      subst (λ (xs : List LockName). Contains xs name) (sym (map-append (λ (l : Lock). l.name) held (lock ∷ [])))
      (Contains-append_left (names_in held) (lock.name ∷ []) name within)

  more_apart : (held : List Lock) (lock : Lock) → KnowsApart call i room held →
      KnowsApart call i room (held ++ lock ∷ [])
  more_apart held lock (HasBegun knows) = HasBegun knows
  more_apart held lock (Holds own) =
      Holds (own_more call (names_in held) (names_in (held ++ lock ∷ [])) (more_names held lock) own)
  more_apart held lock (HasKey key) = HasKey key

  module _ (held : List Lock) (left : has_asked call (bare held) ≡ false) (row : row_of locks seat ≡ held) where
    abbrev pub goal : List Lock
    goal = names_for call i

    goes_on : is_done call (bare held) ≡ true → ⊥
    goes_on done = true≢false (sym done ∙ left)

    -- ---- a name is taken

    module _ (lock : Lock) (turn : name_turn held goal ≡ Take lock) where
      next : IsNext lock held goal
      next = ((turns_are_right held goal).take lock).0 turn

      begins_next : Begins (held ++ lock ∷ []) goal
      begins_next = (next.0, next.1 ∙ sym (append_assoc held (lock ∷ []) next.0))

      took_it : (kind : Kind) (locks' : Table) → locks' ≡ with_row locks seat (held ++ lock ∷ []) → kind ≡ kinds.Grant →
          MakesNameStep {F = FileFault} seat (Some (ForLock lock.name lock.kind)) (Moved kind) locks locks' →
          MakesQuestions hash seat call (Moved kind) (bare held) (bare (held ++ lock ∷ [])) pool pool locks locks'
      took_it kind locks' is granted step = record {
        writes = writes_none pool ready;
        cause = λ fault is. absurd cc;
        aim = record {
          caller = refl;
          ended = (λ e. absurd cc, λ d. absurd (goes_on d));
          rests = tt;
          most = refl;
          finds = sym (uncounted (Moved kind) (held ++ lock ∷ []) searches
              (next_are_names call i held lock turn).no_file);
        };
        row = is;
        progress = λ s change f.
            let nearer = (turns_come_nearer held goal).take lock turn in
            omega (arith, nearer);
        step = λ s change f fine.
            subst (λ (t : NameTurn). Step {F = FileFault} hash seat (turn_of_names t) (Moved kind) [] pool pool locks
            locks' change) (sym turn) (step hash pool change None f.sees);
        means = λ s change f fine. record {
          right = record {
            question = tt;
            begins = λ none does. begins_next;
            grows = λ asks. inl begins_next;
            names = record { come = i; begins = begins_next };
            told = told_begun call i (held ++ lock ∷ []) begins_next;
            apart = more_apart held lock f.right.apart;
            few = f.right.few;
          };
          knows = near_more call (asks_more call i) held (held ++ lock ∷ []) (KnowsOf call i room) s
              (λ none. more_names held lock names.Counter) f.knows;
          reads = ap (λ (k : Kind). is_write {F = FileFault} (Moved k)) granted;
        };
      }

      kept_out : (other : ℕ) (locks' : Table) → locks' ≡ with_row locks seat held →
          MakesNameStep {F = FileFault} seat (Some (ForLock lock.name lock.kind)) (Blocked other) locks locks' →
          MakesQuestions hash seat call (Blocked other) (bare held) (bare held) pool pool locks locks'
      kept_out other locks' is step = record {
        writes = writes_none pool ready;
        cause = λ fault is. absurd cc;
        aim = record {
          caller = refl;
          ended = (λ e. absurd cc, λ d. absurd (goes_on d));
          rests = refl;
          most = refl;
          finds = refl;
        };
        row = is;
        progress = λ s change f. tt;
        step = λ s change f fine.
            subst (λ (t : NameTurn). Step {F = FileFault} hash seat (turn_of_names t) (Blocked other) [] pool pool locks
            locks' change) (sym turn) (step hash pool change None f.sees);
        means = λ s change f fine. record { right = f.right; knows = f.knows; reads = refl };
      }

      pub took : (did : Progress FileFault) (held' : List Lock) (locks' : Table) →
          Takes did seat lock locks held held' → locks' ≡ with_row locks seat held' →
          MakesNameStep seat (Some (ForLock lock.name lock.kind)) did locks locks' →
          MakesQuestions hash seat call did (bare held) (bare held') pool pool locks locks'
      took (Moved kind) held' locks' takes is step =
          subst (λ (h : List Lock). MakesQuestions hash seat call (Moved kind) (bare held) (bare h) pool pool locks
          locks') (sym takes.1) (took_it kind locks' (is ∙ ap (with_row locks seat) takes.1) takes.0 step)
      took (Blocked other) held' locks' takes is step =
          subst (λ (h : List Lock). MakesQuestions hash seat call (Blocked other) (bare held) (bare h) pool pool locks
          locks') (sym takes.1) (kept_out other locks' (is ∙ ap (with_row locks seat) takes.1) step)
      took (Fault fault) held' locks' takes is step = absurd takes
      took Ended held' locks' takes is step = absurd takes

    -- ---- a name is given back

    module _ (turn : name_turn held goal ≡ GiveBack) where
      begins_not : Begins held goal → ⊥
      begins_not = (turns_are_right held goal).give_back.0 turn

      -- then it asks something
      asks_on : IsRight hash call (bare held) → asks_more call i ≡ false → ⊥
      asks_on right none = begins_not (right.begins none (changes_on (asks_more call i) (changes call i)
          (is_ready (name_turn held goal)) left none))

      -- so it is a Remove between its phases
      between : IsRight hash call (bare held) → KnowsItsKey call i
      between right = by (asks_more call i) refl
        where
          has_key : Begins held goal ⊎ KnowsItsKey call i → KnowsItsKey call i
          has_key (inl begins) = absurd (begins_not begins)
          has_key (inr key) = key

          by : (b : Bool) → asks_more call i ≡ b → KnowsItsKey call i
          by true asks = has_key (right.grows asks)
          by false none = absurd (asks_on right none)

      pub gave : (did : Progress FileFault) (held' : List Lock) (locks' : Table) → GivesBack did held held' →
          locks' ≡ with_row locks seat held' → MakesNameStep seat None did locks locks' →
          MakesQuestions hash seat call did (bare held) (bare held') pool pool locks locks'
      gave (Moved kind) held' locks' gives is step = record {
        writes = writes_none pool ready;
        cause = λ fault is. absurd cc;
        aim = record {
          caller = refl;
          ended = (λ e. absurd cc, λ d. absurd (goes_on d));
          rests = tt;
          most = refl;
          finds = sym (ap (λ (k : Kind). finds_behind {F = FileFault} (Moved k) held' searches) gives.0);
        };
        row = is;
        progress = λ s change f.
            let nearer = (turns_come_nearer held goal).give_back held' gives.1.0 gives.1.1 turn in
            omega (arith, nearer);
        step = λ s change f fine.
            subst (λ (t : NameTurn). Step {F = FileFault} hash seat (turn_of_names t) (Moved kind) [] pool pool locks
            locks' change) (sym turn) (step hash pool change None f.sees);
        means = λ s change f fine. record {
          right = record {
            question = tt;
            begins = λ none does. absurd (asks_on f.right none);
            grows = λ asks. inr (between f.right);
            names = but_the_last call held held' gives.1.0 gives.1.1 f.right.names;
            told = told_first call i held' (gives.1.0 ∷ []) (subst (AreTold call i) gives.1.1 f.right.told);
            apart = HasKey (between f.right);
            few = f.right.few;
          };
          knows = near_more call (asks_more call i) held held' (KnowsOf call i room) s
              (λ none has. absurd (asks_on f.right none)) f.knows;
          reads = ap (λ (k : Kind). is_write {F = FileFault} (Moved k)) gives.0;
        };
      }
      gave (Blocked other) held' locks' gives is step = absurd gives
      gave (Fault fault) held' locks' gives is step = absurd gives
      gave Ended held' locks' gives is step =
          absurd (begins_not (goal, sym (ap (λ (xs : List Lock). xs ++ goal) gives.0)))
