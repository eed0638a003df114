-- A step of the question under way is one of the call.
use Rattle.std.proofs.Common.{ℕ, ◌≡◌, ◌<◌, ◌≤◌, ◌+◌, ◌*◌, Bool, true, false, List, Option, Some, None, IfSome, if◌then◌else◌, refl, sym, ap, ◌∙◌, subst, inl, inr, ◌⊎◌, arith}
use Rattle.std.proofs.lemmas.Bool.{true≢false}
use Rattle.file_pages.specs.declared.fault.FileFault.{FileFault}
use Rattle.file_pages.specs.declared.fault.FileFault.TheVariants.{Failed}
use Rattle.step_rules.specs.Known.{AllKnown}
use Rattle.step_rules.specs.Searching.{WalksTo}
use Rattle.step_rules.specs.Turns.{Ask}
use Rattle.step_rules.specs.declared.kind.Kind.{Kind}
use Rattle.step_rules.specs.declared.kind.Kind.TheVariants as kinds
use Rattle.page_locks.proofs.TableLemmas.{row_of-same}
use Rattle.call_writes.specs.record_file.AccessSteps.{Faces as FacesAccess, MakesAccess, Rests as RestsAccess}
use Rattle.call_writes.specs.record_file.Accesses.{IsOfKind}
use Rattle.xsi_inquiry.specs.Telling.{most_asked}
use Rattle.call_writes.proofs.of_xsi_remove.FreshLemmas.{failed_cause}
use Rattle.xsi_calls.proofs.of_call_decisions.NamesLemmas.{take_in_order}
use Rattle.xsi_calls.proofs.HeldTurnLemmas.{are_few_turns}
use Rattle.xsi_calls.specs.declared.question.Question.{Question}
use Rattle.xsi_calls.specs.QuestionWords.{RecordKey, PoolState, Table, Lock, Change, Store, row_of, with_row, IsSeat, store_of, Progress, Moved, Blocked, Fault, Ended, Look, World, is_fault, Step, world, NearsOrSpares, HasEnded, Record, ToFind, StandsAt, AccessView, Serves, access_answer, access_facts, access_key, access_left, access_locks, access_pseudokey, access_turn, has_set_out, AnyInquiry, caller_of, left_of, AreNames, names_in, names_for, names_left, MAX_NAMES, Begins, Call, State, Roomful}
use Rattle.xsi_calls.specs.Answering.{MayRead}
use Rattle.xsi_calls.specs.ToldNames.{AreTold}
use Rattle.xsi_calls.specs.Counting.{enters_directory, finds_behind}
use Rattle.xsi_calls.specs.Questions.{FIND_STEPS, ROUND_STEPS, IsAsked, IsRightQuestion, IsUnderWay, KnowsApart, KnowsItsKey, KnowsNear, QuestionsView, asks_more, changes, facts_of, locks_behind, questions_left, questions_locks, untold}
use Rattle.xsi_calls.specs.QuestionSteps.{Closes, Faces, IsOver, Learns, MakesQuestions, Rests}
use Rattle.call_writes.proofs.of_record_file.OperationLemmas.{ended_free, owns_found}
use Rattle.xsi_calls.proofs.CountLemmas.{SetsOut, enters_first, few_on, granted_of, moved_or_same, none_more, one_more, told_none, untold_of}
use Rattle.xsi_calls.proofs.FindLemmas.{reads_only}

abbrev pub round_of : Bool → ℕ
round_of told = if told then ROUND_STEPS else 0

pub few_of : (b : Bool) → (if b then FIND_STEPS else 0) ≤ FIND_STEPS
few_of true = omega arith
few_of false = omega arith

module _ (hash : RecordKey → ℕ) (seat : ℕ) (call : Call) (i : AnyInquiry) (room : Roomful) (held : List Lock)
    (searches : ℕ) (names : AreNames held) (q : Question) (under : IsUnderWay q.access) (did : Progress FileFault)
    (a' : AccessView) (pool pool' : PoolState) (locks locks' : Table)
    (row : row_of locks seat ≡ access_locks q.access held)
    (makes : MakesAccess hash seat did q.access a' pool pool' locks locks') where
  abbrev pub view_of : AnyInquiry → Roomful → Option Question → QuestionsView
  view_of j r o = record { inquiry = j; room = r; names = held; question = o; finds = searches }

  abbrev pub old : QuestionsView
  old = view_of i room (Some q)

  abbrev pub key : RecordKey
  key = access_key q.access

  kind_on : IsOfKind (ToFind key) a'.operation
  kind_on = (makes.aim.serves (ToFind key) under.finds).kind

  module _ (s : State) (change : Change) (f : Faces hash seat call s old pool locks change) where
    pub faces : (found : Option Record) → StandsAt (store_of pool.images) key found →
        FacesAccess hash seat (ToFind key) found q.access pool locks change
    faces found stands = record {
      serves = under.finds;
      keyed = f.right.question.keyed;
      sees = f.sees;
      before = held;
      bare = names.no_file;
      owns = owns_found key held q.access.operation under.finds.kind;
      row = row;
      stands = stands;
      allows = tt;
    }

  -- what the inquiry has come to after the step, in which it was told an answer, or not
  pub record Comes (s : State) (j : AnyInquiry) (r : Roomful) (told : Bool) : Type 0 where
    pub begins : asks_more call j ≡ false → changes call j ≡ true → Begins held (names_for call j)
    pub grows : asks_more call j ≡ true → Begins held (names_for call j) ⊎ KnowsItsKey call j
    pub named : AreTold call j held
    pub apart : KnowsApart call j r held
    pub knows : KnowsNear call (view_of j r None) s
    pub asked : told ≡ false → IsAsked call (view_of j r None) a'
    -- fewer questions are left where one was told
    pub left : ((told ≡ q.told) × (left_of call j ≡ left_of call i))
        ⊎ ((q.told ≡ false) × (told ≡ true) × (left_of call j < left_of call i))

  module _ (j : AnyInquiry) (r : Roomful) (q' : Question) (o : Option Question) (access : q'.access ≡ a')
      (closes : Closes q' o) (caller : caller_of j ≡ caller_of i) (most : r.most ≡ room.most)
      (found_at : (s : State) (change : Change) → Faces hash seat call s old pool locks change →
      (found : Option Record) × StandsAt (store_of pool.images) key found)
      (rests : (did ≡ Moved Look → ⊥) → (q'.told ≡ q.told) × (j ≡ i) × (r ≡ room))
      (comes : (s : State) (change : Change) → Faces hash seat call s old pool locks change → is_fault did ≡ false →
      Comes s j r q'.told) (more : ℕ) where
    abbrev new : QuestionsView
    new = record { inquiry = j; room = r; names = held; question = o; finds = more }

    over : IsOver q'.access → HasEnded a'.operation
    over is = subst (λ (a : AccessView). HasEnded a.operation) access is.0

    same_locks : access_locks a' held ≡ locks_behind o held
    same_locks = by closes
      where
        by : Closes q' o → access_locks a' held ≡ locks_behind o held
        by (inl is) = ended_free a'.operation held (over is.0)
            ∙ sym (ap (λ (x : Option Question). locks_behind x held) is.1)
        by (inr is) = ap (λ (a : AccessView). access_locks a held) (sym access)
            ∙ sym (ap (λ (x : Option Question). locks_behind x held) is.1)

    knows_facts : (w : World) → AllKnown seat w (access_facts a') → AllKnown seat w (facts_of o)
    knows_facts w known = by closes
      where
        by : Closes q' o → AllKnown seat w (facts_of o)
        by (inl is) = subst (λ (x : Option Question). AllKnown seat w (facts_of x)) (sym is.1) tt
        by (inr is) = subst (λ (x : Option Question). AllKnown seat w (facts_of x)) (sym is.1)
            (subst (λ (a : AccessView). AllKnown seat w (access_facts a)) (sym access) known)

    walks_facts : (ask : Option Ask) (w w' : World) → WalksTo seat ask did w w' (access_facts a') →
        WalksTo seat ask did w w' (facts_of o)
    walks_facts ask w w' led = by closes
      where
        by : Closes q' o → WalksTo seat ask did w w' (facts_of o)
        by (inl is) = subst (λ (x : Option Question). WalksTo seat ask did w w' (facts_of x)) (sym is.1) tt
        by (inr is) = subst (λ (x : Option Question). WalksTo seat ask did w w' (facts_of x)) (sym is.1)
            (subst (λ (a : AccessView). WalksTo seat ask did w w' (access_facts a)) (sym access) led)

    -- ---- where it did not move

    unmoved : a' ≡ q.access → (did ≡ Moved Look → ⊥) → more ≡ searches → new ≡ old
    unmoved same still counted =
        let kept = rests still in
        let told : q' ≡ q =
        (λ n. record { access = (access ∙ same) n; told = kept.0 n }) in
        by told kept.1 kept.2 closes
      where
        by : q' ≡ q → j ≡ i → r ≡ room → Closes q' o → new ≡ old
        by told inquiry rooms (inl is) =
            absurd (under.goes_on (subst (λ (a : AccessView). HasEnded a.operation) (access ∙ same) is.0.0))
        by told inquiry rooms (inr is) = λ n.
            record {
              inquiry = inquiry n;
              room = rooms n;
              names = held;
              question = (is.1 ∙ ap Some told) n;
              finds = counted n;
            }

    -- the searches behind the step
    abbrev IsCounted : Type 0
    IsCounted = more ≡ finds_behind did (row_of locks' seat) searches

    counted_by : IsCounted → (d : Progress FileFault) → did ≡ d → more ≡ finds_behind d (row_of locks' seat) searches
    counted_by counts d is = counts ∙ ap (λ (x : Progress FileFault). finds_behind x (row_of locks' seat) searches) is

    rests_by : IsCounted → (d : Progress FileFault) → did ≡ d → Rests d old new
    rests_by counts (Moved kind) is = tt
    rests_by counts (Blocked other) is =
        unmoved (subst (λ (d : Progress FileFault). RestsAccess d q.access a') is
        makes.aim.rests) (λ look. absurd cc) (counted_by counts (Blocked other) is)
    rests_by counts (Fault fault) is = tt
    rests_by counts Ended is =
        unmoved (subst (λ (d : Progress FileFault). RestsAccess d q.access a') is
        makes.aim.rests) (λ look. absurd cc) (counted_by counts Ended is)

    module _ (s : State) (change : Change) (f : Faces hash seat call s old pool locks change) where
      -- ---- it comes nearer its end

      few_names : names_left held (names_for call j) ≤ 2 * MAX_NAMES
      few_names = are_few_turns held (names_for call j) names (take_in_order call j)

      is_told : Comes s j r q'.told → IsOver q'.access → q'.told ≡ true
      is_told come is = by q'.told refl
        where
          by : (b : Bool) → q'.told ≡ b → b ≡ true
          by true told = refl
          by false untold =
              absurd (is.1 key (subst (λ (a : AccessView). Serves (ToFind key) a) (sym access)
              (makes.aim.serves (ToFind key) under.finds))
              (ap access_answer access ∙ (come.asked untold).unanswered))

      nearer : Comes s j r q'.told →
          access_left a' (store_of pool'.images) < access_left q.access (store_of pool.images) →
          questions_left call new (store_of pool'.images) < questions_left call old (store_of pool.images)
      nearer come less = by closes come.left
        where
          after : Store
          after = store_of pool'.images

          same_access : access_left q'.access after ≡ access_left a' after
          same_access = ap (λ (a : AccessView). access_left a after) access

          by : Closes q' o → ((q'.told ≡ q.told) × (left_of call j ≡ left_of call i))
              ⊎ ((q.told ≡ false) × (q'.told ≡ true) × (left_of call j < left_of call i)) →
              questions_left call new after < questions_left call old (store_of pool.images)
          by (inr is) (inl same) =
              let rounds : round_of q'.told ≡ round_of q.told = ap round_of same.0 in
              let lefts : left_of call j ≡ left_of call i = same.1 in
              rw is.1 (omega (arith, less, same_access, rounds, lefts))
          by (inr is) (inr heard) =
              let was : round_of q.told ≡ 0 = ap round_of heard.0 in
              let now : round_of q'.told ≡ ROUND_STEPS = ap round_of heard.1 in
              let fewer = heard.2 in
              rw is.1 (omega (arith, less, same_access, was, now, fewer))
          by (inl is) (inl same) =
              let told : round_of q.told ≡ ROUND_STEPS = ap round_of (sym same.0 ∙ is_told come is.0) in
              let lefts : left_of call j ≡ left_of call i = same.1 in
              let few = few_names in
              let asks = few_of (asks_more call j) in
              rw is.1 (omega (arith, less, told, lefts, few, asks))
          by (inl is) (inr heard) =
              let was : round_of q.told ≡ 0 = ap round_of heard.0 in
              let fewer = heard.2 in
              let few = few_names in
              let asks = few_of (asks_more call j) in
              rw is.1 (omega (arith, less, was, fewer, few, asks))

      progresses : (d : Progress FileFault) → did ≡ d →
          NearsOrSpares d (questions_left call old (store_of pool.images)) (questions_left call new
          (store_of pool'.images)) pool pool'
      progresses (Moved kind) is =
          let at = found_at s change f in
          nearer (comes s change f (ap is_fault is)) (subst (λ (d : Progress FileFault). NearsOrSpares d
          (access_left q.access (store_of pool.images)) (access_left a' (store_of pool'.images)) pool pool') is
          (makes.progress (ToFind key) at.0 change (faces s change f at.0 at.1)))
      progresses (Blocked other) is = tt
      progresses (Fault fault) is =
          let at = found_at s change f in
          subst (λ (d : Progress FileFault). NearsOrSpares d (access_left q.access (store_of pool.images))
          (access_left a' (store_of pool'.images)) pool pool') is
          (makes.progress (ToFind key) at.0 change (faces s change f at.0 at.1))
      progresses Ended is = tt

      -- ---- it is a step, and what it means

      module _ (fine : is_fault did ≡ false) where
        stepped : Step hash seat (access_turn q.access (store_of pool.images)) did (access_facts a') pool pool' locks
            locks' change
        stepped =
            let at = found_at s change f in
            makes.step (ToFind key) at.0 change (faces s change f at.0 at.1) fine

        pub steps : Step hash seat (access_turn q.access (store_of pool.images)) did (facts_of o) pool pool' locks
            locks'
            change
        steps = record {
          after = stepped.after;
          file = stepped.file;
          others = stepped.others;
          known = knows_facts _ stepped.known;
          does = stepped.does;
          led = walks_facts (access_turn q.access (store_of pool.images)).ask _ _ stepped.led;
        }

        -- behind a move its search has begun
        out : (kind : Kind) → did ≡ Moved kind → has_set_out a' ≡ true
        out = let at = found_at s change f in
            (makes.answer (ToFind key) at.0 change (faces s change f at.0 at.1) fine).sets_out

        set_out_on : (has_set_out a' ≡ true) ⊎ ((did ≡ Moved Look → ⊥) × (a' ≡ q.access))
        set_out_on = moved_or_same did q.access a' fine makes.aim.rests out

        same_out : has_set_out q'.access ≡ has_set_out a'
        same_out = ap has_set_out access

        still_out : has_set_out q.access ≡ true → has_set_out q'.access ≡ true
        still_out was = elim set_out_on [
          | inl moved ↦ same_out ∙ moved
          | inr rest ↦ same_out ∙ ap has_set_out rest.1 ∙ was
        ]

        told_first : has_set_out q'.access ≡ false → q'.told ≡ false
        told_first unset = elim set_out_on [
          | inl moved ↦ absurd (true≢false (sym moved ∙ sym same_out ∙ unset))
          | inr rest ↦ (rests rest.0).0
              ∙ f.right.question.first (sym (ap has_set_out rest.1) ∙ sym same_out ∙ unset)
        ]

        -- by a step that is granted the directory its search has begun
        begins : enters_directory did (row_of locks' seat) ≡ true → has_set_out q'.access ≡ true
        begins enters = same_out ∙ out kinds.Grant (granted_of did (row_of locks' seat) enters)

        right_question : IsRightQuestion hash call new q'
        right_question =
            let was = f.right.question in
            record {
              keyed = subst (λ (a : AccessView). hash (access_key a) ≡
                  access_pseudokey a) (sym access)
                  (ap hash makes.aim.key ∙ was.keyed ∙ sym makes.aim.pseudokey);
              may_read = subst (λ (k : RecordKey). MayRead
                  (names_in held) k)
                  (sym (ap access_key access ∙ makes.aim.key)) was.may_read;
              asked = λ untold. subst (IsAsked call new) (sym access)
                  (let is = (comes s change f fine).asked untold in
                  record {
                    wanted = is.wanted;
                    asked = is.asked;
                    key = is.key;
                    names = is.names;
                    left = is.left;
                    unanswered = is.unanswered;
                  });
              first = told_first;
            }

        -- its search begins by the step, or no search is counted
        sets_out : IsCounted → SetsOut (has_set_out q.access) (has_set_out q'.access) q.told searches more
        sets_out counts = by (enters_directory did (row_of locks' seat)) refl
          where
            by : (b : Bool) → enters_directory did (row_of locks' seat) ≡ b →
                SetsOut (has_set_out q.access) (has_set_out q'.access) q.told searches more
            by false enters = inl (counts ∙ none_more did (row_of locks' seat) searches enters, still_out)
            by true enters =
                let unset = enters_first hash seat did key q.access (store_of pool.images)
                (world pool.images locks change) (world pool'.images locks' stepped.after) under.finds.kind
                stepped.does enters in
                inr (
                  subst (λ n. n ≤ searches + 1) (sym counts) (one_more did (row_of locks' seat) searches),
                  unset,
                  begins enters,
                  f.right.question.first unset,
                )

        few_searches : IsCounted → more + left_of call j ≤ most_asked call + untold o
        few_searches counts = by closes
          where
            few : more + left_of call j ≤ most_asked call + untold_of (has_set_out q'.access) q'.told
            few = few_on (has_set_out q.access) (has_set_out q'.access) q.told q'.told searches more (left_of call i)
                (left_of call j) (most_asked call) f.right.few (sets_out counts) (comes s change f fine).left

            by : Closes q' o → more + left_of call j ≤ most_asked call + untold o
            by (inr is) = rw is.1 few
            by (inl is) =
                let none = told_none (has_set_out q'.access) q'.told (is_told (comes s change f fine) is.0) in
                let less = few in
                rw is.1 (omega (arith, less, none))

        pub means : IsCounted → Learns hash call s did new
        means counts = record {
          right = record {
            question = by closes;
            begins = (comes s change f fine).begins;
            grows = (comes s change f fine).grows;
            names = f.right.names;
            told = (comes s change f fine).named;
            apart = (comes s change f fine).apart;
            few = few_searches counts;
          };
          knows = (comes s change f fine).knows;
          reads = reads_only hash seat did (world pool.images locks change)
              (world pool'.images locks' stepped.after) f.sees.sound q.access under.finds.kind stepped.does;
        }
          where
            by : Closes q' o → IfSome o (IsRightQuestion hash call new)
            by (inl is) = subst (λ (x : Option Question). IfSome x (IsRightQuestion hash call new)) (sym is.1) tt
            by (inr is) =
                subst (λ (x : Option Question). IfSome x (IsRightQuestion hash call new)) (sym is.1) right_question

    -- the inquiry took what it was told
    pub goes_on : IsSeat locks seat → IsCounted → MakesQuestions hash seat call did old new pool pool' locks locks'
    goes_on seated counts = record {
      writes = makes.writes;
      cause = makes.cause;
      aim = record {
        caller = caller;
        ended = (λ e. absurd (under.goes_on (makes.aim.ended.0 e)), λ d. absurd (true≢false (sym d)));
        rests = rests_by counts did refl;
        most = most;
        finds = counts ∙ ap (λ (ls : List Lock). finds_behind did ls searches) row_behind;
      };
      row = row_new;
      progress = λ s change f. progresses s change f did refl;
      step = λ s change f fine. steps s change f fine;
      means = λ s change f fine. means s change f fine counts;
    }
      where
        row_new : locks' ≡ with_row locks seat (questions_locks new)
        row_new = makes.row held names.no_file row ∙ ap (with_row locks seat) same_locks

        row_behind : row_of locks' seat ≡ questions_locks new
        row_behind = ap (λ (t : Table). row_of t seat) row_new ∙ row_of-same locks seat (questions_locks new) seated

    -- the inquiry was told what no system has, which no file tells that agrees with one
    pub fails : more ≡ searches → ((s : State) (change : Change) → Faces hash seat call s old pool locks change → ⊥) →
        MakesQuestions hash seat call (Fault Failed) old new pool pool' locks locks'
    fails uncounted never = record {
      writes = record {
        ready = makes.writes.ready;
        honest = makes.writes.honest;
        later = makes.writes.later;
        stored = makes.writes.stored;
        as_many = makes.writes.as_many;
        file = λ honest done file. absurd (true≢false (sym done));
      };
      cause = failed_cause pool pool';
      aim = record {
        caller = caller;
        ended = (λ e. absurd cc, λ d. absurd (true≢false (sym d)));
        rests = tt;
        most = most;
        finds = uncounted;
      };
      row = makes.row held names.no_file row ∙ ap (with_row locks seat) same_locks;
      progress = λ s change f. absurd (never s change f);
      step = λ s change f fine. absurd (never s change f);
      means = λ s change f fine. absurd (never s change f);
    }
