-- Once all is asked the plan can be carried out.
use Rattle.std.proofs.Common.{◌≡◌, ◌≢◌, refl, sym, ap, ◌∙◌, subst, ℕ, Bool, true, false, List, [], Option, None, IsSome, slice_get}
use Rattle.std.proofs.lemmas.Bool.{true≢false}
use Rattle.std.proofs.lemmas.List.Elements.{All-nil, All-weaker}
use Rattle.std.specs.List.{All, Contains}
use Rattle.std.specs.Option.{is_some}
use Rattle.xsi_calls.proofs.UndecidedNames.{AreAbsent, HasRange, HoldsNames, IsUnder, OwnsPlan, Owns, StandsAt, Write, agrees_itself, changes_by, facts_of, few_of, has_asked, held_names, key_of, key_written, locks_behind, tries_rightly, writes_of, CanTry}
use Rattle.xsi_calls.specs.declared.question.Question.{Question}
use Rattle.xsi_inquiry.specs.declared.decision.Decision.TheVariants as decisions
use Rattle.xsi_calls.specs.UndecidedWords.{AreAlike, AreNames, Call, Caller, Change, Decision, IsCarrying, IsRight, Known, LockName, Plan, PoolState, QuestionsView, Record, RecordKey, Records, State, Table, asked_of, caller_of, guard_of, inserted, is_done, locked_of, nothing, record_of, store_of}
use Rattle.xsi_calls.specs.stale_search.Steps.{Sees}
use Rattle.xsi_calls.specs.Undecided.{its_plan, untried, Trials}
use Rattle.xsi_calls.specs.Knowing.{IsAsking, IsDecision, IsTrying}
use Rattle.xsi_calls.specs.Deciding.{MayWrite}
use Rattle.xsi_calls.proofs.HeldLemmas.{both_are, is_among, neither_is, no_first}
use Rattle.call_writes.proofs.StartLemmas.{none_of}

-- what a right decision writes is under the names
under_by : (c : Caller) (call : Call) (held : List LockName) (bytes : List ℕ) (s : State) (p : Plan)
    (decision : Decision) → IsRight c call held bytes s p decision → IsUnder held p
under_by c call held bytes s p decisions.PutOff right =
    subst (IsUnder held) (sym right.decides.idle) (record { trials = All-nil _; writes = All-nil _ })
under_by c call held bytes s p (decisions.Answers verdict) right = right.decides.own
under_by c call held bytes s p (decisions.Sweeps sweep) right = right.decides.own

-- ---- all is asked

module _ (call : Call) (q : QuestionsView) (done : is_done call q ≡ true) where
  pub no_question : q.question ≡ None
  no_question = none_of q.question (both_are (is_some q.question) (has_asked call q) done).0

  pub all_asked : has_asked call q ≡ true
  all_asked = (both_are (is_some q.question) (has_asked call q) done).1

  pub none_asked : asked_of call q.inquiry ≡ None
  none_asked = none_of (asked_of call q.inquiry) (both_are (is_some (asked_of call q.inquiry)) _ all_asked).0

-- it holds exactly the names that it needs
pub needed : (call : Call) (q : QuestionsView) → is_done call q ≡ true → its_plan call q ≢ nothing →
    HoldsNames call q
needed call q done some = held_names call q (all_asked call q done) some

-- ---- and decided

module _ (hash : RecordKey → ℕ) (seat : ℕ) (call : Call) (s : State) (q : QuestionsView) (records : Records)
    (pool : PoolState) (locks : Table) (change : Change)
    (a : IsAsking hash seat call s q records pool locks change) (names : AreNames q.names)
    (done : is_done call q ≡ true) (decision : Decision)
    (right : IsRight (caller_of q.inquiry) call (locked_of call q.inquiry) q.room.bytes s (its_plan call q) decision)
  where
    abbrev p : Plan
    p = its_plan call q

    abbrev locked : List LockName
    locked = locked_of call q.inquiry

    pub under_locked : p ≢ nothing → AreAlike locked records (record_of s)
    under_locked some key within =
        a.alike key (is_among q.names (guard_of key)
        (subst IsSome (sym ((needed call q done some).exclusive (guard_of key) within)) refl))

    is_some_plan : changes_by p ≡ true → p ≢ nothing
    is_some_plan is none = true≢false (sym is ∙ ap changes_by none)

    no_trials : changes_by p ≡ false → p.trials ≡ []
    no_trials is = no_first p.trials (neither_is _ _ is).0

    no_writes : changes_by p ≡ false → writes_of p ≡ []
    no_writes is = no_first (writes_of p) (neither_is _ _ is).1

    owns : (b : Bool) → changes_by p ≡ b → OwnsPlan q.names p
    owns true is =
        let under = under_by (caller_of q.inquiry) call locked q.room.bytes s p decision right in
        let held = (needed call q done (is_some_plan is)).exclusive in
        record {
          trials = All-weaker (λ (r : Record). Contains locked (guard_of (key_of r)))
              (λ (r : Record). Owns q.names (key_of r)) (λ r within. held (guard_of (key_of r)) within) p.trials
              under.trials;
          writes = All-weaker (λ (w : Write). Contains locked (guard_of (key_written w)))
              (λ (w : Write). Owns q.names (key_written w)) (λ w within. held (guard_of (key_written w)) within)
              (writes_of p) under.writes;
        }
    owns false is = record {
      trials = subst (All (λ (r : Record). Owns q.names (key_of r))) (sym (no_trials is)) (All-nil _);
      writes = subst (All (λ (w : Write). Owns q.names (key_written w))) (sym (no_writes is)) (All-nil _);
    }

    can_try : CanTry locked s p
    can_try = tries_rightly (caller_of q.inquiry) call locked q.room.bytes s p decision right

    absent : (b : Bool) → changes_by p ≡ b → AreAbsent p.trials records
    absent true is = can_try.absent records (under_locked (is_some_plan is))
    absent false is = subst (λ (rs : List Record). AreAbsent rs records) (sym (no_trials is)) tt

    pub carries : IsCarrying hash seat q.names p untried records pool locks change
    carries = record {
      small = few_of call q.inquiry;
      sees = subst (λ (facts : List Known). Sees hash seat facts pool locks change)
          (ap facts_of (no_question call q done)) a.faces.sees;
      bare = names.no_file;
      row = a.row ∙ ap (λ (o : Option Question). locks_behind o q.names) (no_question call q done);
      own = owns (changes_by p) refl;
      stands = λ key held. subst (StandsAt (store_of pool.images) key)
          (sym (a.alike key (is_among q.names (guard_of key) held)))
          (a.faces.agrees.stands key (is_among q.names (guard_of key) held));
      can = record {
        owed = tt;
        in_range = All-nil HasRange;
        may = record { absent = absent (changes_by p) refl; in_range = can_try.in_range };
      };
      doing = tt;
      going = tt;
    }

    pub may_write : p.trials ≡ [] → p ≢ nothing → MayWrite call s q records
    may_write none some = record {
      exclusive = (needed call q done some).exclusive;
      own = can_try.own;
      alike = subst (λ (rs : List Record). AreAlike locked records (inserted rs (record_of s))) (sym none)
          (under_locked some);
    }

-- ---- the trials begin

module _ (hash : RecordKey → ℕ) (seat : ℕ) (call : Call) (s : State) (q : QuestionsView) (records : Records)
    (pool : PoolState) (locks : Table) (change : Change)
    (a : IsAsking hash seat call s q records pool locks change) (decision : Decision)
    (decides : IsDecision call q decision) where
  -- the decision is right for this system
  pub right_here : IsRight (caller_of q.inquiry) call (locked_of call q.inquiry) q.room.bytes s (its_plan call q)
      decision
  right_here = decides s a.faces.agrees.filed (a.faces.knows s a.faces.agrees.filed (agrees_itself call _ s))

  abbrev pub fresh : Trials
  fresh = record { writes = untried; decision = decision }

  pub begins_trying : AreNames q.names → is_done call q ≡ true → its_plan call q ≢ nothing →
      IsSome (slice_get (its_plan call q).trials 0) → IsTrying hash seat call s q fresh records pool locks change
  begins_trying names done some inserts = record {
    asked = none_asked call q done;
    rests = no_question call q done;
    inserts = inserts;
    filed = a.faces.agrees.filed;
    knows = a.faces.knows;
    decision = decides;
    changes = some;
    names = (needed call q done some).names;
    carries = carries hash seat call s q records pool locks change a names done decision right_here;
    on_trial = tt;
    alike = a.alike;
  }
