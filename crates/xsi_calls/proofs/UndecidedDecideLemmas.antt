-- What a call has come to at its Decide.
use Rattle.std.proofs.Common.{◌≡◌, refl, sym, ap, ◌∙◌, subst, ℕ, Bool, true, false, List, [], Option, Some, None, Ok, IsSome, if◌then◌else◌, take}
use Rattle.std.specs.List.{Contains}
use Rattle.std.specs.Option.{is_some}
use Rattle.std.specs.Prelude.{option_map, slice_get}
use Rattle.call_writes.specs.call_decisions.Anything.{decided_of}
use Rattle.call_writes.specs.declared.deed.Deed.TheVariants as deeds
use Rattle.call_writes.specs.Views.{is_full_at}
use Rattle.call_writes.specs.declared.due.Due.TheVariants.{Undoing, Writing}
use Rattle.call_writes.specs.WriteWords.{AccessView}
use Rattle.call_writes.specs.declared.writes.CallWrites.{CallWrites}
use Rattle.xsi_calls.specs.Parts.{tried_in, trials_for}
use Rattle.xsi_calls.specs.Undecided.{CanDecideIn, Trials, its_plan, trials_in, untried}
use Rattle.xsi_calls.proofs.UndecidedNames.{all_stand, settles, tries_rightly, write_under_names, agrees_itself}
use Rattle.xsi_calls.specs.UndecidedWords.{AreAlike, AreNames, Call, Change, Decision, Due, Exclusive, Full, IsFiled, IsOver, IsRight, KnowsOf, Lock, LockName, Means, Plan, PoolState, QuestionsView, Record, RecordKey, Records, State, Table, Trying, asked_of, caller_of, guard_of, inserted, is_done, is_full, kind_of, locked_of, names_in, next_deed, record_of, settled_by}
use Rattle.xsi_calls.specs.Knowing.{IsAsking, IsDecision, IsOnTrial, IsTrying, IsUndecidedIn, standing}
use Rattle.xsi_calls.specs.Deciding.{IsDecidedIn, IsSettled, settled_in}
use Rattle.xsi_calls.proofs.HeldLemmas.{is_among, no_first}
use Rattle.xsi_calls.proofs.ReadyLemmas.{carries, may_write, none_asked, right_here}
use Rattle.xsi_calls.proofs.SweepLemmas.{sweeps_change}

module _ (hash : RecordKey → ℕ) (seat : ℕ) (call : Call) (s : State) (q : QuestionsView) (records : Records)
    (pool : PoolState) (locks : Table) (change : Change) (stopped : Bool) (mark : s.stopped ≡ stopped) where
  abbrev p : Plan
  p = its_plan call q

  means_so : (decision : Decision) →
      IsRight (caller_of q.inquiry) call (locked_of call q.inquiry) q.room.bytes s p decision →
      Means (caller_of q.inquiry) call (locked_of call q.inquiry) q.room.bytes s p (settled_by stopped decision)
  means_so decision right =
      settles (caller_of q.inquiry) call (locked_of call q.inquiry) s p q.room.bytes stopped decision mark right

  -- ---- nothing was inserted on trial

  no_trials : slice_get p.trials 0 ≡ None → p.trials ≡ []
  no_trials none = no_first p.trials (ap is_some none)

  pub decides_untried : IsAsking hash seat call s q records pool locks change → AreNames q.names →
      is_done call q ≡ true → slice_get p.trials 0 ≡ None → (decision : Decision) →
      decided_of call q.inquiry ≡ Ok decision →
      IsRight (caller_of q.inquiry) call (locked_of call q.inquiry) q.room.bytes s p decision →
      IsSettled hash seat call s q (settled_by stopped decision) untried records pool locks change
  decides_untried a names done none decision value right = record {
    means = means_so decision right;
    place = 0;
    tried = refl;
    last = ap (option_map deeds.Trial) none;
    rests = refl;
    carries = carries hash seat call s q records pool locks change a names done decision right;
    alike = subst (λ (rs : List Record). AreAlike (names_in q.names) records (inserted rs (record_of s)))
        (sym (no_trials none)) a.alike;
    writes = may_write hash seat call s q records pool locks change a names done decision right (no_trials none);
    sweeps = λ sweep is. sweeps_change call q.inquiry q.room.bytes s stopped decision value right sweep is;
  }

  -- ---- the trials are over

  module _ (t : Trials) (is : IsTrying hash seat call s q t records pool locks change) (over : IsOver p t.writes) where
    exclusive : (name : LockName) → Contains (locked_of call q.inquiry) name → kind_of q.names name ≡ Some Exclusive
    exclusive name within = subst (λ (ls : List Lock). kind_of ls name ≡ Some Exclusive) (sym is.names)
        (write_under_names call q.inquiry name within)

    right : IsRight (caller_of q.inquiry) call (locked_of call q.inquiry) q.room.bytes s p t.decision
    right = is.decision s is.filed (is.knows s is.filed (agrees_itself call _ s))

    all_there : (place : ℕ) → t.writes.due ≡ Trying place →
        AreAlike (names_in q.names) records (inserted p.trials (record_of s))
    all_there place due =
        let last : next_deed p (Trying place) ≡ None = subst (λ (x : Due). next_deed p x ≡ None) due over.last in
        let so_many = subst (λ (x : Due). AreAlike (names_in q.names) records
        (inserted (take (standing x) p.trials) (record_of s))) due is.alike in
        subst (λ (rs : List Record). AreAlike (names_in q.names) records (inserted rs (record_of s)))
        (all_stand p.trials place last) so_many

    stands : (place : ℕ) → t.writes.due ≡ Trying place →
        IsSettled hash seat call s q (settled_by stopped t.decision) t.writes records pool locks change
    stands place due = record {
      means = means_so t.decision right;
      place = place;
      tried = due;
      last = subst (λ (x : Due). next_deed p x ≡ None) due over.last;
      rests = over.rests;
      carries = is.carries;
      alike = all_there place due;
      sweeps = λ sweep is_sweep. is.changes;
      writes = λ some. record {
        exclusive = exclusive;
        own = (tries_rightly (caller_of q.inquiry) call (locked_of call q.inquiry) q.room.bytes s p t.decision
            right).own;
        alike = λ key within. all_there place due key
            (is_among q.names (guard_of key) (subst IsSome (sym (exclusive (guard_of key) within)) refl));
      };
    }

    pub decides_tried : IsDecidedIn hash seat call s q (settled_in stopped t) t.writes records pool locks change
    decides_tried = by t.writes.due refl
      where
        full_of : (due : Due) → t.writes.due ≡ due → is_full t.writes ≡ is_full_at due None
        full_of due is_due = ap (λ (o : Option AccessView). is_full_at t.writes.due o) over.rests
            ∙ ap (λ (x : Due). is_full_at x None) is_due

        by : (due : Due) → t.writes.due ≡ due →
            IsDecidedIn hash seat call s q (settled_in stopped t) t.writes records pool locks change
        by (Trying place) due =
            subst (λ (b : Bool). IsDecidedIn hash seat call s q
            (if b then None else Some (settled_by stopped t.decision)) t.writes records pool locks change)
            (sym (full_of (Trying place) due)) (stands place due)
        by (Full n) due =
            subst (λ (b : Bool). IsDecidedIn hash seat call s q
            (if b then None else Some (settled_by stopped t.decision)) t.writes records pool locks change)
            (sym (full_of (Full n) due))
            (record { standing = n; full = due; rests = over.rests; carries = is.carries })
        by (Undoing n) due = absurd (subst IsOnTrial due is.on_trial)
        by (Writing n) due = absurd (subst IsOnTrial due is.on_trial)

  -- ---- either way

  pub asks_no_more : (o : Option Trials) → IsUndecidedIn hash seat call s q o records pool locks change →
      CanDecideIn call q o → asked_of call q.inquiry ≡ None
  asks_no_more None a can = none_asked call q can.0
  asks_no_more (Some t) is over = is.asked

  -- it was told what is so
  pub is_told : (o : Option Trials) → IsUndecidedIn hash seat call s q o records pool locks change →
      IsFiled s × KnowsOf call q.inquiry q.room s
  is_told None a = (a.faces.agrees.filed, a.faces.knows s a.faces.agrees.filed (agrees_itself call _ s))
  is_told (Some t) is = (is.filed, is.knows s is.filed (agrees_itself call _ s))

  module _ (decision : Decision) where
    pub lacks_room : (o : Option CallWrites) →
        IsUndecidedIn hash seat call s q (trials_for decision o) records pool locks change →
        CanDecideIn call q (trials_for decision o) → is_full (tried_in o) ≡ true →
        IsDecidedIn hash seat call s q None (trials_in (trials_for decision o)) records pool locks change
    lacks_room None a can full = let never : false ≡ true = full in absurd cc
    lacks_room (Some w) is over full =
        subst (λ (b : Bool). IsDecidedIn hash seat call s q (if b then None else Some (settled_by stopped decision)) w
        records pool locks change) full (decides_tried (record { writes = w; decision = decision }) is over)

    pub comes_to_it : (o : Option CallWrites) →
        IsUndecidedIn hash seat call s q (trials_for decision o) records pool locks change →
        CanDecideIn call q (trials_for decision o) → AreNames q.names → is_full (tried_in o) ≡ false →
        decided_of call q.inquiry ≡ Ok decision → IsDecision call q decision → IsSettled hash seat call s q
        (settled_by stopped decision) (trials_in (trials_for decision o)) records pool locks change
    comes_to_it None a can names room value decides =
        decides_untried a names can.0 can.1 decision value
        (right_here hash seat call s q records pool locks change a decision decides)
    comes_to_it (Some w) is over names room value decides =
        subst (λ (b : Bool). IsDecidedIn hash seat call s q (if b then None else Some (settled_by stopped decision)) w
        records pool locks change) room (decides_tried (record { writes = w; decision = decision }) is over)
