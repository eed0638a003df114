-- What is done with a durable desk, one after another, is found after a crash up to some entry.
use Rattle.std.proofs.Common.{arith, ℕ, ◌≡◌, ⊎_elim, IsTrue, refl, sym, ap, ◌∙◌, subst, append-nil, append_assoc, Bool, true, false, List, [], ◌∷◌, ◌++◌, Result, Ok, Err}
use Rattle.std.specs.Prelude.{◌||◌}
use Rattle.std.specs.List.{count_by}
use Rattle.queue_model.specs.Laws.{RefusalsLeave}
use Rattle.safe_device.specs.Crash.{LeavesOnly}
use Rattle.safe_device.specs.Device.{DeviceState, held}
use Rattle.safe_device.specs.Left.{Left, Saved as Found, recovered}
use Rattle.interleavings.specs.LoneKernelWords.{State, restarted}
use Rattle.call_entries.specs.Entries.{spelled}
use Rattle.call_entries.specs.Log.{LogState}
use Rattle.desk.specs.Desk.{DeskState, KeepsServing, Serves}
use Rattle.desk.specs.History.{AnswersByTheRules, Entry, IsServed, LeadsAlong, Saved, changes, fails, noted_by, noted_in}
use Rattle.desk.specs.declared.asking.Asking.{Asking}
use Rattle.desk.proofs.HistoryLemmas.{joined as served_on, leads_on}
use Rattle.durable_desk.specs.Durable.{DurableState, IsBehind, IsCutShort, IsLastOrComes}
use Rattle.durable_desk.specs.History.{AllOutlastACrash, Commit, Does, Event, HappenAlong, Happens, IsFoundAfterSome, IsTried, IsUpToDate, NoneFails, NoneIsLost, OpensUpToDate, at_desk, deed_of, is_failure}
use Rattle.durable_desk.specs.Saved.{ComesTo, ComesWith}
use Rattle.durable_desk.specs.declared.commit.Uncommitted.{Uncommitted}
use Rattle.durable_desk.specs.declared.commit.Uncommitted.TheVariants.{Device, Desk, Earlier}
use Rattle.durable_desk.proofs.MomentLemmas.{joined, started, weaker}
use Rattle.durable_desk.proofs.SavedLemmas.{changes_lead, comes_running, with_more, with_none}

-- ---- which entries a file is behind

-- of more entries some
more_lost : (s : State) (entries more : List Entry) (found : Found) → IsFoundAfterSome s entries found →
    IsFoundAfterSome s (entries ++ more) found
more_lost s entries more found is = record {
  kept = is.kept;
  lost = is.lost ++ more;
  all = ap (λ (es : List Entry). es ++ more) is.all ∙ append_assoc is.kept is.lost more;
  system = is.system;
  by_rules = is.by_rules;
  comes = is.comes;
}

-- all
none_lost : (s t : State) (entries : List Entry) (found : Found) → LeadsAlong entries s t →
    ComesTo found (restarted t) → IsFoundAfterSome s entries found
none_lost s t entries found leads comes = record {
  kept = entries;
  lost = [];
  all = sym (append-nil entries);
  system = t;
  by_rules = leads;
  comes = comes;
}

-- ---- what is done at the desk

-- nothing was decided
nothing : (s : State) (old new : DeskState) → KeepsServing old new → Serves s old → IsServed (Saved ∷ []) s old new
nothing s old new keeps serves = record {
  entries = [];
  after = s;
  by_rules = refl;
  told = refl;
  noted = refl;
  asked_for = λ p. let same = ap (λ (xs : List Asking). count_by p xs) keeps.waiting in omega (arith, same);
  serves = keeps.serves s serves;
}

abbrev none_done : (s : State) (old new : DeskState) → new ≡ old → Serves s old → IsServed [] s old new
none_done s old new same serves = record {
  entries = [];
  after = s;
  by_rules = refl;
  told = refl;
  noted = refl;
  asked_for = λ p. let is = ap (λ (d : DeskState). count_by p d.waiting) same in omega (arith, is);
  serves = subst (Serves s) (sym same) serves;
}

unchanged : (d : DeskState) → KeepsServing d d
unchanged d = record { serves = λ s serves. serves; waiting = refl; most = refl }

desk_events : {P : Type 0} (honest : Bool) (moment : P → ℕ) (left_since : P → ℕ → Left → Type 0)
    (may_leave : P → Left → Type 0) (told : Result (Unit {0}) Uncommitted) (old new : DurableState P) →
    is_failure (Commit told) ≡ false → IsTried honest moment left_since may_leave told old new →
    KeepsServing old.desk new.desk
desk_events honest moment left_since may_leave (Ok done) old new fine tried = tried.commits.done.keeps
desk_events honest moment left_since may_leave (Err Device) old new fine tried = tried.commits.cause.0
desk_events honest moment left_since may_leave (Err Desk) old new fine tried = absurd cc
desk_events honest moment left_since may_leave (Err Earlier) old new fine tried =
    subst (λ (d : DurableState _). KeepsServing old.desk d.desk) (sym tried.commits.same) (unchanged old.desk)

module _ {P : Type 0} (honest : Bool) (moment : P → ℕ) (left_since : P → ℕ → Left → Type 0)
    (may_leave : P → Left → Type 0) (law : AnswersByTheRules) where
  served_by : (e : Event) (s : State) (old new : DurableState P) → Serves s old.desk → is_failure e ≡ false →
      Happens honest moment left_since may_leave e old new → IsServed (deed_of e ∷ []) s old.desk new.desk
  served_by (Does e) s old new serves fine done =
      law (e ∷ []) s old.desk new.desk serves (new.desk, done.happens, refl) (fine, tt)
  served_by (Commit told) s old new serves fine tried =
      nothing s old.desk new.desk (desk_events honest moment left_since may_leave told old new fine tried) serves

  -- all that is done at the desk
  pub all_served : (es : List Event) (s : State) (old new : DurableState P) → Serves s old.desk →
      HappenAlong honest moment left_since may_leave es old new → NoneFails es →
      IsServed (at_desk es) s old.desk new.desk
  all_served [] s old new serves same fine =
      none_done s old.desk new.desk (ap (λ (d : DurableState P). d.desk) same) serves
  all_served (e ∷ es) s old new serves (then, happens, rest) (fine, others) =
      let first = served_by e s old then serves fine happens in
      served_on (deed_of e) (at_desk es) s old.desk then.desk new.desk first
      (all_served es first.after then new first.serves rest others)

-- ---- what is found

or_left : (a b : Bool) → (a || b) ≡ false → a ≡ false
or_left false b none = refl
or_left true b none = absurd cc

module _ {P : Type 0} (honest : Bool) (moment : P → ℕ) (left_since : P → ℕ → Left → Type 0)
    (may_leave : P → Left → Type 0) (start : DurableState P) (s : State) where
  -- whatever a crash left since the start is found after some of these entries
  abbrev IsFound : List Entry → DurableState P → Type 0
  IsFound entries d = IsTrue honest → LeavesOnly moment left_since start.device.pair d.device.pair
      (λ (c : Left). IsFoundAfterSome s entries (recovered c))

  record SoFar (entries : List Entry) (t : State) (d : DurableState P) : Type 0 where
    pub by_rules : LeadsAlong entries s t
    pub serves : Serves t d.desk
    pub found : IsFound entries d
    pub now : IsTrue honest → d.has_failed ≡ false → IsFoundAfterSome s entries (held d.device)
    -- what the device holds and what the log has come to the system that is served
    pub behind : IsTrue honest → d.has_failed ≡ false → IsBehind t d.log d.device

  wider : (entries more : List Entry) (d : DurableState P) → IsFound entries d → IsFound (entries ++ more) d
  wider entries more d found = λ sound.
      weaker moment left_since start.device.pair d.device.pair
      (λ (c : Left). IsFoundAfterSome s entries (recovered c))
      (λ (c : Left). IsFoundAfterSome s (entries ++ more) (recovered c)) (found sound)
      (λ c has. more_lost s entries more (recovered c) has)

  module _ (entries : List Entry) (t : State) (d next : DurableState P) (so_far : SoFar entries t d) where
    -- a commit may be cut short
    cut : d.has_failed ≡ false → IsCutShort honest moment left_since d next → IsFound entries next
    cut was_sound any_moment = λ sound.
        joined moment left_since start.device.pair d.device.pair next.device.pair
        (λ (c : Left). IsFoundAfterSome s entries (recovered c)) (IsLastOrComes (held d.device) t)
        (λ (c : Left). IsFoundAfterSome s entries (recovered c)) (so_far.found sound)
        (any_moment was_sound sound t so_far.serves (so_far.behind sound was_sound)) (λ c has. has)
        (λ c has. ⊎_elim (λ last.
        subst (λ (found : Found). IsFoundAfterSome s entries found) (sym last) (so_far.now sound was_sound))
        (λ comes. none_lost s t entries (recovered c) so_far.by_rules comes) has)

    found_by : (e : Event) → is_failure e ≡ false → Happens honest moment left_since may_leave e d next →
        IsFound entries next
    found_by (Does e) fine done =
        subst (λ (device : DeviceState P). IsTrue honest → LeavesOnly moment left_since start.device.pair device.pair
        (λ (c : Left). IsFoundAfterSome s entries (recovered c))) (sym done.file.device) so_far.found
    found_by (Commit (Ok done)) fine tried = cut tried.commits.was_sound tried.any_moment
    found_by (Commit (Err Device)) fine tried = cut tried.commits.was_sound tried.any_moment
    found_by (Commit (Err Desk)) fine tried = absurd cc
    found_by (Commit (Err Earlier)) fine tried = subst (IsFound entries) (sym tried.commits.same) so_far.found

    now_by : (e : Event) → is_failure e ≡ false → Happens honest moment left_since may_leave e d next →
        IsTrue honest → next.has_failed ≡ false → IsFoundAfterSome s entries (held next.device)
    now_by (Does e) fine done sound none =
        subst (λ (device : DeviceState P). IsFoundAfterSome s entries (held device)) (sym done.file.device)
        (so_far.now sound (or_left d.has_failed (fails e) (sym done.file.failed ∙ none)))
    now_by (Commit (Ok done)) fine tried sound none =
        none_lost s t entries (held next.device) so_far.by_rules
        (tried.commits.done.comes sound t so_far.serves (so_far.behind sound tried.commits.was_sound))
    now_by (Commit (Err Device)) fine tried sound none = let failed = tried.commits.failed in absurd cc
    now_by (Commit (Err Desk)) fine tried sound none = absurd cc
    now_by (Commit (Err Earlier)) fine tried sound none =
        let failed = tried.commits.failed in
        let same = ap (λ (x : DurableState P). x.has_failed) tried.commits.same in
        absurd cc

    -- the log goes on as it was decided
    behind_by : RefusalsLeave → (e : Event) (more : List Entry) (u : State) → is_failure e ≡ false →
        Happens honest moment left_since may_leave e d next → LeadsAlong more t u →
        noted_in (deed_of e ∷ []) ≡ spelled (changes more) → IsTrue honest → next.has_failed ≡ false →
        IsBehind u next.log next.device
    behind_by leaves (Does e) more u fine done leads noted sound none whole =
        let was = so_far.behind sound (or_left d.has_failed (fails e) (sym done.file.failed ∙ none))
        (done.notes.whole whole) in
        let bytes : next.log.bytes ≡ d.log.bytes ++ spelled (changes more) =
        done.notes.bytes whole
        ∙ ap (λ (xs : List ℕ). d.log.bytes ++ xs) (sym (append-nil (noted_by e)) ∙ noted) in
        subst (λ (device : DeviceState P). ComesWith (held device) next.log.bytes (restarted u))
        (sym done.file.device)
        (subst (λ (xs : List ℕ). ComesWith (held d.device) xs (restarted u)) (sym bytes)
        (with_more (held d.device) d.log.bytes (changes more) (restarted t) (restarted u) was
        (changes_lead leaves more t u leads)))
    behind_by leaves (Commit (Ok done)) more u fine tried leads noted sound none whole =
        let comes = tried.commits.done.comes sound t so_far.serves (so_far.behind sound tried.commits.was_sound) in
        subst (λ (log : LogState). ComesWith (held next.device) log.bytes (restarted u)) (sym tried.commits.done.none)
        (subst (λ (xs : List ℕ). ComesWith (held next.device) xs (restarted u)) (sym noted)
        (with_more (held next.device) [] (changes more) (restarted t) (restarted u)
        (with_none (held next.device) (restarted t) comes) (changes_lead leaves more t u leads)))
    behind_by leaves (Commit (Err Device)) more u fine tried leads noted sound none whole =
        let failed = tried.commits.failed in absurd cc
    behind_by leaves (Commit (Err Desk)) more u fine tried leads noted sound none whole = absurd cc
    behind_by leaves (Commit (Err Earlier)) more u fine tried leads noted sound none whole =
        let failed = tried.commits.failed in
        let same = ap (λ (x : DurableState P). x.has_failed) tried.commits.same in
        absurd cc

  module _ (law : AnswersByTheRules) (leaves : RefusalsLeave) where
    along : (es : List Event) (entries : List Entry) (t : State) (d new : DurableState P) → SoFar entries t d →
        HappenAlong honest moment left_since may_leave es d new → NoneFails es →
        (served : IsServed (at_desk es) t d.desk new.desk) × SoFar (entries ++ served.entries) served.after new
    along [] entries t d new so_far same fine = (
      none_done t d.desk new.desk (ap (λ (x : DurableState P). x.desk) same) so_far.serves,
      subst (λ (all : List Entry). SoFar all t new) (sym (append-nil entries))
          (subst (SoFar entries t) (sym same) so_far),
    )
    along (e ∷ es) entries t d new so_far (then, happens, rest) (fine, others) =
        let first = served_by honest moment left_since may_leave law e t d then so_far.serves fine happens in
        let next : SoFar (entries ++ first.entries) first.after then = record {
          by_rules = leads_on entries first.entries s t first.after so_far.by_rules first.by_rules;
          serves = first.serves;
          found = wider entries first.entries then (found_by entries t d then so_far e fine happens);
          now = λ sound none. more_lost s entries first.entries (held then.device)
              (now_by entries t d then so_far e fine happens sound none);
          behind = behind_by entries t d then so_far leaves e first.entries first.after fine happens first.by_rules
              first.noted;
        } in
        let more = along es (entries ++ first.entries) first.after then new next rest others in (
          served_on (deed_of e) (at_desk es) t d.desk then.desk new.desk first more.0,
          subst (λ (all : List Entry). SoFar all more.0.after new)
              (append_assoc entries first.entries more.0.entries) more.1,
        )

-- ---- the laws

module _ {P : Type 0} (honest : Bool) (moment : P → ℕ) (left_since : P → ℕ → Left → Type 0)
    (may_leave : P → Left → Type 0) (law : AnswersByTheRules) (leaves : RefusalsLeave)
    (only_now : (pair : P) (c : Left) → left_since pair (moment pair) c → may_leave pair c) where
  -- nothing was done yet
  none_yet : (s : State) (d : DurableState P) → IsUpToDate honest may_leave s d →
      SoFar honest moment left_since may_leave d s [] s d
  none_yet s d is = record {
    by_rules = refl;
    serves = is.serves;
    found = λ sound. started moment left_since may_leave d.device.pair
        (λ (c : Left). IsFoundAfterSome s [] (recovered c)) (only_now d.device.pair) (λ c left.
        subst (λ (found : Found). IsFoundAfterSome s [] found) (sym ((is.committed.ready sound).kept c left))
        (none_lost s s [] (held d.device) refl (is.comes sound)));
    now = λ sound none. none_lost s s [] (held d.device) refl (is.comes sound);
    behind = λ sound none whole.
        subst (λ (log : LogState). ComesWith (held d.device) log.bytes (restarted s)) (sym is.none)
        (with_none (held d.device) (restarted s) (is.comes sound));
  }

  pub all_outlast : AllOutlastACrash P honest moment left_since may_leave
  all_outlast es s old new is happen fine =
      let all = along honest moment left_since may_leave old s law leaves es [] s old new (none_yet s old is) happen
      fine in
      record { served = all.0; found = λ sound c left. (all.1.found sound).each c left }

  pub none_is_lost : NoneIsLost P honest moment left_since may_leave
  none_is_lost before since s old last committed new is happen fine tried more others =
      let all = along honest moment left_since may_leave old s law leaves before [] s old last (none_yet s old is)
      happen fine in
      let decided = all.0 in
      record {
        decided = decided;
        outlasts = all_outlast since decided.after committed new (record {
          serves = tried.commits.done.keeps.serves decided.after decided.serves;
          sound = tried.commits.sound;
          committed = tried.commits.done.committed;
          none = tried.commits.done.none;
          comes = λ sound.
              tried.commits.done.comes sound decided.after decided.serves (all.1.behind sound tried.commits.was_sound);
        }) more others;
      }

pub opens_up_to_date : {P : Type 0} (honest : Bool) (may_leave : P → Left → Type 0) → OpensUpToDate P honest may_leave
opens_up_to_date honest may_leave given most d opens =
    let is = opens.remade in (
      is.system,
      record {
        serves = is.serves;
        sound = opens.sound;
        committed = opens.committed;
        none = opens.none;
        comes = λ sound.
            let same = is.same sound ∙ sym (ap held opens.same) in
            subst (ComesTo (held d.device)) (comes_running is.read is.system is.comes)
            (subst (λ (saved : Found). ComesTo saved is.system) same is.comes);
      },
    )
