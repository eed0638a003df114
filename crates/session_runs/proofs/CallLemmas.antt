-- What the lines that a session takes come to, by the rules.
use Rattle.std.proofs.Common.{◌≡◌, refl, sym, ap, ◌∙◌, subst, Bool, true, false, true≢false, ◌&&◌, not, nat_le, ℕ, ◌+◌, ◌≤◌, inl, inr, List, [], ◌∷◌, Option, Some, None, Result, Ok, Err, length, arith}
use Rattle.page_device.specs.Device.{HasRisen}
use Rattle.queue_model.specs.Journal.{outcome_for}
use Rattle.interleavings.proofs.ToldLemmas.{risen_since}
use Rattle.interleavings.specs.LoneKernelWords.{Answer, Call, Caller, PoolState, State}
use Rattle.interleavings.specs.interleaving_core.declared.kernel.TheConstants.{MAX_DECIDED}
use Rattle.session.specs.Making.{SessionState}
use Rattle.session.specs.Session.{CallsAs, Holds, KeepsFile, pages_of, saved_of}
use Rattle.session.specs.declared.unanswered.Unanswered.{Unanswered}
use Rattle.session.specs.declared.unanswered.Unanswered.TheVariants as why
use Rattle.msgq_cli.specs.Scripts.{caller_of}
use Rattle.msgq_cli.specs.declared.command.Command.{Command}
use Rattle.msgq_cli.specs.declared.command.Command.TheVariants as command
use Rattle.msgq_cli.specs.declared.line.Line.{Line}
use Rattle.msgq_cli.specs.declared.line.SeatIds.{SeatIds}
use Rattle.msgq_cli.specs.declared.reply.Reply.{Reply}
use Rattle.msgq_cli.specs.declared.reply.Reply.TheVariants as replies
use Rattle.session_runs.specs.Taking.{Asks, TakesCallIf, TakesCommand, TakesLines, decided_by, is_full, is_put_off, reply_to}
use Rattle.session_runs.specs.Runs.{IsReady, Stands, stop}
use Rattle.session_runs.specs.PlainRuns.{RepliesAlong, RepliesTo}
use Rattle.session_runs.proofs.StopLemmas.{never_waits}

-- a session has failed or has not
pub apart : (k : SessionState) → k.failed ≡ false → k.failed ≡ true → ⊥
apart k sound failed = absurd cc

-- a call that is put off waits
pub put_off_waits : (told : Result Answer Unanswered) → is_put_off told ≡ true → told ≡ Err why.Waits
put_off_waits (Ok answer) is = absurd cc
put_off_waits (Err why.Waits) is = refl
put_off_waits (Err why.NoRoom) is = absurd cc
put_off_waits (Err why.NoMemory) is = absurd cc
put_off_waits (Err why.Failed) is = absurd cc

-- a run of a file that has failed is not told that it is full
full_sound : (many failed : Bool) → (many && not failed) ≡ true → failed ≡ true → ⊥
full_sound true true is has = true≢false (sym is)
full_sound true false is has = true≢false (sym has)
full_sound false failed is has = true≢false (sym is)

-- what a command is replied by the rules, and what the session holds behind it
pub record GoesBy (c : Caller) (said : Command) (was : ℕ) (s : Option State) (reply : Reply) (new : SessionState)
    : Type 0 where
  pub after : Option State
  pub replied : RepliesTo c said s reply after
  pub stands : Stands was new after

module _ (was : ℕ) (c : Caller) (call : Call) where
  -- ---- a call

  module _ (s ready : State) (is_ready : IsReady c call s ready) (rest : Call) (old new : SessionState)
      (holds : Holds ready old) (later : was ≤ old.pool.faults) where
    comes : (result : Result Answer Unanswered) → CallsAs c call rest result old new →
        (is_put_off result ≡ true → outcome_for (Some c) call ready ≡ None → ⊥) →
        GoesBy c (command.Call call) was (Some s) (reply_to result) new
    comes (Ok answer) made over =
        let is = made.becomes ready holds in
        let since = made.keeps.later in record {
          after = Some is.after;
          replied = (ready, is_ready, is.by_rules);
          stands = record { holds = is.holds; later = omega (arith, later, since) };
        }
    comes (Err why.Waits) made over = absurd (over refl (made.becomes ready holds).0)
    comes (Err why.NoRoom) made over =
        let is = made.becomes ready holds in
        let since = made.keeps.later in record {
          after = Some ready;
          replied = (ready, is_ready, (inl refl, refl));
          stands = record { holds = is.holds; later = omega (arith, later, since) };
        }
    comes (Err why.NoMemory) made over =
        let is = made.becomes ready holds in
        let since = made.keeps.later in record {
          after = Some ready;
          replied = (ready, is_ready, (inr (inl refl), refl));
          stands = record { holds = is; later = omega (arith, later, since) };
        }
    comes (Err why.Failed) made over =
        let is = made.becomes ready holds in record {
          after = None;
          replied = (ready, is_ready, refl);
          stands = record { failed = is.failed; risen = risen_since later is.cause };
        }

  -- where the file has failed before
  lost : (rest : Call) (result : Result Answer Unanswered) (old new : SessionState) →
      CallsAs c call rest result old new → Stands was old None →
      GoesBy c (command.Call call) was None (reply_to result) new
  lost rest result old new made stands =
      let is = made.lost stands.failed in record {
        after = None;
        replied = (inl (ap reply_to is.told), refl);
        stands = record {
          failed = is.failed;
          risen = subst (λ (p : PoolState). HasRisen was p.faults) (sym is.pool) stands.risen;
        };
      }

  asks : (result : Result Answer Unanswered) (old new : SessionState) → Asks c call result old new →
      (s : Option State) → Stands was old s → GoesBy c (command.Call call) was s (reply_to result) new
  asks result old new (inl once) (Some s) stands =
      comes s s (inl refl) once.rest old new stands.holds stands.later result once.made
      (λ off none. true≢false (sym off ∙ once.over))
  asks result old new (inl once) None stands = lost once.rest result old new once.made stands
  asks result old new (inr again) None stands =
      absurd (let told = (again.waits.lost stands.failed).told in cc)
  asks result old new (inr again) (Some s) stands =
      let put_off = again.waits.becomes s stands.holds in
      let same = again.waits.is_left s stands.holds refl in
      let since = again.waits.keeps.later in
      let faults = ap (λ (p : PoolState). p.faults) again.stops.pool in
      let later = stands.later in
      comes s (stop s) (inr (put_off.0, refl)) again.rest again.stopped new (again.stops.stops s put_off.1)
      (omega (arith, later, since, faults)) result
      (subst (λ (m : Call). CallsAs c m again.rest result again.stopped new) same again.made)
      (λ off none. never_waits c call (stop s) refl none)

  -- ---- a line that has one

  same_goes : (s : Option State) (reply told : Reply) (new : SessionState) → reply ≡ told →
      GoesBy c (command.Call call) was s told new → GoesBy c (command.Call call) was s reply new
  same_goes s reply told new is goes =
      subst (λ (r : Reply). GoesBy c (command.Call call) was s r new) (sym is) goes

  -- nothing was done
  away : (old new : SessionState) → new ≡ old → (s : Option State) → Stands was old s → Stands was new s
  away old new same s stands = subst (λ (k : SessionState). Stands was k s) (sym same) stands

  takes : (answered : ℕ) (reply : Reply) (old new : SessionState) (full : Bool) → is_full answered old ≡ full →
      TakesCallIf full c call reply old new → (s : Option State) → Stands was old s →
      GoesBy c (command.Call call) was s reply new
  takes answered reply old new true full away_with (Some s) stands =
      same_goes (Some s) reply (replies.Failed 61) new away_with.0 (record {
        after = Some s;
        replied = (s, inl refl, (inr (inr refl), refl));
        stands = away old new away_with.1 (Some s) stands;
      })
  takes answered reply old new true full away_with None stands =
      absurd (full_sound (nat_le MAX_DECIDED answered) old.failed full stands.failed)
  takes answered reply old new false free (inl replied) s stands =
      same_goes s reply (reply_to replied.result) new replied.told (asks replied.result old new replied.asks s stands)
  takes answered reply old new false free (inr uncopied) (Some s) stands =
      same_goes (Some s) reply (replies.Failed 60) new uncopied.told (record {
        after = Some s;
        replied = (s, inl refl, (inr (inl refl), refl));
        stands = away old new uncopied.same (Some s) stands;
      })
  takes answered reply old new false free (inr uncopied) None stands =
      same_goes None reply (replies.Failed 60) new uncopied.told (record {
        after = None;
        replied = (inr refl, refl);
        stands = away old new uncopied.same None stands;
      })

-- ---- a line

goes_by : (was answered : ℕ) (c : Caller) (said : Command) (reply : Reply) (old new : SessionState) →
    TakesCommand answered c said reply old new → (s : Option State) → Stands was old s → GoesBy c said was s reply new
goes_by was answered c (command.Call call) reply old new taken s stands =
    takes was c call answered reply old new (is_full answered old) refl taken s stands
goes_by was answered c command.Stop reply old new taken (Some s) stands =
    let later = stands.later in
    let faults = ap (λ (p : PoolState). p.faults) taken.1.pool in record {
      after = Some (stop s);
      replied = (taken.0, refl);
      stands = record { holds = taken.1.stops s stands.holds; later = omega (arith, later, faults) };
    }
goes_by was answered c command.Stop reply old new taken None stands = record {
  after = None;
  replied = (taken.0, refl);
  stands = record {
    failed = taken.1.failed ∙ stands.failed;
    risen = subst (λ (p : PoolState). HasRisen was p.faults) (sym taken.1.pool) stands.risen;
  };
}

-- where it holds no system the file has failed
pub failed_where : (was : ℕ) (k : SessionState) (s : Option State) → s ≡ None → Stands was k s → k.failed ≡ true
failed_where was k (Some s) none stands = absurd cc
failed_where was k None none stands = stands.failed

-- ---- lines

-- what they are replied by the rules, and what the session holds behind them
pub record GoAlong (ids : List SeatIds) (lines : List Line) (was : ℕ) (s : Option State) (told : List Reply)
    (new : SessionState) : Type 0 where
  pub after : Option State
  pub replied : RepliesAlong ids lines s told after
  pub stands : Stands was new after

pub go_along : (was : ℕ) (ids : List SeatIds) (answered : ℕ) (lines : List Line) (told : List Reply)
    (old new : SessionState) → TakesLines ids answered lines told old new → (s : Option State) → Stands was old s →
    GoAlong ids lines was s told new
go_along was ids answered [] [] old new same s stands = record {
  after = s;
  replied = refl;
  stands = subst (λ (k : SessionState). Stands was k s) (sym same) stands;
}
go_along was ids answered [] (r ∷ rs) old new taken s stands = absurd taken
go_along was ids answered (l ∷ ls) [] old new taken s stands = absurd taken
go_along was ids answered (l ∷ ls) (r ∷ rs) old new (next, first, rest) s stands =
    let now = goes_by was answered (caller_of l.seat ids) l.command r old next first s stands in
    let behind = go_along was ids (answered + decided_by r) ls rs next new rest now.after now.stands in record {
      after = behind.after;
      replied = (now.after, now.replied, behind.replied);
      stands = behind.stands;
    }

-- ---- whatever the device gives

-- a device as honest, with what it had, of as many pages
pub record KeepsDevice (old new : SessionState) : Type 0 where
  pub honest : new.pool.honest ≡ old.pool.honest
  pub saved : saved_of new ≡ saved_of old
  pub many : pages_of new ≡ pages_of old

keeps : (old mid new : SessionState) → KeepsDevice old mid → KeepsDevice mid new → KeepsDevice old new
keeps old mid new first second = record {
  honest = second.honest ∙ first.honest;
  saved = second.saved ∙ first.saved;
  many = second.many ∙ first.many;
}

kept_same : (old new : SessionState) → new.pool ≡ old.pool → KeepsDevice old new
kept_same old new same = record {
  honest = ap (λ (p : PoolState). p.honest) same;
  saved = ap (λ (p : PoolState). p.stored) same;
  many = ap (λ (p : PoolState). length p.images) same;
}

kept_file : {old new : SessionState} → KeepsFile old new → KeepsDevice old new
kept_file file = record { honest = file.honest; saved = file.saved; many = file.many }

kept_call : (c : Caller) (call : Call) (reply : Reply) (old new : SessionState) (full : Bool) →
    TakesCallIf full c call reply old new → KeepsDevice old new
kept_call c call reply old new true taken = kept_same old new (ap (λ (k : SessionState). k.pool) taken.1)
kept_call c call reply old new false (inl replied) = elim replied.asks [
  | inl once ↦ kept_file once.made.keeps
  | inr again ↦
      keeps old again.waiting new (kept_file again.waits.keeps)
      (keeps again.waiting again.stopped new (kept_same again.waiting again.stopped again.stops.pool)
      (kept_file again.made.keeps))
]
kept_call c call reply old new false (inr uncopied) =
    kept_same old new (ap (λ (k : SessionState). k.pool) uncopied.same)

kept_line : (answered : ℕ) (c : Caller) (said : Command) (reply : Reply) (old new : SessionState) →
    TakesCommand answered c said reply old new → KeepsDevice old new
kept_line answered c (command.Call call) reply old new taken =
    kept_call c call reply old new (is_full answered old) taken
kept_line answered c command.Stop reply old new taken = kept_same old new taken.1.pool

pub kept_along : (ids : List SeatIds) (answered : ℕ) (lines : List Line) (told : List Reply)
    (old new : SessionState) → TakesLines ids answered lines told old new → KeepsDevice old new
kept_along ids answered [] [] old new same = kept_same old new (ap (λ (k : SessionState). k.pool) same)
kept_along ids answered [] (r ∷ rs) old new taken = absurd taken
kept_along ids answered (l ∷ ls) [] old new taken = absurd taken
kept_along ids answered (l ∷ ls) (r ∷ rs) old new (next, first, rest) =
    keeps old next new (kept_line answered (caller_of l.seat ids) l.command r old next first)
    (kept_along ids (answered + decided_by r) ls rs next new rest)
