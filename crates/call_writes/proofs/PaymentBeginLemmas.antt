-- A payment begins with the writes: of a call that is answered, that waits, or of which a trial had no room.
use Rattle.std.proofs.Common.{◌≡◌, refl, sym, ap, ◌∙◌, subst, ℕ, List, [], Option, None, take}
use Rattle.std.specs.List.{All}
use Rattle.std.proofs.lemmas.List.Elements.{All-nil}
use Rattle.call_decisions.specs.Settling.{HasToWait, IsAnswer}
use Rattle.call_writes.proofs.WriteDecidedLemmas.{can_undo}
use Rattle.call_writes.specs.Views.{locks_under}
use Rattle.call_writes.specs.declared.due.Due.TheVariants.{Undoing}
use Rattle.call_decisions.specs.Owing as owed
use Rattle.queue_model.specs.declared.answer.Answer.{Answer}
use Rattle.call_writes.specs.WriteWords.{AccessView}
use Rattle.xsi_inquiry.specs.Writing.{CanAllBe, HasRange, written}
use Rattle.xsi_inquiry.specs.declared.write.Write.{Write}
use Rattle.call_writes.specs.PaymentStages as stages
use Rattle.call_writes.specs.PaymentWords.{RecordKey, PoolState, Table, Lock, Change, LockName, Call, Caller, State, record_of, Plan, Records, writes_of, OwesUnder, overlaid, AreAlike, Due, Full, Writing, CallWrites, IsCarrying, CanGoOn, owes, decided_at}
use Rattle.call_writes.specs.PaymentLaws.{HasTried, UndoesItsTrials, WillPay}
use Rattle.call_writes.specs.Payments.{decided, owes_now}
use Rattle.call_writes.specs.Paying.{IsPaying}

-- ---- what is due at rest

-- what a call owes at rest
abbrev pub at_rest : Due → CallWrites
at_rest due = record { due = due; access = None }

module _ (hash : RecordKey → ℕ) (seat : ℕ) (names : List Lock) (p : Plan) (trials : CallWrites) (records : Records)
    (pool : PoolState) (locks : Table) (change : Change)
    (c : IsCarrying hash seat names p trials records pool locks change) (rests : trials.access ≡ None) where
  carries_at : (due : Due) → CanGoOn p due records →
      IsCarrying hash seat names p (at_rest due) records pool locks change
  carries_at due can = record {
    small = c.small;
    sees = record { honest = c.sees.honest; file = c.sees.file; sound = c.sees.sound; known = tt };
    bare = c.bare;
    row = c.row ∙ ap (λ (o : Option AccessView). locks_under o names) rests;
    own = c.own;
    stands = c.stands;
    can = can;
    doing = tt;
    going = tt;
  }

  pub pays_at : (due : Due) → decided_at due ≡ due → CanGoOn p due records →
      IsPaying hash seat names p (stages.Writing (at_rest due)) records pool locks change
  pays_at due is can = record { carries = carries_at due can; decided = is }

  pub undoes : (standing : ℕ) → trials.due ≡ Full standing →
      IsPaying hash seat names p (stages.Writing (decided trials.due)) records pool locks change
      × (owes_now p (stages.Writing (decided trials.due)) ≡ owed.Writes (owed.undoing (take standing p.trials)))
  undoes standing due =
      let is : decided_at trials.due ≡ Undoing standing = ap decided_at due in (
        subst (λ (x : Due). IsPaying hash seat names p (stages.Writing (at_rest x)) records pool locks change) (sym is)
            (pays_at (Undoing standing) refl
            (can_undo p standing records (subst (λ (x : Due). CanGoOn p x records) due c.can))),
        ap (λ (x : Due). owes p x) is,
      )

pub undoes_its_trials : UndoesItsTrials
undoes_its_trials hash seat names p trials records pool locks change standing c rests due =
    undoes hash seat names p trials records pool locks change c rests standing due

-- ---- the decision

module _ (hash : RecordKey → ℕ) (seat : ℕ) (names : List Lock) (held : List LockName) (p : Plan) (trials : CallWrites)
    (records : Records) (s : State) (pool : PoolState) (locks : Table) (change : Change)
    (t : HasTried hash seat names held p trials records s pool locks change) where
  -- the writes are due from the first one on
  pub will_write : (last : Records) → CanGoOn p (Writing 0) records → OwesUnder held (owed.Writes (writes_of p)) →
      AreAlike held (overlaid (owed.Writes (writes_of p)) records) last →
      WillPay hash seat names held p (stages.Writing (decided trials.due)) records last pool locks change
  will_write last can own leads =
      let is : decided_at trials.due ≡ Writing 0 = ap decided_at t.due in
      subst (λ (x : Due). WillPay hash seat names held p (stages.Writing (at_rest x)) records last pool locks change)
      (sym is) (record {
        pays = pays_at hash seat names p trials records pool locks change t.carries t.rests (Writing 0) refl can;
        own = own;
        leads = leads;
      })

  pub answer_pays : (c : Caller) (call : Call) (answer : Answer)
      (is : IsAnswer c call held p.trials answer (owed.Writes (writes_of p)) s) →
      WillPay hash seat names held p (stages.Writing (decided trials.due)) records (record_of is.after) pool locks
      change
  answer_pays c call answer is = will_write (record_of is.after)
      (record { owed = is.owes.can records t.alike; in_range = is.owes.in_range; may = tt }) is.owes.own
      (is.owes.leads records t.alike)

  pub waiting_pays : (c : Caller) (call : Call) → HasToWait c call s p →
      WillPay hash seat names held p (stages.Writing (decided trials.due)) records records pool locks change
  waiting_pays c call is = will_write records (record {
    owed = subst (λ (ws : List Write). CanAllBe ws records) (sym none) tt;
    in_range = subst (λ (ws : List Write). All HasRange ws) (sym none) (All-nil HasRange);
    may = tt;
  }) (subst (λ (ws : List Write). OwesUnder held (owed.Writes ws)) (sym none) (λ key owes. absurd cc))
      (λ key under. ap (λ (ws : List Write). written ws records key) none)
    where
      none : writes_of p ≡ []
      none = ap writes_of is.idle
