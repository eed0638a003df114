-- A desk that serves a system stays on the file of the last commit, whatever is asked of it.
use Rattle.std.proofs.Common.{◌≡◌, refl, sym, ap, ◌∙◌, Bool, true, false, List, ℕ, Option, Some, None, Result, Ok, Err, length}
use Rattle.std.specs.Prelude.{◌||◌}
use Rattle.safe_device.specs.Device.{DeviceState}
use Rattle.safe_device.specs.Left.{Left}
use Rattle.interleavings.specs.LoneKernelWords.{Answer, State}
use Rattle.session.specs.Session.{saved_of}
use Rattle.session.specs.declared.unanswered.Unanswered.{Unanswered}
use Rattle.session.specs.declared.unanswered.Unanswered.TheVariants.{Waits, NoRoom, NoMemory, Failed}
use Rattle.desk.specs.Desk.{Asks, Becomes, DeskState, Serves, Tells}
use Rattle.desk.specs.History.{is_failure, tells_failure}
use Rattle.desk.specs.declared.asking.Asking.{Asking}
use Rattle.desk.specs.declared.asking.Told.{Told}
use Rattle.durable_desk.specs.Durable.{IsCommitted, IsDurable}

both_false : (a b : Bool) → (a || b) ≡ false → (a ≡ false) × (b ≡ false)
both_false false b none = (refl, none)
both_false true b none = absurd cc

-- a call that has not failed leaves a system that is served
served_after : (a : Asking) (s : State) (told : Result Answer Unanswered) (old new : DeskState) →
    is_failure told ≡ false → Becomes a s told old new → (t : State) × Serves t new
served_after a s (Ok answer) old new fine becomes = (becomes.after, becomes.serves)
served_after a s (Err Waits) old new fine becomes = (s, becomes.serves)
served_after a s (Err NoRoom) old new fine becomes = (s, becomes.serves)
served_after a s (Err NoMemory) old new fine becomes = (s, becomes)
served_after a s (Err Failed) old new fine becomes = absurd cc

module _ {P : Type 0} (honest : Bool) (may_leave : P → Left → Type 0) (old new : DeskState) (device : DeviceState P)
  where
    -- it serves another system, and the pages were saved as before
    stays : IsCommitted honest may_leave old device → (t : State) → Serves t new →
        saved_of new.session ≡ saved_of old.session → IsCommitted honest may_leave new device
    stays is t serves same = record {
      served = t;
      serves = serves;
      many = is.many ∙ sym (ap length same);
      saved = λ sound. is.saved sound ∙ sym same;
      ready = is.ready;
    }

    pub asked_durable : (a : Asking) (told : Result Answer Unanswered) (failed : Bool) →
        IsDurable honest may_leave old device failed → Asks a told old new →
        IsDurable honest may_leave new device (failed || is_failure told)
    asked_durable a told failed is asks = record {
      sound = λ none.
          let fine = both_false failed (is_failure told) none in
          let was = is.sound fine.0 in
          let after = served_after a was.served told old new fine.1 (asks.asked was.served was.serves).becomes in
          stays was after.0 after.1 asks.saved;
    }

    told_after : (told : Option Told) (noted : List ℕ) → tells_failure told ≡ false → Tells told noted old new →
        (s : State) → Serves s old → (t : State) × Serves t new
    told_after None noted fine tells s serves = (s, (tells.becomes s serves).serves)
    told_after (Some told) noted fine tells s serves =
        let first = tells.becomes s serves in
        served_after first.told_at.asking s told.reply first.now new fine first.told_at.becomes

    pub told_durable : (told : Option Told) (noted : List ℕ) (failed : Bool) →
        IsDurable honest may_leave old device failed → Tells told noted old new →
        IsDurable honest may_leave new device (failed || tells_failure told)
    told_durable told noted failed is tells = record {
      sound = λ none.
          let fine = both_false failed (tells_failure told) none in
          let was = is.sound fine.0 in
          let after = told_after told noted fine.1 tells was.served was.serves in
          stays was after.0 after.1 tells.saved;
    }
