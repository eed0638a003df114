-- What a crash leaves since a beginning, as more is done.
use Rattle.std.proofs.Common.{arith, ℕ, ◌≡◌, ◌≤◌, inl, inr, ⊎_elim, IsTrue, refl, sym, ap, ◌∙◌, subst, Bool, true, false, List, Option}
use Rattle.std.specs.Prelude.{is_ok, IfErr, IsErrOf, OnOk, Ok, Err, Result}
use Rattle.page_device.specs.Device.{HasCause, HasRisen, MayOnlyFail}
use Rattle.page_device.specs.declared.fault.DeviceFault.{DeviceFault}
use Rattle.page_device.specs.declared.fault.DeviceFault.TheVariants as devices
use Rattle.safe_device.specs.Crash.{Keeps, LeavesOnly}
use Rattle.safe_device.specs.Device.{DeviceState, StaysCommitted}
use Rattle.safe_device.specs.Device as device
use Rattle.safe_device.specs.Left.{Left, alone}
use Rattle.safe_device.specs.Safe.{IsEither, StandsFor, committed}
use Rattle.safe_device.specs.declared.journal.Journal.{Journal}
use Rattle.deferred_sync.specs.Deferred.{Commits, IsLent, IsSettled, LeavesSince, Start, start_of}

abbrev pub Pages : Type 0
Pages = List (List ℕ)

-- a sync fails only as a transfer does
sync_failed : (fault : DeviceFault) (a b : ℕ) → MayOnlyFail fault →
    (IsErrOf {T = Unit {0}} (Err fault) devices.Device → HasRisen a b) → HasRisen a b
sync_failed devices.Device a b may failed = failed refl
sync_failed devices.BadDigest a b may failed = absurd may
sync_failed devices.PastEnd a b may failed = absurd may
sync_failed devices.DeviceFull a b may failed = absurd may
sync_failed devices.NoMemory a b may failed = absurd may

-- and has failed since an earlier moment
risen_since : (a b c : ℕ) → a ≤ b → HasRisen b c → HasRisen a c
risen_since a b c le risen = ⊎_elim (λ more. inl (omega arith)) (λ most. inr most) risen

-- a device is lent as it is
pub lent : {P : Type 0} (moment : P → ℕ) (left_since : P → ℕ → Left → Type 0) (may_leave : P → Left → Type 0)
    (honest : Bool) (device : DeviceState P) →
    ((c : Left) → left_since device.pair (moment device.pair) c → may_leave device.pair c) →
    (IsTrue honest → IsSettled may_leave device) →
    IsLent honest moment left_since (start_of moment device) (left_since device.pair) device
lent moment left_since may_leave honest device only_now settled = record {
  leaves = λ sure. record {
    later = omega arith;
    each = λ c left. (settled sure).kept c (only_now c left);
    before = λ t c le left. inl left;
  };
  later = omega arith;
}

module _ {P : Type 0} (honest : Bool) (file : P → Pages) (journal : P → Option Journal) (moment : P → ℕ)
    (left_since : P → ℕ → Left → Type 0) (may_leave : P → Left → Type 0) (start : Start) (left : ℕ → Left → Type 0)
  where
    abbrev Since : (Left → Type 0) → P → Type 0
    Since Q pair = LeavesSince moment left_since start.moment left Q pair

    -- a call more
    since : (old new : P) (Q R S : Left → Type 0) → Since Q old → LeavesOnly moment left_since old new R →
        ((c : Left) → Q c → S c) → ((c : Left) → R c → S c) → Since S new
    since old new Q R S so_far call q r = record {
      later = omega (arith, so_far.later, call.later);
      each = λ c is. ⊎_elim (λ was. q c (so_far.each c was)) (r c) (call.before start.moment c so_far.later is);
      before = λ t c le is.
          ⊎_elim (λ was. ⊎_elim (λ then. inl then) (λ then. inr (q c then)) (so_far.before t c le was))
          (λ now. inr (r c now))
          (call.before t c (omega (arith, le, so_far.later)) is);
    }

    module _ (seen : (pair : P) → IsTrue honest → may_leave pair (record { file = file pair; journal = journal pair }))
        (counts : (pair : P) (t : ℕ) (c : Left) → t ≤ moment pair → may_leave pair c → left_since pair t c) where
      -- what is read is what a crash may leave now
      still_committed : (pair : P) → IsTrue honest → Since (StandsFor (alone start.pages)) pair →
          committed file journal pair ≡ alone start.pages
      still_committed pair sure so_far = so_far.each _ (counts pair start.moment _ so_far.later (seen pair sure))

      -- a write or an extension commits nothing
      stays : (succeeded : Bool) (old new : DeviceState P) (broken : Bool) → old.is_broken ≡ broken →
          StaysCommitted honest file journal moment left_since succeeded old new →
          IsLent honest moment left_since start left old → IsTrue honest → Since (StandsFor (alone start.pages))
          new.pair
      stays succeeded old new true was call lent sure =
          subst (Since (StandsFor (alone start.pages))) (sym (call.broken was).0) (lent.leaves sure)
      stays succeeded old new false was call lent sure =
          let so_far = lent.leaves sure in
          since old.pair new.pair _ _ (StandsFor (alone start.pages)) so_far (call.any_moment sure was) (λ c is. is)
          (λ c is. is ∙ still_committed old.pair sure so_far)

      pub still_lent : (succeeded : Bool) (old new : DeviceState P) →
          StaysCommitted honest file journal moment left_since succeeded old new → old.failed ≤ new.failed →
          IsLent honest moment left_since start left old → IsLent honest moment left_since start left new
      still_lent succeeded old new call later lent = record {
        leaves = stays succeeded old new old.is_broken refl call lent;
        later = omega (arith, later, lent.later);
      }

      -- a sync commits what there is, or nothing
      either : (succeeded : Bool) (old new : DeviceState P) (broken : Bool) → old.is_broken ≡ broken →
          device.Commits honest file journal moment left_since succeeded old new →
          IsLent honest moment left_since start left old → IsTrue honest →
          Since (IsEither (alone start.pages) (alone old.content)) new.pair
      either succeeded old new true was call lent sure =
          subst (Since (IsEither (alone start.pages) (alone old.content))) (sym (call.broken was).0)
          (let is = lent.leaves sure in record {
            later = is.later;
            each = λ c then. inl (is.each c then);
            before = λ t c le then. ⊎_elim (λ was. inl was) (λ now. inr (inl now)) (is.before t c le then);
          })
      either succeeded old new false was call lent sure =
          let so_far = lent.leaves sure in
          since old.pair new.pair _ _ (IsEither (alone start.pages) (alone old.content)) so_far
          (call.any_moment sure was)
          (λ c is. inl is)
          (λ c is. ⊎_elim (λ then. inl (then ∙ still_committed old.pair sure so_far)) (λ now. inr now) is)

      -- so a device is committed
      pub commits : (told : Result (Unit {0}) DeviceFault) (old new : DeviceState P) →
          IsLent honest moment left_since start left old → new.content ≡ old.content →
          device.Commits honest file journal moment left_since (is_ok told) old new →
          HasCause MayOnlyFail old.failed new.failed told →
          (IsTrue honest → OnOk told (IsTrue new.is_synced)) →
          (IsTrue honest → OnOk told (Keeps (StandsFor (alone old.content)) (may_leave new.pair))) →
          OnOk told (device.HasEnded honest new) →
          Commits honest moment left_since may_leave start left old new (is_ok told)
      commits (Ok done) old new lent same call cause synced durable ended = record {
        same = same;
        leaves = either true old new old.is_broken refl call lent;
        settled = λ sure is. record { usable = ended.usable; kept = λ c may. durable sure c may ∙ ap alone (sym same) };
        synced = λ sure is. synced sure;
        failed = λ none. absurd cc;
      }
      commits (Err fault) old new lent same call cause synced durable ended = record {
        same = same;
        leaves = either false old new old.is_broken refl call lent;
        settled = λ sure is. absurd cc;
        synced = λ sure is. absurd cc;
        failed = λ is.
            risen_since start.failed old.failed new.failed lent.later
            (sync_failed fault old.failed new.failed cause.told cause.failed);
      }
