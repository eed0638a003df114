-- The pages of a session that have changed are written to another device, one after another.
use Rattle.std.proofs.Common.{arith, inl, inr, ℕ, ◌≡◌, ◌≤◌, ◌<◌, ◌+◌, IsTrue, refl, sym, ◌∙◌, subst, Bool, List, Some, None, Ok, Err, length}
use Rattle.std.specs.Prelude.{nat_lt, slice_set}
use Rattle.page_device.specs.Device.{DiffersAtMostAt, HasCause, HasRisen, MayMeetTheEnd}
use Rattle.page_device.specs.declared.fault.DeviceFault.{DeviceFault}
use Rattle.page_device.specs.declared.fault.DeviceFault.TheVariants as devices
use Rattle.interleavings.specs.LoneKernelWords.{State}
use Rattle.session.specs.Session.{AreAsSaved, GivesPage, HasFailed, Holds, SessionState, TellsChanges, caller_of, pages_of, saved_of}
use Rattle.session.specs.Writing.{WritesChanged}
use Rattle.session.specs.declared.writing.Unwritten.TheVariants.{Device, Session}
use Rattle.session.proofs.WriteLemmas.{AreWrittenTo, Pages, all_written, none_written, one_more, told_as, up_to, write_failed, zero_of}

-- a count that rose since later rose since earlier
pub risen-since : (first old new : ℕ) → first ≤ old → HasRisen old new → HasRisen first new
risen-since first old new before (inl more) = inl (omega (arith, before, more))
risen-since first old new before (inr most) = inr most

module _ {E : Type 0} (content : E → Pages) (is_honest : E → Bool) (fault_count : E → ℕ) where
  -- what is so while the pages are written: those before this one are
  pub record IsWriting (from : ℕ) (old now : SessionState) (device then : E) : Type 0 where
    pub holds : (s : State) → Holds s old → Holds s now
    pub images : (s : State) → Holds s old → now.pool.images ≡ old.pool.images
    pub written : IsTrue (is_honest device) → content device ≡ saved_of old → (s : State) → Holds s old →
        AreWrittenTo from (saved_of old) (content then) now
    pub caller : caller_of now ≡ caller_of old
    pub many : pages_of now ≡ pages_of old
    pub saved : saved_of now ≡ saved_of old
    pub failed : old.pool.faults ≤ now.pool.faults
    pub as_many : length (content then) ≡ length (content device)
    pub honest : is_honest then ≡ is_honest device
    pub later : fault_count device ≤ fault_count then
    pub none : from ≡ 0 → (now ≡ old) × (then ≡ device)

  pub begun : (old : SessionState) (device : E) → IsWriting 0 old old device device
  begun old device = record {
    holds = λ s holds. holds;
    images = λ s holds. refl;
    written = λ sound same s holds. none_written (saved_of old) (content device) old same;
    caller = refl;
    many = refl;
    saved = refl;
    failed = omega arith;
    as_many = refl;
    honest = refl;
    later = omega arith;
    none = λ zero. (refl, refl);
  }

  module _ (from : ℕ) (old now : SessionState) (device then : E) (so_far : IsWriting from old now device then)
      (fits : length (content device) ≡ pages_of old) where
    -- the device has so many pages
    there : length (content then) ≡ pages_of now
    there = so_far.as_many ∙ fits ∙ sym so_far.many

    -- ---- one more

    module _ (page : ℕ) (told : TellsChanges from (Some page) now) (within : page < pages_of now) where
      -- it can't be told
      pub not_given : (after : SessionState) → GivesPage page None now after →
          WritesChanged content is_honest fault_count (Err Session) old after device then
      not_given after gives = record {
        written = λ sound same s holds. tt;
        none = λ is. absurd cc;
        cause = λ s holds. failed s holds;
        as_many = so_far.as_many;
        honest = so_far.honest;
        later = so_far.later;
        caller = gives.caller ∙ so_far.caller;
        many = gives.many ∙ so_far.many;
        saved = gives.saved ∙ so_far.saved;
      }
        where
          failed : (s : State) → Holds s old → HasFailed old after
          failed s holds =
              let has = gives.becomes s (so_far.holds s holds) in
              record {
                failed = has.failed;
                cause = risen-since old.pool.faults now.pool.faults after.pool.faults so_far.failed has.cause;
              }

      module _ (bytes : List ℕ) (after : SessionState) (next : E) (gives : GivesPage page (Some bytes) now after)
          (others : DiffersAtMostAt page (content then) (content next)) (honest : is_honest next ≡ is_honest then)
          (later : fault_count then ≤ fault_count next) where
        pub one_written : (IsTrue (is_honest then) → content next ≡ slice_set (content then) page bytes) →
            IsWriting (page + 1) old after device next
        one_written put = record {
          holds = λ s holds. (gives.becomes s (so_far.holds s holds)).holds;
          images = λ s holds. (gives.becomes s (so_far.holds s holds)).images ∙ so_far.images s holds;
          written = λ sound same s holds.
              let is = so_far.holds s holds in
              let given = gives.becomes s is in
              let next_is = told s is in
              let behind = next_is.behind in
              let done = so_far.written sound same s holds in
              one_more page bytes (saved_of old) (content then) (content next) now after
              (up_to from page (saved_of old) (content then) now done so_far.saved next_is.others)
              (λ n past. done.others n (omega (arith, past, behind)))
              (subst (λ (m : ℕ). page < m) (sym there) within) given.is given.images
              (put (subst IsTrue (sym so_far.honest) sound));
          caller = gives.caller ∙ so_far.caller;
          many = gives.many ∙ so_far.many;
          saved = gives.saved ∙ so_far.saved;
          failed = let before = so_far.failed in let now_later = gives.later in omega (arith, before, now_later);
          as_many = others.as_many ∙ so_far.as_many;
          honest = honest ∙ so_far.honest;
          later = let before = so_far.later in omega (arith, before, later);
          none = λ zero. absurd (omega arith);
        }

        -- or its write fails
        pub not_written : (fault : DeviceFault) →
            HasCause {T = Unit {0}} MayMeetTheEnd (fault_count then) (fault_count next) (Err fault) →
            (fault ≡ devices.PastEnd → length (content then) ≤ page) →
            WritesChanged content is_honest fault_count (Err Device) old after device next
        not_written fault cause past = record {
          written = λ sound same s holds. tt;
          none = λ is. absurd cc;
          cause = risen-since (fault_count device) (fault_count then) (fault_count next) so_far.later
              (write_failed fault page (length (content then)) (fault_count then) (fault_count next)
              (subst (λ (m : ℕ). page < m) (sym there) within) cause.told past
              (λ is. cause.failed (told_as fault devices.Device is)));
          as_many = others.as_many ∙ so_far.as_many;
          honest = honest ∙ so_far.honest;
          later = let before = so_far.later in omega (arith, before, later);
          caller = gives.caller ∙ so_far.caller;
          many = gives.many ∙ so_far.many;
          saved = gives.saved ∙ so_far.saved;
        }

    -- ---- all are

    all_are : ((s : State) → Holds s old → AreAsSaved from (pages_of now) now) →
        WritesChanged content is_honest fault_count (Ok (nat_lt 0 from)) old now device then
    all_are rest = record {
      written = λ sound same s holds. record {
        its = all_written (saved_of old) (content then) now there
            (up_to from (pages_of now) (saved_of old) (content then) now (so_far.written sound same s holds)
            so_far.saved (rest s holds));
        holds = so_far.holds s holds;
        images = so_far.images s holds;
      };
      none = λ is. so_far.none (zero_of from cc);
      cause = tt;
      as_many = so_far.as_many;
      honest = so_far.honest;
      later = so_far.later;
      caller = so_far.caller;
      many = so_far.many;
      saved = so_far.saved;
    }

    -- no page is left that has changed
    pub none_left : TellsChanges from None now →
        WritesChanged content is_honest fault_count (Ok (nat_lt 0 from)) old now device then
    none_left told = all_are (λ s holds. told s (so_far.holds s holds))

    -- all were looked at
    pub none_behind : pages_of old ≤ from →
        WritesChanged content is_honest fault_count (Ok (nat_lt 0 from)) old now device then
    none_behind past = all_are (λ s holds page behind before.
        let same = so_far.many in absurd (omega (arith, past, behind, before, same)))
