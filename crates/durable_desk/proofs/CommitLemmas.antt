-- A commit, step by step: the pages are written, the device is synced, and it is noted.
use Rattle.std.proofs.Common.{arith, ℕ, ◌≡◌, ◌≤◌, ◌<◌, ◌+◌, inl, inr, ⊎_elim, IsTrue, refl, sym, ap, ◌∙◌, subst, Bool, true, false, List, [], Option, Some, None, Err, length}
use Rattle.std.specs.Prelude.{slice_set}
use Rattle.session.proofs.ChangedLemmas.{risen-since}
use Rattle.page_device.specs.Device.{DiffersAtMostAt, HasCause, MayMeetTheEnd}
use Rattle.page_device.specs.declared.fault.DeviceFault.{DeviceFault}
use Rattle.page_device.specs.declared.fault.DeviceFault.TheVariants as devices
use Rattle.safe_device.specs.Crash.{Keeps, LeavesOnly}
use Rattle.safe_device.specs.Device.{Commits, DeviceState, HasNoted, Notes, StaysCommitted, held}
use Rattle.safe_device.specs.Left.{Left, Saved, alone, with_calls}
use Rattle.safe_device.specs.Safe.{IsEither, StandsFor, committed}
use Rattle.safe_device.specs.declared.journal.Journal.{Journal}
use Rattle.bucket_page.specs.Pseudokeys.{sha_key}
use Rattle.interleavings.specs.LoneKernelWords.{IsFileOf, State, restarted}
use Rattle.session.specs.Session.{AreItsPages, AreSaved, GivesPage, NotesSave, PagesAreTheFile, TellsChanges, pages_of, saved_of}
use Rattle.session.proofs.WriteLemmas.{AreWrittenTo, Pages, all_written, none_written, one_more, same_pages, still_its, told_as, up_to, write_failed}
use Rattle.call_entries.specs.Log.{LogState, empty}
use Rattle.desk.specs.Desk.{DeskState, KeepsServing, Serves}
use Rattle.durable_desk.specs.Durable.{FailsToCommit, HasCommitted, IsCommitted, IsCutShortOn, IsLastOrComes}
use Rattle.durable_desk.specs.Saved.{ComesTo, ComesWith}
use Rattle.durable_desk.specs.Commit.{HasWritten, LeavesTheLast}
use Rattle.durable_desk.specs.declared.commit.Uncommitted.TheVariants.{Device}
use Rattle.durable_desk.proofs.MomentLemmas.{joined, started, weaker}
use Rattle.durable_desk.proofs.SavedLemmas.{none_more, noted_more, of_pages}

-- ---- words

still : (d : DeskState) → KeepsServing d d
still d = record { serves = λ s serves. serves; waiting = refl; most = refl }

on : (old mid new : DeskState) → KeepsServing old mid → KeepsServing mid new → KeepsServing old new
on old mid new first then = record {
  serves = λ s serves. then.serves s (first.serves s serves);
  waiting = then.waiting ∙ first.waiting;
  most = then.most ∙ first.most;
}

module _ {P : Type 0} (honest : Bool) (file : P → Pages) (journal : P → Option Journal) (moment : P → ℕ)
    (left_since : P → ℕ → Left → Type 0) (may_leave : P → Left → Type 0) where
  -- what is so while the pages are written: those before this one are
  pub record IsWriting (from : ℕ) (desk now : DeskState) (device then : DeviceState P) : Type 0 where
    pub keeps : KeepsServing desk now
    pub saved : saved_of now.session ≡ saved_of desk.session
    pub as_many : pages_of now.session ≡ pages_of desk.session
    pub written : IsTrue honest → (s : State) → Serves s desk →
        AreWrittenTo from (saved_of desk.session) then.content now.session
    pub many : length then.content ≡ length device.content
    pub usable : IsTrue honest → then.is_broken ≡ false
    pub later : device.failed ≤ then.failed
    pub stays : IsTrue honest → committed file journal then.pair ≡ held device
    pub unseen : LeavesTheLast honest moment left_since device then
    pub none : from ≡ 0 → (now ≡ desk) × (then ≡ device)

  pub begun : (desk : DeskState) (device : DeviceState P) → IsCommitted honest may_leave desk device →
      ((c : Left) → left_since device.pair (moment device.pair) c → may_leave device.pair c) →
      (IsTrue honest → may_leave device.pair (record { file = file device.pair; journal = journal device.pair })) →
      IsWriting 0 desk desk device device
  begun desk device is only_now seen = record {
    keeps = still desk;
    saved = refl;
    as_many = refl;
    written = λ sound s serves. none_written (saved_of desk.session) device.content desk.session (is.saved sound);
    many = refl;
    usable = λ sound. (is.ready sound).usable;
    later = omega arith;
    stays = λ sound. (is.ready sound).kept _ (seen sound);
    unseen = λ sound.
        started moment left_since may_leave device.pair (StandsFor (held device)) only_now (is.ready sound).kept;
    none = λ zero. (refl, refl);
  }

  module _ (from : ℕ) (desk now : DeskState) (device then : DeviceState P)
      (is : IsCommitted honest may_leave desk device) (so_far : IsWriting from desk now device then) where
    serves_now : Serves is.served now
    serves_now = so_far.keeps.serves is.served is.serves

    -- the next page that may have changed is there
    pub is_there : (page : ℕ) → pages_of desk.session ≡ length (saved_of desk.session) →
        TellsChanges from (Some page) now.session →
        (page < pages_of now.session) × (page < length then.content) × (from ≤ page)
    is_there page count told =
        let next = told is.served serves_now.holds in
        let within = next.within in
        let behind = next.behind in
        let a = so_far.as_many in
        let b = so_far.many in
        let c = is.many in
        (within, omega (arith, within, a, b, c, count), behind)

    -- the device has so many pages
    as_many_there : pages_of desk.session ≡ length (saved_of desk.session) →
        length then.content ≡ pages_of now.session
    as_many_there count = so_far.many ∙ is.many ∙ sym count ∙ sym so_far.as_many

    -- ---- one more

    module _ (page : ℕ) (bytes : List ℕ) (after : DeskState) (next : DeviceState P)
        (count : pages_of desk.session ≡ length (saved_of desk.session))
        (told : TellsChanges from (Some page) now.session)
        (gives : GivesPage page (Some bytes) now.session after.session) (kept : KeepsServing now after) where
      pub one_written : (IsTrue honest → next.content ≡ slice_set then.content page bytes) →
          DiffersAtMostAt page then.content next.content → then.failed ≤ next.failed →
          StaysCommitted honest file journal moment left_since true then next →
          IsWriting (page + 1) desk after device next
      one_written put others later stays = record {
        keeps = on desk now after so_far.keeps kept;
        saved = gives.saved ∙ so_far.saved;
        as_many = gives.many ∙ so_far.as_many;
        written = λ sound s serves.
            let holds = (so_far.keeps.serves s serves).holds in
            let given = gives.becomes s holds in
            let next_is = told s holds in
            let behind = next_is.behind in
            one_more page bytes (saved_of desk.session) then.content next.content now.session after.session
            (up_to from page (saved_of desk.session) then.content now.session (so_far.written sound s serves)
            so_far.saved next_is.others)
            (λ n past. (so_far.written sound s serves).others n (omega (arith, past, behind)))
            ((is_there page count told).1) given.is given.images (put sound);
        many = others.as_many ∙ so_far.many;
        usable = λ sound. stays.usable refl;
        later = let before = so_far.later in omega (arith, before, later);
        stays = λ sound. stays.stays sound refl ∙ so_far.stays sound;
        unseen = λ sound. on_unseen sound (stays.any_moment sound (so_far.usable sound));
        none = λ zero. absurd (omega arith);
      }
        where
          on_unseen : IsTrue honest →
              LeavesOnly moment left_since then.pair next.pair (StandsFor (committed file journal then.pair)) →
              LeavesOnly moment left_since device.pair next.pair (StandsFor (held device))
          on_unseen sound run = joined moment left_since device.pair then.pair next.pair (StandsFor (held device))
              (StandsFor (committed file journal then.pair)) (StandsFor (held device)) (so_far.unseen sound) run
              (λ c has. has) (λ c has. has ∙ so_far.stays sound)

      -- or its write fails
      pub not_written : (fault : DeviceFault) →
          HasCause {T = Unit {0}} MayMeetTheEnd then.failed next.failed (Err fault) →
          (fault ≡ devices.PastEnd → length then.content ≤ page) → FailsToCommit Device desk after device next
      not_written fault cause past = (
        on desk now after so_far.keeps kept,
        risen-since device.failed then.failed next.failed so_far.later
            (write_failed fault page (length then.content) then.failed next.failed ((is_there page count told).1)
            cause.told past (λ is. cause.failed (told_as fault devices.Device is))),
      )

      pub unseen_still : StaysCommitted honest file journal moment left_since false then next →
          LeavesTheLast honest moment left_since device next
      unseen_still stays = λ sound.
          joined moment left_since device.pair then.pair next.pair (StandsFor (held device))
          (StandsFor (committed file journal then.pair)) (StandsFor (held device)) (so_far.unseen sound)
          (stays.any_moment sound (so_far.usable sound)) (λ c has. has) (λ c has. has ∙ so_far.stays sound)

    -- ---- all are

    all_are : (some : Bool) → pages_of desk.session ≡ length (saved_of desk.session) →
        (IsTrue honest → (s : State) → Serves s desk → AreItsPages then.content now.session) →
        (some ≡ false → from ≡ 0) → HasWritten honest file journal some desk now device then
    all_are some count its zero = record {
      keeps = so_far.keeps;
      its = its;
      many = as_many_there count;
      usable = so_far.usable;
      later = so_far.later;
      stays = so_far.stays;
      none = λ unchanged. so_far.none (zero unchanged);
    }

    pub none_left : (some : Bool) → pages_of desk.session ≡ length (saved_of desk.session) →
        TellsChanges from None now.session → (some ≡ false → from ≡ 0) →
        HasWritten honest file journal some desk now device then
    none_left some count told zero = all_are some count (λ sound s serves.
        all_written (saved_of desk.session) then.content now.session (as_many_there count)
        (up_to from (pages_of now.session) (saved_of desk.session) then.content now.session
        (so_far.written sound s serves) so_far.saved (told s (so_far.keeps.serves s serves).holds))) zero

    pub none_behind : (some : Bool) → pages_of desk.session ≡ length (saved_of desk.session) →
        pages_of desk.session ≤ from → (some ≡ false → from ≡ 0) →
        HasWritten honest file journal some desk now device then
    none_behind some count past zero = all_are some count (λ sound s serves.
        let same = so_far.as_many in
        all_written (saved_of desk.session) then.content now.session (as_many_there count) (λ page within.
        (so_far.written sound s serves).below page (omega (arith, within, past, same)))) zero

  -- ---- they are synced, and it is noted

  module _ (some : Bool) (desk mid : DeskState) (device then : DeviceState P)
      (is : IsCommitted honest may_leave desk device)
      (wrote : HasWritten honest file journal some desk mid device then) (law : PagesAreTheFile) where
    is_file : IsTrue honest → (s : State) → Serves s desk → IsFileOf sha_key then.content (restarted s)
    is_file sound s serves =
        law s mid.session then.content (wrote.keeps.serves s serves).holds (wrote.its sound s serves)

    -- nothing had changed, and there are no calls
    pub stays_committed : (log rest : LogState) → some ≡ false → (IsTrue honest → then.calls ≡ []) → rest ≡ empty →
        HasCommitted honest may_leave desk mid log rest device then
    stays_committed log rest none calls is_empty =
        let same = wrote.none none in
        record {
          keeps = wrote.keeps;
          comes = λ sound s serves behind.
              subst (λ (cs : List (List ℕ)). ComesTo (record { pages = then.content; calls = cs }) (restarted s))
              (sym (calls sound)) (of_pages then.content (restarted s) (is_file sound s serves));
          none = is_empty;
          committed = subst (λ (d : DeskState). IsCommitted honest may_leave d then) (sym same.0)
              (subst (λ (d : DeviceState P). IsCommitted honest may_leave desk d) (sym same.1) is);
        }

    pub is_committed : (log rest : LogState) (next : DeviceState P) (after : DeskState) →
        next.content ≡ then.content → (IsTrue honest → next.calls ≡ []) → next.is_broken ≡ false →
        (IsTrue honest → Keeps (StandsFor (alone then.content)) (may_leave next.pair)) →
        NotesSave true mid.session after.session → KeepsServing mid after → rest ≡ empty →
        HasCommitted honest may_leave desk after log rest device next
    is_committed log rest next after same calls usable durable notes kept is_empty = record {
      keeps = on desk mid after wrote.keeps kept;
      comes = λ sound s serves behind.
          subst (λ (saved : Saved). ComesTo saved (restarted s)) (holds sound)
          (of_pages then.content (restarted s) (is_file sound s serves));
      none = is_empty;
      committed = record {
        served = is.served;
        serves = kept.serves is.served serves_mid;
        many = ap length same ∙ wrote.many ∙ sym notes.many ∙ sym all.all.many;
        saved = λ sound.
            same ∙ same_pages then.content (saved_of after.session) after.session
            (still_its then.content mid.session after.session all.images notes.many
            (wrote.its sound is.served is.serves))
            all.all;
        ready = λ sound. record {
          usable = usable;
          kept = subst (λ (saved : Saved). Keeps (StandsFor saved) (may_leave next.pair)) (holds sound) (durable sound);
        };
      };
    }
      where
        holds : IsTrue honest → alone then.content ≡ held next
        holds sound = λ i. record { pages = sym same i; calls = sym (calls sound) i }

        serves_mid : Serves is.served mid
        serves_mid = wrote.keeps.serves is.served is.serves

        all : AreSaved is.served mid.session after.session
        all = notes.becomes is.served serves_mid.holds

    -- a crash meanwhile
    pub cut_short : (log : LogState) (succeeded : Bool) (next : DeviceState P) →
        LeavesTheLast honest moment left_since device then →
        Commits honest file journal moment left_since succeeded then next →
        IsCutShortOn honest moment left_since desk log device next
    cut_short log succeeded next unseen commits sound s serves behind =
        joined moment left_since device.pair then.pair next.pair (StandsFor (held device))
        (IsEither (committed file journal then.pair) (alone then.content)) (IsLastOrComes (held device) s)
        (unseen sound) (commits.any_moment sound (wrote.usable sound)) (λ c has. inl has)
        (λ c has. ⊎_elim (λ last. inl (last ∙ wrote.stays sound)) (λ now.
        inr (subst (λ (saved : Saved). ComesTo saved (restarted s)) (sym now)
        (of_pages then.content (restarted s) (is_file sound s serves)))) has)

    -- nothing but writes was done
    pub cut_unseen : (log : LogState) (next : DeviceState P) → LeavesTheLast honest moment left_since device next →
        IsCutShortOn honest moment left_since desk log device next
    cut_unseen log next unseen sound s serves behind =
        weaker moment left_since device.pair next.pair (StandsFor (held device)) (IsLastOrComes (held device) s)
        (unseen sound) (λ c has. inl has)

  -- ---- calls are noted

  module _ (desk : DeskState) (log rest : LogState) (device then : DeviceState P)
      (is : IsCommitted honest may_leave desk device)
      (seen : IsTrue honest → may_leave device.pair (record { file = file device.pair; journal = journal device.pair }))
    where
      it_holds : IsTrue honest → committed file journal device.pair ≡ held device
      it_holds sound = (is.ready sound).kept _ (seen sound)

      -- the log was behind, and is in the journal
      pub is_noted : IsTrue log.is_whole → then.content ≡ device.content → HasNoted honest log.bytes device then →
          (IsTrue honest → Keeps (StandsFor (with_calls log.bytes (committed file journal device.pair)))
          (may_leave then.pair)) → rest ≡ empty → HasCommitted honest may_leave desk desk log rest device then
      is_noted whole same noted durable is_empty = record {
        keeps = still desk;
        comes = λ sound s serves behind.
            subst (λ (saved : Saved). ComesTo saved (restarted s)) (holds sound)
            (noted_more (held device) log.bytes (restarted s) (behind whole));
        none = is_empty;
        committed = record {
          served = is.served;
          serves = is.serves;
          many = ap length same ∙ is.many;
          saved = λ sound. same ∙ is.saved sound;
          ready = λ sound. record {
            usable = noted.usable;
            kept = subst (λ (saved : Saved). Keeps (StandsFor saved) (may_leave then.pair))
                (ap (with_calls log.bytes) (it_holds sound) ∙ holds sound) (durable sound);
          };
        };
      }
        where
          holds : IsTrue honest → with_calls log.bytes (held device) ≡ held then
          holds sound = λ i. record { pages = sym same i; calls = sym (noted.calls_are sound) i }

      pub noted_short : IsTrue log.is_whole → (succeeded : Bool) →
          Notes honest file journal moment left_since log.bytes succeeded device then →
          IsCutShortOn honest moment left_since desk log device then
      noted_short whole succeeded notes sound s serves behind =
          weaker moment left_since device.pair then.pair
          (IsEither (committed file journal device.pair) (with_calls log.bytes (committed file journal device.pair)))
          (IsLastOrComes (held device) s) (notes.any_moment sound (is.ready sound).usable)
          (λ c has. ⊎_elim (λ last. inl (last ∙ it_holds sound)) (λ now.
          inr (subst (λ (saved : Saved). ComesTo saved (restarted s))
          (sym (now ∙ ap (with_calls log.bytes) (it_holds sound)))
          (noted_more (held device) log.bytes (restarted s) (behind whole)))) has)

      -- nothing was to be noted
      pub none_noted : IsTrue log.is_whole → log.bytes ≡ [] → rest ≡ empty →
          HasCommitted honest may_leave desk desk log rest device device
      none_noted whole nothing is_empty = record {
        keeps = still desk;
        comes = λ sound s serves behind. none_more (held device) (restarted s)
            (subst (λ (xs : List ℕ). ComesWith (held device) xs (restarted s)) nothing (behind whole));
        none = is_empty;
        committed = is;
      }

      pub none_short : ((c : Left) → left_since device.pair (moment device.pair) c → may_leave device.pair c) →
          IsCutShortOn honest moment left_since desk log device device
      none_short only_now sound s serves behind =
          started moment left_since may_leave device.pair (IsLastOrComes (held device) s) only_now
          (λ c left. inl ((is.ready sound).kept c left))
