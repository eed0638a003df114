-- A command asked of a file in memory, and its end on the device.
use Rattle.std.proofs.Common.{◌≡◌, ℕ, ◌≤◌, inl, inr, List, length, Option, None, unwrap_or, Result, Ok, Err, IfOk, refl, sym, ap, subst}
use Rattle.session.proofs.ChangedLemmas.{risen-since}
use Rattle.page_device.specs.Device.{HasCause, HasRisen, MayOnlyFail}
use Rattle.page_device.specs.declared.fault.DeviceFault.{DeviceFault}
use Rattle.page_device.specs.declared.fault.DeviceFault.TheVariants as devices
use Rattle.interleavings.specs.LoneKernelWords.{Caller, State}
use Rattle.interleavings.specs.interleaving_core.declared.fault.CloseFault.TheVariants as closes
use Rattle.queue_commands.specs.Asking.{Asking}
use Rattle.queue_commands.specs.Coming.{Comes}
use Rattle.queue_commands.specs.Commands.{AsksAs}
use Rattle.queue_commands.specs.declared.error.AskError.{AskError}
use Rattle.queue_commands.specs.declared.error.AskError.TheVariants as asking
use Rattle.queue_commands.specs.declared.request.Request.{Request}
use Rattle.session.specs.Session.{Holds, Opens, PagesAreTheFile, SessionState, pages_of, saved_of}
use Rattle.session.specs.Writing.{FailsToWrite, HasWritten}
use Rattle.session.specs.declared.writing.Unwritten.{Unwritten}
use Rattle.session.specs.declared.writing.Unwritten.TheVariants as unwritten
use Rattle.session.specs.declared.unanswered.Unanswered.{Unanswered}
use Rattle.session.specs.declared.unanswered.Unanswered.TheVariants.{Failed}
use Rattle.command_runs.specs.Asking.{Lacks, Pages, Stands}
use Rattle.command_runs.specs.Faults.{of_asking}
use Rattle.command_runs.specs.Memory.{AsksFile, AsksFrom, ComesTo, IsAsked, MayNotDo}
use Rattle.command_runs.specs.Running.{EndsAs, EndsWith, HasFileOf, IfUnprinted, RunsOn, seen}
use Rattle.command_runs.specs.declared.asker.Asker.{Asker}
use Rattle.command_runs.specs.declared.error.CommandError.{CommandError}
use Rattle.command_runs.specs.declared.error.CommandError.TheVariants as errors
use Rattle.command_runs.specs.declared.running.Asked.{Asked}
use Rattle.command_runs.proofs.AskLemmas.{risen}

-- ---- it was asked in a session

-- on the file of a system it holds that, and no call was made in it
pub stands_opened : (c : Caller) (content : Pages) (k : SessionState) (opens : Opens c content k) →
    Stands content c opens.system (record { session = k; fault = None })
stands_opened c content k opens = record {
  holds = opens.holds;
  sits = opens.sits;
  answered = 0;
  has = opens;
  pages = opens.many;
  saved = opens.saved;
}

module _ (c : Caller) (r : Request) (content : Pages) (k : SessionState) (opens : Opens c content k) (x : Asker) where
  abbrev Is : Asking (List ℕ)
  Is = AsksAs c r opens.system

  abbrev Came : Result (List ℕ) AskError → Type 0
  Came came = Comes (λ s. Stands content c s x) (λ call s. Lacks content c call s x) Is came

  from : (came : Result Asked CommandError) → ComesTo c Is content came → AsksFrom c r content came
  from came comes = record { system = opens.system; file = opens.file; comes = comes }

  -- there is a text
  pub comes_to : (text : List ℕ) → Came (Ok text) →
      AsksFrom c r content (Ok (record { text = text; session = x.session }))
  comes_to text comes = from _ (record {
    system = comes.system;
    is = comes.is;
    holds = comes.stands.holds;
    pages = comes.stands.pages;
    saved = comes.stands.saved;
  })

  -- there is no text
  comes_none : (error : AskError) → x.session.pool.faults ≡ 0 → Came (Err error) →
      MayNotDo c Is content (of_asking error x.fault)
  comes_none (asking.Refused e) none comes = (comes.system, comes.is)
  comes_none asking.Unanswered none comes =
      subst (λ (fault : Option Unanswered). MayNotDo c Is content (errors.Unanswered (unwrap_or fault Failed)))
      (sym comes.cause.is)
      (record { call = comes.call; system = comes.system; at = comes.at; cause = comes.cause.cause none })
  comes_none asking.NoMemory none comes = tt

  pub comes_to_none : (error : AskError) → x.session.pool.faults ≡ 0 → Came (Err error) →
      AsksFrom c r content (Err (of_asking error x.fault))
  comes_to_none error none comes = from _ (comes_none error none comes)

-- its session has as many pages as the file
pub asked_pages : (c : Caller) (r : Request) (content : Pages) (came : Result Asked CommandError) →
    AsksFile c r content came → IfOk came (λ asked. pages_of asked.session ≡ length content)
asked_pages c r content (Ok asked) (inl from) = from.comes.pages
asked_pages c r content (Ok asked) (inr refused) = absurd (let told = refused.told in cc)
asked_pages c r content (Err error) asks = tt

-- no text of it was to be printed
pub never_unprinted : (c : Caller) (r : Request) (content : Pages) (error : CommandError) (P : Type 0) →
    AsksFile c r content (Err error) → IfUnprinted P (Err error)
never_unprinted c r content (errors.Unprinted error) P (inl from) = absurd from.comes
never_unprinted c r content (errors.Unprinted error) P (inr refused) = absurd (let told = refused.told in cc)
never_unprinted c r content (errors.Unopened fault) P asks = tt
never_unprinted c r content (errors.Refused e) P asks = tt
never_unprinted c r content (errors.Unanswered fault) P asks = tt
never_unprinted c r content errors.NoMemory P asks = tt
never_unprinted c r content (errors.Unclosed fault) P asks = tt

-- ---- it ends on the device

-- no transfer of a session in memory fails
pub not_written : (fault : Unwritten) (s : State) (old new : SessionState) (was faults : ℕ) → Holds s old →
    FailsToWrite fault old new was faults → new.pool.faults ≡ 0 → HasRisen was faults
not_written unwritten.Device s old new was faults holds fails none = fails
not_written unwritten.Session s old new was faults holds fails none =
    absurd (risen old.pool.faults new.pool.faults (fails s holds).cause none)

pub not_synced : (fault : DeviceFault) (was mid now : ℕ) → was ≤ mid →
    HasCause {T = Unit {0}} MayOnlyFail mid now (Err fault) → HasRisen was now
not_synced devices.Device was mid now before cause = risen-since was mid now before (cause.failed refl)
not_synced devices.BadDigest was mid now before cause = absurd cause.told
not_synced devices.PastEnd was mid now before cause = absurd cause.told
not_synced devices.DeviceFull was mid now before cause = absurd cause.told
not_synced devices.NoMemory was mid now before cause = absurd cause.told

-- what is written is the file of the system
pub has_file : PagesAreTheFile → (s : State) (old new : SessionState) (content left : Pages) →
    HasWritten s left old new → length left ≡ length content → HasFileOf s content left
has_file law s old new content left has many =
    record { file = law s new left has.holds has.its; pages = many }

module _ (c : Caller) (content left : Pages) (old new : Option (List ℕ)) (was mid now : ℕ) where
  ended : was ≤ mid → (Is : Asking (List ℕ)) (asked : Asked) (came : Result Unit CommandError) →
      (is : IsAsked Is content asked) → EndsWith asked.text is.system content left (seen old new mid now) came →
      EndsAs c Is content left (seen old new was now) came
  ended before Is asked (Ok done) is ends = (
    record { text = asked.text; system = is.system; is = is.is; printed = ends.0; held = ends.1.file },
    ends.1.pages,
  )
  ended before Is asked (Err (errors.Unprinted error)) is ends = (asked.text, is.system, is.is)
  ended before Is asked (Err (errors.Unclosed closes.Device)) is ends = (
    risen-since was mid now before ends.0,
    record { text = asked.text; system = is.system; is = is.is; printed = ends.1; held = tt },
  )
  ended before Is asked (Err (errors.Unclosed closes.Failed)) is ends = absurd ends
  ended before Is asked (Err (errors.Unopened fault)) is ends = absurd ends
  ended before Is asked (Err (errors.Refused e)) is ends = absurd ends
  ended before Is asked (Err (errors.Unanswered fault)) is ends = absurd ends
  ended before Is asked (Err errors.NoMemory) is ends = absurd ends

  undone : (Is : Asking (List ℕ)) (error : CommandError) → MayNotDo c Is content error → new ≡ old →
      EndsAs c Is content left (seen old new was now) (Err error)
  undone Is (errors.Unprinted error) may kept = absurd may
  undone Is (errors.Unclosed closes.Device) may kept = absurd may
  undone Is (errors.Unclosed closes.Failed) may kept = absurd may
  undone Is (errors.Unopened fault) may kept = absurd may
  undone Is (errors.Refused e) may kept = (may, kept)
  undone Is (errors.Unanswered fault) may kept = (may, kept)
  undone Is errors.NoMemory may kept = (may, kept)

  -- it was asked
  pub ends_as : (r : Request) → was ≤ mid → (asked : Asked) (came : Result Unit CommandError) →
      AsksFile c r content (Ok asked) →
      (content ≡ saved_of asked.session → (s : State) → Holds s asked.session →
      EndsWith asked.text s content left (seen old new mid now) came) →
      RunsOn c r content left (seen old new was now) came
  ends_as r before asked came (inl from) ends = inl (record {
    system = from.system;
    file = from.file;
    ends = ended before (AsksAs c r from.system) asked came from.comes
        (ends (sym from.comes.saved) from.comes.system from.comes.holds);
  })
  ends_as r before asked came (inr refused) ends = absurd (let told = refused.told in cc)

  -- nothing came of it
  pub undone_as : (r : Request) (error : CommandError) → AsksFile c r content (Err error) → new ≡ old →
      RunsOn c r content left (seen old new was now) (Err error)
  undone_as r error (inl from) kept = inl (record {
    system = from.system;
    file = from.file;
    ends = undone (AsksAs c r from.system) error from.comes kept;
  })
  undone_as r error (inr refused) kept =
      let told = refused.told in
      let same : error ≡ errors.Unopened refused.fault = cc in
      inr (record {
        fault = refused.fault;
        told = ap (λ (e : CommandError). Err e) same;
        framed = refused.may.framed;
        cause = refused.may.cause;
        failed = λ is. absurd (refused.may.sound is);
        kept = kept;
      })
