-- A session is opened, and what its pages are.
use Rattle.std.proofs.Common.{arith, ℕ, suc, ◌≡◌, ◌≢◌, ◌<◌, ◌≤◌, Bool, Some, IsTrue, refl, sym, ap, ◌∙◌, subst, true, false, List, [], ◌∷◌, None, Result, Ok, Err, IfOk, OnOk, length}
use Rattle.std.specs.Result.{is_err, result_ok}
use Rattle.std.proofs.lemmas.Bool.{true≢false}
use Rattle.std.proofs.lemmas.List.{ext_get_or, get_or-map, length-map}
use Rattle.std.proofs.lemmas.List.Elements.{All-from_get_or}
use Rattle.bucket_page.specs.Pseudokeys.{sha_key}
use Rattle.bucket_page.specs.declared.pseudokey.ShaKey.{ShaKey}
use Rattle.page_device.specs.Device.{HasRisen}
use Rattle.page_device.specs.Sealed.{payload_of}
use Rattle.page_device.specs.declared.fault.DeviceFault.TheVariants as device
use Rattle.page_locks.specs.Table.{Table}
use Rattle.buffer_pool.specs.Pool.{KeepsImages, MayNotPin, PoolState, payloads_of}
use Rattle.buffer_pool.specs.declared.fault.PoolFault.{PoolFault}
use Rattle.buffer_pool.specs.declared.fault.PoolFault.TheVariants as pools
use Rattle.file_pages.specs.Files.{IsFilePool, SpellsFile, store_of}
use Rattle.file_pages.proofs.ReadLemmas.{is_well}
use Rattle.hash_file.specs.Change.{Quiet}
use Rattle.hash_file.specs.Chain.{contents}
use Rattle.hash_file.specs.Sound.{IsExact}
use Rattle.step_rules.specs.Sound.{IsSoundWorld}
use Rattle.record_file.specs.Files.{IsNewFile}
use Rattle.interleavings.specs.files_at_rest.Files.{no_queues}
use Rattle.interleavings.specs.files_at_rest.NewFileLaws.{NewHasNoQueues}
use Rattle.interleaving_core.specs.Beginning.{HasSystem, IsOpened}
use Rattle.interleaving_core.specs.Renewing.{FailsToRead, IsBetweenCalls, IsIdleOrWaits, KeepsPages, Reads}
use Rattle.interleaving_core.specs.xsi_calls.Words.{world}
use Rattle.interleavings.specs.LoneKernelLaws.{ClosesAKernel, OpensAKernel}
use Rattle.interleavings.specs.LoneKernelWords.{Caller, IsFileAtRest, IsFileOf, IsFlushedTo, State, caller_at}
use Rattle.session.specs.Session.{AreItsPages, GivesPage, HasFailed, Holds, IsSession, Opens, OpensAny, OpensNew, PageBecomes, PagesAreTheFile, SessionState, caller_of, pages_of, saved_of}
use Rattle.session.proofs.KeepLemmas.{KeepsSeat, same_caller, same_saved}

-- ---- it is opened

pub is_opened : OpensAKernel ShaKey → (caller : Caller) (content : List (List ℕ)) (honest : Bool) (was : ℕ)
    (keys : ShaKey) (frames : ℕ) (k : SessionState) → IsOpened keys content honest (caller ∷ []) frames k →
    (IsTrue honest → HasSystem sha_key content) → was ≤ k.pool.faults → OpensAny caller content honest was k
is_opened opens caller content honest was keys frames k opened has later = record {
  honest_is = ap (λ (p : PoolState). p.honest) opened.pool;
  sound = opened.failed;
  sits = sits;
  many = many;
  saved = saved;
  later = later;
  opens = λ is. record {
    system = (has is).0;
    file = (has is).1;
    holds = opens sha_key keys content honest (caller ∷ []) frames k opened is (has is).0 (has is).1 (omega arith)
        (omega arith);
    sits = sits;
    many = many;
    saved = saved;
  };
}
  where
    sits : caller_of k ≡ Some caller
    sits = ap (λ (cs : List Caller). caller_at cs 1) opened.callers

    many : pages_of k ≡ length content
    many = ap (λ (p : PoolState). length p.images) opened.pool ∙ length-map content payload_of

    saved : saved_of k ≡ content
    saved = ap (λ (p : PoolState). p.stored) opened.pool

-- a file of no queues is that of no other system
pub is_new : (caller : Caller) (pages : ℕ) (content : List (List ℕ)) → IsFileOf sha_key content no_queues →
    length content ≡ pages → (k : SessionState) → Opens caller content k → OpensNew caller pages k
is_new caller pages content file as_many k opened = record {
  holds = subst (λ (s : State). Holds s k) (file.system.only opened.system opened.file.system.has) opened.holds;
  sits = opened.sits;
  many = opened.many ∙ as_many;
}

-- the file was made
pub made : {T F : Type 0} (r : Result T F) (P : Type 0) → false ≡ is_err r → OnOk r P → P
made (Ok done) P fine is = is
made (Err fault) P fine is = absurd cc

pub new_opened : {F : Type 0} (caller : Caller) (pages : ℕ) (content : List (List ℕ)) → NewHasNoQueues →
    IsNewFile pages content → (r : Result SessionState F) → IfOk r (Opens caller content) →
    IfOk r (OpensNew caller pages)
new_opened caller pages content law new (Ok k) opened =
    is_new caller pages content (law sha_key pages content new).file new.as_many k opened
new_opened caller pages content law new (Err fault) opened = tt

-- ---- a page is read

-- a session at rest is between calls
pub is_between : (s : State) (k : SessionState) → Holds s k → IsBetweenCalls k
is_between s k holds = record {
  sound = holds.sound;
  seats = All-from_get_or IsIdleOrWaits k.seats None (λ place within.
      subst IsIdleOrWaits (sym (holds.idle (suc place))) tt);
}

-- a file at rest stays so where its images stay, and what is sealed stays so
module _ (s : State) (old new : PoolState) (locks : Table) (keeps : KeepsImages true old new)
    (rest : IsFileAtRest sha_key s old locks) where
  pub images_stay : new.images ≡ old.images
  images_stay = keeps.images rest.honest

  pub still_at_rest : IsFileAtRest sha_key s new locks
  still_at_rest = record {
    honest = keeps.honest ∙ rest.honest;
    file = record {
      file = subst SpellsFile (sym images_stay) rest.file.file;
      sealed = λ n within. keeps.seals rest.honest refl n
          (rest.file.sealed n (subst (λ (is : List (List ℕ)). n < length is) images_stay within));
    };
    sound = subst (λ (is : List (List ℕ)). IsSoundWorld sha_key (world is locks Quiet)) (sym images_stay) rest.sound;
    exact = subst (λ (is : List (List ℕ)). IsExact (store_of is)) (sym images_stay) rest.exact;
    free = rest.free;
    filed = rest.filed;
    holds = λ key. ap (λ (is : List (List ℕ)). contents (store_of is) key) images_stay ∙ rest.holds key;
    spelled = rest.spelled;
  }

pub still_holds : (s : State) (old new : SessionState) → KeepsPages old new → Holds s old → Holds s new
still_holds s old new kept holds = subst (Holds s) (sym kept.is) (record {
  file = still_at_rest s old.pool new.pool old.locks kept.keeps holds.file;
  idle = holds.idle;
  sound = holds.sound;
  mark = holds.mark;
})

-- a page of it is there, sealed and well formed; so what fails it is a transfer
device_failed : (pool : PoolState) (page : ℕ) (fault : PoolFault) (faults : ℕ) → IsTrue pool.honest →
    IsFilePool pool → page < length pool.images → fault ≢ pools.Device device.PastEnd → fault ≢ pools.TooFewFrames →
    MayNotPin page pool fault → (fault ≡ pools.Device device.Device → HasRisen pool.faults faults) →
    HasRisen pool.faults faults
device_failed pool page (pools.Device device.Device) faults honest file within there room told failed = failed refl
device_failed pool page (pools.Device device.BadDigest) faults honest file within there room told failed =
    absurd (told honest (file.sealed page within))
device_failed pool page (pools.Device device.PastEnd) faults honest file within there room told failed =
    absurd (there refl)
device_failed pool page (pools.Device device.DeviceFull) faults honest file within there room told failed =
    absurd told
device_failed pool page (pools.Device device.NoMemory) faults honest file within there room told failed = absurd told
device_failed pool page pools.Malformed faults honest file within there room told failed =
    absurd (told honest (is_well pool.images file.file page within))
device_failed pool page pools.TooFewFrames faults honest file within there room told failed = absurd (room refl)
device_failed pool page pools.NoMemory faults honest file within there room told failed = absurd told

risen : (s : State) (page : ℕ) (fault : PoolFault) (old new : SessionState) → page < pages_of old → Holds s old →
    FailsToRead page fault old new → HasFailed old new
risen s page fault old new within holds fails = record {
  failed = ap (λ (k : SessionState). k.failed) fails.by.is;
  cause = device_failed old.pool page fault new.pool.faults holds.file.honest holds.file.file within fails.there
      fails.room fails.told fails.failed;
}

pub page_kept : (page : ℕ) (r : Result (List ℕ) PoolFault) (old new : SessionState) → Reads page r old new →
    KeepsSeat old new
page_kept page (Ok bytes) old new read =
    subst (KeepsSeat old) (sym read.stay.is) (record {
      callers = refl;
      seat = λ is. is;
      stored = read.stored;
      pages = read.stay.keeps.as_many;
      honest = read.stay.keeps.honest;
      later = read.stay.later;
    })
page_kept page (Err fault) old new fails =
    subst (KeepsSeat old) (sym fails.by.is) (record {
      callers = refl;
      seat = λ is. is;
      stored = fails.stored;
      pages = fails.by.keeps.as_many;
      honest = fails.by.keeps.honest;
      later = fails.by.later;
    })

becomes : (page : ℕ) (r : Result (List ℕ) PoolFault) (old new : SessionState) → page < pages_of old →
    Reads page r old new → (s : State) → Holds s old → PageBecomes page s (result_ok r) old new
becomes page (Ok bytes) old new within read s holds = record {
  is = read.is;
  holds = still_holds s old new read.stay holds;
  images = images_stay s old.pool new.pool old.locks read.stay.keeps holds.file;
}
becomes page (Err fault) old new within fails s holds = risen s page fault old new within holds fails

pub is_given : (page : ℕ) (r : Result (List ℕ) PoolFault) (old new : SessionState) → page < pages_of old →
    IsSession old → Reads page r old new → GivesPage page (result_ok r) old new
is_given page r old new within is read = record {
  becomes = becomes page r old new within read;
  caller = same_caller old new (page_kept page r old new read);
  many = (page_kept page r old new read).pages;
  saved = same_saved old new (page_kept page r old new read) is;
  later = (page_kept page r old new read).later;
}

-- a session that is not between calls holds no system
pub none_given : (page : ℕ) (k : SessionState) → (IsBetweenCalls k → IsTrue false) → GivesPage page None k k
none_given page k busy = record {
  becomes = λ s holds. absurd (true≢false (sym (busy (is_between s k holds))));
  caller = refl;
  many = refl;
  saved = refl;
  later = omega arith;
}

-- ---- all of its pages

module _ (s : State) (k : SessionState) (content : List (List ℕ)) (holds : Holds s k) (its : AreItsPages content k)
  where
    -- as where these pages were the device's
    abbrev stored : SessionState
    stored = record k { pool = record k.pool { stored = content } }

    rests : Holds s stored
    rests = record {
      file = record {
        honest = holds.file.honest;
        file = record {
          file = holds.file.file.file;
          sealed = λ n within. (its.each n (subst (λ (m : ℕ). n < m) (sym its.many) within)).sealed;
        };
        sound = holds.file.sound;
        exact = holds.file.exact;
        free = holds.file.free;
        filed = holds.file.filed;
        holds = holds.file.holds;
        spelled = holds.file.spelled;
      };
      idle = holds.idle;
      sound = holds.sound;
      mark = holds.mark;
    }

    flushed : IsFlushedTo stored.pool content
    flushed = record {
      images = ext_get_or [] (payloads_of content) k.pool.images (length-map content payload_of ∙ its.many) (λ n within.
          let below : n < length content = subst (λ (m : ℕ). n < m) (length-map content payload_of) within in
          get_or-map payload_of content n [] [] below ∙ (its.each n below).payload);
      seals = λ n sealed. sealed;
    }

pub are_the_file : ClosesAKernel ShaKey → PagesAreTheFile
are_the_file closes s k content holds its =
    closes sha_key s content (stored s k content holds its) (rests s k content holds its)
    (flushed s k content holds its)
