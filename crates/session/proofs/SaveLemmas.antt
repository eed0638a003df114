-- Which pages of a session have changed, and that they are saved.
use Rattle.std.proofs.Common.{arith, ℕ, ◌≡◌, ◌<◌, ◌≤◌, IsTrue, refl, sym, ap, ◌∙◌, subst, false, List, [], Option, Some, None, Result, Ok, Err, length, slice_index_or}
use Rattle.std.specs.Prelude.{IfSome, is_ok}
use Rattle.std.proofs.lemmas.Bool.{true≢false}
use Rattle.std.proofs.lemmas.List.{get_or-map, length-map}
use Rattle.page_device.specs.Sealed.{payload_of}
use Rattle.buffer_pool.specs.Pool.{IsOnDevice, payloads_of}
use Rattle.interleaving_core.specs.Renewing.{Flushes, HasFlushed, IsBetweenCalls, IsPage}
use Rattle.interleaving_core.specs.Words.{TellsChanged}
use Rattle.interleaving_core.specs.declared.fault.CloseFault.{CloseFault}
use Rattle.interleavings.specs.LoneKernelWords.{State}
use Rattle.session.specs.Session.{AreSaved, Holds, NotesSave, SaveBecomes, SessionState, TellsChanges, caller_of, pages_of, saved_of}
use Rattle.session.proofs.PageLemmas.{images_stay, is_between, still_holds}

-- ---- which of them have changed

as_saved : (s : State) (k : SessionState) (page : ℕ) → Holds s k → page < pages_of k → IsOnDevice page k.pool →
    IsPage page (slice_index_or (saved_of k) page []) k.pool
as_saved s k page holds within there = record {
  payload = there holds.file.honest;
  sealed = holds.file.file.sealed page within;
}

pub changes_told : (from : ℕ) (told : Option ℕ) (k : SessionState) → TellsChanged from told k.pool →
    TellsChanges from told k
changes_told from None k told s holds =
    λ page behind before. as_saved s k page holds before (told page behind before)
changes_told from (Some next) k told s holds = record {
  behind = told.behind;
  within = told.within;
  others = λ page behind before.
      let within = told.within in
      as_saved s k page holds (omega (arith, before, within)) (told.others page behind before);
}

pub next_there : (from : ℕ) (told : Option ℕ) (k : SessionState) → TellsChanged from told k.pool →
    IfSome told (λ page. (from ≤ page) × (page < pages_of k))
next_there from None k told = tt
next_there from (Some next) k told = (told.behind, told.within)

-- ---- they are saved

are_saved : (s : State) (old new : SessionState) → HasFlushed old new → Holds s old → AreSaved s old new
are_saved s old new flushed holds = record {
  all = record {
    many = many;
    each = λ page within. record {
      payload = sym (get_or-map payload_of (saved_of new) page [] [] within)
          ∙ ap (λ (is : List (List ℕ)). slice_index_or is page []) same;
      sealed = after.file.file.sealed page (subst (λ (m : ℕ). page < m) many within);
    };
  };
  holds = after;
  images = stay;
}
  where
    after : Holds s new
    after = still_holds s old new flushed.stay holds

    stay : new.pool.images ≡ old.pool.images
    stay = images_stay s old.pool new.pool old.locks flushed.stay.keeps holds.file

    same : payloads_of (saved_of new) ≡ new.pool.images
    same = (flushed.has holds.file.honest).written.images ∙ sym stay

    many : length (saved_of new) ≡ pages_of new
    many = sym (length-map (saved_of new) payload_of) ∙ ap (λ (is : List (List ℕ)). length is) same

save_becomes : (r : Result Unit CloseFault) (old new : SessionState) → Flushes r old new → (s : State) → Holds s old →
    SaveBecomes s (is_ok r) old new
save_becomes (Ok done) old new flushed s holds = are_saved s old new flushed holds
save_becomes (Err fault) old new fails s holds = record {
  failed = ap (λ (k : SessionState). k.failed) fails.by.is;
  cause = fails.cause;
}

save_keeps : (r : Result Unit CloseFault) (old new : SessionState) → Flushes r old new →
    (caller_of new ≡ caller_of old) × (pages_of new ≡ pages_of old)
save_keeps (Ok done) old new flushed =
    (ap (λ (k : SessionState). caller_of k) flushed.stay.is, flushed.stay.keeps.as_many)
save_keeps (Err fault) old new fails = (ap (λ (k : SessionState). caller_of k) fails.by.is, fails.by.keeps.as_many)

pub save_noted : (r : Result Unit CloseFault) (old new : SessionState) → Flushes r old new → NotesSave (is_ok r) old new
save_noted r old new flushes = record {
  becomes = save_becomes r old new flushes;
  caller = (save_keeps r old new flushes).0;
  many = (save_keeps r old new flushes).1;
}

pub none_saved : (k : SessionState) → (IsBetweenCalls k → IsTrue false) → NotesSave false k k
none_saved k busy = record {
  becomes = λ s holds. absurd (true≢false (sym (busy (is_between s k holds))));
  caller = refl;
  many = refl;
}
