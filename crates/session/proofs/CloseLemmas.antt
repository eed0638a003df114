-- A session is closed, or let go.
use Rattle.std.proofs.Common.{ℕ, suc, ◌≡◌, ◌↔◌, ◌∙◌, refl, sym, ap, Bool, true, false, List, [], ◌∷◌, Option, None, Some, IsTrue, length, slice_index_or, arith}
use Rattle.std.specs.List.{list_any}
use Rattle.std.proofs.lemmas.List.{length-map}
use Rattle.page_device.specs.Sealed.{payload_of}
use Rattle.bucket_page.specs.Pseudokeys.{sha_key}
use Rattle.bucket_page.specs.declared.pseudokey.ShaKey.{ShaKey}
use Rattle.interleaving_core.specs.Closing.{IsBusy, IsReleased, has_one}
use Rattle.interleaving_core.specs.declared.fault.CloseFault.{CloseFault}
use Rattle.interleaving_core.specs.declared.fault.CloseFault.TheVariants as closes
use Rattle.interleavings.specs.LoneKernelLaws.{ClosesAKernel}
use Rattle.interleavings.specs.LoneKernelWords.{ActiveView, IsFlushedTo, State}
use Rattle.session.specs.Session.{ClosesOn, Holds, IsClosed, SessionState, saved_of}
use Rattle.session.proofs.KeepLemmas.{apart}

-- ---- it is written

pub closed_well : ClosesAKernel ShaKey → (k : SessionState) (content : List (List ℕ)) (honest synced : Bool)
    (faults : ℕ) → (IsTrue k.pool.honest → IsFlushedTo k.pool content) →
    ((◌≡◌ {A = Option CloseFault} None (Some closes.Failed)) ↔ (k.failed ≡ true)) →
    IsReleased k None content honest synced faults → IsClosed k None content honest synced faults
closed_well closing k content honest synced faults flushed failed released = record {
  ends = λ s holds.
      let written = flushed holds.file.honest in
      (closing sha_key s content k holds written, sym (length-map content payload_of) ∙ ap length written.images);
  released = released;
  failed = failed.1;
}

-- ---- it is not

-- a transfer failed now or before
ends_badly : (k : SessionState) (fault : CloseFault) (content : List (List ℕ)) (honest synced : Bool) (faults : ℕ) →
    (◌≡◌ {A = Option CloseFault} (Some fault) (Some closes.Failed) → k.failed ≡ true) →
    IsReleased k (Some fault) content honest synced faults → (s : State) → Holds s k →
    ClosesOn s k (Some fault) content faults
ends_badly k closes.Device content honest synced faults failed released s holds = released.cause refl
ends_badly k closes.Failed content honest synced faults failed released s holds = apart k holds.sound (failed refl)

pub closed_badly : (k : SessionState) (fault : CloseFault) (content : List (List ℕ)) (honest synced : Bool)
    (faults : ℕ) → ((◌≡◌ {A = Option CloseFault} (Some fault) (Some closes.Failed)) ↔ (k.failed ≡ true)) →
    IsReleased k (Some fault) content honest synced faults → IsClosed k (Some fault) content honest synced faults
closed_badly k fault content honest synced faults failed released = record {
  ends = ends_badly k fault content honest synced faults failed.0 released;
  released = released;
  failed = failed.1;
}

-- ---- a call is left

none_under_way : (seats : List (Option ActiveView)) → ((place : ℕ) → slice_index_or seats place None ≡ None) →
    list_any has_one seats ≡ false
none_under_way [] idle = refl
none_under_way (None ∷ seats) idle = none_under_way seats (λ place. idle (suc place))
none_under_way (Some a ∷ seats) idle = absurd (let there = idle 0 in cc)

-- so it holds no system
never_busy : (k : SessionState) (s : State) → Holds s k → IsBusy k → ⊥
never_busy k s holds busy =
    let none = none_under_way k.seats (λ place. holds.idle (suc place)) in
    let some = busy.call in
    cc

pub left_busy : (k : SessionState) (content : List (List ℕ)) (honest synced : Bool) (faults : ℕ) → IsBusy k →
    content ≡ saved_of k → honest ≡ k.pool.honest → faults ≡ k.pool.faults →
    IsClosed k (Some closes.Failed) content honest synced faults
left_busy k content honest synced faults busy stored same counted = record {
  ends = λ s holds. never_busy k s holds busy;
  released = record {
    same = same;
    synced = λ is none. absurd cc;
    unwritten = λ failed. stored;
    later = omega (arith, counted);
    cause = λ is. absurd cc;
  };
  failed = λ was. refl;
}
