-- Pages are read one after the other into a room, and tested there.
use Rattle.std.proofs.Common.{ℕ, ◌≡◌, Bool, List, Result, Err, IsTrue, sym, ap, subst, arith}
use Rattle.page_device.specs.Sealed.{IsSealed, payload_of}
use Rattle.file_walk.specs.declared.fault.StructureFault.{StructureFault}
use Rattle.file_walk.specs.declared.fault.StructureFault.TheVariants as faults
use Rattle.file_walk.specs.declared.sealed_run.SealedRun.{SealedRun}
use Rattle.file_walk.specs.Order.{HasReadCause}
use Rattle.file_walk.specs.Readings.{IsPayloadOf}
use Rattle.file_walk.specs.Runs.{HasInRun, HasPage, HasRunCause, HoldsRun, IsNoRun, IsReached, IsToldSince, held_at}

-- what a run has of a device stands while its pages and its honesty stay
pub held_before : (honest now_honest : Bool) (content now : List (List ℕ)) (run : SealedRun) → now_honest ≡ honest →
    now ≡ content → HoldsRun now_honest now run → HoldsRun honest content run
held_before honest now_honest content now run e f h =
    subst (λ x. HoldsRun x content run) e (subst (λ y. HoldsRun now_honest y run) f h)

module _ (honest : Bool) (content : List (List ℕ)) (run : SealedRun) (n : ℕ) (h : HoldsRun honest content run)
    (has : HasInRun run n) where
  pub has_page : HasPage run n
  has_page = record {
    behind = has.behind;
    within = let long = h.room in let short = h.short in let behind = has.behind in let within = has.within in
        omega arith;
  }

  -- a page of the run that is sealed
  pub reached : IsSealed n (held_at run n) → IsReached honest content n run
  reached sealed = record {
    has = has_page;
    payload = λ is. record {
      sealed = subst (IsSealed n) (h.pages is n has.behind has.within) sealed;
      value = ap payload_of (h.pages is n has.behind has.within);
    };
  }

  -- which a run of sealed pages tells
  pub reached_sealed : IsTrue run.sealed → IsReached honest content n run
  reached_sealed all = reached (h.sealed all n has.behind has.within)

-- what stands in the room is the page's payload
pub payload_read : (honest : Bool) (content : List (List ℕ)) (n : ℕ) (run : SealedRun) (payload : List ℕ) →
    IsReached honest content n run → payload ≡ payload_of (held_at run n) → IsTrue honest →
    IsPayloadOf content n payload
payload_read honest content n run payload h same is = subst (IsPayloadOf content n) (sym same) (h.payload is)

-- ---- a run of no page

pub none_held : (honest : Bool) (content : List (List ℕ)) (run : SealedRun) → IsNoRun run → HoldsRun honest content run
none_held honest content run h =
    let none = h.none in
    record {
      room = h.room;
      short = omega arith;
      pages = λ is n behind within. absurd (omega arith);
      sealed = λ is n behind within. absurd (omega arith);
    }

pub none_told : (since : ℕ) (run : SealedRun) → IsNoRun run → IsToldSince since since run
none_told since run h = record {
  later = omega arith;
  failed = λ is. let calm = h.calm in absurd cc;
}

-- ---- why a read failed

module _ {T : Type 0} (since now : ℕ) (run : SealedRun) (result : Result T StructureFault) where
  pub told_on : HasRunCause since now run result → IsToldSince since now run
  told_on h = record { later = h.later; failed = h.failed }

  pub read_cause : HasRunCause since now run result → HasReadCause since now result
  read_cause h = record { later = h.later; failed = h.told }

  -- no read failed
  pub no_cause : IsToldSince since now run → (result ≡ Err faults.Device → ⊥) → HasRunCause since now run result
  no_cause h other = record { later = h.later; told = λ is. absurd (other is); failed = h.failed }

  -- another fault than a failed read is told
  pub other_cause : {U : Type 0} (given : Result U StructureFault) → HasRunCause since now run given →
      (result ≡ Err faults.Device → ⊥) → HasRunCause since now run result
  other_cause given h other = record {
    later = h.later;
    told = λ is. absurd (other is);
    failed = h.failed;
  }

  -- or the same
  pub passed_cause : {U : Type 0} (fault told : StructureFault) → HasRunCause {T = U} since now run (Err fault) →
      result ≡ Err told → told ≡ fault → HasRunCause since now run result
  passed_cause fault told h is_told same = record {
    later = h.later;
    told = λ is. let device : fault ≡ faults.Device = cc in h.told (ap (λ e. Err e) device);
    failed = h.failed;
  }
