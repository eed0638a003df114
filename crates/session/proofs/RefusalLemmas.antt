-- Why a file is not opened.
use Rattle.std.proofs.Common.{arith, ℕ, ◌≡◌, ◌<◌, ◌≤◌, ◌*◌, ◌/◌, inl, inr, refl, ap, List, Result, Ok, Err, IfErr, drop, length, take}
use Rattle.bucket_page.specs.Pseudokeys.{sha_key}
use Rattle.page_device.specs.Device.{HasRisen}
use Rattle.page_device.specs.declared.fault.DeviceFault.{DeviceFault}
use Rattle.page_device.specs.declared.fault.DeviceFault.TheVariants as devices
use Rattle.page_device.specs.declared.page.TheConstants.{MAX_PAGES, PAGE_BYTES}
use Rattle.file_pages.proofs.StoreLemmas.{length-listed}
use Rattle.file_walk.specs.declared.fault.StructureFault.TheVariants as structure
use Rattle.record_file.specs.Files.{IsNewFile}
use Rattle.interleavings.proofs.of_file_check.Today.{file_has_no_fault}
use Rattle.interleavings.specs.files_at_rest.Files.{no_queues}
use Rattle.interleavings.specs.files_at_rest.NewFileLaws.{NewHasNoQueues}
use Rattle.interleaving_core.specs.Beginning.{MayRefuse, MayRefuseUnchecked}
use Rattle.interleaving_core.specs.Fault.{device_failed}
use Rattle.interleaving_core.specs.declared.fault.OpenFault.TheVariants.{NoMemory, TooFewFrames, Wrong}
use Rattle.interleaving_core.specs.file_check.declared.fault.CheckFault.TheVariants.{Structure}
use Rattle.interleavings.specs.LoneKernelWords.{IsFileOf}
use Rattle.session.specs.Session.{MayNotLoad, MayNotOpen, SessionState, pages_in, unloaded_by}
use Rattle.session.specs.Words.{NO_MEMORY, OpenFault, open_number_of}

-- a page is not added: there are as many as a file can have, or there is no memory
pub unloaded : (bytes : List ℕ) (page : ℕ) (device : List (List ℕ)) (fault : DeviceFault) →
    device ≡ pages_in page bytes → page < length bytes / PAGE_BYTES →
    (fault ≡ devices.DeviceFull → MAX_PAGES ≤ length device) → MayNotLoad bytes (unloaded_by fault)
unloaded bytes page device devices.Device is within full = inr (inr refl)
unloaded bytes page device devices.BadDigest is within full = inr (inr refl)
unloaded bytes page device devices.PastEnd is within full = inr (inr refl)
unloaded bytes page device devices.NoMemory is within full = inr (inr refl)
unloaded bytes page device devices.DeviceFull is within full =
    let many = length-listed page (λ k. take PAGE_BYTES (drop (k * PAGE_BYTES) bytes)) in
    let same = ap (λ (pages : List (List ℕ)). length pages) is in
    let most = full refl in
    inr (inl (record { told = refl; more = omega (arith, same, many, most, within) }))

-- no transfer fails in memory
never_fails : HasRisen 0 0 → ⊥
never_fails (inl less) = absurd (omega (arith, less))
never_fails (inr most) = absurd (omega (arith, most))

pub unchecked : (content : List (List ℕ)) (fault : OpenFault) → MayRefuse sha_key content fault →
    MayRefuseUnchecked sha_key content fault
unchecked content TooFewFrames may = tt
unchecked content NoMemory may = tt
unchecked content (Wrong fault) may = may

pub is_refused : (content : List (List ℕ)) (fault : OpenFault) → MayRefuseUnchecked sha_key content fault →
    (fault ≡ TooFewFrames → ⊥) → (fault ≡ device_failed → HasRisen 0 0) → MayNotOpen content fault
is_refused content fault may framed failed = record {
  cause = may;
  framed = framed;
  sound = λ is. never_fails (failed is);
}

-- nothing is wrong with a new file, so want of memory alone refuses it
machine_alone : (content : List (List ℕ)) → IsFileOf sha_key content no_queues → (fault : OpenFault) →
    MayRefuseUnchecked sha_key content fault → (fault ≡ TooFewFrames → ⊥) → (fault ≡ device_failed → ⊥) →
    open_number_of fault ≡ NO_MEMORY
machine_alone content file TooFewFrames may framed sound = absurd (framed refl)
machine_alone content file NoMemory may framed sound = refl
machine_alone content file (Wrong (Structure structure.Device)) may framed sound = absurd (sound refl)
machine_alone content file (Wrong (Structure structure.NoMemory)) may framed sound = refl
machine_alone content file (Wrong fault) (inr wrong) framed sound =
    absurd (file_has_no_fault sha_key content no_queues fault file wrong)
machine_alone content file (Wrong fault) (inl machine) framed sound = absurd machine

pub new_refused : (pages : ℕ) (content : List (List ℕ)) → NewHasNoQueues → IsNewFile pages content →
    (r : Result SessionState OpenFault) → IfErr r (MayNotOpen content) →
    IfErr r (λ fault. open_number_of fault ≡ NO_MEMORY)
new_refused pages content law new (Ok k) refused = tt
new_refused pages content law new (Err fault) refused =
    machine_alone content (law sha_key pages content new).file fault refused.cause refused.framed refused.sound
