-- The seats of a script, and why no kernel is opened for them.
use Rattle.std.proofs.Common.{◌≡◌, ◌≢◌, ◌↔◌, refl, ap, ◌∙◌, subst, Bool, IsTrue, ℕ, zero, suc, ◌≤◌, ◌<◌, List, [], ◌∷◌, length, length-append, Result, Ok, Err, IfErr, IsErrAnd, arith}
use Rattle.std.proofs.lemmas.Int.{clamps}
use Rattle.std.specs.Prelude.{max}
use Rattle.std.specs.List.{All, fold}
use Rattle.std.proofs.lemmas.List.Elements.{All-head, All-tail}
use Rattle.std.proofs.lemmas.List.{length-replicate}
use Rattle.bucket_page.specs.Pseudokeys.{sha_key}
use Rattle.bucket_page.specs.declared.pseudokey.ShaKey.{ShaKey}
use Rattle.bucket_page.specs.declared.record_key.RecordKey.{RecordKey}
use Rattle.queue_model.specs.declared.caller.Caller.{Caller}
use Rattle.interleavings.specs.interleaving_core.Beginning.{HasSystem, IsOpened, MayRefuse, MayRefuseUnchecked}
use Rattle.interleavings.specs.interleaving_core.Kernel.{KernelState}
use Rattle.interleavings.specs.interleaving_core.Words.{spared}
use Rattle.interleavings.specs.interleaving_core.declared.fault.OpenFault.{OpenFault}
use Rattle.interleavings.specs.interleaving_core.declared.fault.OpenFault.TheVariants.{NoMemory, TooFewFrames, Wrong}
use Rattle.interleavings.specs.Laws.{RefinesFile, OpensRefine}
use Rattle.interleavings.proofs.of_interleaving_core.SparedLemmas.{stored_again}
use Rattle.msgq_cli.specs.Scripts.{Parts, IsSound, caller_of, greatest_seat}
use Rattle.msgq_cli.specs.declared.line.Line.{Line}
use Rattle.msgq_cli.specs.declared.line.SeatIds.{SeatIds}
use Rattle.schedules.specs.Numbers.{IsSeat}
use Rattle.page_locks.specs.declared.lock_table.TheConstants.{MAX_SEATS}
use Rattle.replays.specs.Replays.{IsOpenedForSeats, callers_of}

pub length-callers_of : (ids : List SeatIds) (n : ℕ) → length (callers_of ids n) ≡ n
length-callers_of ids zero = refl
length-callers_of ids (suc n) =
    let same = length-callers_of ids n in
    let long = length-append (callers_of ids n) (caller_of (suc n) ids ∷ []) in
    omega (arith, same, long)

within : (lines : List Line) (from : ℕ) → 1 ≤ from → from ≤ 64 → All (λ (line : Line). IsSeat line.seat) lines →
    (1 ≤ fold (λ greatest line. max greatest line.seat) from lines)
    × (fold (λ greatest line. max greatest line.seat) from lines ≤ 64)
within [] from some few all = (some, few)
within (l ∷ ls) from some few all =
    let its = All-head (λ (line : Line). IsSeat line.seat) l ls all in
    let low = its.0 in
    let high = its.1 in
    within ls (max from l.seat) (omega (arith, clamps, some)) (omega (arith, clamps, few, high))
    (All-tail (λ (line : Line). IsSeat line.seat) l ls all)

pub greatest_within : (script : Parts) → IsSound script →
    (1 ≤ greatest_seat script.lines) × (greatest_seat script.lines ≤ 64)
greatest_within script sound = within script.lines 1 (omega arith) (omega arith) sound.seats

-- with frames enough no refusal is for their lack
pub never_too_few : {T D : Type 0} (r : Result T (D × OpenFault)) (frames least : ℕ) → least ≤ frames →
    (IsErrAnd r (λ refusal. refusal.1 ≡ TooFewFrames) ↔ (frames < least)) →
    IfErr r (λ refusal. refusal.1 ≢ TooFewFrames)
never_too_few (Ok made) frames least enough few = tt
never_too_few (Err refusal) frames least enough few =
    λ same. let short = few.0 same in absurd (omega (arith, enough, short))

-- ---- a kernel that is opened for the seats

pub opened_for : (script : Parts) (content : List (List ℕ)) (honest : Bool) (keys : ShaKey) (frames seats : ℕ)
    (callers : List Caller) → length content ≤ frames →
    seats ≡ greatest_seat script.lines → callers ≡ callers_of script.ids seats → (k : KernelState ShaKey) →
    IsOpened keys content honest callers frames k →
    IsOpenedForSeats script content honest k
opened_for script content honest keys frames seats callers enough many are k opened =
    let same = are ∙ ap (callers_of script.ids) many in
    record {
      frames = frames;
      enough = enough;
      with_keys = keys;
      opened = subst (λ (cs : List Caller). IsOpened keys content honest cs frames k) same opened;
      many = ap length opened.locks ∙ length-replicate (length callers) [] ∙ ap length same
          ∙ length-callers_of script.ids (greatest_seat script.lines);
    }

-- and then it leaves what the file had
pub stored_before : (script : Parts) (content : List (List ℕ)) (honest : Bool) (first last : KernelState ShaKey) →
    IsOpenedForSeats script content honest first → spared last.pool ≡ spared first.pool →
    last.pool.stored ≡ content
stored_before script content honest first last opened same =
    stored_again opened.with_keys content honest (callers_of script.ids (greatest_seat script.lines)) opened.frames
    first last opened.opened same opened.enough

-- of an honest device it is led from the system of the file
pub opened_led : OpensRefine ShaKey → (script : Parts) (content : List (List ℕ)) (honest : Bool) (seats : ℕ)
    (k : KernelState ShaKey) → seats ≡ greatest_seat script.lines → 1 ≤ seats → seats ≤ MAX_SEATS →
    IsOpenedForSeats script content honest k → IsTrue honest → HasSystem sha_key content →
    RefinesFile sha_key content k
opened_led opens script content honest seats k many some few opened true_to_it has =
    let long = length-callers_of script.ids (greatest_seat script.lines) in
    opens sha_key opened.with_keys content honest (callers_of script.ids (greatest_seat script.lines)) opened.frames k
    opened.opened true_to_it has (omega (arith, many, some, long)) (omega (arith, many, few, long))

-- a kernel is refused once its file is checked; for its seats there may be no memory before
pub refused_unchecked : (hash : RecordKey → ℕ) (content : List (List ℕ)) (fault : OpenFault) →
    MayRefuse hash content fault → MayRefuseUnchecked hash content fault
refused_unchecked hash content TooFewFrames may = tt
refused_unchecked hash content NoMemory may = tt
refused_unchecked hash content (Wrong fault) may = may
