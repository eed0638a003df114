-- What seats owe the file is the rest of the system; and a file that was closed opens on its system.
use Rattle.std.proofs.Common.{ℕ, zero, suc, ◌≡◌, ◌≢◌, ◌⊎◌, inl, inr, refl, sym, subst, Bool, true, false, List, [], ◌∷◌, Option}
use Rattle.interleavings.specs.ConcurrentLaws.{OweApart}
use Rattle.interleavings.specs.Together.{AreTogether, owes_of}
use Rattle.interleavings.specs.ConcurrentWords.{owes_at}
use Rattle.directory.proofs.HeaderLaws.{is_today}
use Rattle.directory.specs.declared.layout.TheConstants.{LAYOUT}
use Rattle.files_at_rest.specs.file_check.Whole.{FileHasNoFault}
use Rattle.interleaving_core.specs.Beginning.{MayRefuse}
use Rattle.interleaving_core.specs.declared.fault.OpenFault.{OpenFault}
use Rattle.interleaving_core.specs.declared.fault.OpenFault.TheVariants as opens
use Rattle.queue_model.proofs.JournalLemmas.{after-LeadsAlong}
use Rattle.interleavings.specs.Words.{ActiveView, IsFileOf, KernelState, RecordKey, State, after, call_at, restarted}
use Rattle.interleavings.specs.Refining.{Refines, calls_of}
use Rattle.interleavings.specs.Laws.{ClosedOpens, ClosesRefine, IsOfMachine, IsRestAt, OpensRefine, OpensOn, OwedIsTheRest}
use Rattle.interleavings.proofs.LeadLemmas.{machine}

-- ---- who owes a record

abbrev owes_there : RecordKey → Option ActiveView → Bool
owes_there key at = owes_at (owes_of (machine at)) key

-- one of them does, or none
one_or_none : (key : RecordKey) (seats : List (Option ActiveView)) →
    ((seat : ℕ) × (owes_there key (call_at seats seat) ≡ true))
    ⊎ ((seat : ℕ) → owes_there key (call_at seats seat) ≡ false)
one_or_none key [] = inr none
  where
    none : (seat : ℕ) → owes_there key (call_at [] seat) ≡ false
    none zero = refl
    none (suc place) = refl
one_or_none key (at ∷ seats) = by (owes_there key at) refl (one_or_none key seats)
  where
    behind : (seat : ℕ) → owes_there key (call_at seats seat) ≡ true →
        (other : ℕ) × (owes_there key (call_at (at ∷ seats) other) ≡ true)
    behind zero owes = absurd cc
    behind (suc place) owes = (suc (suc place), owes)

    all : owes_there key at ≡ false → ((seat : ℕ) → owes_there key (call_at seats seat) ≡ false) → (seat : ℕ) →
        owes_there key (call_at (at ∷ seats) seat) ≡ false
    all first rest zero = refl
    all first rest (suc zero) = first
    all first rest (suc (suc place)) = rest (suc place)

    by : (b : Bool) → owes_there key at ≡ b →
        ((seat : ℕ) × (owes_there key (call_at seats seat) ≡ true))
        ⊎ ((seat : ℕ) → owes_there key (call_at seats seat) ≡ false) →
        ((seat : ℕ) × (owes_there key (call_at (at ∷ seats) seat) ≡ true))
        ⊎ ((seat : ℕ) → owes_there key (call_at (at ∷ seats) seat) ≡ false)
    by true is rest = inl (1, is)
    by false is (inl found) = inl (behind found.0 found.1)
    by false is (inr none) = inr (all is none)

module _ (apart : OweApart) {K : Type 0} (hash : RecordKey → ℕ) (base : State) (k : KernelState K)
    (led : Refines hash base k) (sound : k.failed ≡ false) where
  abbrev calls : AreTogether hash led.now (calls_of k.seats) k.pool k.locks
  calls = (led.together sound).calls

  rest_now : (key : RecordKey) → IsRestAt key calls.records led.now k
  rest_now key = elim (one_or_none key k.seats) [
    | inl one ↦
        let others : (other : ℕ) → other ≢ one.0 → owes_at (owes_of (calls_of k.seats other)) key ≡ false =
        λ other not. apart hash led.now (calls_of k.seats) k.pool k.locks calls one.0 other (λ same. not (sym same))
        key one.1 in
        inr (one.0, record { owes = one.1; others = others }, calls.will one.0 key others)
    | inr none ↦ inl (none, calls.will 0 key (λ other not. none other))
  ]

pub owed_is_the_rest : OweApart → (K : Type 0) → OwedIsTheRest K
owed_is_the_rest apart K hash base k led sound = record {
  records = (led.together sound).calls.records;
  stands = (led.together sound).calls.stands;
  rest = λ key. subst (λ (s : State). IsRestAt key (led.together sound).calls.records s k)
      (sym (after-LeadsAlong k.callers k.journal base led.now led.leads))
      (rest_now apart hash base k led sound key);
}

-- ---- opened again

module _ (no_fault : FileHasNoFault) (hash : RecordKey → ℕ) (content : List (List ℕ)) (s : State)
    (file : IsFileOf hash content s) where
  refused_for_want : (fault : OpenFault) → MayRefuse hash content fault → IsOfMachine fault
  refused_for_want opens.TooFewFrames may = tt
  refused_for_want opens.NoMemory may = tt
  refused_for_want (opens.Wrong fault) may = elim may [
    | inl machine ↦ machine
    | inr wrong ↦ absurd (no_fault LAYOUT is_today hash content s fault file wrong)
  ]

  opens_on : (K : Type 0) → OpensRefine K → OpensOn K hash content s
  opens_on K opens_led = record {
    system = λ found is. file.system.only found is.system.has;
    opens = λ keys honest callers frames k opened true_to_it some few.
        let led = opens_led hash keys content honest callers frames k opened true_to_it (s, file) some few in
        subst (λ (base : State). Refines hash base k) (file.system.only led.base led.file.system.has) led.led;
    refuses = refused_for_want;
  }

pub closed_opens : FileHasNoFault → (K : Type 0) → OpensRefine K → ClosesRefine K → ClosedOpens K
closed_opens no_fault K opens_led closes hash base content k led idle sound flushed =
    opens_on no_fault hash content (restarted (after k.callers k.journal base))
    (closes hash base content k led idle sound flushed) K opens_led
