-- What stands at the key after a step allows what is left to do.
use Rattle.std.proofs.Common.{◌≡◌, refl, sym, ap, ◌∙◌, subst, ℕ, Bool, true, false, not, ◌&&◌, List, length, if◌then◌else◌, inl, inr, Option, Some, None, IsSome}
use Rattle.std.proofs.lemmas.Bool.{true≢false}
use Rattle.std.specs.Option.{option_map}
use Rattle.record_file.specs.SecondSteps.{IsSeenThere, SaysAt}
use Rattle.record_file.proofs.AccessNames.{FileFault}
use Rattle.record_file.proofs.RecordLemmas.{front_stays, is_such, such_then}
use Rattle.record_file.specs.AccessWords.{RecordKey, pair, contents, Progress, Moved, WriteRecord, World, HasNoRoom, Tried, IsPut, IsThere, IsFull, LeavesSearch, RecordOperation, TellsNone, has_searched, operation_found, operation_tried, Links, Record, HasSuch, relinked, value_of, Write, Replace, Relink, Delete}
use Rattle.record_file.specs.Purposes.{Purpose, ToFind, ToInsert, ToWrite, CanBeOn, made}
use Rattle.record_file.specs.Accesses.{AccessView, Allows, CameTo, FitsWrite, IsFrontOf, IsPrepared, IsToWrite, is_full}
use Rattle.record_file.specs.Readings.{SuitsRecord}

-- what stands there after a step that writes, or not
abbrev pub left : Bool → Purpose → Option Record → Option Record
left b p found = if b then made p found else found

-- whether it has then written
abbrev pub then_written : Bool → Bool → Bool
then_written b written = if b then true else written

no_value : (value : List ℕ) (found : Option Record) → Some value ≡ option_map value_of found → found ≡ None → ⊥
no_value value None is none = absurd cc
no_value value (Some r) is none = absurd cc

some_length : (n : ℕ) (value : Option (List ℕ)) → Some n ≡ option_map length value → value ≡ None → ⊥
some_length n None is none = absurd cc
some_length n (Some v) is none = absurd cc

-- ---- an insert

module _ (hash : RecordKey → ℕ) (seat : ℕ) (did : Progress FileFault) (key : RecordKey) (bytes : List ℕ) (w w' : World)
    (r : Record) (found : Option Record) (holds : contents w.store key ≡ option_map value_of found) where
  seen_some : IsSeenThere hash seat did key w → found ≡ None → ⊥
  seen_some seen none =
      some_length seen.bytes _ seen.tells.length_is
      (seen.tells.answer.told ∙ holds ∙ ap (option_map value_of) none)

  pub came_on : (b written : Bool) (before after : Option Tried) → (did ≡ Moved WriteRecord → b ≡ true) →
      found ≡ (if written then Some r else None) → CameTo before written →
      SaysAt hash seat did (pair key bytes) before after w w' → CameTo after (then_written b written)
  came_on true written before None wrote stands came says = tt
  came_on true written before (Some t) wrote stands came says = λ unwritten. absurd cc
  came_on false true before None wrote stands came says = tt
  came_on false true before (Some t) wrote stands came says = λ unwritten. absurd cc
  came_on false false before None wrote stands came says = tt
  came_on false false None (Some IsThere) wrote stands came says = absurd (seen_some says stands)
  came_on false false None (Some IsPut) wrote stands came says = absurd (true≢false (sym (wrote says)))
  came_on false false None (Some IsFull) wrote stands came says = λ unwritten. refl
  came_on false false (Some u) (Some t) wrote stands came says =
      let same : t ≡ u = let is = says in cc in
      λ unwritten. ap (λ (x : Tried). is_full (Some x)) same ∙ came refl

module _ (hash : RecordKey → ℕ) (seat : ℕ) (did : Progress FileFault) (key : RecordKey) (bytes : List ℕ) (w w' : World)
  where
    -- it turns to having no room where there is none
    pub lacks_on : (b written : Bool) (before after : Option Tried) →
        SaysAt hash seat did (pair key bytes) before after w w' → is_full before && not written ≡ false →
        is_full after && not (then_written b written) ≡ true → HasNoRoom hash (pair key bytes) w'
    lacks_on true written before None says was is = absurd cc
    lacks_on true written before (Some IsThere) says was is = absurd cc
    lacks_on true written before (Some IsPut) says was is = absurd cc
    lacks_on true written before (Some IsFull) says was is = absurd cc
    lacks_on false written before None says was is = absurd cc
    lacks_on false written before (Some IsThere) says was is = absurd cc
    lacks_on false written before (Some IsPut) says was is = absurd cc
    lacks_on false written None (Some IsFull) says was is = says
    lacks_on false written (Some u) (Some IsFull) says was is =
        let same : IsFull ≡ u = let same = says in cc in
        absurd (true≢false (sym is ∙ ap (λ (x : Tried). is_full (Some x) && not written) same ∙ was))

stands_on : (r : Record) (b written : Bool) (found : Option Record) → found ≡ (if written then Some r else None) →
    left b (ToInsert r) found ≡ (if then_written b written then Some r else None)
stands_on r true written found stands = refl
stands_on r false written found stands = stands

-- ---- a relink

relinked_on : (key : RecordKey) (links : Links) (b : Bool) (at : Option (ℕ × Option ℕ)) (bytes : List ℕ)
    (found : Option Record) → (b ≡ true → IsSome at) → HasSuch links found → IsPrepared at links bytes found →
    HasSuch links (left b (ToWrite (Relink key links)) found)
    × IsPrepared at links bytes (left b (ToWrite (Relink key links)) found)
relinked_on key links false at bytes found answered such prepared = (such, prepared)
relinked_on key links true None bytes found answered such prepared = absurd (true≢false (sym (answered refl)))
relinked_on key links true (Some at) bytes found answered such prepared = (
  such_then links found such,
  λ r' is'.
      let it = is_such links found such in
      let same : r' ≡ relinked links it.entry =
      let after : option_map (relinked links) found ≡ Some (relinked links it.entry) =
      ap (option_map (relinked links)) it.is in cc in
      subst (IsFrontOf links bytes) (sym same) (front_stays links bytes it.entry it.such (prepared it.entry it.is)),
)

replaced_on : (r : Record) (b : Bool) (found : Option Record) → CanBeOn (Replace r) found →
    CanBeOn (Replace r) (left b (ToWrite (Replace r)) found)
replaced_on r true found can = refl
replaced_on r false found can = can

deleted_on : (key : RecordKey) (b written : Bool) (found : Option Record) → (written ≡ false → IsSome found) →
    then_written b written ≡ false → IsSome (left b (ToWrite (Delete key)) found)
deleted_on key true written found allows unwritten = absurd (true≢false unwritten)
deleted_on key false written found allows unwritten = allows unwritten

fits_on : (write : Write) (found : Option Record) (a : AccessView) (o' : RecordOperation) (b : Bool) →
    operation_found o' ≡ operation_found a.operation → (b ≡ true → (key : RecordKey) (links : Links) →
    write ≡ Relink key links → IsSome (operation_found a.operation)) → FitsWrite write a found →
    FitsWrite write (record { operation = o'; links = a.links; bytes = a.bytes; written = then_written b a.written })
    (left b (ToWrite write) found)
fits_on (Replace r) found a o' b same answered fits = replaced_on r b found fits
fits_on (Relink key links) found a o' b same answered fits =
    let after = relinked_on key links b (operation_found a.operation) a.bytes found
    (λ yes. answered yes key links refl) fits.0 fits.1 in (
      after.0,
      subst (λ (at : Option (ℕ × Option ℕ)). IsPrepared at links a.bytes
          (left b (ToWrite (Relink key links)) found)) (sym same) after.1,
    )
fits_on (Delete key) found a o' b same answered fits = deleted_on key b a.written found fits

-- ---- a write is still to be made, or has been

-- its search goes on where it neither writes nor was told that nothing stands there
pub searches_on : (did : Progress FileFault) (at : Option (ℕ × Option ℕ)) (before after : Bool) →
    (did ≡ Moved WriteRecord → ⊥) → (TellsNone at → ⊥) → before ≡ false → LeavesSearch did at before after →
    after ≡ false
searches_on did at before false other told is leaves = refl
searches_on did at true true other told is leaves = is
searches_on did at false true other told is (inl wrote) = absurd (other wrote)
searches_on did at false true other told is (inr none) = absurd (told none)

pub due_on : (did : Progress FileFault) (o o' : RecordOperation) (b written : Bool) →
    operation_found o' ≡ operation_found o → (did ≡ Moved WriteRecord → b ≡ true) →
    LeavesSearch did (operation_found o) (has_searched o) (has_searched o') → (written ≡ false → IsToWrite o) →
    then_written b written ≡ false → IsToWrite o'
due_on did o o' true written same wrote leaves due unwritten = absurd (true≢false unwritten)
due_on did o o' false written same wrote leaves due unwritten =
    let was = due unwritten in
    record {
      searches = searches_on did (operation_found o) (has_searched o) (has_searched o')
          (λ is. true≢false (sym (wrote is))) was.told was.searches leaves;
      told = λ none. was.told (subst TellsNone same none);
    }

-- what can be changed stands there
something : (write : Write) (a : AccessView) (found : Option Record) → FitsWrite write a found → a.written ≡ false →
    IsSome found
something (Replace r) a None fits unwritten = absurd cc
something (Replace r) a (Some q) fits unwritten = refl
something (Relink key links) a found fits unwritten = subst IsSome (sym (is_such links found fits.0).is) refl
something (Delete key) a found fits unwritten = fits unwritten

-- after the Look of a page that answered
pub allows_taken : (p : Purpose) (found : Option Record) (a new : AccessView) → new.written ≡ a.written →
    Allows p a found → SuitsRecord p new found →
    (IsSome found → IsToWrite a.operation → IsToWrite new.operation) → Allows p new found
allows_taken (ToFind key) found a new same allows suits told = tt
allows_taken (ToInsert r) found a new same allows suits told = suits
allows_taken (ToWrite write) found a new same allows suits told = record {
  fits = suits;
  due = λ unwritten. told (something write new found suits unwritten) (allows.due (sym same ∙ unwritten));
}

-- ---- each access, where its operation tells what it told

pub allows_on : (p : Purpose) (found : Option Record) (a : AccessView) (o' : RecordOperation) (b : Bool) →
    operation_found o' ≡ operation_found a.operation → (b ≡ true → (key : RecordKey) (links : Links) →
    p ≡ ToWrite (Relink key links) → IsSome (operation_found a.operation)) →
    ((r : Record) → p ≡ ToInsert r → found ≡ (if a.written then Some r else None) →
    CameTo (operation_tried a.operation) a.written → CameTo (operation_tried o') (then_written b a.written)) →
    ((a.written ≡ false → IsToWrite a.operation) → then_written b a.written ≡ false → IsToWrite o') →
    Allows p a found →
    Allows p (record { operation = o'; links = a.links; bytes = a.bytes; written = then_written b a.written })
    (left b p found)
allows_on (ToFind key) found a o' b same answered came due allows = tt
allows_on (ToInsert r) found a o' b same answered came due allows = record {
  stands = stands_on r b a.written found allows.stands;
  came_to = came r refl allows.stands allows.came_to;
}
allows_on (ToWrite write) found a o' b same answered came due allows = record {
  fits = fits_on write found a o' b same (λ yes key links is. answered yes key links (ap ToWrite is)) allows.fits;
  due = due allows.due;
}
