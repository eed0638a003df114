-- What a search that a machine is built on tells of its answer.
use Rattle.std.proofs.Common.{◌≡◌, refl, sym, ap, ◌∙◌, subst, ℕ, ◌+◌, Option, Some, None, length, inl, inr, arith}
use Rattle.std.specs.Option.{option_map}
use Rattle.split_merge.specs.stale_search.declared.place.SearchPlace.{SearchPlace}
use Rattle.split_merge.specs.stale_search.declared.place.SearchPlace.TheVariants.{GrantDirectory, ReadDepth, ReadEntry, GrantPage, ReleaseDirectory, Look as AtLook, Hop, Found}
use Rattle.split_merge.specs.file_pages.declared.fault.FileFault.{FileFault}
use Rattle.step_rules.specs.Answering.{TakesAnswer}
use Rattle.step_rules.proofs.AnswerLemmas.{look_may_tell}
use Rattle.split_merge.specs.stale_search.Searches.{AnswersFor, facts_at}
use Rattle.record_file.specs.Words.{RecordKey, lookup, PoolState, records_at, Progress, Moved, Blocked, Fault, Ended, World, IsSoundWorld, AllKnown, Nears, found_at}
use Rattle.record_file.specs.Machines.{Tells, FindsAt}

-- so many steps are left after the search
pub nears_on : (did : Progress FileFault) (n left left' : ℕ) (pool pool' : PoolState) →
    Nears did left left' pool pool' →
    Nears did (left + n) (left' + n) pool pool'
nears_on (Moved kind) n left left' pool pool' h = omega (arith, h)
nears_on (Blocked other) n left left' pool pool' h = tt
nears_on (Fault fault) n left left' pool pool' h = h
nears_on Ended n left left' pool pool' h = tt

module _ (hash : RecordKey → ℕ) (seat : ℕ) (did : Progress FileFault) (key : RecordKey) (w : World)
    (sound : IsSoundWorld hash w) where
  -- what is taken at a Look is what the page has
  pub tells : (n m : ℕ) (found : Option ℕ) → AllKnown seat w (facts_at (AtLook n) (hash key)) → m ≡ n →
      TakesAnswer hash did seat n key (option_map length) None (Some found) w → Tells hash seat m key found w
  tells n m found known same takes =
      let lead = look_may_tell hash seat n key w sound known.0 takes.told.held takes.told.answers in
      let value : takes.value ≡ lookup key (records_at w.store n) = takes.told.told ∙ sym lead.told in
      let is : found ≡ option_map length takes.value = let some = takes.is in cc in
      subst (λ (x : ℕ). Tells hash seat x key found w) (sym same)
      (record { answer = lead; length_is = is ∙ ap (option_map length) value })

  pub told : (old new : SearchPlace) → AllKnown seat w (facts_at old (hash key)) →
      AnswersFor hash seat did key old new w → FindsAt hash seat did key (found_at old) (found_at new) w
  told GrantDirectory new known answers = inl answers
  told ReadDepth new known answers = inl answers
  told (ReadEntry depth) new known answers = inl answers
  told (GrantPage n) new known answers = inl answers
  told (ReleaseDirectory n) new known answers = inl answers
  told (Hop n) new known answers = inl answers
  told (Found n found) new known answers = inl answers
  told (AtLook n) GrantDirectory known answers = inl refl
  told (AtLook n) ReadDepth known answers = inl refl
  told (AtLook n) (ReadEntry depth) known answers = inl refl
  told (AtLook n) (GrantPage m) known answers = inl refl
  told (AtLook n) (ReleaseDirectory m) known answers = inl refl
  told (AtLook n) (AtLook m) known answers = inl refl
  told (AtLook n) (Hop m) known answers = inl refl
  told (AtLook n) (Found m found) known answers = inr (record {
    looked = answers.1.looked;
    first = refl;
    page = m;
    found = found;
    is = refl;
    tells = tells n m found known answers.0 answers.1;
  })

-- the place at which a page answered
pub found_place : (p : SearchPlace) (page : ℕ) (found : Option ℕ) → found_at p ≡ Some (page, found) →
    p ≡ Found page found
found_place GrantDirectory page found is = absurd cc
found_place ReadDepth page found is = absurd cc
found_place (ReadEntry depth) page found is = absurd cc
found_place (GrantPage n) page found is = absurd cc
found_place (ReleaseDirectory n) page found is = absurd cc
found_place (AtLook n) page found is = absurd cc
found_place (Hop n) page found is = absurd cc
found_place (Found n f) page found is =
    let pair : ◌≡◌ {A = ℕ × Option ℕ} (n, f) (page, found) = cc in
    ap (λ (q : ℕ × Option ℕ). Found q.0 q.1) pair
