-- The pages of a session, as a save sees them.
use Rattle.std.proofs.Common.{arith, ℕ, ◌≡◌, ◌<◌, refl, sym, ap, ◌∙◌, subst, Bool, true, false, IsTrue, List, [], length, slice_get, Option, Some, None}
use Rattle.std.specs.Prelude.{IfSome, slice_index_or}
use Rattle.std.proofs.lemmas.Option.{slice_get-get_or}
use Rattle.interleaving_core.specs.Renewing.{IsPage}
use Rattle.queue_model.specs.State.{State}
use Rattle.session.specs.Session.{AreItsPages, GivesPage, Holds, SessionState, TellsChanges, pages_of, saved_of}
use Rattle.session.proofs.WriteLemmas.{page_stays, same_page, same_pages, still_its}
use Rattle.pair_transfers.specs.Saving.{IsToldOf, NotesPages}
use Rattle.msgq_c.specs.Keeping.{IsSaved}
use Rattle.msgq_c.specs.Saving.{Turns, Wants, saved_by}
use Rattle.msgq_c.specs.declared.kept.Kept.{Kept}

abbrev Pages : Type 0
Pages = List (List ℕ)

-- ---- which of them have changed

module _ (from : ℕ) (k : SessionState) (content : Pages) (its : AreItsPages content k) where
  as_saved : (page : ℕ) → page < length content → IsPage page (slice_index_or (saved_of k) page []) k.pool →
      slice_index_or content page [] ≡ slice_index_or (saved_of k) page []
  as_saved page within is =
      same_page page (slice_index_or content page []) (slice_index_or (saved_of k) page []) k.pool
      (its.each page within) is

  pub told_so : (told : Option ℕ) (s : State) → Holds s k → TellsChanges from told k →
      IsToldOf from told (saved_of k) content
  told_so None s holds tells = λ page behind within.
      as_saved page within (tells s holds page behind (subst (λ (n : ℕ). page < n) its.many within))
  told_so (Some next) s holds tells =
      let is = tells s holds in
      let there = subst (λ (n : ℕ). next < n) (sym its.many) is.within in
      record {
        behind = is.behind;
        within = there;
        others = λ page behind before.
            as_saved page (omega (arith, before, there)) (is.others page behind before);
      }

-- ---- a page is told

module _ (page : ℕ) (old : Kept) (new : SessionState) (within : page < pages_of old.session) where
  pub given_is : (given : Option (List ℕ)) → GivesPage page given old.session new → IfSome given (λ bytes.
      (content : Pages) → Wants old content → slice_get content page ≡ Some bytes)
  given_is None gives = tt
  given_is (Some bytes) gives = λ content wants.
      let is = gives.becomes wants.system wants.holds in
      let there = subst (λ (n : ℕ). page < n) (sym wants.its.many) within in
      slice_get-get_or content page [] there
      ∙ ap Some (same_page page (slice_index_or content page []) bytes new.pool
      (page_stays page (slice_index_or content page []) old.session.pool new.pool is.images
      (wants.its.each page there)) is.is)

  pub given_kept : (given : Option (List ℕ)) → GivesPage page given old.session new → IfSome given (λ _.
      (content : Pages) → Wants old content → Wants (record old { session = new }) content)
  given_kept None gives = tt
  given_kept (Some bytes) gives = λ content wants.
      let is = gives.becomes wants.system wants.holds in
      record {
        system = wants.system;
        holds = is.holds;
        its = still_its content old.session new is.images gives.many wants.its;
        as_many = wants.as_many ∙ ap length (sym gives.saved);
      }

  pub given_turned : (given : Option (List ℕ)) → GivesPage page given old.session new →
      IfSome given (λ _. Turns old (record old { session = new }))
  given_turned None gives = tt
  given_turned (Some bytes) gives = record { holds = λ s holds. (gives.becomes s holds).holds; others = refl }

-- ---- they are saved

pub noted_so : (saved : Bool) (old new : Kept) → IsSaved saved old new → IsTrue saved → IsSaved true old new
noted_so saved old new is so = subst (λ (b : Bool). IsSaved b old new) so is

pub noted_pages : (saved : Bool) (old new : Kept) → IsSaved saved old new → IsTrue saved → (content : Pages) →
    Wants old content → NotesPages content (saved_by new) (Wants new)
noted_pages false old new is so content wants = absurd cc
noted_pages true old new is so content wants =
    let all = is.0.becomes wants.system wants.holds in
    let same : saved_of new.session ≡ content = same_pages (saved_of new.session) content new.session all.all
    (still_its content old.session new.session all.images is.0.many wants.its) in
    record {
      saved_is = same;
      wanted = record {
        system = wants.system;
        holds = all.holds;
        its = subst (λ (ps : Pages). AreItsPages ps new.session) same all.all;
        as_many = ap length (sym same);
      };
    }
