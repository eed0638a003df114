-- What a seat that may write the page at which its search ended knows of it.
use Rattle.std.proofs.Common.{◌≡◌, refl, sym, ap, ◌∙◌, subst, ℕ, true, List, [], ◌∷◌, Option, Some, None, IsSome, length}
use Rattle.std.proofs.lemmas.Bool.{true≢false}
use Rattle.std.specs.Option.{option_map}
use Rattle.split_merge.specs.stale_search.declared.place.SearchPlace.{SearchPlace}
use Rattle.split_merge.specs.stale_search.declared.place.SearchPlace.TheVariants.{GrantDirectory, ReadDepth, ReadEntry, GrantPage, ReleaseDirectory, Look as AtLook, Hop, Found}
use Rattle.split_merge.specs.file_pages.declared.fault.FileFault.{FileFault}
use Rattle.page_locks.specs.Writers.{may_write}
use Rattle.step_rules.specs.Searching.{WalksTo}
use Rattle.split_merge.specs.stale_search.Searches.{AnswersFor, IsLed, KeepsAim, LeadsFrom, facts_at, locks_at}
use Rattle.split_merge.specs.stale_search.Rows.{on_page}
use Rattle.split_merge.proofs.of_stale_search.RowLemmas.{page_on}
use Rattle.record_file.specs.Words.{RecordKey, PoolState, Table, Lock, Selective, Page, Change, Store, row_of, kind_of, lookup, records_at, Progress, Moved, Look, WriteRecord, World, Turn, Known, LeadsTo, OnPage, Covering, AllKnown, IsSoundWorld, world, Sees, Step, HasNoFileLock, LockKind, SearchView, search_facts, search_locks, found_at}
use Rattle.record_file.specs.Machines.{Tells}
use Rattle.record_file.specs.Writers.{seen_at, seen_of}
use Rattle.record_file.proofs.AnswerLemmas.{tells}

-- no page has answered
pub none_found : (v : SearchView) → found_at v.place ≡ None → IsSome (found_at v.place) → ⊥
none_found v none some = true≢false (sym (subst IsSome none some))

pub unseen : (p : SearchPlace) (key : RecordKey) (k : ℕ) → found_at p ≡ None → seen_at p key k ≡ facts_at p k
unseen GrantDirectory key k none = refl
unseen ReadDepth key k none = refl
unseen (ReadEntry depth) key k none = refl
unseen (GrantPage n) key k none = refl
unseen (ReleaseDirectory n) key k none = refl
unseen (AtLook n) key k none = refl
unseen (Hop n) key k none = refl
unseen (Found n found) key k none = absurd cc

-- a search writes no record
pub searches_only : (did : Progress FileFault) (k : ℕ) (s : Store) (p q : SearchPlace) → IsLed did k s p q →
    did ≡ Moved WriteRecord → ⊥
searches_only did k s p q led wrote = by p (subst (λ (d : Progress FileFault). IsLed d k s p q) wrote led)
  where
    by : (p : SearchPlace) → LeadsFrom WriteRecord k s p q → ⊥
    by GrantDirectory leads = let is = leads.0 in cc
    by ReadDepth leads = let is = leads.0 in cc
    by (ReadEntry depth) leads = let is = leads.0 in cc
    by (GrantPage n) leads = let is = leads.0 in cc
    by (ReleaseDirectory n) leads = let is = leads.0 in cc
    by (AtLook n) leads = let is = leads.0 in cc
    by (Hop n) leads = let is = leads.0 in cc
    by (Found n found) leads = leads

no_value : (found : Option (List ℕ)) → None ≡ option_map length found → found ≡ None
no_value None is = refl
no_value (Some value) is = absurd cc

module _ (hash : RecordKey → ℕ) (seat : ℕ) (key : RecordKey) (k : ℕ) (keyed : hash key ≡ k) (pool pool' : PoolState)
    (locks locks' : Table) (change : Change) (turn : Turn) where
  abbrev old : World
  old = world pool.images locks change

  abbrev StepTo : Progress FileFault → List Known → Type 0
  StepTo did facts = Step hash seat turn did facts pool pool' locks locks' change

  -- a Look changes nothing, so what was so is known
  learned : (m : ℕ) (found : Option ℕ) → AllKnown seat old (seen_at (Found m found) key k) →
      StepTo (Moved Look) (LeadsTo m k ∷ []) → StepTo (Moved Look) (seen_at (Found m found) key k)
  learned m found all step = record {
    after = step.after;
    file = step.file;
    others = step.others;
    known = subst (λ (w : World). AllKnown seat w (seen_at (Found m found) key k)) (sym step.does.reads.is) all;
    does = step.does;
    led = led found;
  }
    where
      -- it stands where it stood
      led : (found : Option ℕ) → WalksTo {F = FileFault} seat turn.ask (Moved Look) old
          (world pool'.images locks' step.after) (seen_at (Found m found) key k)
      led None = step.led
      led (Some bytes) = step.led

  module _ (did : Progress FileFault) (sound : IsSoundWorld hash old) (before : List Lock)
      (bare : HasNoFileLock before) where
    seen : (n m : ℕ) (found : Option ℕ) → row_of locks seat ≡ on_page n Selective before →
        AllKnown seat old (facts_at (AtLook n) k) → AnswersFor hash seat did key (AtLook n) (Found m found) old →
        AllKnown seat old (seen_at (Found m found) key k)
    seen n m found row known answers =
        let known' = subst (λ (x : ℕ). AllKnown seat old (facts_at (AtLook n) x)) (sym keyed) known in
        let t = tells hash seat did key old sound n m found known' answers.0 answers.1 in
        let own : may_write (kind_of (row_of locks seat) (Page m)) ≡ true = ap may_write
        (ap (λ (x : ℕ). kind_of (row_of locks seat) (Page x)) answers.0
        ∙ ap (λ (xs : List Lock). kind_of xs (Page n)) row ∙ page_on before bare n Selective) in
        let leads = subst (λ (x : ℕ). AllKnown seat old (facts_at (AtLook x) k)) (sym answers.0) known in
        let covers = subst (λ (x : ℕ). AllKnown seat old (OnPage m (Covering x) ∷ [])) keyed
        ((own, t.answer.answers), tt) in
        by found t own leads covers
      where
        by : (found : Option ℕ) → Tells hash seat m key found old →
            may_write (kind_of (row_of locks seat) (Page m)) ≡ true →
            AllKnown seat old (LeadsTo m k ∷ []) → AllKnown seat old (OnPage m (Covering k) ∷ []) →
            AllKnown seat old (seen_at (Found m found) key k)
        by (Some bytes) t own leads covers = (leads.0, (covers.0, ((own, sym t.length_is), tt)))
        by None t own leads covers =
            (leads.0, (covers.0, ((own, no_value (lookup key (records_at old.store m)) t.length_is), tt)))

    pub searched : (p q : SearchPlace) → found_at p ≡ None → row_of locks seat ≡ locks_at p Selective before →
        AllKnown seat old (facts_at p k) → AnswersFor hash seat did key p q old →
        StepTo did (facts_at q k) → StepTo did (seen_at q key k)
    searched p q none row known answers step = by p q none row known answers step
      where
        same : (q : SearchPlace) → found_at q ≡ None → StepTo did (facts_at q k) → StepTo did (seen_at q key k)
        same q is step = subst (λ (facts : List Known). StepTo did facts) (sym (unseen q key k is)) step

        by : (p q : SearchPlace) → found_at p ≡ None → row_of locks seat ≡ locks_at p Selective before →
            AllKnown seat old (facts_at p k) → AnswersFor hash seat did key p q old →
            StepTo did (facts_at q k) → StepTo did (seen_at q key k)
        by GrantDirectory q none row known answers step = same q answers step
        by ReadDepth q none row known answers step = same q answers step
        by (ReadEntry depth) q none row known answers step = same q answers step
        by (GrantPage n) q none row known answers step = same q answers step
        by (ReleaseDirectory n) q none row known answers step = same q answers step
        by (Hop n) q none row known answers step = same q answers step
        by (Found n found) q none row known answers step = absurd cc
        by (AtLook n) GrantDirectory none row known answers step = step
        by (AtLook n) ReadDepth none row known answers step = step
        by (AtLook n) (ReadEntry depth) none row known answers step = step
        by (AtLook n) (GrantPage m) none row known answers step = step
        by (AtLook n) (ReleaseDirectory m) none row known answers step = step
        by (AtLook n) (AtLook m) none row known answers step = step
        by (AtLook n) (Hop m) none row known answers step = step
        by (AtLook n) (Found m found) none row known answers step =
            let looked = answers.1.looked in
            let bare_step = subst (λ (d : Progress FileFault). StepTo d (LeadsTo m k ∷ [])) looked step in
            subst (λ (d : Progress FileFault). StepTo d (seen_at (Found m found) key k)) (sym looked)
            (learned m found (seen n m found row known answers) bare_step)

-- the search of a machine that is to write goes on
module _ (hash : RecordKey → ℕ) (seat : ℕ) (pool : PoolState) (locks : Table) (change : Change) (v : SearchView)
    (none : found_at v.place ≡ None) (sees : Sees hash seat (seen_of v) pool locks change) where
  pub sees_search : Sees hash seat (search_facts v) pool locks change
  sees_search = subst (λ (facts : List Known). Sees hash seat facts pool locks change)
      (unseen v.place v.key v.pseudokey none) sees

  pub search_stepped : (pool' : PoolState) (locks' : Table) (did : Progress FileFault) (turn : Turn) (v' : SearchView)
      (before : List Lock) → HasNoFileLock before → KeepsAim did pool v v' → v.kind ≡ Selective →
      hash v.key ≡ v.pseudokey → row_of locks seat ≡ search_locks v before →
      AnswersFor hash seat did v.key v.place v'.place (world pool.images locks change) →
      Step hash seat turn did (search_facts v') pool pool' locks locks' change →
      Step hash seat turn did (seen_of v') pool pool' locks locks' change
  search_stepped pool' locks' did turn v' before bare aim selective keyed row answers step =
      let row' : row_of locks seat ≡ locks_at v.place Selective before =
      row ∙ ap (λ (kind : LockKind). locks_at v.place kind before) selective in
      let step' = subst (λ (k : ℕ). Step hash seat turn did (facts_at v'.place k) pool pool' locks locks' change)
      aim.pseudokey step in
      let done = searched hash seat v.key v.pseudokey keyed pool pool' locks locks' change turn did
      sees_search.sound before bare v.place v'.place none row' sees_search.known answers step' in
      subst (λ (key : RecordKey). Step hash seat turn did (seen_at v'.place key v'.pseudokey) pool pool' locks
      locks' change) (sym aim.key)
      (subst (λ (k : ℕ). Step hash seat turn did (seen_at v'.place v.key k) pool pool' locks locks' change)
      (sym aim.pseudokey) done)
