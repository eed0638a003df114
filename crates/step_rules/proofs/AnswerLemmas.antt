-- A look may tell what it sees; and a directory that is given back from an exclusive lock is halved.
use Rattle.std.proofs.Common.{◌≡◌, ◌≢◌, ◌⊎◌, ℕ, List, [], ◌∷◌, Some, refl, sym, ◌∙◌, subst, inl, inr}
use Rattle.std.proofs.lemmas.Bool.{cases_eq, ne_eqb}
use Rattle.directory.proofs.MemberLaws.{contains_head, contains_tail}
use Rattle.bucket_page.specs.declared.record_key.RecordKey.{RecordKey}
use Rattle.bucket_page.specs.Records.{lookup}
use Rattle.page_locks.specs.declared.lock.LockKind.TheVariants.{Exclusive}
use Rattle.page_locks.specs.declared.lock.LockName.TheVariants.{Directory, Page}
use Rattle.page_locks.specs.Table.{held}
use Rattle.hash_file.specs.Store.{Store, bucket_at, records_at}
use Rattle.hash_file.specs.Chain.{chain, number_on}
use Rattle.hash_file.specs.Looks.{Answers}
use Rattle.hash_file.specs.Sound.{IsSoundFile}
use Rattle.hash_file.proofs.Searches.{looks_answer}
use Rattle.hash_file.proofs.Ties.{quiet_exact}
use Rattle.step_rules.specs.World.{World, IsHeld}
use Rattle.step_rules.specs.Sound.{IsSoundWorld}
use Rattle.step_rules.specs.Known.{LeadsTo, IsKnown}
use Rattle.step_rules.specs.LockSteps.{Releases}
use Rattle.step_rules.specs.Learns.{IsLiveOn}
use Rattle.step_rules.specs.Answering.{IsAnswerOf}

pub look_may_tell : (hash : RecordKey → ℕ) (seat page : ℕ) (key : RecordKey) (w : World) → IsSoundWorld hash w →
    IsKnown seat w (LeadsTo page (hash key)) → IsHeld w.locks seat (Page page) → Answers w.store page (hash key) →
    IsAnswerOf hash seat page key (lookup key (records_at w.store page)) w
look_may_tell hash seat page key w sound leads there answers = record {
  held = there;
  answers = answers;
  told = sym (looks_answer hash w.store w.change (chain w.store) page key sound.file leads.1 answers);
}

-- where some are counted there is one
one_counted : (s : Store) (depth : ℕ) (ns : List ℕ) → number_on s ns depth ≢ 0 → (n : ℕ) × IsLiveOn s ns depth n
one_counted s depth [] some = absurd (some refl)
one_counted s depth (n ∷ ns) some = elim (cases_eq (bucket_at s n).depth depth) [
  | inl is ↦ (n, (contains_head n ns, is))
  | inr other ↦
      let rest = one_counted s depth ns (λ none. some (rw (ne_eqb (bucket_at s n).depth depth other, none) refl)) in
      (rest.0, (contains_tail n rest.0 ns rest.1.0, rest.1.1))
]

pub directory_is_halved : (hash : RecordKey → ℕ) (seat : ℕ) (old new : World) (r : Releases seat old new) →
    IsSoundWorld hash old → r.name ≡ Directory → held old.locks seat Directory ≡ Some Exclusive →
    (old.store.header.depth ≡ 0) ⊎ ((n : ℕ) × IsLiveOn old.store (chain old.store) old.store.header.depth n)
directory_is_halved hash seat old new r sound is alone =
    let done = r.done is (rw alone refl) in
    let file = subst (IsSoundFile hash old.store) done.quiet sound.file in
    let exact = (quiet_exact hash old.store file).counts old.store.header.depth sound.file.layout.depth in
    elim (done.halved alone) [
      | inl flat ↦ inl flat
      | inr some ↦ inr (one_counted old.store old.store.header.depth (chain old.store) (λ none. some (exact ∙ none)))
    ]
