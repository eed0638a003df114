-- Worlds in which no seat holds a lock.
use Rattle.std.proofs.Common.{◌≡◌, ℕ, List, None, refl, ap, subst}
use Rattle.bucket_page.specs.declared.record_key.RecordKey.{RecordKey}
use Rattle.page_locks.specs.declared.lock.Lock.{Lock}
use Rattle.page_locks.specs.declared.lock.LockName.{LockName}
use Rattle.page_locks.specs.declared.lock.LockName.TheVariants.{Directory, Page}
use Rattle.page_locks.specs.Locks.{kind_of}
use Rattle.page_locks.specs.Table.{Table, held, IsLawful}
use Rattle.page_locks.specs.Ties.{IsUnheld}
use Rattle.page_locks.proofs.WriterLemmas.{HasNoWriter-at_rest}
use Rattle.directory.proofs.MemberLaws.{contains_none}
use Rattle.hash_file.specs.Store.{Store}
use Rattle.hash_file.specs.Change.{Quiet}
use Rattle.hash_file.specs.Sound.{IsSoundFile}
use Rattle.step_rules.specs.World.{World}
use Rattle.step_rules.specs.Sound.{IsSoundWorld}
use Rattle.step_rules.proofs.LockLemmas.{none_is_not_some}

none_held : (t : Table) (seat : ℕ) (name : LockName) → IsUnheld t → held t seat name ≡ None
none_held t seat name rest = ap (λ (row : List Lock). kind_of row name) (rest seat)

pub rest_is_sound : (hash : RecordKey → ℕ) (s : Store) (t : Table) → IsSoundFile hash s Quiet → IsLawful t
    → IsUnheld t →
    IsSoundWorld hash (record { store = s; locks = t; change = Quiet })
rest_is_sound hash s t sound lawful rest = record {
  file = sound;
  lawful = lawful;
  led = λ none. refl;
  guarded = λ page there reached. absurd (contains_none page there);
  standing = λ seat page there. absurd (none_is_not_some (none_held t seat (Page page) rest) there);
}

pub rest_is_quiet : (hash : RecordKey → ℕ) (w : World) → IsSoundWorld hash w → IsUnheld w.locks →
    IsSoundFile hash w.store Quiet
rest_is_quiet hash w sound rest =
    subst (IsSoundFile hash w.store) (sound.led (HasNoWriter-at_rest w.locks Directory rest)) sound.file
