-- A system of which these pages hold exactly the records: each of theirs is one of it, and they are as many
-- (docs/FORMAT.md, "Records").
use Rattle.std.specs.Prelude.{◌≡◌, ℕ, ◌<◌, false, List, length, slice_index_or}
use Rattle.std.specs.List.{All, Contains}
use Rattle.queue_model.specs.declared.queue.Queue.{Queue}
use Rattle.queue_model.specs.Lawful.{IsLawful}
use Rattle.record_walk.specs.declared.queue_links.QueueLinks.{QueueLinks}
use Rattle.record_walk.specs.Links.{AreLinksOf}
use Rattle.type_chains.specs.Image.{image}
use Rattle.file_check.specs.Words.{Layout, Pair, Record, SpellsIn, State, Store, pairs_on}

-- key and value are those of a record of the system
abbrev pub IsOf : Layout → State → Pair → Type 0
IsOf l s p = (r : Record) × Contains (image s) r × SpellsIn l r p.key p.value

-- so are all of these, and they are so many
pub record AreCounted (l : Layout) (s : State) (ps : List Pair) (count : ℕ) : Type 0 where
  pub each : All (IsOf l s) ps
  pub number : count ≡ length ps

pub record AreJustOf (l : Layout) (st : Store) (ns : List ℕ) (s : State) : Type 0 where
  pub lawful : IsLawful s
  pub running : s.stopped ≡ false
  pub each : All (IsOf l s) (pairs_on st ns)
  pub many : length (pairs_on st ns) ≡ length (image s)

-- the links of each queue of a system
pub record AreLinksOfAll (s : State) (links : List QueueLinks) : Type 0 where
  pub number : length links ≡ length s.queues
  pub each : (i : ℕ) (q : Queue) (l : QueueLinks) → i < length links →
      AreLinksOf (slice_index_or s.queues i q).messages (slice_index_or links i l)
