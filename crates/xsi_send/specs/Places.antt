-- What a Send reads of the types of its queue.
-- docs/STEPS.md, "What a call reads".
use Rattle.std.specs.Prelude.{◌≡◌, ◌≢◌, ℕ, ◌+◌, ℤ, ◌<ℤ◌, List, ◌∷◌, ◌++◌, length, Option}
use Rattle.std.specs.List.{All, Contains}
use Rattle.numbers.specs.declared.limits.TheConstants.{MAX_MESSAGES}
use Rattle.queue_model.specs.declared.queue.Queue.{Queue}
use Rattle.type_chains.specs.Entries.{type_entry}
use Rattle.type_chains.specs.Lists.{types}
use Rattle.type_chains.specs.Neighbours.{first_of, last_of}
use Rattle.xsi_send.specs.declared.stage.Walk.{Walk}
use Rattle.xsi_send.specs.declared.type_place.TypePlace.{TypePlace}
use Rattle.xsi_send.specs.declared.type_place.TypePlace.TheVariants.{Standing, Between}

-- a message of the type stands on the queue, the last of them with this serial
pub record IsStanding (mtype : ℤ) (serial : ℕ) (q : Queue) : Type 0 where
  pub stands : Contains (types q.messages) mtype
  pub last : serial ≡ (type_entry q mtype).last

-- none does: each type of the queue is below it or above it, and these are next to it
pub record IsBetween (mtype : ℤ) (low high : Option ℤ) (q : Queue) : Type 0 where
  pub below : List ℤ
  pub above : List ℤ
  pub split : types q.messages ≡ below ++ above
  pub less : All (λ (t : ℤ). t <ℤ mtype) below
  pub more : All (λ (t : ℤ). mtype <ℤ t) above
  pub lower : low ≡ last_of below
  pub higher : high ≡ first_of above

-- the type's place on the queue
abbrev pub IsPlaceOf : ℤ → TypePlace → Queue → Type 0
IsPlaceOf mtype (Standing serial) q = IsStanding mtype serial q
IsPlaceOf mtype (Between lower higher) q = IsBetween mtype lower higher q

-- the types from the lowest up to the one before the next are below the type, which is not among them
pub record IsWalked (mtype : ℤ) (w : Walk) (q : Queue) : Type 0 where
  pub walked : List ℤ
  pub rest : List ℤ
  pub split : types q.messages ≡ walked ++ w.next ∷ rest
  pub less : All (λ (t : ℤ). t <ℤ mtype) walked
  pub absent : All (λ (t : ℤ). t ≢ mtype) (types q.messages)
  pub lower : w.lower ≡ last_of walked
  -- with those that were read, as many may still be as messages may stand on a queue
  pub count : length walked + w.left ≡ MAX_MESSAGES
