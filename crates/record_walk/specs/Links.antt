-- The links between messages of one type.
use Rattle.std.specs.Prelude.{◌≡◌, ℕ, zero, suc, ◌<◌, ℤ, List, length, map, slice_index_or, Option, Some, None}
use Rattle.std.specs.Option.{unwrap_or}
use Rattle.std.specs.List.{AllPairs}
use Rattle.record_walk.specs.declared.of_type.Ends.{Ends}
use Rattle.record_walk.specs.declared.of_type.TypeLinks.{TypeLinks}
use Rattle.record_walk.specs.declared.queue_links.QueueLinks.{QueueLinks}
use Rattle.record_walk.specs.declared.queue_links.TypeEnds.{TypeEnds}
use Rattle.record_walk.specs.Words.{Message, MessageLinks, Queue, before, behind, first_of, is_number, last_of, serials, serials_of_type, types}

-- serials ascend
abbrev pub IsAscending : List Message → Type 0
IsAscending ms = AllPairs (λ (m n : Message). m.serial < n.serial) ms

-- the serial of the next of its type
abbrev pub next_of_type : List Message → Message → Option ℕ
next_of_type ms m = behind (is_number m.serial) (serials_of_type m.mtype ms)

-- what the record of a message of a queue has to name
abbrev pub links_in : Queue → Message → MessageLinks
links_in q m = record {
  previous = before (is_number m.serial) (serials q.messages);
  next = behind (is_number m.serial) (serials q.messages);
  next_of_type = next_of_type q.messages m;
}

-- the serials of the first and the last of a type
abbrev pub ends_of : List Message → ℤ → Ends
ends_of ms mtype = record {
  first = first_of (serials_of_type mtype ms);
  last = last_of (serials_of_type mtype ms);
}

-- the last serial, where one more comes in front
abbrev pub last_with : ℕ → Option ℕ → Option ℕ
last_with serial None = Some serial
last_with serial (Some last) = Some last

abbrev pub with_front : ℕ → Ends → Ends
with_front serial ends = record { first = Some serial; last = last_with serial ends.last }

-- of each message, and of each type
pub record AreTypeLinks (ms : List Message) (kinds : List ℤ) (links : TypeLinks) : Type 0 where
  pub next : links.next.items ≡ map (next_of_type ms) ms
  pub ends : links.ends.items ≡ map (ends_of ms) kinds

-- ---- in few bytes

-- the link of a number, 0 for none
abbrev pub link_of : ℕ → Option ℕ
link_of zero = None
link_of (suc n) = Some (suc n)

abbrev pub ends_in : Ends → TypeEnds
ends_in ends = record { first = unwrap_or ends.first 0; last = unwrap_or ends.last 0 }

-- at a place of the types stands this one
pub record IsPlaceOf (kinds : List ℤ) (mtype : ℤ) (place : ℕ) : Type 0 where
  pub within : place < length kinds
  pub is : slice_index_or kinds place mtype ≡ mtype

-- the types, both ends of each, and of each message the next of its type
pub record AreLinksOf (ms : List Message) (links : QueueLinks) : Type 0 where
  pub kinds : links.kinds.items ≡ types ms
  pub ends : links.ends.items ≡ map ends_in (map (ends_of ms) (types ms))
  pub next : map link_of links.next.items ≡ map (next_of_type ms) ms
