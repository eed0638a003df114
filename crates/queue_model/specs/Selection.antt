-- Which message a receive takes, by its type.
-- docs/QUEUES.md, "Selection by type"; POSIX.1-2017, msgrcv().
use Rattle.std.specs.Prelude.{ℕ, zero, suc, Bool, true, false, ℤ, pos, negsuc, int_le, nat_lt, not, ◌&&◌, List, length, Option, Some, None, if◌then◌else◌, ◌≡◌, ◌≤ℤ◌}
use Rattle.std.specs.List.{All, fold, sum_by, find, position_or_len, remove, Contains}
use Rattle.std.specs.Int.{int_min}
use Rattle.std.specs.Ordering.{int_eq}
use Rattle.queue_model.specs.declared.call.ReceiveArguments.{ReceiveArguments}
use Rattle.queue_model.specs.Found.{IsFoundAt}
use Rattle.queue_model.specs.declared.message.Message.{Message}

-- the bytes that the messages have together
abbrev pub total_bytes : List Message → ℕ
total_bytes ms = sum_by (λ (m : Message). length m.bytes) ms

-- the lesser of a type and what was found before it
abbrev pub lesser : ℤ → Option ℤ → ℤ
lesser t None = t
lesser t (Some u) = int_min t u

-- what was found, or the type of m where it is in range and lower
abbrev pub lower_type : ℤ → Option ℤ → Message → Option ℤ
lower_type bound found m = if int_le m.mtype bound then Some (lesser m.mtype found) else found

-- the least type on the list that is at most the bound
abbrev pub lowest_type : ℤ → List Message → Option ℤ
lowest_type bound ms = fold (lower_type bound) None ms

-- whether a message has the type that was found
abbrev pub has_type : Option ℤ → Message → Bool
has_type None m = false
has_type (Some t) m = int_eq m.mtype t

-- whether a receive of type t would take m, were it the first such on the list;
-- `negsuc n` is the type -(n + 1), so the bound is its absolute value, of any size
abbrev pub selects : ℤ → List Message → Message → Bool
selects (pos zero) ms m = true
selects (pos (suc n)) ms m = int_eq m.mtype (pos (suc n))
selects (negsuc n) ms m = has_type (lowest_type (pos (suc n)) ms) m

-- the message that a receive of type t takes: the first that it selects
abbrev pub selected : ℤ → List Message → Option Message
selected t ms = find (selects t ms) ms

-- that message stands at a place
abbrev pub IsSelectedAt : ℤ → List Message → ℕ → Type 0
IsSelectedAt t ms place = IsFoundAt (selects t ms) ms place

-- the messages that it leaves
abbrev pub unselected : ℤ → List Message → List Message
unselected t ms = remove ms (position_or_len (selects t ms) ms)

-- whether a message is longer than is asked for, and may not be cut
abbrev pub is_too_long : ReceiveArguments → Message → Bool
is_too_long a m = nat_lt a.size (length m.bytes) && not a.noerror

-- m is of a type in range, no type in range on the list is lower, and it is the first of its type
pub record IsFirstOfLowest (bound : ℤ) (ms : List Message) (m : Message) : Type 0 where
  pub in_range : m.mtype ≤ℤ bound
  pub stands : Contains ms m
  pub lowest : All (λ (n : Message). n.mtype ≤ℤ bound → m.mtype ≤ℤ n.mtype) ms
  pub first : find (λ (n : Message). int_eq n.mtype m.mtype) ms ≡ Some m
