-- What a call that writes holds, knows and asks for. docs/STEPS.md, "Calls".
use Rattle.std.specs.Prelude.{ℕ, ◌≡◌, ◌+◌, ◌-◌, ◌*◌, Bool, true, false, List, [], Option, Some, None, option_map, if◌then◌else◌}
use Rattle.record_file.specs.step_rules.Turns.{no_ask}
use Rattle.call_writes.specs.declared.writes.CallWrites.{CallWrites}
use Rattle.call_writes.specs.WriteWords.{RecordKey, Plan, Lock, Store, Known, Turn, MOST_STEPS, AccessView, access_facts, access_left, access_locks, access_turn, begun, has_no_room, searches_under, Deed, Due, Trying, Full, Undoing, Writing}
use Rattle.call_writes.specs.Dues.{deed_key, deeds_left, next_deed, purpose_of}

-- ---- the access

-- that of a deed, which has just begun
abbrev pub begun_deed : (RecordKey → ℕ) → Deed → AccessView
begun_deed hash d = begun (purpose_of d) (hash (deed_key d))

-- the one under way, or else that of the deed that comes next
abbrev pub set_out : (RecordKey → ℕ) → Option Deed → Option AccessView → Option AccessView
set_out hash next (Some a) = Some a
set_out hash next None = option_map (begun_deed hash) next

abbrev pub access_next : (RecordKey → ℕ) → Plan → CallWrites → Option AccessView
access_next hash p w = set_out hash (next_deed p w.due) w.access

-- nothing is left to do
pub record IsOver (p : Plan) (w : CallWrites) : Type 0 where
  pub rests : w.access ≡ None
  pub last : next_deed p w.due ≡ None

-- a trial has no room
abbrev pub is_full_at : Due → Option AccessView → Bool
is_full_at (Full standing) access = true
is_full_at (Trying place) (Some a) = has_no_room a
is_full_at (Trying place) None = false
is_full_at (Undoing standing) access = false
is_full_at (Writing from) access = false

abbrev pub is_full : CallWrites → Bool
is_full w = is_full_at w.due w.access

-- what is due once the call has decided
abbrev pub decided_at : Due → Due
decided_at (Trying place) = Writing 0
decided_at (Full standing) = Undoing standing
decided_at (Undoing standing) = Undoing standing
decided_at (Writing from) = Writing from

-- a search of the access under way is: the directory was granted to it, and no page has answered
abbrev pub writes_search : CallWrites → Bool
writes_search w = searches_under w.access

-- ---- locks, facts, turns, and steps that are left

-- its locks, behind the names of its call
abbrev pub locks_under : Option AccessView → List Lock → List Lock
locks_under None names = names
locks_under (Some a) names = access_locks a names

abbrev pub writes_locks : CallWrites → List Lock → List Lock
writes_locks w names = locks_under w.access names

abbrev pub facts_under : Option AccessView → List Known
facts_under None = []
facts_under (Some a) = access_facts a

abbrev pub writes_facts : CallWrites → List Known
writes_facts w = facts_under w.access

abbrev pub turn_under : Option AccessView → Store → Turn
turn_under None s = no_ask
turn_under (Some a) s = access_turn a s

abbrev pub writes_turn : (RecordKey → ℕ) → Plan → CallWrites → Store → Turn
writes_turn hash p w s = turn_under (access_next hash p w) s

-- the deeds after the access under way
abbrev pub deeds_behind : Option AccessView → ℕ → ℕ
deeds_behind None deeds = deeds
deeds_behind (Some a) deeds = if a.written then deeds else deeds - 1

abbrev pub left_under : Option AccessView → Store → ℕ
left_under None s = 0
left_under (Some a) s = access_left a s

-- the steps that are left, if no other seat steps: those of its access, and for each further deed those that an access
-- has at most
abbrev pub writes_left_in : Plan → CallWrites → Store → ℕ
writes_left_in p w s = left_under w.access s + deeds_behind w.access (deeds_left p w.due) * MOST_STEPS
