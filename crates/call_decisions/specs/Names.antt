-- The names of a call: which it holds beside the directory and pages while it asks, inserts and writes, in which kinds,
-- in the order in which it takes them. docs/STEPS.md, "What a call reads".
use Rattle.std.specs.Prelude.{ℕ, List, [], ◌∷◌, map, Option, option_map}
use Rattle.page_locks.specs.declared.lock.Lock.{Lock}
use Rattle.page_locks.specs.declared.lock.LockKind.{LockKind}
use Rattle.page_locks.specs.declared.lock.LockKind.TheVariants.{Read, Exclusive}
use Rattle.page_locks.specs.declared.lock.LockName.{LockName}
use Rattle.page_locks.specs.declared.lock.LockName.TheVariants as names
use Rattle.page_locks.specs.Locks.{lock_of}
use Rattle.queue_model.specs.declared.call.Call.{Call}
use Rattle.queue_model.specs.declared.call.Call.TheVariants.{Get, Send, Receive, Stat, Set, Remove}
use Rattle.call_decisions.specs.declared.any_inquiry.AnyInquiry.{AnyInquiry}
use Rattle.call_decisions.specs.Anything.{if_of, of_get, of_receive, of_remove, of_send, of_set, of_stat}
use Rattle.call_decisions.specs.InquiryWords.{GetInquiry, ReceiveInquiry, RemoveInquiry, SendInquiry, SetInquiry, StatInquiry, get_locked}
use Rattle.xsi_control.specs.Asking.{locked_at}

abbrev pub exclusively : LockName → Lock
exclusively name = lock_of name Exclusive

abbrev pub exclusive_lock : Option LockName → Option Lock
exclusive_lock name = option_map exclusively name

-- the queue of an id alone
abbrev pub queue_for : ℕ → LockKind → List Lock
queue_for id kind = lock_of (names.Queue id) kind ∷ []

-- in its first phase a Remove has the queue alone, which it reads
abbrev pub by_phase : ℕ → List LockName → List Lock
by_phase id [] = queue_for id Read
by_phase id (name ∷ more) = map exclusively (name ∷ more)

-- under these it asks for what its inquiry wants next, inserts, and writes
abbrev pub names_for : Call → AnyInquiry → List Lock
names_for (Get a) any = if_of (λ (i : GetInquiry). map exclusively (get_locked a i.getting)) [] (of_get any)
names_for (Send a) any = if_of (λ (i : SendInquiry). queue_for a.id Exclusive) [] (of_send any)
names_for (Receive a) any = if_of (λ (i : ReceiveInquiry). queue_for a.id Exclusive) [] (of_receive any)
names_for (Stat id) any = if_of (λ (i : StatInquiry). queue_for id Read) [] (of_stat any)
names_for (Set a) any = if_of (λ (i : SetInquiry). queue_for a.id Exclusive) [] (of_set any)
names_for (Remove id) any = if_of (λ (i : RemoveInquiry). by_phase id (locked_at id i.stage)) [] (of_remove any)
