-- The names of each call stand in order.
use Rattle.std.proofs.Common.{ℕ, List, [], ◌∷◌, ◌++◌, Option, Some, None, map, refl, arith}
use Rattle.page_locks.specs.declared.lock.LockKind.{LockKind}
use Rattle.page_locks.specs.declared.lock.LockKind.TheVariants.{Read, Exclusive}
use Rattle.page_locks.specs.declared.lock.LockName.TheVariants as names
use Rattle.queue_model.specs.declared.call.Call.TheVariants as calls
use Rattle.queue_records.specs.declared.counter.Counter.{Counter}
use Rattle.xsi_control.specs.declared.get_inquiry.Getting.{Getting}
use Rattle.xsi_control.specs.declared.get_inquiry.Getting.TheVariants.{AtKey, Found, Absent, AtCounter, Counted}
use Rattle.xsi_control.specs.Getting.{key_names, making_names, made_names, one_more}
use Rattle.call_decisions.specs.Anything.{if_of, of_get, of_receive, of_remove, of_send, of_set, of_stat}
use Rattle.call_decisions.specs.InquiryWords.{GetInquiry, ReceiveInquiry, RemoveInquiry, SendInquiry, SetInquiry, StatInquiry}
use Rattle.page_locks.specs.declared.lock.Lock.{Lock}
use Rattle.xsi_control.specs.declared.stage.Stage.{Stage}
use Rattle.xsi_control.specs.declared.stage.Stage.TheVariants.{Seeking, Refused, Keyed, Counting, Removing}
use Rattle.xsi_control.specs.Asking.{locked_at}
use Rattle.xsi_control.specs.Removing.{names_of}
use Rattle.call_decisions.specs.Names.{by_phase, exclusively, queue_for}
use Rattle.call_decisions.specs.NameLaws.{AreNames, TakeInOrder}

-- ---- in order

none_are : AreNames []
none_are = record { ordered = tt; few = omega arith; no_file = record { directory = refl; pages = λ n. refl } }

queue_is : (id : ℕ) (kind : LockKind) → AreNames (queue_for id kind)
queue_is id kind = record {
  ordered = (tt, tt);
  few = omega arith;
  no_file = record { directory = refl; pages = λ n. refl };
}

counter_and_made : (key : Option ℕ) (id : ℕ) (n : Option Counter) →
    AreNames (map exclusively (key_names key ++ names.Counter ∷ made_names id n))
counter_and_made None id None =
    record { ordered = (tt, tt); few = omega arith; no_file = record { directory = refl; pages = λ n. refl } }
counter_and_made None id (Some n) = record {
  ordered = ((omega arith, tt), (tt, tt));
  few = omega arith;
  no_file = record { directory = refl; pages = λ n. refl };
}
counter_and_made (Some key) id None = record {
  ordered = ((omega arith, tt), (tt, tt));
  few = omega arith;
  no_file = record { directory = refl; pages = λ n. refl };
}
counter_and_made (Some key) id (Some n) = record {
  ordered = ((omega arith, (omega arith, tt)), ((omega arith, tt), (tt, tt)));
  few = omega arith;
  no_file = record { directory = refl; pages = λ n. refl };
}

key_alone : (key : Option ℕ) → AreNames (map exclusively (key_names key ++ []))
key_alone None = none_are
key_alone (Some key) =
    record { ordered = (tt, tt); few = omega arith; no_file = record { directory = refl; pages = λ n. refl } }

get_are : (key : Option ℕ) (getting : Getting) → AreNames (map exclusively (key_names key ++ making_names getting))
get_are key AtKey = key_alone key
get_are key (Found id) = key_alone key
get_are key Absent = key_alone key
get_are key AtCounter = counter_and_made key 0 None
get_are key (Counted n) = counter_and_made key n.next_id (one_more n)

phase_two : (id : ℕ) (key : Option ℕ) → AreNames (by_phase id (names_of id key))
phase_two id None = record {
  ordered = ((omega arith, tt), (tt, tt));
  few = omega arith;
  no_file = record { directory = refl; pages = λ n. refl };
}
phase_two id (Some key) = record {
  ordered = ((omega arith, (omega arith, tt)), ((omega arith, tt), (tt, tt)));
  few = omega arith;
  no_file = record { directory = refl; pages = λ n. refl };
}

remove_are : (id : ℕ) (stage : Stage) → AreNames (by_phase id (locked_at id stage))
remove_are id (Seeking sought) = queue_is id Read
remove_are id (Refused errno) = queue_is id Read
remove_are id (Keyed key) = phase_two id key
remove_are id (Counting key queue) = phase_two id key
remove_are id (Removing r) = phase_two id r.key

-- the inquiry of a kind, or another
are_of : {I : Type 0} (names_of : I → List Lock) → ((i : I) → AreNames (names_of i)) → (o : Option I) →
    AreNames (if_of names_of [] o)
are_of names_of law None = none_are
are_of names_of law (Some i) = law i

pub take_in_order : TakeInOrder
take_in_order (calls.Get a) any = are_of _ (λ (i : GetInquiry). get_are a.key i.getting) (of_get any)
take_in_order (calls.Send a) any = are_of _ (λ (i : SendInquiry). queue_is a.id Exclusive) (of_send any)
take_in_order (calls.Receive a) any = are_of _ (λ (i : ReceiveInquiry). queue_is a.id Exclusive) (of_receive any)
take_in_order (calls.Stat id) any = are_of _ (λ (i : StatInquiry). queue_is id Read) (of_stat any)
take_in_order (calls.Set a) any = are_of _ (λ (i : SetInquiry). queue_is a.id Exclusive) (of_set any)
take_in_order (calls.Remove id) any = are_of _ (λ (i : RemoveInquiry). remove_are id i.stage) (of_remove any)
