-- A call that has to wait has to wait on behind entries that do not wake it.
use Rattle.std.proofs.Common.{ℕ, zero, suc, ◌≡◌, ◌+◌, refl, sym, ap, ◌∙◌, subst, Bool, true, false, inl, inr, List, [], ◌∷◌, ◌++◌, Option, Some, None, drop, take, arith, cond, pos}
use Rattle.std.specs.Prelude.{if◌then◌else◌, nat_le, nat_lt, int_lt, ◌==◌, ◌||◌, ◌&&◌, length, slice_index_or}
use Rattle.std.specs.List.{find, list_any, remove}
use Rattle.std.proofs.lemmas.Bool.{eqb-true}
use Rattle.std.proofs.lemmas.List.Folds.{find_past}
use Rattle.queue_model.proofs.EffectLemmas.{Changes, Effect, Effect-outcome, Removes, Stands}
use Rattle.queue_model.proofs.JournalLemmas.{after-Leads}
use Rattle.queue_model.specs.State.{State}
use Rattle.queue_model.specs.declared.answer.Answer.{Answer}
use Rattle.queue_model.specs.declared.answer.Answer.TheVariants.{Id, Sent, Received, Info, Done, Refused}
use Rattle.queue_model.specs.declared.call.Call.{Call}
use Rattle.queue_model.specs.declared.call.Call.TheVariants.{Get, Send, Receive, Stat, Set, Remove}
use Rattle.queue_model.specs.declared.call.GetArguments.{GetArguments}
use Rattle.queue_model.specs.declared.call.ReceiveArguments.{ReceiveArguments}
use Rattle.queue_model.specs.declared.call.SendArguments.{SendArguments}
use Rattle.queue_model.specs.declared.call.SetArguments.{SetArguments}
use Rattle.queue_model.specs.declared.caller.Caller.{Caller}
use Rattle.queue_model.specs.declared.entry.Entry.{Entry}
use Rattle.queue_model.specs.declared.entry.Entry.TheVariants.{Decided, Stopped}
use Rattle.queue_model.specs.declared.message.Message.{Message}
use Rattle.queue_model.specs.declared.queue.Queue.{Queue}
use Rattle.page_device.specs.numbers.declared.limits.TheConstants.{MAX_BODY}
use Rattle.queue_model.specs.Access.{lacks_access}
use Rattle.queue_model.specs.Journal.{Leads, LeadsAlong, after, caller_at, outcome_for}
use Rattle.queue_model.specs.Rules.{Outcome, create, get_by, get_found, has_id, has_key, lacks_room, new_queue, on_found, on_queue, outcome, put_off, raises, receive_found, receive_from, refuse, remove_from, send_to, set_to, stat_of, with_message, with_queue, with_settings, without_message}
use Rattle.queue_model.specs.Selection.{is_too_long, selected}
use Rattle.queue_model.specs.declared.errno.Errno.{Errno}
use Rattle.queue_model.specs.declared.errno.Errno.TheVariants.{EAGAIN, EINVAL, ENOENT, ENOMSG}
use Rattle.queue_model.specs.declared.permissions.Access.TheVariants.{Read, Write}
use Rattle.interleaving_core.specs.Waiting.{is_same_queue, is_woken, queue_on, wakes}

-- ---- tests

-- a test of which one side answers was false where there is no answer
some_if : {A : Type 0} (b : Bool) (x : A) (y : Option A) → (if b then Some x else y) ≡ None → (b ≡ false) × (y ≡ None)
some_if true x y none = absurd cc
some_if false x y none = (refl, none)

if_false : {A : Type 0} (b : Bool) (x y : A) → b ≡ false → (if b then x else y) ≡ y
if_false true x y is = absurd cc
if_false false x y is = refl

if_true : {A : Type 0} (b : Bool) (x y : A) → b ≡ true → (if b then x else y) ≡ x
if_true true x y is = refl
if_true false x y is = absurd cc

never_if : {A : Type 0} (b : Bool) (x y : A) → (if b then Some x else Some y) ≡ None → ⊥
never_if true x y none = cc
never_if false x y none = cc

-- ---- a call that waits

-- the queue of an id, given out, of a system that is not stopped
pub record IsOn (id : ℕ) (q : Queue) (s : State) : Type 0 where
  pub given : (id == 0 || nat_le s.next_id id) ≡ false
  pub found : find (has_id id) s.queues ≡ Some q
  pub runs : s.stopped ≡ false

-- it waits wherever its queue stands so
pub record WaitsOn (c : Caller) (call : Call) (s : State) : Type 0 where
  pub id : ℕ
  pub queue : queue_on call ≡ Some id
  pub q : Queue
  pub is : IsOn id q s
  pub still : (t : State) → IsOn id q t → outcome c call t ≡ None

-- a call that is put off waits only in a system that is not stopped
put_off_none : (nowait : Bool) (e : Errno) (s : State) → put_off nowait e s ≡ None →
    (nowait ≡ false) × (s.stopped ≡ false)
put_off_none nowait e s none =
    let first = some_if nowait _ _ none in
    (first.0, (some_if s.stopped _ None first.1).0)

put_off_still : (nowait : Bool) (e : Errno) (t : State) → nowait ≡ false → t.stopped ≡ false → put_off nowait e t ≡ None
put_off_still nowait e t now runs = if_false nowait _ _ now ∙ if_false t.stopped _ _ runs

found_none : (o : Option Queue) (s : State) (act : Queue → Outcome) → on_found o s act ≡ None →
    (q : Queue) × (o ≡ Some q) × (act q ≡ None)
found_none None s act none = absurd cc
found_none (Some q) s act none = (q, refl, none)

-- what waits on a queue
module _ (c : Caller) (call : Call) (id : ℕ) (s : State) (act : State → Queue → Outcome)
    (queue : queue_on call ≡ Some id) (runs : (q : Queue) → act s q ≡ None → s.stopped ≡ false)
    (on : (t : State) → outcome c call t ≡ None → on_queue id t (act t) ≡ None) where
  module _ (of : (t : State) (q : Queue) → act s q ≡ None → t.stopped ≡ false → act t q ≡ None)
      (back : (t : State) → on_queue id t (act t) ≡ None → outcome c call t ≡ None) where
    waits_there : outcome c call s ≡ None → WaitsOn c call s
    waits_there none =
        let first = some_if (id == 0 || nat_le s.next_id id) _ _ (on s none) in
        let found = found_none (find (has_id id) s.queues) s (act s) first.1 in
        record {
          id = id;
          queue = queue;
          q = found.0;
          is = record { given = first.0; found = found.1; runs = runs found.0 found.2 };
          still = λ t is. back t (if_false (id == 0 || nat_le t.next_id id) _ _ is.given
              ∙ ap (λ (o : Option Queue). on_found o t (act t)) is.found
              ∙ of t found.0 found.2 is.runs);
        }

create_never : (c : Caller) (a : GetArguments) (s : State) → create c a s ≡ None → ⊥
create_never c a s none = never_if _ _ _ none

get_never : (c : Caller) (a : GetArguments) (s : State) (key : Option ℕ) → get_by key c a s ≡ None → ⊥
get_never c a s None none = create_never c a s none
get_never c a s (Some key) none = by (find (has_key key) s.queues) none
  where
    by : (o : Option Queue) → get_found o c a s ≡ None → ⊥
    by (Some q) none = never_if (a.create && a.excl) _ _ none
    by None none = made a.create none
      where
        made : (b : Bool) → (if b then create c a s else refuse ENOENT s) ≡ None → ⊥
        made true none = create_never c a s none
        made false none = absurd cc

-- no call waits that does not go on from what its queue tells
on_never : (id : ℕ) (s : State) (act : Queue → Outcome) → ((q : Queue) → act q ≡ None → ⊥) →
    on_queue id s act ≡ None → ⊥
on_never id s act never none =
    let first = some_if (id == 0 || nat_le s.next_id id) _ _ none in
    let found = found_none (find (has_id id) s.queues) s act first.1 in
    never found.0 found.2

-- a send
module _ (c : Caller) (a : SendArguments) (s : State) where
  -- it is refused whatever the system is
  abbrev is_wrong : Bool
  is_wrong = int_lt a.mtype (pos 1) || nat_lt MAX_BODY (length a.body)

  send_none : (q : Queue) → send_to c a s q ≡ None → (lacks_access Write c q.permissions ≡ false)
      × (lacks_room (length a.body) q ≡ true) × (a.nowait ≡ false) × (s.stopped ≡ false)
  send_none q none =
      let first = some_if (lacks_access Write c q.permissions) _ _ none in
      by first.0 (lacks_room (length a.body) q) refl first.1
    where
      by : lacks_access Write c q.permissions ≡ false → (b : Bool) → lacks_room (length a.body) q ≡ b →
          (if b then put_off a.nowait EAGAIN s
          else Some (Sent q.next_serial, with_queue a.id (with_message c.pid a q) s)) ≡ None →
          (lacks_access Write c q.permissions ≡ false)
          × (lacks_room (length a.body) q ≡ true) × (a.nowait ≡ false) × (s.stopped ≡ false)
      by may true is none = let put = put_off_none a.nowait EAGAIN s none in (may, is, put.0, put.1)
      by may false is none = absurd cc

  send_waits : outcome c (Send a) s ≡ None → WaitsOn c (Send a) s
  send_waits none =
      let valid = (some_if is_wrong _ _ none).0 in
      waits_there c (Send a) a.id s (send_to c a) refl (λ q is. (send_none q is).3)
      (λ t is. (some_if is_wrong _ _ is).1)
      (λ t q is runs.
      let had = send_none q is in
      if_false (lacks_access Write c q.permissions) _ _ had.0 ∙ if_true (lacks_room (length a.body) q) _ _ had.1
      ∙ put_off_still a.nowait EAGAIN t had.2 runs)
      (λ t is. if_false is_wrong (refuse EINVAL t) (on_queue a.id t (send_to c a t)) valid ∙ is) none

-- a receive
module _ (c : Caller) (a : ReceiveArguments) (s : State) where
  receive_none : (q : Queue) → receive_from c a s q ≡ None → (lacks_access Read c q.permissions ≡ false)
      × (selected a.mtype q.messages ≡ None) × (a.nowait ≡ false) × (s.stopped ≡ false)
  receive_none q none =
      let first = some_if (lacks_access Read c q.permissions) _ _ none in
      by first.0 (selected a.mtype q.messages) refl first.1
    where
      by : lacks_access Read c q.permissions ≡ false → (o : Option Message) → selected a.mtype q.messages ≡ o →
          receive_found o c a s q ≡ None → (lacks_access Read c q.permissions ≡ false)
          × (selected a.mtype q.messages ≡ None) × (a.nowait ≡ false) × (s.stopped ≡ false)
      by may None is none = let put = put_off_none a.nowait ENOMSG s none in (may, is, put.0, put.1)
      by may (Some m) is none = absurd (never_if (is_too_long a m) _ _ none)

  receive_waits : outcome c (Receive a) s ≡ None → WaitsOn c (Receive a) s
  receive_waits none =
      waits_there c (Receive a) a.id s (receive_from c a) refl (λ q is. (receive_none q is).3) (λ t is. is)
      (λ t q is runs.
      let had = receive_none q is in
      if_false (lacks_access Read c q.permissions) _ _ had.0
      ∙ ap (λ (o : Option Message). receive_found o c a t q) had.1
      ∙ put_off_still a.nowait ENOMSG t had.2 runs)
      (λ t is. is) none

set_never : (c : Caller) (a : SetArguments) (s : State) (q : Queue) → set_to c a s q ≡ None → ⊥
set_never c a s q none = never_if (raises c a.qbytes q) _ _ (some_if _ _ _ none).1

pub waits_on : (c : Caller) (call : Call) (s : State) → outcome c call s ≡ None → WaitsOn c call s
waits_on c (Get a) s none = absurd (get_never c a s a.key none)
waits_on c (Send a) s none = send_waits c a s none
waits_on c (Receive a) s none = receive_waits c a s none
waits_on c (Stat id) s none = absurd (on_never id s (stat_of c s)
    (λ q is. never_if (lacks_access Read c q.permissions) _ _ is) none)
waits_on c (Set a) s none =
    absurd (on_never a.id s (set_to c a s) (set_never c a s) (some_if _ _ _ none).1)
waits_on c (Remove id) s none = absurd (on_never id s (remove_from c id s)
    (λ q is. never_if _ _ _ is) none)

-- ---- an entry that does not wake it

find_push : {X : Type 0} (p : X → Bool) (xs : List X) (y q : X) → find p xs ≡ Some q → find p (xs ++ y ∷ []) ≡ Some q
find_push p [] y q is = absurd cc
find_push p (x ∷ xs) y q is = by (p x) (find_push p xs y q) is
  where
    by : (b : Bool) → (find p xs ≡ Some q → find p (xs ++ y ∷ []) ≡ Some q) → cond b (Some x) (find p xs) ≡ Some q →
        cond b (Some x) (find p (xs ++ y ∷ [])) ≡ Some q
    by true rest is = is
    by false rest is = rest is

find_without : {X : Type 0} (p : X → Bool) (xs : List X) (i : ℕ) → ((d : X) → p (slice_index_or xs i d) ≡ false) →
    find p (remove xs i) ≡ find p xs
find_without p [] zero not = refl
find_without p [] (suc i) not = refl
find_without p (x ∷ xs) zero not = sym (ap (λ (b : Bool). cond b (Some x) (find p xs)) (not x))
find_without p (x ∷ xs) (suc i) not = ap (cond (p x) (Some x)) (find_without p xs i not)

module _ (id : ℕ) (q : Queue) (other : ℕ) (apart : (id == other) ≡ false) where
  other_id : (x : Queue) → x.id ≡ other → has_id id x ≡ false
  other_id x is = by (x.id == id) refl
    where
      by : (b : Bool) → (x.id == id) ≡ b → b ≡ false
      by true same =
          let e : id ≡ other = sym (eqb-true x.id id same) ∙ is in
          absurd (differs e)
        where
          differs : id ≡ other → ⊥
          differs e = grind (arith, apart, e)
      by false same = refl

  -- what stands at its place is no queue of this id
  not_there : (s : State) (place : ℕ) (x : Queue) → Stands other s place x → (d : Queue) →
      has_id id (slice_index_or s.queues place d) ≡ false
  not_there s place x stands d = other_id (slice_index_or s.queues place d) (stands.place_of.is_its d)

  on_changed : (s t : State) (place : ℕ) (x new : Queue) → Changes other s place x new t → new.id ≡ x.id → IsOn id q s →
      IsOn id q t
  on_changed s t place x new did same is = subst (IsOn id q) (sym did.after) (record {
    given = is.given;
    found = find_past (has_id id) s.queues place new new (not_there s place x did.stands new)
        (other_id new (same ∙ sym (ap (λ (y : Queue). y.id) (did.stands.is_it x))
        ∙ did.stands.place_of.is_its x)) ∙ is.found;
    runs = is.runs;
  })

  on_removed : (s t : State) → Removes other s t → IsOn id q s → IsOn id q t
  on_removed s t did is = subst (IsOn id q) (sym did.after) (record {
    given = is.given;
    found = find_without (has_id id) s.queues did.place (not_there s did.place did.q did.stands) ∙ is.found;
    runs = is.runs;
  })

module _ (id : ℕ) (q : Queue) where
  given_on : (next : ℕ) → (id == 0 || nat_le next id) ≡ false → (id == 0 || nat_le (next + 1) id) ≡ false
  given_on next is = grind (arith, is)

  same_on : (s t : State) → t ≡ s → IsOn id q s → IsOn id q t
  same_on s t same is = subst (IsOn id q) (sym same) is

  effect_on : (c : Caller) (call : Call) (a : Answer) (s t : State) → Effect c call a s t →
      is_same_queue (Some id) (queue_on call) ≡ false → IsOn id q s → IsOn id q t
  effect_on c (Get x) a s t (inl same) apart is = same_on s t same is
  effect_on c (Get x) a s t (inr made) apart is = subst (IsOn id q) (sym made.after) (record {
    given = given_on s.next_id is.given;
    found = find_push (has_id id) s.queues (new_queue s.next_id c x) q is.found;
    runs = is.runs;
  })
  effect_on c (Send x) (Sent serial) s t did apart is =
      on_changed id q x.id apart s t did.place did.q (with_message c.pid x did.q) did.changes refl is
  effect_on c (Send x) (Id n) s t did apart is = same_on s t did is
  effect_on c (Send x) (Received m) s t did apart is = same_on s t did is
  effect_on c (Send x) (Info i) s t did apart is = same_on s t did is
  effect_on c (Send x) Done s t did apart is = same_on s t did is
  effect_on c (Send x) (Refused e) s t did apart is = same_on s t did is
  effect_on c (Receive x) (Received m) s t did apart is =
      on_changed id q x.id apart s t did.place did.q (without_message c.pid x did.q) did.changes refl is
  effect_on c (Receive x) (Id n) s t did apart is = same_on s t did is
  effect_on c (Receive x) (Sent n) s t did apart is = same_on s t did is
  effect_on c (Receive x) (Info i) s t did apart is = same_on s t did is
  effect_on c (Receive x) Done s t did apart is = same_on s t did is
  effect_on c (Receive x) (Refused e) s t did apart is = same_on s t did is
  effect_on c (Stat other) a s t did apart is = same_on s t did is
  effect_on c (Set x) a s t (inl same) apart is = same_on s t same is
  effect_on c (Set x) a s t (inr did) apart is =
      on_changed id q x.id apart s t did.place did.q (with_settings x did.q) did.changes refl is
  effect_on c (Remove other) Done s t did apart is = on_removed id q other apart s t did is
  effect_on c (Remove other) (Id n) s t did apart is = same_on s t did is
  effect_on c (Remove other) (Sent n) s t did apart is = same_on s t did is
  effect_on c (Remove other) (Received m) s t did apart is = same_on s t did is
  effect_on c (Remove other) (Info i) s t did apart is = same_on s t did is
  effect_on c (Remove other) (Refused e) s t did apart is = same_on s t did is

  leads_on : (callers : List Caller) (e : Entry) (s t : State) → Leads callers e s t → wakes (Some id) e ≡ false →
      IsOn id q s → IsOn id q t
  leads_on callers (Decided seat call answer) s t leads sleeps is = by (caller_at callers seat) leads
    where
      by : (o : Option Caller) → outcome_for o call s ≡ Some (answer, t) → IsOn id q t
      by None at = absurd cc
      by (Some c) at = effect_on c call answer s t (Effect-outcome c call answer s t at) sleeps is
  leads_on callers Stopped s t leads sleeps is = absurd cc

  or_none : (a b : Bool) → (a || b) ≡ false → (a ≡ false) × (b ≡ false)
  or_none true b is = absurd cc
  or_none false b is = (refl, is)

  along_on : (callers : List Caller) (es : List Entry) (s t : State) → LeadsAlong callers es s t →
      list_any (wakes (Some id)) es ≡ false → IsOn id q s → IsOn id q t
  along_on callers [] s t same none is = same_on s t same is
  along_on callers (e ∷ es) s t (u, first, rest) none is =
      let both = or_none (wakes (Some id) e) (list_any (wakes (Some id)) es) none in
      along_on callers es u t rest both.1 (leads_on callers e s u first both.0 is)

-- ---- the journal

-- where it is cut, and the system there
split_at : (callers : List Caller) (since : ℕ) (es : List Entry) (s t : State) → LeadsAlong callers es s t →
    LeadsAlong callers (drop since es) (after callers (take since es) s) t
split_at callers zero es s t leads = leads
split_at callers (suc n) [] s t same = same
split_at callers (suc n) (e ∷ es) s t (u, first, rest) =
    subst (λ (v : State). LeadsAlong callers (drop n es) (after callers (take n es) v) t)
    (sym (after-Leads callers e s u first)) (split_at callers n es u t rest)

pub waits_along : (callers : List Caller) (c : Caller) (call : Call) (since : ℕ) (stood : List Entry)
    (base now : State) → LeadsAlong callers stood base now → is_woken call since stood ≡ false →
    outcome c call (after callers (take since stood) base) ≡ None → outcome c call now ≡ None
waits_along callers c call since stood base now leads sleeps none =
    let waits = waits_on c call (after callers (take since stood) base) none in
    waits.still now (along_on waits.id waits.q callers (drop since stood)
    (after callers (take since stood) base) now (split_at callers since stood base now leads)
    (subst (λ (o : Option ℕ). list_any (wakes o) (drop since stood) ≡ false) waits.queue sleeps) waits.is)
