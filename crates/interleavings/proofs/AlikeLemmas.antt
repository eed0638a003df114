-- A call beside an answer to another, where the records under its names are the same.
use Rattle.std.proofs.Common.{ℕ, ◌≡◌, refl, sym, ap, ◌∙◌, subst, Bool, true, false, List, Option, Some, None, arith}
use Rattle.std.specs.Prelude.{◌==◌, ◌≢◌, option_map}
use Rattle.std.specs.List.{Contains, find, remove}
use Rattle.std.proofs.lemmas.Bool.{eqb-true}
use Rattle.std.proofs.lemmas.Bool.Decides.{nat_tests}
use Rattle.call_decisions.specs.Others.{HoldsKey}
use Rattle.page_locks.specs.declared.lock.LockName.TheVariants as names
use Rattle.queue_model.proofs.EffectLemmas.{Makes, Removes}
use Rattle.queue_model.specs.Rules.{has_id, has_key, new_queue}
use Rattle.queue_model.specs.declared.call.Call.TheVariants as calls
use Rattle.queue_model.specs.declared.call.GetArguments.{GetArguments}
use Rattle.queue_model.specs.declared.queue.Queue.{Queue}
use Rattle.queue_records.specs.Keys.{key_of_key, key_of_queue}
use Rattle.queue_records.specs.declared.record.Record.TheVariants as records
use Rattle.type_chains.proofs.Cases.{found_id}
use Rattle.type_chains.specs.Entries.{key_entry}
use Rattle.type_chains.specs.Others.{queue_of}
use Rattle.xsi_inquiry.proofs.OthersLemmas.{agrees_by_others}
use Rattle.xsi_inquiry.specs.Agreeing.{AgreeOnCall, AgreeOnCounter, AgreeOnId, AgreeOnKey}
use Rattle.xsi_control.proofs.RemovingLemmas.{gone}
use Rattle.interleavings.specs.SeatWords.{Answer, AreAlike, Call, Caller, HasBegun, HasKey, Holds, HoldsOwn, IsFiled, KnowsNear, LockName, QuestionsView, Record, State, counter_key, names_in, outcome, record_of}
use Rattle.interleavings.specs.AlikeLaws.{OthersLeadAlike}
use Rattle.interleavings.specs.Apart.{IsKeptApart}
use Rattle.interleavings.proofs.ApartLemmas.{key_over, near_over}
use Rattle.interleavings.proofs.DeedLemmas.{Alters_it, Deed, Leaves, Makes_it, Removes_it, deed_of, found_at, found_made, unused}
use Rattle.interleavings.proofs.SameLemmas.{alive_says, entry_at, next_says, unaltered}

-- ---- what records say

-- the id of a Key
abbrev key_says : Option Record → Option ℕ
key_says (Some (records.Key e)) = Some e.id
key_says found = None

key_said : (key : ℕ) (found : Option Queue) →
    key_says (option_map (λ (q : Queue). records.Key (key_entry key q)) found)
    ≡ option_map (λ (q : Queue). q.id) found
key_said key None = refl
key_said key (Some q) = refl

-- a queue has a Queue
no_entry : (q : Queue) → entry_at (Some q) ≡ entry_at None → ⊥
no_entry q same = absurd cc

-- ---- where the Queue of the id that was called on is the same, so is the system

module _ (s t : State) (filed : IsFiled s) where
  made_anew : (c : Caller) (a : GetArguments) → Makes c a s t →
      record_of t (key_of_queue s.next_id) ≡ record_of s (key_of_queue s.next_id) → ⊥
  made_anew c a made same =
      no_entry (new_queue s.next_id c a)
      (sym (ap entry_at (found_made c a s t filed made)) ∙ same ∙ ap entry_at (unused s filed))

  gone_since : (id : ℕ) → Removes id s t → record_of t (key_of_queue id) ≡ record_of s (key_of_queue id) → ⊥
  gone_since id did same =
      let found = found_at id s did.place did.q did.stands in
      let none : find (has_id id) t.queues ≡ None =
      ap (λ (x : State). find (has_id id) x.queues) did.after
      ∙ ap (λ (i : ℕ). find (has_id id) (remove s.queues i)) (sym did.stands.place_of.first)
      ∙ gone id s did.q filed found (found_id s id did.q found) in
      no_entry did.q (sym (ap entry_at found) ∙ sym same ∙ ap entry_at none)

  by_deed : (c : Caller) (id : ℕ) → record_of t (key_of_queue id) ≡ record_of s (key_of_queue id) →
      Deed c id s t → t ≡ s
  by_deed c id same (Leaves left) = left
  by_deed c id same (Makes_it a is made) = absurd (made_anew c a made
      (subst (λ (n : ℕ). record_of t (key_of_queue n) ≡ record_of s (key_of_queue n)) is same))
  by_deed c id same (Alters_it d) = unaltered id s t d same
  by_deed c id same (Removes_it did) = absurd (gone_since id did same)

-- ---- what the call can tell

module _ (held : List LockName) (c : Caller) (other : Call) (answer : Answer) (s after : State) (filed : IsFiled s)
    (answered : outcome c other s ≡ Some (answer, after)) (alike : AreAlike held (record_of after) (record_of s)) where
  on_id : (id : ℕ) → Contains held (names.Queue id) → AgreeOnId id s after
  on_id id has = by (id == queue_of other s) refl
    where
      by : (b : Bool) → (id == queue_of other s) ≡ b → AgreeOnId id s after
      by true e =
          let same = by_deed s after filed c id (alike (key_of_queue id) has)
          (subst (λ (n : ℕ). Deed c n s after) (sym (eqb-true id (queue_of other s) e))
          (deed_of c s after other answer answered)) in
          subst (AgreeOnId id s) (sym same) (record { queue = refl; given = refl })
      by false e =
          let apart : id ≢ queue_of other s = λ is. grind (arith, nat_tests, e, is) in
          agrees_by_others id c other answer s after apart answered

  on_key : (key : Option ℕ) → HoldsKey key held → AgreeOnKey key s after
  on_key None has = tt
  on_key (Some key) has =
      sym (key_said key (find (has_key key) s.queues)) ∙ ap key_says (sym (alike (key_of_key key) has))
      ∙ key_said key (find (has_key key) after.queues)

  on_counter : Contains held names.Counter → AgreeOnCounter s after
  on_counter has =
      let same = alike counter_key has in
      record { next_id = ap next_says (sym same); alive = ap alive_says (sym same) }

  asked : (call : Call) → HoldsOwn call held → AgreeOnCall call s after
  asked (calls.Get a) has = on_key a.key has
  asked (calls.Send a) has = on_id a.id has
  asked (calls.Receive a) has = on_id a.id has
  asked (calls.Stat id) has = on_id id has
  asked (calls.Set a) has = on_id a.id has
  asked (calls.Remove id) has = on_id id has

module _ (call other : Call) (q : QuestionsView) (c : Caller) (answer : Answer) (s after : State) (filed : IsFiled s)
    (answered : outcome c other s ≡ Some (answer, after))
    (alike : AreAlike (names_in q.names) (record_of after) (record_of s)) where
  kept : IsKeptApart call q → KnowsNear call q s → KnowsNear call q after
  kept (Holds own) near = near_over call q s after (record {
    asked = asked (names_in q.names) c other answer s after filed answered alike call own;
    counter = on_counter (names_in q.names) c other answer s after filed answered alike;
  }) near
  kept (HasBegun all) near = λ t filed' agrees. all t filed'
  kept (HasKey k) near = key_over call other q c answer s after filed k answered near

pub others_lead_alike : OthersLeadAlike
others_lead_alike call other q c answer s after filed filed' apart answered alike = record {
  filed = filed';
  records = alike;
  ids = on_id (names_in q.names) c other answer s after filed answered alike;
  knows = kept call other q c answer s after filed answered alike apart;
}
