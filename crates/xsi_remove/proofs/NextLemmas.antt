-- What follows a deed.
use Rattle.std.proofs.Common.{◌≡◌, refl, sym, ap, ◌∙◌, subst, ℕ, ℤ, zero, suc, ◌+◌, ◌-◌, ◌*◌, ◌≤◌, ◌<◌, Bool, true, false, List, [], ◌∷◌, drop, length, Option, Some, None, IsSome, inl, inr, arith}
use Rattle.std.specs.Prelude.{◌==◌, ◌⊎◌}
use Rattle.std.specs.List.{find}
use Rattle.std.proofs.lemmas.Bool.{eqb-true, true≢false}
use Rattle.std.proofs.lemmas.Option.{slice_get_within}
use Rattle.queue_model.specs.declared.message.Message.{Message}
use Rattle.queue_model.specs.Rules.{has_id}
use Rattle.type_chains.specs.Lists.{serials}
use Rattle.type_chains.specs.Neighbours.{first_of}
use Rattle.record_file.proofs.EndLemmas.{ended_written}
use Rattle.xsi_inquiry.specs.Writing.{Plan}
use Rattle.xsi_control.proofs.PlaceLemmas.{first_left}
use Rattle.xsi_control.specs.Turns.{next_by, turn_slots, type_deletion}
use Rattle.xsi_remove.proofs.DeedLemmas.{IsDriven}
use Rattle.xsi_remove.proofs.LeftLemmas.{left_reading}
use Rattle.xsi_remove.specs.declared.work.Deed.{Deed}
use Rattle.xsi_remove.specs.declared.work.Deed.TheVariants.{Reading, DeletingMessage, DeletingType}
use Rattle.xsi_remove.specs.declared.work.Work.{Work}
use Rattle.xsi_remove.specs.Deeds.{begun_work, behind, behind_find, behind_message, last_type, led_to, message_of, next_of, purpose_of, turn_behind, with_deed}
use Rattle.xsi_remove.specs.Sweeps.{DELETE_STEPS, FIND_STEPS, IsAtWork, IsRead, IsSweeping, TURN_STEPS, deeds_left, left_in, records_left, sweep_left}
use Rattle.xsi_remove.specs.Words.{RecordKey, Store, HasEnded, Delete, ToFind, ToWrite, StandsAt, aimed_at, begun, Purpose, Record, Allows, Serves, access_answer, Queue, State, key_of_type, is_swept, IsTurn, swept, unswept, IsFiled, Records, MessageRead, begun_turn}

-- where none is left, as many were swept as stood there
pub none_left : (ms : List Message) (i : ℕ) → i ≤ length ms → first_of (serials (drop i ms)) ≡ None → i ≡ length ms
none_left [] i within none = omega (arith, within)
none_left (m ∷ ms) zero within none = absurd cc
none_left (m ∷ ms) (suc i) within none = ap suc (none_left ms i (omega (arith, within)) none)

first_of_two : {A B : Type 0} → A × B → A
first_of_two p = p.0

second_of : {A B C : Type 0} → A × (B × C) → B
second_of (a, b) = b.0

few_turns : (n : ℕ) → 1 ≤ n → FIND_STEPS + (2 * DELETE_STEPS + (n - 1) * TURN_STEPS) ≤ n * TURN_STEPS
few_turns n one = omega (arith, one)

-- a deletion can be begun on a record that stands there
deletes_begun : (hash : RecordKey → ℕ) (key : RecordKey) (found : Option Record) → IsSome found →
    Allows (ToWrite (Delete key)) (begun (ToWrite (Delete key)) (hash key)) found
deletes_begun hash key found some =
    record { fits = λ unwritten. some; due = λ unwritten. record { searches = refl; told = λ none. none } }

-- the sweep that follows
pub record Follows (hash : RecordKey → ℕ) (id count : ℕ) (q : Queue) (s : State) (w : Work) (file : Store) (deed : Deed)
    (next : Option (Option Work)) : Type 0 where
  pub sweep : Option Work
  pub is : next ≡ Some sweep
  pub count' : ℕ
  pub counts : (count' ≡ count) ⊎ (count' ≡ count + 1)
  pub sweeps : IsSweeping hash id count' q s sweep file
  pub few : sweep_left sweep file ≤ deeds_left deed + w.turns * TURN_STEPS

module _ (hash : RecordKey → ℕ) (id count : ℕ) (q : Queue) (s : State) (w : Work) (file : Store) (filed : IsFiled s)
    (alive : find (has_id id) s.queues ≡ Some q) (d : IsDriven hash id count q s w file) where
  abbrev old : Records
  old = swept id count s

  abbrev Leads : Deed → Option (Option Work) → Type 0
  Leads deed next = Follows hash id count q s w file deed next

  -- ---- what was read

  abbrev plan_by : Option ℤ → Plan
  plan_by l = record { trials = []; slots = Some (Delete (message_of w.turn)) ∷ type_deletion w.turn.id l ∷ [] }

  turned : (m : MessageRead) → w.turn.read ≡ Some m → IsTurn id count q s m.next (plan_by m.last_of)
  turned m was =
      subst (λ (o : Option MessageRead). IsTurn id count q s (next_by o)
      (record { trials = []; slots = turn_slots w.turn.id w.turn.serial o })) was
      (d.told (subst IsSome (sym was) refl))

  turned_by : (m : MessageRead) (l : Option ℤ) → w.turn.read ≡ Some m → m.last_of ≡ l →
      IsTurn id count q s m.next (plan_by l)
  turned_by m l was last = subst (λ (x : Option ℤ). IsTurn id count q s m.next (plan_by x)) last (turned m was)

  stood : (x : Deed) (b : Bool) → w.deed ≡ x → w.access.written ≡ b → (key : RecordKey) → is_swept id key ≡ true →
      StandsAt file key (left_in b x w.turn old key)
  stood x b is wrote key its =
      subst (λ (b : Bool). StandsAt file key (left_in b x w.turn old key)) wrote
      (subst (λ (x : Deed). StandsAt file key (left_in w.access.written x w.turn old key)) is (d.stands key its))

  within : count < length q.messages
  within =
      let (m, at, same) = first_left q.messages count w.turn.serial d.at.first in
      slice_get_within q.messages count m at

  -- ---- the next turn

  next_turn : (deed : Deed) (m : MessageRead) (l : Option ℤ) → w.turn.read ≡ Some m → m.last_of ≡ l →
      ((key : RecordKey) → is_swept id key ≡ true → StandsAt file key (swept id (count + 1) s key)) → (n : Option ℕ) →
      m.next ≡ n → Leads deed (led_to hash (Some (turn_behind n)) w)
  next_turn deed m l was last stands None none = record {
    sweep = None;
    is = refl;
    count' = count + 1;
    counts = inr refl;
    sweeps = record {
      filed = filed;
      alive = alive;
      stands = stands;
      works = none_left q.messages (count + 1) (omega (arith, within))
          (sym (turned_by m l was last).next_left ∙ none);
    };
    few = omega arith;
  }
  next_turn deed m l was last stands (Some serial) some =
      let first : first_of (serials (unswept (count + 1) q)) ≡ Some serial =
      sym (turned_by m l was last).next_left ∙ some in
      let more : count + 1 < length q.messages =
      let (n, at, same) = first_left q.messages (count + 1) serial first in
      slice_get_within q.messages (count + 1) n at in
      let one : 1 ≤ w.turns = omega (arith, more, d.enough) in record {
        sweep = Some (begun_work hash (begun_turn w.turn.id serial) (w.turns - 1));
        is = rw (not_over one (w.turns == 0) refl) refl;
        count' = count + 1;
        counts = inr refl;
        sweeps = record {
          filed = filed;
          alive = alive;
          stands = stands;
          works = record {
            its = d.its;
            at = record { alive = d.at.alive; first = first };
            read = λ none. refl;
            told = λ there. absurd cc;
            enough = omega (arith, one, d.enough);
            serves = record { kind = tt; key = refl; links = refl; value = tt; limits = tt };
            keyed = refl;
            allows = tt;
            goes_on = λ is. true≢false (sym is);
          };
        };
        few = omega (arith, few_turns w.turns one);
      }
    where
      not_over : 1 ≤ w.turns → (b : Bool) → (w.turns == 0) ≡ b → (w.turns == 0) ≡ false
      not_over one false is = is
      not_over one true is = absurd (let none = eqb-true w.turns 0 is in omega (arith, none, one))

  -- ---- a deletion

  begins : (deed deed' : Deed) → IsAtWork hash id count q s (with_deed hash deed' w) →
      ((key : RecordKey) → is_swept id key ≡ true →
      StandsAt file key (records_left id count s (Some (with_deed hash deed' w)) key)) →
      sweep_left (Some (with_deed hash deed' w)) file ≤ deeds_left deed + w.turns * TURN_STEPS →
      Leads deed (Some (Some (with_deed hash deed' w)))
  begins deed deed' works stands few = record {
    sweep = Some (with_deed hash deed' w);
    is = refl;
    count' = count;
    counts = inl refl;
    sweeps = record { filed = filed; alive = alive; stands = stands; works = works };
    few = few;
  }

  -- ---- each deed

  behind_reading : (o : Option MessageRead) → w.turn.read ≡ o → w.deed ≡ Reading →
      (access_answer w.access ≡ None → ⊥) → Leads Reading (led_to hash (behind_find o) w)
  behind_reading None none reading answered =
      absurd (answered (subst (λ (x : Deed). IsRead x w) reading d.read none))
  behind_reading (Some m) was reading answered =
      begins Reading DeletingMessage (record {
        its = d.its;
        at = record { alive = d.at.alive; first = d.at.first };
        read = subst IsSome (sym was) refl;
        told = d.told;
        enough = d.enough;
        serves = record { kind = tt; key = refl; links = refl; value = tt; limits = tt };
        keyed = refl;
        allows = deletes_begun hash (message_of w.turn) _ (first_of_two (turned m was).leads.can);
        goes_on = λ over. over;
      }) (λ key its. subst (StandsAt file key) (left_reading w.turn old w.access.written key)
      (stood Reading w.access.written reading refl key its)) (omega arith)

  behind_deletion : (m : MessageRead) → w.turn.read ≡ Some m → w.deed ≡ DeletingMessage →
      w.access.written ≡ true → (l : Option ℤ) → m.last_of ≡ l →
      Leads DeletingMessage (led_to hash (Some (behind_message l w.turn)) w)
  behind_deletion m was deed wrote None last =
      subst (λ (o : Option MessageRead). Leads DeletingMessage (led_to hash (Some (turn_behind (next_by o))) w))
      (sym was) (next_turn DeletingMessage m None was last (λ key its. subst (StandsAt file key)
      ((turned_by m None was last).leads.leads key) (stood DeletingMessage true deed wrote key its)) m.next refl)
  behind_deletion m was deed wrote (Some mtype) last =
      begins DeletingMessage (DeletingType mtype) (record {
        its = d.its;
        at = record { alive = d.at.alive; first = d.at.first };
        read = ap last_type was ∙ last;
        told = d.told;
        enough = d.enough;
        serves = record { kind = tt; key = refl; links = refl; value = tt; limits = tt };
        keyed = refl;
        allows = deletes_begun hash (key_of_type w.turn.id mtype) _
            (second_of (turned_by m (Some mtype) was last).leads.can);
        goes_on = λ over. over;
      }) (λ key its. stood DeletingMessage true deed wrote key its) (omega arith)

  behind_type : (mtype : ℤ) (m : MessageRead) → w.turn.read ≡ Some m → m.last_of ≡ Some mtype →
      w.deed ≡ DeletingType mtype → w.access.written ≡ true →
      Leads (DeletingType mtype) (led_to hash (Some (turn_behind (next_by w.turn.read))) w)
  behind_type mtype m was last deed wrote =
      subst (λ (o : Option MessageRead). Leads (DeletingType mtype) (led_to hash (Some (turn_behind (next_by o))) w))
      (sym was) (next_turn (DeletingType mtype) m (Some mtype) was last (λ key its. subst (StandsAt file key)
      ((turned_by m (Some mtype) was last).leads.leads key) (stood (DeletingType mtype) true deed wrote key its)) m.next
      refl)

  -- a deletion that has ended has written
  deleted : (x : Deed) (key : RecordKey) → w.deed ≡ x → purpose_of x w.turn ≡ ToWrite (Delete key) →
      HasEnded w.access.operation → w.access.written ≡ true
  deleted x key deed is ended =
      let found = records_left id count s (Some w) (aimed_at (purpose_of w.deed w.turn)) in
      let aim = ap (λ (y : Deed). purpose_of y w.turn) deed ∙ is in
      ended_written (Delete key) w.access found
      (subst (λ (p : Purpose). Serves p w.access) aim d.serves)
      (subst (λ (p : Purpose). Allows p w.access found) aim d.allows) ended

  -- where its access has ended, and a find was answered, something follows or each message was swept
  pub follows : HasEnded w.access.operation →
      ((key : RecordKey) → Serves (ToFind key) w.access → access_answer w.access ≡ None → ⊥) →
      Leads w.deed (next_of hash w)
  follows ended answered = by w.deed refl
    where
      by_message : (o : Option MessageRead) → w.turn.read ≡ o → IsSome o → w.deed ≡ DeletingMessage →
          w.access.written ≡ true →
          Leads DeletingMessage (led_to hash (Some (behind_message (last_type o) w.turn)) w)
      by_message None none some deed wrote = absurd cc
      by_message (Some m) was some deed wrote = behind_deletion m was deed wrote m.last_of refl

      by_type : (mtype : ℤ) (o : Option MessageRead) → w.turn.read ≡ o → last_type o ≡ Some mtype →
          w.deed ≡ DeletingType mtype → w.access.written ≡ true →
          Leads (DeletingType mtype) (led_to hash (Some (turn_behind (next_by w.turn.read))) w)
      by_type mtype None none last deed wrote = absurd cc
      by_type mtype (Some m) was last deed wrote = behind_type mtype m was last deed wrote

      by : (x : Deed) → w.deed ≡ x → Leads x (led_to hash (behind x w.turn w.access.written) w)
      by Reading deed = behind_reading w.turn.read refl deed
          (answered (message_of w.turn) (subst (λ (x : Deed). Serves (purpose_of x w.turn) w.access) deed d.serves))
      by DeletingMessage deed =
          let wrote = deleted DeletingMessage (message_of w.turn) deed refl ended in
          subst (λ (b : Bool). Leads DeletingMessage (led_to hash (behind DeletingMessage w.turn b) w)) (sym wrote)
          (by_message w.turn.read refl (subst (λ (x : Deed). IsRead x w) deed d.read) deed wrote)
      by (DeletingType mtype) deed =
          let wrote = deleted (DeletingType mtype) (key_of_type w.turn.id mtype) deed refl ended in
          subst (λ (b : Bool). Leads (DeletingType mtype) (led_to hash (behind (DeletingType mtype) w.turn b) w))
          (sym wrote) (by_type mtype w.turn.read refl (subst (λ (x : Deed). IsRead x w) deed d.read) deed wrote)
