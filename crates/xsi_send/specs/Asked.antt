-- What a Send asks for is that of its own queue, and it writes little.
use Rattle.std.proofs.Common.{◌≡◌, inl, inr, ℕ, Bool, true, false, cond, [], ◌∷◌, length, Option, Some, None, Ok, Err, refl, arith}
use Rattle.std.proofs.lemmas.List.Elements.{All-cons, All-nil}
use Rattle.std.specs.Option.{option_eq}
use Rattle.std.specs.Prelude.{◌==◌, nat_eq, ℤ}
use Rattle.queue_records.specs.declared.record.Record.TheVariants as records
use Rattle.xsi_inquiry.specs.declared.decision.Decision.TheVariants.{Answers}
use Rattle.xsi_inquiry.specs.declared.verdict.Verdict.TheVariants as verdicts
use Rattle.xsi_inquiry.specs.declared.wanted.Wanted.TheVariants.{Given}
use Rattle.xsi_inquiry.specs.Agreeing.{AgreeOnId}
use Rattle.xsi_inquiry.specs.Deciding.{DecidesToInsert, InsertsOnlyFor}
use Rattle.xsi_inquiry.specs.Telling.{IsToldGiven}
use Rattle.xsi_inquiry.specs.Writing.{IsSmall, KeepsAll}
use Rattle.xsi_inquiry.proofs.AgreeLemmas.{same_type_record}
use Rattle.xsi_inquiry.proofs.DecisionLemmas.{small_none}
use Rattle.xsi_inquiry.proofs.AskLemmas.{at_none, at_one, given_asks, sought_asks, sought_given}
use Rattle.xsi_send.specs.Words.{All, IsTold, QueueEntry, Record, Relink, Replace, SendArguments, State, Write, key_of_message, key_of_type, option_map, type_number, with_one_more}
use Rattle.xsi_send.specs.declared.stage.Stage.{Stage}
use Rattle.xsi_send.specs.declared.stage.Stage.TheVariants.{Seeking, Refused, Full, AtType, AtNeighbour, Done}
use Rattle.xsi_send.specs.declared.type_place.TypePlace.{TypePlace}
use Rattle.xsi_send.specs.declared.type_place.TypePlace.TheVariants.{Standing, Between}
use Rattle.xsi_send.specs.Knowing.{asked}
use Rattle.xsi_send.specs.Planning.{behind_end, decided_at, end_of_queue, end_of_type, higher_write, links_behind, lower_write, plan_at, queue_write, sent_slots, sent_trials, takes_more, type_write}

pub stage_asks : (a : SendArguments) (stage : Stage) (s t : State) (found : Option Record) → AgreeOnId a.id s t →
    IsTold s (asked a stage) found → IsTold t (asked a stage) found
stage_asks a (Seeking sought) s t found agrees told = sought_asks a.id sought s t found agrees told
stage_asks a (Refused errno) s t found agrees told = at_none t found
stage_asks a Full s t found agrees told = at_none t found
stage_asks a (AtType e) s t found agrees told =
    at_one (key_of_type a.id a.mtype) s t found (same_type_record a.id s t agrees (type_number a.mtype)) told
stage_asks a (AtNeighbour w) s t found agrees told =
    at_one (key_of_type a.id w.next) s t found (same_type_record a.id s t agrees (type_number w.next)) told
stage_asks a (Done e place) s t found agrees told = at_none t found

given_of : (a : SendArguments) (stage : Stage) (other : ℕ) → asked a stage ≡ Some (Given other) → a.id ≡ other
given_of a (Seeking sought) other is = sought_given a.id sought other is
given_of a (Refused errno) other is = absurd cc
given_of a Full other is = absurd cc
given_of a (AtType e) other is = absurd cc
given_of a (AtNeighbour w) other is = absurd cc
given_of a (Done e place) other is = absurd cc

pub given_at : (a : SendArguments) (stage : Stage) (s t : State) (given : Bool) → AgreeOnId a.id s t →
    IsToldGiven s (asked a stage) given → IsToldGiven t (asked a stage) given
given_at a stage s t given agrees told = given_asks (asked a stage) a.id s t given agrees (given_of a stage) told

-- ---- at most two trials and four writes

few_done : (pid : ℕ) (a : SendArguments) (e : QueueEntry) (place : TypePlace) →
    IsSmall (record { trials = sent_trials pid a e place; slots = sent_slots pid a e place })
few_done pid a e (Standing last) = record { trials = omega arith; slots = omega arith }
few_done pid a e (Between lower higher) = record { trials = omega arith; slots = omega arith }

pub few_at : (pid : ℕ) (a : SendArguments) (stage : Stage) → IsSmall (plan_at pid a stage)
few_at pid a (Seeking sought) = small_none
few_at pid a (Refused errno) = small_none
few_at pid a Full = small_none
few_at pid a (AtType e) = small_none
few_at pid a (AtNeighbour w) = small_none
few_at pid a (Done e place) = few_done pid a e place

-- ---- a message that is put on its queue is inserted, and nothing is deleted

queue_kept : (pid : ℕ) (a : SendArguments) (e : QueueEntry) → KeepsAll (queue_write pid a e)
queue_kept pid a e = by (takes_more (length a.body) e)
  where
    by : (b : Bool) → KeepsAll (cond b (Some (Replace (records.Queue (with_one_more pid a e)))) None)
    by true = tt
    by false = tt

type_kept : (e : QueueEntry) (last : ℕ) → KeepsAll (end_of_type e last)
type_kept e last = by (option_eq nat_eq e.last (Some last))
  where
    by : (b : Bool) →
        KeepsAll (cond b None (Some (Relink (key_of_message e.id last) (links_behind e.next_serial false true))))
    by true = tt
    by false = tt

end_kept : (e : QueueEntry) (typed : ℕ → Bool) → KeepsAll (end_of_queue e typed)
end_kept e typed = by e.last
  where
    by : (o : Option ℕ) → KeepsAll (option_map (λ (end : ℕ). behind_end e (typed end) end) o)
    by None = tt
    by (Some end) = tt

lower_kept : (a : SendArguments) (e : QueueEntry) (o : Option ℤ) → KeepsAll (option_map (lower_write a e) o)
lower_kept a e None = tt
lower_kept a e (Some t) = tt

higher_kept : (a : SendArguments) (e : QueueEntry) (o : Option ℤ) → KeepsAll (option_map (higher_write a e) o)
higher_kept a e None = tt
higher_kept a e (Some t) = tt

all_four : (u v w x : Option Write) → KeepsAll u → KeepsAll v → KeepsAll w → KeepsAll x →
    All KeepsAll (u ∷ v ∷ w ∷ x ∷ [])
all_four u v w x first second third fourth =
    All-cons KeepsAll u (v ∷ w ∷ x ∷ []) first (All-cons KeepsAll v (w ∷ x ∷ []) second
    (All-cons KeepsAll w (x ∷ []) third (All-cons KeepsAll x [] fourth (All-nil KeepsAll))))

all_kept : (pid : ℕ) (a : SendArguments) (e : QueueEntry) (place : TypePlace) →
    All KeepsAll (sent_slots pid a e place)
all_kept pid a e (Standing last) =
    all_four (queue_write pid a e) (end_of_type e last) (end_of_queue e (λ end. end == last)) (Some (type_write a e))
    (queue_kept pid a e) (type_kept e last) (end_kept e (λ end. end == last)) tt
all_kept pid a e (Between lower higher) =
    all_four (queue_write pid a e) (end_of_queue e (λ end. false)) (option_map (lower_write a e) lower)
    (option_map (higher_write a e) higher)
    (queue_kept pid a e) (end_kept e (λ end. false)) (lower_kept a e lower) (higher_kept a e higher)

sent_or_no_system : (b : Bool) (serial : ℕ) →
    DecidesToInsert (cond b (Ok (Answers (verdicts.Sent serial))) (Err (record {})))
sent_or_no_system true serial = tt
sent_or_no_system false serial = tt

pub inserts_at : (pid : ℕ) (a : SendArguments) (stage : Stage) →
    InsertsOnlyFor (decided_at a stage) (plan_at pid a stage)
inserts_at pid a (Seeking sought) = inl refl
inserts_at pid a (Refused errno) = inl refl
inserts_at pid a Full = inl refl
inserts_at pid a (AtType e) = inl refl
inserts_at pid a (AtNeighbour w) = inl refl
inserts_at pid a (Done e place) =
    inr (sent_or_no_system (takes_more (length a.body) e) e.next_serial, all_kept pid a e place)
