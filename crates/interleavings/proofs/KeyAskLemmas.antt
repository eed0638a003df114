-- The names that a call asks for: while an access is under way no key's, and of a Remove that asks its queue's.
use Rattle.std.proofs.Common.{ℕ, ◌≡◌, refl, sym, ap, ◌∙◌, Bool, true, false, List, [], ◌∷◌, Option, Some, None, if◌then◌else◌}
use Rattle.std.specs.Prelude.{⊤}
use Rattle.std.specs.List.{AllByRecursion, find}
use Rattle.call_decisions.specs.Anything.{if_of, IsOfKind}
use Rattle.call_decisions.specs.InquiryWords.{RemoveInquiry}
use Rattle.call_decisions.specs.Names.{by_phase, names_for}
use Rattle.queue_model.specs.declared.queue.Queue.{Queue}
use Rattle.queue_model.specs.Rules.{has_id}
use Rattle.files_at_rest.specs.record_file.Accesses.{AccessView}
use Rattle.files_at_rest.specs.record_file.BucketAccesses.{ask_in}
use Rattle.files_at_rest.specs.record_file.Deletes.{DeleteView, delete_turn, part}
use Rattle.files_at_rest.specs.record_file.declared.second_place.SecondPlace.{SecondPlace}
use Rattle.files_at_rest.specs.record_file.declared.second_place.SecondPlace.TheVariants.{Approaching, Look, Hop, Write, Splitting, GiveBackPage, GiveBackDirectory}
use Rattle.files_at_rest.specs.record_file.declared.second_place.SecondPlace.TheVariants.{Ended as HasTried}
use Rattle.files_at_rest.specs.record_file.Inserts.{ask_in as insert_ask}
use Rattle.files_at_rest.specs.record_file.Operations.{operation_turn}
use Rattle.files_at_rest.specs.record_file.SecondTries.{ask_at as second_ask}
use Rattle.files_at_rest.specs.record_file.Words.{SearchView}
use Rattle.files_at_rest.specs.record_file.declared.bucket_access.BucketStage.{BucketStage}
use Rattle.files_at_rest.specs.record_file.declared.bucket_access.BucketStage.TheVariants.{Searching, Written, Ended}
use Rattle.files_at_rest.specs.record_file.declared.insert.InsertStage.{InsertStage}
use Rattle.files_at_rest.specs.record_file.declared.insert.InsertStage.TheVariants.{First, Second}
use Rattle.files_at_rest.specs.record_file.declared.operation.RecordOperation.{RecordOperation}
use Rattle.files_at_rest.specs.record_file.declared.operation.RecordOperation.TheVariants.{Find, Insert, Replace, Delete}
use Rattle.files_at_rest.specs.record_file.split_merge.Facts.{ask_at as merge_ask, merge_turn}
use Rattle.files_at_rest.specs.record_file.split_merge.MergeWords.{ApproachView}
use Rattle.files_at_rest.specs.record_file.split_merge.declared.merge_place.MergePlace.{MergePlace}
use Rattle.files_at_rest.specs.record_file.split_merge.declared.merge_place.MergePlace.TheVariants as merges
use Rattle.stale_search.specs.Approaches.{approach_ask_at}
use Rattle.stale_search.specs.Searches.{ask_at}
use Rattle.stale_search.specs.declared.place.ApproachPlace.{ApproachPlace}
use Rattle.stale_search.specs.declared.place.ApproachPlace.TheVariants as approaches
use Rattle.stale_search.specs.declared.place.SearchPlace.{SearchPlace}
use Rattle.stale_search.specs.declared.place.SearchPlace.TheVariants as places
use Rattle.step_rules.specs.Turns.{Ask, ForLock}
use Rattle.xsi_calls.specs.Machine.{CallView, call_turn, turn_at}
use Rattle.xsi_calls.specs.NameTurns.{is_lock, name_turn}
use Rattle.xsi_calls.specs.Questions.{is_done, turn_behind, turn_of_names}
use Rattle.xsi_calls.specs.Stages.{Stage, Undecided, Paying, Releasing}
use Rattle.xsi_calls.specs.call_writes.PaymentStages as payments
use Rattle.xsi_calls.specs.call_writes.Payments.{payment_turn}
use Rattle.xsi_calls.specs.ToldNames.{IsKeyOf, OfKey}
use Rattle.xsi_calls.specs.Undecided.{Trials, its_plan, turn_in, untried}
use Rattle.xsi_calls.specs.UndecidedWords.{Call, Lock, Plan, QuestionsView, RecordKey, State, Store}
use Rattle.xsi_calls.specs.call_writes.Views.{access_next, turn_under, writes_turn}
use Rattle.xsi_calls.specs.declared.question.Question.{Question}
use Rattle.xsi_calls.specs.declared.turn.NameTurn.TheVariants.{GiveBack}
use Rattle.xsi_control.specs.Asking as removes
use Rattle.xsi_control.specs.Knowing as knowing
use Rattle.xsi_control.specs.Removing.{names_of}
use Rattle.xsi_control.specs.declared.stage.Stage as stage
use Rattle.xsi_control.specs.declared.stage.Stage.TheVariants as stages
use Rattle.xsi_calls.specs.call_writes.PaymentWords.{Work}

-- where it asks for a key's name, this is so of the key
abbrev pub AsksKey : (ℕ → Type 0) → Option Ask → Type 0
AsksKey IsSo (Some (ForLock name kind)) = OfKey IsSo name
AsksKey IsSo ask = ⊤

module _ (IsSo : ℕ → Type 0) where
  -- ---- an access

  search_asks : (stage : BucketStage) (v : SearchView) → AsksKey IsSo (ask_in stage v)
  search_asks Searching v = at v.place
    where
      at : (place : SearchPlace) → AsksKey IsSo (ask_at place v.kind v.pseudokey)
      at places.GrantDirectory = tt
      at places.ReadDepth = tt
      at (places.ReadEntry depth) = tt
      at (places.GrantPage n) = tt
      at (places.ReleaseDirectory n) = tt
      at (places.Look n) = tt
      at (places.Hop n) = tt
      at (places.Found n found) = tt
  search_asks (Written n due) v = tt
  search_asks (Ended due) v = tt

  approach_asks : (place : ApproachPlace) → AsksKey IsSo (approach_ask_at place)
  approach_asks approaches.GrantDirectory = tt
  approach_asks approaches.ReadDepth = tt
  approach_asks (approaches.ReadEntry depth) = tt
  approach_asks (approaches.GrantPage depth n) = tt
  approach_asks (approaches.At depth n) = tt

  second_asks : (place : SecondPlace) (k : ℕ) → AsksKey IsSo (second_ask place k)
  second_asks (Approaching a) k = approach_asks a.place
  second_asks (Look depth n) k = tt
  second_asks (Hop depth n) k = tt
  second_asks (Write n used) k = tt
  second_asks (Splitting n v) k = tt
  second_asks (GiveBackPage n tried) k = tt
  second_asks (GiveBackDirectory tried) k = tt
  second_asks (HasTried tried) k = tt

  merge_asks : (place : MergePlace) (a : ApproachView) → AsksKey IsSo (merge_ask place a)
  merge_asks merges.Approaching a = approach_asks a.place
  merge_asks (merges.ReadBuddy o) a = tt
  merge_asks (merges.GrantRight b seen) a = tt
  merge_asks (merges.GiveBack b) a = tt
  merge_asks (merges.GrantLeft b) a = tt
  merge_asks (merges.GrantRightAgain b) a = tt
  merge_asks (merges.LookLeft b) a = tt
  merge_asks (merges.LookRight b seen) a = tt
  merge_asks (merges.WriteLeft b left right) a = tt
  merge_asks (merges.Tombstone j) a = tt
  merge_asks (merges.Retarget j entry) a = tt
  merge_asks (merges.SetCounts j) a = tt
  merge_asks (merges.ReleaseRight j) a = tt
  merge_asks (merges.ReleaseLeft j) a = tt
  merge_asks (merges.Convert j) a = tt
  merge_asks (merges.GrantAlone j) a = tt
  merge_asks (merges.WriteFree j) a = tt
  merge_asks (merges.LinkFree page) a = tt
  merge_asks (merges.LowerDepth page) a = tt
  merge_asks (merges.ReleaseAlone depth count) a = tt
  merge_asks (merges.GiveUpRight left right) a = tt
  merge_asks (merges.GiveUp page) a = tt
  merge_asks merges.ReleaseDirectory a = tt
  merge_asks merges.Done a = tt

  insert_asks : (stage : InsertStage) → AsksKey IsSo (insert_ask stage)
  insert_asks (First t said) = search_asks t.stage t.search
  insert_asks (Second t) = second_asks t.place t.pseudokey

  delete_asks : (d : DeleteView) → AsksKey IsSo (delete_turn d).ask
  delete_asks d = by d.removal.stage
    where
      by : (stage : BucketStage) →
          AsksKey IsSo (part stage (ask_in stage d.removal.search) None (merge_turn d.merge).ask)
      by Searching = search_asks Searching d.removal.search
      by (Written n due) = tt
      by (Ended true) = merge_asks d.merge.place d.merge.approach
      by (Ended false) = tt

  operation_asks : (o : RecordOperation) (bytes : List ℕ) (s : Store) → AsksKey IsSo (operation_turn o bytes s).ask
  operation_asks (Find f) bytes s = search_asks f.stage f.search
  operation_asks (Insert i) bytes s = insert_asks i.stage
  operation_asks (Replace r) bytes s = search_asks r.stage r.search
  operation_asks (Delete d) bytes s = delete_asks d

  access_asks : (o : Option AccessView) (s : Store) → AsksKey IsSo (turn_under o s).ask
  access_asks None s = tt
  access_asks (Some a) s = operation_asks a.operation a.bytes s

  writes_ask : (hash : RecordKey → ℕ) (p : Plan) (w : _) (s : Store) → AsksKey IsSo (writes_turn hash p w s).ask
  writes_ask hash p w s = access_asks (access_next hash p w) s

  -- ---- names

  names_ask : (held goal : List Lock) → AllByRecursion (λ (l : Lock). OfKey IsSo l.name) goal →
      AsksKey IsSo (turn_of_names (name_turn held goal)).ask
  names_ask [] [] all = tt
  names_ask [] (lock ∷ goal) all = all.0
  names_ask (lock ∷ held) [] all = tt
  names_ask (lock ∷ held) (next ∷ goal) all = by (is_lock next lock) (names_ask held goal all.1)
    where
      by : (b : Bool) → AsksKey IsSo (turn_of_names (name_turn held goal)).ask →
          AsksKey IsSo (turn_of_names (if b then name_turn held goal else GiveBack)).ask
      by true more = more
      by false more = tt

  -- ---- a call

  questions_ask : (hash : RecordKey → ℕ) (call : Call) (q : QuestionsView) (t : Option Trials) (s : Store) →
      AllByRecursion (λ (l : Lock). OfKey IsSo l.name) (names_for call q.inquiry) →
      AsksKey IsSo (turn_in hash call q t s).ask
  questions_ask hash call q (Some t) s all = writes_ask hash (its_plan call q) t.writes s
  questions_ask hash call q None s all = by (is_done call q)
    where
      asking : (o : Option Question) → AsksKey IsSo (turn_behind o (name_turn q.names (names_for call q.inquiry)) s).ask
      asking None = names_ask q.names (names_for call q.inquiry) all
      asking (Some question) = access_asks (Some question.access) s

      by : (b : Bool) → AsksKey IsSo (if b then writes_turn hash (its_plan call q) untried s
          else turn_behind q.question (name_turn q.names (names_for call q.inquiry)) s).ask
      by true = writes_ask hash (its_plan call q) untried s
      by false = asking q.question

  payment_asks : (hash : RecordKey → ℕ) (p : Plan) (stage : payments.Stage) (s : Store) →
      AsksKey IsSo (payment_turn hash p stage s).ask
  payment_asks hash p (payments.Sweeping v) s = sweeping v
    where
      sweeping : (v : Option Work) → AsksKey IsSo (payment_turn hash p (payments.Sweeping v) s).ask
      sweeping None = tt
      sweeping (Some w) = access_asks (Some w.access) s
  payment_asks hash p (payments.Writing w) s = writes_ask hash p w s

  pub call_asks : (hash : RecordKey → ℕ) (m : CallView) (s : Store) → (m.stage ≡ Undecided →
      AllByRecursion (λ (l : Lock). OfKey IsSo l.name) (names_for m.call m.undecided.questions.inquiry)) →
      AsksKey IsSo (call_turn hash m s).ask
  call_asks hash m s all = at m.stage all
    where
      at : (stage : Stage) → (stage ≡ Undecided →
          AllByRecursion (λ (l : Lock). OfKey IsSo l.name) (names_for m.call m.undecided.questions.inquiry)) →
          AsksKey IsSo (turn_at hash m.call m.undecided stage s).ask
      at Undecided all =
          questions_ask hash m.call m.undecided.questions m.undecided.trials s (all refl)
      at (Paying payment conclusion) all = payment_asks hash (its_plan m.call m.undecided.questions) payment s
      at (Releasing conclusion) all = tt

-- ---- a Remove that asks knows the key of its queue

keyed : (id : ℕ) (IsSo : ℕ → Type 0) (key : Option ℕ) → ((k : ℕ) → key ≡ Some k → IsSo k) →
    AllByRecursion (λ (l : Lock). OfKey IsSo l.name) (by_phase id (names_of id key))
keyed id IsSo None is = (tt, (tt, tt))
keyed id IsSo (Some k) is = (is k refl, (tt, (tt, tt)))

keyed_at : (id : ℕ) (s : State) (i : RemoveInquiry) → knowing.KnowsAt i.caller id i.stage s →
    AllByRecursion (λ (l : Lock). OfKey (IsKeyOf id s) l.name) (by_phase id (removes.locked_at id i.stage))
keyed_at id s i knows = by i.stage knows
  where
    by : (g : stage.Stage) → knowing.KnowsAt i.caller id g s →
        AllByRecursion (λ (l : Lock). OfKey (IsKeyOf id s) l.name) (by_phase id (removes.locked_at id g))
    by (stages.Seeking sought) knows = (tt, tt)
    by (stages.Refused errno) knows = (tt, tt)
    by (stages.Keyed key) knows = keyed id (IsKeyOf id s) key (λ k is q found. knows.keeps q found ∙ is)
    by (stages.Counting key queue) knows =
        keyed id (IsKeyOf id s) key (λ k is q found. knows.keyed.keeps q found ∙ is)
    by (stages.Removing r) knows = keyed id (IsKeyOf id s) r.key (λ k is q found.
        let alive : find (has_id id) s.queues ≡ Some knows.queue = knows.alive in
        let same : q ≡ knows.queue = cc in
        ap (λ (x : Queue). x.key) same ∙ sym knows.key ∙ is)

pub remove_keyed : (id : ℕ) (s : State) (o : Option RemoveInquiry) →
    IsOfKind (λ (i : RemoveInquiry). knowing.KnowsAt i.caller id i.stage s) o →
    AllByRecursion (λ (l : Lock). OfKey (IsKeyOf id s) l.name)
    (if_of (λ (i : RemoveInquiry). by_phase id (removes.locked_at id i.stage)) [] o)
remove_keyed id s None knows = absurd knows
remove_keyed id s (Some i) knows = keyed_at id s i knows
