-- What the checker found is looked at.
use Rattle.std.proofs.Common.{◌≡◌, ◌⊎◌, ◌∙◌, ◌<◌, ◌≤◌, ◌^◌, ℕ, arith, inl, inr, sym, ap, subst, List, [], length, get_or, Option, Some, None, slice_get, Result, Ok, Err}
use Rattle.std.specs.Prelude.{IfOk, IfErr}
use Rattle.std.specs.Option.{option_map}
use Rattle.std.proofs.lemmas.Bool.{cases_lt}
use Rattle.std.proofs.lemmas.Option.{slice_get-get_or, slice_get_past}
use Rattle.bucket_page.specs.Pseudokeys.{sha_key}
use Rattle.interleavings.specs.LoneKernelWords.{Caller, IsFileOf, State}
use Rattle.interleavings.specs.interleaving_core.file_check.Records.{HasCheckCause}
use Rattle.interleavings.specs.interleaving_core.file_check.Whole.{IsToldOf}
use Rattle.interleavings.specs.interleaving_core.file_check.declared.fault.CheckFault.{CheckFault}
use Rattle.interleavings.specs.interleaving_core.Fault.{device_failed}
use Rattle.interleavings.specs.interleaving_core.declared.fault.OpenFault.{OpenFault}
use Rattle.interleavings.specs.interleaving_core.declared.fault.OpenFault.TheVariants.{Wrong}
use Rattle.std.proofs.lemmas.List.Elements.{All-get_or}
use Rattle.queue_model.specs.Lawful.{IsLawful, IsLawfulQueue}
use Rattle.queue_model.specs.Rules.{info_of}
use Rattle.queue_model.specs.Selection.{total_bytes}
use Rattle.queue_model.specs.declared.answer.QueueInfo.{QueueInfo}
use Rattle.queue_model.specs.declared.queue.Queue.{Queue}
use Rattle.queue_commands.specs.Json.{PutsJson, messages_data}
use Rattle.command_runs.specs.Looking.{AreMessagesAt, LooksAt, LooksOn}
use Rattle.command_runs.specs.Asking.{Pages}
use Rattle.command_runs.specs.Running.{Seen}
use Rattle.command_runs.specs.declared.error.CommandError.{CommandError}
use Rattle.command_runs.specs.declared.looking.Form.TheVariants.{Json}
use Rattle.command_runs.specs.declared.looking.Look.{Look}

pub looks_on : (c : Caller) (look : Look) (content : Pages) (seen : Seen) (found : Result State CheckFault)
    (came : Result Unit CommandError) → IfOk found (IsFileOf sha_key content) → IfErr found (IsToldOf sha_key content) →
    HasCheckCause seen.was seen.faults found → LooksAt c look found seen came → LooksOn c look content seen came
looks_on c look content seen (Ok s) came file told cause looks = inl (record { system = s; file = file; ends = looks })
looks_on c look content seen (Err fault) came file told cause looks = inr (record {
  fault = Wrong fault;
  told = looks.0;
  framed = λ few. cc;
  cause = told;
  failed = λ is. cause.failed (let same : ◌≡◌ {A = OpenFault} (Wrong fault) device_failed = is in cc);
  kept = looks.1;
})

-- what Stat tells of the queue at a place, and its messages, are shown of the queue that stands there
pub json_at : (s : State) (found : Option ℕ) (place : ℕ) (info : QueueInfo) (q : Queue) (old text : List ℕ) →
    found ≡ Some place → option_map info_of (slice_get s.queues place) ≡ Some info → q ≡ get_or s.queues place q →
    old ≡ [] → PutsJson (messages_data info q.messages) old text → AreMessagesAt Json s found text
json_at s found place info q old text is told there none puts =
    subst (λ (f : Option ℕ). AreMessagesAt Json s f text) (sym is) (λ d. at d (cases_lt place (length s.queues)))
  where
    put : PutsJson (messages_data info q.messages) [] text
    put = subst (λ (before : List ℕ). PutsJson (messages_data info q.messages) before text) none puts

    at : (d : Queue) → (place < length s.queues) ⊎ (length s.queues ≤ place) →
        PutsJson (messages_data (info_of (get_or s.queues place d)) (get_or s.queues place d).messages) [] text
    at d (inl within) =
        let first = slice_get-get_or s.queues place d within in
        let second = slice_get-get_or s.queues place q within in
        let any : get_or s.queues place d ≡ get_or s.queues place q = cc in
        let same : get_or s.queues place d ≡ q = any ∙ sym there in
        let shown : option_map info_of (slice_get s.queues place) ≡ Some (info_of (get_or s.queues place d)) =
        ap (option_map info_of) first in
        let info_is : info_of (get_or s.queues place d) ≡ info = cc in
        subst (λ (x : Queue). PutsJson (messages_data (info_of x) x.messages) [] text) (sym same)
        (subst (λ (i : QueueInfo). PutsJson (messages_data i q.messages) [] text) (sym info_is ∙ ap info_of same) put)
    at d (inr outside) =
        let shown : option_map info_of (slice_get s.queues place) ≡ None =
        ap (option_map info_of) (slice_get_past s.queues place outside) in
        absurd cc

-- the messages of a queue have few bytes
pub few_bytes : (s : State) → IsLawful s → (place : ℕ) (q : Queue) → place < length s.queues →
    q ≡ get_or s.queues place q → total_bytes q.messages < 2 ^ 64
few_bytes s lawful place q below is =
    let same : get_or s.queues place q ≡ q = sym is in
    let at = All-get_or IsLawfulQueue s.queues place q below lawful.queues_lawful in
    let few = subst (λ (r : Queue). total_bytes r.messages ≤ 65536) same at.few_bytes in
    omega (arith, few)
