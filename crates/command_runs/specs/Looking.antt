-- What is looked at of a file. docs/SHELL.md, "What a command asks" and "Tables".
use Rattle.std.specs.Prelude.{◌≡◌, ◌⊎◌, ℕ, List, [], Option, None, Some, ⊤, Result, Ok, Err, position, slice_get, slice_index_or, ◌==◌, ◌||◌, nat_le, if◌then◌else◌}
use Rattle.std.specs.Io.KnownBytes.{Appends}
use Rattle.bucket_page.specs.Pseudokeys.{sha_key}
use Rattle.interleavings.specs.LoneKernelWords.{Caller, IsFileOf, State}
use Rattle.interleavings.specs.interleaving_core.file_check.declared.fault.CheckFault.{CheckFault}
use Rattle.interleavings.specs.interleaving_core.declared.fault.OpenFault.TheVariants.{Wrong}
use Rattle.std.specs.Option.{option_map}
use Rattle.queue_model.specs.declared.answer.QueueInfo.{QueueInfo}
use Rattle.queue_model.specs.declared.errno.Errno.{Errno}
use Rattle.queue_model.specs.declared.errno.Errno.TheVariants.{EIDRM, EINVAL, ENOENT}
use Rattle.queue_model.specs.declared.queue.Queue.{Queue}
use Rattle.queue_model.specs.Rules.{info_of}
use Rattle.queue_commands.specs.Asking.{Refuses}
use Rattle.queue_commands.specs.Json.{PutsJson, messages_data, queues_data}
use Rattle.queue_commands.specs.Naming.{is_named}
use Rattle.queue_commands.specs.declared.queue_name.QueueName.{QueueName}
use Rattle.queue_commands.specs.declared.queue_name.QueueName.TheVariants.{Key, Id}
use Rattle.queue_commands.specs.Tables.{messages_text, queues_text}
use Rattle.queue_commands.specs.Commands.{AsksAs}
use Rattle.command_runs.specs.Asking.{Pages}
use Rattle.command_runs.specs.Running.{IsUnopened, Seen}
use Rattle.command_runs.specs.declared.error.CommandError.{CommandError}
use Rattle.command_runs.specs.declared.error.CommandError.TheVariants.{NoMemory, Refused, Unopened, Unprinted}
use Rattle.command_runs.specs.declared.looking.Look.{Look}
use Rattle.command_runs.specs.declared.looking.Look.TheVariants.{Queues, Messages, Command}
use Rattle.command_runs.specs.declared.looking.Form.{Form}
use Rattle.command_runs.specs.declared.looking.Form.TheVariants.{Table, Json}

-- what Stat tells of the queue of a name in the file of these pages
pub record IsTold (name : QueueName) (content : Pages) (info : QueueInfo) : Type 0 where
  pub system : State
  pub file : IsFileOf sha_key content system
  pub place : ℕ
  pub named : position (is_named name) system.queues ≡ Some place
  pub told : option_map info_of (slice_get system.queues place) ≡ Some info

-- the queues of a system
abbrev pub AreQueues : Form → State → List ℕ → Type 0
AreQueues Table s text = text ≡ queues_text s
AreQueues Json s text = PutsJson (queues_data s) [] text

-- the messages of a queue
abbrev pub AreMessages : Form → Queue → List ℕ → Type 0
AreMessages Table q text = text ≡ messages_text q.messages
AreMessages Json q text = PutsJson (messages_data (info_of q) q.messages) [] text

-- of the queue at a place, where there is one
abbrev pub AreMessagesAt : Form → State → Option ℕ → List ℕ → Type 0
AreMessagesAt form s None text = ⊥
AreMessagesAt form s (Some place) text = (d : Queue) → AreMessages form (slice_index_or s.queues place d) text

-- what is shown of a system
abbrev pub TextIs : Caller → Look → State → List ℕ → Type 0
TextIs c (Queues form) s text = AreQueues form s text
TextIs c (Messages name form) s text = AreMessagesAt form s (position (is_named name) s.queues) text
TextIs c (Command request) s text = (t : State) × AsksAs c request s (Ok text) t

-- a key has no queue; an id was never given, or its queue was removed
abbrev pub why_missing : QueueName → State → Errno
why_missing (Key key) s = ENOENT
why_missing (Id id) s = if id == 0 || nat_le s.next_id id then EINVAL else EIDRM

-- why nothing is
abbrev pub MayNotShow : Caller → Look → State → CommandError → Type 0
MayNotShow c look s NoMemory = ⊤
MayNotShow c (Messages name form) s (Refused e) =
    (e ≡ why_missing name s) × (position (is_named name) s.queues ≡ None)
MayNotShow c (Command request) s (Refused e) = (t : State) × AsksAs c request s (Err (Refuses e)) t
MayNotShow c look s error = ⊥

abbrev pub Shows : Caller → Look → State → Result (List ℕ) CommandError → Type 0
Shows c look s (Ok text) = TextIs c look s text
Shows c look s (Err error) = MayNotShow c look s error

-- the text was printed, or the output refused it; or there is none, and nothing was printed
abbrev pub EndsLook : Caller → Look → State → Seen → Result Unit CommandError → Type 0
EndsLook c look s seen (Ok done) = (text : List ℕ) × TextIs c look s text × Appends seen.old seen.new text
EndsLook c look s seen (Err (Unprinted error)) = (text : List ℕ) × TextIs c look s text
EndsLook c look s seen (Err error) = MayNotShow c look s error × (seen.new ≡ seen.old)

-- of what the checker found; where it found something wrong nothing is printed
abbrev pub LooksAt : Caller → Look → Result State CheckFault → Seen → Result Unit CommandError → Type 0
LooksAt c look (Ok s) seen came = EndsLook c look s seen came
LooksAt c look (Err fault) seen came = (came ≡ Err (Unopened (Wrong fault))) × (seen.new ≡ seen.old)

-- the system of the file is looked at
pub record LooksFrom (c : Caller) (look : Look) (content : Pages) (seen : Seen)
    (came : Result Unit CommandError) : Type 0 where
  pub system : State
  pub file : IsFileOf sha_key content system
  pub ends : EndsLook c look system seen came

abbrev pub LooksOn : Caller → Look → Pages → Seen → Result Unit CommandError → Type 0
LooksOn c look content seen came = LooksFrom c look content seen came ⊎ IsUnopened content seen came
