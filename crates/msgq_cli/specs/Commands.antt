-- The commands, each behind its verb. docs/SCRIPTS.md, "Commands".
use Rattle.std.specs.Prelude.{ℕ, List, [], ◌∷◌, codes, Option, Some, None, if◌then◌else◌}
use Rattle.std.specs.Option.{option_map, unwrap_or}
use Rattle.std.specs.Str.{bytes_eq}
use Rattle.queue_model.specs.declared.call.Call.TheVariants as call
use Rattle.queue_model.specs.declared.call.Call.{Call}
use Rattle.schedules.specs.Numbers.{number_of, signed_of, key_of, body_of}
use Rattle.msgq_cli.specs.Options.{options_of}
use Rattle.msgq_cli.specs.Unread.{next, alone}
use Rattle.msgq_cli.specs.declared.mistake.Optional.TheVariants as optional
use Rattle.schedules.specs.Reading.{◌>>=◌}
use Rattle.msgq_cli.specs.declared.command.Command.{Command}
use Rattle.msgq_cli.specs.declared.command.Command.TheVariants as command
use Rattle.msgq_cli.specs.declared.command.TheConstants.{DEFAULT_MODE}

-- `get KEY`, then any of `create`, `excl`, `mode=OOO`
abbrev pub get_of : ℕ → List (List ℕ) → Option Call
get_of moment words = do
  key ← next key_of words
  o ← options_of optional.Get key.1
  Some (call.Get (record {
    key = key.0;
    create = o.create;
    excl = o.excl;
    mode = unwrap_or o.mode DEFAULT_MODE;
    moment = moment;
  }))

-- `snd ID TYPE HEX`, then optionally `nowait`
abbrev pub send_of : ℕ → List (List ℕ) → Option Call
send_of moment words = do
  id ← next number_of words
  mtype ← next signed_of id.1
  body ← next body_of mtype.1
  o ← options_of optional.Send body.1
  Some (call.Send (record {
    id = id.0;
    mtype = mtype.0;
    body = body.0;
    nowait = o.nowait;
    moment = moment;
  }))

-- `rcv ID SIZE TYPE`, then any of `nowait`, `noerror`
abbrev pub receive_of : ℕ → List (List ℕ) → Option Call
receive_of moment words = do
  id ← next number_of words
  size ← next number_of id.1
  mtype ← next signed_of size.1
  o ← options_of optional.Receive mtype.1
  Some (call.Receive (record {
    id = id.0;
    size = size.0;
    mtype = mtype.0;
    nowait = o.nowait;
    noerror = o.noerror;
    moment = moment;
  }))

-- `stat ID`
abbrev pub stat_of : List (List ℕ) → Option Call
stat_of words = do
  id ← next number_of words
  alone (call.Stat id.0) id.1

-- `set ID QBYTES`, then any of `uid=N`, `gid=N`, `mode=OOO`
abbrev pub set_of : ℕ → List (List ℕ) → Option Call
set_of moment words = do
  id ← next number_of words
  qbytes ← next number_of id.1
  o ← options_of optional.Set qbytes.1
  Some (call.Set (record {
    id = id.0;
    qbytes = qbytes.0;
    uid = o.uid;
    gid = o.gid;
    mode = o.mode;
    moment = moment;
  }))

-- `rm ID`
abbrev pub remove_of : List (List ℕ) → Option Call
remove_of words = do
  id ← next number_of words
  alone (call.Remove id.0) id.1

-- the command of a verb and the words behind it
abbrev pub command_of : ℕ → List (List ℕ) → Option Command
command_of moment [] = None
command_of moment (verb ∷ words) =
    if bytes_eq verb (codes "get") then option_map command.Call (get_of moment words)
    else if bytes_eq verb (codes "snd") then option_map command.Call (send_of moment words)
    else if bytes_eq verb (codes "rcv") then option_map command.Call (receive_of moment words)
    else if bytes_eq verb (codes "stat") then option_map command.Call (stat_of words)
    else if bytes_eq verb (codes "set") then option_map command.Call (set_of moment words)
    else if bytes_eq verb (codes "rm") then option_map command.Call (remove_of words)
    else if bytes_eq verb (codes "stop") then alone command.Stop words
    else None
