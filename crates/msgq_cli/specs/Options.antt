-- The options of a call, in any order, each at most once. docs/SCRIPTS.md, "Options".
use Rattle.std.specs.Prelude.{ℕ, ◌&&◌, ◌||◌, not, Bool, true, false, List, [], ◌∷◌, length, take, drop, codes, Option, Some, None, is_some, if◌then◌else◌}
use Rattle.std.specs.Str.{bytes_eq}
use Rattle.schedules.specs.Numbers.{number_of, mode_of}
use Rattle.schedules.specs.Reading.{◌>>=◌}
use Rattle.msgq_cli.specs.declared.mistake.Optional.{Optional}
use Rattle.msgq_cli.specs.declared.mistake.Optional.TheVariants.{Get, Send, Receive, Set}
use Rattle.msgq_cli.specs.declared.options.Options.{Options}

-- no option at all
abbrev pub no_options : Options
no_options =
    record { create = false; excl = false; nowait = false; noerror = false; mode = None; uid = None; gid = None }

-- the options with a value that none of them had yet
abbrev pub once : {T : Type 0} → Option T → Options → Option Options
once None o = Some o
once (Some value) o = None

-- the word begins with a name, as `uid=7` with `uid=`
abbrev pub begins : List ℕ → List ℕ → Bool
begins name word = bytes_eq (take (length name) word) name

-- what stands behind the name
abbrev pub value_in : List ℕ → List ℕ → List ℕ
value_in name word = drop (length name) word

-- `mode=OOO`
abbrev pub with_mode : Options → List ℕ → Option Options
with_mode o value = do
  mode ← mode_of value
  once o.mode (record o { mode = Some mode })

-- `uid=N`
abbrev pub with_uid : Options → List ℕ → Option Options
with_uid o value = do
  uid ← number_of value
  once o.uid (record o { uid = Some uid })

-- `gid=N`
abbrev pub with_gid : Options → List ℕ → Option Options
with_gid o value = do
  gid ← number_of value
  once o.gid (record o { gid = Some gid })

-- one option with a value more
abbrev pub with_value : Options → List ℕ → Option Options
with_value o word =
    if begins (codes "mode=") word then with_mode o (value_in (codes "mode=") word)
    else if begins (codes "uid=") word then with_uid o (value_in (codes "uid=") word)
    else if begins (codes "gid=") word then with_gid o (value_in (codes "gid=") word)
    else None

-- one option more
abbrev pub with_option : Options → List ℕ → Option Options
with_option o word =
    if bytes_eq word (codes "create") && not o.create then Some (record o { create = true })
    else if bytes_eq word (codes "excl") && not o.excl then Some (record o { excl = true })
    else if bytes_eq word (codes "nowait") && not o.nowait then Some (record o { nowait = true })
    else if bytes_eq word (codes "noerror") && not o.noerror then Some (record o { noerror = true })
    else with_value o word

-- the options o, and those that the words say
abbrev pub options_after : Options → List (List ℕ) → Option Options
options_after o [] = Some o
options_after o (word ∷ words) = do
  more ← with_option o word
  options_after more words

-- the options that a call knows, and no others
abbrev pub fits : Optional → Options → Bool
fits Get o = not (o.nowait || o.noerror || is_some o.uid || is_some o.gid)
fits Send o = not (o.create || o.excl || o.noerror || is_some o.mode || is_some o.uid || is_some o.gid)
fits Receive o = not (o.create || o.excl || is_some o.mode || is_some o.uid || is_some o.gid)
fits Set o = not (o.create || o.excl || o.nowait || o.noerror)

-- what these words say, each of which is an option that the call knows
abbrev pub options_of : Optional → List (List ℕ) → Option Options
options_of call words = do
  o ← options_after no_options words
  if fits call o then Some o else None
