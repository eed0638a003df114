-- The text of each kind of word. docs/SCRIPTS.md, "Answers".
use Rattle.std.specs.Prelude.{ℕ, List}
use Rattle.std.specs.Fmt.{decimal, signed_decimal}
use Rattle.msgq_cli.specs.Answers.{body_text, key_text, labelled_text, mode_text}
use Rattle.msgq_cli.specs.declared.printed_word.PrintedWord.{PrintedWord}
use Rattle.msgq_cli.specs.declared.printed_word.PrintedWord.TheVariants.{Text, Number, Signed, Key, Body, Mode, Labelled}

-- the text of a word
abbrev pub text_of : PrintedWord → List ℕ
text_of (Text text) = text.now
text_of (Number number) = decimal number
text_of (Signed number) = signed_decimal number
text_of (Key key) = key_text key
text_of (Body body) = body_text body.now
text_of (Mode mode) = mode_text mode
text_of (Labelled name id key) = labelled_text name.now id key
