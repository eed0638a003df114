-- The lines of a text, taken from its beginning one by one.
use Rattle.std.proofs.Common.{ℕ, ◌≡◌, ◌≤◌, ◌<◌, List, [], ◌∷◌, ◌++◌, length, take, drop}
use Rattle.std.specs.List.{All}
use Rattle.std.proofs.lemmas.List.{append_assoc, append-nil, nil_from_length}
use Rattle.std.proofs.lemmas.List.Elements.{All-nil, All-push}
use Rattle.numbers.specs.declared.limits.TheConstants.{MAX_BODY}
use Rattle.queue_commands.specs.Lines.{AreLines, ArePutAs, IsShort, first_line}

-- with the lines of the rest behind them, these are the lines of the text
pub record AreFirst (text rest : List ℕ) (bodies : List (List ℕ)) : Type 0 where
  pub goes_on : (more : List (List ℕ)) → AreLines rest more → AreLines text (bodies ++ more)
  pub short : All IsShort bodies

pub none_are_first : (text : List ℕ) → AreFirst text text []
none_are_first text = record { goes_on = λ more are. are; short = All-nil IsShort }

pub one_more_is_first : (text rest after line : List ℕ) (bodies : List (List ℕ)) → AreFirst text rest bodies →
    0 < length rest → length line ≤ MAX_BODY → line ≡ take (first_line rest) rest →
    after ≡ drop (first_line rest) rest → AreFirst text after (bodies ++ line ∷ [])
one_more_is_first text rest after line bodies first some short is_line is_rest = record {
  goes_on = λ more are. rw (append_assoc bodies (line ∷ []) more) (first.goes_on (line ∷ more)
      (record { some = some; first = is_line }, rw (← is_rest) are));
  short = All-push IsShort bodies line first.short short;
}

pub all_are_put : (text rest : List ℕ) (bodies : List (List ℕ)) → AreFirst text rest bodies → length rest ≡ 0 →
    ArePutAs text bodies
all_are_put text rest bodies first none = record {
  lines = rw (← append-nil bodies) (first.goes_on [] (nil_from_length rest none));
  short = first.short;
}
