-- The lines of a script run one after the other.
use Rattle.std.proofs.Common.{◌≡◌, Bool, true, false, ℕ, ◌+◌, List, [], ◌∷◌, ◌++◌, if◌then◌else◌, refl, sym, ap, ◌∙◌, subst, append_assoc, append-nil, ◌||◌, length, arith}
use Rattle.std.specs.List.{list_any}
use Rattle.session.specs.Making.{SessionState}
use Rattle.msgq_cli.specs.Answers.{reply_text}
use Rattle.msgq_cli.specs.Outputs.{OutputState, Prints}
use Rattle.msgq_cli.specs.Runs.{ending_of, is_fault, printed}
use Rattle.msgq_cli.specs.Scripts.{Parts, caller_of}
use Rattle.msgq_cli.specs.declared.ending.Ending.{Ending}
use Rattle.msgq_cli.specs.declared.ending.Ending.TheVariants.{Done, Faulty}
use Rattle.msgq_cli.specs.declared.line.Line.{Line}
use Rattle.msgq_cli.specs.declared.line.SeatIds.{SeatIds}
use Rattle.msgq_cli.specs.declared.reply.Reply.{Reply}
use Rattle.msgq_cli.proofs.OutputLemmas.{Prints-nil, Prints-then}
use Rattle.session_runs.specs.Runs.{IsRun}
use Rattle.session_runs.specs.Taking.{TakesCommand, TakesLines, decided_by}

-- how many calls were answered behind these replies, where so many were before
abbrev pub answered_behind : ℕ → List Reply → ℕ
answered_behind n [] = n
answered_behind n (r ∷ rs) = answered_behind (n + decided_by r) rs

answered-push : (n : ℕ) (replies : List Reply) (reply : Reply)
    → answered_behind n (replies ++ reply ∷ []) ≡ answered_behind n replies + decided_by reply
answered-push n [] reply = refl
answered-push n (r ∷ rs) reply = answered-push (n + decided_by r) rs reply

-- one line more
TakesLines-push : (ids : List SeatIds) (n : ℕ) (lines : List Line) (a b c : SessionState) (replies : List Reply)
    (line : Line) (reply : Reply)
    → TakesLines ids n lines replies a b
    → TakesCommand (answered_behind n replies) (caller_of line.seat ids) line.command reply b c
    → TakesLines ids n (lines ++ line ∷ []) (replies ++ reply ∷ []) a c
TakesLines-push ids n [] a b c [] line reply same takes = (
  c,
  subst (λ (k : SessionState). TakesCommand n (caller_of line.seat ids) line.command reply k c) same takes,
  refl,
)
TakesLines-push ids n [] a b c (r ∷ rs) line reply taken takes = absurd taken
TakesLines-push ids n (l ∷ ls) a b c [] line reply taken takes = absurd taken
TakesLines-push ids n (l ∷ ls) a b c (r ∷ rs) line reply (next, first, rest) takes =
    (next, first, TakesLines-push ids (n + decided_by r) ls next b c rs line reply rest takes)

as_many : (ids : List SeatIds) (n : ℕ) (lines : List Line) (a b : SessionState) (replies : List Reply)
    → TakesLines ids n lines replies a b → length replies ≡ length lines
as_many ids n [] a b [] taken = refl
as_many ids n [] a b (r ∷ rs) taken = absurd taken
as_many ids n (l ∷ ls) a b [] taken = absurd taken
as_many ids n (l ∷ ls) a b (r ∷ rs) (next, first, rest) =
    let same = as_many ids (n + decided_by r) ls next b rs rest in omega arith

printed-push : (lines : List Line) (replies : List Reply) (line : Line) (reply : Reply) → length replies ≡ length lines
    → printed (lines ++ line ∷ []) (replies ++ reply ∷ []) ≡ printed lines replies ++ reply_text line.number reply
printed-push [] [] line reply same = append-nil (reply_text line.number reply)
printed-push [] (r ∷ rs) line reply same = absurd (omega arith)
printed-push (l ∷ ls) [] line reply same = absurd (omega arith)
printed-push (l ∷ ls) (r ∷ rs) line reply same =
    ap (λ text. reply_text l.number r ++ text) (printed-push ls rs line reply (omega arith))
    ∙ sym (append_assoc (reply_text l.number r) (printed ls rs) (reply_text line.number reply))

-- a fault more makes the run faulty, and no other reply changes how it ends
ending-push : (replies : List Reply) (reply : Reply)
    → ending_of (replies ++ reply ∷ []) ≡ (if is_fault reply then Faulty else ending_of replies)
ending-push [] reply = by_fault (is_fault reply)
  where
    by_fault : (b : Bool) → (if b || false then Faulty else Done) ≡ (if b then Faulty else Done)
    by_fault true = refl
    by_fault false = refl
ending-push (r ∷ rs) reply = by_fault (is_fault r) (ending-push rs reply)
  where
    by_fault : (b : Bool) → ending_of (rs ++ reply ∷ []) ≡ (if is_fault reply then Faulty else ending_of rs)
        → (if b || list_any is_fault (rs ++ reply ∷ []) then Faulty else Done)
        ≡ (if is_fault reply then Faulty else if b || list_any is_fault rs then Faulty else Done)
    by_fault true same = both (is_fault reply)
      where
        both : (b : Bool) → Faulty ≡ (if b then Faulty else Faulty)
        both true = refl
        both false = refl
    by_fault false same = same

-- a script was run, and so many of its calls were answered
pub record HasRun (script : Parts) (first last : SessionState) (old new : OutputState) (ending : Ending)
    (answered : ℕ) : Type 0 where
  pub ran : IsRun script first last old new ending
  pub counted : answered ≡ answered_behind 0 ran.replies

-- nothing was run yet
pub HasRun-start : (ids : List SeatIds) (k : SessionState) (o : OutputState)
    → HasRun (record { ids = ids; lines = [] }) k k o o Done 0
HasRun-start ids k o = record {
  ran = record { replies = []; takes = refl; prints = Prints-nil o; ends = refl };
  counted = refl;
}

-- one line more was run, and its reply printed
module _ (ids : List SeatIds) (lines : List Line) (first mid last : SessionState) (a b c : OutputState)
    (before after : Ending) (line : Line) (reply : Reply) (answered many : ℕ) where
  pub HasRun-push : HasRun (record { ids = ids; lines = lines }) first mid a b before answered
      → TakesCommand answered (caller_of line.seat ids) line.command reply mid last
      → many ≡ decided_by reply
      → Prints b c (reply_text line.number reply) → after ≡ (if is_fault reply then Faulty else before)
      → HasRun (record { ids = ids; lines = lines ++ line ∷ [] }) first last a c after (answered + many)
  HasRun-push run takes is prints ends =
      let ran = run.ran in
      let same = as_many ids 0 lines first mid ran.replies ran.takes in
      record {
        ran = record {
          replies = ran.replies ++ reply ∷ [];
          takes = TakesLines-push ids 0 lines first mid last ran.replies line reply ran.takes
              (subst (λ (n : ℕ). TakesCommand n (caller_of line.seat ids) line.command reply mid last) run.counted
              takes);
          prints = subst (Prints a c) (sym (printed-push lines ran.replies line reply same))
              (Prints-then a b c _ _ ran.prints prints);
          ends = ends ∙ ap (λ e. if is_fault reply then Faulty else e) ran.ends
              ∙ sym (ending-push ran.replies reply);
        };
        counted = ap (λ (n : ℕ). answered + n) is ∙ ap (λ (n : ℕ). n + decided_by reply) run.counted
            ∙ sym (answered-push 0 ran.replies reply);
      }
