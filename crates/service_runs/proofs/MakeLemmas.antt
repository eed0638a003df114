-- A desk that makes its lines.
use Rattle.std.proofs.Common.{◌≡◌, ◌<◌, ◌≤◌, ℕ, ◌+◌, true, false, inl, inr, List, [], ◌∷◌, ◌++◌, Some, length, take, get_or, refl, sym, ap, ◌∙◌, subst, length-append, arith}
use Rattle.std.specs.List.{list_any}
use Rattle.interleavings.specs.interleaving_core.declared.kernel.TheConstants.{MAX_DECIDED}
use Rattle.msgq_cli.specs.declared.command.Command.{Command}
use Rattle.msgq_cli.specs.declared.command.Command.TheVariants as commands
use Rattle.msgq_cli.specs.declared.line.Line.{Line}
use Rattle.msgq_cli.specs.declared.reply.Reply.{Reply}
use Rattle.msgq_cli.specs.declared.reply.Reply.TheVariants.{Failed}
use Rattle.queue_model.specs.declared.entry.Entry.{Entry}
use Rattle.workers.specs.Origins.{Origin}
use Rattle.workers.specs.Told.{IsSameSeat, SeesFull}
use Rattle.replays.specs.Journal.{entry_at}
use Rattle.service_runs.proofs.FitLemmas.{any_more, fits_more}
use Rattle.service_runs.proofs.LineLemmas.{entries_more, other_more, own_more, room_at}
use Rattle.service_runs.specs.Desks.{DeskView, IsFresh, IsMadeOf, KnowsWhy, MayLackRoom}
use Rattle.service_runs.specs.Lines.{AreFitting, Fits, entries_to, is_failure, is_line_of, is_session_full, lines_of}

-- of the lines of its script these were made
pub record IsMaking (o : Origin) (taken : List Line) (old d : DeskView) : Type 0 where
  pub seat : d.lines.seat ≡ old.lines.seat
  pub lines_are : d.lines.lines ≡ old.lines.lines
  pub at_seat : d.sitter.seat ≡ d.lines.seat
  pub all : length d.lines.replies ≡ length (lines_of old.lines.seat taken)
  pub fits : AreFitting (MayLackRoom o) (lines_of old.lines.seat taken) d.lines.replies
  pub told : d.sitter.list ≡ entries_to (lines_of old.lines.seat taken) d.lines.replies
  pub knows : KnowsWhy (length o.callers) d.lines.replies d.sitter

pub making_starts : (o : Origin) (d : DeskView) → IsFresh d → d.sitter.seat ≡ d.lines.seat → IsMaking o [] d d
making_starts o d fresh at = record {
  seat = refl;
  lines_are = refl;
  at_seat = at;
  all = ap length fresh.unmade;
  fits = tt;
  told = fresh.list ∙ sym (ap (entries_to []) fresh.unmade);
  knows = record {
    failed = λ is. let none = ap (list_any is_failure) fresh.unmade in absurd cc;
    full = λ is. let none = ap (list_any is_session_full) fresh.unmade in absurd cc;
  };
}

pub making_skips : (o : Origin) (taken : List Line) (old d : DeskView) (line : Line) → IsMaking o taken old d →
    is_line_of old.lines.seat line ≡ false → IsMaking o (taken ++ line ∷ []) old d
making_skips o taken old d line m other =
    let own = other_more old.lines.seat taken line other in record {
      seat = m.seat;
      lines_are = m.lines_are;
      at_seat = m.at_seat;
      all = m.all ∙ sym (ap length own);
      fits = subst (λ (l : List Line). AreFitting (MayLackRoom o) l d.lines.replies) (sym own) m.fits;
      told = m.told ∙ sym (ap (λ (l : List Line). entries_to l d.lines.replies) own);
      knows = m.knows;
    }

-- what a seat was shown it keeps
more_seen : (most seen later many : ℕ) → seen ≤ later → most ≤ seen + many → most ≤ later + many
more_seen most seen later many grows full = omega arith

pub making_goes : (o : Origin) (taken : List Line) (old d e : DeskView) (line : Line) (reply : Reply) →
    IsMaking o taken old d → is_line_of old.lines.seat line ≡ true →
    e.sitter.list ≡ d.sitter.list ++ entry_at line (Some reply) → IsSameSeat d.sitter e.sitter →
    Fits (MayLackRoom o) line.command reply → (is_failure reply ≡ true → e.sitter.failed ≡ true) →
    (is_session_full reply ≡ true → SeesFull (length o.callers) e.sitter) →
    e.lines ≡ record d.lines { replies = d.lines.replies ++ reply ∷ [] } → IsMaking o (taken ++ line ∷ []) old e
making_goes o taken old d e line reply m its told same fits failed full lines =
    let own = own_more old.lines.seat taken line its in
    let replies : e.lines.replies ≡ d.lines.replies ++ reply ∷ [] = ap (λ v. v.replies) lines in
    let number : e.lines.seat ≡ d.lines.seat = ap (λ v. v.seat) lines in
    let more : List Line = lines_of old.lines.seat taken in
    record {
      seat = number ∙ m.seat;
      lines_are = ap (λ v. v.lines) lines ∙ m.lines_are;
      at_seat = same.seat ∙ m.at_seat ∙ sym number;
      all = ap length replies ∙ length-append d.lines.replies (reply ∷ []) ∙ ap (λ (n : ℕ). n + 1) m.all
          ∙ sym (length-append more (line ∷ [])) ∙ sym (ap length own);
      fits = subst (λ (l : List Line). AreFitting (MayLackRoom o) l e.lines.replies) (sym own)
          (subst (AreFitting (MayLackRoom o) (more ++ line ∷ [])) (sym replies)
          (fits_more (MayLackRoom o) more d.lines.replies line reply m.all m.fits fits));
      told = told ∙ ap (λ (l : List Entry). l ++ entry_at line (Some reply)) m.told
          ∙ sym (entries_more more d.lines.replies line reply m.all)
          ∙ sym (ap (λ (l : List Line). entries_to l (d.lines.replies ++ reply ∷ [])) own)
          ∙ sym (ap (entries_to (lines_of old.lines.seat (taken ++ line ∷ []))) replies);
      knows = record {
        failed = λ is. elim (any_more is_failure d.lines.replies reply (sym (ap (list_any is_failure) replies) ∙ is)) [
          | inl before ↦ same.failed (m.knows.failed before)
          | inr now ↦ failed now
        ];
        full = λ is.
            elim (any_more is_session_full d.lines.replies reply (sym (ap (list_any is_session_full) replies) ∙ is)) [
              | inl before ↦ more_seen MAX_DECIDED d.sitter.seen e.sitter.seen (length o.callers) same.seen
                  (m.knows.full before)
              | inr now ↦ full now
            ];
      };
    }

-- there is room for the reply to a line that is its own
pub making_room : (o : Origin) (lines : List Line) (i : ℕ) (old d : DeskView) (line : Line) → lines ≡ old.lines.lines →
    IsMaking o (take i lines) old d → i < length lines → get_or lines i line ≡ line → line.seat ≡ d.lines.seat →
    length d.lines.replies < length (lines_of d.lines.seat d.lines.lines)
making_room o lines i old d line whole m below is at =
    let fewer = room_at old.lines.seat lines i line below is (at ∙ m.seat) in
    let all = m.all in
    let same = ap (λ (n : ℕ). length (lines_of n d.lines.lines)) m.seat
    ∙ ap (λ (l : List Line). length (lines_of old.lines.seat l)) (m.lines_are ∙ sym whole) in
    omega (arith, fewer, all, same)

pub making_ends : (o : Origin) (old d : DeskView) → IsMaking o old.lines.lines old d → IsMadeOf o old d
making_ends o old d m =
    let same = ap (λ (n : ℕ). lines_of n d.lines.lines) m.seat
    ∙ ap (λ (l : List Line). lines_of old.lines.seat l) m.lines_are in record {
      seat = m.seat;
      lines_are = m.lines_are;
      at_seat = m.at_seat;
      made = record {
        all = m.all ∙ sym (ap length same);
        fits = subst (λ (l : List Line). AreFitting (MayLackRoom o) l d.lines.replies) (sym same) m.fits;
        told = m.told ∙ sym (ap (λ (l : List Line). entries_to l d.lines.replies) same);
      };
      knows = m.knows;
    }

-- ---- a fault

-- a line that is replied a fault has no entry
pub no_entry : (line : Line) (fault : ℕ) → entry_at line (Some (Failed fault)) ≡ []
no_entry line fault = by line.command
  where
    by : (c : Command) → entry_at (record line { command = c }) (Some (Failed fault)) ≡ []
    by commands.Stop = refl
    by (commands.Call call) = refl
