-- A stop stands in the journal where a line was replied that it is made, and not where no line is one.
use Rattle.std.proofs.Common.{◌≡◌, ◌∙◌, Bool, true, false, List, [], ◌∷◌, ◌||◌, length, refl, ap, arith}
use Rattle.std.specs.List.{list_any}
use Rattle.msgq_cli.specs.declared.command.Command.{Command}
use Rattle.msgq_cli.specs.declared.command.Command.TheVariants as commands
use Rattle.msgq_cli.specs.declared.line.Line.{Line}
use Rattle.msgq_cli.specs.declared.reply.Reply.{Reply}
use Rattle.msgq_cli.specs.declared.reply.Reply.TheVariants.{Answered, Failed, Stopped}
use Rattle.queue_model.specs.declared.call.Call.{Call}
use Rattle.queue_model.specs.declared.entry.Entry.{Entry}
use Rattle.workers.specs.Closing.{IsMarked}
use Rattle.service_runs.specs.Lines.{AreFitting, Fits, Marks, is_no_call, is_stop, is_stopped}

-- a call is not replied so
no_stop : (MayLack : Call → Type 0) (command : Command) (reply : Reply) → Fits MayLack command reply →
    is_no_call command ≡ false → is_stopped reply ≡ false
no_stop MayLack commands.Stop reply fits none = absurd cc
no_stop MayLack (commands.Call call) (Answered answer) fits none = refl
no_stop MayLack (commands.Call call) (Failed fault) fits none = refl
no_stop MayLack (commands.Call call) Stopped fits none = absurd fits

no_stops : (MayLack : Call → Type 0) (lines : List Line) (replies : List Reply) → AreFitting MayLack lines replies →
    length replies ≡ length lines → list_any is_stop lines ≡ false → list_any is_stopped replies ≡ false
no_stops MayLack lines [] fits same none = refl
no_stops MayLack [] (r ∷ rs) fits same none = absurd (omega arith)
no_stops MayLack (l ∷ ls) (r ∷ rs) fits same none =
    let first = neither (is_stop l) (list_any is_stop ls) none in
    both (is_stopped r) (list_any is_stopped rs) (no_stop MayLack l.command r fits.0 first.0)
    (no_stops MayLack ls rs fits.1 (omega arith) first.1)
  where
    neither : (a b : Bool) → (a || b) ≡ false → (a ≡ false) × (b ≡ false)
    neither true b is = absurd cc
    neither false b is = (refl, is)

    both : (a b : Bool) → a ≡ false → b ≡ false → (a || b) ≡ false
    both true b is other = absurd cc
    both false b is other = other

pub marks : (MayLack : Call → Type 0) (lines : List Line) (replies : List Reply) (journal : List Entry) →
    AreFitting MayLack lines replies → length replies ≡ length lines → (has_stopped lent used : Bool) →
    used ≡ (has_stopped || lent) → (list_any is_stop lines ≡ false → lent ≡ false) →
    has_stopped ≡ list_any is_stopped replies → IsMarked used journal → Marks lines replies journal
marks MayLack lines replies journal fits same has_stopped lent used is unused stops mark = record {
  stopped = used;
  mark = mark;
  made = λ told. is ∙ ap (λ (b : Bool). b || lent) (stops ∙ told);
  none = λ none. is ∙ ap (λ (b : Bool). b || lent) (stops ∙ no_stops MayLack lines replies fits same none)
      ∙ unused none;
}
