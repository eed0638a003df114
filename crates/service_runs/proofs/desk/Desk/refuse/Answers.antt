use Rattle.std.proofs.Common.{rules, ◌≡◌, ◌≢◌, ◌<◌, ◌++◌, ◌∷◌, [], length, take, get_or, ◌+◌, ap, ◌∙◌, sym, refl, append-nil, List, arith}
use Rattle.std.proofs.lemmas.List.{take_more}
use Rattle.msgq_cli.specs.declared.line.Line.{Line}
use Rattle.msgq_cli.specs.declared.reply.Reply.TheVariants.{Failed}
use Rattle.queue_model.specs.declared.entry.Entry.{Entry}
use Rattle.service_runs.proofs.FitLemmas.{refusal_fits}
use Rattle.service_runs.proofs.LineLemmas.{is_its, not_its}
use Rattle.service_runs.proofs.MakeLemmas.{making_goes, making_room, making_skips, no_entry}
use Rattle.service_runs.specs.Desks.{DeskView, MayLackRoom}
use Rattle.service_runs.proofs.desk.Desk.refuse.Goals as goal
use Rattle.service_runs.proofs.desk.Desk.refuse.Goals.{then-line-seat, else-line-seat}

-- the line is its own, so there is room for the reply
pub push-requires : goal.push-requires
push-requires g c =
    let lines = c.script-line-items.result.now in
    let i = c.loop-line.line-index in
    let line = c.line-item.result in
    let below : i < length lines = search rules in
    let same : get_or lines i line ≡ line = search rules in
    let at : line.seat ≡ c.loop-line.self-inside.lines.seat = search rules in
    making_room g.N.Base.origin lines i c.args.self.now
    (record { sitter = c.loop-line.self-inside.seat; lines = c.loop-line.self-inside.lines }) line
    (c.script-line-items.ensures ∙ ap (λ (d : DeskView). d.lines.lines) c.self.view_is) c.loop-line.invariant below same
    at

-- one line more is made, or is another seat's
pub loop-line-preserved : goal.loop-line-preserved
loop-line-preserved g c =
    let lines = c.script-line-items.result.now in
    let i = c.loop-line.line-index in
    let line = c.line-item.result in
    let below : i < length lines = search rules in
    let same : get_or lines i line ≡ line = search rules in
    let more : take (i + 1) lines ≡ take i lines ++ line ∷ [] =
    take_more lines i line below ∙ ap (λ (l : List Line). take i lines ++ l) (ap (λ (x : Line). x ∷ []) same) in
    let o = g.N.Base.origin in
    let old = c.args.self.now in
    let before = c.loop-line.invariant in
    let now : DeskView = record { sitter = c.loop-line.self-inside.seat; lines = c.loop-line.self-inside.lines } in
    rw more
    (elim c.if-line-seat.branch [
      | then-line-seat w ↦
          let at : line.seat ≡ c.loop-line.self-inside.lines.seat = search rules in
          rw w.self-inside-is
          (making_goes o (take i lines) old now _ line (Failed 60) before
          (is_its old.lines.seat line (at ∙ before.seat))
          (sym (append-nil now.sitter.list) ∙ ap (λ (l : List Entry). now.sitter.list ++ l)
          (sym (no_entry line 60))) (record { seat = refl; failed = λ is. is; seen = omega arith })
          (refusal_fits (MayLackRoom o) line.command) (λ is. absurd cc) (λ is. absurd cc) w.push.ensures)
      | else-line-seat w ↦
          let apart : line.seat ≢ c.loop-line.self-inside.lines.seat = search rules in
          rw w.self-inside-is
          (making_skips o (take i lines) old now line before
          (not_its old.lines.seat line (λ at. apart (at ∙ sym before.seat))))
    ])
