-- The entry is whole.
use Rattle.std.proofs.Common.{ℕ, ◌++◌, ◌∙◌, sym, ap, drop, take}
use Rattle.frames.specs.Little.{eight}
use Rattle.call_entries.proofs.LogLemmas.{is_ended, taken_in}
use Rattle.call_entries.proofs.log.CallLog.end.Goals as goal

pub returns : goal.returns
returns c =
    let items = c.self.inside.bytes.items in
    let end = c.self.inside.end in
    let new = c.put_eight.new.into.items in
    rw (← c.self.view_is) (is_ended _ _ c.args.answer.now c.if-not-self.false
    (sym c.is_refusal.ensures ∙ c.if-is_refusal.false)
    (ap (λ (n : ℕ). take n new) (c.len-self-inside.ensures ∙ c.put_eight.new.into.ok.0)
    ∙ taken_in items new end (eight c.check_of.result) c.put_eight.ensures.value
    ∙ ap (λ (n : ℕ). take end items ++ (drop end items ++ eight n)) c.check_of.ensures)
    (λ whole. whole))
