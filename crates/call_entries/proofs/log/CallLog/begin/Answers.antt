-- The call is written down behind the entries.
use Rattle.std.proofs.Common.{◌≡◌, ℕ, List, ◌++◌, ◌∙◌, refl, sym, ap, append_assoc, drop, take}
use Rattle.frames.specs.Little.{eight}
use Rattle.frames.specs.Spelling.{call_record}
use Rattle.call_entries.specs.Entries.{nobody}
use Rattle.call_entries.specs.Log.{LogState}
use Rattle.call_entries.proofs.LogLemmas.{is_begun}
use Rattle.call_entries.proofs.log.CallLog.begin.Goals as goal

pub returns : goal.returns
returns c =
    let items = c.self.inside.bytes.items in
    let end = c.self.inside.end in
    let asked = call_record nobody c.args.caller c.args.call.now in
    let more = eight c.moment_of.result ++ asked in
    let all : c.put_call.new.into.items ≡ items ++ more =
    c.put_call.ensures.value ∙ ap (λ (xs : List ℕ). xs ++ asked) c.put_eight.ensures.value
    ∙ append_assoc items (eight c.moment_of.result) asked in
    is_begun c.args.self.now c.take_back.new.self _ c.args.caller c.args.call.now end items more
    c.take_back.ensures.none (ap (λ (l : LogState). l.bytes) c.self.view_is)
    (ap (λ (l : LogState). l.begun) c.self.view_is) c.self.inside.within (ap (take end) all) (ap (drop end) all) refl
    (ap (λ (l : LogState). l.is_whole) c.self.view_is) (sym c.may_change.ensures ∙ c.if-not-may_change.false)
    (ap (λ (n : ℕ). eight n ++ asked) c.moment_of.ensures)
