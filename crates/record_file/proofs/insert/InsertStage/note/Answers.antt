-- What the first try came to makes its step one of the insert.
use Rattle.std.proofs.Common.{◌≡◌, refl, sym, ap, ◌∙◌, subst, Some, is_some}
use Rattle.std.proofs.lemmas.Bool.{true≢false}
use Rattle.step_rules.specs.declared.kind.Kind.{Kind}
use Rattle.step_rules.specs.declared.kind.Kind.TheVariants as kinds
use Rattle.record_file.specs.InsertWords.{Moved, IsPut, IsThere}
use Rattle.record_file.specs.InsertSteps.{Notes}
use Rattle.record_file.specs.declared.insert.InsertStage.TheVariants.{First, Second}
use Rattle.record_file.proofs.InsertLemmas.{first_stays, has_put, has_seen, none_said, passes_on, says_on, second_of}
use Rattle.record_file.proofs.insert.InsertStage.note.Goals as goal

pub returns-then-is_some : goal.returns-then-is_some
returns-then-is_some c =
    let some = sym c.is_some.ensures ∙ c.if-is_some.true in
    let noted : Notes c.args.key c.args.pseudokey c.args.value.now c.args.did (First c.in-First.first c.in-First.said)
    (First c.in-First.first c.in-First.said) =
    λ hash seat t pool pool' locks locks' inv made. (
      first_stays hash seat _ _ _ pool pool' locks locks' _ t _ _ inv made c.in-First.said
          (λ none. absurd (true≢false (sym some ∙ ap is_some none)))
          (λ none. absurd (true≢false (sym some ∙ ap is_some none))),
      says_on hash seat _ _ _ pool pool' locks locks' _ t _ _ inv made,
    ) in
    rw c.in-First.is noted

pub returns-in-Moved-WriteRecord : goal.returns-in-Moved-WriteRecord
returns-in-Moved-WriteRecord c =
    let none = none_said c.in-First.said (sym c.is_some.ensures ∙ c.if-is_some.false) in
    let wrote : c.in-Moved-WriteRecord.field-0 ≡ kinds.WriteRecord =
    rw c.in-Moved-WriteRecord.is at c.in-Moved-WriteRecord.field-0-is in
    let noted : Notes c.args.key c.args.pseudokey c.args.value.now c.args.did (First c.in-First.first c.in-First.said)
    (First c.in-First.first (Some IsPut)) =
    λ hash seat t pool pool' locks locks' inv made. (
      first_stays hash seat _ _ _ pool pool' locks locks' _ t _ _ inv made
          (Some IsPut) (λ none. absurd cc) (λ none. absurd cc),
      has_put hash seat _ _ _ pool pool' locks locks' _ t _ _ inv made none
          (subst (λ (kind : Kind). c.args.did ≡ Moved kind) wrote c.in-Moved-WriteRecord.is),
    ) in
    rw c.in-First.is noted

pub returns-then-is_there : goal.returns-then-is_there
returns-then-is_there c =
    let none = none_said c.in-First.said (sym c.is_some.ensures ∙ c.if-is_some.false) in
    let there = rw c.found.ensures at c.is_there.ensures in
    let noted : Notes c.args.key c.args.pseudokey c.args.value.now c.args.did (First c.in-First.first c.in-First.said)
    (First c.in-First.first (Some IsThere)) =
    λ hash seat t pool pool' locks locks' inv made. (
      first_stays hash seat _ _ _ pool pool' locks locks' _ t _ _ inv made
          (Some IsThere) (λ none. absurd cc) (λ none. absurd cc),
      has_seen hash seat _ _ _ pool pool' locks locks' _ t _ _ inv made none (sym there ∙ c.if-is_there.true),
    ) in
    rw c.in-First.is noted

pub returns-then-not-has_ended : goal.returns-then-not-has_ended
returns-then-not-has_ended c =
    let there = rw c.found.ensures at c.is_there.ensures in
    let noted : Notes c.args.key c.args.pseudokey c.args.value.now c.args.did (First c.in-First.first c.in-First.said)
    (First c.in-First.first c.in-First.said) =
    λ hash seat t pool pool' locks locks' inv made. (
      first_stays hash seat _ _ _ pool pool' locks locks' _ t _ _ inv made
          c.in-First.said (λ none. sym there ∙ c.if-is_there.false)
          (λ none. sym c.has_ended.ensures.ended ∙ c.if-not-has_ended.true),
      says_on hash seat _ _ _ pool pool' locks locks' _ t _ _ inv made,
    ) in
    rw c.in-First.is noted

pub returns : goal.returns
returns c =
    let none = none_said c.in-First.said (sym c.is_some.ensures ∙ c.if-is_some.false) in
    let noted : Notes c.args.key c.args.pseudokey c.args.value.now c.args.did (First c.in-First.first c.in-First.said)
    (Second (second_of c.args.key c.args.pseudokey c.args.value.now)) =
    λ hash seat t pool pool' locks locks' inv made. (
      record { key_is = refl; pseudokey_is = refl },
      passes_on hash seat _ _ _ pool pool' locks locks' _ t _ _ inv made none
          (sym c.has_ended.ensures.ended ∙ c.if-not-has_ended.false),
    ) in
    rw (c.in-First.is, c.new.ensures) noted
