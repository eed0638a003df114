use Rattle.std.proofs.Common.{rules, ◌∙◌, ◌++◌, ◌∷◌, [], ap, ℕ, ℤ, w64}
use Rattle.std.proofs.lemmas.Int.{to_z-of_z}
use Rattle.std.proofs.lemmas.Result.{on_ok_weaker}
use Rattle.std.specs.Fmt.{decimal, signed_decimal}
use mir.Val.{SFits}
use Rattle.queue_commands.proofs.ReceiveLemmas.{put-spaced}
use Rattle.queue_commands.proofs.receiving.put_head.Goals as goal

-- each piece was put behind the one before it
pub returns : goal.returns
returns c =
    let message = c.args.message.now in
    let fits : SFits w64 message.mtype = search rules in
    let sender = c.put_field-2.new.text in
    let second = rw c.from.ensures at c.in_ok-put_field-2.ensures in
    let third = c.in_ok-put_signed.ensures
    ∙ ap (λ (t : ℤ). sender ++ signed_decimal t) (to_z-of_z w64 message.mtype fits) in
    on_ok_weaker c.put_number_line.result
    (λ last. put-spaced c.args.text.now c.put_field.new.text sender c.put_signed.new.self c.put.new.self
    c.put_number_line.new.self _ _ _ _ c.in_ok-put_field.ensures second third c.in_ok-put.ensures
    (last ∙ ap (λ (n : ℕ). c.put.new.self ++ decimal n ++ 10 ∷ []) c.len.ensures))
    c.put_number_line.ensures
