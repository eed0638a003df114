use Rattle.std.proofs.Common.{rules, ◌≡◌, ◌∙◌, ◌<◌, ◌+◌, ◌∷◌, [], ◌++◌, ap, get_or, length, subst, take, w64, ℤ, Ok}
use Rattle.std.proofs.lemmas.Int.{to_z-of_z}
use Rattle.std.proofs.lemmas.List.{take_more}
use mir.Val.{SFits}
use Rattle.queue_commands.specs.Sending.{send_call}
use Rattle.queue_commands.proofs.SendLemmas.{Sends, SendsOn-push}
use Rattle.queue_commands.proofs.sending.send_all.Goals as goal

-- one more was sent
pub loop-body-preserved : goal.loop-body-preserved
loop-body-preserved g c = λ o.
    let stands = g.A.Answering.stands in
    let lacks = g.A.Answering.lacks in
    let sending = c.args.sending.now in
    let fits : SFits w64 sending.mtype = search rules in
    let bodies = c.deref-body-items.result.now in
    let i = c.loop-body.body-index in
    let body = c.body-item.result in
    let below : i < length bodies = search rules in
    let same : get_or bodies i body ≡ body = search rules in
    let more : take (i + 1) bodies ≡ take i bodies ++ body ∷ [] =
    take_more bodies i body below ∙ ap (λ b. take i bodies ++ b ∷ []) same in
    rw more (SendsOn-push (send_call c.args.moment sending.mtype c.args.id) sending.tells (take i bodies)
    c.loop-body.text (stands c.args.answers.now o) (stands c.loop-body.answers o) (stands c.send_one.new.answers o)
    (lacks c.send_one.new.answers o) body c.put_serial.new.text c.in_ok-serial.serial (c.loop-body.invariant o)
    (subst (λ (t : ℤ). Sends (send_call c.args.moment t c.args.id) body (stands c.loop-body.answers o)
    (stands c.send_one.new.answers o) (lacks c.send_one.new.answers o) (Ok c.in_ok-serial.serial))
    (to_z-of_z w64 sending.mtype fits) (c.in_ok-serial.ensures o)) c.in_ok-put_serial.ensures)
