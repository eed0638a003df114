-- One more message goes back, or none does.
use Rattle.serving.proofs.server.Server.give_back_all.Goals as goal
use Rattle.serving.proofs.server.Server.give_back_all.Goals.{then-eq+in_ok-give_back+then-branch, else-eq, else-eq-via-then-eq+in_ok-give_back+else-branch, else-eq-via-else-eq}

pub loop-preserved : goal.loop-preserved
loop-preserved g c = λ first comes.
    let before = c.loop.invariant first comes in
    elim c.if-eq.branch [
      | then-eq+in_ok-give_back+then-branch w ↦ rw w.self-is (w.in_ok-give_back.ensures first before)
      | else-eq w ↦ rw w.self-is (elim w.else-eq.branch [
        | else-eq-via-then-eq+in_ok-give_back+else-branch w' ↦ rw w'.self-is (w'.in_ok-give_back.ensures first before)
        | else-eq-via-else-eq w' ↦ rw w'.self-is before
      ])
    ]
