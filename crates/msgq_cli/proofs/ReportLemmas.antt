-- The state of each queue, one after the other.
use Rattle.std.proofs.Common.{◌≡◌, ◌∙◌, ◌<◌, ℕ, zero, suc, List, [], ◌∷◌, ◌++◌, ◌+◌, arith, length, take, Some, None, sym, ap, subst, append_assoc, append-nil}
use Rattle.std.specs.Prelude.{slice_get}
use Rattle.std.specs.Option.{option_map}
use Rattle.queue_model.specs.Rules.{info_of}
use Rattle.queue_model.specs.declared.answer.QueueInfo.{QueueInfo}
use Rattle.queue_model.specs.declared.queue.Queue.{Queue}
use Rattle.msgq_cli.specs.Answers.{info_text}
use Rattle.msgq_cli.specs.Outputs.{OutputState, Prints}
use Rattle.msgq_cli.specs.Reports.{infos_text}
use Rattle.msgq_cli.proofs.OutputLemmas.{Prints-then}

-- one queue more
infos_more : (queues : List Queue) (place : ℕ) (info : QueueInfo)
    → option_map info_of (slice_get queues place) ≡ Some info
    → infos_text (take (suc place) queues) ≡ infos_text (take place queues) ++ info_text info
infos_more [] place info is = absurd cc
infos_more (queue ∷ queues) zero info is =
    let same : info_of queue ≡ info = cc in
    append-nil (info_text (info_of queue)) ∙ ap info_text same
infos_more (queue ∷ queues) (suc place) info is =
    ap (λ text. info_text (info_of queue) ++ text) (infos_more queues place info is)
    ∙ sym (append_assoc (info_text (info_of queue)) (infos_text (take place queues)) (info_text info))

-- its line behind those before it
pub Prints-infos : (a b c : OutputState) (queues : List Queue) (place : ℕ) (info : QueueInfo)
    → option_map info_of (slice_get queues place) ≡ Some info → Prints a b (infos_text (take place queues))
    → Prints b c (info_text info) → Prints a c (infos_text (take (place + 1) queues))
Prints-infos a b c queues place info is before line =
    let next : place + 1 ≡ suc place = omega arith in
    subst (λ n. Prints a c (infos_text (take n queues))) (sym next)
    (subst (Prints a c) (sym (infos_more queues place info is)) (Prints-then a b c _ _ before line))

-- there is a queue at each place
pub no_queue : (queues : List Queue) (place : ℕ) → place < length queues
    → option_map info_of (slice_get queues place) ≡ None → ⊥
no_queue [] place below is = absurd (omega (arith, below))
no_queue (queue ∷ queues) zero below is = absurd cc
no_queue (queue ∷ queues) (suc place) below is = no_queue queues place (omega (arith, below)) is
