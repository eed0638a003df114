-- The values of a metric, one queue after the other.
use Rattle.std.proofs.Common.{◌≡◌, ◌∙◌, ◌<◌, ℕ, zero, suc, List, [], ◌∷◌, ◌++◌, ◌+◌, arith, length, take, sym, ap, subst, append_assoc, append-nil}
use Rattle.std.specs.Prelude.{slice_index_or}
use Rattle.queue_model.specs.declared.queue.Queue.{Queue}
use Rattle.msgq_cli.specs.Metrics.{sample_text, samples_text}
use Rattle.msgq_cli.specs.Outputs.{OutputState, Prints}
use Rattle.msgq_cli.specs.declared.metrics.Metric.{Metric}
use Rattle.msgq_cli.proofs.OutputLemmas.{Prints-then}

-- one queue more
samples_more : (m : Metric) (queues : List Queue) (place : ℕ) (q : Queue) → place < length queues
    → q ≡ slice_index_or queues place q
    → samples_text m (take (suc place) queues) ≡ samples_text m (take place queues) ++ sample_text m q
samples_more m [] place q below is = absurd (omega (arith, below))
samples_more m (queue ∷ queues) zero q below is = append-nil (sample_text m queue) ∙ ap (sample_text m) (sym is)
samples_more m (queue ∷ queues) (suc place) q below is =
    ap (λ text. sample_text m queue ++ text) (samples_more m queues place q (omega (arith, below)) is)
    ∙ sym (append_assoc (sample_text m queue) (samples_text m (take place queues)) (sample_text m q))

-- its line behind those before it
pub Prints-samples : (a b c : OutputState) (m : Metric) (queues : List Queue) (place : ℕ) (q : Queue)
    → place < length queues → q ≡ slice_index_or queues place q
    → Prints a b (samples_text m (take place queues)) → Prints b c (sample_text m q)
    → Prints a c (samples_text m (take (place + 1) queues))
Prints-samples a b c m queues place q below is before line =
    let next : place + 1 ≡ suc place = omega arith in
    subst (λ n. Prints a c (samples_text m (take n queues))) (sym next)
    (subst (Prints a c) (sym (samples_more m queues place q below is)) (Prints-then a b c _ _ before line))
