-- The same system, which is not stopped.
use Rattle.std.proofs.Common.{◌≡◌, ◌∙◌, ◌≤◌, ℕ, false, List, Option, Some, None, IfSome, IfNone, ap, subst, take, length, arith}
use Rattle.std.proofs.lemmas.List.{take_all}
use Rattle.queue_model.specs.declared.queue.Queue.{Queue}
use Rattle.queue_model.specs.Lawful.{IsLawful}
use Rattle.queue_model.specs.State.{State}

abbrev runs : List Queue → ℕ → State
runs queues next = record { queues = queues; next_id = next; stopped = false }

pub all_taken : (xs ys : List Queue) (n end : ℕ) → xs ≡ take n ys → end ≤ n → end ≡ length ys → xs ≡ ys
all_taken xs ys n end is less number = is ∙ take_all n ys (omega (arith, less, number))

-- whether it is stopped is no matter of law
lawful_runs : (s : State) → IsLawful s → IsLawful (runs s.queues s.next_id)
lawful_runs s lawful = record {
  few_queues = lawful.few_queues;
  id_begun = lawful.id_begun;
  ids_end = lawful.ids_end;
  queues_lawful = lawful.queues_lawful;
  ids_given = lawful.ids_given;
  ids_ascend = lawful.ids_ascend;
  keys_apart = lawful.keys_apart;
}

pub running_of : (s : State) (queues : List Queue) (next : ℕ) (made : Option State) → IsLawful s →
    queues ≡ s.queues → next ≡ s.next_id → IfSome made (λ system. system ≡ runs queues next) →
    IfNone made (IsLawful (runs queues next) → ⊥) → made ≡ Some (record s { stopped = false })
running_of s queues next made lawful same ids some none =
    let runs_on : runs queues next ≡ runs s.queues s.next_id =
    ap (λ (qs : List Queue). runs qs next) same ∙ ap (λ (id : ℕ). runs s.queues id) ids in
    by_case made some (subst (λ (t : State). IfNone made (IsLawful t → ⊥)) runs_on none) runs_on
  where
    by_case : (made : Option State) → IfSome made (λ system. system ≡ runs queues next) →
        IfNone made (IsLawful (runs s.queues s.next_id) → ⊥) → runs queues next ≡ runs s.queues s.next_id →
        made ≡ Some (record s { stopped = false })
    by_case (Some system) is unlawful runs_on = ap Some (is ∙ runs_on)
    by_case None is unlawful runs_on = absurd (unlawful (lawful_runs s lawful))
