-- Legal journals: how they grow, and where they lead.
use Rattle.std.proofs.Common.{◌≡◌, List, [], ◌∷◌, ◌++◌, Option, refl, sym, ap, ◌∙◌}
use Rattle.queue_model.specs.declared.answer.Answer.{Answer}
use Rattle.queue_model.specs.declared.caller.Caller.{Caller}
use Rattle.queue_model.specs.declared.entry.Entry.{Entry}
use Rattle.queue_model.specs.declared.entry.Entry.TheVariants.{Decided, Stopped}
use Rattle.queue_model.specs.Journal.{Leads, LeadsAlong, after, after_entry, state_after}
use Rattle.queue_model.specs.State.{State}

pub LeadsAlong-push : (callers : List Caller) (es : List Entry) (e : Entry) (s t u : State) →
    LeadsAlong callers es s t → Leads callers e t u → LeadsAlong callers (es ++ e ∷ []) s u
LeadsAlong-push callers [] e s t u same leads = (u, rw (← same) leads, refl)
LeadsAlong-push callers (x ∷ es) e s t u (m, first, rest) leads =
    (m, first, LeadsAlong-push callers es e m t u rest leads)

-- an entry leads to the system after it
pub after-Leads : (callers : List Caller) (e : Entry) (s t : State) → Leads callers e s t → after_entry callers e s ≡ t
after-Leads callers (Decided seat call answer) s t leads = ap (state_after' s) leads
  where
    state_after' : State → Option (Answer × State) → State
    state_after' s o = state_after o s
after-Leads callers Stopped s t (running, now) = sym now

pub after-LeadsAlong : (callers : List Caller) (es : List Entry) (s t : State) → LeadsAlong callers es s t →
    after callers es s ≡ t
after-LeadsAlong callers [] s t same = sym same
after-LeadsAlong callers (e ∷ es) s t (m, first, rest) =
    ap (after callers es) (after-Leads callers e s m first) ∙ after-LeadsAlong callers es m t rest
