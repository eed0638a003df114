-- One thing more that a server does.
use Rattle.std.proofs.Common.{◌≡◌, ℕ, refl, sym, ap, ◌∙◌, subst, append_assoc, append-nil, Bool, false, List, [], ◌∷◌, ◌++◌}
use Rattle.safe_device.specs.Left.{Left}
use Rattle.durable_desk.specs.Durable.{DurableState}
use Rattle.durable_desk.specs.History.{Event, HappenAlong, Happens, NoneFails, is_failure}
use Rattle.serving.specs.Serving.{Comes, Deed, GoesOn, Says, ServerState, Works, events, said, said_by}
use Rattle.serving.specs.Told.{note_parts, record_to}
use Rattle.serving.specs.declared.note.Note.{Note}

-- ---- lists of deeds

events_then : (ds : List Deed) (d : Deed) → events (ds ++ d ∷ []) ≡ events ds ++ events (d ∷ [])
events_then [] d = refl
events_then (Works e ∷ ds) d = ap (λ (es : List Event). e ∷ es) (events_then ds d)
events_then (Says client note ∷ ds) d = events_then ds d

said_then : (ds : List Deed) (d : Deed) → said (ds ++ d ∷ []) ≡ said ds ++ said_by d
said_then [] d = append-nil (said_by d)
said_then (e ∷ ds) d =
    ap (λ (bytes : List ℕ). said_by e ++ bytes) (said_then ds d) ∙ sym (append_assoc (said_by e) (said ds) (said_by d))

none_then : (es : List Event) (e : Event) → NoneFails es → is_failure e ≡ false → NoneFails (es ++ e ∷ [])
none_then [] e none fine = (fine, tt)
none_then (x ∷ es) e (first, others) fine = (first, none_then es e others fine)

-- what was held grows once more
grows : (ds : List Deed) (d : Deed) (first old new : List ℕ) → old ≡ first ++ said ds → new ≡ old ++ said_by d →
    new ≡ first ++ said (ds ++ d ∷ [])
grows ds d first old new before now =
    now ∙ ap (λ (bytes : List ℕ). bytes ++ said_by d) before ∙ append_assoc first (said ds) (said_by d)
    ∙ ap (λ (bytes : List ℕ). first ++ bytes) (sym (said_then ds d))

module _ {P : Type 0} (honest : Bool) (moment : P → ℕ) (left_since : P → ℕ → Left → Type 0)
    (may_leave : P → Left → Type 0) where
  happen_then : (es : List Event) (e : Event) (first old new : DurableState P) →
      HappenAlong honest moment left_since may_leave es first old →
      Happens honest moment left_since may_leave e old new →
      HappenAlong honest moment left_since may_leave (es ++ e ∷ []) first new
  happen_then [] e first old new same happens =
      (new, subst (λ (d : DurableState P). Happens honest moment left_since may_leave e d new) same happens, refl)
  happen_then (x ∷ es) e first old new (then, happened, rest) happens =
      (then, happened, happen_then es e then old new rest happens)

  module _ (first old new : ServerState P) (comes : Comes honest moment left_since may_leave first old)
      (durability : new.durability ≡ old.durability) where
    -- something is done with the desk
    pub works : (e : Event) → Happens honest moment left_since may_leave e old.desk new.desk → is_failure e ≡ false →
        new.held ≡ old.held ++ said_by (Works e) → Comes honest moment left_since may_leave first new
    works e happens fine held = record {
      deeds = comes.deeds ++ Works e ∷ [];
      happen = subst
          (λ (es : List Event). HappenAlong honest moment left_since may_leave es first.desk new.desk)
          (sym (events_then comes.deeds (Works e)))
          (happen_then (events comes.deeds) e first.desk old.desk new.desk comes.happen happens);
      none_fails = subst NoneFails (sym (events_then comes.deeds (Works e)))
          (none_then (events comes.deeds) e comes.none_fails fine);
      held = grows comes.deeds (Works e) first.held old.held new.held comes.held held;
      durability = durability ∙ comes.durability;
    }

    -- a client is told something
    pub says : (client : ℕ) (note : Note) → new.desk ≡ old.desk →
        new.held ≡ old.held ++ record_to client (note_parts note) →
        Comes honest moment left_since may_leave first new
    says client note same held = record {
      deeds = comes.deeds ++ Says client note ∷ [];
      happen = subst
          (λ (es : List Event). HappenAlong honest moment left_since may_leave es first.desk new.desk)
          (sym (events_then comes.deeds (Says client note) ∙ append-nil (events comes.deeds)))
          (subst (λ (d : DurableState P). HappenAlong honest moment left_since may_leave (events comes.deeds)
          first.desk d)
          (sym same) comes.happen);
      none_fails = subst NoneFails
          (sym (events_then comes.deeds (Says client note) ∙ append-nil (events comes.deeds))) comes.none_fails;
      held = grows comes.deeds (Says client note) first.held old.held new.held comes.held held;
      durability = durability ∙ comes.durability;
    }

  -- so it goes on
  module _ (old new : ServerState P) (durability : new.durability ≡ old.durability) where
    pub goes_told : (desk : DurableState P) (e : Event) →
        Happens honest moment left_since may_leave e old.desk desk → is_failure e ≡ false → new.desk ≡ desk →
        new.held ≡ old.held ++ said_by (Works e) → GoesOn honest moment left_since may_leave old new
    goes_told desk e happens fine is held first comes =
        works first old new comes durability e
        (subst (λ (d : DurableState P). Happens honest moment left_since may_leave e old.desk d) (sym is) happens) fine
        held

    -- where nobody is told
    pub goes_untold : (e : Event) → Happens honest moment left_since may_leave e old.desk new.desk →
        is_failure e ≡ false → said_by (Works e) ≡ [] → new.held ≡ old.held →
        GoesOn honest moment left_since may_leave old new
    goes_untold e happens fine none held first comes =
        works first old new comes durability e happens fine
        (held ∙ sym (append-nil old.held) ∙ ap (λ (bytes : List ℕ). old.held ++ bytes) (sym none))

    pub goes_said : (client : ℕ) (note : Note) → new.desk ≡ old.desk →
        new.held ≡ old.held ++ record_to client (note_parts note) → GoesOn honest moment left_since may_leave old new
    goes_said client note same held first comes = says first old new comes durability client note same held
