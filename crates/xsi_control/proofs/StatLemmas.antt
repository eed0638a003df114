-- What Stat is answered on the Queue that was read.
use Rattle.xsi_control.proofs.Names.{Bool, Caller, EACCES, Info, IsEntryOf, Outcome, QueueEntry, Read, Some, Stat, State, ap, false, info_in, info_of, lacks_access, outcome, permissions_in, refl, refuse, stat_of, sym, true, ℕ, ◌∙◌, ◌≡◌}

module _ (c : Caller) (id : ℕ) (s : State) (e : QueueEntry) (is : IsEntryOf id e s) where
  -- what is read off the entry is so of the queue
  access_of : (b : Bool) → lacks_access Read c (permissions_in e) ≡ b → lacks_access Read c is.queue.permissions ≡ b
  access_of b lacks = ap (λ (x : QueueEntry). lacks_access Read c (permissions_in x)) (sym is.entry) ∙ lacks

  pub stat_refused : lacks_access Read c (permissions_in e) ≡ true → outcome c (Stat id) s ≡ refuse EACCES s
  stat_refused lacks = is.goes_on (stat_of c s) ∙ rw (access_of true lacks) refl

  pub stat_told : lacks_access Read c (permissions_in e) ≡ false → outcome c (Stat id) s ≡ Some (Info (info_in e), s)
  stat_told lacks =
      let told : stat_of c s is.queue ≡ Some (Info (info_of is.queue), s) = rw (access_of false lacks) refl in
      is.goes_on (stat_of c s) ∙ told ∙ ap (λ (x : QueueEntry). told_by x) (sym is.entry)
    where
      told_by : QueueEntry → Outcome
      told_by x = Some (Info (info_in x), s)
