-- The entries of a seat's calls, in a journal and told to the seat.
use Rattle.std.proofs.Common.{◌≡◌, ◌≢◌, refl, sym, ap, ◌∙◌, subst, ℕ, true, false, List, [], ◌∷◌, ◌++◌, Option, Some, None, eq-eqb, ne_eqb}
use Rattle.std.proofs.lemmas.Bool.{eqb-true}
use Rattle.queue_model.specs.declared.entry.Entry.TheVariants.{Decided, Stopped}
use Rattle.queue_model.specs.Journal.{is_of, part_of}
use Rattle.interleaving_core.specs.Active.{ActiveView, entries_by}
use Rattle.interleaving_core.specs.Kernel.{KernelState, call_at}
use Rattle.interleaving_core.specs.Owing.{IsRun, told}
use Rattle.interleaving_core.specs.Past.{entry_of, untold}
use Rattle.interleaving_core.specs.Words.{Answer, Call, Entry, answer_of_call}
use Rattle.interleaving_core.specs.declared.active.Draft.{Draft}

-- each entry is one of this seat's calls
abbrev pub AreOf : ℕ → List Entry → Type 0
AreOf seat [] = Unit {0}
AreOf seat (e ∷ es) = (is_of seat e ≡ true) × AreOf seat es

pub entry_is_of : (seat : ℕ) (call : Option Call) (answer : Option Answer) → AreOf seat (entry_of seat call answer)
entry_is_of seat None answer = tt
entry_is_of seat (Some call) None = tt
entry_is_of seat (Some call) (Some answer) = (eq-eqb seat seat refl, tt)

pub both_are_of : (seat : ℕ) (xs ys : List Entry) → AreOf seat xs → AreOf seat ys → AreOf seat (xs ++ ys)
both_are_of seat [] ys first rest = rest
both_are_of seat (x ∷ xs) ys first rest = (first.0, both_are_of seat xs ys first.1 rest)

pub back_is_of : (seat : ℕ) (xs ys : List Entry) → AreOf seat (xs ++ ys) → AreOf seat ys
back_is_of seat [] ys all = all
back_is_of seat (x ∷ xs) ys all = back_is_of seat xs ys all.1

-- they are its part
pub part_own : (seat : ℕ) (es : List Entry) → AreOf seat es → part_of seat es ≡ es
part_own seat [] all = refl
part_own seat (e ∷ es) all = rw all.0 (ap (λ (more : List Entry). e ∷ more) (part_own seat es all.1))

not_of_both : (seat other : ℕ) (e : Entry) → other ≢ seat → is_of other e ≡ true → is_of seat e ≡ false
not_of_both seat other (Decided at call answer) not is =
    ne_eqb at seat (λ same. not (sym (eqb-true at other is) ∙ same))
not_of_both seat other Stopped not is = refl

-- no other seat has a part of them
pub part_other : (seat other : ℕ) (es : List Entry) → other ≢ seat → AreOf other es → part_of seat es ≡ []
part_other seat other [] not all = refl
part_other seat other (e ∷ es) not all = rw (not_of_both seat other e not all.0) (part_other seat other es not all.1)

-- nothing is told with no answer
pub entry_of_none : (seat : ℕ) (call : Option Call) → entry_of seat call None ≡ []
entry_of_none seat None = refl
entry_of_none seat (Some call) = refl

-- ---- those that steps add

pub entries_are_of : (seat : ℕ) (answer : Option Answer) (draft : Option Draft) →
    AreOf seat (entries_by seat answer draft)
entries_are_of seat None draft = tt
entries_are_of seat (Some answer) None = tt
entries_are_of seat (Some answer) (Some d) = (eq-eqb seat seat refl, tt)

-- the entries of steps are of their seat's call
pub added_is_of : {K : Type 0} (seat : ℕ) (answer : Option Answer) (old new : KernelState K)
    (r : IsRun seat answer old new) → AreOf seat r.added
added_is_of seat answer old new r =
    back_is_of seat (untold seat (call_at old.seats seat)) r.added
    (subst (AreOf seat) (sym r.owed)
    (both_are_of seat (told seat (call_at old.seats seat) answer) (untold seat (call_at new.seats seat))
    (told_is_of (call_at old.seats seat)) (untold_is_of (call_at new.seats seat))))
  where
    told_is_of : (at : Option ActiveView) → AreOf seat (told seat at answer)
    told_is_of None = tt
    told_is_of (Some a) = entry_is_of seat (Some a.machine.call) answer

    untold_is_of : (at : Option ActiveView) → AreOf seat (untold seat at)
    untold_is_of None = tt
    untold_is_of (Some a) = entry_is_of seat (Some a.machine.call) (answer_of_call a.machine)
