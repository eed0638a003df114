-- What is owed at the end, and how many deeds there are.
use Rattle.std.proofs.Common.{◌≡◌, refl, ap, ℕ, zero, suc, ◌*◌, ◌<◌, ◌≤◌, List, [], ◌∷◌, length, drop, Option, Some, None, arith}
use Rattle.std.specs.Prelude.{slice_get, option_map}
use Rattle.xsi_inquiry.specs.Writing.{somes}
use Rattle.xsi_inquiry.specs.declared.write.TheConstants.{MAX_WRITES}
use Rattle.call_writes.specs.declared.deed.Deed.TheVariants as deeds
use Rattle.call_writes.specs.WriteWords.{RecordKey, Record, Write, writes_left, IsSmall, Plan, Records, overlaid, Writes, Due, Trying, Full, Undoing, Writing}
use Rattle.call_writes.specs.Dues.{CanGoOn, deeds_left, next_deed, owes, undone}
use Rattle.call_writes.specs.Views.{decided_at}

-- ---- the end

no_first : (ws : List Write) → option_map deeds.Write (slice_get ws zero) ≡ None → ws ≡ []
no_first [] none = refl
no_first (w ∷ ws) none = absurd cc

no_place : (rs : List Record) (place : ℕ) → option_map undone (slice_get rs place) ≡ None → place < length rs → ⊥
no_place [] place none within = omega (arith, within)
no_place (r ∷ rs) zero none within = absurd cc
no_place (r ∷ rs) (suc place) none within = no_place rs place none (omega (arith, within))

undone_at_end : (p : Plan) (standing : ℕ) (records : Records) (key : RecordKey) →
    next_deed p (Undoing standing) ≡ None → standing ≤ length p.trials →
    overlaid (owes p (Undoing standing)) records key ≡ records key
undone_at_end p zero records key none few = refl
undone_at_end p (suc place) records key none few = absurd (no_place p.trials place none (omega (arith, few)))

written_at_end : (p : Plan) (from : ℕ) (records : Records) (key : RecordKey) →
    next_deed p (Writing from) ≡ None → overlaid (owes p (Writing from)) records key ≡ records key
written_at_end p from records key none =
    ap (λ (ws : List Write). overlaid (Writes ws) records key) (no_first (writes_left p from) none)

pub owes_nothing : (p : Plan) (due : Due) (records : Records) (key : RecordKey) →
    next_deed p (decided_at due) ≡ None → CanGoOn p (decided_at due) records →
    overlaid (owes p (decided_at due)) records key ≡ records key
owes_nothing p (Trying place) records key none can = written_at_end p 0 records key none
owes_nothing p (Full standing) records key none can = undone_at_end p standing records key none can.may
owes_nothing p (Undoing standing) records key none can = undone_at_end p standing records key none can.may
owes_nothing p (Writing from) records key none can = written_at_end p from records key none

-- ---- how many deeds

somes_short : {X : Type 0} (os : List (Option X)) → length (somes os) ≤ length os
somes_short [] = omega arith
somes_short (None ∷ os) = let less = somes_short os in omega (arith, less)
somes_short (Some x ∷ os) = let less = somes_short os in omega (arith, less)

drop_short : {X : Type 0} (n : ℕ) (xs : List X) → length (drop n xs) ≤ length xs
drop_short zero xs = omega arith
drop_short (suc n) [] = omega arith
drop_short (suc n) (x ∷ xs) = let less = drop_short n xs in omega (arith, less)

pub few_deeds : (p : Plan) (due : Due) (records : Records) → IsSmall p → CanGoOn p due records →
    deeds_left p due ≤ MAX_WRITES
few_deeds p (Trying place) records small can =
    let less = drop_short place p.trials in let few = small.trials in omega (arith, less, few)
few_deeds p (Full standing) records small can = omega arith
few_deeds p (Undoing standing) records small can =
    let less = can.may in let few = small.trials in omega (arith, less, few)
few_deeds p (Writing from) records small can =
    let some = somes_short (drop from p.slots) in let less = drop_short from p.slots in
    let few = small.slots in omega (arith, some, less, few)

pub times_most : (a b m : ℕ) → a ≤ b → a * m ≤ b * m
times_most zero b m less = omega arith
times_most (suc a) zero m less = absurd (omega (arith, less))
times_most (suc a) (suc b) m less = let more = times_most a b m (omega (arith, less)) in omega (arith, more)
