-- Slots of writes, and the ranks of what stands in them.
use Rattle.xsi_receive.proofs.Names.{Begins, Decides-eqb, Goes, HasRank, InSlot, Misses, None, Option, RecordKey, Some, TypeLeft, Write, ap, deletion_by, false, higher_by, is_same, key_written, own_by, refl, slot_all, sym, true, write_rank, ℕ, ℤ, ◌∙◌, ◌≡◌}

-- the slot writes at this key
abbrev pub WritesAt : RecordKey → Option Write → Type 0
WritesAt key None = ⊥
WritesAt key (Some w) = key_written w ≡ key

pub itself : (key : RecordKey) → is_same key key ≡ true
itself key =
    let one = (Decides-eqb key.kind key.kind).1 refl in
    let two = (Decides-eqb key.queue key.queue).1 refl in
    let three = (Decides-eqb key.number key.number).1 refl in
    rw (one, two, three) refl

pub missed : (key : RecordKey) (w : Write) → key_written w ≡ key → Misses key w → ⊥
missed key w same misses =
    let clash : true ≡ false = sym (itself key) ∙ ap (is_same key) (sym same) ∙ misses in
    absurd cc

pub not_at : (key : RecordKey) (o : Option Write) → InSlot (Misses key) o → WritesAt key o → ⊥
not_at key None misses at = at
not_at key (Some w) misses at = missed key w at misses

-- ---- ranks

pub own_rank : (id : ℕ) (mtype : ℤ) (left : TypeLeft) → HasRank 2 (own_by id mtype left)
own_rank id mtype (Begins first) = refl
own_rank id mtype (Goes lower higher) = slot_all (λ (w : Write). write_rank w ≡ 2) _ lower (λ t is. refl)

pub higher_rank : (id : ℕ) (left : TypeLeft) → HasRank 2 (higher_by id left)
higher_rank id (Begins first) = tt
higher_rank id (Goes lower higher) = slot_all (λ (w : Write). write_rank w ≡ 2) _ higher (λ t is. refl)

pub deletion_rank : (id : ℕ) (mtype : ℤ) (left : TypeLeft) → HasRank 4 (deletion_by id mtype left)
deletion_rank id mtype (Begins first) = tt
deletion_rank id mtype (Goes lower higher) = refl
