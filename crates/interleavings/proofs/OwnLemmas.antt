-- Records that are the same at each key that a call writes.
use Rattle.std.proofs.Common.{◌≡◌, Bool, true, false, ℕ, zero, suc, List, [], ◌∷◌, Option, Some, None, refl, sym, ◌∙◌, drop, take}
use Rattle.std.specs.Prelude.{if◌then◌else◌}
use Rattle.std.specs.List.{All}
use Rattle.std.proofs.lemmas.List.Elements.{All-drop, All-head, All-nil, All-push, All-tail, All-take}
use Rattle.xsi_calls.specs.UndecidedBelow.{CanGoOn, MayGoOn, due_writes, is_same, key_of, undoing}
use Rattle.xsi_calls.specs.call_writes.declared.due.Due.{Due}
use Rattle.xsi_calls.specs.call_writes.declared.due.Due.TheVariants.{Full, Trying, Undoing, Writing}
use Rattle.call_decisions.proofs.OverlayLemmas.{one_local}
use Rattle.xsi_inquiry.specs.Writing.{AreAbsent, CanAllBe, CanBe, inserted, key_written, somes, with_at, writes_of, written_by}
use Rattle.xsi_inquiry.specs.declared.write.Write.{Write}
use Rattle.xsi_inquiry.specs.declared.write.Write.TheVariants.{Replace, Relink, Delete}
use Rattle.interleavings.specs.SeatWords.{Plan, Record, RecordKey, Records}

-- whether a write can be carried out depends on the record at its key alone
can_be_local : (w : Write) (a b : Records) → a (key_written w) ≡ b (key_written w) → CanBe w a → CanBe w b
can_be_local (Replace r) a b same can = rw same at can
can_be_local (Relink key links) a b same can = rw same at can
can_be_local (Delete key) a b same can = rw same at can

put_local : (k : RecordKey) (r : Record) (a b : Records) (key : RecordKey) → a key ≡ b key →
    with_at k (Some r) a key ≡ with_at k (Some r) b key
put_local k r a b key same = by (is_same key k)
  where
    by : (c : Bool) → (if c then Some r else a key) ≡ (if c then Some r else b key)
    by true = refl
    by false = same

-- records that are inserted stand in both
pub inserted_local : (rs : List Record) (a b : Records) (key : RecordKey) → a key ≡ b key →
    inserted rs a key ≡ inserted rs b key
inserted_local [] a b key same = same
inserted_local (r ∷ rs) a b key same =
    inserted_local rs (with_at (key_of r) (Some r) a) (with_at (key_of r) (Some r) b) key
    (put_local (key_of r) r a b key same)

-- of keys of which this is so
module _ (P : RecordKey → Type 0) where
  abbrev IsOwn : Write → Type 0
  IsOwn w = P (key_written w)

  abbrev IsOwnTrial : Record → Type 0
  IsOwnTrial r = P (key_of r)

  -- ---- what is due

  undoing_own : (rs : List Record) → All IsOwnTrial rs → All IsOwn (undoing rs)
  undoing_own [] own = All-nil IsOwn
  undoing_own (r ∷ rs) own = All-push IsOwn (undoing rs) (Delete (key_of r))
      (undoing_own rs (All-tail IsOwnTrial r rs own)) (All-head IsOwnTrial r rs own)

  undone_own : (n : ℕ) (rs : List Record) → All IsOwnTrial rs → All IsOwn (undoing (take n rs))
  undone_own n rs own = undoing_own (take n rs) (All-take IsOwnTrial n rs own)

  left_own : (os : List (Option Write)) (from : ℕ) → All IsOwn (somes os) → All IsOwn (somes (drop from os))
  left_own os zero own = own
  left_own [] (suc from) own = own
  left_own (None ∷ os) (suc from) own = left_own os from own
  left_own (Some w ∷ os) (suc from) own = left_own os from (All-tail IsOwn w (somes os) own)

  due_own : (p : Plan) → All IsOwnTrial p.trials → All IsOwn (writes_of p) → (due : Due) → All IsOwn (due_writes p due)
  due_own p trials writes (Trying place) = undone_own place p.trials trials
  due_own p trials writes (Full standing) = undone_own standing p.trials trials
  due_own p trials writes (Undoing standing) = undone_own standing p.trials trials
  due_own p trials writes (Writing from) = left_own p.slots from writes

  -- ---- it can be carried out

  abbrev AreSameAt : Records → Records → Type 0
  AreSameAt a b = (key : RecordKey) → P key → a key ≡ b key

  can_over : (ws : List Write) (a b : Records) → All IsOwn ws → AreSameAt a b → CanAllBe ws a → CanAllBe ws b
  can_over [] a b own same can = tt
  can_over (w ∷ ws) a b own same can = (
    can_be_local w a b (same (key_written w) (All-head IsOwn w ws own)) can.0,
    can_over ws (written_by w a) (written_by w b) (All-tail IsOwn w ws own)
        (λ key under. one_local w a b key (same key under)) can.1,
  )

  absent_over : (rs : List Record) (a b : Records) → All IsOwnTrial rs → AreSameAt a b → AreAbsent rs a → AreAbsent rs b
  absent_over [] a b own same absent = tt
  absent_over (r ∷ rs) a b own same absent = (
    sym (same (key_of r) (All-head IsOwnTrial r rs own)) ∙ absent.0,
    absent_over rs (with_at (key_of r) (Some r) a) (with_at (key_of r) (Some r) b) (All-tail IsOwnTrial r rs own)
        (λ key under. put_local (key_of r) r a b key (same key under)) absent.1,
  )

  may_over : (p : Plan) (due : Due) (a b : Records) → All IsOwnTrial p.trials → AreSameAt a b → MayGoOn p due a →
      MayGoOn p due b
  may_over p (Trying place) a b own same may = record {
    absent = absent_over (drop place p.trials) a b (All-drop IsOwnTrial place p.trials own) same may.absent;
    in_range = may.in_range;
  }
  may_over p (Full standing) a b own same may = may
  may_over p (Undoing standing) a b own same may = may
  may_over p (Writing from) a b own same may = may

  -- what is due can be carried out over records that are the same there
  pub can_go_over : (p : Plan) (due : Due) (a b : Records) → All IsOwnTrial p.trials → All IsOwn (writes_of p) →
      AreSameAt a b → CanGoOn p due a → CanGoOn p due b
  can_go_over p due a b trials writes same can = record {
    owed = can_over (due_writes p due) a b (due_own p trials writes due) same can.owed;
    in_range = can.in_range;
    may = may_over p due a b trials same can.may;
  }
