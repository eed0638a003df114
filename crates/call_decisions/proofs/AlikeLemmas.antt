-- Records that are alike under the names of a call.
use Rattle.std.proofs.Common.{◌≡◌, Bool, true, false, List, [], ◌∷◌, Some, refl, sym, ◌∙◌}
use Rattle.std.specs.Prelude.{if◌then◌else◌}
use Rattle.std.specs.List.{All, Contains}
use Rattle.std.proofs.lemmas.List.Elements.{All-head, All-tail}
use Rattle.bucket_page.specs.Keys.{is_same}
use Rattle.call_decisions.proofs.OverlayLemmas.{one_local}
use Rattle.xsi_inquiry.specs.declared.write.Write.TheVariants.{Replace, Relink, Delete}
use Rattle.call_decisions.specs.Words.{AreAbsent, CanAllBe, CanBe, LockName, Record, RecordKey, Records, Write, guard_of, key_of, key_written, with_at, written_by}
use Rattle.call_decisions.specs.Settling.{AreAlike}

-- whether a write can be carried out depends on the record at its key alone
can_be_local : (w : Write) (a b : Records) → a (key_written w) ≡ b (key_written w) → CanBe w a → CanBe w b
can_be_local (Replace r) a b same can = rw same at can
can_be_local (Relink key links) a b same can = rw same at can
can_be_local (Delete key) a b same can = rw same at can

module _ (held : List LockName) where
  abbrev IsOwn : Write → Type 0
  IsOwn w = Contains held (guard_of (key_written w))

  abbrev IsOwnTrial : Record → Type 0
  IsOwnTrial r = Contains held (guard_of (key_of r))

  pub can_local : (ws : List Write) (a b : Records) → All IsOwn ws → AreAlike held b a → CanAllBe ws a →
      CanAllBe ws b
  can_local [] a b own alike can = tt
  can_local (w ∷ ws) a b own alike can = (
    can_be_local w a b (sym (alike (key_written w) (All-head IsOwn w ws own))) can.0,
    can_local ws (written_by w a) (written_by w b) (All-tail IsOwn w ws own)
        (λ key under. one_local w b a key (alike key under)) can.1,
  )

  put_alike : (k : RecordKey) (r : Record) (a b : Records) → AreAlike held b a →
      AreAlike held (with_at k (Some r) b) (with_at k (Some r) a)
  put_alike k r a b alike key under = by (is_same key k)
    where
      by : (c : Bool) → (if c then Some r else b key) ≡ (if c then Some r else a key)
      by true = refl
      by false = alike key under

  pub absent_local : (rs : List Record) (a b : Records) → All IsOwnTrial rs → AreAlike held b a → AreAbsent rs a →
      AreAbsent rs b
  absent_local [] a b own alike absent = tt
  absent_local (r ∷ rs) a b own alike absent = (
    alike (key_of r) (All-head IsOwnTrial r rs own) ∙ absent.0,
    absent_local rs (with_at (key_of r) (Some r) a) (with_at (key_of r) (Some r) b) (All-tail IsOwnTrial r rs own)
        (put_alike (key_of r) r a b alike) absent.1,
  )
