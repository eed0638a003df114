-- What a payment owes stands under names that are held exclusively.
use Rattle.std.proofs.Common.{◌≡◌, refl, sym, ap, ◌∙◌, subst, ℕ, zero, suc, Bool, true, false, List, [], ◌∷◌, Option, Some, None, drop, take}
use Rattle.std.specs.Prelude.{◌||◌}
use Rattle.std.specs.List.{All}
use Rattle.std.proofs.lemmas.List.Elements.{All-head, All-nil, All-push, All-tail, All-take}
use Rattle.bucket_page.specs.Keys.{is_same}
use Rattle.call_decisions.specs.Owing.{is_swept, is_written, undoing}
use Rattle.queue_records.specs.declared.record.Record.{Record}
use Rattle.queue_records.specs.Spelling.{key_of}
use Rattle.xsi_inquiry.proofs.LeadLemmas.{same_keys}
use Rattle.xsi_inquiry.specs.Writing.{key_written, somes}
use Rattle.xsi_inquiry.specs.declared.write.Write.{Write}
use Rattle.xsi_inquiry.specs.declared.write.Write.TheVariants.{Delete}
use Rattle.call_writes.specs.Dues.{due_writes}
use Rattle.call_writes.specs.declared.due.Due.TheVariants.{Undoing}
use Rattle.page_locks.specs.declared.lock.LockName.TheVariants as names_are
use Rattle.call_writes.proofs.RecordLemmas.{swept_guard}
use Rattle.call_writes.specs.PaymentStages as stages
use Rattle.call_writes.specs.PaymentWords.{RecordKey, Lock, kind_of, Owns, Plan, writes_of, Due, Trying, Full, Writing, OwnsPlan}
use Rattle.call_writes.specs.PaymentLaws.{OwesWhatItHolds}

-- of records that are so at each key
module _ (P : RecordKey → Type 0) where
  abbrev IsOwn : Write → Type 0
  IsOwn w = P (key_written w)

  abbrev IsOwnTrial : Record → Type 0
  IsOwnTrial r = P (key_of r)

  pub own_written : (ws : List Write) (key : RecordKey) → All IsOwn ws → is_written ws key ≡ true → P key
  own_written [] key own is = absurd cc
  own_written (w ∷ ws) key own is =
      by (is_same key (key_written w)) refl is (own_written ws key (All-tail IsOwn w ws own))
    where
      by : (b : Bool) → is_same key (key_written w) ≡ b → (b || is_written ws key) ≡ true →
          (is_written ws key ≡ true → P key) → P key
      by true same more rest = subst P (sym (same_keys key (key_written w) same)) (All-head IsOwn w ws own)
      by false other more rest = rest more

  pub undoing_own : (rs : List Record) → All IsOwnTrial rs → All IsOwn (undoing rs)
  undoing_own [] own = All-nil IsOwn
  undoing_own (r ∷ rs) own = All-push IsOwn (undoing rs) (Delete (key_of r))
      (undoing_own rs (All-tail IsOwnTrial r rs own)) (All-head IsOwnTrial r rs own)

  pub undone_own : (n : ℕ) (rs : List Record) → All IsOwnTrial rs → All IsOwn (undoing (take n rs))
  undone_own n rs own = undoing_own (take n rs) (All-take IsOwnTrial n rs own)

  left_own : (os : List (Option Write)) (from : ℕ) → All IsOwn (somes os) → All IsOwn (somes (drop from os))
  left_own os zero own = own
  left_own [] (suc from) own = own
  left_own (None ∷ os) (suc from) own = left_own os from own
  left_own (Some w ∷ os) (suc from) own = left_own os from (All-tail IsOwn w (somes os) own)

-- swept or written
by_part : {T : Type 0} (a b : Bool) → (a || b) ≡ true → (a ≡ true → T) → (b ≡ true → T) → T
by_part true b is swept written = swept refl
by_part false b is swept written = written is

due_own : (names : List Lock) (p : Plan) → OwnsPlan names p → (due : Due) →
    All (λ (w : Write). Owns names (key_written w)) (due_writes p due)
due_own names p own (Trying place) = undone_own (Owns names) place p.trials own.trials
due_own names p own (Full standing) = undone_own (Owns names) standing p.trials own.trials
due_own names p own (Undoing standing) = undone_own (Owns names) standing p.trials own.trials
due_own names p own (Writing from) = left_own (Owns names) p.slots from own.writes

pub owes_what_it_holds : OwesWhatItHolds
owes_what_it_holds hash seat names p (stages.Sweeping None) records pool locks change y key there =
    absurd (y.goes_on tt)
owes_what_it_holds hash seat names p (stages.Sweeping (Some w)) records pool locks change y key there =
    by_part (is_swept w.turn.id key) (is_written (writes_of p) key) there
    (λ its. ap (kind_of names) (swept_guard w.turn.id key its)
    ∙ ap (λ (n : ℕ). kind_of names (names_are.Queue n)) y.faces.sweeps.works.its ∙ y.faces.owns)
    (λ is. own_written (Owns names) (writes_of p) key y.own.writes is)
owes_what_it_holds hash seat names p (stages.Writing w) records pool locks change y key there =
    own_written (Owns names) (due_writes p w.due) key (due_own names p y.carries.own w.due) there
