-- A step of the writes in a sound world.
use Rattle.std.proofs.Common.{◌≡◌, refl, sym, ap, ◌∙◌, subst, ℕ, Bool, true, false, List}
use Rattle.bucket_page.specs.Keys.{is_same}
use Rattle.call_writes.proofs.DueLemmas.{own_deed}
use Rattle.call_writes.specs.CarrySteps.{Advances, AsMade, AsTheyWere, Carries, FindsNoRoom, IsPaid, Leaves, Stays}
use Rattle.call_writes.specs.Dues.{IsBehind, after_deed, deed_key}
use Rattle.call_writes.specs.declared.deed.Deed.{Deed}
use Rattle.call_writes.specs.declared.deed.Deed.TheVariants as deeds
use Rattle.call_writes.specs.declared.due.Due.TheVariants.{Undoing, Trying, Full, Writing}
use Rattle.file_pages.specs.declared.fault.FileFault.{FileFault}
use Rattle.xsi_inquiry.proofs.LeadLemmas.{same_keys}
use Rattle.xsi_inquiry.specs.declared.write.Write.TheVariants.{Replace, Relink, Delete}
use Rattle.call_writes.specs.PaymentStages as stages
use Rattle.call_writes.specs.PaymentWords.{RecordKey, PoolState, Table, Lock, Change, Progress, is_fault, Owns, Plan, Records, OwnsPlan, decided_at}
use Rattle.call_writes.specs.declared.due.Due.{Due}
use Rattle.call_writes.specs.declared.writes.CallWrites.{CallWrites}
use Rattle.call_writes.specs.Paying.{IsPayingWrites}
use Rattle.call_writes.specs.MakeSteps.{MakesWrites}
use Rattle.xsi_calls.specs.PaySteps.{Pays}

-- ---- what is due

-- after a deed of a call that has decided
behind_decided : (p : Plan) (due due' : Due) → decided_at due ≡ due → IsBehind p due due' → decided_at due' ≡ due'
behind_decided p (Trying place) due' decided behind = absurd cc
behind_decided p (Full standing) due' decided behind = absurd cc
behind_decided p (Undoing standing) due' decided behind = rw behind refl
behind_decided p (Writing from) due' decided (slot, is, rest) = rw is refl

decided_on : {F : Type 0} (p : Plan) (did : Progress F) (due due' : Due) → decided_at due ≡ due →
    Advances p did due due' → decided_at due' ≡ due'
decided_on p did due due' decided (Stays same) = rw same decided
decided_on p did due due' decided (FindsNoRoom standing was is) =
    absurd (let clash : Writing 0 ≡ Trying standing = sym (ap decided_at was) ∙ decided ∙ was in cc)
decided_on p did due due' decided (IsPaid wrote behind) = behind_decided p due due' decided behind

-- ---- the records

deed_elsewhere : (d : Deed) (records : Records) (key : RecordKey) → is_same key (deed_key d) ≡ false →
    after_deed d records key ≡ records key
deed_elsewhere (deeds.Trial r) records key apart = rw apart refl
deed_elsewhere (deeds.Write (Replace r)) records key apart = rw apart refl
deed_elsewhere (deeds.Write (Relink k links)) records key apart = rw apart refl
deed_elsewhere (deeds.Write (Delete k)) records key apart = rw apart refl

-- a record of which the name is not held exclusively stays
written_elsewhere : (names : List Lock) (p : Plan) (due due' : Due) (records after : Records) → OwnsPlan names p →
    Leaves p due due' records after → (key : RecordKey) → (Owns names key → ⊥) → after key ≡ records key
written_elsewhere names p due due' records after own (AsTheyWere same) key none =
    ap (λ (r : Records). r key) same
written_elsewhere names p due due' records after own (AsMade d next is behind) key none =
    ap (λ (r : Records). r key) is ∙ by (is_same key (deed_key d)) refl
  where
    by : (b : Bool) → is_same key (deed_key d) ≡ b → after_deed d records key ≡ records key
    by true same = absurd (none (subst (Owns names) (sym (same_keys key (deed_key d) same))
        (own_deed (Owns names) p own.trials own.writes due d next)))
    by false apart = deed_elsewhere d records key apart

pub writes_on : (hash : RecordKey → ℕ) (seat : ℕ) (names : List Lock) (p : Plan) (did : Progress FileFault)
    (w w' : CallWrites) (pool pool' : PoolState) (locks locks' : Table) →
    MakesWrites hash seat p did w w' pool pool' locks locks' → (records : Records) (change : Change) →
    IsPayingWrites hash seat names p w records pool locks change → is_fault did ≡ false →
    Pays hash seat names p did (stages.Writing w) (stages.Writing w') records pool pool' locks locks' change
writes_on hash seat names p did w w' pool pool' locks locks' makes records change y fine =
    let c : Carries hash seat names p did w w' records pool pool' locks locks' change =
    makes.step names records change y.carries fine in record {
      step = c.step;
      after = c.after;
      still = c.still;
      elsewhere = written_elsewhere names p w.due w'.due records c.after y.carries.own c.leaves;
      leaves = c.leaves;
      pays = record {
        carries = c.carries;
        decided = decided_on p did w.due w'.due y.decided makes.aim.due;
      };
      owed = c.owed;
    }
