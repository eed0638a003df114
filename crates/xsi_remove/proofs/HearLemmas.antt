-- A step of its access, of which the turn hears.
use Rattle.std.proofs.Common.{◌≡◌, sym, ap, ◌∙◌, subst, ℕ, None, IsOk, IsErr, Result}
use Rattle.file_pages.specs.declared.fault.FileFault.{FileFault}
use Rattle.record_file.specs.AccessSteps.{MakesAccess}
use Rattle.xsi_remove.specs.declared.work.Work.{Work}
use Rattle.xsi_remove.specs.Words.{RecordKey, PoolState, Table, Progress, Moved, Look, AccessView}
use Rattle.xsi_remove.specs.Works.{Hears, HearsBy, IsNoMessage, heard_with}

-- what the turn heard by it
pub record StepsHearing (hash : RecordKey → ℕ) (seat : ℕ) (did : Progress FileFault) (old new : Work)
    (pool pool' : PoolState) (locks locks' : Table) : Type 0 where
  pub makes : MakesAccess hash seat did old.access new.access pool pool' locks locks'
  pub same : new ≡ heard_with new.turn.read new.access old
  pub hears : HearsBy did new.access old.turn.read new.turn.read

-- or it heard of no Message
pub record Mishears (hash : RecordKey → ℕ) (seat : ℕ) (did : Progress FileFault) (old new : Work)
    (pool pool' : PoolState) (locks locks' : Table) : Type 0 where
  pub makes : MakesAccess hash seat did old.access new.access pool pool' locks locks'
  pub same : new ≡ heard_with old.turn.read new.access old
  pub looked : did ≡ Moved Look
  pub unread : old.turn.read ≡ None
  pub cause : IsNoMessage new.access

module _ (hash : RecordKey → ℕ) (seat : ℕ) (did : Progress FileFault) (w w' : Work) (a : AccessView)
    (pool pool' : PoolState) (locks locks' : Table)
    (makes : MakesAccess hash seat did w.access a pool pool' locks locks') {X E : Type 0} (result : Result X E)
    (h : Hears did result (record w { access = a }) w') where
  access_is : w'.access ≡ a
  access_is = ap (λ (x : Work). x.access) h.same

  makes_it : MakesAccess hash seat did w.access w'.access pool pool' locks locks'
  makes_it = subst (λ (x : AccessView). MakesAccess hash seat did w.access x pool pool' locks locks') (sym access_is)
      makes

  pub steps_heard : IsOk result → StepsHearing hash seat did w w' pool pool' locks locks'
  steps_heard ok = record {
    makes = makes_it;
    same = h.same ∙ ap (λ (x : AccessView). heard_with w'.turn.read x w) (sym access_is);
    hears = subst (λ (x : AccessView). HearsBy did x w.turn.read w'.turn.read) (sym access_is) (h.hears ok);
  }

  pub steps_deaf : IsErr result → Mishears hash seat did w w' pool pool' locks locks'
  steps_deaf err = record {
    makes = makes_it;
    same = (h.err err).1 ∙ ap (λ (x : AccessView). heard_with w.turn.read x w) (sym access_is);
    looked = (h.err err).0;
    unread = (h.err err).2;
    cause = subst IsNoMessage (sym access_is) (h.cause err);
  }
