-- What a step of the operation is of the access, whose page is not read by it.
use Rattle.std.proofs.Common.{◌≡◌, refl, sym, ap, ◌∙◌, subst, ℕ, Bool, true, false, length, inl, inr, Option, None, IsSome}
use Rattle.std.proofs.lemmas.Bool.{true≢false}
use Rattle.record_file.specs.OperationSteps.{TellsOf as TellsOfOperation}
use Rattle.record_file.specs.Machines.{FindsAt}
use Rattle.record_file.proofs.AccessNames.{FileFault, MakesOperation, SuitsFile, holds_still}
use Rattle.record_file.specs.step_rules.declared.kind.Kind.{Kind}
use Rattle.record_file.proofs.AccessAimLemmas.{behind, same_answer, serves_on, sets_out, tells_on, writes_answered, wrote_not, wrote_of}
use Rattle.record_file.proofs.AllowLemmas.{allows_on, came_on, due_on, lacks_on, left, then_written}
use Rattle.record_file.proofs.StandLemmas.{finds_none, left_behind, written_at}
use Rattle.record_file.proofs.SuitLemmas.{IsReplacing, is_replace, suits_file}
use Rattle.record_file.specs.stale_search.Steps.{Stays}
use Rattle.record_file.specs.AccessWords.{RecordKey, pair, PoolState, Table, Change, contents, store_of, HasNoRoom, Progress, Moved, Blocked, Fault, Ended, Look, World, is_fault, Step, world, NearsOrSpares, RecordOperation, operation_facts, operation_found, operation_key, operation_tried, Links, Record, Relink}
use Rattle.record_file.specs.Purposes.{Purpose, ToWrite, StandsAt, is_write, left_by}
use Rattle.record_file.specs.Accesses.{AccessView, IsOfKind, access_key, access_left, access_turn, has_no_room, set_out_in}
use Rattle.record_file.specs.AccessSteps.{Faces, MakesAccess, Rests, SuitsFound, TellsOf}

module _ (hash : RecordKey → ℕ) (seat : ℕ) (did : Progress FileFault) (a : AccessView) (o' : RecordOperation)
    (pool pool' : PoolState) (locks locks' : Table)
    (op : MakesOperation hash seat a.bytes did a.operation o' pool pool' locks locks') where
  module _ (p : Purpose) (found : Option Record) (change : Change)
      (f : Faces hash seat p found a pool locks change) where
    suits : SuitsFile (store_of pool.images) a.operation a.bytes
    suits = suits_file p found a (store_of pool.images) f.serves f.stands f.allows

    pub nears : NearsOrSpares did (access_left a (store_of pool.images)) (access_left (record a { operation = o' })
        (store_of pool'.images)) pool pool'
    nears = op.progress change f.keyed suits f.sees

    module _ (fine : is_fault did ≡ false) where
      pub stepped : Step hash seat (access_turn a (store_of pool.images)) did (operation_facts o') pool pool' locks
          locks' change
      stepped = op.step change f.before f.bare f.owns f.row f.keyed suits f.sees fine

      pub told : TellsOfOperation hash seat did a.bytes a.operation o' (world pool.images locks change)
          (world pool'.images locks' change)
      told = op.answer change f.keyed f.sees fine

      stands_by : (b : Bool) → is_write did ≡ b → StandsAt (store_of pool'.images) (access_key a) (left b p found)
      stands_by false unwritten = record {
        holds = holds_still hash seat (access_turn a (store_of pool.images)) did (world pool.images locks change)
            (world pool'.images locks' stepped.after) f.sees.sound fine (wrote_not did unwritten) stepped.does
            (access_key a)
            ∙ f.stands.holds;
        spelled = f.stands.spelled;
      }
      stands_by true written =
          let wrote = wrote_of did written in
          let w : World = world pool.images locks change in
          let w' : World = world pool'.images locks' stepped.after in
          let both = left_behind p found a w.store (contents w'.store (access_key a)) f.serves f.stands f.allows
          (λ kind replacing. writes_answered (length a.bytes) did pool a.operation o' op.aim.kind f.sees.honest wrote
          (is_replace p a.operation replacing kind))
          (λ key is. finds_none hash seat did w w' f.sees.sound wrote p key a.operation a.bytes
          (subst (λ (q : Purpose). IsOfKind q a.operation) is f.serves.kind) stepped.does)
          (written_at hash seat did w w' f.sees.sound wrote a.operation a.bytes stepped.does) in
          record { holds = both.0; spelled = both.1 }

      pub stands : StandsAt (store_of pool'.images) (access_key a) (left_by did p found)
      stands = stands_by (is_write did) refl

      pub lacks : has_no_room a ≡ false →
          has_no_room (behind did pool a o' (then_written (is_write did) a.written) op.aim) ≡ true →
          HasNoRoom hash (pair (access_key a) a.bytes) (world pool'.images locks' change)
      lacks was is =
          lacks_on hash seat did (access_key a) a.bytes (world pool.images locks change)
          (world pool'.images locks' change) (is_write did) a.written (operation_tried a.operation)
          (operation_tried o') told.tried was is

      pub past : (kind : Kind) → did ≡ Moved kind → set_out_in o' ≡ true
      past = sets_out (length a.bytes) did pool a.operation o' op.aim.kind f.sees.honest

      -- where its operation tells what it told
      module _ (same : operation_found o' ≡ operation_found a.operation) where
        answered : is_write did ≡ true → (key : RecordKey) (links : Links) → p ≡ ToWrite (Relink key links) →
            IsSome (operation_found a.operation)
        answered written key links is =
            writes_answered (length a.bytes) did pool a.operation o' op.aim.kind f.sees.honest (wrote_of did written)
            (is_replace p a.operation (subst IsReplacing (sym is) tt) f.serves.kind)

        pub tells : TellsOf hash seat did p found a
            (behind did pool a o' (then_written (is_write did) a.written) op.aim)
            (world pool.images locks change) (world pool'.images locks' change)
        tells = record {
          stands = stands;
          allows = allows_on p found a o' (is_write did) same answered
              (λ r is stood came. came_on hash seat did (access_key a) a.bytes (world pool.images locks change)
              (world pool'.images locks' change) r found f.stands.holds (is_write did) a.written
              (operation_tried a.operation) (operation_tried o') (λ wrote. ap is_write wrote) stood came told.tried)
              (due_on did a.operation o' (is_write did) a.written same (λ wrote. ap is_write wrote) op.aim.leaves)
              f.allows;
          finds = inl (same_answer (length a.bytes) did pool a.operation o' op.aim.kind same);
          sets_out = past;
          lacks = lacks;
          turns_away = told.turns_away;
        }

  module _ (quiet : did ≡ Moved Look → operation_found a.operation ≡ None → operation_found o' ≡ None) where
    as_before : (w : World) → FindsAt hash seat did (operation_key a.operation) (operation_found a.operation)
        (operation_found o') w → operation_found o' ≡ operation_found a.operation
    as_before w (inl same) = same
    as_before w (inr looked) = quiet looked.looked looked.first ∙ sym looked.first

    rests : (d : Progress FileFault) → did ≡ d →
        Rests d a (behind did pool a o' (then_written (is_write d) a.written) op.aim)
    rests (Moved kind) is = tt
    rests (Blocked other) is =
        let same : o' ≡ a.operation = subst (λ (x : Progress FileFault). Stays x a.operation o') is op.aim.stays in
        λ i. record a { operation = same i }
    rests (Fault fault) is = tt
    rests Ended is =
        let same : o' ≡ a.operation = subst (λ (x : Progress FileFault). Stays x a.operation o') is op.aim.stays in
        λ i. record a { operation = same i }

    -- no page answers by it, and where it writes that is counted
    pub makes_on : MakesAccess hash seat did a (behind did pool a o' (then_written (is_write did) a.written) op.aim)
        pool pool' locks locks'
    makes_on = record {
      writes = op.writes.writes;
      cause = op.cause;
      aim = record {
        key = op.aim.key;
        pseudokey = op.aim.pseudokey;
        serves = serves_on did pool a o' (then_written (is_write did) a.written) op.aim;
        ended = op.aim.ended;
        rests = rests did refl;
        tells = tells_on did pool a o' (then_written (is_write did) a.written) op.aim;
        written = refl;
        suits = λ looked none. subst (λ (at : Option (ℕ × Option ℕ)). SuitsFound at
            (behind did pool a o' (then_written (is_write did) a.written) op.aim)) (sym (quiet looked none)) tt;
      };
      row = op.row;
      progress = nears;
      step = stepped;
      answer = λ p found change f fine. tells p found change f fine
          (as_before (world pool.images locks change) (told p found change f fine).found);
    }

  -- it has written
  pub makes_written : is_write did ≡ true → MakesAccess hash seat did a (behind did pool a o' true op.aim) pool pool'
      locks locks'
  makes_written written =
      subst (λ (b : Bool). MakesAccess hash seat did a (behind did pool a o' (then_written b a.written) op.aim) pool
      pool' locks locks') written
      (makes_on (λ looked none. absurd (true≢false (sym written ∙ ap is_write looked))))

  -- it has not written, nor did a page answer
  pub makes_other : is_write did ≡ false →
      (did ≡ Moved Look → operation_found a.operation ≡ None → operation_found o' ≡ None) →
      MakesAccess hash seat did a (behind did pool a o' a.written op.aim) pool pool' locks locks'
  makes_other unwritten quiet =
      subst (λ (b : Bool). MakesAccess hash seat did a (behind did pool a o' (then_written b a.written) op.aim) pool
      pool' locks locks') unwritten (makes_on quiet)
