-- A step of the machine of a seat's call, and what comes of it, is one of the seat; and it stays idle, or waits.
use Rattle.std.proofs.Common.{◌≡◌, ◌≢◌, refl, sym, ap, ◌∙◌, subst, ℕ, Bool, true, false, true≢false, inl, inr, List, ◌++◌, Option, Some, None, append-nil, length}
use Rattle.std.specs.Borrow.{MutBor}
use Rattle.std.specs.Option.{option_copied_mut}
use Rattle.std.specs.Prelude.{IfSome}
use Rattle.file_pages.specs.declared.fault.FileFault.{FileFault}
use Rattle.step_rules.specs.declared.progress.Progress.TheVariants as progress
use Rattle.xsi_calls.specs.CallSteps.{MakesCall}
use Rattle.interleaving_core.specs.Words.{Answer, CallView, Entry, PoolState, Progress, RecordKey, Table, answer_of_call, call_locks, conclusion_of, row_of}
use Rattle.interleaving_core.specs.Active.{ActiveView, BeginsAgain, IsDrafted, IsMarked, decided_by, draft_by, entries_by, is_waiting, told_at_end}
use Rattle.interleaving_core.specs.Turn.{GoesAnew, IsLeft, IsLeftWhenOver, MakesTurn, Settles, Tells, TellsAnew, Turns, TurnsAnew, told_of, told_on, told_when_over}
use Rattle.interleaving_core.specs.Waiting.{stays_waiting}
use Rattle.interleaving_core.specs.declared.active.Draft.{Draft}
use Rattle.interleaving_core.specs.declared.step.Step.{Step}
use Rattle.interleaving_core.specs.declared.step.Step.TheVariants as steps
use Rattle.interleaving_core.proofs.AnewLemmas.{same_rows}
use Rattle.interleaving_core.proofs.TurnLemmas.{waits_unanswered}

-- ---- it lends its call

-- it has none where none was lent, and else that which was
pub none_lent : (slot : Option ActiveView) (r : Option (MutBor ActiveView)) → option_copied_mut r ≡ slot → r ≡ None →
    slot ≡ None
none_lent slot r value none = sym value ∙ ap option_copied_mut none

pub lent_there : (slot : Option ActiveView) (r : Option (MutBor ActiveView)) (lent : MutBor ActiveView)
    (a : ActiveView) → option_copied_mut r ≡ slot → r ≡ Some lent → a ≡ lent.now → slot ≡ Some a
lent_there slot r lent a value is same =
    sym value ∙ ap option_copied_mut is ∙ ap (λ (x : ActiveView). Some x) (sym same)

pub lent_some : (slot : Option ActiveView) (r : Option (MutBor ActiveView)) (lent : MutBor ActiveView) →
    option_copied_mut r ≡ slot → r ≡ Some lent → slot ≡ None → ⊥
lent_some slot r lent value is none =
    let clash : ◌≡◌ {A = Option ActiveView} (Some lent.now) None = sym (ap option_copied_mut is) ∙ value ∙ none in cc

-- ---- what it is told of a step that has not ended its call

pub ended_there : (did : Progress FileFault) → told_on did ≡ None → did ≡ progress.Ended
ended_there (progress.Moved kind) is = absurd cc
ended_there (progress.Blocked other) is = absurd cc
ended_there (progress.Fault fault) is = absurd cc
ended_there progress.Ended is = refl

told_by : (did : Progress FileFault) (told : Step) (m : CallView) → told_on did ≡ Some told → told ≡ told_of did m
told_by (progress.Moved kind) told m is = cc
told_by (progress.Blocked other) told m is = cc
told_by (progress.Fault fault) told m is = cc
told_by progress.Ended told m is = absurd cc

left_by : (did : Progress FileFault) (told : Step) (come : ActiveView) → told_on did ≡ Some told →
    IsLeft did come (Some come)
left_by (progress.Moved kind) told come is = refl
left_by (progress.Blocked other) told come is = refl
left_by (progress.Fault fault) told come is = refl
left_by progress.Ended told come is = absurd cc

awake_then : (did : Progress FileFault) (told : Step) → told_on did ≡ Some told → told ≢ steps.Waiting
awake_then (progress.Moved kind) told is waits = cc
awake_then (progress.Blocked other) told is waits = cc
awake_then (progress.Fault fault) told is waits = cc
awake_then progress.Ended told is waits = absurd cc

-- ---- nothing keeps its call waiting

pub awake_by : (a went : ActiveView) (entries journal : List Entry) (stays : Bool) → went ≡ a → entries ≡ journal →
    stays ≡ stays_waiting a.wait a.machine.call entries → stays ≡ false →
    stays_waiting went.wait went.machine.call journal ≡ false
awake_by a went entries journal stays same all is goes =
    ap (λ (x : ActiveView). stays_waiting x.wait x.machine.call journal) same
    ∙ ap (λ (es : List Entry). stays_waiting a.wait a.machine.call es) (sym all) ∙ sym is ∙ goes

-- where its machine makes a step, it is marked
pub is_marked : (a : ActiveView) (m : CallView) (draft : Option Draft) (decided n many : ℕ) →
    decided ≡ decided_by (conclusion_of a.machine) n a.decided → n ≡ many →
    IsMarked many a (record { machine = m; draft = draft; begun = a.begun; decided = decided; wait = None })
is_marked a m draft decided n many is as_many = record {
  begun = refl;
  decided = is ∙ ap (λ (k : ℕ). decided_by (conclusion_of a.machine) k a.decided) as_many;
  awake = refl;
}

-- ---- what comes of a step by which its call has come so far

module _ (hash : RecordKey → ℕ) (seat : ℕ) (stopped : Bool) (did : Progress FileFault) (told : Step)
    (pool : PoolState) (locks : Table) (journal : List Entry) where
  -- it goes on
  pub tells_on : (slot : Option ActiveView) → told_on did ≡ Some told →
      IfSome slot (λ (come : ActiveView). Settles hash seat stopped did told come slot pool pool locks locks journal
      journal)
  tells_on None is = tt
  tells_on (Some come) is = inl (record {
    told_is = told_by did told come.machine is;
    left_is = left_by did told come is;
    awake = awake_then did told is;
    same_pool = refl;
    same_locks = refl;
    same_journal = refl;
  })

  end_apart : (x : Option Answer) → told_at_end x ≡ steps.Waiting → ⊥
  end_apart None is = cc
  end_apart (Some answer) is = cc

  -- it is over, and does not wait
  pub tells_end : (slot : Option ActiveView) (come : ActiveView) → slot ≡ Some come → told_on did ≡ None →
      is_waiting (conclusion_of come.machine) ≡ false → told ≡ told_at_end (answer_of_call come.machine) →
      IfSome slot (λ (x : ActiveView). Settles hash seat stopped did told x None pool pool locks locks journal journal)
  tells_end slot come there none goes end =
      let ended : did ≡ progress.Ended = ended_there did none in
      subst (λ (o : Option ActiveView). IfSome o (λ (x : ActiveView). Settles hash seat stopped did told x None pool
      pool locks locks journal journal)) (sym there) (inl (record {
        told_is = end ∙ sym (ap (λ (b : Bool). told_when_over b (answer_of_call come.machine)) goes)
            ∙ sym (ap (λ (p : Progress FileFault). told_of p come.machine) ended);
        left_is = subst (λ (p : Progress FileFault). IsLeft p come None) (sym ended)
            (subst (λ (b : Bool). IsLeftWhenOver b come None) (sym goes) refl);
        awake = λ waits. end_apart (answer_of_call come.machine) (sym end ∙ waits);
        same_pool = refl;
        same_locks = refl;
        same_journal = refl;
      }))

  -- it is over, and begins anew
  pub tells_anew : (slot : Option ActiveView) (come left : ActiveView) (pool' : PoolState) (locks' : Table)
      (journal' : List Entry) → slot ≡ Some come → told_on did ≡ None →
      is_waiting (conclusion_of come.machine) ≡ true →
      GoesAnew hash seat stopped told come left pool pool' locks locks' journal journal' →
      IfSome slot (λ (x : ActiveView). Settles hash seat stopped did told x (Some left) pool pool' locks locks' journal
      journal')
  tells_anew slot come left pool' locks' journal' there none waits goes =
      subst (λ (o : Option ActiveView). IfSome o (λ (x : ActiveView). Settles hash seat stopped did told x (Some left)
      pool pool' locks locks' journal journal')) (sym there) (inr (record {
        ended = ended_there did none;
        waits = waits;
        stays = left;
        left_is = refl;
        anew = goes;
      }))

-- ---- its machine makes a step

-- the call a, by which it has come so far
module _ (hash : RecordKey → ℕ) (seat : ℕ) (stopped : Bool) (did : Progress FileFault) (a come : ActiveView)
    (pool pool' : PoolState) (locks locks' : Table) (journal journal' : List Entry)
    (makes : MakesCall hash seat stopped did a.machine come.machine pool pool' locks locks')
    (kept : IsDrafted a.machine a.draft)
    (draft : come.draft ≡ draft_by (answer_of_call come.machine) a.draft)
    (grows : journal' ≡ journal ++ entries_by seat (answer_of_call come.machine) a.draft)
    (marked : IsMarked (length journal) a come) where
  made : (told : Step) (left : Option ActiveView) → told ≡ told_of did come.machine → IsLeft did come left →
      MakesTurn hash seat stopped told a left pool pool' locks locks' journal journal'
  made told left told_is left_is = record {
    did = did;
    come = come;
    makes = makes;
    kept = kept;
    draft = draft;
    journal = grows;
    marked = marked;
    told_is = told_is;
    left_is = left_is;
  }

  pub goes_on_by : (told : Step) → told_on did ≡ Some told →
      MakesTurn hash seat stopped told a (Some come) pool pool' locks locks' journal journal' × (told ≢ steps.Waiting)
  goes_on_by told is =
      (made told (Some come) (told_by did told come.machine is) (left_by did told come is), awake_then did told is)

  -- what comes of it
  module _ (row : row_of locks seat ≡ call_locks a.machine) (told : Step) (left : Option ActiveView)
      (pool'' : PoolState) (locks'' : Table) (journal'' : List Entry) where
    tells : Tells did told come left pool' pool'' locks' locks'' journal' journal'' →
        MakesTurn hash seat stopped told a left pool pool'' locks locks'' journal journal'' × (told ≢ steps.Waiting)
    tells t = (
      subst (λ (p : PoolState). MakesTurn hash seat stopped told a left pool p locks locks'' journal journal'')
          (sym t.same_pool)
          (subst (λ (x : Table). MakesTurn hash seat stopped told a left pool pool' locks x journal journal'')
          (sym t.same_locks)
          (subst (λ (es : List Entry). MakesTurn hash seat stopped told a left pool pool' locks locks' journal es)
          (sym t.same_journal) (made told left t.told_is t.left_is))),
      t.awake,
    )

    module _ (t : TellsAnew hash seat stopped did told come left pool' pool'' locks' locks'' journal' journal'') where
      first : (again : ActiveView) → BeginsAgain come again →
          MakesTurn hash seat stopped steps.Waiting a (Some again) pool pool' locks locks' journal journal'
      first again begins = made steps.Waiting (Some again)
          (sym (ap (λ (p : Progress FileFault). told_of p come.machine) t.ended
          ∙ ap (λ (b : Bool). told_when_over b (answer_of_call come.machine)) t.waits))
          (subst (λ (p : Progress FileFault). IsLeft p come (Some again)) (sym t.ended)
          (subst (λ (b : Bool). IsLeftWhenOver b come (Some again)) (sym t.waits) (again, refl, begins)))

      -- it held no lock, and has no answer
      held : locks' ≡ locks
      held = same_rows hash seat stopped a t.anew.again pool pool' locks locks' journal journal'
          (first t.anew.again t.anew.begins) row

      nothing : journal' ≡ journal
      nothing = grows
          ∙ ap (λ (x : Option Answer). journal ++ entries_by seat x a.draft)
          (waits_unanswered (conclusion_of come.machine) come.machine.undecided.questions.room.bytes t.waits)
          ∙ append-nil journal

      goes_on : GoesAnew hash seat stopped told come t.stays pool' pool'' locks locks'' journal journal''
      goes_on = subst (λ (x : Table). GoesAnew hash seat stopped told come t.stays pool' pool'' x locks'' journal
          journal'') held (subst (λ (es : List Entry). GoesAnew hash seat stopped told come t.stays pool' pool'' locks'
          locks'' es journal'') nothing t.anew)

      turns_anew : TurnsAnew hash seat stopped told a left pool pool'' locks locks'' journal journal''
      turns_anew = subst (λ (o : Option ActiveView). TurnsAnew hash seat stopped told a o pool pool'' locks locks''
          journal journal'') (sym t.left_is) (record {
            again = goes_on.again;
            between = pool';
            ends = subst (λ (x : Table). MakesTurn hash seat stopped steps.Waiting a (Some goes_on.again) pool pool'
                locks x journal journal) held (subst (λ (es : List Entry). MakesTurn hash seat stopped steps.Waiting a
                (Some goes_on.again) pool pool' locks locks' journal es) nothing (first goes_on.again goes_on.begins));
            waits = goes_on.waits;
            goes = goes_on.goes;
          })

    -- a seat that has this call, which nothing keeps waiting
    pub settled : (slot : Option ActiveView) → slot ≡ Some a → stays_waiting a.wait a.machine.call journal ≡ false →
        Settles hash seat stopped did told come left pool' pool'' locks' locks'' journal' journal'' →
        Turns hash seat stopped told slot left pool pool'' locks locks'' journal journal''
    settled slot there awake settles =
        subst (λ (o : Option ActiveView). Turns hash seat stopped told o left pool pool'' locks locks'' journal
        journal'') (sym there) (record {
          waits = λ stays. absurd (true≢false (sym stays ∙ awake));
          goes = λ woken. elim settles [ inl t ↦ inl (tells t) | inr t ↦ inr (turns_anew t) ];
        })

-- ---- its machine makes none

module _ (hash : RecordKey → ℕ) (seat : ℕ) (stopped : Bool) (slot : Option ActiveView) (pool : PoolState)
    (locks : Table) (journal : List Entry) where
  -- it has no call
  pub stays_idle : slot ≡ None → Turns hash seat stopped steps.Idle slot slot pool pool locks locks journal journal
  stays_idle none =
      subst (λ (o : Option ActiveView). Turns hash seat stopped steps.Idle o slot pool pool locks locks journal journal)
      (sym none) (record {
        told_is = refl;
        left_is = none;
        same_pool = refl;
        same_locks = refl;
        same_journal = refl;
      })

  -- its call waits, and nothing has woken it
  pub waits_on : (a left : ActiveView) (entries : List Entry) (stays : Bool) → slot ≡ Some a → entries ≡ journal →
      stays ≡ stays_waiting a.wait a.machine.call entries → stays ≡ true →
      left ≡ record a { wait = Some (length entries) } →
      Turns hash seat stopped steps.Waiting slot (Some left) pool pool locks locks journal journal
  waits_on a left entries stays there all is waits left_is =
      subst (λ (o : Option ActiveView). Turns hash seat stopped steps.Waiting o (Some left) pool pool locks locks
      journal journal) (sym there) (record {
        waits = λ waiting. record {
          told_is = refl;
          left_is = ap (λ (x : ActiveView). Some x) (left_is
              ∙ ap (λ (es : List Entry). record a { wait = Some (length es) }) all);
          same_pool = refl;
          same_locks = refl;
          same_journal = refl;
        };
        goes = λ woken. absurd (true≢false (sym waits ∙ is
            ∙ ap (λ (es : List Entry). stays_waiting a.wait a.machine.call es) all ∙ woken));
      })
