-- Calls that wait are tried one after another, up to the first that has an answer.
use Rattle.std.proofs.Common.{arith, ℕ, ◌≡◌, ◌+◌, ◌≤◌, ◌<◌, refl, sym, ap, ◌∙◌, subst, List, [], Option, Some, None, length, take, slice_get, slice_index_or}
use Rattle.std.specs.List.{All}
use Rattle.std.proofs.lemmas.List.{take_all}
use Rattle.std.proofs.lemmas.List.Elements.{All-more}
use Rattle.std.proofs.lemmas.Option.{slice_get-get_or}
use Rattle.queue_model.specs.declared.call.Call.TheVariants.{Stat}
use Rattle.interleavings.specs.LoneKernelWords.{State}
use Rattle.session.specs.Session.{saved_of}
use Rattle.call_entries.specs.Log.{LogState, Notes}
use Rattle.call_entries.proofs.LogLemmas.{notes_none}
use Rattle.desk.specs.Desk.{DeskState, HasToWait, IsBefore, Serves, Tells, Tries, TriesAndNotes}
use Rattle.desk.specs.declared.asking.Asking.{Asking}
use Rattle.desk.specs.declared.asking.Told.{Told}
use Rattle.desk.specs.declared.due.Due.TheVariants.{Nobody}

nobody : Asking
nobody = record { client = 0; caller = record { pid = 0; uid = 0; gid = 0 }; call = Stat 0 }

-- those before a place have to wait, and nothing has changed
pub record HasTried (place : ℕ) (s : State) (old now : DeskState) : Type 0 where
  pub serves : Serves s now
  pub waiting : now.waiting ≡ old.waiting
  pub none : All (HasToWait s) (take place old.waiting)

pub record TriesUpTo (place : ℕ) (old now : DeskState) : Type 0 where
  pub tried : (s : State) → Serves s old → HasTried place s old now
  pub many : length now.waiting ≡ length old.waiting
  pub later : old.session.pool.faults ≤ now.session.pool.faults
  pub saved : saved_of now.session ≡ saved_of old.session
  pub most : now.most ≡ old.most

pub none_tried : (d : DeskState) → TriesUpTo 0 d d
none_tried d = record {
  tried = λ s serves. record { serves = serves; waiting = refl; none = λ k x within. absurd (omega (arith, within)) };
  many = refl;
  later = omega arith;
  saved = refl;
  most = refl;
}

module _ (place : ℕ) (old now new : DeskState) (tries : TriesUpTo place old now) where
  before : (s : State) → HasTried place s old now → All (HasToWait s) (take place now.waiting)
  before s tried =
      subst (λ (ws : List Asking). All (HasToWait s) (take place ws)) (sym tried.waiting) tried.none

  pub one_more : (noted : List ℕ) → place < length old.waiting → Tries place None noted now new →
      TriesUpTo (place + 1) old new
  one_more noted within more = record {
    tried = λ s serves.
        let first = tries.tried s serves in
        let last = more.becomes s first.serves (before s first) in
        record {
          serves = last.serves;
          waiting = last.waiting ∙ first.waiting;
          none = All-more (HasToWait s) old.waiting place nobody within first.none
              (last.none (slice_index_or old.waiting place nobody)
              (ap (λ (ws : List Asking). slice_get ws place) first.waiting
              ∙ slice_get-get_or old.waiting place nobody within));
        };
    many = more.many refl ∙ tries.many;
    later = let first = tries.later in let last = more.later in omega (arith, first, last);
    saved = more.saved ∙ tries.saved;
    most = more.most ∙ tries.most;
  }

  pub is_told : (told : Told) (noted : List ℕ) → Tries place (Some told) noted now new →
      Tells (Some told) noted old new
  is_told told noted last = record {
    becomes = λ s serves.
        let first = tries.tried s serves in
        record {
          place = place;
          before = first.none;
          now = now;
          passed = record {
            serves = first.serves;
            waiting = first.waiting;
            saved = tries.saved;
            later = tries.later;
          };
          told_at = last.becomes s first.serves (before s first);
        };
    nothing = λ none. absurd cc;
    most = last.most ∙ tries.most;
    saved = last.saved ∙ tries.saved;
  }

-- and the last that was tried in vain is one of them, and nothing is written down
pub record HasGone (place : ℕ) (last : Option ℕ) (old now : DeskState) (log then : LogState) : Type 0 where
  pub tries : TriesUpTo place old now
  pub behind : IsBefore last place
  pub notes : Notes [] log then

pub none_gone : (d : DeskState) (log : LogState) → HasGone 0 None d d log log
none_gone d log = record { tries = none_tried d; behind = tt; notes = notes_none log }

-- a call was tried in vain
pub in_vain : (place : ℕ) (old new : DeskState) (log then : LogState) → TriesAndNotes place None old new log then →
    Notes [] log then
in_vain place old new log then is = subst (λ (xs : List ℕ). Notes xs log then) (is.tries.nothing refl) is.notes

pub still_before : (last : Option ℕ) (place : ℕ) → IsBefore last place → IsBefore last (place + 1)
still_before None place before = tt
still_before (Some other) place before = omega (arith, before)

-- all of them
pub all_wait : (place : ℕ) (old now new : DeskState) → TriesUpTo place old now → length old.waiting ≤ place →
    new ≡ record now { due = Nobody } → Tells None [] old new
all_wait place old now new tries whole is = record {
  becomes = λ s serves.
      let first = tries.tried s serves in
      let none : All (HasToWait s) old.waiting =
      subst (All (HasToWait s)) (take_all place old.waiting whole) first.none in
      record {
        none = none;
        serves = subst (Serves s) (sym is) (record {
          holds = first.serves.holds;
          quiet = λ k x within undue. subst (All (HasToWait s)) (sym first.waiting) none k x within;
        });
        waiting = ap (λ (d : DeskState). d.waiting) is ∙ first.waiting;
      };
  nothing = λ none. refl;
  most = ap (λ (d : DeskState). d.most) is ∙ tries.most;
  saved = ap (λ (d : DeskState). saved_of d.session) is ∙ tries.saved;
}
