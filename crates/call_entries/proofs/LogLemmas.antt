-- What is written down of a call that is begun and ends.
use Rattle.std.proofs.Common.{◌≡◌, refl, sym, ap, ◌∙◌, Bool, true, false, not, ◌&&◌, List, [], ◌∷◌, ◌++◌, ◌≤◌, Option, Some, None, arith, drop, length, subst, take}
use Rattle.std.specs.Prelude.{if◌then◌else◌, IsTrue, ℕ}
use Rattle.std.proofs.lemmas.List.{append-nil, append_assoc, length-drop, take-append-drop}
use Rattle.std.proofs.Math.Seq.{drop-append_seam, take-append_seam, take-length}
use Rattle.queue_model.specs.declared.answer.Answer.{Answer}
use Rattle.queue_model.specs.declared.call.Call.{Call}
use Rattle.queue_model.specs.declared.caller.Caller.{Caller}
use Rattle.frames.specs.Little.{eight}
use Rattle.call_entries.specs.declared.entry.CallEntry.{CallEntry}
use Rattle.call_entries.specs.Entries.{check_of, entry_bytes, entry_of, front, is_refusal, may_change, spelled}
use Rattle.call_entries.specs.Log.{Begins, Ends, LogState, Notes, ended, noted}

-- nothing, and then something more
pub then_notes : (noted : List ℕ) (old mid new : LogState) → Notes [] old mid → Notes noted mid new →
    Notes noted old new
then_notes noted old mid new first second = record {
  whole = λ whole. first.whole (second.whole whole);
  bytes = λ whole.
      second.bytes whole
      ∙ ap (λ (xs : List ℕ). xs ++ noted) (first.bytes (second.whole whole) ∙ append-nil old.bytes);
}

-- nothing was written down
pub notes_none : (log : LogState) → Notes [] log log
notes_none log = record { whole = λ whole. whole; bytes = λ whole. sym (append-nil log.bytes) }

pub as_it_was : (old new : LogState) → new ≡ old → Notes [] old new
as_it_was old new same = subst (Notes [] old) (sym same) (notes_none old)

unless_refused : (refused : Bool) (e : CallEntry) →
    (if refused then [] else entry_bytes e) ≡ spelled (if not refused then e ∷ [] else [])
unless_refused true e = refl
unless_refused false e = sym (append-nil (entry_bytes e))

pub noted_is : (caller : Caller) (call : Call) (answer : Option Answer) (old mid new : LogState) →
    Begins caller call old mid → Ends answer mid new → Notes (noted caller call answer) old new
noted_is caller call answer old mid new begins ends = then_notes (noted caller call answer) old mid new begins.notes
    (record {
      whole = ends.whole;
      bytes = λ whole.
          ends.bytes whole
          ∙ ap (λ (xs : List ℕ). mid.bytes ++ xs)
          (added answer mid.is_begun mid.begun (begins.begun (ends.whole whole)) (begins.front_is (ends.whole whole)));
    }) where
      added : (answer : Option Answer) (begun : Bool) (bytes : List ℕ) → begun ≡ may_change call →
          (IsTrue begun → bytes ≡ front caller call) → ended begun bytes answer ≡ noted caller call answer
      added None false bytes is same = refl
      added None true bytes is same = refl
      added (Some a) false bytes is same =
          ap (λ (may : Bool). spelled (if may && not (is_refusal a) then entry_of caller call a ∷ [] else [])) is
      added (Some a) true bytes is same =
          ap (λ (xs : List ℕ). if is_refusal a then [] else xs ++ eight (check_of a)) (same refl)
          ∙ unless_refused (is_refusal a) (entry_of caller call a)
          ∙ ap (λ (may : Bool). spelled (if may && not (is_refusal a) then entry_of caller call a ∷ [] else [])) is

-- ---- the log's bytes

-- what stands behind the entries goes with them
pub taken_in : (items new : List ℕ) (end : ℕ) (more : List ℕ) → new ≡ items ++ more →
    take (length new) new ≡ take end items ++ (drop end items ++ more)
taken_in items new end more is =
    take-length new ∙ is ∙ ap (λ (xs : List ℕ). xs ++ more) (sym (take-append-drop end items))
    ∙ append_assoc (take end items) (drop end items) more

pub is_ended : (old new : LogState) (answer : Answer) → old.is_begun ≡ true → is_refusal answer ≡ false →
    new.bytes ≡ old.bytes ++ (old.begun ++ eight (check_of answer)) → (IsTrue new.is_whole → IsTrue old.is_whole) →
    Ends (Some answer) old new
is_ended old new answer begun told is whole = record {
  whole = whole;
  bytes = λ w.
      is
      ∙ ap (λ (refused : Bool). old.bytes ++ (if refused then [] else old.begun ++ eight (check_of answer))) (sym told)
      ∙ ap (λ (b : Bool). old.bytes ++ ended b old.begun (Some answer)) (sym begun);
}

-- the entries end where the bytes do
at_end : (end : ℕ) (items : List ℕ) → end ≤ length items → drop end items ≡ [] → length items ≡ end
at_end end items within none = let long = length-drop end items in let nothing = ap length none in
    omega (arith, within, long, nothing)

-- a call is written down behind them
module _ (old mid new : LogState) (caller : Caller) (call : Call) (end : ℕ) (items more : List ℕ)
    (taken : mid ≡ record old { is_begun = false; begun = [] }) (bytes : take end items ≡ mid.bytes)
    (begun : drop end items ≡ mid.begun) (within : end ≤ length items) where
  size : length items ≡ end
  size = at_end end items within (begun ∙ ap (λ (l : LogState). l.begun) taken)

  all_taken : items ≡ old.bytes
  all_taken =
      sym (take-length items) ∙ ap (λ (n : ℕ). take n items) size ∙ bytes ∙ ap (λ (l : LogState). l.bytes) taken

  pub is_begun : new.bytes ≡ take end (items ++ more) → new.begun ≡ drop end (items ++ more) → new.is_begun ≡ true →
      new.is_whole ≡ mid.is_whole → may_change call ≡ true → more ≡ front caller call → Begins caller call old new
  is_begun kept written has_begun same may is = record {
    notes = record {
      whole = λ whole.
          subst IsTrue (same ∙ ap (λ (l : LogState). l.is_whole) taken) whole;
      bytes = λ whole.
          kept ∙ ap (λ (n : ℕ). take n (items ++ more)) (sym size) ∙ take-append_seam items more ∙ all_taken
          ∙ sym (append-nil old.bytes);
    };
    begun = λ whole. has_begun ∙ sym may;
    front_is = λ whole begins.
        written ∙ ap (λ (n : ℕ). drop n (items ++ more)) (sym size) ∙ drop-append_seam items more ∙ is;
  }
