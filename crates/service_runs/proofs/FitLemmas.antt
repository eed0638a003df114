-- Lines that were replied as they may be.
use Rattle.std.proofs.Common.{◌≡◌, ◌≤◌, ℕ, Bool, true, false, inl, inr, ◌⊎◌, List, [], ◌∷◌, ◌++◌, ◌||◌, if◌then◌else◌, length, refl, sym, subst, arith}
use Rattle.std.specs.Prelude.{◌==◌}
use Rattle.std.specs.List.{All, list_any}
use Rattle.std.proofs.lemmas.List.Elements.{All-head, All-tail}
use Rattle.msgq_cli.specs.declared.command.Command.{Command}
use Rattle.msgq_cli.specs.declared.command.Command.TheVariants as commands
use Rattle.msgq_cli.specs.declared.line.Line.{Line}
use Rattle.msgq_cli.specs.declared.reply.Reply.{Reply}
use Rattle.msgq_cli.specs.declared.reply.Reply.TheVariants.{Answered, Failed, Stopped}
use Rattle.queue_model.specs.declared.call.Call.{Call}
use Rattle.workers.specs.Fault.{number_of}
use Rattle.workers.specs.declared.fault.Fault.{Fault}
use Rattle.workers.specs.declared.fault.Fault.TheVariants as calls
use Rattle.service_runs.specs.Lines.{AreFitting, Fits, IsOfCall, is_line_of, lines_of, replies_to}
use Rattle.service_runs.proofs.LineLemmas.{is_its}

-- ---- one reply

pub call_fault : (MayLack : Call → Type 0) (call : Call) (fault : Fault) → (fault ≡ calls.NoRoom → MayLack call) →
    IsOfCall MayLack call (number_of fault)
call_fault MayLack call calls.NoRoom may = inl (refl, may refl)
call_fault MayLack call calls.NoMemory may = inr (inl refl)
call_fault MayLack call calls.SessionFull may = inr (inr (inl refl))
call_fault MayLack call calls.Failed may = inr (inr (inr refl))

-- 62 is that of a failure alone
pub failed_alone : (fault : Fault) → (number_of fault == 62) ≡ true → fault ≡ calls.Failed
failed_alone calls.NoRoom is = absurd cc
failed_alone calls.NoMemory is = absurd cc
failed_alone calls.SessionFull is = absurd cc
failed_alone calls.Failed is = refl

-- and 61 that of a full session
pub full_alone : (fault : Fault) → (number_of fault == 61) ≡ true → fault ≡ calls.SessionFull
full_alone calls.NoRoom is = absurd cc
full_alone calls.NoMemory is = absurd cc
full_alone calls.SessionFull is = refl
full_alone calls.Failed is = absurd cc

-- for want of memory each line may be refused
pub refusal_fits : (MayLack : Call → Type 0) (command : Command) → Fits MayLack command (Failed 60)
refusal_fits MayLack commands.Stop = refl
refusal_fits MayLack (commands.Call call) = inr (inl refl)

pub fits_more : (MayLack : Call → Type 0) (lines : List Line) (replies : List Reply) (line : Line) (reply : Reply) →
    length replies ≡ length lines → AreFitting MayLack lines replies → Fits MayLack line.command reply →
    AreFitting MayLack (lines ++ line ∷ []) (replies ++ reply ∷ [])
fits_more MayLack [] [] line reply same so_far fits = (fits, tt)
fits_more MayLack [] (r ∷ rs) line reply same so_far fits = absurd (omega arith)
fits_more MayLack (l ∷ ls) [] line reply same so_far fits = absurd (omega arith)
fits_more MayLack (l ∷ ls) (r ∷ rs) line reply same so_far fits =
    (so_far.0, fits_more MayLack ls rs line reply (omega arith) so_far.1 fits)

-- ---- more calls may lack room

module _ (MayLack Other : Call → Type 0) (more : (call : Call) → MayLack call → Other call) where
  fits_still : (command : Command) (reply : Reply) → Fits MayLack command reply → Fits Other command reply
  fits_still commands.Stop Stopped fits = tt
  fits_still commands.Stop (Answered answer) fits = absurd fits
  fits_still commands.Stop (Failed fault) fits = fits
  fits_still (commands.Call call) Stopped fits = absurd fits
  fits_still (commands.Call call) (Answered answer) fits = tt
  fits_still (commands.Call call) (Failed fault) (inl full) = inl (full.0, more call full.1)
  fits_still (commands.Call call) (Failed fault) (inr other) = inr other

  pub fitting_still : (lines : List Line) (replies : List Reply) → AreFitting MayLack lines replies →
      AreFitting Other lines replies
  fitting_still [] replies fits = tt
  fitting_still (l ∷ ls) [] fits = tt
  fitting_still (l ∷ ls) (r ∷ rs) fits = (fits_still l.command r fits.0, fitting_still ls rs fits.1)

-- ---- one of the replies

pub any_more : (P : Reply → Bool) (replies : List Reply) (reply : Reply) →
    list_any P (replies ++ reply ∷ []) ≡ true → (list_any P replies ≡ true) ⊎ (P reply ≡ true)
any_more P [] reply is = by (P reply) is
  where
    by : (b : Bool) → (b || false) ≡ true → (false ≡ true) ⊎ (b ≡ true)
    by true is = inr refl
    by false is = absurd cc
any_more P (r ∷ rs) reply is = by (P r) is (any_more P rs reply)
  where
    by : (b : Bool) → (b || list_any P (rs ++ reply ∷ [])) ≡ true →
        (list_any P (rs ++ reply ∷ []) ≡ true → (list_any P rs ≡ true) ⊎ (P reply ≡ true)) →
        ((b || list_any P rs) ≡ true) ⊎ (P reply ≡ true)
    by true is more = inl refl
    by false is more = more is

-- ---- seat by seat

module _ (many : ℕ) where
  abbrev pub IsWithin : Line → Type 0
  IsWithin line = (1 ≤ line.seat) × (line.seat ≤ many)

  abbrev pub FitsAt : (MayLack : Call → Type 0) → List Line → List Reply → Type 0
  FitsAt MayLack lines replies = (seat : ℕ) → 1 ≤ seat → seat ≤ many →
      AreFitting MayLack (lines_of seat lines) (replies_to seat lines replies)

  pub fits_all : (MayLack : Call → Type 0) (lines : List Line) (replies : List Reply) → All IsWithin lines →
      FitsAt MayLack lines replies → AreFitting MayLack lines replies
  fits_all MayLack [] replies within each = tt
  fits_all MayLack (l ∷ ls) [] within each = tt
  fits_all MayLack (l ∷ ls) (r ∷ rs) within each =
      (own.0, fits_all MayLack ls rs (All-tail IsWithin l ls within) others)
    where
      Split : ℕ → Bool → Type 0
      Split seat b = AreFitting MayLack (if b then l ∷ lines_of seat ls else lines_of seat ls)
          (if b then r ∷ replies_to seat ls rs else replies_to seat ls rs)

      own : AreFitting MayLack (l ∷ lines_of l.seat ls) (r ∷ replies_to l.seat ls rs)
      own =
          let here = All-head IsWithin l ls within in
          subst (Split l.seat) (is_its l.seat l refl) (each l.seat here.0 here.1)

      drop : (seat : ℕ) (b : Bool) → Split seat b → AreFitting MayLack (lines_of seat ls) (replies_to seat ls rs)
      drop seat true fits = fits.1
      drop seat false fits = fits

      others : FitsAt MayLack ls rs
      others seat some few = drop seat (is_line_of seat l) (each seat some few)

  -- one of the replies is one to a seat
  pub record AnySeat (P : Reply → Bool) (lines : List Line) (replies : List Reply) : Type 0 where
    pub seat : ℕ
    pub some : 1 ≤ seat
    pub few : seat ≤ many
    pub any : list_any P (replies_to seat lines replies) ≡ true

  pub any_seat : (P : Reply → Bool) (lines : List Line) (replies : List Reply) → length replies ≡ length lines →
      All IsWithin lines → list_any P replies ≡ true → AnySeat P lines replies
  any_seat P [] [] same within is = absurd cc
  any_seat P [] (r ∷ rs) same within is = absurd (omega arith)
  any_seat P (l ∷ ls) [] same within is = absurd (omega arith)
  any_seat P (l ∷ ls) (r ∷ rs) same within is =
      by (P r) refl is (any_seat P ls rs (omega arith) (All-tail IsWithin l ls within))
    where
      Replies : ℕ → Bool → List Reply
      Replies seat b = if b then r ∷ replies_to seat ls rs else replies_to seat ls rs

      first : (b : Bool) → b ≡ true → (b || list_any P (replies_to l.seat ls rs)) ≡ true
      first true is = refl
      first false is = absurd cc

      later : (b c : Bool) → c ≡ true → (b || c) ≡ true
      later true c is = refl
      later false c is = is

      with_more : (seat : ℕ) (b : Bool) → list_any P (replies_to seat ls rs) ≡ true →
          list_any P (Replies seat b) ≡ true
      with_more seat true is = later (P r) (list_any P (replies_to seat ls rs)) is
      with_more seat false is = is

      by : (b : Bool) → P r ≡ b → (b || list_any P rs) ≡ true →
          (list_any P rs ≡ true → AnySeat P ls rs) → AnySeat P (l ∷ ls) (r ∷ rs)
      by true its is more =
          let here = All-head IsWithin l ls within in record {
            seat = l.seat;
            some = here.0;
            few = here.1;
            any = subst (λ (b : Bool). list_any P (Replies l.seat b) ≡ true) (sym (is_its l.seat l refl))
                (first (P r) its);
          }
      by false its is more =
          let a = more is in record {
            seat = a.seat;
            some = a.some;
            few = a.few;
            any = with_more a.seat (is_line_of a.seat l) a.any;
          }
