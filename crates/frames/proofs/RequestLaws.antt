-- An operation is read from its frame, and its frame is that of what is read.
use Rattle.std.proofs.Common.{◌≡◌, ℕ, ◌+◌, ◌≤◌, ◌==◌, Bool, true, false, Option, Some, None, List, [], ◌++◌, length, drop, refl, sym, ap, ◌∙◌, arith}
use Rattle.std.specs.Prelude.{if◌then◌else◌, ⊤}
use Rattle.std.proofs.lemmas.Bool.{eqb-true, leb-true}
use Rattle.std.proofs.lemmas.List.{append-nil, nil_from_length}
use Rattle.numbers.proofs.NumberLaws.{IsBytes}
use Rattle.numbers.proofs.Tests.{both_true}
use Rattle.queue_model.specs.declared.call.Call.TheVariants.{Get, Send, Receive, Set}
use Rattle.frames.specs.declared.frame.Frame.{Frame}
use Rattle.frames.specs.declared.incoming.Operation.{Operation}
use Rattle.frames.specs.declared.incoming.Operation.TheVariants as operations
use Rattle.frames.specs.Little.{four, eight, four_at, eight_at}
use Rattle.frames.specs.Requests.{flag, frame_of, or_zero, type_number}
use Rattle.frames.specs.Records.{operation_at}
use Rattle.frames.specs.Reading.{get_flags, get_of, has, is_get, is_plain, is_receive, is_reserve, is_send, is_set, operation_of, plain_of, receive_of, reserve_of, send_of, set_flags, set_of, small_of, type_of}
use Rattle.frames.proofs.LittleLaws.{eight_small}
use Rattle.frames.proofs.PartLaws.{eight_then, ends, four_then, type_back}

-- ---- what is read has the frame

-- an operation that came of a frame has it, at this moment
abbrev pub Right : ℕ → Frame → Option Operation → Type 0
Right moment f None = ⊤
Right moment f (Some op) = (frame_of f.number op ≡ f) × (operation_at moment op ≡ op)

pub chosen : {X : Type 0} (P : X → Type 0) (b : Bool) {x y : X} → (b ≡ true → P x) → (b ≡ false → P y)
    → P (if b then x else y)
chosen P true first second = first refl
chosen P false first second = second refl

module _ (moment : ℕ) (f : Frame) (all : IsBytes f.fields) where
  get_right : (f.code == 1) ≡ true → is_get f ≡ true
      → Right moment f (Some (operations.Call (Get (get_of moment f))))
  get_right is h =
      let tests = both_true _ _ h in
      let flagged = both_true _ _ tests.1 in
      let numbers = both_true _ _ flagged.1 in
      let code : f.code ≡ 1 = eqb-true _ _ is in
      let long : length f.fields ≡ 4 = eqb-true _ _ tests.0 in
      let flags : f.flags ≡ get_flags (get_of 0 f) = eqb-true _ _ flagged.0 in
      let id : f.id ≡ 0 = eqb-true _ _ numbers.0 in
      let key : four_at 0 f.fields ≡ or_zero (get_of 0 f).key = eqb-true _ _ numbers.1 in
      let fields : f.fields ≡ four (or_zero (get_of 0 f).key) =
      four_then 0 f.fields [] (omega (arith, long)) all (ends 4 f.fields long)
      ∙ append-nil (four (four_at 0 f.fields)) ∙ ap four key in
      let same : f ≡ frame_of f.number (operations.Call (Get (get_of moment f))) = λ i. record {
        number = f.number;
        code = code i;
        flags = flags i;
        mode = f.mode;
        id = id i;
        fields = fields i;
      } in
      (sym same, refl)

  type_behind : (rest : List ℕ) → 8 ≤ length f.fields → drop 8 f.fields ≡ rest
      → f.fields ≡ eight (type_number (type_of (eight_at 0 f.fields))) ++ rest
  type_behind rest long is =
      eight_then 0 f.fields rest long all is
      ∙ ap (λ (n : ℕ). eight n ++ rest) (sym (type_back (eight_at 0 f.fields) (eight_small 0 f.fields all)))

  send_right : (f.code == 2) ≡ true → is_send f ≡ true
      → Right moment f (Some (operations.Call (Send (send_of moment f))))
  send_right is h =
      let tests = both_true _ _ h in
      let others = both_true _ _ tests.1 in
      let numbers = both_true _ _ others.1 in
      let code : f.code ≡ 2 = eqb-true _ _ is in
      let flags : f.flags ≡ flag (has 1 f.flags) 1 = eqb-true _ _ numbers.0 in
      let mode : f.mode ≡ 0 = eqb-true _ _ numbers.1 in
      let fields = type_behind (drop 8 f.fields) (leb-true _ _ tests.0) refl in
      let same : f ≡ frame_of f.number (operations.Call (Send (send_of moment f))) = λ i. record {
        number = f.number;
        code = code i;
        flags = flags i;
        mode = mode i;
        id = f.id;
        fields = fields i;
      } in
      (sym same, refl)

  receive_right : (f.code == 3) ≡ true → is_receive f ≡ true
      → Right moment f (Some (operations.Call (Receive (receive_of moment f))))
  receive_right is h =
      let tests = both_true _ _ h in
      let numbers = both_true _ _ tests.1 in
      let code : f.code ≡ 3 = eqb-true _ _ is in
      let long : length f.fields ≡ 12 = eqb-true _ _ tests.0 in
      let flags : f.flags ≡ flag (has 1 f.flags) 1 + flag (has 2 f.flags) 2 = eqb-true _ _ numbers.0 in
      let mode : f.mode ≡ 0 = eqb-true _ _ numbers.1 in
      let size : drop 8 f.fields ≡ four (four_at 8 f.fields) =
      four_then 8 f.fields [] (omega (arith, long)) all (ends 12 f.fields long)
      ∙ append-nil (four (four_at 8 f.fields)) in
      let fields = type_behind (four (four_at 8 f.fields)) (omega (arith, long)) size in
      let same : f ≡ frame_of f.number (operations.Call (Receive (receive_of moment f))) = λ i. record {
        number = f.number;
        code = code i;
        flags = flags i;
        mode = mode i;
        id = f.id;
        fields = fields i;
      } in
      (sym same, refl)

  set_right : (f.code == 5) ≡ true → is_set f ≡ true
      → Right moment f (Some (operations.Call (Set (set_of moment f))))
  set_right is h =
      let tests = both_true _ _ h in
      let flagged = both_true _ _ tests.1 in
      let users = both_true _ _ flagged.1 in
      let others = both_true _ _ users.1 in
      let code : f.code ≡ 5 = eqb-true _ _ is in
      let long : length f.fields ≡ 12 = eqb-true _ _ tests.0 in
      let flags : f.flags ≡ set_flags (set_of 0 f) = eqb-true _ _ flagged.0 in
      let user : four_at 4 f.fields ≡ or_zero (set_of 0 f).uid = eqb-true _ _ users.0 in
      let group : four_at 8 f.fields ≡ or_zero (set_of 0 f).gid = eqb-true _ _ others.0 in
      let mode : f.mode ≡ or_zero (set_of 0 f).mode = eqb-true _ _ others.1 in
      let last : drop 8 f.fields ≡ four (four_at 8 f.fields) =
      four_then 8 f.fields [] (omega (arith, long)) all (ends 12 f.fields long)
      ∙ append-nil (four (four_at 8 f.fields)) in
      let owner = four_then 4 f.fields _ (omega (arith, long)) all last in
      let fields = four_then 0 f.fields _ (omega (arith, long)) all owner
      ∙ (λ i. four (four_at 0 f.fields) ++ (four (user i) ++ four (group i))) in
      let same : f ≡ frame_of f.number (operations.Call (Set (set_of moment f))) = λ i. record {
        number = f.number;
        code = code i;
        flags = flags i;
        mode = mode i;
        id = f.id;
        fields = fields i;
      } in
      (sym same, refl)

  reserve_right : (f.code == 12) ≡ true → is_reserve f ≡ true → Right moment f (Some (reserve_of f))
  reserve_right is h =
      let tests = both_true _ _ h in
      let numbers = both_true _ _ tests.1 in
      let code : f.code ≡ 12 = eqb-true _ _ is in
      let long : length f.fields ≡ 8 = eqb-true _ _ tests.0 in
      let flags : f.flags ≡ flag (has 1 f.flags) 1 = eqb-true _ _ numbers.0 in
      let mode : f.mode ≡ 0 = eqb-true _ _ numbers.1 in
      let fields = type_behind [] (omega (arith, long)) (ends 8 f.fields long)
      ∙ append-nil (eight (type_number (type_of (eight_at 0 f.fields)))) in
      let same : f ≡ frame_of f.number (reserve_of f) = λ i. record {
        number = f.number;
        code = code i;
        flags = flags i;
        mode = mode i;
        id = f.id;
        fields = fields i;
      } in
      (sym same, refl)

  -- a frame that has an id, or 0 in its place, and nothing else
  plain_row : (k : ℕ) → is_plain f ≡ true → (f.code == k) ≡ true
      → record { number = f.number; code = k; flags = 0; mode = 0; id = f.id; fields = [] } ≡ f
  plain_row k h is =
      let tests = both_true _ _ h in
      let numbers = both_true _ _ tests.1 in
      let code : f.code ≡ k = eqb-true _ _ is in
      let flags : f.flags ≡ 0 = eqb-true _ _ numbers.0 in
      let mode : f.mode ≡ 0 = eqb-true _ _ numbers.1 in
      let fields : f.fields ≡ [] = nil_from_length f.fields (eqb-true _ _ tests.0) in
      λ i. record {
        number = f.number;
        code = sym code i;
        flags = sym flags i;
        mode = sym mode i;
        id = f.id;
        fields = sym fields i;
      }

  blank_row : (k : ℕ) → is_plain f ≡ true → (f.code == k) ≡ true → (f.id == 0) ≡ true
      → record { number = f.number; code = k; flags = 0; mode = 0; id = 0; fields = [] } ≡ f
  blank_row k h is blank =
      let id : f.id ≡ 0 = eqb-true _ _ blank in
      (λ i. record { number = f.number; code = k; flags = 0; mode = 0; id = sym id i; fields = [] })
      ∙ plain_row k h is

  plain_right : is_plain f ≡ true → Right moment f (plain_of f.code f.id)
  plain_right h =
      let P = Right moment f in
      chosen P (f.code == 4) (λ is. (plain_row 4 h is, refl)) (λ other.
      chosen P (f.code == 6) (λ is. (plain_row 6 h is, refl)) (λ other.
      chosen P (f.code == 7) (λ is. (plain_row 7 h is, refl)) (λ other.
      chosen P (f.code == 8) (λ is. (plain_row 8 h is, refl)) (λ other.
      chosen P (f.code == 9) (λ is.
      chosen P (f.id == 0) (λ blank. (blank_row 9 h is blank, refl)) (λ some. tt)) (λ other.
      chosen P (f.code == 10) (λ is.
      chosen P (f.id == 0) (λ blank. (blank_row 10 h is blank, refl)) (λ some. tt)) (λ other.
      chosen P (f.code == 11) (λ is. (plain_row 11 h is, refl)) (λ other.
      chosen P (f.code == 13) (λ is. (plain_row 13 h is, refl)) (λ other.
      chosen P (f.code == 14) (λ is. (plain_row 14 h is, refl)) (λ other. tt)))))))))

  small_right : Right moment f (small_of moment f)
  small_right =
      let P = Right moment f in
      chosen P (f.code == 1) (λ is. chosen P (is_get f) (get_right is) (λ wrong. tt)) (λ other.
      chosen P (f.code == 3) (λ is. chosen P (is_receive f) (receive_right is) (λ wrong. tt)) (λ other.
      chosen P (f.code == 5) (λ is. chosen P (is_set f) (set_right is) (λ wrong. tt)) (λ other.
      chosen P (f.code == 12) (λ is. chosen P (is_reserve f) (reserve_right is) (λ wrong. tt)) (λ other.
      chosen P (is_plain f) plain_right (λ wrong. tt)))))

  pub operation_right : Right moment f (operation_of moment f)
  operation_right =
      let P = Right moment f in
      chosen P (f.code == 2) (λ is. chosen P (is_send f) (send_right is) (λ wrong. tt)) (λ other. small_right)
