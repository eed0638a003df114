-- An operation is read from its frame, at the moment that is handed in.
use Rattle.std.proofs.Common.{◌≡◌, ℕ, ◌+◌, ◌^◌, ◌<◌, ◌≤◌, Bool, true, false, Option, Some, None, ℤ, [], ◌++◌, length, refl, sym, ap, ◌∙◌, arith}
use Rattle.std.specs.Prelude.{is_some, IfSome}
use Rattle.std.proofs.lemmas.Bool.{le-leb}
use Rattle.std.proofs.lemmas.List.{append-nil, length-append}
use Rattle.numbers.specs.declared.limits.TheConstants.{MAX_BODY}
use Rattle.queue_model.specs.declared.call.GetArguments.{GetArguments}
use Rattle.queue_model.specs.declared.call.SendArguments.{SendArguments}
use Rattle.queue_model.specs.declared.call.ReceiveArguments.{ReceiveArguments}
use Rattle.queue_model.specs.declared.call.SetArguments.{SetArguments}
use Rattle.queue_model.specs.declared.call.Call.TheVariants.{Get, Send, Receive, Stat, Set, Remove}
use Rattle.frames.specs.declared.frame.Frame.{Frame}
use Rattle.frames.specs.declared.incoming.Operation.{Operation}
use Rattle.frames.specs.declared.incoming.Operation.TheVariants as operations
use Rattle.frames.specs.Little.{four, eight, four_at}
use Rattle.frames.specs.Frames.{FitsFour}
use Rattle.frames.specs.Requests.{FitsOperation, FitsSet, FitsType, call_frame, flag, frame_of, or_zero, type_number}
use Rattle.frames.specs.Records.{operation_at}
use Rattle.frames.specs.Reading.{get_flags, get_of, given, has, is_get, is_receive, is_reserve, is_send, is_set, kept, operation_of, receive_of, send_of, set_flags, set_of}
use Rattle.frames.proofs.LittleLaws.{length-four, length-eight}
use Rattle.frames.proofs.PartLaws.{four_next, type_next}
use Rattle.frames.proofs.FrameLaws.{and_true, is_same}

-- ---- flags and what is given by them

one_bit : (a : Bool) → has 1 (flag a 1) ≡ a
one_bit true = refl
one_bit false = refl

wait_bits : (a b : Bool) → (has 1 (flag a 1 + flag b 2) ≡ a) × (has 2 (flag a 1 + flag b 2) ≡ b)
wait_bits true true = (refl, refl)
wait_bits true false = (refl, refl)
wait_bits false true = (refl, refl)
wait_bits false false = (refl, refl)

get_bits : (a b k : Bool) → (has 4 (flag a 4 + flag b 8 + flag k 16) ≡ a)
    × (has 8 (flag a 4 + flag b 8 + flag k 16) ≡ b) × (has 16 (flag a 4 + flag b 8 + flag k 16) ≡ k)
get_bits true true true = (refl, refl, refl)
get_bits true true false = (refl, refl, refl)
get_bits true false true = (refl, refl, refl)
get_bits true false false = (refl, refl, refl)
get_bits false true true = (refl, refl, refl)
get_bits false true false = (refl, refl, refl)
get_bits false false true = (refl, refl, refl)
get_bits false false false = (refl, refl, refl)

set_bits : (u g m : Bool) → (has 32 (flag u 32 + flag g 64 + flag m 128) ≡ u)
    × (has 64 (flag u 32 + flag g 64 + flag m 128) ≡ g) × (has 128 (flag u 32 + flag g 64 + flag m 128) ≡ m)
set_bits true true true = (refl, refl, refl)
set_bits true true false = (refl, refl, refl)
set_bits true false true = (refl, refl, refl)
set_bits true false false = (refl, refl, refl)
set_bits false true true = (refl, refl, refl)
set_bits false true false = (refl, refl, refl)
set_bits false false true = (refl, refl, refl)
set_bits false false false = (refl, refl, refl)

given_again : (o : Option ℕ) → given (is_some o) (or_zero o) ≡ o
given_again None = refl
given_again (Some n) = refl

zero_small : (o : Option ℕ) → IfSome o FitsFour → or_zero o < 2 ^ 32
zero_small None fits = omega arith
zero_small (Some n) fits = fits

-- a field alone
four_alone : (n : ℕ) → n < 2 ^ 32 → four_at 0 (four n) ≡ n
four_alone n small = (four_next 0 n (four n) [] (sym (append-nil (four n))) small).0

-- an operation is read from its frame, at this moment
abbrev IsReadAgain : ℕ → ℕ → Operation → Type 0
IsReadAgain n moment op = operation_of moment (frame_of n op) ≡ Some (operation_at moment op)

-- ---- calls

get_again : (n moment : ℕ) (a : GetArguments) → IfSome a.key FitsFour
    → IsReadAgain n moment (operations.Call (Get a))
get_again n moment a fits =
    let f : Frame = call_frame n (Get a) in
    let bits = get_bits a.create a.excl (is_some a.key) in
    let read : four_at 0 f.fields ≡ or_zero a.key = four_alone (or_zero a.key) (zero_small a.key fits) in
    let key : given (has 16 f.flags) (four_at 0 f.fields) ≡ a.key =
    (λ i. given (bits.2 i) (read i)) ∙ given_again a.key in
    let same : (m : ℕ) → get_of m f ≡ record a { moment = m } = λ m i. record {
      key = key i;
      create = bits.0 i;
      excl = bits.1 i;
      mode = a.mode;
      moment = m;
    } in
    let flags = is_same _ _ (sym (ap get_flags (same 0))) in
    let keyed = is_same _ _ (read ∙ sym (ap or_zero key)) in
    let passes : is_get f ≡ true =
    and_true _ _ (is_same _ _ (length-four (or_zero a.key))) (and_true _ _ flags (and_true _ _ refl keyed)) in
    λ i. kept (passes i) (operations.Call (Get (same moment i)))

send_again : (n moment : ℕ) (a : SendArguments) → FitsType a.mtype → length a.body ≤ MAX_BODY
    → IsReadAgain n moment (operations.Call (Send a))
send_again n moment a fits short =
    let f : Frame = call_frame n (Send a) in
    let bit = one_bit a.nowait in
    let read = type_next 0 a.mtype f.fields a.body refl fits in
    let same : send_of moment f ≡ record a { moment = moment } = λ i. record {
      id = a.id;
      mtype = read.0 i;
      body = read.1 i;
      nowait = bit i;
      moment = moment;
    } in
    let size : length f.fields ≡ 8 + length a.body =
    length-append (eight (type_number a.mtype)) a.body
    ∙ ap (λ (k : ℕ). k + length a.body) (length-eight (type_number a.mtype)) in
    let long = le-leb 8 (length f.fields) (omega (arith, size)) in
    let fit = le-leb (length f.fields) (8 + MAX_BODY) (omega (arith, size, short)) in
    let flags = is_same _ _ (sym (ap (λ (b : Bool). flag b 1) bit)) in
    let passes : is_send f ≡ true = and_true _ _ long (and_true _ _ fit (and_true _ _ flags refl)) in
    λ i. kept (passes i) (operations.Call (Send (same i)))

receive_again : (n moment : ℕ) (a : ReceiveArguments) → FitsType a.mtype → FitsFour a.size
    → IsReadAgain n moment (operations.Call (Receive a))
receive_again n moment a fits small =
    let f : Frame = call_frame n (Receive a) in
    let bits = wait_bits a.nowait a.noerror in
    let read = type_next 0 a.mtype f.fields (four a.size) refl fits in
    let size = four_next 8 a.size f.fields [] (read.1 ∙ sym (append-nil (four a.size))) small in
    let same : receive_of moment f ≡ record a { moment = moment } = λ i. record {
      id = a.id;
      size = size.0 i;
      mtype = read.0 i;
      nowait = bits.0 i;
      noerror = bits.1 i;
      moment = moment;
    } in
    let long : length f.fields ≡ 12 =
    length-append (eight (type_number a.mtype)) (four a.size)
    ∙ (λ i. length-eight (type_number a.mtype) i + length-four a.size i) in
    let flags = is_same _ _ (sym (λ i. flag (bits.0 i) 1 + flag (bits.1 i) 2)) in
    let passes : is_receive f ≡ true = and_true _ _ (is_same _ _ long) (and_true _ _ flags refl) in
    λ i. kept (passes i) (operations.Call (Receive (same i)))

set_again : (n moment : ℕ) (a : SetArguments) → FitsSet a
    → IsReadAgain n moment (operations.Call (Set a))
set_again n moment a fits =
    let f : Frame = call_frame n (Set a) in
    let bits = set_bits (is_some a.uid) (is_some a.gid) (is_some a.mode) in
    let user = or_zero a.uid in
    let group = or_zero a.gid in
    let first = four_next 0 a.qbytes f.fields (four user ++ four group) refl fits.qbytes in
    let second = four_next 4 user f.fields (four group) first.1 (zero_small a.uid fits.uid) in
    let third = four_next 8 group f.fields [] (second.1 ∙ sym (append-nil (four group))) (zero_small a.gid fits.gid) in
    let uid : given (has 32 f.flags) (four_at 4 f.fields) ≡ a.uid =
    (λ i. given (bits.0 i) (second.0 i)) ∙ given_again a.uid in
    let gid : given (has 64 f.flags) (four_at 8 f.fields) ≡ a.gid =
    (λ i. given (bits.1 i) (third.0 i)) ∙ given_again a.gid in
    let mode : given (has 128 f.flags) f.mode ≡ a.mode =
    (λ i. given (bits.2 i) (or_zero a.mode)) ∙ given_again a.mode in
    let same : (m : ℕ) → set_of m f ≡ record a { moment = m } = λ m i. record {
      id = a.id;
      qbytes = first.0 i;
      uid = uid i;
      gid = gid i;
      mode = mode i;
      moment = m;
    } in
    let long : length f.fields ≡ 12 =
    length-append (four a.qbytes) (four user ++ four group)
    ∙ (λ i. length-four a.qbytes i + length-append (four user) (four group) i)
    ∙ (λ i. 4 + (length-four user i + length-four group i)) in
    let flags = is_same _ _ (sym (ap set_flags (same 0))) in
    let owner = is_same _ _ (second.0 ∙ sym (ap or_zero uid)) in
    let owners = is_same _ _ (third.0 ∙ sym (ap or_zero gid)) in
    let modes = is_same _ _ (sym (ap or_zero mode)) in
    let passes : is_set f ≡ true =
    and_true _ _ (is_same _ _ long) (and_true _ _ flags (and_true _ _ owner (and_true _ _ owners modes))) in
    λ i. kept (passes i) (operations.Call (Set (same moment i)))

reserve_again : (n moment id : ℕ) (mtype : ℤ) (nowait : Bool) → FitsType mtype
    → IsReadAgain n moment (operations.Reserve id mtype nowait)
reserve_again n moment id mtype nowait fits =
    let f : Frame = frame_of n (operations.Reserve id mtype nowait) in
    let bit = one_bit nowait in
    let fields = eight (type_number mtype) in
    let read = type_next 0 mtype fields [] (sym (append-nil fields)) fits in
    let flags = is_same _ _ (sym (ap (λ (b : Bool). flag b 1) bit)) in
    let passes : is_reserve f ≡ true =
    and_true _ _ (is_same _ _ (length-eight (type_number mtype))) (and_true _ _ flags refl) in
    λ i. kept (passes i) (operations.Reserve id (read.0 i) (bit i))

-- ---- all operations

pub operation_again : (n moment : ℕ) (op : Operation) → FitsOperation op
    → operation_of moment (frame_of n op) ≡ Some (operation_at moment op)
operation_again n moment (operations.Call (Get a)) fits = get_again n moment a fits
operation_again n moment (operations.Call (Send a)) fits = send_again n moment a fits.0 fits.1
operation_again n moment (operations.Call (Receive a)) fits = receive_again n moment a fits.0 fits.1
operation_again n moment (operations.Call (Stat id)) fits = refl
operation_again n moment (operations.Call (Set a)) fits = set_again n moment a fits
operation_again n moment (operations.Call (Remove id)) fits = refl
operation_again n moment (operations.Next after) fits = refl
operation_again n moment (operations.Nth place) fits = refl
operation_again n moment operations.Save fits = refl
operation_again n moment operations.Info fits = refl
operation_again n moment (operations.Cancel number) fits = refl
operation_again n moment (operations.Reserve id mtype nowait) fits = reserve_again n moment id mtype nowait fits
operation_again n moment (operations.Acknowledge id) fits = refl
operation_again n moment (operations.Release id) fits = refl
