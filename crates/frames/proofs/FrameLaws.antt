-- A record and a frame are read from their bytes, and their bytes are those of what is read.
use Rattle.std.proofs.Common.{◌≡◌, ℕ, ◌+◌, ◌-◌, ◌^◌, ◌<◌, ◌≤◌, ◌==◌, Bool, true, ◌&&◌, List, [], ◌∷◌, ◌++◌, length, drop, sym, ap, ◌∙◌, arith}
use Rattle.std.specs.Prelude.{nat_le}
use Rattle.std.proofs.lemmas.Bool.{eqb-true, leb-true, le-leb}
use Rattle.std.proofs.lemmas.Bool.Decides.{nat_tests}
use Rattle.std.proofs.lemmas.List.{append-nil, append_assoc, length-append, length-drop}
use Rattle.numbers.proofs.NumberLaws.{IsBytes}
use Rattle.numbers.proofs.Tests.{both_true}
use Rattle.frames.specs.declared.frame.Frame.{Frame}
use Rattle.frames.specs.declared.head.Head.{Head}
use Rattle.frames.specs.Little.{four, four_at}
use Rattle.frames.specs.Frames.{FitsFrame, FitsHead, frame_bytes, head_bytes, joined}
use Rattle.frames.specs.Reading.{frame_at, head_at, is_head}
use Rattle.frames.proofs.LittleLaws.{length-two, length-four}
use Rattle.frames.proofs.PartLaws.{byte_next, byte_then, four_next, four_then, two_next, two_then}

pub is_same : (n m : ℕ) → n ≡ m → (n == m) ≡ true
is_same n m same = rw same (self m) where
  self : (k : ℕ) → (k == k) ≡ true
  self k = grind (arith, nat_tests)

pub and_true : (a b : Bool) → a ≡ true → b ≡ true → (a && b) ≡ true
and_true a b first second = λ i. (first i) && (second i)

-- ---- frames

pub length-frame : (f : Frame) → length (frame_bytes f) ≡ 12 + length f.fields
length-frame f = simp (length-append, length-two, length-four, append-nil) (omega arith)

pub frame_spells : (bytes : List ℕ) → IsBytes bytes → nat_le 12 (length bytes) ≡ true
    → frame_bytes (frame_at bytes) ≡ bytes
frame_spells bytes all h =
    let long : 12 ≤ length bytes = leb-true _ _ h in
    let id = four_then 8 bytes _ (omega (arith, long)) all (sym (append-nil (drop 12 bytes))) in
    let mode = two_then 6 bytes _ (omega (arith, long)) all id in
    let flags = byte_then 5 bytes _ (omega (arith, long)) mode in
    let code = byte_then 4 bytes _ (omega (arith, long)) flags in
    sym (four_then 0 bytes _ (omega (arith, long)) all code)

pub frame_again : (f : Frame) (bytes : List ℕ) → FitsFrame f → bytes ≡ frame_bytes f
    → (nat_le 12 (length bytes) ≡ true) × (frame_at bytes ≡ f)
frame_again f bytes fits is =
    let number = four_next 0 f.number bytes _ is fits.number in
    let code = byte_next 4 f.code bytes _ number.1 in
    let flags = byte_next 5 f.flags bytes _ code.1 in
    let mode = two_next 6 f.mode bytes _ flags.1 fits.mode in
    let id = four_next 8 f.id bytes _ mode.1 fits.id in
    let fields : drop 12 bytes ≡ f.fields = id.1 ∙ append-nil f.fields in
    let long : 12 ≤ length bytes = omega (arith, ap length is, length-frame f) in (
      le-leb _ _ long,
      λ i. record {
        number = number.0 i;
        code = code.0 i;
        flags = flags.0 i;
        mode = mode.0 i;
        id = id.0 i;
        fields = fields i;
      },
    )

-- ---- records

abbrev pub behind_length : Head → List ℕ
behind_length h =
    joined (four h.connection ∷ four h.kind ∷ four h.caller.pid ∷ four h.caller.uid ∷ four h.caller.gid ∷ h.rest ∷ [])

pub length-behind : (h : Head) → length (behind_length h) ≡ 20 + length h.rest
length-behind h = simp (length-append, length-four, append-nil) (omega arith)

pub length-head : (h : Head) → length (head_bytes h) ≡ 24 + length h.rest
length-head h =
    let rest = length-behind h in
    length-append (four (length (behind_length h))) (behind_length h)
    ∙ omega (arith, rest, length-four (length (behind_length h)))

pub head_spells : (bytes : List ℕ) → IsBytes bytes → is_head bytes ≡ true → head_bytes (head_at bytes) ≡ bytes
head_spells bytes all h =
    let tests = both_true _ _ h in
    let long : 24 ≤ length bytes = leb-true _ _ tests.0 in
    let counts : four_at 0 bytes ≡ length bytes - 4 = eqb-true _ _ tests.1 in
    let gid = four_then 20 bytes _ (omega (arith, long)) all (sym (append-nil (drop 24 bytes))) in
    let uid = four_then 16 bytes _ (omega (arith, long)) all gid in
    let pid = four_then 12 bytes _ (omega (arith, long)) all uid in
    let kind = four_then 8 bytes _ (omega (arith, long)) all pid in
    let behind = four_then 4 bytes _ (omega (arith, long)) all kind in
    let len : length (behind_length (head_at bytes)) ≡ four_at 0 bytes =
    ap length (sym behind) ∙ length-drop 4 bytes ∙ sym counts in
    ap (λ (n : ℕ). four n ++ behind_length (head_at bytes)) len
    ∙ sym (four_then 0 bytes _ (omega (arith, long)) all behind)

pub head_again : (h : Head) (bytes : List ℕ) → FitsHead h → bytes ≡ head_bytes h
    → (is_head bytes ≡ true) × (head_at bytes ≡ h)
head_again h bytes fits is =
    let caller = fits.caller in
    let room = fits.rest in
    let small : length (behind_length h) < 2 ^ 32 = omega (arith, room, length-behind h) in
    let counts = four_next 0 (length (behind_length h)) bytes _ is small in
    let connection = four_next 4 h.connection bytes _ counts.1 fits.connection in
    let kind = four_next 8 h.kind bytes _ connection.1 fits.kind in
    let pid = four_next 12 h.caller.pid bytes _ kind.1 caller.pid in
    let uid = four_next 16 h.caller.uid bytes _ pid.1 caller.uid in
    let gid = four_next 20 h.caller.gid bytes _ uid.1 caller.gid in
    let rest : drop 24 bytes ≡ h.rest = gid.1 ∙ append-nil h.rest in
    let size : length bytes ≡ 24 + length h.rest = ap length is ∙ length-head h in
    let counted : four_at 0 bytes ≡ length bytes - 4 = omega (arith, counts.0, size, length-behind h) in (
      and_true _ _ (le-leb _ _ (omega (arith, size))) (is_same _ _ counted),
      λ i. record {
        connection = connection.0 i;
        kind = kind.0 i;
        caller = record { pid = pid.0 i; uid = uid.0 i; gid = gid.0 i };
        rest = rest i;
      },
    )

-- a record that stands first tells how long it is
pub head_first : (h : Head) (bytes rest : List ℕ) → FitsHead h → bytes ≡ head_bytes h ++ rest
    → 4 + four_at 0 bytes ≡ length (head_bytes h)
head_first h bytes rest fits is =
    let behind = behind_length h in
    let room = fits.rest in
    let small : length behind < 2 ^ 32 = omega (arith, room, length-behind h) in
    let first = is ∙ append_assoc (four (length behind)) behind rest in
    let counts = four_next 0 (length behind) bytes (behind ++ rest) first small in
    omega (arith, counts.0, length-head h, length-behind h)
