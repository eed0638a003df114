-- The record of a call is its parts, one behind the other.
use Rattle.std.proofs.Common.{◌≡◌, ℕ, ◌+◌, ◌∷◌, ◌++◌, List, [], length, refl, sym, ap, ◌∙◌, arith}
use Rattle.std.proofs.lemmas.List.{append-nil, append_assoc, length-append}
use Rattle.queue_model.specs.declared.caller.Caller.{Caller}
use Rattle.queue_model.specs.declared.call.Call.{Call}
use Rattle.queue_model.specs.declared.call.Call.TheVariants.{Get, Send, Receive, Stat, Set, Remove}
use Rattle.frames.specs.declared.frame.Frame.{Frame}
use Rattle.frames.specs.declared.spelling.Asker.{Asker}
use Rattle.frames.specs.Little.{four, eight}
use Rattle.frames.specs.Frames.{frame_bytes, joined}
use Rattle.frames.specs.Answers.{appended}
use Rattle.frames.specs.Requests.{call_frame, or_zero, type_number}
use Rattle.frames.specs.Records.{head_of}
use Rattle.frames.specs.Spelling.{asked_by, call_record, field_parts, fields_len, head_parts, row_of, row_parts}
use Rattle.frames.proofs.LittleLaws.{length-four, length-eight}
use Rattle.frames.proofs.FrameLaws.{behind_length, length-behind, length-frame}
use Rattle.frames.proofs.ToldLaws.{regrouped}

-- ---- fields

two_joined : (a b : List ℕ) → joined (a ∷ b ∷ []) ≡ a ++ b
two_joined a b = ap (λ (xs : List ℕ). a ++ xs) (append-nil b)

three_joined : (a b c : List ℕ) → joined (a ∷ b ∷ c ∷ []) ≡ a ++ (b ++ c)
three_joined a b c = ap (λ (xs : List ℕ). a ++ xs) (two_joined b c)

fields_are : (n : ℕ) (call : Call) → joined (field_parts call) ≡ (call_frame n call).fields
fields_are n (Get a) = append-nil (four (or_zero a.key))
fields_are n (Send a) = two_joined (eight (type_number a.mtype)) a.body
fields_are n (Receive a) = two_joined (eight (type_number a.mtype)) (four a.size)
fields_are n (Stat id) = refl
fields_are n (Set a) = three_joined (four a.qbytes) (four (or_zero a.uid)) (four (or_zero a.gid))
fields_are n (Remove id) = refl

length-fields : (n : ℕ) (call : Call) → length (call_frame n call).fields ≡ fields_len call
length-fields n (Get a) = length-four (or_zero a.key)
length-fields n (Send a) =
    length-append (eight (type_number a.mtype)) a.body
    ∙ ap (λ (k : ℕ). k + length a.body) (length-eight (type_number a.mtype))
length-fields n (Receive a) =
    let mtype = type_number a.mtype in
    omega (arith, length-append (eight mtype) (four a.size), length-eight mtype, length-four a.size)
length-fields n (Stat id) = refl
length-fields n (Set a) =
    let user = or_zero a.uid in
    let group = or_zero a.gid in
    omega (
      arith,
      length-append (four a.qbytes) (four user ++ four group),
      length-append (four user) (four group),
      length-four a.qbytes,
      length-four user,
      length-four group,
    )
length-fields n (Remove id) = refl

-- ---- a frame

-- a row and then fields
frame_is : (f : Frame) (fields : List ℕ) →
    frame_bytes (record f { fields = fields }) ≡ joined (row_parts f) ++ fields
frame_is f fields = simp (append_assoc, append-nil) refl

-- ---- a record

module _ (asker : Asker) (caller : Caller) (call : Call) where
  abbrev frame : Frame
  frame = call_frame asker.number call

  behind : joined (row_parts (row_of asker.number call)) ++ joined (field_parts call) ≡ frame_bytes frame
  behind =
      ap (λ (xs : List ℕ). joined (row_parts frame) ++ xs) (fields_are asker.number call)
      ∙ sym (frame_is frame frame.fields)

  size : length (frame_bytes frame) ≡ 12 + fields_len call
  size = length-frame frame ∙ ap (λ (k : ℕ). 12 + k) (length-fields asker.number call)

  parted : (len : ℕ) →
      joined (head_parts asker.connection caller len) ++ frame_bytes frame
      ≡ four (20 + len) ++ behind_length (head_of (asked_by asker caller call))
  parted len = simp (append_assoc, append-nil) refl

  record_is : (len : ℕ) → len ≡ 12 + fields_len call →
      joined (head_parts asker.connection caller len) ++ frame_bytes frame ≡ call_record asker caller call
  record_is len is =
      let h = head_of (asked_by asker caller call) in
      let count : 20 + len ≡ length (behind_length h) = omega (arith, is, size, length-behind h) in
      parted len ∙ ap (λ (k : ℕ). four k ++ behind_length h) count

  -- what stands before the fields is put behind what stood there, and then they are
  pub put_is : (front put new : List ℕ) (len : ℕ) → len ≡ 12 + fields_len call →
      put ≡ front
      ++ appended (appended [] (head_parts asker.connection caller len)) (row_parts (row_of asker.number call)) →
      new ≡ appended put (field_parts call) → new ≡ front ++ call_record asker caller call
  put_is front put new len is first second =
      let head = joined (head_parts asker.connection caller len) in
      let row = joined (row_parts (row_of asker.number call)) in
      let fields = joined (field_parts call) in
      let parts : appended (appended [] (head_parts asker.connection caller len)) (row_parts (row_of asker.number call))
      ≡ head ++ row =
      regrouped (appended [] (head_parts asker.connection caller len)) (row_parts (row_of asker.number call))
      ∙ ap (λ (xs : List ℕ). xs ++ row) (regrouped [] (head_parts asker.connection caller len)) in
      second ∙ regrouped put (field_parts call)
      ∙ ap (λ (xs : List ℕ). xs ++ fields) (first ∙ ap (λ (xs : List ℕ). front ++ xs) parts)
      ∙ append_assoc front (head ++ row) fields
      ∙ ap (λ (xs : List ℕ). front ++ xs) (append_assoc head row fields
      ∙ ap (λ (xs : List ℕ). head ++ xs) behind ∙ record_is len is)

-- a part that is set behind others
pub set_behind : (part before parts now : List ℕ) → now ≡ before ++ part → before ≡ parts → now ≡ parts ++ part
set_behind part before parts now is same = is ∙ ap (λ (xs : List ℕ). xs ++ part) same
