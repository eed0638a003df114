-- What the private readers come to, by their parts.
use Rattle.std.proofs.Common.{◌≡◌, ℕ, Bool, true, false, List, Option, Some, Result, Err, refl, sym, ap, ◌∙◌}
use Rattle.std.specs.Prelude.{if◌then◌else◌, nat_le, length}
use Rattle.frames.specs.declared.frame.Frame.{Frame}
use Rattle.frames.specs.declared.head.Head.{Head}
use Rattle.frames.specs.declared.incoming.Kind.{Kind}
use Rattle.frames.specs.declared.incoming.Operation.{Operation}
use Rattle.frames.specs.declared.incoming.Unread.{Unread}
use Rattle.frames.specs.declared.incoming.Unread.TheVariants.{Broken}
use Rattle.frames.specs.Reading.{frame_at, head_at, incoming_of, is_asked, is_head, kept, kind_of, operation_of, request_of, with_kind, with_operation}

kept_is : {X : Type 0} (b : Bool) {value x : X} → kept b value ≡ Some x → (b ≡ true) × (value ≡ x)
kept_is true is = (refl, cc)
kept_is false is = absurd cc

pub request_is : (moment : ℕ) (h : Head) (rest : List ℕ) (f : Frame) (found : Option Operation) → rest ≡ h.rest
    → kept (nat_le 12 (length rest)) (frame_at rest) ≡ Some f → found ≡ operation_of moment f
    → request_of moment h ≡ with_operation h.connection f found
request_is moment h rest f found behind asked is =
    let parts = kept_is _ asked in
    let passes : is_asked h ≡ true = ap (λ (xs : List ℕ). nat_le 12 (length xs)) (sym behind) ∙ parts.0 in
    let same : frame_at h.rest ≡ f = ap frame_at (sym behind) ∙ parts.1 in
    (λ i. if passes i then with_operation h.connection (same i) (operation_of moment (same i)) else Err Broken)
    ∙ ap (with_operation h.connection f) (sym is)

pub incoming_is : (moment : ℕ) (bytes : List ℕ) (h : Head) (want : Result Kind Unread)
    → kept (is_head bytes) (head_at bytes) ≡ Some h → kind_of moment h ≡ want
    → incoming_of moment bytes ≡ with_kind h want
incoming_is moment bytes h want headed is =
    let parts = kept_is _ headed in
    (λ i. if parts.0 i then with_kind (parts.1 i) (kind_of moment (parts.1 i)) else Err Broken)
    ∙ ap (with_kind h) is
