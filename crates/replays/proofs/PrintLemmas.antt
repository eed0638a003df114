-- The replies that there are, printed one after the other.
use Rattle.std.proofs.Common.{◌≡◌, refl, sym, ap, ◌∙◌, subst, Bool, true, false, ◌||◌, ℕ, List, [], ◌∷◌, ◌++◌, Option, Some, None, if◌then◌else◌, ◌+◌, ◌<◌, append-nil, append_assoc, get_or, length, take, arith}
use Rattle.std.specs.List.{list_any}
use Rattle.std.proofs.lemmas.List.{length-take-le, take_more}
use Rattle.msgq_cli.specs.Answers.{reply_text}
use Rattle.msgq_cli.specs.Outputs.{OutputState, Prints}
use Rattle.msgq_cli.specs.declared.ending.Ending.{Ending}
use Rattle.msgq_cli.specs.declared.ending.Ending.TheVariants.{Done, Faulty}
use Rattle.msgq_cli.specs.declared.line.Line.{Line}
use Rattle.msgq_cli.specs.declared.reply.Reply.{Reply}
use Rattle.msgq_cli.proofs.OutputLemmas.{Prints-nil, Prints-then}
use Rattle.replays.specs.Replays.{ending_by, is_fault_told, replies_text, text_to}

push : (lines : List Line) (replies : List (Option Reply)) (line : Line) (r : Option Reply) →
    length replies ≡ length lines →
    replies_text (lines ++ line ∷ []) (replies ++ r ∷ []) ≡ replies_text lines replies ++ text_to line r
push [] [] line None same = refl
push [] [] line (Some reply) same = append-nil (reply_text line.number reply)
push [] (x ∷ xs) line r same = absurd (omega arith)
push (l ∷ ls) [] line r same = absurd (omega arith)
push (l ∷ ls) (None ∷ xs) line r same = push ls xs line r (omega arith)
push (l ∷ ls) (Some x ∷ xs) line r same =
    ap (λ text. reply_text l.number x ++ text) (push ls xs line r (omega arith))
    ∙ sym (append_assoc (reply_text l.number x) (replies_text ls xs) (text_to line r))

ending-push : (replies : List (Option Reply)) (r : Option Reply) →
    ending_by (replies ++ r ∷ []) ≡ (if is_fault_told r then Faulty else ending_by replies)
ending-push [] r = by (is_fault_told r)
  where
    by : (b : Bool) → (if b || false then Faulty else Done) ≡ (if b then Faulty else Done)
    by true = refl
    by false = refl
ending-push (x ∷ xs) r = by (is_fault_told x) (ending-push xs r)
  where
    by : (b : Bool) → ending_by (xs ++ r ∷ []) ≡ (if is_fault_told r then Faulty else ending_by xs)
        → (if b || list_any is_fault_told (xs ++ r ∷ []) then Faulty else Done)
        ≡ (if is_fault_told r then Faulty else if b || list_any is_fault_told xs then Faulty else Done)
    by true same = both (is_fault_told r)
      where
        both : (b : Bool) → Faulty ≡ (if b then Faulty else Faulty)
        both true = refl
        both false = refl
    by false same = same

-- the replies that there are to some lines were printed
pub record ArePrinted (lines : List Line) (replies : List (Option Reply)) (old new : OutputState) (ending : Ending)
    : Type 0 where
  pub prints : Prints old new (replies_text lines replies)
  pub ends : ending ≡ ending_by replies

pub ArePrinted-start : (o : OutputState) → ArePrinted [] [] o o Done
ArePrinted-start o = record { prints = Prints-nil o; ends = refl }

pub ArePrinted-push : (lines : List Line) (replies : List (Option Reply)) (line : Line) (r : Option Reply)
    (a b c : OutputState) (before after : Ending) → length replies ≡ length lines →
    ArePrinted lines replies a b before → Prints b c (text_to line r) →
    after ≡ (if is_fault_told r then Faulty else before) →
    ArePrinted (lines ++ line ∷ []) (replies ++ r ∷ []) a c after
ArePrinted-push lines replies line r a b c before after same printed prints ends = record {
  prints = subst (Prints a c) (sym (push lines replies line r same))
      (Prints-then a b c _ _ printed.prints prints);
  ends = ends ∙ ap (λ e. if is_fault_told r then Faulty else e) printed.ends ∙ sym (ending-push replies r);
}

-- the next line of all
pub ArePrinted-next : (lines : List Line) (replies : List (Option Reply)) (i : ℕ) (line : Line) (r : Option Reply)
    (a b c : OutputState) (before after : Ending) → length replies ≡ length lines → i < length lines →
    line ≡ get_or lines i line → r ≡ get_or replies i r →
    ArePrinted (take i lines) (take i replies) a b before → Prints b c (text_to line r) →
    after ≡ (if is_fault_told r then Faulty else before) →
    ArePrinted (take (i + 1) lines) (take (i + 1) replies) a c after
ArePrinted-next lines replies i line r a b c before after same below is has printed prints ends =
    let short : i < length replies = omega (arith, same, below) in
    let same_taken : length (take i replies) ≡ length (take i lines) =
    length-take-le i replies (omega (arith, short)) ∙ sym (length-take-le i lines (omega (arith, below))) in
    let more : take (i + 1) lines ≡ take i lines ++ line ∷ [] =
    take_more lines i line below ∙ ap (λ (l : Line). take i lines ++ l ∷ []) (sym is) in
    let more_replies : take (i + 1) replies ≡ take i replies ++ r ∷ [] =
    take_more replies i r short ∙ ap (λ (x : Option Reply). take i replies ++ x ∷ []) (sym has) in
    subst (λ (ls : List Line). ArePrinted ls (take (i + 1) replies) a c after) (sym more)
    (subst (λ (rs : List (Option Reply)). ArePrinted (take i lines ++ line ∷ []) rs a c after) (sym more_replies)
    (ArePrinted-push (take i lines) (take i replies) line r a b c before after same_taken printed prints ends))
