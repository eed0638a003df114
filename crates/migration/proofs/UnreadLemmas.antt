-- Lines of pages, one after the other.
use Rattle.std.proofs.Common.{◌≡◌, ◌∙◌, ◌<◌, ℕ, List, [], ◌∷◌, ◌++◌, ◌+◌, length, take, get_or, sym, ap, subst, append_assoc, append-nil, refl}
use Rattle.std.proofs.lemmas.List.{take_more}
use Rattle.msgq_cli.specs.Outputs.{OutputState, Prints}
use Rattle.msgq_cli.specs.Reports.{unread_text}
use Rattle.msgq_cli.proofs.OutputLemmas.{Prints-then}
use Rattle.migration.specs.declared.losses.Pages.{Pages}
use Rattle.migration.specs.Printing.{unread_texts}

texts-append : (xs ys : List Pages) → unread_texts (xs ++ ys) ≡ unread_texts xs ++ unread_texts ys
texts-append [] ys = refl
texts-append (pages ∷ rest) ys =
    ap (λ text. unread_text pages.first pages.last ++ text) (texts-append rest ys)
    ∙ sym (append_assoc (unread_text pages.first pages.last) (unread_texts rest) (unread_texts ys))

-- one line more
pub Prints-unread : (a b c : OutputState) (all : List Pages) (i : ℕ) (d : Pages) → i < length all
    → Prints a b (unread_texts (take i all))
    → Prints b c (unread_text (get_or all i d).first (get_or all i d).last)
    → Prints a c (unread_texts (take (i + 1) all))
Prints-unread a b c all i d below before line =
    let pages = get_or all i d in
    let one : unread_texts (pages ∷ []) ≡ unread_text pages.first pages.last =
    append-nil (unread_text pages.first pages.last) in
    let more : unread_texts (take (i + 1) all) ≡ unread_texts (take i all) ++ unread_text pages.first pages.last =
    ap unread_texts (take_more all i d below)
    ∙ texts-append (take i all) (pages ∷ [])
    ∙ ap (λ text. unread_texts (take i all) ++ text) one in
    subst (Prints a c) (sym more) (Prints-then a b c _ _ before line)
