use Rattle.std.proofs.Common.{rules, ◌≡◌, List, Some, None, sym, ap, ◌∙◌}
use Rattle.std.specs.List.{position}
use Rattle.page_locks.specs.declared.lock.Lock.{Lock}
use Rattle.page_locks.specs.Locks.{is_on, without}
use Rattle.page_locks.proofs.RowLemmas.{without-first, without-absent}
use Rattle.page_locks.proofs.row.Row.remove.Goals as goal

-- the one lock on the name is taken out
pub returns-in-Some : goal.returns-in-Some
returns-in-Some c =
    let xs = c.self.inside.locks.items in
    let name = c.args.name in
    let once = rw (← c.self.view_is) at c.requires.once in
    let at : position (is_on name) xs ≡ Some c.in-Some.place =
    ap (position (is_on name)) (sym c.as_slice.ensures.value) ∙ sym c.place_of.ensures ∙ c.in-Some.is
    in
    c.remove.ensures.items ∙ without-first xs name c.in-Some.place once at ∙
    ap (λ (locks : List Lock). without locks name) c.self.view_is

-- where there is none all stay
pub returns-in_default : goal.returns-in_default
returns-in_default c =
    let xs = c.self.inside.locks.items in
    let name = c.args.name in
    let none : c.place_of.result ≡ None = search rules in
    let at : position (is_on name) xs ≡ None =
    ap (position (is_on name)) (sym c.as_slice.ensures.value) ∙ sym c.place_of.ensures ∙ none
    in
    sym (ap (λ (locks : List Lock). without locks name) (sym c.self.view_is) ∙ without-absent xs name at ∙
    c.self.view_is)
