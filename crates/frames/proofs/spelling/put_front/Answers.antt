-- Each part is set behind those before it, and then all of them are put last.
use Rattle.std.proofs.Common.{◌≡◌, ℕ, ◌+◌, List, [], ◌∷◌, ◌++◌, ◌∙◌, refl, sym, take, ap}
use Rattle.std.proofs.Math.Seq.{take-length}
use Rattle.frames.specs.Little.{two, four}
use Rattle.frames.proofs.SpellLaws.{set_behind}
use Rattle.frames.proofs.spelling.put_front.Goals as goal

pub returns-clause-value : goal.returns-clause-value
returns-clause-value c =
    let all = c.put_all.ensures.value in
    let bytes = c.set_four-8.new.bytes in
    let a = set_behind (four (20 + c.args.behind)) [] [] (take 4 c.set_four.new.bytes) c.set_four.ensures.front refl in
    let b = set_behind (four c.args.connection) _ _ (take 8 c.set_four-2.new.bytes) c.set_four-2.ensures.front a in
    let d = set_behind (four 0) _ _ (take 12 c.set_four-3.new.bytes) c.set_four-3.ensures.front b in
    let e = set_behind (four c.args.caller.pid) _ _ (take 16 c.set_four-4.new.bytes) c.set_four-4.ensures.front d in
    let f = set_behind (four c.args.caller.uid) _ _ (take 20 c.set_four-5.new.bytes) c.set_four-5.ensures.front e in
    let g = set_behind (four c.args.caller.gid) _ _ (take 24 c.set_four-6.new.bytes) c.set_four-6.ensures.front f in
    let h =
    set_behind (four c.args.frame.now.number) _ _ (take 28 c.set_four-7.new.bytes) c.set_four-7.ensures.front g in
    let codes = c.args.frame.now.code ∷ c.args.frame.now.flags ∷ [] in
    let i = set_behind codes _ _ (take 30 c.set.new.bytes) c.set.ensures.front h in
    let j = set_behind (two c.args.frame.now.mode) _ _ (take 32 c.set_two.new.bytes) c.set_two.ensures.front i in
    let k = set_behind (four c.args.frame.now.id) _ _ (take 36 bytes) c.set_four-8.ensures.front j in
    let whole : bytes ≡ take 36 bytes =
    sym (take-length bytes)
    ∙ ap (λ (n : ℕ). take n bytes) (c.set_four-8.ensures.len ∙ c.set_two.ensures.len ∙ c.set.ensures.len
    ∙ c.set_four-7.ensures.len ∙ c.set_four-6.ensures.len ∙ c.set_four-5.ensures.len ∙ c.set_four-4.ensures.len
    ∙ c.set_four-3.ensures.len ∙ c.set_four-2.ensures.len ∙ c.set_four.ensures.len) in
    all ∙ ap (λ (xs : List ℕ). c.args.into.now.items ++ xs) (whole ∙ k)
