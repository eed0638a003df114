use Rattle.std.proofs.Common.{rules, ◌<◌, ◌≡◌, ◌∷◌, length, take, take_all}
use Rattle.msgq_cli.specs.Texts.{text_of}
use Rattle.msgq_cli.proofs.OutputLemmas.{Prints-nil, Prints-spaced, Prints-line}
use Rattle.msgq_cli.proofs.output.Output.word_by_word.Goals as goal

pub loop-word-init : goal.loop-word-init
loop-word-init g c = Prints-nil _

pub loop-word-preserved : goal.loop-word-preserved
loop-word-preserved g c =
    let i = c.loop-word.word-index in
    let below : i < length c.in-Some.rest.now = search rules in
    let word = c.word-in-loop-word.ensures in
    Prints-spaced c.word.new.self c.loop-word.self c.put-in-loop-word.new.self
    c.word-in-loop-word.new.self text_of c.in-Some.rest.now i _ below c.loop-word.invariant
    c.put-in-loop-word.ensures word

pub returns : goal.returns
returns g c =
    let parts : c.args.words.now ≡ c.in-Some.first.now ∷ c.in-Some.rest.now = search rules in
    let all : take c.loop-word.word-index c.in-Some.rest.now ≡ c.in-Some.rest.now =
    take_all _ c.in-Some.rest.now (search rules) in
    let words = rw all at c.loop-word.invariant in
    rw parts
    (Prints-line c.args.self.now c.word.new.self c.loop-word.self c.put-2.new.self text_of
    c.in-Some.first.now c.in-Some.rest.now c.word.ensures words c.put-2.ensures)
