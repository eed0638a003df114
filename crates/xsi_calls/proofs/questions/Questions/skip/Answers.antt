-- The find makes its moves, and the inquiry hears of what was read ahead.
use Rattle.std.proofs.Common.{◌≡◌, ℕ, ◌+◌, ◌≤◌, List, min, sym, ap, ◌∙◌, subst, arith, length, None}
use Rattle.page_locks.specs.declared.row.TheConstants.{MAX_LOCKS}
use Rattle.call_writes.specs.record_file.AccessWords.{HasNoFileLock}
use Rattle.call_writes.specs.record_file.BucketAccesses.{BucketView, begun_access}
use Rattle.call_writes.specs.record_file.BucketRuns.{FindsStraight}
use Rattle.call_writes.specs.record_file.Readings.{IsReadAhead, value_on}
use Rattle.call_writes.specs.record_file.declared.bucket_access.Deed.TheVariants as deeds
use Rattle.call_writes.proofs.of_record_file.FindAheadLemmas.{finds_ahead, found_there, same_ahead}
use Rattle.xsi_calls.specs.Answering.{key_asked}
use Rattle.xsi_calls.specs.Counting.{MOST_FINDS}
use Rattle.xsi_calls.specs.QuestionRuns.{AsksAtOnce}
use Rattle.xsi_calls.specs.Questions.{question_searches}
use Rattle.xsi_calls.specs.QuestionSteps.{MakesQuestions}
use Rattle.xsi_calls.specs.QuestionWords.{Lock, PoolState, RecordKey, row_of}
use Rattle.xsi_calls.proofs.QuestionAtOnceLemmas.{asks_at_once, ready_is}
use Rattle.xsi_calls.proofs.questions.Questions.skip.Goals as goal

pub returns-clause-made : goal.returns-clause-made
returns-clause-made g c = λ made.
    let hash = g.K.PseudoKey.of_key c.args.keys.now in
    let i = c.args.self.now in
    let pool = c.args.pool.now in
    let locks = c.args.locks.now in
    let seat = c.args.seat in
    let page = c.in-Some-heads_for.page in
    let found = c.in-Some-record_ahead.found in
    let k = c.of.result in
    let key = key_asked c.in-Some.wanted in
    let key_is = c.key_asked-key.ensures in
    let names = c.keep_order.ensures in
    let row = c.requires.row in
    let asked = sym c.wants.ensures ∙ c.in-Some.is in
    let turn = sym c.turn.ensures
    ∙ ready_is c.turn.result (sym c.is_ready.ensures ∙ c.if-not-is_ready.false) in
    let keyed = sym (ap (g.K.PseudoKey.of_key c.args.keys.now) key_is) ∙ sym c.of.ensures in
    let straight : FindsStraight seat page (begun_access deeds.Find key k) pool locks =
    subst (λ (b : BucketView). FindsStraight seat page b pool locks)
    (c.new-find.ensures ∙ ap (λ (x : RecordKey). begun_access deeds.Find x k) key_is)
    c.in-Some-heads_for.ensures.moves in
    let bare : HasNoFileLock (row_of locks seat) = subst HasNoFileLock (sym row) names.no_file in
    let room : length (row_of locks seat) + 3 ≤ MAX_LOCKS =
    omega (arith, ap (λ (ls : List Lock). length ls) row, names.few) in
    let finds = finds_ahead seat pool locks key k page c.requires.ready c.requires.seat bare room straight in
    let read : IsReadAhead found key (value_on pool page key) =
    subst (λ (x : RecordKey). IsReadAhead found x (value_on pool page x)) key_is
    (subst (λ (p : PoolState). IsReadAhead found c.key_asked-key.result (value_on p page c.key_asked-key.result))
    c.heads_for.ensures.pool c.in-Some-record_ahead.ensures) in
    let more : c.saturating_add-self.result ≡ min (i.finds + 1) MOST_FINDS =
    c.saturating_add-self.ensures in
    subst (λ (n : ℕ). AsksAtOnce (MakesQuestions
    (g.K.PseudoKey.of_key c.args.keys.now) c.args.seat c.args.call.now) question_searches c.args.seat (record {
      inquiry = c.args.self.now.inquiry;
      room = c.args.self.now.room;
      names = c.args.self.now.names;
      question = None;
      finds = c.args.self.now.finds;
    }) (record {
      inquiry = c.hear.new.inquiry;
      room = c.hear.new.room;
      names = c.args.self.now.names;
      question = None;
      finds = n;
    }) c.args.pool.now c.args.locks.now) (sym more)
    (asks_at_once hash c.args.seat c.args.call.now i.inquiry i.room i.names names c.args.pool.now
    c.args.locks.now row c.requires.seat i.finds c.in-Some.wanted asked turn c.of.result keyed
    (found_there seat pool locks key k page) finds found (same_ahead seat pool locks key k page found read)
    c.hear.new.inquiry c.hear.new.room c.hear.result c.hear.ensures.hears)
