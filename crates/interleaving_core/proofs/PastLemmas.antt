-- What a seat's call keeps of the journal stays so as the journal grows.
use Rattle.std.proofs.Common.{◌≡◌, refl, sym, ap, ◌∙◌, subst, ℕ, ◌≤◌, Bool, true, false, not, ◌||◌, List, [], ◌++◌, Option, Some, None, append-nil, drop, length, length-append, take, arith}
use Rattle.std.specs.List.{list_any}
use Rattle.std.proofs.Math.ListN.{drop_of_length-le}
use Rattle.std.proofs.Math.Seq.{take-length}
use Rattle.std.proofs.lemmas.List.{drop-append-le, length-take-le, take-append-drop, take-append-le}
use Rattle.std.proofs.lemmas.List.Elements.{filter-append}
use Rattle.std.proofs.lemmas.List.Folds.{list_any-append}
use Rattle.queue_model.specs.Journal.{is_of, part_of}
use Rattle.interleaving_core.specs.Active.{ActiveView, BeginsAgain, HasBegun}
use Rattle.interleaving_core.specs.Past.{HasLooked, IsOfJournal, KeepsJournal}
use Rattle.interleaving_core.specs.Waiting.{is_woken, queue_on, stays_waiting, wakes}
use Rattle.interleaving_core.specs.Words.{Call, Caller, Entry, answer_of_call}
use Rattle.interleaving_core.specs.Past.{entry_of}

-- ---- a longer journal

still_within : (n : ℕ) (journal added : List Entry) → n ≤ length journal → n ≤ length (journal ++ added)
still_within n journal added within = let both = length-append journal added in omega (arith, within, both)

pub part_since : (seat since : ℕ) (journal added : List Entry) → since ≤ length journal →
    part_of seat (drop since (journal ++ added)) ≡ part_of seat (drop since journal) ++ part_of seat added
part_since seat since journal added within =
    ap (part_of seat) (drop-append-le since journal added within)
    ∙ filter-append (is_of seat) (drop since journal) added

-- by entries that are none of its seat's
pub kept_beside : (seat : ℕ) (journal added : List Entry) (at : Option ActiveView) → part_of seat added ≡ [] →
    KeepsJournal seat journal at → KeepsJournal seat (journal ++ added) at
kept_beside seat journal added None none kept = tt
kept_beside seat journal added (Some a) none kept = record {
  begun = still_within a.begun journal added kept.begun;
  decided = still_within a.decided journal added kept.decided;
  joined = part_since seat a.begun journal added kept.begun
      ∙ ap (λ (es : List Entry). part_of seat (drop a.begun journal) ++ es) none
      ∙ append-nil (part_of seat (drop a.begun journal)) ∙ kept.joined;
  looked = λ since told. record {
    from = (kept.looked since told).from;
    within = still_within since journal added (kept.looked since told).within;
    unwoken = ap (is_woken a.machine.call a.decided)
        (take-append-le since journal added (kept.looked since told).within) ∙ (kept.looked since told).unwoken;
  };
}

-- ---- a call that begins

none_some : (wait : Option ℕ) (since : ℕ) → wait ≡ None → wait ≡ Some since → ⊥
none_some None since none some = cc
none_some (Some n) since none some = cc

pub begun_keeps : (seat : ℕ) (caller : Caller) (call : Call) (journal : List Entry) (a : ActiveView) →
    HasBegun caller call (length journal) a → answer_of_call a.machine ≡ None → IsOfJournal seat journal a
begun_keeps seat caller call journal a begun none = record {
  begun = let is = begun.begun in omega (arith, is);
  decided = let is = begun.decided in omega (arith, is);
  joined = ap (part_of seat) (drop_of_length-le journal (let is = begun.begun in omega (arith, is)))
      ∙ sym (ap (entry_of seat (Some a.machine.call)) none);
  looked = λ since told. absurd (none_some a.wait since begun.awake told);
}

-- a call that waits begins anew
pub again_keeps : (seat : ℕ) (journal : List Entry) (come again : ActiveView) → BeginsAgain come again →
    answer_of_call come.machine ≡ None → answer_of_call again.machine ≡ None → IsOfJournal seat journal come →
    IsOfJournal seat journal again
again_keeps seat journal come again begins none none_again kept = record {
  begun = subst (λ (n : ℕ). n ≤ length journal) (sym begins.begun) kept.begun;
  decided = subst (λ (n : ℕ). n ≤ length journal) (sym begins.decided) kept.decided;
  joined = ap (λ (n : ℕ). part_of seat (drop n journal)) begins.begun ∙ kept.joined
      ∙ ap (entry_of seat (Some come.machine.call)) none
      ∙ sym (ap (entry_of seat (Some again.machine.call)) none_again);
  looked = λ since told. looked since (sym begins.wait ∙ told);
}
  where
    looked : (since : ℕ) → Some come.decided ≡ Some since → HasLooked journal again since
    looked since is =
        let same : come.decided ≡ since = cc in
        let here = begins.decided in
        let within = kept.decided in
        let long = length-take-le since journal (omega (arith, same, within)) in
        record {
          from = omega (arith, here, same);
          within = omega (arith, same, within);
          unwoken = ap (list_any (wakes (queue_on again.machine.call)))
              (drop_of_length-le (take since journal) (omega (arith, long, here, same)));
        }

-- ---- a call that waits on

or_false : (x y : Bool) → x ≡ false → y ≡ false → (x || y) ≡ false
or_false true y first last = absurd cc
or_false false y first last = last

not_true : (b : Bool) → not b ≡ true → b ≡ false
not_true true is = absurd cc
not_true false is = refl

-- nothing wakes it from its Decide on, where nothing did in what it looked at, and nothing does since
unwoken_since : (journal : List Entry) (a : ActiveView) (since : ℕ) → HasLooked journal a since →
    is_woken a.machine.call since journal ≡ false → is_woken a.machine.call a.decided journal ≡ false
unwoken_since journal a since looked rest =
    let p : Entry → Bool = wakes (queue_on a.machine.call) in
    let long = length-take-le since journal looked.within in
    let from = looked.from in
    let within : a.decided ≤ length (take since journal) = omega (arith, long, from) in
    ap (λ (es : List Entry). list_any p (drop a.decided es)) (sym (take-append-drop since journal))
    ∙ ap (list_any p) (drop-append-le a.decided (take since journal) (drop since journal) within)
    ∙ list_any-append p (drop a.decided (take since journal)) (drop since journal)
    ∙ or_false _ _ looked.unwoken rest

pub unwoken_still : (seat : ℕ) (journal : List Entry) (a : ActiveView) → IsOfJournal seat journal a →
    stays_waiting a.wait a.machine.call journal ≡ true → is_woken a.machine.call a.decided journal ≡ false
unwoken_still seat journal a kept stays = by a.wait refl
  where
    by : (wait : Option ℕ) → a.wait ≡ wait → is_woken a.machine.call a.decided journal ≡ false
    by None told = absurd (awake a.wait told stays)
      where
        awake : (wait : Option ℕ) → wait ≡ None → stays_waiting wait a.machine.call journal ≡ true → ⊥
        awake None none goes = cc
        awake (Some n) none goes = cc
    by (Some since) told = unwoken_since journal a since (kept.looked since told)
        (not_true (is_woken a.machine.call since journal)
        (sym (ap (λ (w : Option ℕ). stays_waiting w a.machine.call journal) told) ∙ stays))

-- it need not look at these entries again
pub waits_keeps : (seat : ℕ) (journal : List Entry) (a : ActiveView) →
    stays_waiting a.wait a.machine.call journal ≡ true → IsOfJournal seat journal a →
    IsOfJournal seat journal (record a { wait = Some (length journal) })
waits_keeps seat journal a stays kept = record {
  begun = kept.begun;
  decided = kept.decided;
  joined = kept.joined;
  looked = λ since told. looked since told;
}
  where
    looked : (since : ℕ) → Some (length journal) ≡ Some since →
        HasLooked journal (record a { wait = Some (length journal) }) since
    looked since is =
        let same : length journal ≡ since = cc in
        subst (HasLooked journal (record a { wait = Some (length journal) })) same (record {
          from = kept.decided;
          within = omega arith;
          unwoken = ap (is_woken a.machine.call a.decided) (take-length journal)
              ∙ unwoken_still seat journal a kept stays;
        })

-- a call that has looked at the whole journal
pub unwoken_whole : (seat : ℕ) (journal : List Entry) (a : ActiveView) → IsOfJournal seat journal a →
    a.wait ≡ Some (length journal) → is_woken a.machine.call a.decided journal ≡ false
unwoken_whole seat journal a kept told =
    ap (is_woken a.machine.call a.decided) (sym (take-length journal))
    ∙ (kept.looked (length journal) told).unwoken
