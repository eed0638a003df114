-- Each wrong turn is refused.
use Rattle.std.proofs.Common.{◌≡◌, ◌<◌, ◌≤◌, ◌+◌, ◌⊎◌, ◌^◌, ℕ, true, false, List, [], ◌∷◌, Option, Some, None, refl, sym, ap, ◌∙◌, subst, inl, inr, arith}
use Rattle.std.proofs.lemmas.Bool.{true≢false}
use Rattle.std.proofs.lemmas.Nat.{pow_pos}
use Rattle.std.specs.List.{Contains}
use Rattle.directory.specs.declared.range.Range.{Range}
use Rattle.directory.specs.Ranges.{Covers}
use Rattle.directory.proofs.MemberLaws.{contains_cases, contains_none}
use Rattle.bucket_page.specs.declared.layout.TheConstants.{ROOM_BYTES}
use Rattle.bucket_page.specs.Keys.{is_below}
use Rattle.page_locks.specs.Table.{held, without_lock}
use Rattle.page_locks.proofs.ChangeLemmas.{ChangesOnly-release}
use Rattle.directory.specs.Entries.{page_of}
use Rattle.hash_file.specs.Changes.{RecordWrite, Put, Replace, Remove, key_of, write_record}
use Rattle.hash_file.specs.Examples.{number_of, key, numbers_at}
use Rattle.step_rules.specs.Words.{LockKind, Read, Exclusive, Directory, Page, Store, bucket_at, range_at, chain, Quiet, Taken, Drained, Answers}
use Rattle.step_rules.specs.World.{World}
use Rattle.step_rules.specs.Pages.{used_on, size_of}
use Rattle.step_rules.specs.LockSteps.{MovesOn, Releases}
use Rattle.step_rules.specs.PageSteps.{Suits, WritesLeft}
use Rattle.step_rules.specs.Turns.{HopsJust, WritesJust, SplitsFor}
use Rattle.step_rules.proofs.LockLemmas.{names_eq}
use Rattle.machine_trials.specs.Schedule.{record_of, first, third, raised, linked, split, with_third, merged, world, beside_queue, in_directory}
use Rattle.machine_trials.specs.WrongTurns.{alone, both, standing, WrongTurns}
use Rattle.machine_trials.proofs.TwoSeats.{chain_first, chain_raised, chain_split, chain_with_third, used_two, size_is}

-- ---- pages of short chains

one_page : (s : Store) (n : ℕ) → chain s ≡ 257 ∷ [] → Contains (chain s) n → n ≡ 257
one_page s n is there = elim (contains_cases 257 n [] (subst (λ (ns : List ℕ). Contains ns n) is there)) [
  | inl same ↦ sym same
  | inr none ↦ absurd (contains_none n none)
]

two_pages : (s : Store) (n : ℕ) → chain s ≡ 257 ∷ 258 ∷ [] → Contains (chain s) n → (n ≡ 257) ⊎ (n ≡ 258)
two_pages s n is there = elim (contains_cases 257 n (258 ∷ []) (subst (λ (ns : List ℕ). Contains ns n) is there)) [
  | inl same ↦ inl (sym same)
  | inr rest ↦ elim (contains_cases 258 n [] rest) [
    | inl same ↦ inr (sym same)
    | inr none ↦ absurd (contains_none n none)
  ]
]

-- ---- hops

-- an even pseudokey is answered for by page 257, and an odd one is not
answers_even : Answers linked 257 2
answers_even = (refl, refl)

not_odd : Answers linked 257 1 → ⊥
not_odd answers = absurd (let e : 1 ≡ 0 = answers.1 in omega (arith, e))

-- what the row of seat 2 says
abbrev locks_two : World → Option LockKind
locks_two w = held w.locks 2 (Page 257)

hops_past : HopsJust 257 2 2 (standing 257) (standing 258) → ⊥
hops_past does = by does.hops.hops
  where
    by : (Answers linked does.hops.page does.hops.pseudokey × (standing 258 ≡ standing 257))
        ⊎ ((Answers linked does.hops.page does.hops.pseudokey → ⊥)
        × MovesOn does.hops.page does.hops.kind 2 (standing 257) (standing 258)) → ⊥
    by (inl back) = absurd (let e : None ≡ Some Read = ap locks_two back.1 in cc)
    by (inr on) = on.0 (subst (λ (k : ℕ). Answers linked does.hops.page k) (sym does.pseudokey_is)
        (subst (λ (n : ℕ). Answers linked n 2) (sym does.page_is) answers_even))

stays : HopsJust 257 1 2 (standing 257) (standing 257) → ⊥
stays does = by does.hops.hops
  where
    by : (Answers linked does.hops.page does.hops.pseudokey × (standing 257 ≡ standing 257))
        ⊎ ((Answers linked does.hops.page does.hops.pseudokey → ⊥)
        × MovesOn does.hops.page does.hops.kind 2 (standing 257) (standing 257)) → ⊥
    by (inl back) = not_odd (subst (λ (k : ℕ). Answers linked 257 k) does.pseudokey_is
        (subst (λ (n : ℕ). Answers linked n does.hops.pseudokey) does.page_is back.0))
    by (inr on) = gone (subst (λ (n : ℕ). MovesOn n does.hops.kind 2 (standing 257) (standing 257)) does.page_is on.1)
      where
        gone : MovesOn 257 does.hops.kind 2 (standing 257) (standing 257) → ⊥
        gone g = absurd (let e : Some Read ≡ None = ap locks_two g.is in cc)

-- ---- the directory

too_deep : Releases 1 (world merged (beside_queue (in_directory Exclusive)) [] Quiet)
    (world merged (beside_queue []) [] Quiet) → ⊥
too_deep r = elim (names_eq r.name Directory) [
  | inl same ↦ elim ((r.done same refl).halved refl) [
    | inl flat ↦ omega (arith, flat)
    | inr some ↦ some refl
  ]
  | inr other ↦
      let old : World = world merged (beside_queue (in_directory Exclusive)) [] Quiet in
      let kept = (ChangesOnly-release old.locks 1 r.seated r.name).names Directory other in
      let gone : None ≡ held (without_lock old.locks 1 r.name) 1 Directory =
      ap (λ (w : World). held w.locks 1 Directory) r.is in
      absurd (let e : None ≡ Some Exclusive = gone ∙ kept in cc)
]

-- ---- records

-- with the record that was put page 258 has too many bytes by itself
used_upper : used_on with_third 258 ≡ 3230
unfolding is_below
used_upper = used_two 1 3000 3 200

module _ (new : World) where
  removes : WritesJust number_of (Remove (key 5)) 1 (alone first Quiet) new → ⊥
  removes does =
      let w = does.writes in
      let suits = subst (λ (x : RecordWrite). Suits x (bucket_at first w.page)) does.write_is w.suits in
      let here = subst (λ (n : ℕ). Suits (Remove (key 5)) (bucket_at first n))
      (one_page first w.page chain_first w.home.0) suits in
      absurd (let e : false ≡ true = here in cc)

  replaces : WritesJust number_of (Replace (record_of 0 10)) 1 (alone first Quiet) new → ⊥
  replaces does =
      let w = does.writes in
      let suits = subst (λ (x : RecordWrite). Suits x (bucket_at first w.page)) does.write_is w.suits in
      let here = subst (λ (n : ℕ). Suits (Replace (record_of 0 10)) (bucket_at first n))
      (one_page first w.page chain_first w.home.0) suits in
      absurd (let e : ◌≡◌ {A = Option ℕ} (Some 1000) (Some 10) = here in cc)

  puts : WritesJust number_of (Put third) 1 (alone first Quiet) new → ⊥
  puts does =
      let w = does.writes in
      let suits = subst (λ (x : RecordWrite). Suits x (bucket_at first w.page)) does.write_is w.suits in
      let here : used_on first 257 + size_of third ≤ ROOM_BYTES =
      subst (λ (n : ℕ). Suits (Put third) (bucket_at first n)) (one_page first w.page chain_first w.home.0) suits in
      let used : used_on first 257 ≡ 4030 = used_two 0 1000 1 3000 in
      let size : size_of third ≡ 215 = size_is 3 200 in
      omega (arith, here, used, size)

  splits : SplitsFor number_of (record_of 3 1) 1 (alone first Quiet) (λ page. Unit {0}) → ⊥
  splits for =
      let here : ROOM_BYTES < used_on first 257 + size_of (record_of 3 1) =
      subst (λ (n : ℕ). ROOM_BYTES < used_on first n + size_of (record_of 3 1))
      (one_page first for.page chain_first for.lacks.home.0) for.lacks.full in
      let used : used_on first 257 ≡ 4030 = used_two 0 1000 1 3000 in
      let size : size_of (record_of 3 1) ≡ 16 = size_is 3 1 in
      omega (arith, here, used, size)

  doubles : SplitsFor number_of third 1 (alone raised (Taken 258))
      (λ page. (bucket_at raised page).depth ≡ 1) → ⊥
  doubles for =
      let here : 0 ≡ 1 = subst (λ (n : ℕ). (bucket_at raised n).depth ≡ 1)
      (one_page raised for.page chain_raised for.lacks.home.0) for.is in
      omega (arith, here)

  merges : WritesLeft 1 (both with_third) new → ⊥
  merges does = elim (two_pages with_third does.right chain_with_third does.right_on) [
    | inr is ↦
        let right : used_on with_third does.right ≡ 3230 = ap (used_on with_third) is ∙ used_upper in
        omega (arith, right, does.small)
    | inl is ↦ elim (two_pages with_third does.left chain_with_third does.left_on) [
      | inr left_is ↦
          let left : used_on with_third does.left ≡ 3230 = ap (used_on with_third) left_is ∙ used_upper in
          omega (arith, left, does.small)
      | inl left_is ↦
          let low : (range_at with_third does.left).pattern ≡ does.whole.pattern =
          ap (λ (r : Range). r.pattern) does.halves.lower in
          let high : (range_at with_third does.right).pattern ≡ does.whole.pattern + 2 ^ does.whole.depth =
          ap (λ (r : Range). r.pattern) does.halves.upper in
          let zero_left : (range_at with_third does.left).pattern ≡ 0 =
          ap (λ (n : ℕ). (range_at with_third n).pattern) left_is in
          let zero_right : (range_at with_third does.right).pattern ≡ 0 =
          ap (λ (n : ℕ). (range_at with_third n).pattern) is in
          omega (arith, low, high, zero_left, zero_right, pow_pos does.whole.depth)
    ]
  ]

another : WritesJust number_of (Put third) 1 (both split) (both (write_record 258 (Put (record_of 5 200)) split)) → ⊥
unfolding is_below
another does = by (two_pages split does.writes.page chain_split does.writes.home.0)
  where
    home : Covers (range_at split does.writes.page) 3
    home = subst (λ (x : RecordWrite). Covers (range_at split does.writes.page) (number_of (key_of x))) does.write_is
        does.writes.home.1

    is : write_record 258 (Put (record_of 5 200)) split ≡ write_record does.writes.page (Put third) split
    is = ap (λ (w : World). w.store) does.writes.is
        ∙ ap (λ (x : RecordWrite). write_record does.writes.page x split) does.write_is

    by : (does.writes.page ≡ 257) ⊎ (does.writes.page ≡ 258) → ⊥
    by (inl low) = absurd (let e : 1 ≡ 0 = subst (λ (n : ℕ). Covers (range_at split n) 3) low home in omega (arith, e))
    by (inr high) =
        let same : ◌≡◌ {A = List ℕ} (1 ∷ 5 ∷ []) (1 ∷ 3 ∷ []) =
        ap (λ (s : Store). numbers_at s 258) (is ∙ ap (λ (n : ℕ). write_record n (Put third) split) high) in
        absurd cc

-- ---- the header has no entries

page_is_behind : (i : ℕ) → page_of i ≡ 0 → ⊥
page_is_behind i none = omega (arith, none)

pub wrong_turns : WrongTurns
wrong_turns = record {
  blocked_by_another_name = λ turns. absurd (true≢false (sym turns.0.against));
  blocked_at_a_look = λ turns. turns.0;
  hops_past_its_bucket = λ turns. hops_past turns;
  stays_where_it_is_not = λ turns. stays turns;
  page_without_directory = λ turns. absurd (true≢false (sym (turns.may.in_directory 258 refl)));
  given_back_too_deep = λ turns. too_deep turns;
  granted_exclusively = λ new turns. turns.may.shared refl refl;
  converted_while_quiet = λ new turns. absurd (let e : Quiet ≡ Drained turns.left turns.right = turns.drained in cc);
  answered_at_an_entry = λ page value taken. absurd (let e = taken.looked in cc);
  answered_without_a_lock = λ value told. absurd (true≢false (sym told.held));
  answered_elsewhere = λ value told. not_odd told.answers;
  removes_nothing = λ new turns. removes new turns;
  replaced_by_another_length = λ new turns. replaces new turns;
  put_without_room = λ new turns. puts new turns;
  writes_another_record = λ turns. another turns;
  merges_large_buckets = λ new turns. merges new turns.0;
  splits_with_room = λ new turns. splits new turns.1;
  doubles_again = λ new turns. doubles new turns.1;
  copies_the_header = λ seat old new does is.
      page_is_behind (does.upper.entry + 2 ^ old.store.header.depth) (does.upper.there ∙ is);
  retargets_the_header = λ seat old new does is. page_is_behind does.entry.entry (does.entry.there ∙ is);
}
