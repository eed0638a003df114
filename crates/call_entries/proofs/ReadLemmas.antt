-- What is read of bytes, and when they begin with no entry.
use Rattle.std.proofs.Common.{◌≡◌, ℕ, ◌+◌, ◌-◌, ◌<◌, ◌≤◌, ◌==◌, Bool, true, false, refl, sym, ap, ◌∙◌, subst, arith, List, [], ◌∷◌, ◌++◌, length, take, drop, Option, Some, None, Result, Ok, Err}
use Rattle.std.specs.Prelude.{if◌then◌else◌}
use Rattle.std.proofs.lemmas.Bool.{eqb-true}
use Rattle.std.proofs.lemmas.List.{length-drop, take-append-drop}
use Rattle.numbers.proofs.NumberLaws.{IsBytes, IsBytes-drop}
use Rattle.queue_model.specs.declared.call.Call.{Call}
use Rattle.queue_model.specs.declared.call.Call.TheVariants.{Get, Send, Receive, Stat, Set, Remove}
use Rattle.queue_model.specs.declared.caller.Caller.{Caller}
use Rattle.frames.specs.Little.{eight, eight_at}
use Rattle.frames.specs.Records.{Fits, IsFirst, Measures, ReadsAs, at_moment, call_at, spelled}
use Rattle.frames.specs.Spelling.{asked_by}
use Rattle.frames.specs.declared.incoming.Incoming.{Incoming}
use Rattle.frames.specs.declared.incoming.Kind.{Kind}
use Rattle.frames.specs.declared.incoming.Kind.TheVariants as kinds
use Rattle.frames.specs.declared.incoming.Operation.{Operation}
use Rattle.frames.specs.declared.incoming.Operation.TheVariants as operations
use Rattle.frames.specs.declared.incoming.Unread.{Unread}
use Rattle.frames.specs.declared.incoming.Unread.TheVariants.{Broken, Wrong}
use Rattle.frames.proofs.FrameLaws.{is_same}
use Rattle.frames.proofs.LittleLaws.{eight_takes}
use Rattle.frames.proofs.RecordLaws.{found_first}
use Rattle.call_entries.specs.Entries.{FitsEntry, entry_bytes, moment_of, nobody}
use Rattle.call_entries.specs.Reading.{BeginsWithNone, IsCutInto, entry_at, entry_in, entry_of_kind}
use Rattle.call_entries.specs.declared.entry.CallEntry.{CallEntry}
use Rattle.call_entries.specs.declared.reading.Parts.{Parts}
use Rattle.call_entries.proofs.EntryLemmas.{asked, behind_eight, its_moment, its_record, long_behind, long_enough, parted, same_record}

-- ---- the entry of what was asked for

passed : {X : Type 0} (b : Bool) (x : Option X) (y : X) → (if b then x else None) ≡ Some y → (b ≡ true) × (x ≡ Some y)
passed true x y is = (refl, is)
passed false x y is = absurd cc

record IsCallOf (moment check : ℕ) (caller : Caller) (op : Operation) (e : CallEntry) : Type 0 where
  pub operation : op ≡ operations.Call e.call
  pub caller_is : caller ≡ e.caller
  pub moment_is : moment_of e.call ≡ moment
  pub check_is : e.check ≡ check

by_operation : (moment check : ℕ) (caller : Caller) (op : Operation) (e : CallEntry) →
    entry_at moment check caller op ≡ Some e → IsCallOf moment check caller op e
by_operation moment check caller (operations.Call call) e is =
    let made : CallEntry = record { caller = caller; call = call; check = check } in
    let tests = passed (moment_of call == moment) (Some made) e is in
    let found : ◌≡◌ {A = Option CallEntry} (Some made) (Some e) = tests.1 in
    let same : made ≡ e = cc in
    record {
      operation = ap (λ (x : CallEntry). operations.Call x.call) same;
      caller_is = ap (λ (x : CallEntry). x.caller) same;
      moment_is = ap (λ (x : CallEntry). moment_of x.call) (sym same) ∙ eqb-true _ _ tests.0;
      check_is = ap (λ (x : CallEntry). x.check) (sym same);
    }
by_operation moment check caller (operations.Next after) e is = absurd cc
by_operation moment check caller (operations.Nth place) e is = absurd cc
by_operation moment check caller operations.Save e is = absurd cc
by_operation moment check caller operations.Info e is = absurd cc
by_operation moment check caller (operations.Cancel number) e is = absurd cc
by_operation moment check caller (operations.Reserve id mtype nowait) e is = absurd cc
by_operation moment check caller (operations.Acknowledge id) e is = absurd cc
by_operation moment check caller (operations.Release id) e is = absurd cc

record IsOf (moment check : ℕ) (i : Incoming) (e : CallEntry) : Type 0 where
  pub is : i ≡ asked e
  pub moment_is : moment_of e.call ≡ moment
  pub check_is : e.check ≡ check

by_kind : (moment check : ℕ) (caller : Caller) (kind : Kind) (e : CallEntry) →
    entry_of_kind moment check caller kind ≡ Some e →
    IsOf moment check (record { connection = 0; caller = caller; kind = kind }) e
by_kind moment check caller (kinds.Request r) e is =
    let tests = passed (r.number == 0) (entry_at moment check caller r.operation) e is in
    let number : r.number ≡ 0 = eqb-true _ _ tests.0 in
    let of_call = by_operation moment check caller r.operation e tests.1 in
    record {
      is = λ i. record {
        connection = 0;
        caller = of_call.caller_is i;
        kind = kinds.Request (record { number = number i; operation = of_call.operation i });
      };
      moment_is = of_call.moment_is;
      check_is = of_call.check_is;
    }
by_kind moment check caller kinds.Gone e is = absurd cc
by_kind moment check caller kinds.Tick e is = absurd cc
by_kind moment check caller kinds.End e is = absurd cc

by_incoming : (moment check : ℕ) (i : Incoming) (e : CallEntry) → entry_in moment check i ≡ Some e →
    IsOf moment check i e
by_incoming moment check i e is =
    let tests = passed (i.connection == 0) (entry_of_kind moment check i.caller i.kind) e is in
    let connection : i.connection ≡ 0 = eqb-true _ _ tests.0 in
    let of_kind = by_kind moment check i.caller i.kind e tests.1 in
    record {
      is = (λ j. record { connection = connection j; caller = i.caller; kind = i.kind }) ∙ of_kind.is;
      moment_is = of_kind.moment_is;
      check_is = of_kind.check_is;
    }

pub is_read : (bytes : List ℕ) (p : Parts) (i : Incoming) (e : CallEntry) → IsCutInto bytes p →
    spelled i ≡ p.request.now → entry_in p.moment p.check i ≡ Some e → bytes ≡ entry_bytes e ++ p.rest.now
is_read bytes p i e cut spells found =
    let of_it = by_incoming p.moment p.check i e found in
    let record_is : p.request.now ≡ spelled (asked e) = sym spells ∙ ap spelled of_it.is in
    cut.is
    ∙ (λ j. eight (sym of_it.moment_is j) ++ (record_is j ++ (eight (sym of_it.check_is j) ++ p.rest.now)))
    ∙ sym (parted e p.rest.now)

-- ---- no entry

abbrev of_call : Caller → Call → ℕ → CallEntry
of_call caller call check = record { caller = caller; call = call; check = check }

is_there : (m n : ℕ) (e : CallEntry) → n ≡ m → (if n == m then Some e else None) ≡ Some e
is_there m n e is = ap (λ (b : Bool). if b then Some e else None) (is_same n m is)

its_entry : (m c : ℕ) (caller : Caller) (call : Call) → moment_of call ≡ m →
    entry_in m c (at_moment m (asked_by nobody caller call))
    ≡ Some (of_call caller (call_at m call) c)
its_entry m c caller (Get a) is = is_there m m (of_call caller (Get (record a { moment = m })) c) refl
its_entry m c caller (Send a) is = is_there m m (of_call caller (Send (record a { moment = m })) c) refl
its_entry m c caller (Receive a) is = is_there m m (of_call caller (Receive (record a { moment = m })) c) refl
its_entry m c caller (Stat id) is = is_there m 0 (of_call caller (Stat id) c) is
its_entry m c caller (Set a) is = is_there m m (of_call caller (Set (record a { moment = m })) c) refl
its_entry m c caller (Remove id) is = is_there m 0 (of_call caller (Remove id) c) is

module _ (bytes : List ℕ) (p : Parts) (cut : IsCutInto bytes p) (told : Result Incoming Unread)
    (only : (i : Incoming) → Fits i → spelled i ≡ p.request.now → ReadsAs (at_moment p.moment i) told) where
  reads : (e : CallEntry) (rest : List ℕ) → FitsEntry e → bytes ≡ entry_bytes e ++ rest →
      ReadsAs (at_moment p.moment (asked e)) told
  reads e rest fits is =
      let behind : drop 8 bytes ≡ p.request.now ++ (eight p.check ++ p.rest.now) =
      ap (drop 8) cut.is ∙ behind_eight p.moment (p.request.now ++ (eight p.check ++ p.rest.now)) in
      only (asked e) fits.asked (same_record e rest bytes fits is p.request.now _ cut.first.counted behind).0

  not_refused : (fault : Unread) → told ≡ Err fault →
      ((i : Incoming) → ReadsAs i (Err fault) → ⊥) → BeginsWithNone bytes
  not_refused fault is none e rest fits same =
      none (at_moment p.moment (asked e)) (subst (λ (r : Result Incoming Unread). ReadsAs
      (at_moment p.moment (asked e)) r) is (reads e rest fits same))

  pub not_broken : (fault : Unread) → told ≡ Err fault → fault ≡ Broken → BeginsWithNone bytes
  not_broken fault is broken = not_refused fault is (λ i read_as.
      subst (λ (f : Unread). ReadsAs i (Err f)) broken read_as)

  pub not_wrong : (fault : Unread) (connection number : ℕ) → told ≡ Err fault → fault ≡ Wrong connection number →
      BeginsWithNone bytes
  not_wrong fault connection number is wrong = not_refused fault is (λ i read_as.
      subst (λ (f : Unread). ReadsAs i (Err f)) wrong read_as)

  pub not_of_call : (i : Incoming) → told ≡ Ok i → None ≡ entry_in p.moment p.check i → BeginsWithNone bytes
  not_of_call i is none e rest fits same =
      let as_asked : i ≡ at_moment p.moment (asked e) =
      subst (λ (r : Result Incoming Unread). ReadsAs (at_moment p.moment (asked e)) r) is (reads e rest fits same) in
      let moment : moment_of e.call ≡ p.moment = sym (its_moment e rest bytes fits same) ∙ sym cut.moment in
      let there = its_entry p.moment p.check e.caller e.call moment in
      let found = none ∙ ap (entry_in p.moment p.check) as_asked ∙ there in
      absurd cc

pub too_short : (bytes : List ℕ) → length bytes < 8 → BeginsWithNone bytes
too_short bytes short e rest fits is = let long = long_enough e rest bytes fits is in absurd
    (omega (arith, short, long))

-- ---- the first entry is cut off

pub first_of : (behind : List ℕ) (told : Result (Option ℕ) Unread) (found : Option ℕ) (size : ℕ) →
    Measures behind told → told ≡ Ok found → found ≡ Some size → IsFirst behind size
first_of behind told found size measures is some =
    subst (Measures behind) (is ∙ ap (λ (x : Option ℕ). Ok x) some) measures

module _ (bytes behind : List ℕ) (is_behind : behind ≡ drop 8 bytes) where
  pub no_record : (told : Result (Option ℕ) Unread) → Measures behind told →
      ((size : ℕ) → told ≡ Ok (Some size) → ⊥) → BeginsWithNone bytes
  no_record told measures none e rest fits is =
      none _ (found_first behind told measures (asked e) _ fits.asked (is_behind ∙ its_record e rest bytes fits is))

  pub no_check : (size : ℕ) → IsFirst behind size → length behind - size < 8 → BeginsWithNone bytes
  no_check size first short e rest fits is =
      let found = found_first behind (Ok (Some size)) first (asked e) _ fits.asked
      (is_behind ∙ its_record e rest bytes fits is) in
      let same : size ≡ length (spelled (asked e)) = cc in
      let long = long_behind e rest bytes fits is in
      absurd (omega (arith, same, short, long, ap length is_behind))

  module _ (front last : List ℕ) (size : ℕ) (first : IsFirst behind size) (is_front : front ≡ take size behind)
      (is_last : last ≡ drop size behind) where
    -- the record has this size
    pub is_first : length front ≡ size → IsFirst (drop 8 bytes) (length front)
    is_first long = subst (λ (xs : List ℕ). IsFirst xs (length front)) is_behind
        (subst (IsFirst behind) (sym long) first)

    -- the parts, one behind the other
    pub is_cut : (rest : List ℕ) (moment check : ℕ) → IsBytes bytes → 8 ≤ length bytes → 8 ≤ length behind - size →
        moment ≡ eight_at 0 bytes → check ≡ eight_at 0 last → rest ≡ drop 8 last →
        bytes ≡ eight moment ++ (front ++ (eight check ++ rest))
    is_cut rest moment check all long longer m c r =
        let whole = sym (take-append-drop size behind) in
        let split : behind ≡ front ++ last = whole ∙ (λ i. sym is_front i ++ sym is_last i) in
        let all_behind : IsBytes behind = subst IsBytes (sym is_behind) (IsBytes-drop 8 bytes all) in
        let all_last : IsBytes last = subst IsBytes (sym is_last) (IsBytes-drop size behind all_behind) in
        let long_last : 8 ≤ length last = omega (arith, longer, ap length is_last, length-drop size behind) in
        eight_takes 0 bytes long all
        ∙ (λ i. eight (sym m i) ++ sym is_behind i)
        ∙ ap (λ (xs : List ℕ). eight moment ++ xs) split
        ∙ ap (λ (xs : List ℕ). eight moment ++ (front ++ xs))
        (eight_takes 0 last long_last all_last ∙ (λ i. eight (sym c i) ++ sym r i))
