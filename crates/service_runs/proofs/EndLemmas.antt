-- How the service of a run ends.
use Rattle.std.proofs.Common.{◌≡◌, ◌≢◌, ◌≤◌, ℕ, Bool, true, false, inl, inr, List, [], length, Option, Some, None, refl, sym, ◌∙◌, subst, append-nil, arith}
use Rattle.std.specs.Prelude.{is_some, slice_index_or}
use Rattle.std.specs.Bool.{then_some}
use Rattle.numbers.specs.declared.faults.TheConstants.{DEVICE, FAILED}
use Rattle.interleavings.specs.interleaving_core.Fault.{close_number_of}
use Rattle.interleavings.specs.interleaving_core.declared.fault.CloseFault.{CloseFault}
use Rattle.interleavings.specs.interleaving_core.declared.fault.CloseFault.TheVariants as closes
use Rattle.interleavings.specs.interleaving_core.declared.fault.Failure.{Failure}
use Rattle.queue_model.specs.declared.entry.Entry.{Entry}
use Rattle.workers.proofs.EntryLemmas.{calls_below}
use Rattle.workers.specs.Entries.{seat_of}
use Rattle.workers.specs.Views.{calls_in, nobody}
use Rattle.workers.specs.Closing.{Each, HasItsPart, HasMostOfItsPart, IsClosed, IsFaulted, IsLetGo, Remains}
use Rattle.workers.specs.Origins.{Origin}
use Rattle.workers.specs.Told.{Sitter}
use Rattle.service_runs.specs.Beside.{HasEnded, IsPart}

-- ---- parts

whole : (fault : Option ℕ) (journal : List Entry) (x : Sitter) → HasItsPart journal x →
    IsPart fault journal x.seat x.list
whole fault journal x its = record {
  more = [];
  part = its.part ∙ sym (append-nil x.list);
  one = omega arith;
  exact = λ other. refl;
}

most : (journal : List Entry) (x : Sitter) → HasMostOfItsPart journal x → IsPart (Some FAILED) journal x.seat x.list
most journal x its = record {
  more = its.more;
  part = its.part;
  one = its.one;
  exact = λ other. absurd (other refl);
}

abbrev Parts : Option ℕ → List Entry → List Sitter → Type 0
Parts fault journal given = Each (λ (x : Sitter). IsPart fault journal x.seat x.list) given

-- what each seat knows is told, and stands in the journal
record Known (fault : Option ℕ) (journal : List Entry) (given : List Sitter) : Type 0 where
  pub failed : Each (λ (x : Sitter). x.failed ≡ true → fault ≡ Some FAILED) given
  pub shown : Each (λ (x : Sitter). x.seen ≤ length journal) given

seen_by : (journal : List Entry) (x : Sitter) → x.seen ≤ calls_in seat_of journal → x.seen ≤ length journal
seen_by journal x shown = let few = calls_below journal in omega (arith, shown, few)

wholes : (fault : Option ℕ) (journal : List Entry) (given seats : List Sitter) → seats ≡ given →
    Each (HasItsPart journal) seats → Parts fault journal given × Known fault journal given
wholes fault journal given seats same each =
    subst (λ (l : List Sitter). Parts fault journal l × Known fault journal l) same (
      (λ place below. whole fault journal (slice_index_or seats place nobody) (each place below)),
      record {
        failed = λ place below failed. unknown (each place below).unfailed failed;
        shown = λ place below. seen_by journal (slice_index_or seats place nobody) (each place below).shown;
      },
    )
  where
    unknown : {P : Type 0} {b : Bool} → b ≡ false → b ≡ true → P
    unknown unfailed failed = absurd cc

mosts : (journal : List Entry) (given seats : List Sitter) → seats ≡ given →
    Each (HasMostOfItsPart journal) seats → Parts (Some FAILED) journal given × Known (Some FAILED) journal given
mosts journal given seats same each =
    subst (λ (l : List Sitter). Parts (Some FAILED) journal l × Known (Some FAILED) journal l) same (
      (λ place below. most journal (slice_index_or seats place nobody) (each place below)),
      record {
        failed = λ place below failed. refl;
        shown = λ place below. seen_by journal (slice_index_or seats place nobody) (each place below).shown;
      },
    )

-- ---- it is let go, or closed, or not closed well

same_number : (m n : ℕ) → Some m ≡ Some n → m ≡ n
same_number m n is = cc

none_told : {P : Type 0} (n : ℕ) → ◌≡◌ {A = Option ℕ} None (Some n) → P
none_told n is = absurd cc

module _ (o : Origin) (given : List Sitter) (used : Bool) (left : Remains) where
  let_go : (untold : Bool) (fault : Option ℕ) → IsLetGo o given used left →
      Parts fault left.journal given × Known fault left.journal given → (untold ≡ false → fault ≡ None → ⊥) →
      ((n : ℕ) → fault ≡ Some n → (n ≡ FAILED) × (left.failure ≢ None)) → HasEnded o given used untold fault left
  let_go untold fault g parts never only = record {
    plain = g.ended.plain;
    mark = g.ended.mark;
    honest = g.ended.honest;
    parts = parts.0;
    kept = λ told none honest. absurd (never told none);
    synced = λ told none honest. absurd (never told none);
    before = λ either framed. g.before framed;
    number = λ n is. inr (only n is).0;
    failed = parts.1.failed;
    shown = parts.1.shown;
    reason = record {
      device = λ is. let no = (only DEVICE is).0 in absurd (omega (arith, no));
      step = λ honest is. g.cause honest (only FAILED is).1;
    };
  }

  pub let_go_ends : (failure : Option Failure) → failure ≡ left.failure → IsLetGo o given used left →
      HasEnded o given used true (then_some (is_some failure) FAILED) left
  let_go_ends None known g =
      let_go true None g (wholes None left.journal given left.seats g.ended.same (g.exact (sym known)))
      (λ told none. absurd cc) (λ n is. none_told n is)
  let_go_ends (Some failure) known g =
      let_go true (Some FAILED) g (mosts left.journal given left.seats g.ended.same g.parts)
      (λ told none. absurd cc)
      (λ n is. (sym (same_number FAILED n is), λ none. let no = known ∙ none in absurd cc))

  pub closed_ends : IsClosed o given used left → HasEnded o given used false None left
  closed_ends e =
      let parts = wholes None left.journal given left.seats e.sound.ended.same e.sound.parts in
      record {
        plain = e.sound.ended.plain;
        mark = e.sound.ended.mark;
        honest = e.sound.ended.honest;
        parts = parts.0;
        kept = λ told none honest. e.file honest;
        synced = λ told none honest. e.synced honest;
        before = λ either framed. elim either [ inl is ↦ absurd cc | inr is ↦ none_told FAILED is ];
        number = λ n is. none_told n is;
        failed = parts.1.failed;
        shown = parts.1.shown;
        reason = record { device = λ is. none_told DEVICE is; step = λ honest is. none_told FAILED is };
      }

  pub faulted_ends : (fault : CloseFault) → IsFaulted fault o given used left →
      HasEnded o given used false (Some (close_number_of fault)) left
  faulted_ends closes.Device e =
      let parts = wholes (Some DEVICE) left.journal given left.seats e.sound.ended.same e.sound.parts in
      record {
        plain = e.sound.ended.plain;
        mark = e.sound.ended.mark;
        honest = e.sound.ended.honest;
        parts = parts.0;
        kept = λ told none honest. absurd cc;
        synced = λ told none honest. absurd cc;
        before = λ either framed. elim either [ inl is ↦ absurd cc | inr is ↦ no_step is ];
        number = λ n is. inl (sym (same_number _ _ is));
        failed = parts.1.failed;
        shown = parts.1.shown;
        reason = record { device = λ is. e.cause; step = λ honest is. no_step is };
      }
    where
      no_step : {P : Type 0} → ◌≡◌ {A = Option ℕ} (Some DEVICE) (Some FAILED) → P
      no_step is = let no = same_number _ _ is in absurd (omega (arith, no))
  faulted_ends closes.Failed e =
      let_go false (Some FAILED) e.let_go (mosts left.journal given left.seats e.let_go.ended.same e.let_go.parts)
      (λ told none. absurd cc) (λ n is. (sym (same_number FAILED n is), e.failed))
