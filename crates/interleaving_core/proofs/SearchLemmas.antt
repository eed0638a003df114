-- What a search that is answered at once leaves of the counts.
use Rattle.std.proofs.Common.{◌≡◌, refl, sym, ap, ◌∙◌, subst, ℕ, zero, suc, ◌-◌, ◌≤◌, ◌<◌, true, false, List, [], ◌∷◌, length, slice_set, slice_index_or, length-set, get_or-set_same, arith}
use Rattle.std.proofs.lemmas.List.{set-set}
use Rattle.step_rules.specs.declared.kind.Kind.TheVariants as kinds
use Rattle.interleaving_core.specs.Counting.{AreSoundCounts, CountsState, IsCountedSeat, Notes, NotesSearch, answered_count, begun_count, count_at, count_behind, no_count}
use Rattle.interleaving_core.specs.declared.count.SearchCount.{SearchCount}
use Rattle.interleaving_core.specs.declared.under_way.UnderWay.{UnderWay}
use Rattle.interleaving_core.proofs.CountLemmas.{other_stays, own_notes, own_sound}

-- what is read at a default is read at itself
again : (counts : List SearchCount) (place : ℕ) (c : SearchCount) →
    slice_index_or counts place c ≡ slice_index_or counts place (slice_index_or counts place c)
again [] place c = refl
again (first ∷ counts) zero c = refl
again (first ∷ counts) (suc place) c = again counts place c

module _ (seat : ℕ) (s : CountsState) (sound : AreSoundCounts s) (is : IsCountedSeat s.counts seat) where
  abbrev begun : CountsState
  begun = record {
    counts = slice_set s.counts (seat - 1) (begun_count s.under_way);
    under_way = s.under_way;
  }

  abbrev first : SearchCount
  first = slice_index_or s.counts (seat - 1) no_count

  its_place : seat - 1 < length s.counts
  its_place = let some = is.0 in let last = is.1 in omega (arith, some, last)

  at_first : first ≡ slice_index_or s.counts (seat - 1) first
  at_first = again s.counts (seat - 1) no_count

  begun_sound : AreSoundCounts begun
  begun_sound = own_sound seat kinds.Grant s sound is refl true false false first (begun_count s.under_way) at_first
      refl

  is_begun : IsCountedSeat begun.counts seat
  is_begun = (is.0, subst (λ (n : ℕ). seat ≤ n) (sym (length-set s.counts (seat - 1) (begun_count s.under_way))) is.1)

  at_begun : begun_count s.under_way ≡ slice_index_or begun.counts (seat - 1) (begun_count s.under_way)
  at_begun = sym (get_or-set_same s.counts (seat - 1) (begun_count s.under_way) (begun_count s.under_way) its_place)

  module _ (own : SearchCount) (is_own : own ≡ answered_count s.under_way) where
    abbrev answered : CountsState
    answered = record { counts = slice_set s.counts (seat - 1) own; under_way = s.under_way }

    twice : record { counts = slice_set begun.counts (seat - 1) own; under_way = s.under_way } ≡ answered
    twice = ap (λ (xs : List SearchCount). record { counts = xs; under_way = s.under_way })
        (set-set s.counts (seat - 1) (begun_count s.under_way) own)

    pub search_noted : NotesSearch seat s answered
    search_noted = record {
      begun = begun;
      sound = begun_sound;
      begins = own_notes seat kinds.Grant s sound is refl true false false first (begun_count s.under_way) at_first
          refl;
      ends = subst (Notes seat kinds.Look false false true begun) twice
          (own_notes seat kinds.Look begun begun_sound is_begun refl false false true (begun_count s.under_way) own
          at_begun is_own);
    }

    pub search_sound : AreSoundCounts answered
    search_sound = subst AreSoundCounts twice
        (own_sound seat kinds.Look begun begun_sound is_begun refl false false true (begun_count s.under_way) own
        at_begun is_own)

-- a search more, with no step of another seat between, leaves what the first one left
pub search_again : (seat : ℕ) (s ended : CountsState) → AreSoundCounts ended → IsCountedSeat s.counts seat →
    NotesSearch seat s ended → NotesSearch seat ended ended
search_again seat s ended still is notes = record {
  begun = notes.begun;
  sound = notes.sound;
  begins = record {
    under_way = sym notes.ends.under_way;
    as_many = sym notes.ends.as_many;
    own = notes.begins.own;
    others = λ other apart.
        other_stays seat kinds.Look notes.begun notes.sound is_begun refl other
        ∙ ap (λ (u : UnderWay). count_behind kinds.Look u (count_at notes.begun.counts other))
        (sym notes.ends.under_way)
        ∙ sym (notes.ends.others other apart)
        ∙ other_stays seat kinds.Grant ended still is_ended refl other
        ∙ ap (λ (u : UnderWay). count_behind kinds.Grant u (count_at ended.counts other)) notes.ends.under_way;
  };
  ends = notes.ends;
}
  where
    is_begun : IsCountedSeat notes.begun.counts seat
    is_begun = (is.0, subst (λ (n : ℕ). seat ≤ n) (sym notes.begins.as_many) is.1)

    is_ended : IsCountedSeat ended.counts seat
    is_ended = (is.0, subst (λ (n : ℕ). seat ≤ n) (sym notes.ends.as_many) is_begun.1)
