-- A caller's calls, and calls that are made again, one after another.
use Rattle.std.proofs.Common.{ℕ, ◌≡◌, refl, sym, ap, ◌∙◌, subst, append-nil, append_assoc, List, [], ◌∷◌, ◌++◌, Result, Ok, Option, Some}
use Rattle.queue_model.specs.declared.answer.Answer.{Answer}
use Rattle.queue_model.specs.declared.call.Call.{Call}
use Rattle.session.specs.Session.{CallsAs, SessionState}
use Rattle.call_entries.specs.Entries.{Reads, check_of, entry_bytes, spelled}
use Rattle.call_entries.specs.declared.entry.CallEntry.{CallEntry}
use Rattle.call_entries.specs.declared.reading.Unreadable.{Unreadable}
use Rattle.call_entries.proofs.EntryLemmas.{spelled_both}
use Rattle.call_entries.proofs.RuleLemmas.{lead_on}
use Rattle.msgq_c.specs.Keeping.{Keeps, MakesAgain, MakesAll}
use Rattle.msgq_c.specs.declared.kept.Kept.{Kept}

-- ---- one call

pub makes_again : (e : CallEntry) (left : Call) (answer : Answer) (old : Kept) (new : SessionState) →
    CallsAs e.caller e.call left (Ok answer) old.session new → check_of answer ≡ e.check →
    MakesAgain e old (record old { session = new })
makes_again e left answer old new calls told = record {
  made = λ s holds.
      let is = calls.becomes s holds in
      record {
        after = is.after;
        made = record { answer = answer; by_rules = is.by_rules; told = told };
        holds = is.holds;
      };
  keeps = record { others = refl; saved = calls.keeps.saved };
}

-- ---- those of an addition

kept : (k : Kept) → Keeps k k
kept k = record { others = refl; saved = refl }

both_kept : (old mid new : Kept) → Keeps old mid → Keeps mid new → Keeps old new
both_kept old mid new first then = record {
  others = then.others ∙ ap (λ (k : Kept). record k { session = new.session }) first.others;
  saved = then.saved ∙ first.saved;
}

pub none_made : (calls : List ℕ) (k : Kept) → MakesAll calls calls k k
none_made calls k = record {
  made = λ s holds. record { after = s; entries = []; is = refl; leads = refl; holds = holds };
  keeps = kept k;
}

spelled_more : (es : List CallEntry) (e : CallEntry) (rest : List ℕ) →
    spelled es ++ (entry_bytes e ++ rest) ≡ spelled (es ++ e ∷ []) ++ rest
spelled_more es e rest =
    sym (append_assoc (spelled es) (entry_bytes e) rest)
    ∙ ap (λ (xs : List ℕ). (spelled es ++ xs) ++ rest) (sym (append-nil (entry_bytes e)))
    ∙ ap (λ (xs : List ℕ). xs ++ rest) (sym (spelled_both es (e ∷ [])))

pub one_more_made : (calls rest more : List ℕ) (e : CallEntry) (old now new : Kept) → MakesAll calls rest old now →
    rest ≡ entry_bytes e ++ more → MakesAgain e now new → MakesAll calls more old new
one_more_made calls rest more e old now new all reads makes = record {
  made = λ s holds.
      let first = all.made s holds in
      let last = makes.made first.after first.holds in
      record {
        after = last.after;
        entries = first.entries ++ e ∷ [];
        is = first.is ∙ ap (λ (xs : List ℕ). spelled first.entries ++ xs) reads ∙ spelled_more first.entries e more;
        leads = lead_on first.entries (e ∷ []) s first.after last.after first.leads (last.after, last.made, refl);
        holds = last.holds;
      };
  keeps = both_kept old now new all.keeps makes.keeps;
}

pub all_made : (calls rest : List ℕ) (old new : Kept) → MakesAll calls rest old new → rest ≡ [] →
    MakesAll calls [] old new
all_made calls rest old new all is = subst (λ (xs : List ℕ). MakesAll calls xs old new) is all

-- the entry that was read stood first
pub reads_entry : (told : Result (Option CallEntry) Unreadable) (found : Option CallEntry) (e : CallEntry)
    (old new : List ℕ) → Reads told old new → told ≡ Ok found → found ≡ Some e → old ≡ entry_bytes e ++ new
reads_entry told found e old new reads is some =
    subst (λ (r : Result (Option CallEntry) Unreadable). Reads r old new)
    (is ∙ ap (λ (x : Option CallEntry). Ok x) some) reads
