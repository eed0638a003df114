-- What is noted leads on, call by call.
use Rattle.std.proofs.Common.{◌≡◌, ℕ, refl, sym, ap, ◌∙◌, subst, Bool, true, false, not, ◌&&◌, List, [], ◌∷◌, ◌++◌, Ok, Err, Some, append-nil}
use Rattle.std.specs.Prelude.{if◌then◌else◌, IsTrue}
use Rattle.queue_model.specs.Laws.{RefusalsLeave}
use Rattle.queue_model.specs.Rules.{outcome}
use Rattle.queue_model.specs.State.{State}
use Rattle.queue_model.specs.declared.answer.Answer.{Answer}
use Rattle.queue_model.specs.declared.call.Call.{Call}
use Rattle.queue_model.specs.declared.caller.Caller.{Caller}
use Rattle.session.specs.Session.{Holds}
use Rattle.session.specs.declared.unanswered.Unanswered.TheVariants.{Waits, NoRoom, NoMemory, Failed}
use Rattle.call_entries.specs.Entries.{entry_of, entries_of, is_refusal, may_change, spelled}
use Rattle.call_entries.specs.declared.entry.CallEntry.{CallEntry}
use Rattle.call_entries.proofs.EntryLemmas.{spelled_both}
use Rattle.call_entries.proofs.RuleLemmas.{comes_again, lead_on, leaves_it}
use Rattle.msgq_c.specs.Files.{fresh}
use Rattle.msgq_c.specs.Keeping.{noted}
use Rattle.msgq_c.specs.Noting.{CallsLeadOn, LeadOn, LeadsTo, NotesLeadOn, StillLeads, running}
use Rattle.msgq_c.specs.declared.kept.Kept.{Kept}

-- no calls lead from a system to itself
none_lead : (bytes : List ℕ) (s : State) → bytes ≡ [] → LeadOn bytes s s
none_lead bytes s is = record { entries = []; is = is; leads = refl }

begins : (s : State) (k : Kept) → Holds s k.session → k.log.bytes ≡ [] → LeadsTo (running s) k s
begins s k holds none = record { holds = holds; leads = λ whole. none_lead k.log.bytes (running s) none }

not_refused : (may was : Bool) → (may && not was) ≡ true → was ≡ false
not_refused true true is = absurd cc
not_refused true false is = refl
not_refused false was is = absurd cc

module _ (leaves : RefusalsLeave) (caller : Caller) (call : Call) (answer : Answer) (s t u : State)
    (old new : List ℕ) (before : LeadOn old s (running t)) (by_rules : outcome caller call t ≡ Some (answer, u))
    (bytes : new ≡ old ++ spelled (entries_of caller call answer)) where
  abbrev e : CallEntry
  e = entry_of caller call answer

  -- by whether it may have changed the system
  abbrev entries_if : Bool → List ℕ
  entries_if changes = old ++ spelled (if changes then e ∷ [] else [])

  answered_so : (changes : Bool) → (may_change call && not (is_refusal answer)) ≡ changes →
      LeadOn new s (running u)
  answered_so true is = record {
    entries = before.entries ++ e ∷ [];
    is = bytes ∙ ap entries_if is ∙ ap (λ (xs : List ℕ). xs ++ spelled (e ∷ [])) before.is
        ∙ sym (spelled_both before.entries (e ∷ []));
    leads = lead_on before.entries (e ∷ []) s (running t) (running u) before.leads (
      running u,
      record {
        answer = answer;
        by_rules = comes_again caller t call answer u by_rules
            (not_refused (may_change call) (is_refusal answer) is);
        told = refl;
      },
      refl,
    );
  }
  answered_so false is =
      subst (λ (v : State). LeadOn new s (running v)) (sym (leaves_it leaves caller t answer u call by_rules is))
      (record {
        entries = before.entries;
        is = bytes ∙ ap entries_if is ∙ append-nil old ∙ before.is;
        leads = before.leads;
      })

-- a call that has no answer leaves them
not_answered : (s t : State) (old new : Kept) → LeadsTo s old t → Holds t new.session →
    (IsTrue new.log.is_whole → IsTrue old.log.is_whole) →
    (IsTrue new.log.is_whole → new.log.bytes ≡ old.log.bytes ++ []) → StillLeads s new
not_answered s t old new at holds whole bytes = record {
  now = t;
  leads = record {
    holds = holds;
    leads = λ w.
        subst (λ (xs : List ℕ). LeadOn xs s (running t)) (sym (bytes w ∙ append-nil old.log.bytes))
        (at.leads (whole w));
  };
}

pub calls_lead_on : RefusalsLeave → CallsLeadOn
calls_lead_on leaves s t call (Ok answer) old new at makes =
    let is = makes.becomes t at.holds in
    record {
      now = is.after;
      leads = record {
        holds = is.holds;
        leads = λ whole.
            answered_so leaves old.caller call answer s t is.after old.log.bytes new.log.bytes
            (at.leads (makes.notes.whole whole)) is.by_rules (makes.notes.bytes whole)
            (may_change call && not (is_refusal answer)) refl;
      };
    }
calls_lead_on leaves s t call (Err Waits) old new at makes =
    not_answered s t old new at (makes.becomes t at.holds).1 makes.notes.whole makes.notes.bytes
calls_lead_on leaves s t call (Err NoRoom) old new at makes =
    not_answered s t old new at (makes.becomes t at.holds).holds makes.notes.whole makes.notes.bytes
calls_lead_on leaves s t call (Err NoMemory) old new at makes =
    not_answered s t old new at (makes.becomes t at.holds) makes.notes.whole makes.notes.bytes
calls_lead_on leaves s t call (Err Failed) old new at makes = tt

pub notes_lead_on : RefusalsLeave → NotesLeadOn
notes_lead_on leaves = record {
  opened = λ s caller k holds. begins s (fresh caller k) holds refl;
  calls = calls_lead_on leaves;
  stops = λ s t k new at stops. record {
    now = record t { stopped = true };
    leads = record { holds = stops.stops t at.holds; leads = at.leads };
  };
  noted_so = λ s t k at. begins t (noted k) at.holds refl;
  saved_so = λ s t old new at saved.
      begins t new (saved.0.becomes t at.holds).holds (ap (λ (k : Kept). k.log.bytes) saved.1);
}
