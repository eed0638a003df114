-- What pages and the calls behind them come to.
use Rattle.std.proofs.Common.{◌≡◌, ◌≤◌, refl, sym, ap, ◌∙◌, subst, arith, ℕ, Bool, true, false, List, [], ◌∷◌, ◌++◌, Some, length}
use Rattle.std.specs.Prelude.{if◌then◌else◌, not, ◌&&◌}
use Rattle.std.proofs.lemmas.List.{length-append}
use Rattle.bucket_page.specs.Pseudokeys.{sha_key}
use Rattle.safe_device.specs.Left.{Saved, alone, with_calls}
use Rattle.queue_model.specs.Laws.{RefusalsLeave}
use Rattle.queue_model.specs.Rules.{outcome}
use Rattle.interleavings.proofs.StopLemmas.{keeps_stopped}
use Rattle.interleavings.specs.LoneKernelWords.{Answer, IsFileOf, State, restarted}
use Rattle.frames.proofs.LittleLaws.{length-eight}
use Rattle.frames.specs.Little.{eight}
use Rattle.call_entries.specs.Entries.{LeadsBy, entry_bytes, entry_of, front, is_refusal, may_change, spelled}
use Rattle.call_entries.specs.declared.entry.CallEntry.{CallEntry}
use Rattle.call_entries.proofs.EntryLemmas.{spelled_both}
use Rattle.call_entries.proofs.RuleLemmas.{comes_again, lead_on, leaves_it}
use Rattle.desk.specs.History.{Decided, Entry, LeadsAlong, Stop, changes}
use Rattle.desk.specs.declared.asking.Asking.{Asking}
use Rattle.durable_desk.specs.Saved.{ComesTo, ComesWith, IsAddition, LeadOn}

-- ---- what was decided is made again

fine_where : (may was : Bool) → (may && not was) ≡ true → was ≡ false
fine_where true true is = absurd cc
fine_where true false is = refl
fine_where false was is = absurd cc

entry_leads : RefusalsLeave → (a : Asking) (answer : Answer) (more : List CallEntry) (s u t : State) →
    outcome a.caller a.call s ≡ Some (answer, u) → LeadsBy more (restarted u) (restarted t) → (changed : Bool) →
    (may_change a.call && not (is_refusal answer)) ≡ changed →
    LeadsBy ((if changed then entry_of a.caller a.call answer ∷ [] else []) ++ more) (restarted s) (restarted t)
entry_leads leaves a answer more s u t rules rest true is =
    let fine = fine_where (may_change a.call) (is_refusal answer) is in (
      restarted u,
      record { answer = answer; by_rules = comes_again a.caller s a.call answer u rules fine; told = refl },
      rest,
    )
entry_leads leaves a answer more s u t rules rest false is =
    subst (λ (x : State). LeadsBy more x (restarted t))
    (ap (λ (x : State). restarted x) (leaves_it leaves a.caller s answer u a.call rules is)) rest

pub changes_lead : RefusalsLeave → (es : List Entry) (s t : State) → LeadsAlong es s t →
    LeadsBy (changes es) (restarted s) (restarted t)
changes_lead leaves [] s t same = ap (λ (x : State). restarted x) same
changes_lead leaves (Decided a answer ∷ es) s t (u, rules, rest) =
    entry_leads leaves a answer (changes es) s u t rules (changes_lead leaves es u t rest)
    (may_change a.call && not (is_refusal answer)) refl
changes_lead leaves (Stop ∷ es) s t rest = changes_lead leaves es (record s { stopped = true }) t rest

-- ---- additions

-- an entry has some bytes
some_bytes : (e : CallEntry) (rest : List ℕ) → 8 ≤ length (entry_bytes e ++ rest)
some_bytes e rest = omega (
  arith,
  length-append (entry_bytes e) rest,
  length-append (front e.caller e.call) (eight e.check),
  length-eight e.check,
)

none_spelled : (es : List CallEntry) → [] ≡ spelled es → es ≡ []
none_spelled [] is = refl
none_spelled (e ∷ es) is =
    let some = some_bytes e (spelled es) in let none = ap length is in absurd (omega (arith, some, none))

pub one_more_addition : (calls : List (List ℕ)) (more : List ℕ) (s u t : State) → LeadOn calls s u →
    IsAddition more u t → LeadOn (calls ++ more ∷ []) s t
one_more_addition [] more s u t same is = (t, subst (λ (x : State). IsAddition more x t) same is, refl)
one_more_addition (first ∷ calls) more s u t (v, made, rest) is =
    (v, made, one_more_addition calls more v u t rest is)

pub noted_more : (saved : Saved) (calls : List ℕ) (t : State) → ComesWith saved calls t →
    ComesTo (with_calls calls saved) t
noted_more saved calls t is = record {
  system = is.comes.system;
  file = is.comes.file;
  made = one_more_addition saved.calls calls is.comes.system is.before t is.comes.made is.more;
}

-- where there is none the system is the same
pub none_more : (saved : Saved) (t : State) → ComesWith saved [] t → ComesTo saved t
none_more saved t is =
    let nothing = none_spelled is.more.entries is.more.is in
    let same : t ≡ is.before = subst (λ (es : List CallEntry). LeadsBy es is.before t) nothing is.more.leads in
    subst (ComesTo saved) (sym same) is.comes

pub of_pages : (pages : List (List ℕ)) (t : State) → IsFileOf sha_key pages t → ComesTo (alone pages) t
of_pages pages t file = record { system = t; file = file; made = refl }

-- nothing was decided yet
pub with_none : (saved : Saved) (t : State) → ComesTo saved t → ComesWith saved [] t
with_none saved t comes = record {
  before = t;
  comes = comes;
  more = record { entries = []; is = refl; leads = refl };
}

-- more was decided
pub with_more : (saved : Saved) (calls : List ℕ) (es : List CallEntry) (t u : State) → ComesWith saved calls t →
    LeadsBy es t u → ComesWith saved (calls ++ spelled es) u
with_more saved calls es t u is leads = record {
  before = is.before;
  comes = is.comes;
  more = record {
    entries = is.more.entries ++ es;
    is = ap (λ (xs : List ℕ). xs ++ spelled es) is.more.is ∙ sym (spelled_both is.more.entries es);
    leads = lead_on is.more.entries es is.before t u is.more.leads leads;
  };
}

-- ---- what is made again stops nothing

made_running : (es : List CallEntry) (s t : State) → LeadsBy es s t → t.stopped ≡ s.stopped
made_running [] s t same = ap (λ (x : State). x.stopped) same
made_running (e ∷ es) s t (u, made, rest) =
    made_running es u t rest ∙ keeps_stopped e.caller e.call made.answer s u made.by_rules

lead_running : (calls : List (List ℕ)) (s t : State) → LeadOn calls s t → t.stopped ≡ s.stopped
lead_running [] s t same = ap (λ (x : State). x.stopped) same
lead_running (first ∷ calls) s t (u, made, rest) =
    lead_running calls u t rest ∙ made_running made.entries s u made.leads

pub comes_running : (saved : Saved) (t : State) → ComesTo saved t → t ≡ restarted t
comes_running saved t comes =
    let running = lead_running saved.calls comes.system t comes.made ∙ comes.file.system.has.running in
    ap (λ (b : Bool). record t { stopped = b }) running
