-- A file is opened: its calls are made again, one after another.
use Rattle.std.proofs.Common.{arith, ℕ, ◌≡◌, ◌≤◌, ◌<◌, ◌+◌, inl, inr, ⊎_elim, IsTrue, refl, sym, ap, ◌∙◌, subst, append-nil, append_assoc, Bool, List, [], ◌∷◌, ◌++◌, Result, Ok, Option, Some, length, slice_get}
use Rattle.std.proofs.lemmas.List.{take_all}
use Rattle.std.proofs.lemmas.Option.{slice_get_within}
use Rattle.page_device.proofs.CopyLemmas.{read-more}
use Rattle.safe_device.specs.Device.{DeviceState}
use Rattle.safe_device.specs.Left.{Left, Saved, recovered_by}
use Rattle.safe_device.specs.declared.journal.Journal.{Journal}
use Rattle.interleavings.specs.LoneKernelWords.{Answer}
use Rattle.call_entries.specs.Entries.{Reads, check_of, entry_bytes, spelled}
use Rattle.call_entries.specs.declared.reading.Unreadable.{Unreadable}
use Rattle.call_entries.specs.declared.entry.CallEntry.{CallEntry}
use Rattle.call_entries.proofs.EntryLemmas.{spelled_both}
use Rattle.call_entries.proofs.RuleLemmas.{lead_on}
use Rattle.desk.specs.Desk.{Asks, DeskState, Opens}
use Rattle.durable_desk.specs.Durable.{IsCommitted, IsReady}
use Rattle.durable_desk.specs.Opening.{IsRead, IsRemade, KeepsWaiting, Makes, MakesAgain, MakesAll, MakesReady, MayNotBeMade, MayNotOpenFile}
use Rattle.durable_desk.specs.declared.opening.OpenRefusal.{OpenRefusal}
use Rattle.durable_desk.specs.declared.opening.OpenRefusal.TheVariants.{File, Calls}
use Rattle.durable_desk.proofs.SavedLemmas.{one_more_addition}

abbrev Additions : Type 0
Additions = List (List ℕ)

-- ---- pages are read

pub content_same : {P : Type 0} (old new : DeviceState P) → IsRead old new → new.content ≡ old.content
content_same {P} old new read = ap (λ (d : DeviceState P). d.content) read

pub read_on : {P : Type 0} (old mid new : DeviceState P) → IsRead old mid → IsRead mid new → IsRead old new
read_on {P} old mid new first then =
    then ∙ ap (λ (d : DeviceState P). record d { failed = new.failed }) first

-- ---- one call

pub has_made : (e : CallEntry) (client : ℕ) (answer : Answer) (old new : DeskState) →
    Asks (record { client = client; caller = e.caller; call = e.call }) (Ok answer) old new →
    check_of answer ≡ e.check → Makes e old new
has_made e client answer old new asks told = record {
  made = λ s serves.
      let is = asks.asked s serves in
      let decided = is.becomes in
      record {
        after = decided.after;
        made = record { answer = answer; by_rules = decided.by_rules; told = told };
        serves = decided.serves;
        waiting = is.waiting;
      };
  keeps = record { saved = asks.saved; most = asks.most };
}

-- ---- those of an addition

kept : (d : DeskState) → KeepsWaiting d d
kept d = record { saved = refl; most = refl }

both_kept : (old mid new : DeskState) → KeepsWaiting old mid → KeepsWaiting mid new → KeepsWaiting old new
both_kept old mid new first then = record { saved = then.saved ∙ first.saved; most = then.most ∙ first.most }

pub none_made : (calls : List ℕ) (d : DeskState) → MakesAll calls calls d d
none_made calls d = record {
  made = λ s serves. record {
    after = s;
    entries = [];
    is = refl;
    leads = refl;
    serves = serves;
    waiting = refl;
  };
  keeps = kept d;
}

spelled_more : (es : List CallEntry) (e : CallEntry) (rest : List ℕ) →
    spelled es ++ (entry_bytes e ++ rest) ≡ spelled (es ++ e ∷ []) ++ rest
spelled_more es e rest =
    sym (append_assoc (spelled es) (entry_bytes e) rest)
    ∙ ap (λ (xs : List ℕ). (spelled es ++ xs) ++ rest) (sym (append-nil (entry_bytes e)))
    ∙ ap (λ (xs : List ℕ). xs ++ rest) (sym (spelled_both es (e ∷ [])))

pub one_more_made : (calls rest more : List ℕ) (e : CallEntry) (old now new : DeskState) →
    MakesAll calls rest old now → rest ≡ entry_bytes e ++ more → Makes e now new → MakesAll calls more old new
one_more_made calls rest more e old now new all reads makes = record {
  made = λ s serves.
      let first = all.made s serves in
      let last = makes.made first.after first.serves in
      record {
        after = last.after;
        entries = first.entries ++ e ∷ [];
        is = first.is ∙ ap (λ (xs : List ℕ). spelled first.entries ++ xs) reads ∙ spelled_more first.entries e more;
        leads = lead_on first.entries (e ∷ []) s first.after last.after first.leads (last.after, last.made, refl);
        serves = last.serves;
        waiting = last.waiting ∙ first.waiting;
      };
  keeps = both_kept old now new all.keeps makes.keeps;
}

pub all_made : (calls rest : List ℕ) (old new : DeskState) → MakesAll calls rest old new → rest ≡ [] →
    MakesAll calls [] old new
all_made calls rest old new all is = subst (λ (xs : List ℕ). MakesAll calls xs old new) is all

-- the entry that was read stood first
pub reads_entry : (told : Result (Option CallEntry) Unreadable) (found : Option CallEntry) (e : CallEntry)
    (old new : List ℕ) → Reads told old new → told ≡ Ok found → found ≡ Some e → old ≡ entry_bytes e ++ new
reads_entry told found e old new reads is some =
    subst (λ (r : Result (Option CallEntry) Unreadable). Reads r old new)
    (is ∙ ap (λ (x : Option CallEntry). Ok x) some) reads

-- ---- those of all additions

module _ (honest : Bool) (calls : Additions) where
  pub none_again : (d : DeskState) → MakesAgain honest calls 0 d d
  none_again d = record {
    read = [];
    same = λ sound. refl;
    made = λ s serves. record { after = s; leads = refl; serves = serves; waiting = refl };
    keeps = kept d;
  }

  pub one_more_again : (many : ℕ) (addition : List ℕ) (old now new : DeskState) →
      MakesAgain honest calls many old now → (IsTrue honest → slice_get calls many ≡ Some addition) →
      MakesAll addition [] now new → MakesAgain honest calls (many + 1) old new
  one_more_again many addition old now new again found makes = record {
    read = again.read ++ addition ∷ [];
    same = λ sound.
        ap (λ (xs : Additions). xs ++ addition ∷ []) (again.same sound)
        ∙ sym (read-more calls many addition (slice_get_within calls many addition (found sound)) (found sound));
    made = λ s serves.
        let first = again.made s serves in
        let last = makes.made first.after first.serves in
        record {
          after = last.after;
          leads = one_more_addition again.read addition s first.after last.after first.leads (record {
            entries = last.entries;
            is = last.is ∙ append-nil (spelled last.entries);
            leads = last.leads;
          });
          serves = last.serves;
          waiting = last.waiting ∙ first.waiting;
        };
    keeps = both_kept old now new again.keeps makes.keeps;
  }

  pub all_again : (many : ℕ) (old new : DeskState) → MakesAgain honest calls many old new →
      (IsTrue honest → length calls ≤ many) → MakesAgain honest calls (length calls) old new
  all_again many old new again whole = record {
    read = again.read;
    same = λ sound.
        again.same sound ∙ take_all many calls (whole sound)
        ∙ sym (take_all (length calls) calls (omega arith));
    made = again.made;
    keeps = again.keeps;
  }

pub not_made : {P : Type 0} (honest : Bool) (given : DeviceState P) (why : OpenRefusal) → MayNotBeMade why →
    (IsTrue honest → 1 ≤ length given.calls) → MayNotOpenFile honest given why
not_made honest given (File fault) may some = ⊎_elim (λ failed. inl failed) (λ none. inr (inl none)) may
not_made honest given Calls may some = some

-- it is refused as it was before it was read
pub refused_read : {P : Type 0} (honest : Bool) (given device : DeviceState P) (why : OpenRefusal) →
    IsRead given device → MayNotOpenFile honest device why → MayNotOpenFile honest given why
refused_read {P} honest given device (File fault) read may =
    subst (λ (d : DeviceState P). MayNotOpenFile honest d (File fault)) read may
refused_read {P} honest given device Calls read may =
    subst (λ (d : DeviceState P). MayNotOpenFile honest d Calls) read may

-- ---- a desk of it

pub is_remade : {P : Type 0} (honest : Bool) (given device : DeviceState P) (content : Additions) (most : ℕ)
    (first desk : DeskState) → Opens content most first → IsRead given device →
    MakesAgain honest device.calls (length device.calls) first desk →
    (IsTrue honest → content ≡ given.content) → length content ≡ length given.content → IsRemade honest given most desk
is_remade {P} honest given device content most first desk opens read again same many =
    let made = again.made opens.system opens.serves in
    record {
      read = record { pages = content; calls = again.read };
      system = made.after;
      comes = record { system = opens.system; file = opens.file; made = made.leads };
      serves = made.serves;
      nobody = made.waiting ∙ opens.nobody;
      saved = again.keeps.saved ∙ opens.saved;
      many = many;
      same = λ sound.
          let whole = again.same sound ∙ take_all (length device.calls) device.calls (omega arith) in
          let calls = whole ∙ ap (λ (d : DeviceState P). d.calls) read in
          λ i. record { pages = same sound i; calls = calls i };
    }

pub opened_committed : {P : Type 0} (honest : Bool) (may_leave : P → Left → Type 0) (given device : DeviceState P)
    (most : ℕ) (desk : DeskState) → (IsTrue honest → IsReady may_leave given) → IsRemade honest given most desk →
    IsRead given device → IsCommitted honest may_leave desk device
opened_committed {P} honest may_leave given device most desk ready is read = record {
  served = is.system;
  serves = is.serves;
  many = ap (λ (d : DeviceState P). length d.content) read ∙ sym is.many ∙ sym (ap length is.saved);
  saved = λ sound.
      ap (λ (d : DeviceState P). d.content) read ∙ sym (ap (λ (s : Saved). s.pages) (is.same sound)) ∙ sym is.saved;
  ready = λ sound. subst (IsReady may_leave) (sym read) (record {
    usable = (ready sound).usable;
    kept = (ready sound).kept;
  });
}

pub makes_ready : {P : Type 0} (honest : Bool) (file : P → Additions) (journal : P → Option Journal)
    (may_leave : P → Left → Type 0) → MakesReady P honest file journal may_leave
makes_ready {P} honest file journal may_leave given device rests opened sound = record {
  usable = opened.usable;
  kept = λ c left.
      let same = rests.same_journal c (subst (λ (pair : P). may_leave pair c) opened.pair left) in
      let pages = rests.same_file c (subst (λ (pair : P). may_leave pair c) opened.pair left) in
      (λ i. recovered_by (same i) (pages i)) ∙ opened.commits sound;
}
