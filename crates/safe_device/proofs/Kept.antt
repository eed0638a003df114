-- What a crash may leave of files in memory after each call.
use Rattle.std.proofs.Common.{◌≡◌, ◌⊎◌, inl, inr, ⊎_elim, ℕ, zero, suc, ◌+◌, ◌≤◌, List, [], ◌∷◌, ◌++◌, length, take, drop}
use Rattle.std.proofs.Common.{set, Option, Some, None, refl, sym, ◌∙◌, ap, subst, arith, length-append}
use Rattle.std.proofs.lemmas.List.{append-nil, take_all}
use Rattle.safe_device.specs.Left.{Left, added, noted, without_images}
use Rattle.safe_device.specs.Crash.{Elapses, Follows, TornAt, LongerBy, CutTo, Appended, Emptied, Noted, Removed}
use Rattle.safe_device.specs.Safe.{IsResting}
use Rattle.safe_device.specs.Memory.{FileMay, IsQuiet, MayLeave, Meets, MightLeave, Since}
use Rattle.safe_device.specs.declared.journal.Journal.{Journal}
use Rattle.safe_device.specs.declared.journal.PageImage.{PageImage}
use Rattle.safe_device.specs.declared.snapshot.FileChange.{FileChange}
use Rattle.safe_device.specs.declared.snapshot.FileChange.TheVariants.{Stored, Added, Cut}
use Rattle.safe_device.specs.declared.memory.MemPair.{MemPair}
use Rattle.safe_device.specs.declared.snapshot.Snapshot.{Snapshot}
use Rattle.safe_device.proofs.Restoring.{Pages}

-- one change more is met last
pub may_meet : (changes : List FileChange) (change : FileChange) (base mid new : Pages) → FileMay changes base mid
    → Meets change mid new → FileMay (changes ++ change ∷ []) base new
may_meet [] change base mid new may meets = (new, subst (λ (from : Pages). Meets change from new) may meets, refl)
may_meet (c ∷ changes) change base mid new may meets =
    (may.0, may.1, may_meet changes change may.0 mid new may.2 meets)

met_last : (changes : List FileChange) (change : FileChange) (base new : Pages)
    → FileMay (changes ++ change ∷ []) base new → (mid : Pages) × FileMay changes base mid × Meets change mid new
met_last [] change base new may = (base, refl, subst (λ (to : Pages). Meets change base to) (sym may.2) may.1)
met_last (c ∷ changes) change base new may =
    let rest = met_last changes change may.0 new may.2 in
    (rest.0, (may.0, may.1, rest.1), rest.2)

-- the file has met a change
abbrev pub changed : Snapshot → FileChange → Pages → Snapshot
changed s change file = record s { seen_file = file; changes = s.changes ++ change ∷ [] }

module _ (s : Snapshot) (change : FileChange) (file : Pages) (step : Left → Left → Type 0)
    (meets : Meets change s.seen_file file)
    (is_step : (d c : Left) → Meets change d.file c.file → c.journal ≡ d.journal → step d c) where
  changed_follows : Follows step (MayLeave s) (MayLeave (changed s change file))
  changed_follows c now = ⊎_elim written lost now.0
    where
      written : c.file ≡ file → (d : Left) × MayLeave s d × step d c
      written is =
          let d : Left = record { file = s.seen_file; journal = c.journal } in (
            d,
            (inl refl, now.1),
            is_step d c (subst (λ (to : Pages). Meets change s.seen_file to) (sym is) meets) refl,
          )

      lost : FileMay (s.changes ++ change ∷ []) s.synced_file c.file → (d : Left) × MayLeave s d × step d c
      lost may =
          let from = met_last s.changes change s.synced_file c.file may in
          let d : Left = record { file = from.0; journal = c.journal } in
          (d, (inr from.1, now.1), is_step d c from.2 refl)

pub set_follows : (s : Snapshot) (page : ℕ) (bytes : List ℕ)
    → Follows (TornAt page) (MayLeave s) (MayLeave (changed s (Stored page) (set s.seen_file page bytes)))
set_follows s page bytes =
    changed_follows s (Stored page) (set s.seen_file page bytes) (TornAt page) (inr (bytes, refl))
    (λ d c meets same. record { file = meets; journal = same })

pub push_follows : (s : Snapshot) (bytes : List ℕ)
    → Follows LongerBy (MayLeave s) (MayLeave (changed s Added (s.seen_file ++ bytes ∷ [])))
push_follows s bytes =
    changed_follows s Added (s.seen_file ++ bytes ∷ []) LongerBy (bytes ∷ [], refl)
    (λ d c meets same. record { file = meets; journal = same })

pub cut_follows : (s : Snapshot) (pages : ℕ)
    → Follows (CutTo pages) (MayLeave s) (MayLeave (changed s (Cut pages) (take pages s.seen_file)))
cut_follows s pages =
    changed_follows s (Cut pages) (take pages s.seen_file) (CutTo pages) (pages, omega arith, refl)
    (λ d c meets same. record { file = meets; journal = same })

-- a change that was not met at all
pub not_met : (change : FileChange) (file : Pages) → Meets change file file
not_met (Stored page) file = inl refl
not_met Added file = ([], sym (append-nil file))
not_met (Cut pages) file =
    let long = pages + length file in (long, omega arith, sym (take_all long file (omega arith)))

pub not_cut : (pages : ℕ) (s : Snapshot) → Follows (CutTo pages) (MayLeave s) (MayLeave s)
not_cut pages s c now =
    let long = pages + length c.file in
    (c, now, record { file = (long, omega arith, sym (take_all long c.file (omega arith))); journal = refl })

abbrev with_journal : Snapshot → Option Journal → Snapshot
with_journal s journal = record s { seen_journal = journal }

pub append_follows : (s : Snapshot) (count : ℕ) (images : List PageImage)
    → Follows (Appended count images) (MayLeave s)
    (MayLeave (with_journal s (Some (added count images s.seen_journal))))
append_follows s count images c now = ⊎_elim written lost now.1
  where
    written : c.journal ≡ Some (added count images s.seen_journal)
        → (d : Left) × MayLeave s d × Appended count images d c
    written is =
        let all : take (length images) images ≡ images = take_all (length images) images (omega arith) in
        let whole : c.journal ≡ Some (added count (take (length images) images) s.seen_journal) =
        is ∙ ap (λ (xs : List PageImage). Some (added count xs s.seen_journal)) (sym all) in (
          record { file = c.file; journal = s.seen_journal },
          (now.0, inl refl),
          record { file = refl; journal = inr (length images, whole) },
        )

    lost : c.journal ≡ s.synced_journal → (d : Left) × MayLeave s d × Appended count images d c
    lost is = (c, (now.0, inr is), record { file = refl; journal = inl refl })

-- the journal is another: a crash leaves that, or what it might have left
module _ (s : Snapshot) (journal : Option Journal) (step : Left → Left → Type 0)
    (same : (c : Left) → step c c)
    (is_step : (d c : Left) → c.file ≡ d.file → d.journal ≡ s.seen_journal → c.journal ≡ journal → step d c) where
  journal_follows : Follows step (MayLeave s) (MayLeave (with_journal s journal))
  journal_follows c now = ⊎_elim written lost now.1
    where
      written : c.journal ≡ journal → (d : Left) × MayLeave s d × step d c
      written is =
          let d : Left = record { file = c.file; journal = s.seen_journal } in
          (d, (now.0, inl refl), is_step d c refl refl is)

      lost : c.journal ≡ s.synced_journal → (d : Left) × MayLeave s d × step d c
      lost is = (c, (now.0, inr is), same c)

pub note_follows : (s : Snapshot) (count : ℕ) (calls : List ℕ)
    → Follows (Noted count calls) (MayLeave s) (MayLeave (with_journal s (Some (noted count calls s.seen_journal))))
note_follows s count calls =
    journal_follows s (Some (noted count calls s.seen_journal)) (Noted count calls)
    (λ c. record { file = refl; journal = inl refl })
    (λ d c file was is. record {
      file = file;
      journal = inr (is ∙ ap (λ (o : Option Journal). Some (noted count calls o)) (sym was));
    })

pub empty_follows : (s : Snapshot)
    → Follows Emptied (MayLeave s) (MayLeave (with_journal s (without_images s.seen_journal)))
empty_follows s =
    journal_follows s (without_images s.seen_journal) Emptied (λ c. record { file = refl; journal = inl refl })
    (λ d c file was is. record {
      file = file;
      journal = inr (is ∙ ap (λ (o : Option Journal). without_images o) (sym was));
    })

pub remove_follows : (s : Snapshot) → Follows Removed (MayLeave s) (MayLeave (with_journal s None))
remove_follows s =
    journal_follows s None Removed (λ c. record { file = refl; journal = inl refl })
    (λ d c file was is. record { file = file; journal = inr is })

keeps : (past : List Snapshot) (s : Snapshot) (c : Left) → MightLeave past c → MightLeave (past ++ s ∷ []) c
keeps [] s c had = absurd had
keeps (p ∷ past) s c (inl here) = inl here
keeps (p ∷ past) s c (inr there) = inr (keeps past s c there)

adds : (past : List Snapshot) (s : Snapshot) (c : Left) → MightLeave (past ++ s ∷ []) c
    → MightLeave past c ⊎ MayLeave s c
adds [] s c (inl here) = inr here
adds [] s c (inr none) = absurd none
adds (p ∷ past) s c (inl here) = inl (inl here)
adds (p ∷ past) s c (inr there) = ⊎_elim (λ had. inl (inr had)) (λ new. inr new) (adds past s c there)

newest : (past : List Snapshot) (s : Snapshot) (c : Left) → MayLeave s c → MightLeave (past ++ s ∷ []) c
newest [] s c is = inl is
newest (p ∷ past) s c is = inr (newest past s c is)

drop_push : (t : ℕ) (past : List Snapshot) (s : Snapshot) → t ≤ length past
    → drop t (past ++ s ∷ []) ≡ drop t past ++ s ∷ []
drop_push zero past s le = refl
drop_push (suc t) [] s le = absurd (omega arith)
drop_push (suc t) (p ∷ past) s le = drop_push t past s (omega arith)

-- one more snapshot joins those that there were
pub elapses : (old new : MemPair) → new.past.items ≡ old.past.items ++ old.newest ∷ []
    → Elapses {P = MemPair} (λ m. length m.past.items) (λ m t c. Since m.past.items m.newest t c)
    (λ m c. MayLeave m.newest c) old new
elapses old new same = record {
  later = omega (arith, ap length same, length-append old.past.items (old.newest ∷ []));
  nothing_else = λ t c le left.
      ⊎_elim (λ now. inr now)
      (λ had.
      inl (was t c (adds (drop t old.past.items) old.newest c
      (subst (λ (l : List Snapshot). MightLeave l c) (dropped t le) had))))
      left;
  keeps = λ t c le left.
      inr (subst (λ (l : List Snapshot). MightLeave l c) (sym (dropped t le))
      (⊎_elim (λ now. newest (drop t old.past.items) old.newest c now)
      (keeps (drop t old.past.items) old.newest c) left));
}
  where
    dropped : (t : ℕ) → t ≤ length old.past.items → drop t new.past.items ≡ drop t old.past.items ++ old.newest ∷ []
    dropped t le = ap (λ (l : List Snapshot). drop t l) same ∙ drop_push t old.past.items old.newest le

    was : (t : ℕ) (c : Left) → MightLeave (drop t old.past.items) c ⊎ MayLeave old.newest c
        → Since old.past.items old.newest t c
    was t c (inl had) = inr had
    was t c (inr now) = inl now

-- files of which all is synced, and that have no journal
pub quiet : (m : MemPair) → m.newest.synced_file ≡ m.newest.seen_file → m.newest.changes ≡ []
    → m.newest.synced_journal ≡ m.newest.seen_journal → m.newest.seen_journal ≡ None → IsQuiet m
quiet m file changes journal none = record {
  rests = subst (λ (q : Option Journal). IsResting q m.newest.seen_file) (sym none) tt;
  same_journal = λ c now. ⊎_elim (λ is. is) (λ is. is ∙ journal) now.1;
  same_file = λ c now.
      ⊎_elim (λ is. is)
      (λ may. subst (λ (l : List FileChange). FileMay l m.newest.synced_file c.file) changes may ∙ file) now.0;
}
