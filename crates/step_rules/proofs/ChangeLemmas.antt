-- A change of the file by the seat that may write the directory keeps the world sound, and leaves the others what
-- they know, where the file stays sound and the change does to pages what it may.
use Rattle.std.proofs.Common.{◌≡◌, ◌≢◌, ◌≤◌, ◌⊎◌, ℕ, Bool, true, false, if◌then◌else◌, refl, sym, ◌∙◌, subst, inl, inr, arith}
use Rattle.std.proofs.lemmas.Bool.{cases_eq, true≢false}
use Rattle.std.specs.List.{Contains}
use Rattle.directory.specs.Positions.{position_of}
use Rattle.bucket_page.specs.declared.record_key.RecordKey.{RecordKey}
use Rattle.page_locks.specs.declared.lock.LockName.{LockName}
use Rattle.page_locks.specs.declared.lock.LockName.TheVariants.{Directory, Page}
use Rattle.page_locks.specs.Writers.{IsWriter}
use Rattle.page_locks.proofs.WriterLemmas.{one_writer}
use Rattle.hash_file.specs.Store.{Store, page_at, has_bucket, range_at, next_at}
use Rattle.hash_file.specs.Chain.{chain}
use Rattle.hash_file.specs.Change.{Change, aside, busy, owned}
use Rattle.hash_file.specs.Search.{reach, PageLeads}
use Rattle.hash_file.specs.Sound.{IsSoundFile}
use Rattle.hash_file.specs.Kept.{KeepsContents, KeepsFile}
use Rattle.hash_file.proofs.Roles.{live_not_owned}
use Rattle.step_rules.specs.World.{World, gone_on, IsHeld, MayAim, IsReached}
use Rattle.step_rules.specs.Sound.{IsSoundWorld}
use Rattle.step_rules.specs.PageSteps.{Restructures}
use Rattle.step_rules.specs.Does.{KeepsOthers}
use Rattle.step_rules.proofs.LockLemmas.{IsHeld-writer}

-- a pseudokey to which a page leads, if to any
abbrev led_by : Bool → ℕ → ℕ → ℕ
led_by b p q = if b then p else q

abbrev first_led : Store → ℕ → ℕ
first_led s n = led_by (has_bucket s n) (range_at s n).pattern (range_at s (next_at s n)).pattern

position_led : (b : Bool) (p q : ℕ) → (if b then position_of p else position_of q) ≡ position_of (led_by b p q)
position_led true p q = refl
position_led false p q = refl

reach_led : (s : Store) (n : ℕ) → reach s n ≡ position_of (first_led s n)
reach_led s n = position_led (has_bucket s n) (range_at s n).pattern (range_at s (next_at s n)).pattern

-- a page that leads somewhere, leads somewhere where it leads on as it did
pub stands_led : (s t : Store) (c d : Change) (n : ℕ) → ((k : ℕ) → PageLeads s c n k → PageLeads t d n k) →
    Contains (chain s) n ⊎ Contains (aside c) n → Contains (chain t) n ⊎ Contains (aside d) n
stands_led s t c d n leads stands =
    (leads (first_led s n) (record { stands = stands; reaches = omega (arith, reach_led s n) })).stands

pub other_writer : (hash : RecordKey → ℕ) (w : World) (i j : ℕ) (name : LockName) → IsSoundWorld hash w → i ≢ j →
    IsWriter w.locks i name → IsWriter w.locks j name → ⊥
other_writer hash w i j name sound apart mine theirs =
    apart (one_writer w.locks name sound.lawful.pairs i j mine theirs)

-- another seat that may write a page does not write the one that this seat may
pub other_page : (hash : RecordKey → ℕ) (w : World) (i j m n : ℕ) → IsSoundWorld hash w → i ≢ j →
    IsWriter w.locks i (Page m) → IsWriter w.locks j (Page n) → m ≢ n
other_page hash w i j m n sound apart mine theirs same =
    other_writer hash w i j (Page m) sound apart mine (subst (λ (x : ℕ). IsWriter w.locks j (Page x)) (sym same) theirs)

-- what such a change has to keep
pub record Fits (hash : RecordKey → ℕ) (seat : ℕ) (old : World) (t : Store) (d : Change) : Type 0 where
  pub file : IsSoundFile hash t d
  pub contents : KeepsContents old.store t
  pub leads : (i n k : ℕ) → i ≢ seat → MayAim old.locks i n → PageLeads old.store old.change n k → PageLeads t d n k
  pub pages : (i n : ℕ) → i ≢ seat → IsWriter old.locks i (Page n) → page_at t n ≡ page_at old.store n
  pub not_aside : (i n : ℕ) → i ≢ seat → IsWriter old.locks i (Page n) → Contains (chain old.store) n →
      Contains (aside d) n → ⊥
  pub depth : (i : ℕ) → i ≢ seat → IsHeld old.locks i Directory → old.store.header.depth ≤ t.header.depth
  pub guarded : (page : ℕ) → Contains (busy d) page → Contains (chain t) page ⊎ Contains (aside d) page →
      IsWriter old.locks seat (Page page)

module _ (hash : RecordKey → ℕ) (seat : ℕ) (old : World) (sound : IsSoundWorld hash old)
    (leader : IsWriter old.locks seat Directory) (t : Store) (d : Change) (fits : Fits hash seat old t d) where
  abbrev changed : World
  changed = gone_on t d old

  -- a page that another seat holds leads on
  standing : (i page : ℕ) → IsHeld old.locks i (Page page) → IsReached changed page ⊎ IsWriter old.locks i Directory
  standing i page there = elim (cases_eq i seat) [
    | inl own ↦ inr (subst (λ (x : ℕ). IsWriter old.locks x Directory) (sym own) leader)
    | inr apart ↦ elim (sound.standing i page there) [
      | inr w ↦ inr w
      | inl reached ↦ inl (stands_led old.store t old.change d page
          (λ k. fits.leads i page k apart (inr there)) reached)
    ]
  ]

  -- a live page that another seat may write stays live
  live : (i n : ℕ) → i ≢ seat → IsWriter old.locks i (Page n) → Contains (chain old.store) n → Contains (chain t) n
  live i n apart w on =
      elim (stands_led old.store t old.change d n
      (λ k. fits.leads i n k apart (inr (IsHeld-writer old.locks i (Page n) w))) (inl on)) [
        | inl still ↦ still
        | inr off ↦ absurd (fits.not_aside i n apart w on off)
      ]

  pub KeepsOthers-change : KeepsOthers hash seat old changed
  KeepsOthers-change = record {
    sound = record {
      file = fits.file;
      lawful = sound.lawful;
      led = λ none. absurd (true≢false (sym leader ∙ none seat));
      guarded = λ page there on. (seat, record { directory = leader; page_too = fits.guarded page there on });
      standing = standing;
    };
    leaves = record {
      seats = refl;
      rows = λ i apart. refl;
      pages = fits.pages;
      live = live;
      structure = λ no_writer. absurd (no_writer leader);
      leads = fits.leads;
      depth = fits.depth;
      records = λ key free. fits.contents key;
    };
  }

-- ---- a step by the rules of one kind
module _ (hash : RecordKey → ℕ) (seat : ℕ) (old new : World) (sound : IsSoundWorld hash old) (c : Change)
    (t : Store) (d : Change)
    (changes : Restructures seat c t d old new) where
  -- the file is sound in the phase that the kind asks for
  pub file : IsSoundFile hash old.store c
  file = subst (IsSoundFile hash old.store) changes.phase sound.file

  pub close : Fits hash seat old t d → KeepsOthers hash seat old new
  close fits = subst (KeepsOthers hash seat old) (sym changes.is)
      (KeepsOthers-change hash seat old sound changes.leader t d fits)

  -- where the change keeps all leading, it is left to say what it does to pages
  pub close_kept : KeepsFile hash old.store c t d →
      ((i n : ℕ) → i ≢ seat → IsWriter old.locks i (Page n) → page_at t n ≡ page_at old.store n) →
      ((i n : ℕ) → i ≢ seat → IsWriter old.locks i (Page n) → Contains (chain old.store) n → Contains (aside d) n → ⊥) →
      ((i : ℕ) → i ≢ seat → IsHeld old.locks i Directory → old.store.header.depth ≤ t.header.depth) →
      ((page : ℕ) → Contains (busy d) page → Contains (chain t) page ⊎ Contains (aside d) page →
      IsWriter old.locks seat (Page page)) →
      KeepsOthers hash seat old new
  close_kept keeps pages aside_free depth guarded = close (record {
    file = keeps.sound;
    contents = keeps.contents;
    leads = λ i n k apart aim leads.
        keeps.leads n k (subst (λ (e : Change). PageLeads old.store e n k) changes.phase leads);
    pages = pages;
    not_aside = aside_free;
    depth = depth;
    guarded = guarded;
  })

  -- a page that the change owned before it is not live
  pub not_live : (n m : ℕ) → Contains (owned c) m → Contains (chain old.store) n → n ≢ m
  not_live n m own on = live_not_owned hash old.store c (chain old.store) file n m on own
