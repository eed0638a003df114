-- Steps that change locks alone keep the world sound, and leave the others what they know.
use Rattle.std.proofs.Common.{◌≡◌, ◌≢◌, ◌⊎◌, ℕ, List, [], ◌∷◌, ◌++◌, length, None, refl, sym, ap, ◌∙◌, subst, inl, inr, arith}
use Rattle.std.proofs.lemmas.Bool.{cases_eq, cases_Bool}
use Rattle.std.specs.List.{Contains}
use Rattle.directory.proofs.MemberLaws.{contains_none}
use Rattle.bucket_page.specs.declared.record_key.RecordKey.{RecordKey}
use Rattle.page_locks.specs.declared.lock.Lock.{Lock}
use Rattle.page_locks.specs.declared.lock.LockKind.{LockKind}
use Rattle.page_locks.specs.declared.lock.LockKind.TheVariants.{Selective, Exclusive}
use Rattle.page_locks.specs.declared.lock.LockName.{LockName}
use Rattle.page_locks.specs.declared.lock.LockName.TheVariants.{Directory, Page}
use Rattle.page_locks.specs.Locks.{kind_of, lock_of, without, converted}
use Rattle.page_locks.specs.Table.{Table, IsSeat, row_of, held, with_lock, without_lock, with_kind}
use Rattle.page_locks.specs.Writers.{may_write, IsWriter, HasNoWriter}
use Rattle.page_locks.proofs.TableLemmas.{IsLawful-grant, IsLawful-release, IsLawful-convert}
use Rattle.page_locks.proofs.ChangeLemmas.{length-with_row, ChangesOnly-grant, ChangesOnly-release, ChangesOnly-convert}
use Rattle.page_locks.proofs.WriterLemmas.{held-kept, HasNoWriter-before, HasNoWriter-before_grant, HasNoWriter-before_convert}
use Rattle.hash_file.specs.Change.{Change, Quiet, busy}
use Rattle.step_rules.specs.World.{World, with_locks, IsHeld, IsReached}
use Rattle.step_rules.specs.Sound.{IsSoundWorld, IsWrittenBy}
use Rattle.step_rules.specs.Leaves.{Leaves}
use Rattle.step_rules.specs.LockSteps.{Grants, Releases, Converts}
use Rattle.step_rules.specs.Does.{KeepsOthers}
use Rattle.step_rules.proofs.LockLemmas.{names_eq, none_is_not_some, IsHeld-writer, IsHeld-same, IsWriter-same, held-granted, held-unreleased, held-released, IsWriter-converted}

-- a step that changes its seat's row alone leaves all else
pub Leaves-locks : (seat : ℕ) (w : World) (t : Table) → length t ≡ length w.locks →
    ((i : ℕ) → i ≢ seat → row_of t i ≡ row_of w.locks i) → Leaves seat w (with_locks t w)
Leaves-locks seat w t seats rows = record {
  seats = seats;
  rows = rows;
  pages = λ i n apart owned. refl;
  live = λ i n apart owned on. on;
  structure = λ no_writer. record {
    change = refl;
    header = refl;
    entries = refl;
    chain = refl;
    pages = λ n. refl;
  };
  leads = λ i n k apart aim leads. leads;
  depth = λ i apart there. omega arith;
  records = λ key free. refl;
}

pub KeepsOthers-same : (hash : RecordKey → ℕ) (seat : ℕ) (old new : World) → IsSoundWorld hash old → new ≡ old →
    KeepsOthers hash seat old new
KeepsOthers-same hash seat old new sound is = subst (KeepsOthers hash seat old) (sym is) (record {
  sound = sound;
  leaves = Leaves-locks seat old old.locks refl (λ i apart. refl);
})

-- nothing that the phase speaks of, where there is none
pub none_busy : (c : Change) (page : ℕ) → c ≡ Quiet → Contains (busy c) page → ⊥
none_busy c page quiet there = contains_none page (subst (λ (d : Change). Contains (busy d) page) quiet there)

module _ (hash : RecordKey → ℕ) (seat : ℕ) (old : World) (sound : IsSoundWorld hash old) where
  -- ---- a grant
  module _ (is : IsSeat old.locks seat) (name : LockName) (kind : LockKind)
      (fresh : held old.locks seat name ≡ None) where
    abbrev granted : Table
    granted = with_lock old.locks seat name kind

    writer_stays : (i : ℕ) (n : LockName) → IsWriter old.locks i n → IsWriter granted i n
    writer_stays i n w =
        IsWriter-same old.locks granted i n (held-granted old.locks seat is name kind i n fresh
        (IsHeld-writer old.locks i n w)) w

    stands : ((page : ℕ) → name ≡ Page page → IsReached old page) → (i page : ℕ) → IsHeld granted i (Page page) →
        IsReached old page ⊎ IsWriter granted i Directory
    stands aimed i page there = elim (names_eq name (Page page)) [
      | inl same ↦ inl (aimed page same)
      | inr other ↦
          let changes = ChangesOnly-grant old.locks seat is name kind in
          let kept = held-kept seat name old.locks granted changes i (Page page) other in
          elim (sound.standing i page (IsHeld-same granted old.locks i (Page page) (sym kept) there)) [
            | inl reached ↦ inl reached
            | inr w ↦ inr (writer_stays i Directory w)
          ]
    ]

  pub KeepsOthers-grant : (new : World) → Grants seat old new → KeepsOthers hash seat old new
  KeepsOthers-grant new g = subst (KeepsOthers hash seat old) (sym g.is) (record {
    sound = record {
      file = sound.file;
      lawful = IsLawful-grant old.locks seat sound.lawful g.seated g.name g.kind g.room g.fresh g.free;
      led = λ none. sound.led (HasNoWriter-before_grant old.locks seat g.seated g.name g.kind Directory g.fresh none);
      guarded = λ page there on.
          let by = sound.guarded page there on in (
            by.0,
            record {
              directory = writer_stays g.seated g.name g.kind g.fresh by.0 Directory by.1.directory;
              page_too = writer_stays g.seated g.name g.kind g.fresh by.0 (Page page) by.1.page_too;
            },
          );
      standing = stands g.seated g.name g.kind g.fresh g.aimed;
    };
    leaves = Leaves-locks seat old (with_lock old.locks seat g.name g.kind)
        (length-with_row old.locks seat (row_of old.locks seat ++ lock_of g.name g.kind ∷ []))
        (ChangesOnly-grant old.locks seat g.seated g.name g.kind).rows;
  })

  -- ---- a release
  pub KeepsOthers-release : (new : World) → Releases seat old new → KeepsOthers hash seat old new
  KeepsOthers-release new r = subst (KeepsOthers hash seat old) (sym r.is) (record {
    sound = record {
      file = sound.file;
      lawful = IsLawful-release old.locks seat sound.lawful r.seated r.name;
      led = led;
      guarded = guarded;
      standing = standing;
    };
    leaves = Leaves-locks seat old left (length-with_row old.locks seat (without (row_of old.locks seat) r.name))
        (ChangesOnly-release old.locks seat r.seated r.name).rows;
  })
    where
      left : Table
      left = without_lock old.locks seat r.name

      -- a seat that keeps the name may still write it
      stays : (i : ℕ) (n : LockName) → (i ≡ seat → r.name ≢ n) → IsWriter old.locks i n → IsWriter left i n
      stays i n other w = IsWriter-same old.locks left i n (held-released old.locks seat r.seated r.name i n other) w

      -- who may write the directory gives it back where no change is under way
      gives_back : r.name ≡ Directory → HasNoWriter left Directory → old.change ≡ Quiet
      gives_back same none = elim (cases_Bool (may_write (held old.locks seat Directory))) [
        | inl w ↦ (r.done same w).quiet
        | inr not_own ↦ sound.led (λ i. elim (cases_eq i seat) [
          | inl own ↦ ap (λ (x : ℕ). may_write (held old.locks x Directory)) own ∙ not_own
          | inr apart ↦
              ap (λ (row : List Lock). may_write (kind_of row Directory))
              (sym ((ChangesOnly-release old.locks seat r.seated r.name).rows i apart)) ∙ none i
        ])
      ]

      led : HasNoWriter left Directory → old.change ≡ Quiet
      led none = elim (names_eq r.name Directory) [
        | inl same ↦ gives_back same none
        | inr other ↦ sound.led (HasNoWriter-before seat r.name old.locks left
            (ChangesOnly-release old.locks seat r.seated r.name) Directory other none)
      ]

      guarded : (page : ℕ) → Contains (busy old.change) page → IsReached old page →
          (i : ℕ) × IsWrittenBy left i page
      guarded page there on =
          let by = sound.guarded page there on in
          let own = λ (e : by.0 ≡ seat). subst (λ (x : ℕ). IsWriter old.locks x Directory) e by.1.directory in (
            by.0,
            record {
              directory = stays by.0 Directory
                  (λ e same. none_busy old.change page (r.done same (own e)).quiet there) by.1.directory;
              page_too = stays by.0 (Page page) (λ e same. r.idle page same (own e) there) by.1.page_too;
            },
          )

      -- who may no longer write the directory holds no page
      bare : (i page : ℕ) → IsHeld left i (Page page) → IsWriter old.locks i Directory → IsWriter left i Directory
      bare i page there w = stays i Directory
          (λ e same.
          let own : IsWriter old.locks seat Directory = subst (λ (x : ℕ). IsWriter old.locks x Directory) e w in
          let mine : IsHeld left seat (Page page) = subst (λ (x : ℕ). IsHeld left x (Page page)) e there in
          let kept = held-unreleased old.locks seat r.seated r.name seat (Page page) mine in
          none_is_not_some (kept ∙ (r.done same own).bare page) mine) w

      standing : (i page : ℕ) → IsHeld left i (Page page) → IsReached old page ⊎ IsWriter left i Directory
      standing i page there =
          let kept = held-unreleased old.locks seat r.seated r.name i (Page page) there in
          elim (sound.standing i page (IsHeld-same left old.locks i (Page page) (sym kept) there)) [
            | inl reached ↦ inl reached
            | inr w ↦ inr (bare i page there w)
          ]

  -- ---- a conversion
  pub KeepsOthers-convert : (new : World) → Converts seat old new → KeepsOthers hash seat old new
  KeepsOthers-convert new c = subst (KeepsOthers hash seat old) (sym c.is) (record {
    sound = record {
      file = sound.file;
      lawful = IsLawful-convert old.locks seat sound.lawful c.seated Directory Exclusive c.free;
      led = λ none. sound.led
          (HasNoWriter-before_convert old.locks seat c.seated Directory Exclusive Selective Directory refl c.had none);
      guarded = λ page there on.
          let by = sound.guarded page there on in (
            by.0,
            record {
              directory = stays by.0 Directory by.1.directory;
              page_too = stays by.0 (Page page) by.1.page_too;
            },
          );
      standing = λ i page there.
          elim (sound.standing i page (IsHeld-same turned old.locks i (Page page) (sym (kept i page)) there)) [
            | inl reached ↦ inl reached
            | inr w ↦ inr (stays i Directory w)
          ];
    };
    leaves = Leaves-locks seat old turned (length-with_row old.locks seat
        (converted (row_of old.locks seat) Directory Exclusive))
        (ChangesOnly-convert old.locks seat c.seated Directory Exclusive).rows;
  })
    where
      turned : Table
      turned = with_kind old.locks seat Directory Exclusive

      stays : (i : ℕ) (n : LockName) → IsWriter old.locks i n → IsWriter turned i n
      stays i n w = IsWriter-converted old.locks seat c.seated Directory i n c.had w

      kept : (i page : ℕ) → held turned i (Page page) ≡ held old.locks i (Page page)
      kept i page = held-kept seat Directory old.locks turned
          (ChangesOnly-convert old.locks seat c.seated Directory Exclusive) i (Page page) (λ e. absurd cc)
