-- A table's rows and its slots say the same, and go on to after a change.
use Rattle.std.proofs.Common.{arith, ◌≡◌, ◌≢◌, ℕ, zero, suc, ◌*◌, ◌<◌, ◌≤◌, true, false}
use Rattle.std.proofs.Common.{List, [], ◌∷◌, length, map, get_or, Option, Some, None, refl, sym, ap, ◌∙◌, inl, inr, true≢false}
use Rattle.page_locks.proofs.Names.{cases_Bool, cases_eq, flat_map, length-flat_map, length-map, list_any, list_any-append, or_left, or_right, sum_by-le}
use Rattle.page_locks.specs.declared.holders.Holders.{Holders}
use Rattle.page_locks.specs.declared.lock.Lock.{Lock}
use Rattle.page_locks.specs.declared.lock.LockKind.{LockKind}
use Rattle.page_locks.specs.declared.lock.LockName.{LockName}
use Rattle.page_locks.specs.declared.slot.Slot.{Slot}
use Rattle.page_locks.specs.declared.row.TheConstants.{MAX_LOCKS}
use Rattle.page_locks.specs.declared.lock_table.TheConstants.{MAX_SEATS}
use Rattle.page_locks.specs.Holding.{is_nobody, kind_at, ChangesSeat}
use Rattle.page_locks.specs.Locks.{is_against, is_on, is_same, kind_of, without}
use Rattle.page_locks.specs.Probing.{holders_of, ChangesName, HasFewNames, HasHomesApart, IsWanted}
use Rattle.page_locks.specs.Table.{Table, IsSeat, row_of, held, with_lock, without_lock, with_kind, IsFree, IsLawful}
use Rattle.page_locks.specs.Ties.{IsTied, IsSoundTable, AreHomesApart, IsHeldOrAsked}
use Rattle.page_locks.specs.Writers.{ChangesOnly}
use Rattle.page_locks.proofs.ChangeLemmas.{ChangesOnly-grant, ChangesOnly-release, ChangesOnly-convert, held-grant, held-release, held-convert}
use Rattle.page_locks.proofs.HolderLemmas.{held_by}
use Rattle.page_locks.proofs.NameLemmas.{is_same-itself, is_same-true}
use Rattle.page_locks.proofs.TableLemmas.{IsLawful-grant, IsLawful-release, IsLawful-convert, row_of-same, row_of-other}
use Rattle.page_locks.proofs.WriterLemmas.{held-kept}

-- the names that a row has, and those of all rows
abbrev names_of : List Lock → List LockName
names_of locks = map (λ (lock : Lock). lock.name) locks

abbrev all_names : Table → List LockName
all_names t = flat_map names_of t

in_row : (locks : List Lock) (name : LockName) → kind_of locks name ≢ None →
    list_any (is_same name) (names_of locks) ≡ true
in_row [] name some = absurd (some refl)
in_row (x ∷ xs) name some = elim (cases_Bool (is_on name x)) [
  | inl on ↦
      let here : is_same name x.name ≡ true =
      ap (is_same name) (is_same-true x.name name on) ∙ is_same-itself name
      in
      or_left (is_same name x.name) (list_any (is_same name) (names_of xs)) here
  | inr off ↦
      or_right (is_same name x.name) (list_any (is_same name) (names_of xs))
      (in_row xs name (λ none. some (rw off none)))
]

in_table : (t : Table) (place : ℕ) (name : LockName) → kind_of (get_or t place []) name ≢ None →
    list_any (is_same name) (all_names t) ≡ true
in_table [] place name some = absurd (some refl)
in_table (row ∷ t) zero name some =
    list_any-append (is_same name) (names_of row) (all_names t) ∙
    or_left (list_any (is_same name) (names_of row)) (list_any (is_same name) (all_names t)) (in_row row name some)
in_table (row ∷ t) (suc place) name some =
    list_any-append (is_same name) (names_of row) (all_names t) ∙
    or_right (list_any (is_same name) (names_of row)) (list_any (is_same name) (all_names t))
    (in_table t place name some)

is_listed : (t : Table) (seat : ℕ) (name : LockName) → held t seat name ≢ None →
    list_any (is_same name) (all_names t) ≡ true
is_listed t zero name some = absurd (some refl)
is_listed t (suc place) name some = in_table t place name some

few_names : (t : Table) → IsLawful t → length (all_names t) ≤ MAX_SEATS * MAX_LOCKS
few_names t lawful =
    let each = sum_by-le (λ (row : List Lock). length (names_of row)) MAX_LOCKS t
    (λ k d lt. omega (arith, length-map (get_or t k d) (λ (lock : Lock). lock.name), lawful.short_rows k d lt))
    in
    omega (arith, length-flat_map names_of t, each, lawful.few_seats)

module _ (slots : List Slot) (t : Table) (tied : IsTied slots t) where
  -- a name in the slots is held by a seat
  by_seat : (name : LockName) → is_nobody (holders_of slots name) ≡ false → (seat : ℕ) × (held t seat name ≢ None)
  by_seat name some =
      let by = held_by (holders_of slots name) some in
      (by.0, λ none. by.1 (tied.ties by.0 name ∙ none))

  -- so at most half of the slots are taken
  pub HasFewNames-tied : HasFewNames slots
  HasFewNames-tied = record {
    names = all_names t;
    few = omega (arith, few_names t tied.lawful);
    all = λ name some. let by = by_seat name some in is_listed t by.0 name by.1;
  }

  pub HasHomesApart-tied : (asked : LockName) → AreHomesApart t asked → HasHomesApart slots asked
  HasHomesApart-tied asked apart a b a_wanted b_wanted = apart a b (wanted a a_wanted) (wanted b b_wanted)
    where
      wanted : (name : LockName) → IsWanted slots asked name → IsHeldOrAsked t asked name
      wanted name is = elim is [ inl at ↦ inl at | inr some ↦ inr (by_seat name some) ]

  -- the holders of a name keep a seat from it as the others' rows do
  module _ (seat : ℕ) (name : LockName) (holders : Holders) (its : holders ≡ holders_of slots name) where
    pub as_held : (other : ℕ) → kind_at holders other ≡ held t other name
    as_held other = ap (λ (h : Holders). kind_at h other) its ∙ tied.ties other name

    pub IsFree-holders : (kind : LockKind) →
        ((other : ℕ) → other ≢ seat → is_against kind (kind_at holders other) ≡ false) → IsFree t seat name kind
    IsFree-holders kind free other apart = ap (is_against kind) (sym (as_held other)) ∙ free other apart

  -- a seat's holding of one name changed in the slots and in its row
  module _ (seat : ℕ) (name : LockName) (holders new_holders : Holders) (its : holders ≡ holders_of slots name)
      (kind : Option LockKind) (new : List Slot) (changes : ChangesSeat seat kind holders new_holders)
      (stored : ChangesName name new_holders slots new) (t' : Table) (rows : ChangesOnly seat name t t')
      (own : held t' seat name ≡ kind) where
    same_name : (s : ℕ) → kind_at new_holders s ≡ held t' s name
    same_name s = elim (cases_eq s seat) [
      | inl at ↦
          ap (kind_at new_holders) at ∙ changes.own ∙ sym own ∙ ap (λ (x : ℕ). held t' x name) (sym at)
      | inr apart ↦
          changes.others s apart ∙ as_held seat name holders its s ∙
          ap (λ (row : List Lock). kind_of row name) (sym (rows.rows s apart))
    ]

    pub IsTied-changed : IsLawful t' → IsTied new t'
    IsTied-changed lawful = record {
      lawful = lawful;
      ties = λ s n. elim (cases_Bool (is_same name n)) [
        | inl is ↦
            let same = is_same-true name n is in
            ap (λ (m : LockName). kind_at (holders_of new m) s) (sym same) ∙
            ap (λ (h : Holders). kind_at h s) stored.own ∙ same_name s ∙ ap (held t' s) same
        | inr not ↦
            let apart : name ≢ n =
            λ same. true≢false (sym (ap (is_same name) (sym same) ∙ is_same-itself name) ∙ not)
            in
            ap (λ (h : Holders). kind_at h s) (stored.others n (λ e. apart (sym e))) ∙ tied.ties s n ∙
            sym (held-kept seat name t t' rows s n apart)
      ];
    }

-- a grant, a release and a conversion, in the slots and in the rows
module _ (slots : List Slot) (t : Table) (tied : IsTied slots t) (seat : ℕ) (is : IsSeat t seat) (name : LockName)
    (holders : Holders) (its : holders ≡ holders_of slots name) (new_holders : Holders) (new : List Slot)
    (stored : ChangesName name new_holders slots new) where
  pub IsTied-grant : (kind : LockKind) → length (row_of t seat) < MAX_LOCKS → held t seat name ≡ None →
      IsFree t seat name kind → ChangesSeat seat (Some kind) holders new_holders →
      IsTied new (with_lock t seat name kind)
  IsTied-grant kind room fresh free changes =
      IsTied-changed slots t tied seat name holders new_holders its (Some kind) new changes stored
      (with_lock t seat name kind) (ChangesOnly-grant t seat is name kind) (held-grant t seat is name kind fresh)
      (IsLawful-grant t seat tied.lawful is name kind room fresh free)

  pub IsTied-release : ChangesSeat seat None holders new_holders → IsTied new (without_lock t seat name)
  IsTied-release changes =
      IsTied-changed slots t tied seat name holders new_holders its None new changes stored
      (without_lock t seat name) (ChangesOnly-release t seat is name) (held-release t seat is name)
      (IsLawful-release t seat tied.lawful is name)

  pub IsTied-convert : (kind old : LockKind) → held t seat name ≡ Some old → IsFree t seat name kind →
      (without : Holders) → ChangesSeat seat None holders without → ChangesSeat seat (Some kind) without new_holders →
      IsTied new (with_kind t seat name kind)
  IsTied-convert kind old had free without gone back =
      IsTied-changed slots t tied seat name holders new_holders its (Some kind) new
      (record { own = back.own; others = λ other apart. back.others other apart ∙ gone.others other apart })
      stored (with_kind t seat name kind) (ChangesOnly-convert t seat is name kind)
      (held-convert t seat is name kind old had) (IsLawful-convert t seat tied.lawful is name kind free)

-- what was looked at stays with a table that is tied
pub IsSoundTable-looked : {slots : List Slot} {t : Table} → IsTied slots t → (looked : ℕ) → 1 ≤ looked →
    IsSoundTable slots t looked
IsSoundTable-looked tied looked some = record { tied = tied; begun = λ none. absurd (omega (arith, some, none)) }

module _ (slots : List Slot) (t : Table) (looked : ℕ) (sound : IsSoundTable slots t looked) (seat : ℕ) where
  pub IsSoundTable-release : IsSeat t seat → (name : LockName) → {new : List Slot} →
      IsTied new (without_lock t seat name) →
      IsSoundTable new (without_lock t seat name) looked
  IsSoundTable-release is name tied = record {
    tied = tied;
    begun = λ none other. elim (cases_eq other seat) [
      | inl same ↦
          ap (row_of (without_lock t seat name)) same ∙ row_of-same t seat (without (row_of t seat) name) is ∙
          ap (λ (locks : List Lock). without locks name) (sound.begun none seat)
      | inr apart ↦ row_of-other t seat other (without (row_of t seat) name) apart ∙ sound.begun none other
    ];
  }

  pub IsSoundTable-convert : (name : LockName) (kind old : LockKind) → held t seat name ≡ Some old → {new : List Slot} →
      IsTied new (with_kind t seat name kind) → IsSoundTable new (with_kind t seat name kind) looked
  IsSoundTable-convert name kind old had tied = record {
    tied = tied;
    begun = λ none.
        let empty : held t seat name ≡ None = ap (λ (locks : List Lock). kind_of locks name) (sound.begun none seat) in
        absurd cc;
  }
