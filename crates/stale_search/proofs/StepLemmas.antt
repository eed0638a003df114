-- The steps of a search, each from what its place knows.
use Rattle.std.proofs.Common.{◌≡◌, ◌≢◌, refl, sym, ap, ◌∙◌, subst, ℕ, ◌<◌, true, List, [], ◌∷◌, Option, Some, None, length, inl, inr}
use Rattle.std.specs.Option.{option_map}
use Rattle.step_rules.specs.Words.{Lock, LockKind, Read, LockName, Directory, Page, next_at, records_at, Change, PageLeads, Answers}
use Rattle.stale_search.specs.Words.{RecordKey, PoolState, MAX_LOCKS, kind_of, Table, IsSeat, IsOpposed, Opposes, row_of, held, with_lock, without_lock, OnlyReads, Moved, Blocked, Ended, World, IsHeld, IsReached, Known, LeadsTo, AllKnown, Ask, ForLock, ForPage, ForAnswer, HopFrom, Turn}
use Rattle.file_pages.specs.bucket_page.Records.{lookup}
use Rattle.page_locks.specs.Writers.{may_write, IsWriter}
use Rattle.page_locks.proofs.WriterLemmas.{IsFree-unopposed}
use Rattle.file_pages.specs.hash_file.Changes.{RecordWrite}
use Rattle.file_pages.specs.declared.fault.FileFault.{FileFault}
use Rattle.step_rules.specs.declared.kind.Kind.{Kind}
use Rattle.step_rules.specs.declared.kind.Kind.TheVariants.{Grant, Release, Look, Hop}
use Rattle.step_rules.specs.LockSteps.{Grants, Releases, MovesOn}
use Rattle.step_rules.specs.Does.{KeepsOthers}
use Rattle.step_rules.proofs.KindLemmas.{kind_keeps}
use Rattle.step_rules.proofs.LockLemmas.{IsHeld-some}
use Rattle.step_rules.proofs.LockStepLemmas.{KeepsOthers-same}
use Rattle.step_rules.specs.Answering.{TakesAnswer}
use Rattle.step_rules.proofs.AnswerLemmas.{look_may_tell}
use Rattle.step_rules.proofs.MachineLemmas.{AllKnown-granted}
use Rattle.step_rules.proofs.OwnLemmas.{hop_is_led_on}
use Rattle.step_rules.specs.Searching.{HopsBack, HopsOn, Stays, WalksTo, WasBefore}
use Rattle.step_rules.specs.Turns.{DoesTied, GrantsAsked, GrantsJust, HopsJust, MayBeGranted}
use Rattle.stale_search.specs.Steps.{world, Sees, Step}
use Rattle.stale_search.specs.Rows.{HasNoFileLock, on_page}
use Rattle.stale_search.proofs.RowLemmas.{page_on, other_not_on, directory_not_on}

module _ (hash : RecordKey → ℕ) (seat : ℕ) (facts : List Known) (pool : PoolState) (locks : Table)
    (change : Change) (sees : Sees hash seat facts pool locks change) (write : Option RecordWrite) where
  abbrev turn_of : Option Ask → Turn
  turn_of ask = record { ask = ask; write = write }

  abbrev old : World
  old = world pool.images locks change

  -- a lock is granted, and its seat learns of the world behind
  granted_by : (ask : Option Ask) (facts' : List Known) (locks' : Table) (name : LockName) (kind : LockKind) →
      ((new : World) → GrantsJust name kind seat old new → GrantsAsked ask seat old new) →
      WalksTo {F = FileFault} seat ask (Moved Grant) old (world pool.images locks' change) facts' →
      ((new : World) (g : Grants seat old new) → g.name ≡ name → g.kind ≡ kind → AllKnown seat new facts') →
      IsSeat locks seat → length (row_of locks seat) < MAX_LOCKS →
      held locks seat name ≡ None → (IsOpposed locks seat name kind → ⊥) →
      ((page : ℕ) → name ≡ Page page → IsReached old page) → MayBeGranted name kind seat old →
      locks' ≡ with_lock locks seat name kind →
      Step {F = FileFault} hash seat (turn_of ask) (Moved Grant) facts' pool pool locks locks' change
  granted_by ask facts' locks' name kind tie led learns seated room fresh nobody reached may is =
      let new : World = world pool.images locks' change in
      let g : Grants seat old new = record {
        seated = seated;
        room = room;
        name = name;
        kind = kind;
        fresh = fresh;
        free = IsFree-unopposed locks seat name kind nobody;
        aimed = reached;
        is = ap (λ (t : Table). world pool.images t change) is;
      } in
      record {
        after = change;
        file = sees.file;
        others = kind_keeps Grant hash seat old new sees.sound g;
        known = learns new g refl refl;
        does = tie new (record { grants = g; name_is = refl; kind_is = refl; may = may });
        led = led;
      }

  pub granted_to : (facts' : List Known) (locks' : Table) (name : LockName) (kind : LockKind) →
      WalksTo {F = FileFault} seat (Some (ForLock name kind)) (Moved Grant) old (world pool.images locks' change)
      facts' →
      ((new : World) (g : Grants seat old new) → g.name ≡ name → g.kind ≡ kind → AllKnown seat new facts') →
      IsSeat locks seat → length (row_of locks seat) < MAX_LOCKS →
      held locks seat name ≡ None → (IsOpposed locks seat name kind → ⊥) →
      ((page : ℕ) → name ≡ Page page → IsReached old page) → MayBeGranted name kind seat old →
      locks' ≡ with_lock locks seat name kind →
      Step {F = FileFault} hash seat (turn_of (Some (ForLock name kind))) (Moved Grant) facts' pool pool locks locks'
      change
  granted_to facts' locks' name kind =
      granted_by (Some (ForLock name kind)) facts' locks' name kind (λ new g. g)

  -- and knows what it knew
  pub granted : (locks' : Table) (name : LockName) (kind : LockKind) →
      WalksTo {F = FileFault} seat (Some (ForLock name kind)) (Moved Grant) old (world pool.images locks' change)
      facts →
      IsSeat locks seat → length (row_of locks seat) < MAX_LOCKS →
      held locks seat name ≡ None → (IsOpposed locks seat name kind → ⊥) →
      ((page : ℕ) → name ≡ Page page → IsReached old page) → MayBeGranted name kind seat old →
      locks' ≡ with_lock locks seat name kind →
      Step {F = FileFault} hash seat (turn_of (Some (ForLock name kind))) (Moved Grant) facts pool pool locks locks'
      change
  granted locks' name kind led = granted_to facts locks' name kind led
      (λ new g named kinded. AllKnown-granted seat old new facts g sees.known)

  -- the page to which a search goes
  pub granted_page : (n k : ℕ) (kind : LockKind) (locks' : Table) → AllKnown seat old (LeadsTo n k ∷ []) →
      IsSeat locks seat → length (row_of locks seat) < MAX_LOCKS →
      held locks seat (Page n) ≡ None → (IsOpposed locks seat (Page n) kind → ⊥) →
      ((page : ℕ) → Page n ≡ Page page → IsReached old page) → MayBeGranted (Page n) kind seat old →
      locks' ≡ with_lock locks seat (Page n) kind →
      Step {F = FileFault} hash seat (turn_of (Some (ForPage n k kind))) (Moved Grant) (LeadsTo n k ∷ []) pool pool
      locks locks' change
  granted_page n k kind locks' known = granted_by (Some (ForPage n k kind)) (LeadsTo n k ∷ []) locks' (Page n) kind
      (λ new g. g)
      (record { still = refl; behind = λ e. absurd cc; by = WasBefore kind refl })
      (λ new g named kinded. AllKnown-granted seat old new (LeadsTo n k ∷ []) g known)

  -- that page is another seat's
  pub kept_from : (n k : ℕ) (kind : LockKind) (other : ℕ) → AllKnown seat old (LeadsTo n k ∷ []) →
      Opposes locks seat (Page n) kind other →
      Step {F = FileFault} hash seat (turn_of (Some (ForPage n k kind))) (Blocked other) (LeadsTo n k ∷ []) pool pool
      locks locks change
  kept_from n k kind other known opposes = record {
    after = change;
    file = sees.file;
    others = KeepsOthers-same hash seat old old sees.sound refl;
    known = known;
    does = (opposes, refl);
    led = record { still = refl; behind = λ e. absurd cc; by = WasBefore kind refl };
  }

  -- the search has ended on its page
  pub stays_there : (n k : ℕ) → AllKnown seat old (LeadsTo n k ∷ []) →
      Step {F = FileFault} hash seat (turn_of (Some (ForAnswer n k))) Ended (LeadsTo n k ∷ []) pool pool locks locks
      change
  stays_there n k known = record {
    after = change;
    file = sees.file;
    others = KeepsOthers-same hash seat old old sees.sound refl;
    known = known;
    does = refl;
    led = record { still = refl; behind = λ e. absurd cc; by = Stays refl };
  }

  -- a page is read
  pub read : (kind : Kind) (turn : Turn) (facts' : List Known) (pool' : PoolState) → OnlyReads true pool pool' →
      AllKnown seat old facts' → DoesTied hash turn kind seat old old →
      WalksTo {F = FileFault} seat turn.ask (Moved kind) old old facts' →
      Step {F = FileFault} hash seat turn (Moved kind) facts' pool pool' locks locks change
  read kind turn facts' pool' reads all does led =
      let same : world pool'.images locks change ≡ old =
      ap (λ (images : List (List ℕ)). world images locks change) (reads.images sees.honest) in
      record {
        after = change;
        file = reads.file sees.honest refl sees.file;
        others = KeepsOthers-same hash seat old (world pool'.images locks change) sees.sound same;
        known = subst (λ (w : World). AllKnown seat w facts') (sym same) all;
        does = subst (DoesTied hash turn kind seat old) (sym same) does;
        led = subst (λ (w : World). WalksTo {F = FileFault} seat turn.ask (Moved kind) old w facts') (sym same) led;
      }

  -- the directory is given back
  pub gave_back : (locks' : Table) (n k : ℕ) (kind : LockKind) (before : List Lock) → HasNoFileLock before →
      IsSeat locks seat →
      held locks seat Directory ≡ Some Read → row_of locks' seat ≡ on_page n kind before →
      locks' ≡ without_lock locks seat Directory → PageLeads old.store change n k →
      Step {F = FileFault} hash seat (turn_of (Some (ForAnswer n k))) (Moved Release) (LeadsTo n k ∷ []) pool pool locks
      locks' change
  gave_back locks' n k kind before bare seated had row is leads =
      let new : World = world pool.images locks' change in
      let r : Releases seat old new = record {
        seated = seated;
        name = Directory;
        had = IsHeld-some locks seat Directory Read had;
        idle = λ page same. absurd cc;
        done = λ _ writes. absurd (let none : may_write (Some Read) ≡ true = ap may_write (sym had) ∙ writes in cc);
        is = ap (λ (t : Table). world pool.images t change) is;
      } in
      let there : IsHeld locks' seat (Page n) = IsHeld-some locks' seat (Page n) kind
      (ap (λ (locks : List Lock). kind_of locks (Page n)) row ∙ page_on before bare n kind) in
      record {
        after = change;
        file = sees.file;
        others = kind_keeps Release hash seat old new sees.sound r;
        known = ((inr there, leads), tt);
        does = r;
        led = record { still = refl; behind = λ e. absurd cc; by = Stays refl };
      }

  module _ (pool' : PoolState) (reads : OnlyReads true pool pool') (page k : ℕ) (kind : LockKind) (before : List Lock)
      (bare : HasNoFileLock before) (seated : IsSeat locks seat) (row : row_of locks seat ≡ on_page page kind before)
      (leads : PageLeads old.store change page k) where
    had : held locks seat (Page page) ≡ Some kind
    had = ap (λ (locks : List Lock). kind_of locks (Page page)) row ∙ page_on before bare page kind

    not_in_directory : held locks seat Directory ≡ None
    not_in_directory = ap (λ (locks : List Lock). kind_of locks Directory) row ∙ directory_not_on before bare page kind

    no_directory : IsWriter locks seat Directory → ⊥
    no_directory w = let f : may_write None ≡ true = ap may_write (sym not_in_directory) ∙ w in cc

    pub looked : Step {F = FileFault} hash seat (turn_of (Some (ForAnswer page k))) (Moved Look) (LeadsTo page k ∷ [])
        pool pool' locks locks change
    looked = read Look (turn_of (Some (ForAnswer page k))) (LeadsTo page k ∷ []) pool' reads
        ((inr (IsHeld-some locks seat (Page page) kind had), leads), tt)
        (record { page = page; reads = record { had = IsHeld-some locks seat (Page page) kind had; is = refl } })
        (record { still = refl; behind = λ e. absurd cc; by = Stays refl })

    -- the page answers now
    pub hopped_back : Answers old.store page k →
        Step {F = FileFault} hash seat (turn_of (Some (HopFrom page k))) (Moved Hop) (LeadsTo page k ∷ []) pool
        pool' locks locks change
    hopped_back answers = read Hop (turn_of (Some (HopFrom page k))) (LeadsTo page k ∷ []) pool' reads
        ((inr (IsHeld-some locks seat (Page page) kind had), leads), tt)
        (record {
          hops = record {
            page = page;
            pseudokey = k;
            kind = kind;
            had = had;
            leads = leads;
            hops = inl (answers, refl);
          };
          page_is = refl;
          pseudokey_is = refl;
        })
        (record { still = refl; behind = λ e. absurd cc; by = HopsBack refl not_in_directory refl })

    -- the next page is granted in its place
    pub hopped_on : (locks' : Table) (m : ℕ) → m ≡ next_at old.store page → (Answers old.store page k → ⊥) →
        length (row_of locks seat) < MAX_LOCKS → m ≢ page → (IsOpposed locks seat (Page m) kind → ⊥) →
        locks' ≡ without_lock (with_lock locks seat (Page m) kind) seat (Page page) →
        row_of locks' seat ≡ on_page m kind before →
        Step {F = FileFault} hash seat (turn_of (Some (HopFrom page k))) (Moved Hop) (LeadsTo m k ∷ []) pool pool'
        locks locks' change
    hopped_on locks' m next unanswered room other nobody is row' =
        let new : World = world pool.images locks' change in
        let fresh : held locks seat (Page m) ≡ None =
        ap (λ (locks : List Lock). kind_of locks (Page m)) row ∙ other_not_on before bare page m kind
        (λ e. other (sym e)) in
        let g : MovesOn page kind seat old new = subst (λ (x : ℕ).
        held locks seat (Page x) ≡ None → (IsOpposed locks seat (Page x) kind → ⊥) →
        locks' ≡ without_lock (with_lock locks seat (Page x) kind) seat (Page page) → MovesOn page kind seat old
        new)
        (sym next) (λ fresh nobody is. record {
          seated = seated;
          room = room;
          fresh = fresh;
          free = IsFree-unopposed locks seat (Page (next_at old.store page)) kind nobody;
          idle = λ w. absurd (no_directory w);
          is = ap (λ (t : Table). world pool.images t change) is;
        }) fresh nobody is in
        let h : HopsJust page k seat old new = record {
          hops = record {
            page = page;
            pseudokey = k;
            kind = kind;
            had = had;
            leads = leads;
            hops = inr (unanswered, g);
          };
          page_is = refl;
          pseudokey_is = refl;
        } in
        let there : IsHeld locks' seat (Page m) = IsHeld-some locks' seat (Page m) kind
        (ap (λ (locks : List Lock). kind_of locks (Page m)) row' ∙ page_on before bare m kind) in
        let led : PageLeads old.store change m k = subst (λ (x : ℕ). PageLeads old.store change x k) (sym next)
        (hop_is_led_on hash seat old new page k kind sees.sound leads unanswered g) in
        let same : world pool'.images locks' change ≡ new =
        ap (λ (images : List (List ℕ)). world images locks' change) (reads.images sees.honest) in
        record {
          after = change;
          file = reads.file sees.honest refl sees.file;
          others = subst (KeepsOthers hash seat old) (sym same) (kind_keeps Hop hash seat old new sees.sound h.hops);
          known = subst (λ (w : World). AllKnown seat w (LeadsTo m k ∷ [])) (sym same) ((inr there, led), tt);
          does = subst (λ (w : World). HopsJust page k seat old w) (sym same) h;
          led = subst (λ (w : World). WalksTo {F = FileFault} seat (Some (HopFrom page k)) (Moved Hop) old w
              (LeadsTo m k ∷ [])) (sym same)
              (record {
                still = refl;
                behind = λ e. absurd cc;
                by = HopsOn page refl not_in_directory refl unanswered next;
              });
        }

    -- the next page is another seat's
    pub hop_blocked : (other m : ℕ) → m ≡ next_at old.store page → (Answers old.store page k → ⊥) →
        Opposes locks seat (Page m) kind other →
        Step {F = FileFault} hash seat (turn_of (Some (HopFrom page k))) (Blocked other) (LeadsTo page k ∷ []) pool
        pool' locks locks change
    hop_blocked other m next unanswered opposes =
        let same : world pool'.images locks change ≡ old =
        ap (λ (images : List (List ℕ)). world images locks change) (reads.images sees.honest) in
        record {
          after = change;
          file = reads.file sees.honest refl sees.file;
          others = KeepsOthers-same hash seat old (world pool'.images locks change) sees.sound same;
          known = subst (λ (w : World). AllKnown seat w (LeadsTo page k ∷ [])) (sym same)
              ((inr (IsHeld-some locks seat (Page page) kind had), leads), tt);
          does = (
            record {
              kind = kind;
              had = had;
              unanswered = unanswered;
              opposes = subst (λ (x : ℕ). Opposes locks seat (Page x) kind other) next opposes;
            },
            same,
          );
          led = subst (λ (w : World). WalksTo {F = FileFault} seat (Some (HopFrom page k)) (Blocked other) old w
              (LeadsTo page k ∷ [])) (sym same)
              (record { still = refl; behind = λ e. absurd cc; by = HopsBack refl not_in_directory refl });
        }

    pub taken : (key : RecordKey) (found : Option ℕ) → hash key ≡ k → Answers old.store page k →
        found ≡ option_map length (lookup key (records_at old.store page)) →
        TakesAnswer {F = FileFault} hash (Moved Look) seat page key (option_map length) None (Some found) old
    taken key found is answers found_is = record {
      looked = refl;
      first = refl;
      value = lookup key (records_at old.store page);
      is = ap (λ (x : Option ℕ). Some x) found_is;
      told = look_may_tell hash seat page key old sees.sound
          (inr (IsHeld-some locks seat (Page page) kind had), subst (PageLeads old.store change page) (sym is) leads)
          (IsHeld-some locks seat (Page page) kind had) (subst (Answers old.store page) (sym is) answers);
    }
