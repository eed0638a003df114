-- The moves of a question that is asked in one go.
use Rattle.std.proofs.Common.{ℕ, ◌≡◌, ◌+◌, Bool, true, false, List, ◌++◌, ◌∷◌, [], min, Option, Some, None, Result, Ok, if◌then◌else◌, refl, sym, ap, ◌∙◌, subst, inl, inr}
use Rattle.file_pages.specs.declared.fault.FileFault.{FileFault}
use Rattle.page_locks.proofs.ChangeLemmas.{IsSeat-with_row}
use Rattle.page_locks.proofs.TableLemmas.{row_of-same}
use Rattle.page_locks.specs.Locks.{lock_of}
use Rattle.page_locks.specs.declared.lock.LockKind.TheVariants.{Read}
use Rattle.page_locks.specs.declared.lock.LockName.TheVariants.{Directory, Page}
use Rattle.call_writes.specs.record_file.AccessSteps.{MakesAccess}
use Rattle.call_writes.specs.record_file.AccessRuns.{FindsAtOnce, access_at, access_done}
use Rattle.call_writes.specs.record_file.stale_search.declared.place.SearchPlace.{SearchPlace}
use Rattle.call_writes.specs.record_file.stale_search.declared.place.SearchPlace.TheVariants as places
use Rattle.step_rules.specs.declared.kind.Kind.{Kind}
use Rattle.step_rules.specs.declared.kind.Kind.TheVariants as kinds
use Rattle.xsi_calls.specs.declared.question.Question.{Question}
use Rattle.xsi_calls.specs.QuestionWords.{AccessView, AnyInquiry, AreNames, Call, GiveBack, HasFound, IsSeat, Lock, Look, Moved, NameTurn, NotASystem, PoolState, Ready, Record, RecordKey, Roomful, Table, Take, ToFind, Wanted, access_locks, asked_of, begun, name_turn, names_for, row_of, store_of, with_row}
use Rattle.xsi_calls.specs.Answering.{key_asked}
use Rattle.xsi_calls.specs.Counting.{MOST_FINDS, enters_directory, finds_behind}
use Rattle.call_writes.specs.WriteRuns.{is_to_search, last_of}
use Rattle.xsi_calls.specs.Questions.{IsUnderWay, QuestionsView, is_ready, question_searches}
use Rattle.xsi_calls.specs.QuestionSteps.{Hears, Listens, MakesQuestions}
use Rattle.xsi_calls.specs.QuestionRuns.{AsksAtOnce}
use Rattle.call_writes.specs.WriteRuns.{At, Way, at}
use Rattle.xsi_calls.proofs.AskingLemmas.{first_step}
use Rattle.xsi_calls.proofs.CountLemmas.{none_more}
use Rattle.call_writes.proofs.LastLemmas.{last_there}
use Rattle.xsi_calls.proofs.ListenLemmas.{went_on}

module _ (hash : RecordKey → ℕ) (seat : ℕ) (call : Call) (i : AnyInquiry) (room : Roomful) (held : List Lock)
    (names : AreNames held) (pool : PoolState) (locks : Table) (row : row_of locks seat ≡ held)
    (seated : IsSeat locks seat) where
  -- while a question is under way
  abbrev asking : AnyInquiry → Roomful → Question → ℕ → QuestionsView
  asking j r q n = record { inquiry = j; room = r; names = held; question = Some q; finds = n }

  -- with the locks of an access
  abbrev with_access : AccessView → Table
  with_access a = with_row locks seat (access_locks a (row_of locks seat))

  row_with : (a : AccessView) → row_of (with_access a) seat ≡ access_locks a held
  row_with a = row_of-same locks seat (access_locks a (row_of locks seat)) seated ∙ ap (access_locks a) row

  seat_with : (a : AccessView) → IsSeat (with_access a) seat
  seat_with a = IsSeat-with_row locks seat seat (access_locks a (row_of locks seat)) seated

  -- a move that is no Look tells the call nothing
  quiet : (kind : Kind) → (kind ≡ kinds.Look → ⊥) → (j : AnyInquiry) (r : Roomful) (q : Question) →
      Listens {F = FileFault} {T = Unit} call (Moved kind) (Ok tt) q q (record { inquiry = j; room = r })
      (record { inquiry = j; room = r })
  quiet kind other j r q = record {
    access = refl;
    caller = refl;
    most = refl;
    either = inl (record { silent = inr (inl (λ look. other cc)); same = (refl, refl); fine = refl });
  }

  -- and the question goes on
  goes : (kind : Kind) → (kind ≡ kinds.Look → ⊥) → (q : Question) → IsUnderWay q.access →
      (a : AccessView) → IsUnderWay a → (before behind : Table) → row_of before seat ≡ access_locks q.access held →
      IsSeat before seat → MakesAccess hash seat (Moved kind) q.access a pool pool before behind → (n more : ℕ) →
      more ≡ finds_behind {F = FileFault} (Moved kind) (row_of behind seat) n →
      MakesQuestions hash seat call (Moved kind) (asking i room q n)
      (asking i room (record { access = a; told = q.told }) more) pool pool before behind
  goes kind other q under a on before behind at_row is makes n more counts =
      went_on hash seat call i room held n names q under (Moved kind) a pool pool before behind at_row makes i room
      (record { access = a; told = q.told }) (Ok tt) (quiet kind other i room (record { access = a; told = q.told }))
      (Some (record { access = a; told = q.told })) (inr (on.goes_on, refl)) is more counts

  module _ (searches : ℕ) (wanted : Wanted) (asked : asked_of call i ≡ Some wanted)
      (turn : name_turn held (names_for call i) ≡ Ready) (k : ℕ) (keyed : hash (key_asked wanted) ≡ k)
      (a : AccessView) (finds : FindsAtOnce seat (begun (ToFind (key_asked wanted)) k) a pool locks)
      (found : Option Record) (told : (f : Option Record) → HasFound a f → found ≡ f) (j : AnyInquiry) (r : Roomful)
      (result : Result Unit NotASystem)
      (hears : Hears call found result (record { inquiry = i; room = room }) (record { inquiry = j; room = r })) where
    -- ---- where its access stands

    abbrev first : AccessView
    first = begun (ToFind (key_asked wanted)) k

    abbrev place : SearchPlace → AccessView
    place p = access_at p (begun (ToFind (key_asked wanted)) k)

    abbrev looked : AccessView
    looked = record (access_at (places.Found finds.page finds.found) (begun (ToFind (key_asked wanted)) k)) {
      bytes = a.bytes;
    }

    abbrev done : AccessView
    done = access_done finds.page finds.found a.bytes (begun (ToFind (key_asked wanted)) k)

    under : (p : SearchPlace) → IsUnderWay (place p)
    under p = record {
      finds = record { kind = tt; key = refl; links = refl; value = tt; limits = tt };
      goes_on = λ e. absurd cc;
    }

    under_looked : IsUnderWay looked
    under_looked = record {
      finds = record { kind = tt; key = refl; links = refl; value = tt; limits = tt };
      goes_on = λ e. absurd cc;
    }

    abbrev silent : AccessView → Question
    silent b = record { access = b; told = false }

    -- ---- its search is counted, once

    abbrev more : ℕ
    more = min (searches + 1) MOST_FINDS

    enters : enters_directory {F = FileFault} (Moved kinds.Grant) (row_of (with_access (place places.ReadDepth)) seat)
        ≡ true
    enters = ap (λ (ls : List Lock). is_to_search (last_of ls)) (row_with (place places.ReadDepth))
        ∙ ap is_to_search (last_there held (lock_of Directory Read))

    counts : more ≡ finds_behind {F = FileFault} (Moved kinds.Grant)
        (row_of (with_access (place places.ReadDepth)) seat) searches
    counts = sym (ap (λ (b : Bool). if b then min (searches + 1) MOST_FINDS else searches) enters)

    abbrev on_page : AccessView
    on_page = access_at (places.ReleaseDirectory finds.page) (begun (ToFind (key_asked wanted)) k)

    enters_not : enters_directory {F = FileFault} (Moved kinds.Grant) (row_of (with_access on_page) seat) ≡ false
    enters_not = ap (λ (ls : List Lock). is_to_search (last_of ls)) (row_with on_page)
        ∙ ap is_to_search (last_there (held ++ lock_of Directory Read ∷ []) (lock_of (Page finds.page) Read))

    counts_not : more ≡ finds_behind {F = FileFault} (Moved kinds.Grant) (row_of (with_access on_page) seat) more
    counts_not = sym (none_more (Moved kinds.Grant) (row_of (with_access on_page) seat) more enters_not)

    -- ---- it is told by the Look

    hears_it : Listens {F = FileFault} call (Moved Look) result (silent looked)
        (record { access = looked; told = true }) (record { inquiry = i; room = room })
        (record { inquiry = j; room = r })
    hears_it = record {
      access = refl;
      caller = hears.caller;
      most = hears.most;
      either = inr (record {
        untold = refl;
        looked = refl;
        answered = λ none. absurd cc;
        told = found;
        only = λ f has. told f (subst (λ (b : AccessView). HasFound b f) (sym finds.is) has);
        hears = hears;
        counts = λ ok. refl;
      });
    }

    -- ---- its moves

    abbrev before : QuestionsView
    before = record { inquiry = i; room = room; names = held; question = None; finds = searches }

    abbrev after : QuestionsView
    after = record { inquiry = j; room = r; names = held; question = None; finds = more }

    -- the state of the call while its access stands there
    abbrev on_way : SearchPlace → At QuestionsView
    on_way p = at (asking i room (silent (place p)) more) pool (with_access (place p))

    abbrev heard : QuestionsView
    heard = asking j r (record { access = looked; told = true }) more

    -- from one place of the search to the next one
    goes_to : (kind : Kind) → (kind ≡ kinds.Look → ⊥) → (p q : SearchPlace) →
        MakesAccess hash seat (Moved kind) (place p) (place q) pool pool (with_access (place p))
        (with_access (place q)) →
        more ≡ finds_behind {F = FileFault} (Moved kind) (row_of (with_access (place q)) seat) more →
        MakesQuestions hash seat call (Moved kind) (asking i room (silent (place p)) more)
        (asking i room (silent (place q)) more) pool pool (with_access (place p)) (with_access (place q))
    goes_to kind other p q makes same =
        goes kind other (silent (place p)) (under p) (place q) (under q) (with_access (place p))
        (with_access (place q)) (row_with (place p)) (seat_with (place p)) makes more more same

    begins : MakesAccess hash seat (Moved kinds.Grant) first (place places.ReadDepth) pool pool locks
        (with_access (place places.ReadDepth)) →
        MakesQuestions hash seat call (Moved kinds.Grant) before (asking i room (silent (place places.ReadDepth)) more)
        pool pool locks (with_access (place places.ReadDepth))
    begins makes = first_step hash seat call i room held searches wanted asked turn k keyed pool locks
        (Moved kinds.Grant) (asking i room (silent (place places.ReadDepth)) more) pool
        (with_access (place places.ReadDepth))
        (goes kinds.Grant (λ look. absurd cc) (silent first) (under places.GrantDirectory) (place places.ReadDepth)
        (under places.ReadDepth) locks (with_access (place places.ReadDepth)) row seated makes searches more counts)
        refl

    looks : (p : SearchPlace) → MakesAccess hash seat (Moved Look) (place p) looked pool pool (with_access (place p))
        (with_access looked) →
        MakesQuestions hash seat call (Moved Look) (asking i room (silent (place p)) more) heard pool pool
        (with_access (place p)) (with_access looked)
    looks p makes =
        went_on hash seat call i room held more names (silent (place p)) (under p) (Moved Look) looked pool pool
        (with_access (place p)) (with_access looked) (row_with (place p)) makes j r
        (record { access = looked; told = true }) result hears_it (Some (record { access = looked; told = true }))
        (inr (under_looked.goes_on, refl)) (seat_with (place p)) more refl

    ends : MakesAccess hash seat (Moved kinds.Release) looked done pool pool (with_access looked) locks →
        MakesQuestions hash seat call (Moved kinds.Release) heard after pool pool (with_access looked) locks
    ends makes =
        went_on hash seat call j r held more names (record { access = looked; told = true }) under_looked
        (Moved kinds.Release) done pool pool (with_access looked) locks (row_with looked) makes j r
        (record { access = done; told = true }) (Ok tt)
        (record {
          access = refl;
          caller = refl;
          most = refl;
          either = inl (record { silent = inl refl; same = (refl, refl); fine = refl });
        }) None (inl ((refl, λ key serves none. absurd cc), refl)) (seat_with looked) more refl

    abbrev way : Way (At QuestionsView)
    way = record {
      locked = on_way places.ReadDepth;
      deep = on_way (places.ReadEntry (store_of pool.images).header.depth);
      named = on_way (places.GrantPage finds.page);
      arrived = on_way (places.ReleaseDirectory finds.page);
      alone = on_way (places.Look finds.page);
      looked = at heard pool (with_access looked);
    }

    pub asks_at_once : AsksAtOnce (MakesQuestions hash seat call) question_searches seat before after pool locks
    asks_at_once =
        let depth : ℕ = (store_of pool.images).header.depth in
        let page : ℕ = finds.page in
        let m = finds.moves hash in
        let locks_it = begins m.0.makes in
        let reads = goes_to kinds.ReadDepth (λ look. absurd cc) places.ReadDepth (places.ReadEntry depth) m.1.0.makes
        refl in
        let names_it = goes_to kinds.ReadEntry (λ look. absurd cc) (places.ReadEntry depth) (places.GrantPage page)
        m.1.1.0.makes refl in
        let arrives = goes_to kinds.Grant (λ look. absurd cc) (places.GrantPage page) (places.ReleaseDirectory page)
        m.1.1.1.0.makes counts_not in
        let gives_back = goes_to kinds.Release (λ look. absurd cc) (places.ReleaseDirectory page) (places.Look page)
        m.1.1.1.1.0.makes refl in
        let looks_there = looks (places.Look page) m.1.1.1.1.1.0.makes in
        let leaves = ends m.1.1.1.1.1.1.0.makes in
        record {
          way = way;
          moves = (locks_it, (reads, (names_it, (arrives, (gives_back, (looks_there, (leaves, tt)))))));
          counted = record { begins = enters; once = enters_not };
          answered = refl;
        }

-- the names are held that are needed
pub ready_is : (turn : NameTurn) → is_ready turn ≡ true → turn ≡ Ready
ready_is (Take lock) is = absurd cc
ready_is GiveBack is = absurd cc
ready_is Ready is = refl

-- what was found is told
pub same_found : (a b : Option Record) → ◌≡◌ {A = Option (Option Record)} (Some a) (Some b) → a ≡ b
same_found a b is = cc
