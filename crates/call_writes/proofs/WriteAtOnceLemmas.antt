-- An access that is made in one go: its moves are those of the writes whose next deed it is.
use Rattle.std.proofs.Common.{ℕ, ◌≡◌, ◌++◌, ◌∷◌, Bool, true, false, not, ◌&&◌, List, [], Option, Some, None, refl, sym, ap, ◌∙◌, subst}
use Rattle.page_locks.proofs.TableLemmas.{row_of-same}
use Rattle.page_locks.specs.Locks.{lock_of}
use Rattle.page_locks.specs.Table.{with_row}
use Rattle.page_locks.specs.declared.lock.LockKind.TheVariants.{Read, Selective}
use Rattle.page_locks.specs.declared.lock.LockName.TheVariants.{Directory, Page}
use Rattle.record_file.specs.AccessRuns.{AccessStep, access_at}
use Rattle.record_file.specs.AccessRuns.{IsMade, WritesAtOnce as GoesAtOnce}
use Rattle.record_file.specs.stale_search.Searches.{locks_at}
use Rattle.record_file.specs.stale_search.declared.place.SearchPlace.{SearchPlace}
use Rattle.record_file.specs.stale_search.declared.place.SearchPlace.TheVariants as places
use Rattle.record_file.specs.step_rules.declared.kind.Kind.{Kind}
use Rattle.record_file.specs.step_rules.declared.kind.Kind.TheVariants as kinds
use Rattle.call_writes.specs.declared.deed.Deed.TheVariants as deeds
use Rattle.call_writes.specs.declared.writes.CallWrites.{CallWrites}
use Rattle.call_writes.specs.WriteWords.{AccessView, Deed, Delete, Due, Ended, EndsRow, HasEnded, IsSeat, Lock, MakesAccess, Moved, Plan, PoolState, RecordKey, Relink, Replace, Serves, Table, access_locks, row_of, searches_under, store_of}
use Rattle.call_writes.specs.WriteRuns.{is_to_search, last_of}
use Rattle.call_writes.specs.Dues.{IsNext, deed_key, purpose_of}
use Rattle.call_writes.specs.MakeSteps.{Begins, Goes, GoesOn, IsSetOut, LetsGo, Makes, MakesDeed, MakesWrites, PaysDue, Stays}
use Rattle.call_writes.specs.WriteRuns.{At, Way, WritesAtOnce, at}
use Rattle.call_writes.specs.Views.{begun_deed, locks_under, writes_locks, writes_search}
use Rattle.call_writes.proofs.LastLemmas.{last_there}
use Rattle.call_writes.proofs.MakesLemmas.{makes_writes}
use Rattle.call_writes.proofs.WriteBeginLemmas.{begun_unwritten}

-- ---- the row of its seat

-- where none is under way the row of the seat is what it had before
module _ (w : CallWrites) (none : w.access ≡ None) (row : List Lock) (ends : EndsRow (writes_locks w) 3 row) where
  row_is : row ≡ ends.before
  row_is = ends.is ∙ ap (λ (o : Option AccessView). locks_under o ends.before) none

  pub plain_row : EndsRow (λ (before : List Lock). before) 3 row
  plain_row = record { before = ends.before; bare = ends.bare; room = ends.room; is = row_is }

-- its locks on the way are those of its search
deed_locks : (hash : RecordKey → ℕ) (d : Deed) (place : SearchPlace) (before : List Lock) →
    access_locks (access_at place (begun_deed hash d)) before ≡ locks_at place Selective before
deed_locks hash (deeds.Trial r) place before = refl
deed_locks hash (deeds.Write (Replace r)) place before = refl
deed_locks hash (deeds.Write (Relink key links)) place before = refl
deed_locks hash (deeds.Write (Delete key)) place before = refl

-- its search is over where the page has answered
deed_found : (hash : RecordKey → ℕ) (d : Deed) (page : ℕ) (found : Option ℕ) →
    searches_under (Some (access_at (places.Found page found) (begun_deed hash d))) ≡ false
deed_found hash (deeds.Trial r) page found = refl
deed_found hash (deeds.Write (Replace r)) page found = refl
deed_found hash (deeds.Write (Relink key links)) page found = refl
deed_found hash (deeds.Write (Delete key)) page found = refl

same_access : (a b : AccessView) → ◌≡◌ {A = Option AccessView} (Some a) (Some b) → a ≡ b
same_access a b is = cc

-- ---- a move

module _ (hash : RecordKey → ℕ) (seat : ℕ) (p : Plan) where
  abbrev under : Due → AccessView → CallWrites
  under due a = record { due = due; access = Some a }

  abbrev resting : Due → CallWrites
  resting due = record { due = due; access = None }

  -- what makes one has not ended
  goes_on : (kind : Kind) (a a' : AccessView) (pool pool' : PoolState) (before behind : Table) →
      MakesAccess hash seat (Moved kind) a a' pool pool' before behind → HasEnded a.operation → ⊥
  goes_on kind a a' pool pool' before behind makes ended =
      let never : Moved kind ≡ Ended = makes.aim.ended.1 ended in cc

  -- where nothing is written nothing is paid
  still_due : (due : Due) (written : Bool) → PaysDue p (not written && written) due due
  still_due due true = refl
  still_due due false = refl

  -- the access makes it
  steps : (kind : Kind) (due due' : Due) (a a' : AccessView) (pool pool' : PoolState) (before behind : Table) →
      PaysDue p (not a.written && a'.written) due due' →
      AccessStep hash seat (Moved kind) (at a pool before) (at a' pool' behind) →
      MakesDeed hash seat p (Moved kind) (under due a) (under due' a') pool pool' before behind
  steps kind due due' a a' pool pool' before behind pays step = Goes (record {
    before = a;
    was = refl;
    going = goes_on kind a a' pool pool' before behind step.makes;
    behind = a';
    is = refl;
    made = step.makes;
    due = pays;
  })

  -- a move behind which the access goes on is one of the writes
  moves : (kind : Kind) (old : CallWrites) (due due' : Due) (a a' : AccessView) (pool pool' : PoolState)
      (before behind : Table) → IsSetOut hash p old (under due a) → PaysDue p (not a.written && a'.written) due due' →
      (HasEnded a'.operation → ⊥) → AccessStep hash seat (Moved kind) (at a pool before) (at a' pool' behind) →
      MakesWrites hash seat p (Moved kind) old (under due' a') pool pool' before behind
  moves kind old due due' a a' pool pool' before behind out pays on step =
      makes_writes hash seat p (Moved kind) old (under due' a') pool pool' before behind step.may.seated step.may.ready
      (Makes (under due a) (under due' a') (Moved kind) out
      (steps kind due due' a a' pool pool' before behind pays step)
      (Stays refl refl (λ b is ended. absurd (on (subst (λ (x : AccessView). HasEnded x.operation)
      (sym (same_access a' b is)) ended)))))

  -- one behind which it has ended, and has written, lets it go
  ends : (kind : Kind) (due : Due) (a a' : AccessView) (pool pool' : PoolState) (before behind : Table) →
      a.written ≡ true → a'.written ≡ true → HasEnded a'.operation →
      AccessStep hash seat (Moved kind) (at a pool before) (at a' pool' behind) →
      MakesWrites hash seat p (Moved kind) (under due a) (resting due) pool pool' before behind
  ends kind due a a' pool pool' before behind was written ended step =
      makes_writes hash seat p (Moved kind) (under due a) (resting due) pool pool' before behind step.may.seated
      step.may.ready
      (Makes (under due a) (under due a') (Moved kind) (GoesOn a refl refl)
      (steps kind due due a a' pool pool' before behind
      (subst (λ (w : Bool). PaysDue p (not w && a'.written) due due) (sym was) refl) step)
      (LetsGo a' refl ended refl written refl refl))

  -- ---- all of them

  module _ (d : Deed) (due due' : Due) (next : IsNext p due d due') (serves : Serves (purpose_of d) (begun_deed hash d))
      (pool pool' : PoolState) (locks : Table) (a : AccessView)
      (goes : GoesAtOnce seat (begun_deed hash d) a pool pool' locks) where
    abbrev place : SearchPlace → AccessView
    place x = access_at x (begun_deed hash d)

    abbrev looked : AccessView
    looked = record (access_at (places.Found goes.page goes.found) (begun_deed hash d)) { bytes = a.bytes }

    -- with the locks of an access
    abbrev with_access : AccessView → Table
    with_access b = with_row locks seat (access_locks b (row_of locks seat))

    abbrev on_way : AccessView → At CallWrites
    on_way b = at (under due b) pool (with_access b)

    row_with : IsSeat locks seat → (x : SearchPlace) →
        row_of (with_access (place x)) seat ≡ locks_at x Selective (row_of locks seat)
    row_with seated x =
        row_of-same locks seat (access_locks (place x) (row_of locks seat)) seated
        ∙ deed_locks hash d x (row_of locks seat)

    -- from one place to the next one, from where it moves on
    on : (kind more : Kind) (b b' b'' : AccessView) → b'.written ≡ b.written → (pool2 : PoolState) →
        AccessStep hash seat (Moved kind) (at b pool (with_access b)) (at b' pool (with_access b')) →
        AccessStep hash seat (Moved more) (at b' pool (with_access b')) (at b'' pool2 (with_access b'')) →
        MakesWrites hash seat p (Moved kind) (under due b) (under due b') pool pool (with_access b) (with_access b')
    on kind more b b' b'' unwritten pool2 step next_step =
        moves kind (under due b) due due b b' pool pool (with_access b) (with_access b') (GoesOn b refl refl)
        (subst (λ (w : Bool). PaysDue p (not b.written && w) due due) (sym unwritten) (still_due due b.written))
        (goes_on more b' b'' pool pool2 (with_access b') (with_access b'') next_step.makes) step

    -- the record is written, and paid
    pays : PaysDue p (not looked.written && goes.written.written) due due'
    pays =
        subst (λ (w : Bool). PaysDue p (not w && goes.written.written) due due') (sym (begun_unwritten hash d))
        (subst (λ (w : Bool). PaysDue p w due due') (sym goes.paid.0) next.behind)

    abbrev way : Way (At CallWrites)
    way = record {
      locked = on_way (place places.ReadDepth);
      deep = on_way (place (places.ReadEntry (store_of pool.images).header.depth));
      named = on_way (place (places.GrantPage goes.page));
      arrived = on_way (place (places.ReleaseDirectory goes.page));
      alone = on_way (place (places.Look goes.page));
      looked = on_way looked;
    }

    pub deed_at_once : WritesAtOnce (MakesWrites hash seat p) writes_search seat (resting due) (resting due') pool pool'
        locks
    deed_at_once =
        let depth : ℕ = (store_of pool.images).header.depth in
        let page : ℕ = goes.page in
        let m = goes.moves hash in
        let seated : IsSeat locks seat = m.0.may.seated in
        let locks_it = moves kinds.Grant (resting due) due due (begun_deed hash d) (place places.ReadDepth) pool pool
        locks (with_access (place places.ReadDepth)) (Begins d refl next.deed serves refl)
        (still_due due (begun_deed hash d).written)
        (goes_on kinds.ReadDepth (place places.ReadDepth) (place (places.ReadEntry depth)) pool pool
        (with_access (place places.ReadDepth)) (with_access (place (places.ReadEntry depth))) m.1.0.makes) m.0 in
        let reads = on kinds.ReadDepth kinds.ReadEntry (place places.ReadDepth) (place (places.ReadEntry depth))
        (place (places.GrantPage page)) refl pool m.1.0 m.1.1.0 in
        let names_it = on kinds.ReadEntry kinds.Grant (place (places.ReadEntry depth)) (place (places.GrantPage page))
        (place (places.ReleaseDirectory page)) refl pool m.1.1.0 m.1.1.1.0 in
        let arrives = on kinds.Grant kinds.Release (place (places.GrantPage page))
        (place (places.ReleaseDirectory page)) (place (places.Look page)) refl pool m.1.1.1.0 m.1.1.1.1.0 in
        let gives_back = on kinds.Release kinds.Look (place (places.ReleaseDirectory page)) (place (places.Look page))
        looked refl pool m.1.1.1.1.0 m.1.1.1.1.1.0 in
        let looks = on kinds.Look kinds.WriteRecord (place (places.Look page)) looked goes.written refl pool'
        m.1.1.1.1.1.0 m.1.1.1.1.1.1.0 in
        let writes = moves kinds.WriteRecord (under due looked) due due' looked goes.written pool pool'
        (with_access looked) (with_access goes.written) (GoesOn looked refl refl) pays
        (goes_on kinds.Release goes.written a pool' pool' (with_access goes.written) locks m.1.1.1.1.1.1.1.0.makes)
        m.1.1.1.1.1.1.0 in
        let leaves = ends kinds.Release due' goes.written a pool' pool' (with_access goes.written) locks goes.paid.0
        goes.paid.1 goes.ended m.1.1.1.1.1.1.1.0 in
        record {
          way = way;
          written = at (under due' goes.written) pool' (with_access goes.written);
          moves = (locks_it, (reads, (names_it, (arrives, (gives_back, (looks, (writes, (leaves, tt))))))));
          counted = record {
            begins = ap (λ (ls : List Lock). is_to_search (last_of ls)) (row_with seated places.ReadDepth)
                ∙ ap is_to_search (last_there (row_of locks seat) (lock_of Directory Read));
            once = ap (λ (ls : List Lock). is_to_search (last_of ls)) (row_with seated (places.ReleaseDirectory page))
                ∙ ap is_to_search (last_there (row_of locks seat ++ lock_of Directory Read ∷ [])
                (lock_of (Page page) Selective));
          };
          answered = deed_found hash d page goes.found;
        }

-- from its place, where the access is seen neither before it nor behind it
module _ (hash : RecordKey → ℕ) (seat : ℕ) (p : Plan) (pool pool' : PoolState) (locks : Table) (w : CallWrites)
    (none : w.access ≡ None) (d : Deed) (due due' : Due) (is : w.due ≡ due) (next : IsNext p due d due') where
  pub deed_from : (k : ℕ) → k ≡ hash (deed_key d) → IsMade seat (purpose_of d) k pool pool' locks →
      (o : Option AccessView) → o ≡ None →
      WritesAtOnce (MakesWrites hash seat p) writes_search seat w (record { due = due'; access = o }) pool pool' locks
  deed_from k k_is told o rests =
      let made = subst (λ (n : ℕ). IsMade seat (purpose_of d) n pool pool' locks) k_is told in
      subst (λ (x : Option AccessView). WritesAtOnce (MakesWrites hash seat p) writes_search seat w
      (record { due = due'; access = x }) pool pool' locks) (sym rests)
      (subst (λ (x : Option AccessView). WritesAtOnce (MakesWrites hash seat p) writes_search seat
      (record { due = w.due; access = x }) (record { due = due'; access = None }) pool pool' locks) (sym none)
      (deed_at_once hash seat p d w.due due' (subst (λ (x : Due). IsNext p x d due') (sym is) next) made.serves pool
      pool' locks made.behind made.writes))
