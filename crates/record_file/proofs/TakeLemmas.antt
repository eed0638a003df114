-- What an access takes from the page that answered, after the Look of its operation.
use Rattle.std.proofs.Common.{◌≡◌, refl, sym, ap, ◌∙◌, subst, ℕ, ◌<◌, Bool, true, false, not, ◌&&◌, List, length, inl, inr, ◌⊎◌, Option, Some, None, IsSome, IsTrue, IfErr, IsOk, Result, Ok, Err, is_ok, if◌then◌else◌, arith}
use Rattle.std.proofs.lemmas.Bool.{true≢false}
use Rattle.std.specs.Option.{option_map}
use Rattle.bucket_page.specs.Records.{lookup}
use Rattle.file_pages.proofs.ReadLemmas.{devices_after}
use Rattle.file_pages.specs.Fault.{FileHasCause, IsDevicesFault}
use Rattle.record_file.proofs.of_stale_search.CauseLemmas.{cause_after, told_cause}
use Rattle.hash_file.specs.Store.{has_bucket, records_at}
use Rattle.record_file.specs.Machines.{FindsAt, IsFoundAtLook}
use Rattle.record_file.specs.OperationSteps.{SparesPages, TurnsAwayOf}
use Rattle.record_file.specs.declared.operation.RecordOperation.TheVariants as operations
use Rattle.file_pages.specs.Files.{IsFilePool}
use Rattle.record_file.specs.step_rules.Does.{KeepsOthers}
use Rattle.record_file.specs.step_rules.Known.{AllKnown}
use Rattle.record_file.specs.step_rules.Searching.{WalksTo}
use Rattle.record_file.specs.step_rules.Turns.{TurnsAt}
use Rattle.record_file.proofs.AccessNames.{FileFault, MakesOperation}
use Rattle.record_file.proofs.AccessAimLemmas.{behind, none_told, same_parts, serves_on, told_none}
use Rattle.record_file.proofs.AllowLemmas.{allows_taken, searches_on, then_written}
use Rattle.record_file.proofs.BucketLemmas.{bucket_there}
use Rattle.record_file.proofs.AccessStepLemmas.{lacks, nears, past, stands, stepped, tells, told}
use Rattle.record_file.specs.AccessWords.{RecordKey, pair, PoolState, Table, Change, Store, store_of, HasNoRoom, Progress, Moved, Fault, Ended, Look, WriteRecord, World, is_fault, Step, world, FollowsRow, NearsOrSpares, RecordOperation, HasEnded, TellsNone, has_searched, operation_facts, operation_found, operation_key, operation_left, operation_locks, operation_pseudokey, operation_tried, Known, Turn, Record, value_of, Replace, Relink, Delete}
use Rattle.record_file.specs.Purposes.{Purpose, ToFind, ToInsert, ToWrite, is_write, left_by, made}
use Rattle.record_file.specs.Accesses.{AccessView, Allows, IsOfKind, IsToWrite, Serves, access_key, access_left, access_turn, answer_in, has_no_room, is_full, set_out_in}
use Rattle.record_file.specs.AccessSteps.{Faces, FindsRecord, MakesAccess, Rests, TellsOf}
use Rattle.record_file.specs.Readings.{IsReader, IsShown, IsTold, SuitsRecord, Takes, TakesWell, WasAllowed, value_on}

-- of others than finds no answer is kept
answers_none : (p : Purpose) (o : RecordOperation) → IsOfKind p o →
    (answer_in o ≡ None) ⊎ ((key : RecordKey) × (p ≡ ToFind key))
answers_none (ToFind key) o kind = inr (key, refl)
answers_none (ToInsert r) (operations.Find f) kind = absurd kind
answers_none (ToInsert r) (operations.Insert i) kind = inl refl
answers_none (ToInsert r) (operations.Replace q) kind = inl refl
answers_none (ToInsert r) (operations.Delete d) kind = inl refl
answers_none (ToWrite (Replace r)) (operations.Find f) kind = absurd kind
answers_none (ToWrite (Replace r)) (operations.Insert i) kind = inl refl
answers_none (ToWrite (Replace r)) (operations.Replace q) kind = inl refl
answers_none (ToWrite (Replace r)) (operations.Delete d) kind = inl refl
answers_none (ToWrite (Relink key links)) (operations.Find f) kind = absurd kind
answers_none (ToWrite (Relink key links)) (operations.Insert i) kind = inl refl
answers_none (ToWrite (Relink key links)) (operations.Replace q) kind = inl refl
answers_none (ToWrite (Relink key links)) (operations.Delete d) kind = inl refl
answers_none (ToWrite (Delete key)) (operations.Find f) kind = absurd kind
answers_none (ToWrite (Delete key)) (operations.Insert i) kind = inl refl
answers_none (ToWrite (Delete key)) (operations.Replace q) kind = inl refl
answers_none (ToWrite (Delete key)) (operations.Delete d) kind = inl refl

was_allowed : (p : Purpose) (found : Option Record) (a b : AccessView) → b.written ≡ a.written → Allows p a found →
    WasAllowed p b found
was_allowed (ToFind key) found a b same allows = tt
was_allowed (ToInsert r) found a b same allows = tt
was_allowed (ToWrite (Replace r)) found a b same allows = allows.fits
was_allowed (ToWrite (Relink key links)) found a b same allows = allows.fits.0
was_allowed (ToWrite (Delete key)) found a b same allows = λ unwritten. allows.fits (sym same ∙ unwritten)

-- a record has a value of some length
no_length : (found : Option Record) (len : Option ℕ) → IsSome found →
    len ≡ option_map length (option_map value_of found) → len ≡ None → ⊥
no_length None len some is none = absurd cc
no_length (Some r) len some is none = let clash = sym is ∙ none in cc

-- who reads a page has not written one
reads_only : (p : Purpose) (o : RecordOperation) (did : Progress FileFault) (pool pool' : PoolState) → IsReader p →
    IsOfKind p o → SparesPages did o pool pool' → (did ≡ Moved WriteRecord → ⊥) → pool'.images ≡ pool.images
reads_only (ToFind key) (operations.Find f) did pool pool' reader kind spares other = spares
reads_only (ToFind key) (operations.Insert i) did pool pool' reader kind spares other = absurd kind
reads_only (ToFind key) (operations.Replace r) did pool pool' reader kind spares other = absurd kind
reads_only (ToFind key) (operations.Delete d) did pool pool' reader kind spares other = absurd kind
reads_only (ToInsert r) o did pool pool' reader kind spares other = absurd reader
reads_only (ToWrite (Replace r)) o did pool pool' reader kind spares other = absurd reader
reads_only (ToWrite (Delete key)) o did pool pool' reader kind spares other = absurd reader
reads_only (ToWrite (Relink key links)) (operations.Find f) did pool pool' reader kind spares other = absurd kind
reads_only (ToWrite (Relink key links)) (operations.Insert i) did pool pool' reader kind spares other = absurd kind
reads_only (ToWrite (Relink key links)) (operations.Replace r) did pool pool' reader kind spares other = spares other
reads_only (ToWrite (Relink key links)) (operations.Delete d) did pool pool' reader kind spares other = absurd kind

abbrev room_of : RecordOperation → Bool → Bool
room_of o written = is_full (operation_tried o) && not written

-- a move leaves fewer steps
nears_of : (did : Progress FileFault) → did ≡ Moved Look → (left mid last : ℕ)
    (pool pool' pool'' : PoolState) → mid ≡ last → NearsOrSpares did left mid pool pool' →
    NearsOrSpares did left last pool pool''
nears_of did looked left mid last pool pool' pool'' same near =
    subst (λ (d : Progress FileFault). NearsOrSpares d left last pool pool'') (sym looked)
    (subst (λ (n : ℕ). n < left) same
    (subst (λ (d : Progress FileFault). NearsOrSpares d left mid pool pool') looked near))

-- a read after a step
step_on : (hash : RecordKey → ℕ) (seat : ℕ) (turn : Turn) (did : Progress FileFault) (facts : List Known)
    (pool pool' pool'' : PoolState) (locks locks' : Table) (change : Change) → pool''.images ≡ pool'.images →
    IsFilePool pool'' → Step hash seat turn did facts pool pool' locks locks' change →
    Step hash seat turn did facts pool pool'' locks locks' change
step_on hash seat turn did facts pool pool' pool'' locks locks' change same file s = record {
  after = s.after;
  file = file;
  others = subst (λ (images : List (List ℕ)). KeepsOthers hash seat (world pool.images locks change)
      (world images locks' s.after)) (sym same) s.others;
  known = subst (λ (images : List (List ℕ)). AllKnown seat (world images locks' s.after) facts) (sym same) s.known;
  does = subst (λ (images : List (List ℕ)). TurnsAt hash turn did seat (world pool.images locks change)
      (world images locks' s.after)) (sym same) s.does;
  led = subst (λ (images : List (List ℕ)). WalksTo seat turn.ask did (world pool.images locks change)
      (world images locks' s.after) facts) (sym same) s.led;
}

module _ {X : Type 0} (hash : RecordKey → ℕ) (seat : ℕ) (did : Progress FileFault) (a : AccessView)
    (o' : RecordOperation) (pool pool' pool'' : PoolState) (locks locks' : Table)
    (op : MakesOperation hash seat a.bytes did a.operation o' pool pool' locks locks') (looked : did ≡ Moved Look)
    (none : operation_found a.operation ≡ None) (new : AccessView) (result : Result X FileFault)
    (t : Takes result pool' pool'' (behind did pool a o' a.written op.aim) new) where
  abbrev mid : AccessView
  mid = behind did pool a o' a.written op.aim

  fine : is_fault did ≡ false
  fine = ap is_fault looked

  unwritten : is_write did ≡ false
  unwritten = ap is_write looked

  no_write : did ≡ Moved WriteRecord → ⊥
  no_write wrote = true≢false (sym (ap is_write wrote) ∙ unwritten)

  same_op : new.operation ≡ o'
  same_op = t.operation

  honest_on : IsTrue pool.honest → IsTrue pool'.honest
  honest_on honest = subst IsTrue (sym op.writes.writes.honest) honest

  serves_new : (p : Purpose) → Serves p a → Serves p new
  serves_new p serves = t.serves p (serves_on did pool a o' a.written op.aim p serves)

  row_new : FollowsRow seat (operation_locks a.operation) (operation_locks new.operation) locks locks'
  row_new = subst (λ (o : RecordOperation). FollowsRow seat (operation_locks a.operation) (operation_locks o) locks
      locks') (sym same_op) op.row

  goes_on : HasEnded a.operation → ⊥
  goes_on ended =
      let is : did ≡ Ended = op.aim.ended.1 ended in
      let same : ◌≡◌ {A = Progress FileFault} (Moved Look) Ended = sym looked ∙ is in absurd cc

  module _ (p : Purpose) (found : Option Record) (change : Change)
      (f : Faces hash seat p found a pool locks change) where
    st : Step hash seat (access_turn a (store_of pool.images)) did (operation_facts o') pool pool' locks locks' change
    st = stepped hash seat did a o' pool pool' locks locks' op p found change f fine

    -- a Look changes no page
    same_store : store_of pool'.images ≡ store_of pool.images
    same_store =
        let does : TurnsAt {F = FileFault} hash (access_turn a (store_of pool.images)) (Moved Look) seat
        (world pool.images locks change) (world pool'.images locks' st.after) =
        subst (λ (d : Progress FileFault). TurnsAt hash (access_turn a (store_of pool.images)) d seat
        (world pool.images locks change) (world pool'.images locks' st.after)) looked st.does in
        ap (λ (w : World). w.store) does.reads.is

    shown : (page : ℕ) (len : Option ℕ) → IsFoundAtLook hash seat did (operation_key a.operation)
        (operation_found a.operation) (operation_found o') (world pool.images locks change) →
        operation_found o' ≡ Some (page, len) → IsShown page len pool' (access_key mid) found
    shown page len l at =
        let parts = same_parts l.page page l.found len (sym l.is ∙ at) in
        let same_page = parts.0 in
        let same_len = parts.1 in
        let here : value_on pool' page (access_key a)
        ≡ lookup (access_key a) (records_at (store_of pool.images) l.page) =
        ap (λ (s : Store). lookup (access_key a) (records_at s page)) same_store
        ∙ ap (λ (n : ℕ). lookup (access_key a) (records_at (store_of pool.images) n)) (sym same_page) in
        subst (λ (k : RecordKey). IsShown page len pool' k found) (sym op.aim.key)
        (record {
          sees = record {
            honest = honest_on f.sees.honest;
            file = st.file;
            there = bucket_there pool'.images page
                (ap (λ (s : Store). has_bucket s page) same_store
                ∙ ap (λ (n : ℕ). has_bucket (store_of pool.images) n) (sym same_page) ∙ l.tells.answer.answers.0);
          };
          holds = here ∙ l.tells.answer.told ∙ f.stands.holds;
          length_is = sym same_len ∙ l.tells.length_is ∙ sym (ap (option_map length) here);
          spelled = f.stands.spelled;
        })

    taken : (page : ℕ) (len : Option ℕ) → IsFoundAtLook hash seat did (operation_key a.operation)
        (operation_found a.operation) (operation_found o') (world pool.images locks change) →
        operation_found o' ≡ Some (page, len) → TakesWell result p found pool' pool'' new
    taken page len l at =
        t.tells p found page len at (serves_on did pool a o' a.written op.aim p f.serves) (shown page len l at)
        (was_allowed p found a mid refl f.allows)

    -- where no page answered, it is what it was
    as_was : operation_found o' ≡ None → IsOk result × (new ≡ mid)
    as_was unfound = t.rests unfound

    finds_of : (q : Purpose) → IsOfKind q a.operation → IsOfKind q o' → IsTold q new found →
        FindsRecord did a new found
    finds_of q kind kind' is_told = by (answers_none q a.operation kind) (answers_none q o' kind')
      where
        by : (answer_in a.operation ≡ None) ⊎ ((key : RecordKey) × (q ≡ ToFind key)) →
            (answer_in o' ≡ None) ⊎ ((key : RecordKey) × (q ≡ ToFind key)) → FindsRecord did a new found
        by (inr (key, is)) other =
            inr (looked, none_told a.operation none, subst (λ (x : Purpose). IsTold x new found) is is_told)
        by (inl was) (inr (key, is)) =
            inr (looked, none_told a.operation none, subst (λ (x : Purpose). IsTold x new found) is is_told)
        by (inl was) (inl is) = inl (ap answer_in same_op ∙ is ∙ sym was)

    abbrev Tells : AccessView → Type 0
    Tells b = TellsOf hash seat did p found a b (world pool.images locks change) (world pool'.images locks' change)

    lacks_new : new.written ≡ a.written → has_no_room a ≡ false → has_no_room new ≡ true →
        HasNoRoom hash (pair (access_key a) a.bytes) (world pool'.images locks' change)
    lacks_new same was is =
        let is' : room_of o' (then_written (is_write did) a.written) ≡ true =
        ap (λ (b : Bool). room_of o' (then_written b a.written)) unwritten
        ∙ sym (ap (λ (o : RecordOperation). room_of o a.written) same_op)
        ∙ sym (ap (λ (b : Bool). room_of new.operation b) same) ∙ is in
        lacks hash seat did a o' pool pool' locks locks' op p found change f fine was is'

    tells_as_was : operation_found o' ≡ None → Tells new
    tells_as_was unfound =
        let same : operation_found o' ≡ operation_found a.operation = unfound ∙ sym none in
        let all = tells hash seat did a o' pool pool' locks locks' op p found change f fine same in
        let all' : Tells mid = subst (λ (b : Bool). Tells (behind did pool a o' (then_written b a.written) op.aim))
        unwritten all in
        subst Tells (sym (as_was unfound).1) all'

    -- a write that searches goes on to its write, where the page told of a record
    to_write_on : IsFoundAtLook hash seat did (operation_key a.operation) (operation_found a.operation)
        (operation_found o') (world pool.images locks change) → IsSome found → IsToWrite a.operation →
        IsToWrite new.operation
    to_write_on l some was =
        let length_is : l.found ≡ option_map length (option_map value_of found) =
        l.tells.length_is ∙ ap (option_map length) (l.tells.answer.told ∙ f.stands.holds) in
        subst IsToWrite (sym same_op) (record {
          searches = searches_on did (operation_found a.operation) (has_searched a.operation) (has_searched o')
              no_write was.told was.searches op.aim.leaves;
          told = λ unseen. no_length found l.found some length_is (subst TellsNone l.is unseen);
        })

    tells_taken : IsOk result → (page : ℕ) (len : Option ℕ) → IsFoundAtLook hash seat did (operation_key a.operation)
        (operation_found a.operation) (operation_found o') (world pool.images locks change) →
        operation_found o' ≡ Some (page, len) → Tells new
    tells_taken ok page len l at =
        let both = well result ok (taken page len l at) in
        let left : left_by did p found ≡ found = ap (λ (b : Bool). if b then made p found else found) unwritten in
        record {
          stands = stands hash seat did a o' pool pool' locks locks' op p found change f fine;
          allows = subst (Allows p new) (sym left)
              (allows_taken p found a new t.written f.allows both.0 (to_write_on l));
          finds = finds_of p f.serves.kind (serves_on did pool a o' a.written op.aim p f.serves).kind both.1;
          sets_out = λ kind moved. ap set_out_in same_op
              ∙ past hash seat did a o' pool pool' locks locks' op p found change f fine kind moved;
          lacks = lacks_new t.written;
          turns_away = subst (λ (o : RecordOperation). TurnsAwayOf hash seat a.operation o
              (world pool'.images locks' change)) (sym same_op)
              (told hash seat did a o' pool pool' locks locks' op p found change f fine).turns_away;
        }
      where
        well : (r : Result X FileFault) → IsOk r → TakesWell r p found pool' pool'' new →
            SuitsRecord p new found × IsTold p new found
        well (Ok x) ok both = both
        well (Err fault) ok both = absurd cc

    tells_new : IsOk result → Tells new
    tells_new ok = by (told hash seat did a o' pool pool' locks locks' op p found change f fine).found
      where
        by : FindsAt hash seat did (operation_key a.operation) (operation_found a.operation) (operation_found o')
            (world pool.images locks change) → Tells new
        by (inl same) = tells_as_was (same ∙ none)
        by (inr l) = tells_taken ok l.page l.found l l.is

    -- why it is refused
    refused : (fault : FileFault) → result ≡ Err fault → IsReader p × IsDevicesFault pool' pool'' fault
    refused fault is = by (told hash seat did a o' pool pool' locks locks' op p found change f fine).found
      where
        never : (r : Result X FileFault) → r ≡ Err fault → IsOk r → ⊥
        never (Ok x) wrong ok = absurd cc
        never (Err other) wrong ok = absurd cc

        by : FindsAt hash seat did (operation_key a.operation) (operation_found a.operation) (operation_found o')
            (world pool.images locks change) → IsReader p × IsDevicesFault pool' pool'' fault
        by (inl same) = absurd (never result is (as_was (same ∙ none)).0)
        by (inr l) = subst (λ (r : Result X FileFault). TakesWell r p found pool' pool'' new) is
            (taken l.page l.found l l.is)

    spared : IsReader p → pool'.images ≡ pool.images
    spared reader =
        reads_only p a.operation did pool pool' reader f.serves.kind (op.writes.spares f.sees.honest) no_write

  -- what was read changes no page
  images_on : IsTrue pool.honest → pool''.images ≡ pool'.images
  images_on honest = t.reads.images (honest_on honest)

  -- ---- it is taken up

  pub took : is_ok result ≡ true → IsOk result → MakesAccess hash seat did a new pool pool'' locks locks'
  took well ok = record {
    writes = record {
      ready = t.reads.ready;
      honest = t.reads.honest ∙ op.writes.writes.honest;
      later = omega (arith, op.writes.writes.later, t.reads.later);
      stored = t.reads.stored ∙ op.writes.writes.stored;
      as_many = t.reads.as_many ∙ op.writes.writes.as_many;
      file = λ honest done f. t.reads.file (honest_on honest) (subst IsTrue (sym well) refl)
          (op.writes.writes.file honest done f);
    };
    cause = λ fault same. absurd
        (let clash : ◌≡◌ {A = Progress FileFault} (Moved Look) (Fault fault) = sym looked ∙ same in cc);
    aim = record {
      key = ap operation_key same_op ∙ op.aim.key;
      pseudokey = ap operation_pseudokey same_op ∙ op.aim.pseudokey;
      serves = serves_new;
      ended = op.aim.ended;
      rests = subst (λ (d : Progress FileFault). Rests d a new) (sym looked) tt;
      tells = λ found has. absurd (told_none a found (none_told a.operation none) has);
      written = t.written ∙ sym (ap (λ (b : Bool). then_written b a.written) unwritten);
      suits = λ is unfound. t.suits ok;
    };
    row = row_new;
    progress = λ p found change f.
        let near = nears hash seat did a o' pool pool' locks locks' op p found change f in
        let left : operation_left new.operation (store_of pool''.images) ≡ operation_left o' (store_of pool'.images) =
        ap (λ (o : RecordOperation). operation_left o (store_of pool''.images)) same_op
        ∙ ap (λ (images : List (List ℕ)). operation_left o' (store_of images)) (images_on f.sees.honest) in
        nears_of did looked (access_left a (store_of pool.images)) (operation_left o' (store_of pool'.images))
        (operation_left new.operation (store_of pool''.images)) pool pool' pool'' (sym left) near;
    step = λ p found change f fine'.
        let s = st p found change f in
        let images = images_on f.sees.honest in
        subst (λ (o : RecordOperation). Step hash seat (access_turn a (store_of pool.images)) did (operation_facts o)
        pool pool'' locks locks' change) (sym same_op)
        (step_on hash seat (access_turn a (store_of pool.images)) did (operation_facts o') pool pool' pool'' locks
        locks' change images (t.reads.file (honest_on f.sees.honest) (subst IsTrue (sym well) refl) s.file) s);
    answer = λ p found change f fine'.
        subst (λ (images : List (List ℕ)). TellsOf hash seat did p found a new (world pool.images locks change)
        (world images locks' change)) (sym (images_on f.sees.honest)) (tells_new p found change f ok);
  }

  -- ---- it is refused

  pub failed : (fault : FileFault) → result ≡ Err fault →
      MakesAccess hash seat (Fault fault) a new pool pool'' locks locks'
  failed fault is = record {
    writes = record {
      ready = t.reads.ready;
      honest = t.reads.honest ∙ op.writes.writes.honest;
      later = omega (arith, op.writes.writes.later, t.reads.later);
      stored = t.reads.stored ∙ op.writes.writes.stored;
      as_many = t.reads.as_many ∙ op.writes.writes.as_many;
      file = λ honest done f. absurd cc;
    };
    cause = told_cause fault pool pool'' (cause_after pool pool' pool'' fault op.writes.writes.later
        (subst (λ (r : Result X FileFault). IfErr r (FileHasCause pool' pool'')) is t.cause));
    aim = record {
      key = ap operation_key same_op ∙ op.aim.key;
      pseudokey = ap operation_pseudokey same_op ∙ op.aim.pseudokey;
      serves = serves_new;
      ended = (λ is. absurd cc, λ over. absurd (goes_on over));
      rests = tt;
      tells = λ found has. absurd (told_none a found (none_told a.operation none) has);
      written = t.written;
      suits = λ is unfound. absurd cc;
    };
    row = row_new;
    progress = λ p found change f.
        let why = refused p found change f fault is in
        record {
          devices = devices_after op.writes.writes.later why.1;
          images = images_on f.sees.honest ∙ spared p found change f why.0;
        };
    step = λ p found change f fine'. absurd cc;
    answer = λ p found change f fine'. absurd cc;
  }
