-- What is copied of a value that stands on a page.
use Rattle.std.proofs.Common.{◌≡◌, sym, ap, ◌∙◌, subst, ℕ, ◌<◌, ◌≤◌, true, List, [], ◌++◌, length, take, drop, Option, None, Some, arith}
use Rattle.std.proofs.lemmas.List.{length-append, length-take, take-append-drop, take-append-le, take_all, take_at}
use Rattle.std.specs.Prelude.{unwrap_or}
use Rattle.directory.specs.declared.layout.TheConstants.{ROOT_PAGE}
use Rattle.numbers.proofs.NumberLaws.{length-eight, length-four}
use Rattle.file_pages.specs.Reads.{IsCopied, fronted}
use Rattle.file_pages.proofs.StoreLemmas.{pages_are}
use Rattle.hash_file.specs.Store.{is_bucket, page_at}
use Rattle.queue_records.proofs.Lengths.{length-counter, length-queue}
use Rattle.queue_records.proofs.RelinkLaws.{links_within}
use Rattle.queue_records.specs.declared.layout.TheConstants.{MAX_VALUE_BYTES, MESSAGE_BYTES}
use Rattle.queue_records.specs.declared.links.Links.TheVariants as kinds
use Rattle.queue_records.specs.declared.record.Record.TheVariants as records
use Rattle.queue_records.specs.Range.{IsInRange}
use Rattle.record_file.specs.AccessWords.{PoolState, store_of, Links, Record, HasSuch, linked_bytes, relinked, value_of}
use Rattle.record_file.specs.Accesses.{IsFrontOf}
use Rattle.record_file.specs.Readings.{SeesBucket}

-- no value is longer
pub short_value : (r : Record) → IsInRange r → length (value_of r) ≤ MAX_VALUE_BYTES
short_value (records.Counter c) range = let len = length-counter c in omega (arith, len)
short_value (records.Key k) range = let len = length-four k.id in omega (arith, len)
short_value (records.Queue q) range = let len = length-queue q in omega (arith, len)
short_value (records.Type t) range = simp (length-append, length-eight) (omega arith)
short_value (records.Message m) range =
    let short = range.short in simp (length-append, length-eight, length-four) (omega (arith, short))

-- why a bucket that is there is not read
pub read_fails : {P : Type 0} (page : ℕ) (pool : PoolState) → SeesBucket page pool →
    (ROOT_PAGE ≤ page → page < length pool.images → is_bucket (page_at (store_of pool.images) page) ≡ true → P) → P
read_fails page pool sees fault =
    fault sees.there.behind (rw (pages_are pool.images) at sees.there.within) sees.there.bucket

pub some_of : {X : Type 0} (x y : X) → ◌≡◌ {A = Option X} (Some x) (Some y) → x ≡ y
some_of x y is = cc

-- as much of a value as is asked for is copied, where there is room for it
taken_of : (n : ℕ) (value room : List ℕ) → n ≤ length value → n ≤ length room →
    take n (fronted value room) ≡ take n value
taken_of n value room within fits =
    let size = length-take (length room) value in
    take-append-le n (take (length room) value) (drop (length value) room) (omega (arith, within, fits, size))
    ∙ sym (take-append-le n (take (length room) value) (drop (length room) value) (omega (arith, within, fits, size)))
    ∙ ap (take n) (take-append-drop (length room) value)

whole_taken : (value room : List ℕ) → length value ≤ length room → take (length value) (fronted value room) ≡ value
whole_taken value room fits =
    taken_of (length value) value room (omega arith) fits ∙ take_all (length value) value (omega arith)

-- where it is as long as was told, all of it is copied
pub copied_whole : (n : ℕ) {found : Option ℕ} {value : Option (List ℕ)} {room copied : List ℕ} →
    IsCopied found value room copied → found ≡ Some n → n ≤ length room → value ≡ Some (take n copied)
copied_whole n {value = None} copies told fits = absurd (let clash = sym told ∙ copies.found_is in cc)
copied_whole n {value = Some v} {room = room} {copied = copied} copies told fits =
    let long = some_of n (length v) (sym told ∙ copies.found_is) in
    let whole : take n copied ≡ v =
    ap (λ (m : ℕ). take m copied) long ∙ ap (take (length v)) copies.copied
    ∙ whole_taken v room (omega (arith, fits, long)) in
    ap (λ (x : List ℕ). Some x) (sym whole)

pub few_linked : (links : Links) → linked_bytes links ≤ MESSAGE_BYTES
few_linked (kinds.Message l) = omega arith
few_linked (kinds.Type l) = omega arith

-- links that were set in the front of a value stand at its front
pub front_set : (links : Links) (r : Record) (n : ℕ) (start front : List ℕ) → HasSuch links (Some r) →
    start ≡ take n (value_of r) → n ≡ linked_bytes links → length front ≡ n →
    ((rest : List ℕ) → start ++ rest ≡ value_of r → front ++ rest ≡ value_of (relinked links r)) →
    IsFrontOf links front r
front_set links r n start front such is len whole set =
    let long = links_within links r such in
    let done : front ++ drop n (value_of r) ≡ value_of (relinked links r) =
    set (drop n (value_of r)) (ap (λ (xs : List ℕ). xs ++ drop n (value_of r)) is
    ∙ take-append-drop n (value_of r)) in
    record {
      within = omega (arith, whole, len, long);
      made = ap (λ (m : ℕ). front ++ drop m (value_of r)) whole ∙ done;
    }

-- also where they were set in a copy
pub front_of : (links : Links) (r : Record) (n : ℕ) {found : Option ℕ} {value : Option (List ℕ)}
    {room copied : List ℕ} (front behind : List ℕ) → IsCopied found value room copied → HasSuch links (Some r) →
    value ≡ Some (value_of r) → n ≡ linked_bytes links → length room ≡ MESSAGE_BYTES →
    length front ≡ length (take n copied) →
    ((rest : List ℕ) → take n copied ++ rest ≡ value_of r → front ++ rest ≡ value_of (relinked links r)) →
    IsFrontOf links (take n (front ++ behind)) r
front_of links r n {room = room} {copied = copied} front behind copies such holds len size same set =
    let most = few_linked links in
    let long = links_within links r such in
    let is' : copied ≡ fronted (value_of r) room =
    copies.copied ∙ ap (λ (v : Option (List ℕ)). fronted (unwrap_or v []) room) holds in
    let taken : take n copied ≡ take n (value_of r) =
    ap (take n) is' ∙ taken_of n (value_of r) room (omega (arith, len, long)) (omega (arith, len, most, size)) in
    let count = length-take n (value_of r) in
    let parts = ap length taken in
    let whole : length front ≡ n = omega (arith, same, parts, count, len, long) in
    subst (λ (xs : List ℕ). IsFrontOf links xs r) (sym (take_at front behind n whole))
    (front_set links r n (take n copied) front such taken len whole set)
