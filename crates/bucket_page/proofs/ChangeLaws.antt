-- A bucket's payload whose records change spells the changed bucket.
use Rattle.std.proofs.Common.{◌≡◌, None, ℕ, ◌+◌, ◌≤◌, true, List, [], ◌∷◌, ◌++◌, length, take, drop, refl, sym, ap, subst, ◌∙◌, arith}
use Rattle.std.specs.List.{AllByRecursion}
use Rattle.std.proofs.lemmas.List.{take_at, drop_at, length-append}
use Rattle.std.proofs.lemmas.List.Concat.{flat_map-append}
use Rattle.bucket_page.specs.declared.layout.TheConstants.{ROOM_BYTES}
use Rattle.bucket_page.specs.declared.head.Head.{Head}
use Rattle.bucket_page.specs.Records.{Pair, IsPair, pair_bytes, record_bytes, fills, ascend, lookup}
use Rattle.bucket_page.specs.Bucket.{Bucket}
use Rattle.bucket_page.specs.Spelling.{head_bytes, head_of, padded}
use Rattle.bucket_page.specs.Reading.{record_count_at, used_at, area, head_at, bucket_in, records_in}
use Rattle.bucket_page.specs.Changes.{SpellsBucket, IsBucketPage, Changes, InsertsAt, below, inserted, inserted_at}
use Rattle.bucket_page.proofs.HeadLaws.{length-head}
use Rattle.bucket_page.proofs.PageLaws.{bucket_again}
use Rattle.bucket_page.proofs.RecordLaws.{count_below}
use Rattle.bucket_page.proofs.SpliceLaws as splices
use Rattle.bucket_page.proofs.OrderLaws.{from, parted, inserted_between, ascends_with}

-- what a bucket's payload says
pub record IsOpen (bytes : List ℕ) : Type 0 where
  pub used : used_at bytes ≡ length (record_bytes (records_in bytes))
  pub count : record_count_at bytes ≡ length (records_in bytes)
  pub filled : fills (record_count_at bytes) (area bytes) ≡ true
  pub room : used_at bytes ≤ 4048
  pub few : record_count_at bytes ≤ 4048
  pub ascends : ascend (records_in bytes) ≡ true
  pub front : take 16 bytes ≡ head_bytes (head_at bytes)
  pub back : drop 16 bytes ≡ padded ROOM_BYTES (record_bytes (records_in bytes))

pub opened : (bytes : List ℕ) → IsBucketPage bytes → IsOpen bytes
opened bytes it =
    let b : Bucket = bucket_in bytes in
    let whole = bucket_again b it.in_range in
    let used = ap used_at it.spelled ∙ whole.used in
    let count = ap record_count_at it.spelled ∙ whole.count in
    let head : head_of b ≡ head_at bytes = λ i. record {
      depth = b.depth;
      count = sym count i;
      pattern =
          b.pattern;
      next = b.next;
      used = sym used i;
    } in
    record {
      used = used;
      count = count;
      filled = subst (λ (xs : List ℕ). fills (record_count_at xs) (area xs) ≡ true) (sym it.spelled) whole.fills;
      room = omega (arith, used, it.in_range.room);
      few = omega (arith, count, it.in_range.room, count_below b.records);
      ascends = it.in_range.order;
      front = ap (take 16) it.spelled ∙ take_at (head_bytes (head_of b)) (padded ROOM_BYTES (record_bytes b.records))
          16 (length-head (head_of b)) ∙ ap head_bytes head;
      back = ap (drop 16) it.spelled ∙ drop_at (head_bytes (head_of b)) (padded ROOM_BYTES (record_bytes b.records))
          16 (length-head (head_of b));
    }

-- other records in the same bucket
pub remade : (bytes front back : List ℕ) (h : Head) (ps : List Pair) → IsBucketPage bytes → AllByRecursion IsPair ps
    → length (record_bytes ps) ≤ ROOM_BYTES → ascend ps ≡ true
    → h ≡ record (head_at bytes) { count = length ps; used = length (record_bytes ps) } → front ≡ head_bytes h
    → back ≡ padded ROOM_BYTES (record_bytes ps)
    → SpellsBucket (record (bucket_in bytes) { records = ps }) (front ++ back)
remade bytes front back h ps it all room order head front-is back-is =
    record {
      in_range = record {
        depth = it.in_range.depth;
        pattern = it.in_range.pattern;
        next = it.in_range.next;
        pairs =
            all;
        room = room;
        order = order;
      };
      spelled = λ i. (front-is ∙ ap head_bytes head) i ++ back-is i;
    }

-- ---- a record put in

all_between : (P : Pair → Type 0) (p : Pair) (lower upper : List Pair) → P p → AllByRecursion P (lower ++ upper)
    → AllByRecursion P (lower ++ p ∷ upper)
all_between P p [] upper mine all = (mine, all)
all_between P p (q ∷ lower) upper mine all = (all.0, all_between P p lower upper mine all.1)

pub put_makes : (bytes : List ℕ) (at n : ℕ) (p : Pair) (h : Head) (front back body : List ℕ) → IsBucketPage bytes
    → IsPair p → length (pair_bytes p) ≡ n → used_at bytes + n ≤ ROOM_BYTES
    → h ≡ head_at bytes → front ≡ head_bytes (record h { count = h.count + 1; used = h.used + n })
    → back ≡ drop 16 bytes
    → body ≡ inserted_at back h.used at (pair_bytes p) → InsertsAt at p bytes (front ++ body)
put_makes bytes at n p h front back body it mine len fits head front-is back-is body-is lower upper parts at-is
    order =
    let says = opened bytes it in
    let f : List ℕ = record_bytes lower in
    let u : List ℕ = record_bytes upper in
    let new : List ℕ = pair_bytes p in
    let old : record_bytes (records_in bytes) ≡ f ++ u =
    ap record_bytes parts ∙ flat_map-append pair_bytes lower upper in
    let whole : record_bytes (lower ++ p ∷ upper) ≡ f ++ (new ++ u) = flat_map-append pair_bytes lower (p ∷ upper) in
    let used : used_at bytes ≡ length (f ++ u) = says.used ∙ ap length old in
    let whole-len : length (record_bytes (lower ++ p ∷ upper)) ≡ used_at bytes + n =
    omega (arith, used, len, ap length whole, length-append f (new ++ u), length-append new u, length-append f u) in
    let count : record_count_at bytes + 1 ≡ length (lower ++ p ∷ upper) =
    omega (arith, says.count, ap length parts, length-append lower upper, length-append lower (p ∷ upper)) in
    let room : length (f ++ u) + length new ≤ ROOM_BYTES = omega (arith, fits, used, len) in
    let is : body ≡ padded ROOM_BYTES (record_bytes (lower ++ p ∷ upper)) =
    body-is ∙ (λ i. inserted_at ((back-is ∙ says.back ∙ ap (padded ROOM_BYTES) old) i)
    ((ap (λ (o : Head). o.used) head ∙ used) i) (at-is i) new) ∙ splices.inserted_between f u new ROOM_BYTES room
    ∙ ap (padded ROOM_BYTES) (sym whole) in
    let grown : record h { count = h.count + 1; used = h.used + n }
    ≡ record (head_at bytes) {
      count = length (lower ++ p ∷ upper);
      used =
          length (record_bytes (lower ++ p ∷ upper));
    } =
    ap (λ (o : Head). record o { count = o.count + 1; used = o.used + n }) head
    ∙ (λ i. record (head_at bytes) { count = count i; used = sym whole-len i }) in
    let all = all_between IsPair p lower upper mine (subst (AllByRecursion IsPair) parts it.in_range.pairs) in
    remade bytes front body _ (lower ++ p ∷ upper) it all (omega (arith, whole-len, fits)) order grown front-is is

pub put_in_place : (old new : List ℕ) (p : Pair) (at : ℕ) → IsBucketPage old → lookup p.key (records_in old) ≡ None
    → at ≡ length (record_bytes (below p.key (records_in old)))
    → InsertsAt at p old new → Changes (inserted p) old new
put_in_place old new p at it absent at-is inserts =
    let ps : List Pair = records_in old in
    let is = inserted_between p ps in
    let order : ascend (below p.key ps ++ p ∷ from p.key ps) ≡ true =
    ap ascend (sym is) ∙ ascends_with None p ps refl it.in_range.order absent in
    subst (λ (qs : List Pair). SpellsBucket (record (bucket_in old) { records = qs }) new) (sym is)
    (inserts (below p.key ps) (from p.key ps) (parted p.key ps) at-is order)
