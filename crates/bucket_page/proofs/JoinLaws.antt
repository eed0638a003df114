-- Two buddies joined record by record.
use Rattle.std.proofs.Common.{◌≡◌, ℕ, ◌+◌, ◌-◌, ◌<◌, ◌≤◌, ◌^◌, true, Some, None, List, ◌∷◌, ◌++◌, length, drop, sym, ap, subst, ◌∙◌, arith}
use Rattle.std.proofs.lemmas.List.{length-append}
use Rattle.std.proofs.lemmas.List.Concat.{flat_map-append}
use Rattle.bucket_page.specs.declared.layout.TheConstants.{ROOM_BYTES}
use Rattle.bucket_page.specs.declared.head.Head.{Head}
use Rattle.bucket_page.specs.Records.{Pair, pair_bytes, record_bytes, ascend, lookup}
use Rattle.bucket_page.specs.Bucket.{Bucket}
use Rattle.bucket_page.specs.Spelling.{head_bytes}
use Rattle.bucket_page.specs.Reading.{used_at, head_at, bucket_in, records_in}
use Rattle.bucket_page.specs.Changes.{SpellsBucket, IsBucketPage, Changes, inserted, below}
use Rattle.bucket_page.specs.Dividing.{FitTogether, MayWiden, ShareNoKey, joined, merged, widened}
use Rattle.bucket_page.proofs.Steps.{length-pair, length-cons}
use Rattle.bucket_page.proofs.OrderLaws.{from, parted, inserted_between, ascend_rest}
use Rattle.bucket_page.proofs.ChangeLaws.{opened}
use Rattle.bucket_page.proofs.DivideLaws.{bucket_is, is_page}
use Rattle.bucket_page.proofs.LookupLaws.{all_above, apart_on}

pub widened_spells : (bytes front back : List ℕ) (h : Head) (next : ℕ) → IsBucketPage bytes
    → MayWiden (bucket_in bytes) → next < 2 ^ 32 → h ≡ head_at bytes
    → front ≡ head_bytes (record h { depth = h.depth - 1; next = next }) → back ≡ drop 16 bytes
    → SpellsBucket (widened next (bucket_in bytes)) (front ++ back)
widened_spells bytes front back h next it may small head front-is back-is =
    let says = opened bytes it in
    let is = it.in_range in
    let wide : record h { depth = h.depth - 1; next = next }
    ≡ record (head_at bytes) {
      depth = (head_at bytes).depth - 1;
      count = length (records_in bytes);
      next =
          next;
      used = length (record_bytes (records_in bytes));
    } =
    ap (λ (o : Head). record o { depth = o.depth - 1; next = next }) head
    ∙ (λ i. record (head_at bytes) {
      depth = (head_at bytes).depth - 1;
      count = says.count i;
      next = next;
      used =
          says.used i;
    }) in
    record {
      in_range = record {
        depth = omega (arith, is.depth);
        pattern = may.pattern;
        next = small;
        pairs =
            is.pairs;
        room = is.room;
        order = is.order;
      };
      spelled = λ i. (front-is ∙ ap head_bytes wide) i ++ (back-is ∙ says.back) i;
    }

-- the payload is the bucket that is to be but for these records, which are still to be put in
pub record Joining (target : Bucket) (todo : List Pair) (bytes : List ℕ) : Type 0 where
  pub spells : SpellsBucket (record target { records = records_in bytes }) bytes
  pub all : merged (records_in bytes) todo ≡ target.records
  pub apart : ShareNoKey (records_in bytes) todo
  pub order : ascend todo ≡ true
  pub room : FitTogether (records_in bytes) todo

pub joining_begins : (left right : Bucket) (todo : List Pair) (bytes : List ℕ)
    → SpellsBucket (widened right.next left) bytes → todo ≡ right.records
    → ShareNoKey left.records right.records → ascend right.records ≡ true → FitTogether left.records right.records
    → Joining (joined left right) todo bytes
joining_begins left right todo bytes it is apart order room =
    let first : records_in bytes ≡ left.records = ap (λ (b : Bucket). b.records) (bucket_is _ bytes it) in
    subst (λ (ps : List Pair). Joining (joined left right) ps bytes) (sym is) (
    record {
      spells = subst (λ (ps : List Pair). SpellsBucket (record (widened right.next left) { records = ps }) bytes)
          (sym first) it;
      all = ap (λ (ps : List Pair). merged ps right.records) first;
      apart = subst (λ (ps : List Pair). ShareNoKey ps right.records) (sym first) apart;
      order = order;
      room = subst (λ (ps : List Pair). FitTogether ps right.records) (sym first) room;
    }
    )

-- the next record is absent and fits
pub record IsNextOf (p : Pair) (bytes : List ℕ) : Type 0 where
  pub page : IsBucketPage bytes
  pub absent : lookup p.key (records_in bytes) ≡ None
  pub room : used_at bytes + (15 + length p.value) ≤ ROOM_BYTES

pub is_next_of : (target : Bucket) (p : Pair) (todo rest : List Pair) (bytes : List ℕ) → Joining target todo bytes
    → todo ≡ p ∷ rest → IsNextOf p bytes
is_next_of target p todo rest bytes it is =
    let page = is_page _ bytes it.spells in
    let says = opened bytes page in
    let apart : ShareNoKey (records_in bytes) (p ∷ rest) = subst (ShareNoKey (records_in bytes)) is it.apart in
    let len : length (record_bytes todo) ≡ length (record_bytes (p ∷ rest)) =
    ap (λ (ps : List Pair). length (record_bytes ps)) is in
    record { page = page; absent = apart.0; room = omega (arith, it.room, says.used, len, length-cons p rest) }

bytes_inserted : (p : Pair) (ps : List Pair) → length (record_bytes (inserted p ps))
    ≡ length (record_bytes ps) + length (pair_bytes p)
bytes_inserted p ps =
    let f : List ℕ = record_bytes (below p.key ps) in
    let u : List ℕ = record_bytes (from p.key ps) in
    let old : record_bytes ps ≡ f ++ u = ap record_bytes (parted p.key ps)
    ∙ flat_map-append pair_bytes (below p.key ps) (from p.key ps) in
    let new : record_bytes (inserted p ps) ≡ f ++ (pair_bytes p ++ u) =
    ap record_bytes (inserted_between p ps) ∙ flat_map-append pair_bytes (below p.key ps) (p ∷ from p.key ps) in
    omega (
      arith,
      ap length old,
      ap length new,
      length-append f u,
      length-append f (pair_bytes p ++ u),
      length-append (pair_bytes p) u,
    )

pub joining_on : (target : Bucket) (p : Pair) (todo rest : List Pair) (old new : List ℕ) → Joining target todo old
    → todo ≡ p ∷ rest → Changes (inserted p) old new → Joining target rest new
joining_on target p todo rest old new it is changes =
    let done : List Pair = records_in old in
    let was : bucket_in old ≡ record target { records = done } = bucket_is _ old it.spells in
    let now : SpellsBucket (record target { records = inserted p done }) new =
    subst (λ (b : Bucket). SpellsBucket (record b { records = inserted p done }) new) was changes in
    let records : records_in new ≡ inserted p done = ap (λ (b : Bucket). b.records) (bucket_is _ new now) in
    let order : ascend (p ∷ rest) ≡ true = ap ascend (sym is) ∙ it.order in
    let apart : ShareNoKey done (p ∷ rest) = subst (ShareNoKey done) is it.apart in
    let len : length (record_bytes todo) ≡ length (record_bytes (p ∷ rest)) =
    ap (λ (ps : List Pair). length (record_bytes ps)) is in
    record {
      spells = subst (λ (ps : List Pair). SpellsBucket (record target { records = ps }) new) (sym records) now;
      all = ap (λ (ps : List Pair). merged ps rest) records ∙ ap (λ (ps : List Pair). merged done ps) (sym is)
          ∙ it.all;
      apart = subst (λ (ps : List Pair). ShareNoKey ps rest) (sym records)
          (apart_on p done rest (all_above p.key rest order) apart.1);
      order = ascend_rest (Some p.key) rest order;
      room = omega (
        arith,
        it.room,
        len,
        length-cons p rest,
        length-pair p,
        bytes_inserted p done,
        ap (λ (ps : List Pair). length (record_bytes ps)) records,
      );
    }
