-- What stands at each key of the queue's Messages and Types while a deed is done.
use Rattle.std.proofs.Common.{◌≡◌, refl, ap, subst, ℕ, Bool, true, false, if◌then◌else◌, Option, None, arith}
use Rattle.std.specs.Prelude.{◌==◌, ◌&&◌}
use Rattle.std.proofs.lemmas.Bool.Decides.{Decides-eqb, nat_tests}
use Rattle.bucket_page.specs.Keys.{is_same}
use Rattle.page_locks.specs.declared.lock.LockName.TheVariants as names
use Rattle.queue_records.specs.Keys.{guard_of}
use Rattle.record_file.specs.Purposes.{made}
use Rattle.xsi_remove.specs.declared.work.Deed.{Deed}
use Rattle.xsi_remove.specs.declared.work.Deed.TheVariants.{Reading, DeletingMessage, DeletingType}
use Rattle.xsi_remove.specs.Deeds.{message_of, purpose_of}
use Rattle.xsi_remove.specs.Sweeps.{left_in}
use Rattle.xsi_remove.specs.Words.{RecordKey, Record, aimed_at, is_swept, Records, Turn, key_of_type, MessageRead, with_at}

same_key : (k : RecordKey) → is_same k k ≡ true
same_key k = grind (arith, nat_tests)

its_own : (n : ℕ) → (n == n) ≡ true
its_own n = (Decides-eqb n n).1 refl

-- a deed is about a Message or a Type of the queue
pub swept_key : (deed : Deed) (t : Turn) (id : ℕ) → t.id ≡ id → is_swept id (aimed_at (purpose_of deed t)) ≡ true
swept_key Reading t id its = subst (λ (n : ℕ). is_swept n (message_of t) ≡ true) its
    (ap (λ (b : Bool). b && true) (its_own t.id))
swept_key DeletingMessage t id its = subst (λ (n : ℕ). is_swept n (message_of t) ≡ true) its
    (ap (λ (b : Bool). b && true) (its_own t.id))
swept_key (DeletingType mtype) t id its = subst (λ (n : ℕ). is_swept n (key_of_type t.id mtype) ≡ true) its
    (ap (λ (b : Bool). b && true) (its_own t.id))

-- under the queue's name
pub guard_is : (deed : Deed) (t : Turn) (id : ℕ) → t.id ≡ id → guard_of (aimed_at (purpose_of deed t)) ≡ names.Queue id
guard_is Reading t id its = ap names.Queue its
guard_is DeletingMessage t id its = ap names.Queue its
guard_is (DeletingType mtype) t id its = ap names.Queue its

with_there : (k : RecordKey) (found : Option Record) (r : Records) → with_at k found r k ≡ found
with_there k found r = rw (same_key k) refl

pub with_other : (k other : RecordKey) (found : Option Record) (r : Records) → is_same other k ≡ false →
    with_at k found r other ≡ r other
with_other k other found r apart = rw apart refl

-- it matters not what was read
pub same_purpose : (deed : Deed) (t : Turn) (read : Option MessageRead) →
    purpose_of deed (record t { read = read }) ≡ purpose_of deed t
same_purpose Reading t read = refl
same_purpose DeletingMessage t read = refl
same_purpose (DeletingType mtype) t read = refl

pub same_left : (b : Bool) (deed : Deed) (t : Turn) (read : Option MessageRead) (r : Records) (key : RecordKey) →
    left_in b deed (record t { read = read }) r key ≡ left_in b deed t r key
same_left true Reading t read r key = refl
same_left true DeletingMessage t read r key = refl
same_left true (DeletingType mtype) t read r key = refl
same_left false Reading t read r key = refl
same_left false DeletingMessage t read r key = refl
same_left false (DeletingType mtype) t read r key = refl

module _ (t : Turn) (r : Records) where
  -- at its key a WriteRecord makes of the record what it is for
  pub left_there : (deed : Deed) (b written : Bool) →
      left_in (if b then true else written) deed t r (aimed_at (purpose_of deed t))
      ≡ (if b then made (purpose_of deed t) (left_in written deed t r (aimed_at (purpose_of deed t)))
      else left_in written deed t r (aimed_at (purpose_of deed t)))
  left_there deed false written = refl
  left_there Reading true true = refl
  left_there Reading true false = refl
  left_there DeletingMessage true written = with_there (message_of t) None r
  left_there (DeletingType mtype) true written =
      with_there (key_of_type t.id mtype) None (with_at (message_of t) None r)

  -- and at the others it leaves what stood there
  pub left_other : (deed : Deed) (b written : Bool) (key : RecordKey) →
      is_same key (aimed_at (purpose_of deed t)) ≡ false →
      left_in (if b then true else written) deed t r key ≡ left_in written deed t r key
  left_other deed false written key apart = refl
  left_other deed true true key apart = refl
  left_other Reading true false key apart = refl
  left_other DeletingMessage true false key apart = with_other (message_of t) key None r apart
  left_other (DeletingType mtype) true false key apart =
      with_other (key_of_type t.id mtype) key None (with_at (message_of t) None r) apart

  -- a find leaves all
  pub left_reading : (written : Bool) (key : RecordKey) → left_in written Reading t r key ≡ r key
  left_reading true key = refl
  left_reading false key = refl
