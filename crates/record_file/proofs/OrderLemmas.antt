-- By which step a split comes to its ends.
use Rattle.std.proofs.Common.{◌≡◌, refl, sym, ap, ◌∙◌, ℕ, suc, ◌+◌, ◌^◌, Bool, true, false, nat_lt, if◌then◌else◌}
use Rattle.std.proofs.lemmas.Bool.{true≢false}
use Rattle.directory.specs.declared.range.Range.{Range}
use Rattle.step_rules.specs.declared.kind.Kind.{Kind}
use Rattle.step_rules.specs.declared.kind.Kind.TheVariants as kinds
use Rattle.split_merge.specs.Entries.{last_upper, stride}
use Rattle.split_merge.specs.Order.{IsMove, after_copy, after_retarget, after_take}
use Rattle.split_merge.specs.Splits.{FullMeans, has_ended}
use Rattle.split_merge.specs.declared.place.SplitPlace.{SplitPlace}
use Rattle.split_merge.specs.declared.place.SplitPlace.TheVariants.{TakePage, CopyDirectory, RaiseDepth, WriteNew, WriteOld, Retarget, SetCounts, Done, Full}
use Rattle.record_file.specs.InsertWords.{RecordKey, Pair, World, HasNoRoom}

-- what is so of each kind
each_kind : (P : Kind → Type 0) → P kinds.Grant → P kinds.Release → P kinds.ReadDepth → P kinds.ReadEntry →
    P kinds.Look → P kinds.Hop → P kinds.WriteRecord → P kinds.Decide → P kinds.TakePage → P kinds.CopyDirectory →
    P kinds.RaiseDepth → P kinds.WriteNew → P kinds.WriteOld → P kinds.Retarget → P kinds.SetCounts →
    P kinds.WriteLeft → P kinds.Tombstone → P kinds.Convert → P kinds.WriteFree → P kinds.LinkFree →
    P kinds.LowerDepth → (kind : Kind) → P kind
each_kind P a b c d e f g h i j k l m n o p q r s t u kinds.Grant = a
each_kind P a b c d e f g h i j k l m n o p q r s t u kinds.Release = b
each_kind P a b c d e f g h i j k l m n o p q r s t u kinds.ReadDepth = c
each_kind P a b c d e f g h i j k l m n o p q r s t u kinds.ReadEntry = d
each_kind P a b c d e f g h i j k l m n o p q r s t u kinds.Look = e
each_kind P a b c d e f g h i j k l m n o p q r s t u kinds.Hop = f
each_kind P a b c d e f g h i j k l m n o p q r s t u kinds.WriteRecord = g
each_kind P a b c d e f g h i j k l m n o p q r s t u kinds.Decide = h
each_kind P a b c d e f g h i j k l m n o p q r s t u kinds.TakePage = i
each_kind P a b c d e f g h i j k l m n o p q r s t u kinds.CopyDirectory = j
each_kind P a b c d e f g h i j k l m n o p q r s t u kinds.RaiseDepth = k
each_kind P a b c d e f g h i j k l m n o p q r s t u kinds.WriteNew = l
each_kind P a b c d e f g h i j k l m n o p q r s t u kinds.WriteOld = m
each_kind P a b c d e f g h i j k l m n o p q r s t u kinds.Retarget = n
each_kind P a b c d e f g h i j k l m n o p q r s t u kinds.SetCounts = o
each_kind P a b c d e f g h i j k l m n o p q r s t u kinds.WriteLeft = p
each_kind P a b c d e f g h i j k l m n o p q r s t u kinds.Tombstone = q
each_kind P a b c d e f g h i j k l m n o p q r s t u kinds.Convert = r
each_kind P a b c d e f g h i j k l m n o p q r s t u kinds.WriteFree = s
each_kind P a b c d e f g h i j k l m n o p q r s t u kinds.LinkFree = t
each_kind P a b c d e f g h i j k l m n o p q r s t u kinds.LowerDepth = u

no : ⊥ → ⊥
no f = f

abbrev is_done : SplitPlace → Bool
is_done Done = true
is_done place = false

not_done : (p q : SplitPlace) → is_done q ≡ false → p ≡ Done → p ≡ q → ⊥
not_done p q other done is = true≢false (ap is_done (sym done ∙ is) ∙ other)

by_test : (b : Bool) (p q : SplitPlace) → is_done p ≡ false → is_done q ≡ false → is_done (if b then p else q) ≡ false
by_test true p q a b = a
by_test false p q a b = b

-- it is done by SetCounts
pub record IsCounted (place : SplitPlace) (kind : Kind) : Type 0 where
  pub new : ℕ
  pub from : place ≡ SetCounts new
  pub by : kind ≡ kinds.SetCounts

module _ (whole : Range) (depth : ℕ) (next : SplitPlace) (done : next ≡ Done) where
  abbrev Leaves : SplitPlace → Kind → Type 0
  Leaves place kind = IsMove whole depth place kind next → ⊥

  not_so : (place : SplitPlace) → is_done place ≡ false → next ≡ place → ⊥
  not_so place other is = not_done next place other done is

  take : (kind : Kind) → Leaves TakePage kind
  take = each_kind (Leaves TakePage) no (not_so Full refl) no no no no no no
      (λ h. not_so (after_take whole depth h.0) (by_test (nat_lt whole.depth depth) _ _ refl refl) h.1)
      no no no no no no no no no no no no

  copy : (new page : ℕ) (kind : Kind) → Leaves (CopyDirectory new page) kind
  copy new page = each_kind (Leaves (CopyDirectory new page)) no no no no no no no no no
      (not_so (after_copy depth new page) (by_test (nat_lt page (last_upper depth)) (CopyDirectory new (page + 1))
      (RaiseDepth new) refl refl)) no no no no no no no no no no no

  raise : (new : ℕ) (kind : Kind) → Leaves (RaiseDepth new) kind
  raise new = each_kind (Leaves (RaiseDepth new)) no no no no no no no no no no (not_so (WriteNew new) refl)
      no no no no no no no no no no

  write : (new : ℕ) (kind : Kind) → Leaves (WriteNew new) kind
  write new = each_kind (Leaves (WriteNew new)) no no no no no no no no no no no (not_so (WriteOld new) refl)
      no no no no no no no no no

  link : (new : ℕ) (kind : Kind) → Leaves (WriteOld new) kind
  link new = each_kind (Leaves (WriteOld new)) no no no no no no no no no no no no (not_so (Retarget new _) refl)
      no no no no no no no no

  name : (new entry : ℕ) (kind : Kind) → Leaves (Retarget new entry) kind
  name new entry = each_kind (Leaves (Retarget new entry)) no no no no no no no no no no no no no
      (not_so (after_retarget whole depth new entry) (by_test (nat_lt (entry + stride (suc whole.depth)) (2 ^ depth))
      (Retarget new (entry + stride (suc whole.depth))) (SetCounts new) refl refl)) no no no no no no no

  count : (new : ℕ) (kind : Kind) → IsMove whole depth (SetCounts new) kind next → IsCounted (SetCounts new) kind
  count new = each_kind (λ (kind : Kind). IsMove whole depth (SetCounts new) kind next → IsCounted (SetCounts new) kind)
      (λ f. absurd f) (λ f. absurd f) (λ f. absurd f) (λ f. absurd f) (λ f. absurd f) (λ f. absurd f) (λ f. absurd f)
      (λ f. absurd f) (λ f. absurd f) (λ f. absurd f) (λ f. absurd f) (λ f. absurd f) (λ f. absurd f) (λ f. absurd f)
      (λ is. record { new = new; from = refl; by = refl })
      (λ f. absurd f) (λ f. absurd f) (λ f. absurd f) (λ f. absurd f) (λ f. absurd f) (λ f. absurd f)

  pub done_by : (place : SplitPlace) (kind : Kind) → has_ended place ≡ false → IsMove whole depth place kind next →
      IsCounted place kind
  done_by TakePage kind going is = absurd (take kind is)
  done_by (CopyDirectory new page) kind going is = absurd (copy new page kind is)
  done_by (RaiseDepth new) kind going is = absurd (raise new kind is)
  done_by (WriteNew new) kind going is = absurd (write new kind is)
  done_by (WriteOld new) kind going is = absurd (link new kind is)
  done_by (Retarget new entry) kind going is = absurd (name new entry kind is)
  done_by (SetCounts new) kind going is = count new kind is
  done_by Done kind going is = absurd (true≢false going)
  done_by Full kind going is = absurd (true≢false going)

-- it is full where the record has no room
pub full_means : (hash : RecordKey → ℕ) (p : Pair) (place place' : SplitPlace) (w : World) → has_ended place ≡ false →
    place' ≡ Full → FullMeans hash p place place' w → HasNoRoom hash p w
full_means hash p TakePage place' w going is means = rw is at means
full_means hash p (CopyDirectory new page) place' w going is means = absurd (rw is at means)
full_means hash p (RaiseDepth new) place' w going is means = absurd (rw is at means)
full_means hash p (WriteNew new) place' w going is means = absurd (rw is at means)
full_means hash p (WriteOld new) place' w going is means = absurd (rw is at means)
full_means hash p (Retarget new entry) place' w going is means = absurd (rw is at means)
full_means hash p (SetCounts new) place' w going is means = absurd (rw is at means)
full_means hash p Done place' w going is means = absurd (true≢false going)
full_means hash p Full place' w going is means = absurd (true≢false going)
