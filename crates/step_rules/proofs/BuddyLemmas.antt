-- The page that a hop goes to, and the buddy that an entry names.
use Rattle.std.proofs.Common.{◌≡◌, ◌≢◌, ◌≤◌, ◌+◌, ◌-◌, ◌^◌, ℕ, Bool, true, false, refl, sym, ap, ◌∙◌, subst, arith}
use Rattle.std.proofs.lemmas.Bool.{ltb-false}
use Rattle.std.proofs.lemmas.Nat.{pow_pos}
use Rattle.std.specs.List.{Contains}
use Rattle.directory.specs.declared.range.Range.{Range}
use Rattle.directory.specs.declared.pseudokey.TheConstants.{POSITIONS}
use Rattle.directory.specs.Ranges.{IsRange, AreHalvesOf, is_lower, parent_of, buddy_of}
use Rattle.directory.proofs.BuddyLaws.{lower_buddies, upper_buddies, buddy_depth, buddy_is}
use Rattle.bucket_page.specs.declared.record_key.RecordKey.{RecordKey}
use Rattle.hash_file.specs.Store.{range_at, next_at}
use Rattle.hash_file.specs.Chain.{chain, IsBucketOf}
use Rattle.hash_file.specs.Search.{PageLeads, distance}
use Rattle.hash_file.specs.Looks.{Answers}
use Rattle.hash_file.proofs.Chains.{chain_valid}
use Rattle.hash_file.proofs.Searches.{hops_lead_on}
use Rattle.step_rules.specs.World.{World}
use Rattle.step_rules.specs.Sound.{IsSoundWorld}
use Rattle.step_rules.specs.Learns.{IsFoundAsBuddy}

pub hop_goes_elsewhere : (hash : RecordKey → ℕ) (w : World) (page k : ℕ) → IsSoundWorld hash w →
    PageLeads w.store w.change page k → (Answers w.store page k → ⊥) → next_at w.store page ≢ page
hop_goes_elsewhere hash w page k sound leads other same =
    let near = (hops_lead_on hash w.store w.change (chain w.store) page k sound.file leads other).nearer in
    omega (arith, near, ap (λ (n : ℕ). distance w.store n k) same)

-- a range is not its own buddy
not_own_buddy : (r : Range) (low : Bool) → 1 ≤ r.depth → is_lower r ≡ low → r ≢ buddy_of r
not_own_buddy r true deep low same =
    let turned : r.pattern ≡ r.pattern + 2 ^ (r.depth - 1) =
    ap (λ (x : Range). x.pattern) same ∙ rw low refl in
    omega (arith, turned, pow_pos (r.depth - 1))
not_own_buddy r false deep high same =
    let turned : r.pattern ≡ r.pattern - 2 ^ (r.depth - 1) =
    ap (λ (x : Range). x.pattern) same ∙ rw high refl in
    let least : 2 ^ (r.depth - 1) ≤ r.pattern = ltb-false r.pattern (2 ^ (r.depth - 1)) high in
    omega (arith, turned, least, pow_pos (r.depth - 1))

module _ (hash : RecordKey → ℕ) (w : World) (x y : ℕ) (sound : IsSoundWorld hash w) (on : Contains (chain w.store) x)
    (deep : 1 ≤ (range_at w.store x).depth) (found : IsBucketOf w.store (buddy_of (range_at w.store x)).pattern y) where
  abbrev r : Range
  r = range_at w.store x

  valid : IsRange r
  valid = chain_valid w.store (chain w.store) x sound.file.chained on

  -- where y is as deep as x, it is the buddy
  is_buddy : (range_at w.store y).depth ≡ r.depth → range_at w.store y ≡ buddy_of r
  is_buddy same = buddy_is r (range_at w.store y) valid deep same found.1

  pub buddy_is_other_half : IsFoundAsBuddy w.store x y
  buddy_is_other_half = record {
    apart = λ same. not_own_buddy r (is_lower r) deep refl
        (ap (range_at w.store) (sym same) ∙ is_buddy (ap (λ (n : ℕ). (range_at w.store n).depth) same));
    deep = buddy_depth (range_at w.store) (chain w.store) 0 POSITIONS x y sound.file.chained.tiled on found.0 deep
        found.1;
    lower = λ same low. subst (λ (b : Range). AreHalvesOf (parent_of r) r b) (sym (is_buddy same))
        (lower_buddies r deep low);
    upper = λ same high. subst (λ (b : Range). AreHalvesOf (parent_of r) b r) (sym (is_buddy same))
        (upper_buddies r valid deep high);
  }
