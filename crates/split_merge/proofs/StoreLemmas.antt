-- What is known of the bucket, its halves and the directory, where the file has become another.
use Rattle.std.proofs.Common.{◌≡◌, refl, sym, ap, subst, ◌∙◌, ℕ, List, arith}
use Rattle.std.specs.List.{Contains}
use Rattle.directory.specs.declared.header.Header.{Header}
use Rattle.bucket_page.specs.declared.page.PageKind.{PageKind}
use Rattle.bucket_page.specs.Records.{lookup}
use Rattle.step_rules.specs.Words.{Store, bucket_of, chain, PageLeads, distance}
use Rattle.hash_file.specs.Store.{page_at, is_bucket, range_of}
use Rattle.hash_file.specs.Search.{distance_on}
use Rattle.step_rules.specs.World.{gone_on}
use Rattle.step_rules.specs.Pages.{used_of}
use Rattle.step_rules.specs.Known.{AllKnown}
use Rattle.split_merge.specs.Words.{World, Change, Covers}
use Rattle.split_merge.specs.Splits.{SplitView, bucket_facts, half_facts}

-- a file whose header and entries alone have changed
abbrev pub headed : Store → Header → List ℕ → Store
headed s head entries = record s { header = head; entries = entries }

-- has the chain that it had
pub chain_headed : (s : Store) (head : Header) (entries : List ℕ) → chain (headed s head entries) ≡ chain s
unfolding chain
chain_headed s head entries = refl

module _ (seat : ℕ) (v : SplitView) (w : World) where
  -- the bucket is known as before where its page is as it was, and still on the chain
  pub bucket_moved : (t : Store) (d : Change) → Contains (chain t) v.page → page_at t v.page ≡ page_at w.store v.page →
      AllKnown seat w (bucket_facts v) → AllKnown seat (gone_on t d w) (bucket_facts v)
  bucket_moved t d on same known =
      let shape = known.1.0.1 in (
        (
          known.0.0,
          (
            on,
            subst (λ (q : PageKind). Covers (range_of (bucket_of q)) v.wanted.pseudokey) (sym same) known.0.1.1,
          ),
        ),
        (
          (
            known.1.0.0,
            record {
              is_bucket = ap is_bucket same ∙ shape.is_bucket;
              range_is = ap (λ (q : PageKind). range_of (bucket_of q)) same ∙ shape.range_is;
              next_is = ap (λ (q : PageKind). (bucket_of q).next) same ∙ shape.next_is;
            },
          ),
          (
            (
              known.1.1.0.0,
              ap (λ (q : PageKind). lookup v.wanted.key (bucket_of q).records) same ∙ known.1.1.0.1,
            ),
            ((known.1.1.1.0.0, ap (λ (q : PageKind). used_of (bucket_of q)) same ∙ known.1.1.1.0.1), tt),
          ),
        ),
      )

  pub bucket_headed : (head : Header) (entries : List ℕ) (d : Change) → AllKnown seat w (bucket_facts v) →
      AllKnown seat (gone_on (headed w.store head entries) d w) (bucket_facts v)
  bucket_headed head entries d known =
      bucket_moved (headed w.store head entries) d
      (subst (λ (ns : List ℕ). Contains ns v.page) (sym (chain_headed w.store head entries)) known.0.1.0) refl known

  -- so is the half
  pub half_headed : (head : Header) (entries : List ℕ) (d : Change) →
      (PageLeads w.store w.change v.page v.wanted.pseudokey →
      PageLeads (headed w.store head entries) d v.page v.wanted.pseudokey) →
      AllKnown seat w (half_facts v) → AllKnown seat (gone_on (headed w.store head entries) d w) (half_facts v)
  half_headed head entries d leads known =
      let t : Store = headed w.store head entries in
      let same = chain_headed w.store head entries in
      let as_far : distance t v.page v.wanted.pseudokey ≡ distance w.store v.page v.wanted.pseudokey =
      ap (λ (ns : List ℕ). distance_on t ns v.page v.wanted.pseudokey) same in (
        (known.0.0, record { leads = leads known.0.1.leads; near = omega (arith, as_far, known.0.1.near) }),
        ((known.1.0.0, subst (λ (ns : List ℕ). Contains ns v.page) (sym same) known.1.0.1), tt),
      )
