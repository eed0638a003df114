-- The steps of a split, each from what its place knows.
use Rattle.std.proofs.Common.{◌≡◌, ◌≢◌, refl, sym, ap, subst, ◌∙◌, ℕ, suc, ◌+◌, ◌^◌, ◌≤◌, ◌<◌, Bool, true, false, nat_lt, if◌then◌else◌, [], inl, arith, add-one}
use Rattle.split_merge.proofs.Names.{AllKnown, CopiesDirectory, DoesTied, IsAsDeep, IsBucketOf, IsCopiedBefore, IsRetargetedBefore, IsSoundFile, Kind, LacksRoom, PageLeads, Retargets, SetsCounts, SplitsFor, Store, WritesNew, WritesOld, bucket_at, bucket_leads, chain, contains_head, copies_on, copy_directory, gone_on, length-pair, live_not_owned, lookup, ltb-false, page_at, page_other, raise_depth, range_at, records_at, retarget, retarget_keeps_split, retargets_on, set_counts, set_counts_keeps_split, split_counts, take_page, target_of, upper_half, write_new, write_new_keeps, write_old, write_old_keeps, write_old_ways}
use Rattle.bucket_page.specs.declared.page.PageKind.TheVariants as kinds
use Rattle.step_rules.specs.declared.kind.Kind.TheVariants as kinds_of_step
use Rattle.split_merge.specs.Words.{RecordKey, GREATEST_DEPTH, Pair, World, IsSoundWorld, Change, Quiet, Taken, Filled, Linked, Range, upper_half_of, page_of, TakePage, CopyDirectory, RaiseDepth, WriteNew, WriteOld, Retarget, SetCounts, Done, SplitPlace}
use Rattle.split_merge.specs.Entries.{first_upper, last_upper, stride}
use Rattle.split_merge.specs.Order.{IsPlaced, after_take, after_copy, after_retarget}
use Rattle.split_merge.specs.Splits.{SplitView, IsSplit, IsWanted, bucket_facts, half_facts, facts_at, split_facts, split_turn}
use Rattle.split_merge.proofs.PageLemmas.{upper_on, copied_begin, copied_end, copied_all, retargeted_begin, retargeted_next, retargeted_end, retargeted_all}
use Rattle.split_merge.proofs.StoreLemmas.{bucket_moved, bucket_headed, half_headed}

-- the step of a kind that leads to this file and phase, and what is known then
pub record Leads (hash : RecordKey → ℕ) (seat : ℕ) (p : Pair) (v : SplitView) (w : World) (kind : Kind) (t : Store)
    (d : Change) (place : SplitPlace) : Type 0 where
  pub does : DoesTied hash (split_turn p) kind seat w (gone_on t d w)
  pub known : AllKnown seat (gone_on t d w) (split_facts (record v { place = place }))

module _ (hash : RecordKey → ℕ) (seat : ℕ) (v : SplitView) (inv : IsSplit v) (p : Pair)
    (asked : IsWanted hash v.wanted p) (w : World) (sound : IsSoundWorld hash w)
    (deepest : w.store.layout.greatest ≡ GREATEST_DEPTH) where
  abbrev s : Store
  s = w.store

  -- the bucket has none of the record, and no room for it
  pub lacks : AllKnown seat w (bucket_facts v) → LacksRoom hash p v.page w
  lacks known = record {
    home = subst (λ (k : ℕ). IsBucketOf s k v.page) (sym (ap hash asked.key ∙ asked.pseudokey)) known.0.1;
    absent = ap (λ (key : RecordKey). lookup key (records_at s v.page)) asked.key ∙ known.1.1.0.1;
    full = omega (arith, inv.full, known.1.1.1.0.1, length-pair p, asked.bytes);
  }

  -- so it may be split for it
  splits : {P : ℕ → Type 0} → AllKnown seat w (bucket_facts v) → P v.page → SplitsFor hash p seat w P
  splits {P} known it = record {
    page = v.page;
    owned = known.1.1.0.0;
    lacks = lacks known;
    shallow = omega (arith, inv.shallow, deepest, ap (λ (r : Range). r.depth) known.1.0.1.range_is);
    is = it;
  }

  -- a bucket that is no less deep than the directory is as deep
  as_deep : s.header.depth ≡ v.depth → v.depth ≤ v.whole.depth → AllKnown seat w (bucket_facts v) → IsAsDeep w v.page
  as_deep depth deep known = omega (
    arith,
    depth,
    deep,
    ap (λ (r : Range). r.depth) known.1.0.1.range_is,
    sound.file.chained.shallow v.page known.0.1.0,
  )

  -- ---- TakePage

  pub takes : AllKnown seat w (facts_at TakePage v) → s.header.first_free ≢ 0 →
      Leads hash seat p v w kinds_of_step.TakePage (take_page s) (Taken s.header.first_free)
      (after_take v.whole v.depth s.header.first_free)
  takes known some = record {
    does = (
      record {
        some_free = some;
        changes = record { leader = known.0.0; phase = known.0.1; is = refl };
      },
      splits known.1.1 tt,
    );
    known = by (nat_lt v.whole.depth v.depth);
  }
    where
      t : Store
      t = take_page s

      new : ℕ
      new = s.header.first_free

      by : (b : Bool) → AllKnown seat (gone_on t (Taken new) w)
          (split_facts (record v { place = if b then WriteNew new else CopyDirectory new (first_upper v.depth) }))
      by true = ((known.0.0, refl), (known.1.0, bucket_headed seat v w t.header s.entries (Taken new) known.1.1))
      by false = (
        (known.0.0, refl),
        (
          known.1.0,
          (
            (known.0.0, subst (λ (d : ℕ). IsCopiedBefore t (first_upper d)) known.1.0.1 (copied_begin t)),
            bucket_headed seat v w t.header s.entries (Taken new) known.1.1,
          ),
        ),
      )

  -- ---- CopyDirectory

  pub copies : (new page : ℕ) → AllKnown seat w (facts_at (CopyDirectory new page) v) →
      IsPlaced v.whole v.depth (CopyDirectory new page) →
      Leads hash seat p v w kinds_of_step.CopyDirectory (copy_directory page s) (Taken new)
      (after_copy v.depth new page)
  copies new page known placed = record {
    does = (does, splits known.1.1.1 (as_deep known.1.0.1 placed.0 known.1.1.1));
    known = by (nat_lt page (last_upper v.depth)) refl;
  }
    where
      t : Store
      t = copy_directory page s

      deep : s.header.depth ≡ v.depth
      deep = known.1.0.1

      does : CopiesDirectory seat w (gone_on t (Taken new) w)
      does = record {
        taken = new;
        page = page;
        upper = upper_on s page (subst (λ (d : ℕ). first_upper d ≤ page) (sym deep) placed.1)
            (subst (λ (d : ℕ). page ≤ last_upper d) (sym deep) placed.2);
        before = known.1.1.0.1;
        changes = record { leader = known.0.0; phase = known.0.1; is = refl };
      }

      shallow : s.header.depth < s.layout.greatest
      shallow = omega (arith, deep, placed.0, inv.shallow, deepest)

      on : IsCopiedBefore t (suc page)
      on = copies_on hash seat w (gone_on t (Taken new) w) does sound shallow

      bucket : AllKnown seat (gone_on t (Taken new) w) (bucket_facts v)
      bucket = bucket_headed seat v w s.header t.entries (Taken new) known.1.1.1

      by : (b : Bool) → nat_lt page (last_upper v.depth) ≡ b → AllKnown seat (gone_on t (Taken new) w)
          (split_facts (record v { place = if b then CopyDirectory new (page + 1) else RaiseDepth new }))
      by true less = (
        (known.0.0, refl),
        (known.1.0, ((known.0.0, subst (IsCopiedBefore t) (sym (add-one page)) on), bucket)),
      )
      by false last = (
        (known.0.0, refl),
        (
          known.1.0,
          (
            (
              known.0.0,
              copied_end t page (subst (λ (d : ℕ). last_upper d ≤ page) (sym deep)
                  (ltb-false page (last_upper v.depth) last)) on,
            ),
            bucket,
          ),
        ),
      )

  -- ---- RaiseDepth

  abbrev pub raised : SplitView
  raised = record v { depth = v.whole.depth + 1 }

  pub raises : (new : ℕ) → AllKnown seat w (facts_at (RaiseDepth new) v) → IsPlaced v.whole v.depth (RaiseDepth new) →
      Leads hash seat p raised w kinds_of_step.RaiseDepth (raise_depth s) (Taken new) (WriteNew new)
  raises new known placed =
      let deep = as_deep known.1.0.1 placed known.1.1.1 in
      let shape = known.1.1.1.1.0.1 in
      let depth : s.header.depth + 1 ≡ v.whole.depth + 1 =
      omega (arith, deep, ap (λ (r : Range). r.depth) shape.range_is) in
      record {
        does = (
          record {
            taken = new;
            room = omega (arith, known.1.0.1, placed, inv.shallow, deepest);
            copied = copied_all s (omega (arith, known.1.0.1, placed, inv.shallow)) known.1.1.0.1;
            changes = record { leader = known.0.0; phase = known.0.1; is = refl };
          },
          splits known.1.1.1 deep,
        );
        known = (
          (known.0.0, refl),
          ((known.0.0, depth), bucket_headed seat v w (raise_depth s).header s.entries (Taken new) known.1.1.1),
        );
      }

  -- ---- WriteNew

  pub fills : (new : ℕ) → AllKnown seat w (facts_at (WriteNew new) v) → IsPlaced v.whole v.depth (WriteNew new) →
      Leads hash seat p v w kinds_of_step.WriteNew (write_new hash v.page new s) (Filled v.page new) (WriteOld new)
  fills new known placed =
      let file : IsSoundFile hash s (Taken new) = subst (IsSoundFile hash s) known.0.1 sound.file in
      let live = known.1.1.0.1.0 in
      let shallow : (bucket_at s v.page).depth < s.header.depth =
      omega (arith, ap (λ (r : Range). r.depth) known.1.1.1.0.1.range_is, placed, known.1.0.1) in
      let keeps = write_new_keeps hash s v.page new file live shallow in
      let t : Store = write_new hash v.page new s in
      let same : page_at t v.page ≡ page_at s v.page =
      page_other s new v.page (kinds.Bucket (upper_half hash (bucket_at s v.page)))
      (live_not_owned hash s (Taken new) (chain s) file v.page new live (contains_head new [])) in
      let writes : WritesNew hash seat w (gone_on t (Filled v.page new) w) = record {
        split = v.page;
        taken = new;
        owned = known.1.1.1.1.0.0;
        on_chain = live;
        shallow = shallow;
        changes = record { leader = known.0.0; phase = known.0.1; is = refl };
      } in
      record {
        does = (writes, splits known.1.1 refl);
        known = (
          (known.0.0, refl),
          (known.1.0, bucket_moved seat v w t (Filled v.page new) keeps.sound.phase.old_on same known.1.1),
        );
      }

  -- ---- WriteOld

  pub links : (new : ℕ) → AllKnown seat w (facts_at (WriteOld new) v) →
      Leads hash seat p v w kinds_of_step.WriteOld (write_old hash v.page new s)
      (Linked v.page new (range_at s v.page)) (Retarget new (upper_half_of v.whole).pattern)
  links new known =
      let writes : WritesOld hash seat w (gone_on t d w) = record {
        split = v.page;
        filled = new;
        owned = known.1.1.1.1.0.0;
        changes = record { leader = known.0.0; phase = known.0.1; is = refl };
      } in
      record {
        does = writes;
        known = (
          (known.0.0, ap (λ (r : Range). Linked v.page new r) known.1.1.1.0.1.range_is),
          (known.1.0, ((known.0.0, retargeted_begin t (upper_half_of v.whole) new), half)),
        );
      }
    where
      file : IsSoundFile hash s (Filled v.page new)
      file = subst (IsSoundFile hash s) known.0.1 sound.file

      t : Store
      t = write_old hash v.page new s

      d : Change
      d = Linked v.page new (range_at s v.page)

      half : AllKnown seat (gone_on t d w) (half_facts v)
      half =
          let lead = bucket_leads s (Filled v.page new) (chain s) v.page v.wanted.pseudokey file.chained
          known.1.1.0.1 in
          let keeps = write_old_keeps hash s v.page new file in (
            (
              known.0.0,
              record {
                leads = keeps.leads v.page v.wanted.pseudokey lead.0;
                near = omega (arith, write_old_ways hash s v.page new file v.page v.wanted.pseudokey lead.0, lead.1);
              },
            ),
            ((known.1.1.1.1.0.0, keeps.sound.phase.old_on), tt),
          )

  -- ---- Retarget

  pub names : (new entry : ℕ) → AllKnown seat w (facts_at (Retarget new entry) v) →
      IsPlaced v.whole v.depth (Retarget new entry) →
      Leads hash seat p v w kinds_of_step.Retarget (retarget (page_of entry) (upper_half_of v.whole) new s)
      (Linked v.page new v.whole) (after_retarget v.whole v.depth new entry)
  names new entry known placed = record {
    does = does;
    known = by (nat_lt (entry + stride (suc v.whole.depth)) (2 ^ v.depth)) refl;
  }
    where
      r : Range
      r = upper_half_of v.whole

      t : Store
      t = retarget (page_of entry) r new s

      c : Change
      c = Linked v.page new v.whole

      file : IsSoundFile hash s c
      file = subst (IsSoundFile hash s) known.0.1 sound.file

      does : Retargets seat w (gone_on t c w)
      does = record {
        lower = v.page;
        upper = new;
        page = page_of entry;
        whole = v.whole;
        entry = record {
          entry = entry;
          below = subst (λ (d : ℕ). entry < 2 ^ d) (sym known.1.0.1) placed.1;
          covered = placed.2;
          there = refl;
        };
        before = subst (λ (x : Change). IsRetargetedBefore s r (target_of x) (page_of entry)) (sym known.0.1)
            known.1.1.0.1;
        changes = inl (record { leader = known.0.0; phase = known.0.1; is = refl });
      }

      on : IsRetargetedBefore t r new (suc (page_of entry))
      on = retargets_on hash seat w (gone_on t c w) does sound

      half : AllKnown seat (gone_on t c w) (half_facts v)
      half = half_headed seat v w s.header t.entries c
          (λ leads. (retarget_keeps_split hash s v.page new v.whole (page_of entry) file).leads v.page
          v.wanted.pseudokey (subst (λ (x : Change). PageLeads s x v.page v.wanted.pseudokey) known.0.1 leads))
          known.1.1.1

      by : (b : Bool) → nat_lt (entry + stride (suc v.whole.depth)) (2 ^ v.depth) ≡ b →
          AllKnown seat (gone_on t c w)
          (split_facts (record v {
            place = if b then Retarget new (entry + stride (suc v.whole.depth)) else SetCounts new;
          }))
      by true less = (
        (known.0.0, refl),
        (known.1.0, ((known.0.0, retargeted_next t r new entry placed.2 on), half)),
      )
      by false last = (
        (known.0.0, refl),
        (
          known.1.0,
          (
            (
              known.0.0,
              retargeted_end t r new entry placed.2
                  (subst (λ (d : ℕ). 2 ^ d ≤ entry + stride (suc v.whole.depth)) (sym known.1.0.1)
                  (ltb-false (entry + stride (suc v.whole.depth)) (2 ^ v.depth) last)) on,
            ),
            half,
          ),
        ),
      )

  -- ---- SetCounts

  pub counts : (new : ℕ) → AllKnown seat w (facts_at (SetCounts new) v) →
      Leads hash seat p v w kinds_of_step.SetCounts (set_counts (split_counts v.whole.depth s.header.counts) s) Quiet
      Done
  counts new known =
      let file : IsSoundFile hash s (Linked v.page new v.whole) = subst (IsSoundFile hash s) known.0.1 sound.file in
      let t : Store = set_counts (split_counts v.whole.depth s.header.counts) s in
      let all = retargeted_all s (upper_half_of v.whole) new (omega (arith, known.1.0.1, inv.depth)) known.1.1.0.1 in
      let does : SetsCounts seat w (gone_on t Quiet w) = record {
        lower = v.page;
        upper = new;
        whole = v.whole;
        sets = inl (record {
          retargeted = all;
          changes = record { leader = known.0.0; phase = known.0.1; is = refl };
        });
      } in
      record {
        does = does;
        known = (
          (known.0.0, refl),
          (
            known.1.0,
            half_headed seat v w t.header s.entries Quiet
                (λ leads. (set_counts_keeps_split hash s v.page new v.whole file all).leads v.page v.wanted.pseudokey
                (subst (λ (x : Change). PageLeads s x v.page v.wanted.pseudokey) known.0.1 leads)) known.1.1.1,
          ),
        );
      }
