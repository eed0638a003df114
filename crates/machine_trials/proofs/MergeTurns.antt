-- The turns that write records, and those of the merge.
use Rattle.std.proofs.Common.{◌≡◌, [], ◌∷◌, ◌++◌, refl, inl, inr, arith}
use Rattle.directory.specs.Ranges.{whole_range}
use Rattle.directory.proofs.MemberLaws.{contains_head, contains_none}
use Rattle.bucket_page.specs.Keys.{is_below}
use Rattle.page_locks.specs.declared.lock.LockKind.TheVariants.{Selective, Exclusive}
use Rattle.page_locks.specs.declared.lock.LockName.TheVariants.{Queue, Directory, Page}
use Rattle.hash_file.specs.Change.{Quiet, Absorbed, Buried, Drained, Freed}
use Rattle.hash_file.specs.Changes.{Put, Remove}
use Rattle.hash_file.specs.Examples.{number_of, key}
use Rattle.step_rules.specs.declared.kind.Kind.TheVariants as steps
use Rattle.step_rules.specs.Pages.{used_on, size_of}
use Rattle.step_rules.specs.Turns.{ForLock, ToExclusive, no_ask, asks, DoesTied}
use Rattle.step_rules.proofs.MachineLemmas.{page_may}
use Rattle.machine_trials.specs.Schedule.{third, split, with_third, without_first, absorbed, buried, named, drained, freed, merged, halved, world, beside_queue, in_directory, on_page, insert, delete}
use Rattle.machine_trials.proofs.TwoSeats.{beside_one, only_page, chain_split, chain_with_third, chain_without_first, on, root_first, root_next, size_is, used_one, grants_one, releases_one, none_before, named_left, last_may, done}

pub turn_20 : DoesTied number_of insert steps.WriteRecord 1
    (world split (beside_queue (in_directory Selective ++ on_page 258 Selective)) [] Quiet)
    (world with_third (beside_queue (in_directory Selective ++ on_page 258 Selective)) [] Quiet)
unfolding is_below
turn_20 = record {
  writes = record {
    page = 258;
    write = Put third;
    page_owned = refl;
    record_owned = refl;
    between = λ w. refl;
    home = (on split (257 ∷ 258 ∷ []) 258 chain_split root_next, refl);
    may = refl;
    suits = (let used : used_on split 258 ≡ 3015 = used_one 1 3000 in let size : size_of third ≡ 215 = size_is 3 200
        in omega (arith, used, size));
    is = refl;
  };
  write_is = refl;
}

pub turn_21 : DoesTied number_of no_ask steps.Decide 1
    (world with_third (beside_queue (in_directory Selective ++ on_page 258 Selective)) [] Quiet)
    (world with_third (beside_queue (in_directory Selective ++ on_page 258 Selective)) [] Quiet)
turn_21 = refl

pub turn_22 : DoesTied number_of delete steps.WriteRecord 1
    (world with_third (beside_queue (in_directory Selective ++ on_page 258 Selective)) [] Quiet)
    (world without_first (beside_queue (in_directory Selective ++ on_page 258 Selective)) [] Quiet)
unfolding is_below
turn_22 = record {
  writes = record {
    page = 258;
    write = Remove (key 1);
    page_owned = refl;
    record_owned = refl;
    between = λ w. refl;
    home = (on with_third (257 ∷ 258 ∷ []) 258 chain_with_third root_next, refl);
    may = tt;
    suits = refl;
    is = refl;
  };
  write_is = refl;
}

pub turn_23 : DoesTied number_of no_ask steps.Release 1
    (world without_first (beside_queue (in_directory Selective ++ on_page 258 Selective)) [] Quiet)
    (world without_first (beside_queue (in_directory Selective)) [] Quiet)
turn_23 = releases_one without_first (beside_queue (in_directory Selective ++ on_page 258 Selective)) [] Quiet
    (Page 258) refl (λ page there. contains_none page there) (λ same. absurd cc)

pub turn_24 : DoesTied number_of (asks (ForLock (Page 257) Selective)) steps.Grant 1
    (world without_first (beside_queue (in_directory Selective)) [] Quiet)
    (world without_first (beside_queue (in_directory Selective ++ on_page 257 Selective)) [] Quiet)
turn_24 = grants_one without_first (beside_queue (in_directory Selective)) [] Quiet (Page 257) Selective
    (omega arith) refl refl (only_page (world without_first (beside_queue (in_directory Selective)) [] Quiet) 257
    (inl (on without_first (257 ∷ 258 ∷ []) 257 chain_without_first root_first)))
    (page_may 257 Selective 1 (world without_first (beside_queue (in_directory Selective)) [] Quiet) refl
    (λ x. absurd cc))

pub turn_25 : DoesTied number_of (asks (ForLock (Page 258) Selective)) steps.Grant 1
    (world without_first (beside_queue (in_directory Selective ++ on_page 257 Selective)) [] Quiet)
    (world without_first (beside_queue (in_directory Selective ++ on_page 257 Selective ++ on_page 258 Selective)) []
    Quiet)
turn_25 = grants_one without_first (beside_queue (in_directory Selective ++ on_page 257 Selective)) [] Quiet
    (Page 258) Selective (omega arith) refl refl (only_page (world without_first
    (beside_queue (in_directory Selective ++ on_page 257 Selective)) [] Quiet) 258
    (inl (on without_first (257 ∷ 258 ∷ []) 258 chain_without_first root_next)))
    (page_may 258 Selective 1 (world without_first (beside_queue (in_directory Selective ++ on_page 257 Selective))
    [] Quiet) refl (λ x. absurd cc))

pub turn_26 : DoesTied number_of delete steps.WriteLeft 1
    (world without_first (beside_queue (in_directory Selective ++ on_page 257 Selective ++ on_page 258 Selective)) []
    Quiet)
    (world absorbed (beside_queue (in_directory Selective ++ on_page 257 Selective ++ on_page 258 Selective)) []
    (Absorbed 257 258 whole_range))
unfolding is_below
turn_26 = (
  record {
    left = 257;
    right = 258;
    whole = whole_range;
    left_owned = refl;
    right_owned = refl;
    left_on = on without_first (257 ∷ 258 ∷ []) 257 chain_without_first root_first;
    right_on = on without_first (257 ∷ 258 ∷ []) 258 chain_without_first root_next;
    halves = record { lower = refl; upper = refl };
    small = (let left : used_on without_first 257 ≡ 1015 = used_one 0 1000 in let right : used_on without_first 258 ≡
        215 = used_one 3 200 in omega (arith, left, right));
    changes = record { leader = refl; phase = refl; is = refl };
  },
  (258, (on without_first (257 ∷ 258 ∷ []) 258 chain_without_first root_next, refl), inr refl),
)

pub turn_27 : DoesTied number_of delete steps.Tombstone 1
    (world absorbed (beside_queue (in_directory Selective ++ on_page 257 Selective ++ on_page 258 Selective)) []
    (Absorbed 257 258 whole_range))
    (world buried (beside_queue (in_directory Selective ++ on_page 257 Selective ++ on_page 258 Selective)) []
    (Buried 257 258 whole_range))
turn_27 = record {
  left = 257;
  right = 258;
  whole = whole_range;
  owned = refl;
  changes = record
      { leader = refl; phase = refl; is = refl };
}

pub turn_28 : DoesTied number_of delete steps.Retarget 1
    (world buried (beside_queue (in_directory Selective ++ on_page 257 Selective ++ on_page 258 Selective)) []
    (Buried 257 258 whole_range))
    (world named (beside_queue (in_directory Selective ++ on_page 257 Selective ++ on_page 258 Selective)) []
    (Buried 257 258 whole_range))
turn_28 = record {
  lower = 257;
  upper = 258;
  page = 1;
  whole = whole_range;
  entry = record { entry = 1; below = omega arith; covered = refl; there = refl };
  before = λ i below covers there. absurd (none_before i there);
  changes = inr (record { leader = refl; phase = refl; is = refl });
}

pub turn_29 : DoesTied number_of delete steps.SetCounts 1
    (world named (beside_queue (in_directory Selective ++ on_page 257 Selective ++ on_page 258 Selective)) []
    (Buried 257 258 whole_range))
    (world drained (beside_queue (in_directory Selective ++ on_page 257 Selective ++ on_page 258 Selective)) []
    (Drained 257 258))
turn_29 = record {
  lower = 257;
  upper = 258;
  whole = whole_range;
  sets = inr (record { retargeted = named_left; changes = record { leader = refl; phase = refl; is = refl } });
}

pub turn_30 : DoesTied number_of no_ask steps.Release 1
    (world drained (beside_queue (in_directory Selective ++ on_page 257 Selective ++ on_page 258 Selective)) []
    (Drained 257 258))
    (world drained (beside_queue (in_directory Selective ++ on_page 257 Selective)) [] (Drained 257 258))
turn_30 = releases_one drained (beside_queue (in_directory Selective ++ on_page 257 Selective ++ on_page 258
    Selective)) [] (Drained 257 258) (Page 258) refl (λ page there. contains_none page there) (λ same. absurd cc)

pub turn_31 : DoesTied number_of no_ask steps.Release 1
    (world drained (beside_queue (in_directory Selective ++ on_page 257 Selective)) [] (Drained 257 258))
    (world drained (beside_queue (in_directory Selective)) [] (Drained 257 258))
turn_31 = releases_one drained (beside_queue (in_directory Selective ++ on_page 257 Selective)) [] (Drained 257 258)
    (Page 257) refl (λ page there. contains_none page there) (λ same. absurd cc)

pub turn_32 : DoesTied number_of (asks ToExclusive) steps.Convert 1
    (world drained (beside_queue (in_directory Selective)) [] (Drained 257 258))
    (world drained (beside_queue (in_directory Exclusive)) [] (Drained 257 258))
turn_32 = record {
  seated = (omega arith, omega arith);
  left = 257;
  right = 258;
  drained = refl;
  had = refl;
  free = beside_one (beside_queue (in_directory Selective)) [] Directory Exclusive refl;
  is = refl;
}

pub turn_33 : DoesTied number_of (asks (ForLock (Page 258) Exclusive)) steps.Grant 1
    (world drained (beside_queue (in_directory Exclusive)) [] (Drained 257 258))
    (world drained (beside_queue (in_directory Exclusive ++ on_page 258 Exclusive)) [] (Drained 257 258))
turn_33 = grants_one drained (beside_queue (in_directory Exclusive)) [] (Drained 257 258) (Page 258) Exclusive
    (omega arith) refl refl (only_page (world drained (beside_queue (in_directory Exclusive)) [] (Drained 257 258))
    258 (inr (contains_head 258 [])))
    last_may

pub turn_34 : DoesTied number_of delete steps.WriteFree 1
    (world drained (beside_queue (in_directory Exclusive ++ on_page 258 Exclusive)) [] (Drained 257 258))
    (world freed (beside_queue (in_directory Exclusive ++ on_page 258 Exclusive)) [] (Freed 258))
turn_34 = record {
  left = 257;
  right = 258;
  alone = refl;
  drained = refl;
  changes = record
      { leader = refl; phase = refl; is = refl };
}

pub turn_35 : DoesTied number_of delete steps.LinkFree 1
    (world freed (beside_queue (in_directory Exclusive ++ on_page 258 Exclusive)) [] (Freed 258))
    (world merged (beside_queue (in_directory Exclusive ++ on_page 258 Exclusive)) [] Quiet)
turn_35 = record { right = 258; alone = refl; changes = record { leader = refl; phase = refl; is = refl } }

pub turn_36 : DoesTied number_of delete steps.LowerDepth 1
    (world merged (beside_queue (in_directory Exclusive ++ on_page 258 Exclusive)) [] Quiet)
    (world halved (beside_queue (in_directory Exclusive ++ on_page 258 Exclusive)) [] Quiet)
turn_36 = record {
  alone = refl;
  deep = omega arith;
  unused = refl;
  changes = record
      { leader = refl; phase = refl; is = refl };
}

pub turn_37 : DoesTied number_of no_ask steps.Release 1
    (world halved (beside_queue (in_directory Exclusive ++ on_page 258 Exclusive)) [] Quiet)
    (world halved (beside_queue (in_directory Exclusive)) [] Quiet)
turn_37 = releases_one halved (beside_queue (in_directory Exclusive ++ on_page 258 Exclusive)) [] Quiet (Page 258)
    refl (λ page there. contains_none page there) (λ same. absurd cc)

pub turn_38 : DoesTied number_of no_ask steps.Release 1
    (world halved (beside_queue (in_directory Exclusive)) [] Quiet)
    (world halved (beside_queue []) [] Quiet)
turn_38 = releases_one halved (beside_queue (in_directory Exclusive)) [] Quiet Directory refl
    (λ page there. contains_none page there) (λ same. done)

pub turn_39 : DoesTied number_of no_ask steps.Release 1
    (world halved (beside_queue []) [] Quiet)
    (world halved [] [] Quiet)
turn_39 = releases_one halved (beside_queue []) [] Quiet (Queue 0) refl (λ page there. contains_none page there)
    (λ same. absurd cc)
