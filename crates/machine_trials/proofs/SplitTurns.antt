-- The turns of the split, beside the search of seat 2, up to the Hop to the new bucket.
use Rattle.std.proofs.Common.{◌+◌, ◌^◌, [], ◌∷◌, ◌++◌, refl, inl, inr, arith}
use Rattle.directory.specs.Ranges.{whole_range}
use Rattle.directory.proofs.MemberLaws.{contains_none}
use Rattle.directory.proofs.PositionLaws.{position_zero}
use Rattle.page_locks.specs.declared.lock.LockKind.TheVariants.{Read, Selective, Exclusive}
use Rattle.page_locks.specs.declared.lock.LockName.TheVariants.{Queue, Directory, Page}
use Rattle.hash_file.specs.Change.{Quiet, Taken, Filled, Linked}
use Rattle.hash_file.specs.Examples.{number_of}
use Rattle.step_rules.specs.declared.kind.Kind.TheVariants as steps
use Rattle.step_rules.specs.Turns.{ForLock, HopFrom, no_ask, asks, DoesTied}
use Rattle.step_rules.proofs.MachineLemmas.{directory_may, page_may}
use Rattle.machine_trials.specs.Schedule.{first, taken, copied, raised, filled, linked, retargeted, split, world, beside_queue, in_directory, on_page, insert}
use Rattle.machine_trials.proofs.TwoSeats.{beside_one, beside_two, only_page, chain_first, chain_raised, chain_linked, chain_split, on, root_alone, root_first, grants_one, grants_two, releases_two, lacks_first, lacks_taken, lacks_copied, lacks_raised, none_before, copied_all, named_new, even, lacks_at, queue_may}

pub turn_1 : DoesTied number_of (asks (ForLock Directory Read)) steps.Grant 2
    (world first [] [] Quiet)
    (world first [] (in_directory Read) Quiet)
turn_1 = grants_two first [] [] Quiet Directory Read (omega arith) refl refl (λ page same. absurd cc)
    (directory_may 2 Read (world first [] [] Quiet) (λ x. absurd cc) (λ n. refl))

pub turn_2 : DoesTied number_of no_ask steps.ReadDepth 2
    (world first [] (in_directory Read) Quiet)
    (world first [] (in_directory Read) Quiet)
turn_2 = record { had = refl; is = refl }

pub turn_3 : DoesTied number_of no_ask steps.ReadEntry 2
    (world first [] (in_directory Read) Quiet)
    (world first [] (in_directory Read) Quiet)
turn_3 = record { had = refl; is = refl }

pub turn_4 : DoesTied number_of (asks (ForLock (Page 257) Read)) steps.Grant 2
    (world first [] (in_directory Read) Quiet)
    (world first [] (in_directory Read ++ on_page 257 Read) Quiet)
turn_4 = grants_two first [] (in_directory Read) Quiet (Page 257) Read (omega arith) refl refl
    (only_page (world first [] (in_directory Read) Quiet) 257 (inl (on first (257 ∷ []) 257 chain_first root_alone)))
    (page_may 257 Read 2 (world first [] (in_directory Read) Quiet) refl (λ x. absurd cc))

pub turn_5 : DoesTied number_of no_ask steps.Release 2
    (world first [] (in_directory Read ++ on_page 257 Read) Quiet)
    (world first [] (on_page 257 Read) Quiet)
turn_5 = releases_two first [] (in_directory Read ++ on_page 257 Read) Quiet Directory refl
    (λ page there. contains_none page there) (λ w. absurd cc)

pub turn_6 : DoesTied number_of (asks (ForLock (Queue 0) Exclusive)) steps.Grant 1
    (world first [] (on_page 257 Read) Quiet)
    (world first (beside_queue []) (on_page 257 Read) Quiet)
turn_6 = grants_one first [] (on_page 257 Read) Quiet (Queue 0) Exclusive (omega arith) refl refl
    (λ page same. absurd cc)
    queue_may

pub turn_7 : DoesTied number_of (asks (ForLock Directory Selective)) steps.Grant 1
    (world first (beside_queue []) (on_page 257 Read) Quiet)
    (world first (beside_queue (in_directory Selective)) (on_page 257 Read) Quiet)
turn_7 = grants_one first (beside_queue []) (on_page 257 Read) Quiet Directory Selective (omega arith) refl refl
    (λ page same. absurd cc)
    (directory_may 1 Selective (world first (beside_queue []) (on_page 257 Read) Quiet) (λ x. absurd cc) (λ n. refl))

pub turn_8 : DoesTied number_of (asks (ForLock (Page 257) Selective)) steps.Grant 1
    (world first (beside_queue (in_directory Selective)) (on_page 257 Read) Quiet)
    (world first (beside_queue (in_directory Selective ++ on_page 257 Selective)) (on_page 257 Read) Quiet)
turn_8 = grants_one first (beside_queue (in_directory Selective)) (on_page 257 Read) Quiet (Page 257) Selective
    (omega arith) refl refl (only_page (world first (beside_queue (in_directory Selective)) (on_page 257 Read) Quiet)
    257 (inl (on first (257 ∷ []) 257 chain_first root_alone)))
    (page_may 257 Selective 1 (world first (beside_queue (in_directory Selective)) (on_page 257 Read) Quiet) refl
    (λ x. absurd cc))

pub turn_9 : DoesTied number_of no_ask steps.Look 1
    (world first (beside_queue (in_directory Selective ++ on_page 257 Selective)) (on_page 257 Read) Quiet)
    (world first (beside_queue (in_directory Selective ++ on_page 257 Selective)) (on_page 257 Read) Quiet)
turn_9 = record { page = 257; reads = record { had = refl; is = refl } }

pub turn_10 : DoesTied number_of insert steps.TakePage 1
    (world first (beside_queue (in_directory Selective ++ on_page 257 Selective)) (on_page 257 Read) Quiet)
    (world taken (beside_queue (in_directory Selective ++ on_page 257 Selective)) (on_page 257 Read) (Taken 258))
turn_10 = (
  record {
    some_free = λ none. absurd (omega (arith, none));
    changes = record
        { leader = refl; phase = refl; is = refl };
  },
  record { page = 257; owned = refl; lacks = lacks_at lacks_first; shallow = omega arith; is = tt },
)

pub turn_11 : DoesTied number_of insert steps.CopyDirectory 1
    (world taken (beside_queue (in_directory Selective ++ on_page 257 Selective)) (on_page 257 Read) (Taken 258))
    (world copied (beside_queue (in_directory Selective ++ on_page 257 Selective)) (on_page 257 Read) (Taken 258))
turn_11 = (
  record {
    taken = 258;
    page = 1;
    upper = record { entry = 0; below = omega arith; there = refl };
    before = λ i below there. absurd (none_before (i + 2 ^ 0) there);
    changes = record { leader = refl; phase = refl; is = refl };
  },
  record { page = 257; owned = refl; lacks = lacks_at lacks_taken; shallow = omega arith; is = refl },
)

pub turn_12 : DoesTied number_of insert steps.RaiseDepth 1
    (world copied (beside_queue (in_directory Selective ++ on_page 257 Selective)) (on_page 257 Read) (Taken 258))
    (world raised (beside_queue (in_directory Selective ++ on_page 257 Selective)) (on_page 257 Read) (Taken 258))
turn_12 = (
  record {
    taken = 258;
    room = omega arith;
    copied = copied_all;
    changes = record
        { leader = refl; phase = refl; is = refl };
  },
  record { page = 257; owned = refl; lacks = lacks_at lacks_copied; shallow = omega arith; is = refl },
)

pub turn_13 : DoesTied number_of insert steps.WriteNew 1
    (world raised (beside_queue (in_directory Selective ++ on_page 257 Selective)) (on_page 257 Read) (Taken 258))
    (world filled (beside_queue (in_directory Selective ++ on_page 257 Selective)) (on_page 257 Read) (Filled 257 258))
turn_13 = (
  record {
    split = 257;
    taken = 258;
    owned = refl;
    on_chain = on raised (257 ∷ []) 257 chain_raised root_alone;
    shallow = omega arith;
    changes = record { leader = refl; phase = refl; is = refl };
  },
  record { page = 257; owned = refl; lacks = lacks_at lacks_raised; shallow = omega arith; is = refl },
)

pub turn_14 : DoesTied number_of insert steps.WriteOld 1
    (world filled (beside_queue (in_directory Selective ++ on_page 257 Selective)) (on_page 257 Read) (Filled 257 258))
    (world linked (beside_queue (in_directory Selective ++ on_page 257 Selective)) (on_page 257 Read)
    (Linked 257 258 whole_range))
turn_14 = record {
  split = 257;
  filled = 258;
  owned = refl;
  changes = record
      { leader = refl; phase = refl; is = refl };
}

pub turn_15 : DoesTied number_of (asks (HopFrom 257 1)) steps.Hop 2
    (world linked (beside_queue (in_directory Selective ++ on_page 257 Selective)) (on_page 257 Read)
    (Linked 257 258 whole_range))
    (world linked (beside_queue (in_directory Selective ++ on_page 257 Selective)) (on_page 258 Read)
    (Linked 257 258 whole_range))
turn_15 = record {
  hops = record {
    page = 257;
    pseudokey = 1;
    kind = Read;
    had = refl;
    leads = record {
      stands = inl (on linked (257 ∷ 258 ∷ []) 257 chain_linked root_first);
      reaches = omega (arith, position_zero);
    };
    hops = inr (
      λ answers. even 1 refl answers.1,
      record {
        seated = (omega arith, omega arith);
        room = omega arith;
        fresh = refl;
        free = beside_two (beside_queue (in_directory Selective ++ on_page 257 Selective)) (on_page 257 Read)
            (Page 258) Read refl;
        idle = λ w there. contains_none 257 there;
        is = refl;
      },
    );
  };
  page_is = refl;
  pseudokey_is = refl;
}

pub turn_16 : DoesTied number_of insert steps.Retarget 1
    (world linked (beside_queue (in_directory Selective ++ on_page 257 Selective)) (on_page 258 Read)
    (Linked 257 258 whole_range))
    (world retargeted (beside_queue (in_directory Selective ++ on_page 257 Selective)) (on_page 258 Read)
    (Linked 257 258 whole_range))
turn_16 = record {
  lower = 257;
  upper = 258;
  page = 1;
  whole = whole_range;
  entry = record { entry = 1; below = omega arith; covered = refl; there = refl };
  before = λ i below covers there. absurd (none_before i there);
  changes = inl (record { leader = refl; phase = refl; is = refl });
}

pub turn_17 : DoesTied number_of insert steps.SetCounts 1
    (world retargeted (beside_queue (in_directory Selective ++ on_page 257 Selective)) (on_page 258 Read)
    (Linked 257 258 whole_range))
    (world split (beside_queue (in_directory Selective ++ on_page 257 Selective)) (on_page 258 Read) Quiet)
turn_17 = record {
  lower = 257;
  upper = 258;
  whole = whole_range;
  sets = inl (record { retargeted = named_new; changes = record { leader = refl; phase = refl; is = refl } });
}

pub turn_18 : DoesTied number_of no_ask steps.Release 2
    (world split (beside_queue (in_directory Selective ++ on_page 257 Selective)) (on_page 258 Read) Quiet)
    (world split (beside_queue (in_directory Selective ++ on_page 257 Selective)) [] Quiet)
turn_18 = releases_two split (beside_queue (in_directory Selective ++ on_page 257 Selective)) (on_page 258 Read)
    Quiet (Page 258) refl (λ page there. contains_none page there) (λ w. absurd cc)

pub turn_19 : DoesTied number_of (asks (HopFrom 257 3)) steps.Hop 1
    (world split (beside_queue (in_directory Selective ++ on_page 257 Selective)) [] Quiet)
    (world split (beside_queue (in_directory Selective ++ on_page 258 Selective)) [] Quiet)
turn_19 = record {
  hops = record {
    page = 257;
    pseudokey = 3;
    kind = Selective;
    had = refl;
    leads = record {
      stands = inl (on split (257 ∷ 258 ∷ []) 257 chain_split root_first);
      reaches = omega (arith, position_zero);
    };
    hops = inr (
      λ answers. even 3 refl answers.1,
      record {
        seated = (omega arith, omega arith);
        room = omega arith;
        fresh = refl;
        free = beside_one (beside_queue (in_directory Selective ++ on_page 257 Selective)) [] (Page 258) Selective refl;
        idle = λ w there. contains_none 257 there;
        is = refl;
      },
    );
  };
  page_is = refl;
  pseudokey_is = refl;
}
