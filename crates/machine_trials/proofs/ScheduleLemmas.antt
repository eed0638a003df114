-- Each turn of the schedule is allowed, and every kind of step is among them.
use Rattle.std.proofs.Common.{[], ◌++◌, map, refl, arith}
use Rattle.std.specs.List.{Contains}
use Rattle.directory.specs.Ranges.{whole_range}
use Rattle.bucket_page.specs.Keys.{is_below}
use Rattle.page_locks.specs.declared.lock.LockKind.TheVariants.{Read, Selective, Exclusive}
use Rattle.hash_file.specs.Change.{Quiet, Taken, Filled, Linked, Absorbed, Buried, Drained, Freed}
use Rattle.hash_file.specs.Examples.{number_of}
use Rattle.step_rules.specs.declared.kind.Kind.{Kind}
use Rattle.step_rules.specs.declared.kind.Kind.TheVariants as steps
use Rattle.step_rules.specs.Laws.{Move, LeadAlong}
use Rattle.machine_trials.specs.Schedule.{first, taken, copied, raised, filled, linked, retargeted, split, with_third, without_first, absorbed, buried, named, drained, freed, merged, halved, world, beside_queue, in_directory, on_page, schedule, start, finish, AllKindsCome}
use Rattle.machine_trials.proofs.SplitTurns.{turn_1, turn_2, turn_3, turn_4, turn_5, turn_6, turn_7, turn_8, turn_9, turn_10, turn_11, turn_12, turn_13, turn_14, turn_15, turn_16, turn_17, turn_18, turn_19}
use Rattle.machine_trials.proofs.MergeTurns.{turn_20, turn_21, turn_22, turn_23, turn_24, turn_25, turn_26, turn_27, turn_28, turn_29, turn_30, turn_31, turn_32, turn_33, turn_34, turn_35, turn_36, turn_37, turn_38, turn_39}

allowed : LeadAlong number_of schedule start finish
allowed = (
  (world first [] (in_directory Read) Quiet),
  turn_1,
  (
    (world first [] (in_directory Read) Quiet),
    turn_2,
    (
      (world first [] (in_directory Read) Quiet),
      turn_3,
      (
        (world first [] (in_directory Read ++ on_page 257 Read) Quiet),
        turn_4,
        (
          (world first [] (on_page 257 Read) Quiet),
          turn_5,
          (
            (world first (beside_queue []) (on_page 257 Read) Quiet),
            turn_6,
            (
              (world first (beside_queue (in_directory Selective)) (on_page 257 Read) Quiet),
              turn_7,
              (
                (world first (beside_queue (in_directory Selective ++ on_page 257 Selective)) (on_page 257 Read) Quiet),
                turn_8,
                (
                  (world first (beside_queue (in_directory Selective ++ on_page 257 Selective)) (on_page 257 Read)
                      Quiet),
                  turn_9,
                  (
                    (world taken (beside_queue (in_directory Selective ++ on_page 257 Selective)) (on_page 257 Read)
                        (Taken 258)),
                    turn_10,
                    (
                      (world copied (beside_queue (in_directory Selective ++ on_page 257 Selective))
                          (on_page 257 Read) (Taken 258)),
                      turn_11,
                      (
                        (world raised (beside_queue (in_directory Selective ++ on_page 257 Selective))
                            (on_page 257 Read) (Taken 258)),
                        turn_12,
                        (
                          (world filled (beside_queue (in_directory Selective ++ on_page 257 Selective))
                              (on_page 257 Read) (Filled 257 258)),
                          turn_13,
                          (
                            (world linked (beside_queue (in_directory Selective ++ on_page 257 Selective))
                                (on_page 257 Read) (Linked 257 258 whole_range)),
                            turn_14,
                            (
                              (world linked (beside_queue (in_directory Selective ++ on_page 257 Selective))
                                  (on_page 258 Read) (Linked 257 258 whole_range)),
                              turn_15,
                              (
                                (world retargeted (beside_queue (in_directory Selective ++ on_page 257 Selective))
                                    (on_page 258 Read) (Linked 257 258 whole_range)),
                                turn_16,
                                (
                                  (world split (beside_queue (in_directory Selective ++ on_page 257 Selective))
                                      (on_page 258 Read) Quiet),
                                  turn_17,
                                  (
                                    (world split (beside_queue (in_directory Selective ++ on_page 257 Selective)) []
                                        Quiet),
                                    turn_18,
                                    (
                                      (world split (beside_queue (in_directory Selective ++ on_page 258 Selective))
                                          [] Quiet),
                                      turn_19,
                                      (
                                        (world with_third (beside_queue
                                            (in_directory Selective ++ on_page 258 Selective)) [] Quiet),
                                        turn_20,
                                        (
                                          (world with_third (beside_queue
                                              (in_directory Selective ++ on_page 258 Selective)) [] Quiet),
                                          turn_21,
                                          (
                                            (world without_first (beside_queue
                                                (in_directory Selective ++ on_page 258 Selective)) [] Quiet),
                                            turn_22,
                                            (
                                              (world without_first (beside_queue (in_directory Selective)) [] Quiet),
                                              turn_23,
                                              (
                                                (world without_first (beside_queue
                                                    (in_directory Selective ++ on_page 257 Selective)) [] Quiet),
                                                turn_24,
                                                (
                                                  (world without_first (beside_queue
                                                      (in_directory Selective ++ on_page 257 Selective ++ on_page 258
                                                      Selective)) [] Quiet),
                                                  turn_25,
                                                  (
                                                    (world absorbed (beside_queue
                                                        (in_directory Selective ++ on_page 257 Selective ++ on_page
                                                        258 Selective)) [] (Absorbed 257 258 whole_range)),
                                                    turn_26,
                                                    (
                                                      (world buried (beside_queue
                                                          (in_directory Selective ++ on_page 257 Selective ++ on_page
                                                          258 Selective)) [] (Buried 257 258 whole_range)),
                                                      turn_27,
                                                      (
                                                        (world named (beside_queue
                                                            (in_directory Selective ++ on_page 257 Selective ++
                                                            on_page 258 Selective)) [] (Buried 257 258 whole_range)),
                                                        turn_28,
                                                        (
                                                          (world drained (beside_queue
                                                              (in_directory Selective ++ on_page 257 Selective ++
                                                              on_page 258 Selective)) [] (Drained 257 258)),
                                                          turn_29,
                                                          (
                                                            (world drained (beside_queue
                                                                (in_directory Selective ++ on_page 257 Selective)) []
                                                                (Drained 257 258)),
                                                            turn_30,
                                                            (
                                                              (world drained (beside_queue (in_directory Selective))
                                                                  [] (Drained 257 258)),
                                                              turn_31,
                                                              (
                                                                (world drained (beside_queue
                                                                    (in_directory Exclusive)) [] (Drained 257 258)),
                                                                turn_32,
                                                                (
                                                                  (world drained (beside_queue
                                                                      (in_directory Exclusive ++ on_page 258
                                                                      Exclusive)) [] (Drained 257 258)),
                                                                  turn_33,
                                                                  (
                                                                    (world freed (beside_queue
                                                                        (in_directory Exclusive ++ on_page 258
                                                                        Exclusive)) [] (Freed 258)),
                                                                    turn_34,
                                                                    (
                                                                      (world merged (beside_queue
                                                                          (in_directory Exclusive ++ on_page 258
                                                                          Exclusive)) [] Quiet),
                                                                      turn_35,
                                                                      (
                                                                        (world halved (beside_queue
                                                                            (in_directory Exclusive ++ on_page 258
                                                                            Exclusive)) [] Quiet),
                                                                        turn_36,
                                                                        (
                                                                          (world halved (beside_queue
                                                                              (in_directory Exclusive)) [] Quiet),
                                                                          turn_37,
                                                                          (
                                                                            (world halved (beside_queue []) [] Quiet),
                                                                            turn_38,
                                                                            (
                                                                              (world halved [] [] Quiet),
                                                                              turn_39,
                                                                              refl,
                                                                            ),
                                                                          ),
                                                                        ),
                                                                      ),
                                                                    ),
                                                                  ),
                                                                ),
                                                              ),
                                                            ),
                                                          ),
                                                        ),
                                                      ),
                                                    ),
                                                  ),
                                                ),
                                              ),
                                            ),
                                          ),
                                        ),
                                      ),
                                    ),
                                  ),
                                ),
                              ),
                            ),
                          ),
                        ),
                      ),
                    ),
                  ),
                ),
              ),
            ),
          ),
        ),
      ),
    ),
  ),
)

each : (kind : Kind) → Contains (map (λ (m : Move). m.kind) schedule) kind
each steps.Grant = (0, omega arith, refl)
each steps.Release = (4, omega arith, refl)
each steps.ReadDepth = (1, omega arith, refl)
each steps.ReadEntry = (2, omega arith, refl)
each steps.Look = (8, omega arith, refl)
each steps.Hop = (14, omega arith, refl)
each steps.WriteRecord = (19, omega arith, refl)
each steps.Decide = (20, omega arith, refl)
each steps.TakePage = (9, omega arith, refl)
each steps.CopyDirectory = (10, omega arith, refl)
each steps.RaiseDepth = (11, omega arith, refl)
each steps.WriteNew = (12, omega arith, refl)
each steps.WriteOld = (13, omega arith, refl)
each steps.Retarget = (15, omega arith, refl)
each steps.SetCounts = (16, omega arith, refl)
each steps.WriteLeft = (25, omega arith, refl)
each steps.Tombstone = (26, omega arith, refl)
each steps.Convert = (31, omega arith, refl)
each steps.WriteFree = (33, omega arith, refl)
each steps.LinkFree = (34, omega arith, refl)
each steps.LowerDepth = (35, omega arith, refl)

pub all_kinds_come : AllKindsCome
unfolding is_below
all_kinds_come = record {
  allowed = allowed;
  each = each;
  lower = refl;
  upper = refl;
  entries = refl;
  left = refl;
  depth = refl;
  counts = refl;
  free = refl;
}
