-- How a run ends, and whether it is committed.
use Rattle.std.proofs.Common.{ℕ, ◌≡◌, inl, inr, refl, ap, ◌∙◌, Bool, true, false, List, Option, None, Some}
use Rattle.std.specs.List.{list_any}
use Rattle.std.specs.Prelude.{if◌then◌else◌}
use Rattle.numbers.specs.declared.faults.TheConstants.{DEVICE}
use Rattle.page_device.specs.Device.{HasRisen}
use Rattle.interleavings.specs.LoneKernelWords.{State}
use Rattle.msgq_cli.specs.Outputs.{OutputState}
use Rattle.msgq_cli.specs.Refusals.{IsFaultAlone}
use Rattle.msgq_cli.specs.Runs.{ending_of, is_fault}
use Rattle.msgq_cli.specs.declared.ending.Ending.{Ending}
use Rattle.msgq_cli.specs.declared.ending.Ending.TheVariants.{Done, Faulty, Failed, Unopened, WrongLine, WrongWord}
use Rattle.msgq_cli.specs.declared.reply.Reply.{Reply}
use Rattle.replays.specs.Replays.{EndsWith, ending_by, is_fault_told}
use Rattle.session_runs.specs.Runs.{EndsWell}
use Rattle.crash_safe_runs.specs.Concluding.{is_to_commit, is_well}

-- a fault that no line met is no good ending
pub alone_unwell : (fault : ℕ) (old new : OutputState) (ending : Ending) → IsFaultAlone fault old new ending →
    is_well ending ≡ false
alone_unwell fault old new Done alone = absurd alone.ends
alone_unwell fault old new Faulty alone = absurd alone.ends
alone_unwell fault old new (Failed failure) alone = refl
alone_unwell fault old new (Unopened refusal) alone = refl
alone_unwell fault old new (WrongLine line) alone = refl
alone_unwell fault old new (WrongWord word) alone = refl

-- the lines alone leave a good one
well_if : (b : Bool) → is_well (if b then Faulty else Done) ≡ true
well_if true = refl
well_if false = refl

pub lines_well : (replies : List Reply) → is_well (ending_of replies) ≡ true
lines_well replies = well_if (list_any is_fault replies)

-- so do the replies of a replay
pub replies_well : (replies : List (Option Reply)) → is_well (ending_by replies) ≡ true
replies_well replies = well_if (list_any is_fault_told replies)

-- a good ending tells no fault
pub none_told : (fault : Option ℕ) (told new : OutputState) (so_far ending : Ending) →
    EndsWith fault told so_far new ending → is_well ending ≡ true → fault ≡ None
none_told None told new so_far ending ends well = refl
none_told (Some fault) told new so_far ending ends well =
    absurd (let bad = alone_unwell fault told new ending ends in cc)

-- and where none is told it is as good as that of the lines
pub well_told : (fault : Option ℕ) (told new : OutputState) (so_far ending : Ending) →
    EndsWith fault told so_far new ending → is_well so_far ≡ true → fault ≡ None → is_well ending ≡ true
well_told None told new so_far ending ends well none = ap is_well ends.1 ∙ well
well_told (Some fault) told new so_far ending ends well none = absurd cc

-- ---- whether it is committed

pub record IsCommittable (due untold : Bool) (ending : Ending) : Type 0 where
  pub due_is : due ≡ true
  pub told : untold ≡ false
  pub well : is_well ending ≡ true

pub committable : (due untold : Bool) (ending : Ending) → is_to_commit due untold ending ≡ true →
    IsCommittable due untold ending
committable true false ending is = record { due_is = refl; told = refl; well = is }
committable true true ending is = absurd cc
committable false untold ending is = absurd cc

pub not_committable : (due untold : Bool) (ending : Ending) → is_to_commit due untold ending ≡ false →
    due ≡ true → untold ≡ false → is_well ending ≡ true → ⊥
not_committable true false ending is due told well = cc
not_committable true true ending is due told well = cc
not_committable false untold ending is due told well = cc

-- ---- what is told of the file

-- where no fault was told none is told of what failed since
pub ends_none : (was faults later : ℕ) (left : List (List ℕ)) (untold : Bool) (s : Option State) →
    EndsWell s left untold was faults None → EndsWell s left untold was later None
ends_none was faults later left untold None fails = absurd (let told = fails.told in cc)
ends_none was faults later left untold (Some s) (inl kept) = inl kept
ends_none was faults later left untold (Some s) (inr fails) = absurd (let told = fails.told in cc)

-- or that a transfer has failed at the end
pub ends_failed : (was faults later : ℕ) (left : List (List ℕ)) (untold : Bool) (s : Option State) →
    EndsWell s left untold was faults None → HasRisen was later → EndsWell s left untold was later (Some DEVICE)
ends_failed was faults later left untold None fails risen = absurd (let told = fails.told in cc)
ends_failed was faults later left untold (Some s) ends risen = inr (record { told = refl; risen = risen })
