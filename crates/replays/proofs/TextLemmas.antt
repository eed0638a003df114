-- What was opened and replayed is left as it was where nothing was to be written.
use Rattle.std.proofs.Common.{◌≡◌, ◌∙◌, sym, ap, subst, inl, ℕ, ◌≤◌, Bool, List, length, Result, Ok}
use Rattle.interleavings.specs.interleaving_core.Words.{PoolState}
use Rattle.msgq_cli.specs.Scripts.{Parts, script_of}
use Rattle.msgq_cli.specs.declared.ending.Ending.{Ending}
use Rattle.schedules.specs.Schedules.{schedule_of}
use Rattle.schedules.specs.declared.event.Event.{Event}
use Rattle.replays.specs.Events.{ReplayState}
use Rattle.replays.specs.Replays.{IsOpenedFor, IsReplayed}
use Rattle.replays.specs.Texts.{Effects, IsPlayed, PlaysSchedule, PlaysScript, PlaysTexts}

pub is_played : (script : Parts) (events : List Event) (honest : Bool) (c : Effects) (ending : Ending)
    (first : ReplayState) → IsOpenedFor script c.content honest first →
    IsReplayed events first c.old c.new c.left c.synced c.untold ending → IsPlayed script events honest c ending
is_played script events honest c ending first opened replayed =
    let pool = opened.kernel.opened.pool in
    record {
      first = first;
      opened = opened;
      replayed = replayed;
      before = λ away.
          replayed.before away
          (subst (λ (p : PoolState). length p.stored ≤ p.frames) (sym pool) opened.kernel.enough)
          ∙ ap (λ (p : PoolState). p.stored) pool;
    }

-- and so of what two texts spell
pub plays_texts : (text words : List ℕ) (script : Parts) (events : List Event) (honest : Bool) (c : Effects)
    (ending : Ending) → script_of text ≡ Ok script → schedule_of words ≡ Ok events →
    IsPlayed script events honest c ending → PlaysTexts text words honest c ending
plays_texts text words script events honest c ending reads spells played =
    inl (subst (λ (r : Result Parts ℕ). PlaysScript r words honest c ending) (sym reads)
    (subst (λ (r : Result (List Event) ℕ). PlaysSchedule r script honest c ending) (sym spells) (inl played)))
