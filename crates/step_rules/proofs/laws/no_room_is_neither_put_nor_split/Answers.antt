use Rattle.step_rules.proofs.RoomLemmas.{no_room_is_seen, no_room_is_stuck, no_page_is_free}
use Rattle.step_rules.proofs.laws.no_room_is_neither_put_nor_split.Goals as goal

pub returns : goal.returns
returns c = record {
  seen = λ hash seat p page used w home lacks uses full stuck.
      no_room_is_seen hash seat p page used w home lacks uses full stuck;
  stuck = λ hash seat p turn old new sound no_room is makes.
      no_room_is_stuck hash seat p old new sound no_room turn is makes;
  free = λ hash w n sound none low high. no_page_is_free hash w sound none n low high;
}
