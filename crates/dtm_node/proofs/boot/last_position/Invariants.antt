use Rattle.std.proofs.Common.{◌≡◌, ◌≤◌, max, take, length}
use Rattle.recovery_units.specs.image_room.Room.{images_end}
use Rattle.dtm_node.proofs.boot.last_position.Given as goal

abbrev pub invariant-loop-file : goal.invariant-loop-file
invariant-loop-file g l = record {
  last : l.last ≡ max l.fn.volume.catalog.ru.end (images_end (take l.file l.fn.volume.catalog.heads));
  long : 1 ≤ l.file → length l.fn.volume.catalog.heads ≡ 64;
}
