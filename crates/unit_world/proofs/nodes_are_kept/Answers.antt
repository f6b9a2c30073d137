use Rattle.recovery_units.proofs.lmcp_log.SlotLemmas.{none_forgotten}
use Rattle.volume_laws.proofs.WholeLemmas.{volume_falls}
use Rattle.unit_world.proofs.Keeping.{begins, comes, stays, tables}
use Rattle.unit_world.proofs.Leaving.{boots, down, formats}
use Rattle.unit_world.proofs.Showing.{shows}
use Rattle.unit_world.proofs.ShowingImages.{shows_images}
use Rattle.unit_world.proofs.Making.{creates, free}
use Rattle.unit_world.proofs.Marking.{marks, saves}
use Rattle.unit_world.proofs.nodes_are_kept.Goals as goal

pub returns : goal.returns
returns c = record {
  falls = volume_falls;
  down = down;
  shows = λ s v n kept. shows kept.content v.catalog n kept.has;
  shows_images = λ s v n f h name file kept up named found. shows_images kept.content v.catalog n f h name file kept.has up named found;
  stays = stays;
  comes = comes;
  begins = begins;
  tables = tables;
  marks = marks;
  saves = saves;
  free = free;
  creates = creates;
  unlogged = λ serial ss none. (none_forgotten serial ss none).0;
  boots = boots;
  formats = formats;
}
