use Rattle.std.proofs.Common.{◌≡◌, ◌≤◌, ◌+◌, ◌*◌, ℕ, true, false, length, option_map}
use Rattle.std.specs.Prelude.{drop, slice_index_or}
use Rattle.careful_write.specs.Reads.{SameButReads}
use Rattle.careful_write.specs.State.{IsReady}
use Rattle.volume.specs.State.{Holds}
use Rattle.image_appends.specs.declared.side.Side.TheVariants.{After, Before}
use Rattle.image_appends.specs.Images.{FileHasRoom}
use Rattle.image_appends.specs.Settling.{content_from, files_in, heads_from}
use Rattle.image_appends.proofs.settlements.append_settlement.Given as goal

abbrev pub invariant-loop-file : goal.invariant-loop-file
invariant-loop-file g l = record {
  current : option_map (content_from l.file (drop l.file l.files) l.entry l.volume.catalog.heads) l.volume.store.current ≡ option_map (content_from 0 l.files l.entry l.fn.volume.catalog.heads) l.fn.volume.store.current;
  catalog : record l.volume.catalog { heads = heads_from l.file (drop l.file l.files) (length l.entry) l.volume.catalog.heads } ≡ record l.fn.volume.catalog { heads = heads_from 0 l.files (length l.entry) l.fn.volume.catalog.heads };
  rest : SameButReads (record l.fn.volume.store { current = l.volume.store.current; touched = l.volume.store.touched }) l.volume.store;
  room : (file : ℕ) → l.file ≤ file → slice_index_or l.files file false ≡ true → FileHasRoom After (length l.entry) file l.volume.catalog.heads l.fn.volume.store.disk × FileHasRoom Before (length l.entry) file l.volume.catalog.heads l.fn.volume.store.disk;
  few : length l.volume.store.touched + 6 * files_in (drop l.file l.files) ≤ length l.fn.volume.store.touched + 6 * files_in l.files;
  holds : Holds l.fn.volume → Holds l.volume;
  ready : IsReady l.fn.volume.store → IsReady l.volume.store;
}
