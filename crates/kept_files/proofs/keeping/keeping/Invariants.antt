use Rattle.std.proofs.Common.{◌≡◌, ◌<◌, ℕ, false, length}
use Rattle.std.specs.Prelude.{slice_index_or}
use Rattle.kept_files.specs.Keeping.{keeping}
use Rattle.kept_files.proofs.keeping.keeping.Given as goal

abbrev pub invariant-loop-file : goal.invariant-loop-file
invariant-loop-file g l = record {
  long : length l.kept ≡ 64;
  each : (file : ℕ) → file < l.file → slice_index_or l.kept file false ≡ keeping l.volume.catalog.heads l.files file;
}
