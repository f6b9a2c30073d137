use Rattle.std.proofs.Common.{refl}
use Rattle.std.specs.Fmt.{digits}
use Rattle.transcript_model.proofs.manager_lines_are_shown.Goals as goal

pub returns : goal.returns
unfolding digits
returns c = record {
  prepare = refl;
  commit = refl;
  abort = refl;
  one_phase = refl;
  owed = refl;
  waiting = refl;
  prepared = refl;
  bare = refl;
  pending = refl;
  alone = refl;
  ending = refl;
  committed = refl;
  counted = refl;
  unknown = refl;
  declared = refl;
  joined = refl;
}
