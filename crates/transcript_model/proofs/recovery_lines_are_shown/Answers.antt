use Rattle.std.proofs.Common.{refl}
use Rattle.std.specs.Fmt.{digits}
use Rattle.commit_protocol.specs.vms_model.Times.{time_text, day_after}
use Rattle.transcript_model.proofs.recovery_lines_are_shown.Goals as goal

pub returns : goal.returns
unfolding digits time_text day_after
returns c = record {
  changed = refl;
  absent = refl;
  settled = refl;
  saved = refl;
  unmarked = refl;
  unsaved = refl;
  early = refl;
  positions = refl;
  moments = refl;
  afters = refl;
  befores = refl;
}
