use Rattle.std.proofs.Common.{refl}
use Rattle.script_model.proofs.manager_lines_are_read.Goals as goal

pub returns : goal.returns
returns c = record {
  declared = refl;
  joined = refl;
  by_label = refl;
  by_serial = refl;
  forgotten = refl;
  state = refl;
  shown = refl;
  dumped = refl;
  no_reply = refl;
  missing = refl;
  no_manager = refl;
  more = refl;
}
