use Rattle.std.proofs.Common.{sym, ◌∙◌}
use Rattle.file_base.specs.vms_base.Ids.{id_of}
use Rattle.volume_format.proofs.Readings.{same_id}
use Rattle.volume_format.proofs.pieces.id_at.Goals as goal

pub returns : goal.returns
returns c = λ id is at. same_id c.get_id.result id ((c.get_id.ensures (id_of id)).1 (is, sym (c.bytes_16.ensures ∙ at)))
