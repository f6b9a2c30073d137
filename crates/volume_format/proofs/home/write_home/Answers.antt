use Rattle.std.proofs.Common.{refl}
use Rattle.volume_format.specs.Home.{home_rows}
use Rattle.volume_format.proofs.home.write_home.Goals as goal

pub returns-clause-bytes : goal.returns-clause-bytes
unfolding home_rows
returns-clause-bytes c =
    rw (c.write_8-2.ensures, c.write_8.ensures, c.write-3.ensures, c.write-2.ensures, c.write_64.ensures, c.write_32.ensures, c.write.ensures, c.write_sizes.ensures.bytes)
    (rw (c.last_reason-reason.ensures, c.last_kind-kind.ensures, c.last_ids.ensures.serial, c.last_ids.ensures.tid, c.padded-node.ensures.value, c.sizes.ensures) refl)
