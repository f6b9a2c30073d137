use Rattle.std.proofs.Common.{◌≡◌, ap, rules, subst}
use Rattle.block_disk.specs.Disk.{DiskState}
use Rattle.careful_write.specs.Down.{CountsDown}
use Rattle.careful_write.specs.Steps.{Quiet}
use Rattle.volume.specs.Catalogs.{IsSound}
use Rattle.volume.specs.Empty.{empty_catalog, empty_home}
use Rattle.volume.specs.Limits.{SizesFit}
use Rattle.dtm_node.proofs.Formatting.{format_fell, format_made, format_misfits, format_unpowered}
use Rattle.dtm_node.proofs.Passing.{unpowers}
use Rattle.dtm_node.proofs.node.format.Goals as goal

pub returns-then-not-sizes_fit-clause-formats : goal.returns-then-not-sizes_fit-clause-formats
returns-then-not-sizes_fit-clause-formats g c = λ has_parts. format_misfits c.args.new.now.name c.args.new.now.slots c.args.new.now.blocks has_parts (g.D.Disk.state c.args.disk) (search rules)

pub returns-in-Err-clause-formats : goal.returns-in-Err-clause-formats
returns-in-Err-clause-formats g c = λ has_parts.
    let old : DiskState = g.D.Disk.state c.args.disk in
    let fit : SizesFit old.size (record { blocks = old.size; slots = c.args.new.now.slots; ru_blocks = c.args.new.now.blocks }) = search rules in
    format_unpowered c.args.new.now.name c.args.new.now.slots c.args.new.now.blocks has_parts old fit c.in-Err.e (g.D.Disk.state c.power.new.self) (unpowers c.in-Err.e old (g.D.Disk.state c.power.new.self) c.in-Err.ensures.err c.in-Err.ensures.never_stopped) c.from.result c.from.ensures

pub returns-in-Ok-clause-formats : goal.returns-in-Ok-clause-formats
returns-in-Ok-clause-formats g c = λ has_parts.
    let old : DiskState = g.D.Disk.state c.args.disk in
    let mid : DiskState = g.D.Disk.state c.power.new.self in
    let new : DiskState = g.D.Disk.state c.format-disk.result.0 in
    let name = c.args.new.now.name in
    let slots = c.args.new.now.slots in
    let blocks = c.args.new.now.blocks in
    let fit : SizesFit old.size (record { blocks = old.size; slots = slots; ru_blocks = blocks }) = search rules in
    let power = c.in_default.ensures.ok in
    let quiet : Quiet mid new = search rules in
    let size : mid.size ≡ old.size = ap (λ (t : DiskState). t.size) power.state in
    format_made name slots blocks has_parts old fit mid power new c.the_laws.ensures.nodes quiet (search rules) (search rules) (subst (λ x. IsSound name x (empty_catalog (empty_home name x slots blocks))) size c.format-disk.ensures.sound) (search rules) (g.met.D.Disk.whole c.format-disk.result.0) (search rules) (search rules)

pub returns-in-Err-done-clause-formats : goal.returns-in-Err-done-clause-formats
returns-in-Err-done-clause-formats g c = λ has_parts.
    let old : DiskState = g.D.Disk.state c.args.disk in
    let mid : DiskState = g.D.Disk.state c.power.new.self in
    let new : DiskState = g.D.Disk.state c.format-disk.result.0 in
    let fit : SizesFit old.size (record { blocks = old.size; slots = c.args.new.now.slots; ru_blocks = c.args.new.now.blocks }) = search rules in
    let counts : CountsDown c.in-Err-done.down mid new = search rules in
    format_fell c.args.new.now.name c.args.new.now.slots c.args.new.now.blocks has_parts old fit mid c.in_default.ensures.ok new c.in-Err-done.down counts
