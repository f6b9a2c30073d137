use Rattle.std.proofs.Common.{◌≡◌, Some, None}
use Rattle.volume_format.specs.declared.head.DirectoryEntry.TheVariants as entry
use Rattle.volume.proofs.Entries.{entry_found, entry_missed}
use Rattle.volume.proofs.load.entry_in.Goals as goal

pub returns-in-Some-Free-clause-some : goal.returns-in-Some-Free-clause-some
returns-in-Some-Free-clause-some c =
    let is : c.read_directory.result ≡ Some entry.Free = cc in
    entry_found c.args.greatest.0 c.args.heads.now c.args.f c.args.block.now c.read_directory.result None c.read_directory.ensures is tt tt

pub returns-then-suits-clause-some : goal.returns-then-suits-clause-some
returns-then-suits-clause-some c =
    let is : c.read_directory.result ≡ Some (entry.File c.in-Some-File.head) = cc in
    entry_found c.args.greatest.0 c.args.heads.now c.args.f c.args.block.now c.read_directory.result (Some c.in-Some-File.head) c.read_directory.ensures is
    (c.suits.ensures.fits c.if-suits.true)
    (c.suits.ensures.new c.if-suits.true)

pub returns-else-suits-clause-none : goal.returns-else-suits-clause-none
returns-else-suits-clause-none c =
    let is : c.read_directory.result ≡ Some (entry.File c.in-Some-File.head) = cc in
    entry_missed c.args.greatest.0 c.args.heads.now c.args.f c.args.block.now c.read_directory.result c.in-Some-File.head c.read_directory.ensures is (c.suits.ensures.no c.if-suits.false)
