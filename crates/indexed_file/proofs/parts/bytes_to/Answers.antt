use Rattle.bucket_page.specs.Pages.{slots_of}
use Rattle.indexed_file.specs.Chain.{kind_of}
use Rattle.indexed_file.proofs.PlaceLaws.{bytes_below, bytes_above}
use Rattle.indexed_file.proofs.parts.bytes_to.Goals as goal

pub returns-then-j-i-clause-is : goal.returns-then-j-i-clause-is
returns-then-j-i-clause-is c =
    bytes_below c.args.head.now (slots_of (kind_of c.args.head.now) c.args.bytes.now) c.args.i c.args.j c.start_at.result c.args.slot.now c.requires.packed.suit c.requires.suits c.if-j-i.true c.requires.place c.start_at.ensures.start

pub returns-clause-is : goal.returns-clause-is
returns-clause-is c =
    bytes_above c.args.head.now (slots_of (kind_of c.args.head.now) c.args.bytes.now) c.args.i c.args.j c.start_at-2.result c.args.slot.now c.requires.packed.suit c.requires.suits c.if-j-i.false c.requires.there c.start_at-2.ensures.start
