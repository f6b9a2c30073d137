use Rattle.std.proofs.Common.{ap, arith}
use Rattle.bucket_page.specs.declared.kind.PageKind.{PageKind}
use Rattle.bucket_page.specs.Pages.{slots_of, reach}
use Rattle.bucket_page.proofs.PageLaws.{reach_within}
use Rattle.indexed_file.specs.Chain.{kind_of}
use Rattle.indexed_file.proofs.parts.start_at.Goals as goal

pub overflow_cast-result : goal.overflow_cast-result
overflow_cast-result c =
    let s = slots_of (kind_of c.args.head.now) c.args.bytes.now in
    omega (arith, c.slot_start.ensures, ap (λ (k : PageKind). reach (slots_of k c.args.bytes.now) c.args.j) c.kind.ensures, reach_within s c.args.j, c.requires.packed.fits, c.requires.small)

pub returns-clause-within : goal.returns-clause-within
returns-clause-within c =
    let s = slots_of (kind_of c.args.head.now) c.args.bytes.now in
    omega (arith, c.slot_start.ensures, ap (λ (k : PageKind). reach (slots_of k c.args.bytes.now) c.args.j) c.kind.ensures, reach_within s c.args.j, c.requires.packed.fits, c.requires.small)
