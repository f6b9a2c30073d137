use Rattle.std.proofs.Common.{◌-◌, arith}
use Rattle.bucket_page.specs.declared.kind.PageKind.TheVariants.{Seq}
use Rattle.bucket_page.specs.Pages.{slots_of}
use Rattle.seq_file.proofs.FrameSteps.{last_ends}
use Rattle.seq_file.proofs.bucket.end_of.Goals as goal

pub returns : goal.returns
returns c = omega (arith, c.place-first.ensures.first, c.place-first.ensures.size, last_ends (slots_of Seq c.args.bucket.now) (c.args.count - 1) (omega (arith, c.requires.number)))
