use Rattle.std.proofs.Common.{◌∙◌, drop, ap, arith}
use Rattle.seq_file.proofs.FrameSteps.{behind_length}
use Rattle.seq_file.proofs.bucket.read_slot.Goals as goal

pub returns-clause-read : goal.returns-clause-read
returns-clause-read c = λ is.
    c.set.ensures ∙ behind_length c.args.bucket.now c.place-first.result.0 c.place-first.result.1 (omega arith) ∙ ap (drop 2) c.place-first.ensures.slot
