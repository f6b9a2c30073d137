use Rattle.volume_format.proofs.Heads.{same_span}
use Rattle.volume_format.proofs.head.span_at.Goals as goal

pub returns : goal.returns
returns c = λ span is all.
    same_span span _ _ _ _
    (c.number_32.ensures span.start is.start all.0)
    (c.number_32-2.ensures span.blocks is.blocks all.1.0)
    (c.number_64.ensures.value span.first is.first all.1.1.0)
    (c.number_64-2.ensures.value span.end is.end all.1.1.1.0)
