use Rattle.volume_format.proofs.Heads.{same_save}
use Rattle.volume_format.proofs.head.save_at.Goals as goal

pub returns : goal.returns
returns c = λ save is all.
    same_save save _ _ _ _ _ _ _ _
    (c.number_32.ensures save.start is.start all.0)
    (c.number_32-2.ensures save.alloc is.alloc all.1.0)
    (c.number_64.ensures.value save.position is.position all.1.1.0)
    (c.number_64-2.ensures.value save.moment.0 is.moment all.1.1.1.0)
    (c.number_32-3.ensures save.used is.used all.1.1.1.1.0)
    (c.number_32-4.ensures save.root is.root all.1.1.1.1.1.0)
    (c.number_32-5.ensures save.levels is.levels all.1.1.1.1.1.1.0)
    (c.number_32-6.ensures save.count is.count all.1.1.1.1.1.1.1.0)
