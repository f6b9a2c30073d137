use Rattle.recovery_laws.proofs.RowLemmas.{five_puts_fill, images_are_kept, new_journal_is_short, ring_is_full}
use Rattle.recovery_laws.proofs.worked_scripts.Goals as goal

pub returns-clause-images : goal.returns-clause-images
returns-clause-images c = images_are_kept

pub returns-clause-short : goal.returns-clause-short
returns-clause-short c = new_journal_is_short

pub returns-clause-full : goal.returns-clause-full
returns-clause-full c = ring_is_full

pub returns-clause-filled : goal.returns-clause-filled
returns-clause-filled c = five_puts_fill
