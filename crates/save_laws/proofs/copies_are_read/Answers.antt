use Rattle.save_laws.proofs.Copies as laws
use Rattle.save_laws.proofs.copies_are_read.Goals as goal

pub returns-clause-copies : goal.returns-clause-copies
returns-clause-copies c = laws.copies_read

pub returns-clause-saves : goal.returns-clause-saves
returns-clause-saves c = laws.saves_read

pub returns-clause-stay : goal.returns-clause-stay
returns-clause-stay c = laws.saves_stay
