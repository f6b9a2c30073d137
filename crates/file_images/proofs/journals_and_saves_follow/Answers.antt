use Rattle.file_images.proofs.Forms as forms
use Rattle.file_images.proofs.Sides as laws
use Rattle.file_images.proofs.journals_and_saves_follow.Goals as goal

pub returns-clause-sides : goal.returns-clause-sides
returns-clause-sides c = laws.sides_follow

pub returns-clause-forms : goal.returns-clause-forms
returns-clause-forms c = record { by_form = forms.suited_by_form; by_head = forms.suited_by_head }

pub returns-clause-saves : goal.returns-clause-saves
returns-clause-saves c = laws.saves_follow
