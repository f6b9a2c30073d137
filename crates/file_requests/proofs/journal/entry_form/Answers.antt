use Rattle.std.proofs.Common.{◌∙◌}
use Rattle.std.specs.Option.{option_copied}
use Rattle.file_requests.proofs.EntryShown.{change_is}
use Rattle.file_requests.proofs.journal.entry_form.Goals as goal

pub returns-in-Change-clause-shows : goal.returns-in-Change-clause-shows
returns-in-Change-clause-shows g c = λ e f file same showable.
    let v = c.args.stored.now.volume.catalog in
    c.change_form.ensures.line ∙ change_is v.heads v.home.greatest_moment.0 c.args.position c.args.entry.now c.args.stored.now.room.found (option_copied c.head.result) e f c.in-Change.is c.head.ensures.value file same showable c.requires.is
