use Rattle.std.proofs.Common.{sym, ◌∙◌, ap, option_map}
use Rattle.volume_format.specs.declared.head.DirectoryEntry.TheVariants as entry
use Rattle.volume_format.proofs.Heads.{entry_first, first_byte, free_read, file_read}
use Rattle.volume_format.proofs.head.entry_at.Goals as goal

pub returns-then-number_8-eq0 : goal.returns-then-number_8-eq0
returns-then-number_8-eq0 c = λ e is has. free_read e _ (c.number_8.ensures (first_byte e) (entry_first e c.args.block.now is has)) c.if-number_8-eq0.true

pub returns-in-Some : goal.returns-in-Some
returns-in-Some c = λ e is has.
    sym (ap (option_map entry.File) c.in-Some.is) ∙ file_read e c.args.block.now _ _ is has (c.number_8.ensures (first_byte e) (entry_first e c.args.block.now is has)) c.if-number_8-eq0.false c.head_at.ensures

pub returns-in-None : goal.returns-in-None
returns-in-None c = λ e is has.
    sym (ap (option_map entry.File) c.in-None.is) ∙ file_read e c.args.block.now _ _ is has (c.number_8.ensures (first_byte e) (entry_first e c.args.block.now is has)) c.if-number_8-eq0.false c.head_at.ensures
