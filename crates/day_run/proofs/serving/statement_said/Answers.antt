use Rattle.day_run.proofs.Reading.{not_bad, not_skipped, read_bad, read_blank, read_says}
use Rattle.day_run.proofs.serving.statement_said.Goals as goal

pub unreachable-requires : goal.unreachable-requires
unreachable-requires c =
    let none = c.in-Ok-None in
    not_skipped c.args.text.now c.requires.says.0 c.requires.says.1 (read_blank c.read_statement.new.lit none.field-0 _ _ none.field-0-is c.bytes.ensures.value none.ensures)

pub unreachable-requires-in-Err : goal.unreachable-requires-in-Err
unreachable-requires-in-Err c = not_bad c.args.text.now c.requires.says.0 _ c.requires.says.1 (read_bad _ _ _ c.bytes.ensures.value c.in-Err.ensures)

pub returns : goal.returns
returns c =
    let some = c.in-Ok-Some in
    read_says c.read_statement.new.lit some.field-0 some.statement _ _ some.field-0-is c.bytes.ensures.value some.ensures
