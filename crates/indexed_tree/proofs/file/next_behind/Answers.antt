use Rattle.std.specs.Option.{option_copied}
use Rattle.indexed_tree.proofs.FileLaws.{next_told, ends_told}
use Rattle.indexed_tree.proofs.file.next_behind.Goals as goal

pub returns-in-Ok-Some-clause-found : goal.returns-in-Ok-Some-clause-found
returns-in-Ok-Some-clause-found g c = λ is.
    let found = rw c.in-Ok-Some.field-0-is at c.in-Ok-Some.ensures.found in
    next_told c.args.store.now.current c.args.head.now (option_copied c.args.after) c.in-Ok-Some.key c.next_key.new.out found

pub returns-in-Ok-None-clause-none : goal.returns-in-Ok-None-clause-none
returns-in-Ok-None-clause-none g c = λ is.
    let none = rw c.in-Ok-None.field-0-is at c.in-Ok-None.ensures.none in
    ends_told c.args.store.now.current c.args.head.now (option_copied c.args.after) none
