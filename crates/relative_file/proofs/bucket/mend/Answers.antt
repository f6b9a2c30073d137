use Rattle.std.proofs.Common.{◌*◌, ◌∙◌, sym, arith, rules}
use Rattle.relative_file.proofs.ReadLaws.{read_as_is, read_empty}
use Rattle.relative_file.proofs.bucket.mend.Goals as goal

pub returns-then-not-has_front : goal.returns-then-not-has_front
returns-then-not-has_front c =
    c.fill_empty.ensures
    ∙ sym (read_empty c.args.head.now c.args.bytes.now (512 * c.args.head.now.bucket) (omega (arith, c.requires.one)) (λ is. let yes = c.has_front.ensures.1 is in search (rules, yes)))

pub returns-else-not-has_front : goal.returns-else-not-has_front
returns-else-not-has_front c =
    sym (read_as_is c.args.head.now c.args.bytes.now (512 * c.args.head.now.bucket) (omega (arith, c.requires.one)) (c.has_front.ensures.0 (search rules)))
