use Rattle.std.proofs.Common.{sym, arith}
use Rattle.careful_write.proofs.Intents.{word_behind}
use Rattle.careful_write.proofs.group.index_word_of.Goals as goal

pub returns-then-w-len : goal.returns-then-w-len
returns-then-w-len c = sym (word_behind c.args.group.now.entries c.args.w (omega arith))
