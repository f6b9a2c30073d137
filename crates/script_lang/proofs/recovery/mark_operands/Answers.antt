use Rattle.script_lang.proofs.ReadsLemmas.{missed, took}
use Rattle.script_lang.proofs.recovery.mark_operands.Goals as goal

pub returns-in-Whole : goal.returns-in-Whole
returns-in-Whole c = λ lit. rw c.in-Whole.is (c.ends.ensures lit)

pub returns-in_err-blocks-in-OfBlocks : goal.returns-in_err-blocks-in-OfBlocks
returns-in_err-blocks-in-OfBlocks c = λ lit. rw c.in-OfBlocks.is (missed c.number.ensures c.in_err-blocks-in-OfBlocks.was c.from_residual.ensures.1)

pub returns-in_ok-blocks-in-OfBlocks : goal.returns-in_ok-blocks-in-OfBlocks
returns-in_ok-blocks-in-OfBlocks c = λ lit. rw c.in-OfBlocks.is (took c.number.ensures c.in_ok-blocks-in-OfBlocks.was (c.ends-in-OfBlocks.ensures lit))
