use Rattle.script_lang.proofs.world.world_operands.Goals as goal

pub returns-in-Fuse : goal.returns-in-Fuse
returns-in-Fuse c = λ lit. rw c.in-Fuse.is (c.fuse.ensures lit)

pub returns-in-Crash : goal.returns-in-Crash
returns-in-Crash c = λ lit. rw c.in-Crash.is (c.crash.ensures lit)

pub returns-in-Clock : goal.returns-in-Clock
returns-in-Clock c = λ lit. rw c.in-Clock.is (c.clock.ensures lit)

pub returns-in-Deliver : goal.returns-in-Deliver
returns-in-Deliver c = λ lit. rw c.in-Deliver.is (c.deliver.ensures lit)

pub returns-in-LinkDown : goal.returns-in-LinkDown
returns-in-LinkDown c = λ lit. rw c.in-LinkDown.is (c.link_down.ensures lit)

pub returns-in-Settle : goal.returns-in-Settle
returns-in-Settle c = λ lit. rw c.in-Settle.is (c.settle.ensures lit)
