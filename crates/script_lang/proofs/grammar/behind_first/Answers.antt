use Rattle.script_lang.proofs.grammar.behind_first.Goals as goal

pub returns-in-ToWorld : goal.returns-in-ToWorld
returns-in-ToWorld c = rw c.in-ToWorld.is (c.world_operands.ensures c.args.lit.now)
