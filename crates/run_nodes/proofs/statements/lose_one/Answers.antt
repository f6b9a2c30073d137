use Rattle.said_steps.specs.run_model.Answers.{LosesLink}
use Rattle.run_nodes.proofs.Turns.{down_turn}
use Rattle.run_nodes.proofs.statements.lose_one.Goals as goal

pub returns-else-is_up-clause-does : goal.returns-else-is_up-clause-does
returns-else-is_up-clause-does g c = down_turn g.D.Disk.state g.U.RecoveryUnits.state c.args.nodes.now.nodes.entries c.args.place (LosesLink c.args.other) c.args.shared.now (g.E.Emit.shows c.args.out.now) c.is_up.result c.requires.there c.is_up.ensures c.if-is_up.false
