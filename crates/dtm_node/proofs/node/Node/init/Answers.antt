use Rattle.std.proofs.Common.{false, sym, true, ◌∙◌}
use Rattle.dtm_node.specs.declared.node.Formatted.TheVariants as formatted
use Rattle.dtm_node.specs.Nodes.{kept_of, place_of}
use Rattle.dtm_node.proofs.Formatting.{init_at, init_in_use}
use Rattle.dtm_node.proofs.node.Node.init.Goals as goal

pub returns-then-is_in_use-clause-tells : goal.returns-then-is_in_use-clause-tells
returns-then-is_in_use-clause-tells g c = (true, (init_in_use c.args.slots c.args.blocks (kept_of g.D.Disk.state g.U.RecoveryUnits.state c.args.self.now) c.args.shared.now _ _ (sym c.is_in_use.ensures ∙ c.if-is_in_use.true) c.emit.ensures.emits).0)

pub returns-then-is_in_use-clause-performs : goal.returns-then-is_in_use-clause-performs
returns-then-is_in_use-clause-performs g c = (init_in_use c.args.slots c.args.blocks (kept_of g.D.Disk.state g.U.RecoveryUnits.state c.args.self.now) c.args.shared.now _ _ (sym c.is_in_use.ensures ∙ c.if-is_in_use.true) c.emit.ensures.emits).1

pub returns-in-Refused-clause-tells : goal.returns-in-Refused-clause-tells
returns-in-Refused-clause-tells g c = (true, (init_at c.args.slots c.args.blocks (kept_of g.D.Disk.state g.U.RecoveryUnits.state c.args.self.now) formatted.Refused (place_of g.D.Disk.state g.U.RecoveryUnits.state c.replace_with.new.dest) c.in-Refused.ensures.1 c.args.shared.now (sym c.is_in_use.ensures ∙ c.if-is_in_use.false) _ _ c.emit-in-Refused.ensures.emits).0)

pub returns-in-Refused-clause-performs : goal.returns-in-Refused-clause-performs
returns-in-Refused-clause-performs g c = (init_at c.args.slots c.args.blocks (kept_of g.D.Disk.state g.U.RecoveryUnits.state c.args.self.now) formatted.Refused (place_of g.D.Disk.state g.U.RecoveryUnits.state c.replace_with.new.dest) c.in-Refused.ensures.1 c.args.shared.now (sym c.is_in_use.ensures ∙ c.if-is_in_use.false) _ _ c.emit-in-Refused.ensures.emits).1

pub returns-in-Made-clause-tells : goal.returns-in-Made-clause-tells
returns-in-Made-clause-tells g c = (false, (init_at c.args.slots c.args.blocks (kept_of g.D.Disk.state g.U.RecoveryUnits.state c.args.self.now) formatted.Made (place_of g.D.Disk.state g.U.RecoveryUnits.state c.replace_with.new.dest) c.in-Made.ensures.1 c.args.shared.now (sym c.is_in_use.ensures ∙ c.if-is_in_use.false) _ _ c.emit-in-Made.ensures.emits).0)

pub returns-in-Made-clause-performs : goal.returns-in-Made-clause-performs
returns-in-Made-clause-performs g c = (init_at c.args.slots c.args.blocks (kept_of g.D.Disk.state g.U.RecoveryUnits.state c.args.self.now) formatted.Made (place_of g.D.Disk.state g.U.RecoveryUnits.state c.replace_with.new.dest) c.in-Made.ensures.1 c.args.shared.now (sym c.is_in_use.ensures ∙ c.if-is_in_use.false) _ _ c.emit-in-Made.ensures.emits).1

pub returns-in-Failed-clause-tells : goal.returns-in-Failed-clause-tells
returns-in-Failed-clause-tells g c = (true, (init_at c.args.slots c.args.blocks (kept_of g.D.Disk.state g.U.RecoveryUnits.state c.args.self.now) (formatted.Failed c.in-Failed.down) (place_of g.D.Disk.state g.U.RecoveryUnits.state c.replace_with.new.dest) c.in-Failed.ensures.1 c.args.shared.now (sym c.is_in_use.ensures ∙ c.if-is_in_use.false) _ _ c.show_fall.ensures.shows).0)

pub returns-in-Failed-clause-performs : goal.returns-in-Failed-clause-performs
returns-in-Failed-clause-performs g c = (init_at c.args.slots c.args.blocks (kept_of g.D.Disk.state g.U.RecoveryUnits.state c.args.self.now) (formatted.Failed c.in-Failed.down) (place_of g.D.Disk.state g.U.RecoveryUnits.state c.replace_with.new.dest) c.in-Failed.ensures.1 c.args.shared.now (sym c.is_in_use.ensures ∙ c.if-is_in_use.false) _ _ c.show_fall.ensures.shows).1
