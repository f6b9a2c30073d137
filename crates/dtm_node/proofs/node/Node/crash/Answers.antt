use Rattle.std.proofs.Common.{refl, sym, true, ◌∙◌}
use Rattle.dtm_node.specs.Nodes.{kept_of}
use Rattle.dtm_node.proofs.NodeCrash.{crashes, crashes_tell}
use Rattle.dtm_node.proofs.NodePlaces.{fallen_node}
use Rattle.dtm_node.proofs.Going.{same_keeps}
use Rattle.dtm_node.proofs.Simple.{crash_down_performs, crash_down_tells}
use Rattle.dtm_node.proofs.node.Node.crash.Goals as goal

pub returns-then-not-is_up-clause-tells : goal.returns-then-not-is_up-clause-tells
returns-then-not-is_up-clause-tells g c = (true, crash_down_tells (kept_of g.D.Disk.state g.U.RecoveryUnits.state c.args.self.now) c.args.shared.now _ _ (sym c.is_up.ensures ∙ c.if-not-is_up.true) c.emit.ensures.emits)

pub returns-then-not-is_up-clause-performs : goal.returns-then-not-is_up-clause-performs
returns-then-not-is_up-clause-performs g c = crash_down_performs (kept_of g.D.Disk.state g.U.RecoveryUnits.state c.args.self.now) c.args.shared.now _ _ (sym c.is_up.ensures ∙ c.if-not-is_up.true) c.emit.ensures.emits

pub returns-clause-tells : goal.returns-clause-tells
returns-clause-tells g c = crashes_tell g.D.Disk.state g.U.RecoveryUnits.state c.args.self.now c.args.shared.now c.requires.node (sym c.is_up.ensures ∙ c.if-not-is_up.false) _ _ _ c.replace_with.new.dest c.replace_with.ensures.0 c.emit-2.ensures.emits c.emit-3.ensures.emits

pub returns-clause-performs : goal.returns-clause-performs
returns-clause-performs g c = crashes g.D.Disk.state g.U.RecoveryUnits.state c.args.self.now c.args.shared.now c.requires.node (sym c.is_up.ensures ∙ c.if-not-is_up.false) _ _ _ c.replace_with.new.dest c.replace_with.ensures.0 c.emit-2.ensures.emits c.emit-3.ensures.emits c.the_laws.ensures.nodes

pub returns-then-not-is_up-clause-keeps : goal.returns-then-not-is_up-clause-keeps
returns-then-not-is_up-clause-keeps g c = same_keeps g.D.Disk.state g.U.RecoveryUnits.state c.args.shared.now c.args.self.now

pub returns-clause-keeps : goal.returns-clause-keeps
returns-clause-keeps g c = record {
  name = refl;
  clock = refl;
  in_use = λ used. used;
  node = λ count h. fallen_node g.D.Disk.state g.U.RecoveryUnits.state c.replace_with.new.dest count c.args.shared.now c.args.self.now c.replace_with.ensures.1 h;
}
