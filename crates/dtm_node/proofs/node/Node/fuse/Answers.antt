use Rattle.std.proofs.Common.{false, refl, subst, sym, true}
use Rattle.script_lang.specs.script_model.Statements.{Fuse}
use Rattle.world_laws.specs.run_model.Answers.{Serves}
use Rattle.node_requests.specs.node_standing.Keeping.{PerformsRequest}
use Rattle.dtm_node.specs.Nodes.{kept_of}
use Rattle.node_requests.specs.node_standing.Standing.{Place}
use Rattle.node_requests.specs.node_standing.Telling.{TellsTask}
use Rattle.dtm_node.proofs.Arming.{fuse_performs, fuse_tells}
use Rattle.dtm_node.proofs.NodePlaces.{armed_node}
use Rattle.dtm_node.proofs.node.Node.fuse.Goals as goal

pub returns-clause-tells : goal.returns-clause-tells
returns-clause-tells g c =
    let k = kept_of g.D.Disk.state g.U.RecoveryUnits.state c.args.self.now in (
      false,
      subst (λ (p : Place). TellsTask (Serves (Fuse c.args.writes c.args.choice)) true false k c.args.shared.now (g.E.Emit.shows c.args.out.now) (g.E.Emit.shows c.emit.new.self) (record k { place = p }) c.args.shared.now) (sym c.arm.ensures.place) (fuse_tells c.args.writes c.args.choice k c.args.shared.now _ _ c.emit.ensures.emits),
    )

pub returns-clause-performs : goal.returns-clause-performs
returns-clause-performs g c =
    let k = kept_of g.D.Disk.state g.U.RecoveryUnits.state c.args.self.now in
    subst (λ (p : Place). PerformsRequest (Fuse c.args.writes c.args.choice) k c.args.shared.now (g.E.Emit.shows c.args.out.now) (g.E.Emit.shows c.emit.new.self) (record k { place = p }) c.args.shared.now) (sym c.arm.ensures.place) (fuse_performs c.args.writes c.args.choice k c.args.shared.now _ _ c.emit.ensures.emits c.the_laws.ensures.nodes)

pub returns-clause-keeps : goal.returns-clause-keeps
returns-clause-keeps g c = record {
  name = refl;
  clock = refl;
  in_use = λ used. used;
  node = λ count h. armed_node g.D.Disk.state g.U.RecoveryUnits.state c.arm.new.place c.args.self.now c.arm.ensures.kept count c.args.shared.now h;
}
