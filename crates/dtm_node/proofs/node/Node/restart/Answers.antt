use Rattle.std.proofs.Common.{List, [], refl, subst, ℕ, ◌∷◌}
use Rattle.world_laws.specs.run_model.Answers.{Restarts}
use Rattle.emitter_model.specs.Emitting.{Emits}
use Rattle.emitter_model.specs.transcript_model.Lines.{Booted}
use Rattle.dtm_node.specs.Nodes.{kept_of}
use Rattle.dtm_node.proofs.Boots.{restart_performs, restart_tells, restart_unmade}
use Rattle.dtm_node.proofs.node.Node.restart.Goals as goal

pub returns-then-self-clause-tells : goal.returns-then-self-clause-tells
returns-then-self-clause-tells g c = (restart_unmade (kept_of g.D.Disk.state g.U.RecoveryUnits.state c.args.self.now) c.args.shared.now _ _ c.requires.down c.if-self.true c.emit.ensures.emits).0

pub returns-then-self-clause-performs : goal.returns-then-self-clause-performs
returns-then-self-clause-performs g c = (restart_unmade (kept_of g.D.Disk.state g.U.RecoveryUnits.state c.args.self.now) c.args.shared.now _ _ c.requires.down c.if-self.true c.emit.ensures.emits).1

pub returns-in-Some-clause-tells : goal.returns-in-Some-clause-tells
returns-in-Some-clause-tells g c =
    restart_tells (kept_of g.D.Disk.state g.U.RecoveryUnits.state c.args.self.now) c.args.shared.now c.in-Some.boot _ (g.E.Emit.shows c.come_up.new.out) (g.E.Emit.shows c.emit-in-Some.new.self) (kept_of g.D.Disk.state g.U.RecoveryUnits.state c.come_up.new.self) c.come_up.new.shared c.in-Some.ensures.comes c.if-self.false c.requires.down
    (subst (λ (name : List ℕ). Emits (g.E.Emit.shows c.come_up.new.out) (Booted name c.in-Some.boot ∷ []) (g.E.Emit.shows c.emit-in-Some.new.self)) c.come_up.ensures.keeps.name c.emit-in-Some.ensures.emits) c.requires.used

pub returns-in-Some-clause-performs : goal.returns-in-Some-clause-performs
returns-in-Some-clause-performs g c =
    restart_performs (kept_of g.D.Disk.state g.U.RecoveryUnits.state c.args.self.now) c.args.shared.now c.in-Some.boot _ (g.E.Emit.shows c.come_up.new.out) (g.E.Emit.shows c.emit-in-Some.new.self) (kept_of g.D.Disk.state g.U.RecoveryUnits.state c.come_up.new.self) c.come_up.new.shared c.in-Some.ensures.comes c.if-self.false c.requires.down
    (subst (λ (name : List ℕ). Emits (g.E.Emit.shows c.come_up.new.out) (Booted name c.in-Some.boot ∷ []) (g.E.Emit.shows c.emit-in-Some.new.self)) c.come_up.ensures.keeps.name c.emit-in-Some.ensures.emits)

pub returns-in-None-clause-tells : goal.returns-in-None-clause-tells
returns-in-None-clause-tells g c = (c.in-None.ensures.comes Restarts refl (λ e. c.requires.used)).0

pub returns-in-None-clause-performs : goal.returns-in-None-clause-performs
returns-in-None-clause-performs g c = (c.in-None.ensures.comes Restarts refl (λ e. c.requires.used)).1
