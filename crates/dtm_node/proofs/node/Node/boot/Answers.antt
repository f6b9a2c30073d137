use Rattle.std.proofs.Common.{[], false, refl, subst, sym, true, ℕ, ◌∙◌, ◌∷◌}
use Rattle.script_lang.specs.script_model.Statements.{Boot}
use Rattle.world_laws.specs.run_model.Answers.{Serves}
use Rattle.emitter_model.specs.Emitting.{Emits}
use Rattle.emitter_model.specs.transcript_model.Lines.{NormalCount}
use Rattle.dtm_node.specs.Nodes.{kept_of}
use Rattle.dtm_node.proofs.Going.{later_keeps}
use Rattle.dtm_node.proofs.Boots.{boot_at_up, boot_performs, boot_tells, boot_unmade}
use Rattle.dtm_node.proofs.node.Node.boot.Goals as goal

pub returns-then-is_up-clause-tells : goal.returns-then-is_up-clause-tells
returns-then-is_up-clause-tells g c = (true, (boot_at_up (kept_of g.D.Disk.state g.U.RecoveryUnits.state c.args.self.now) c.args.shared.now _ _ (sym c.is_up.ensures ∙ c.if-is_up.true) c.emit.ensures.emits).0)

pub returns-then-is_up-clause-performs : goal.returns-then-is_up-clause-performs
returns-then-is_up-clause-performs g c = (boot_at_up (kept_of g.D.Disk.state g.U.RecoveryUnits.state c.args.self.now) c.args.shared.now _ _ (sym c.is_up.ensures ∙ c.if-is_up.true) c.emit.ensures.emits).1

pub returns-then-self-clause-tells : goal.returns-then-self-clause-tells
returns-then-self-clause-tells g c = (true, (boot_unmade (kept_of g.D.Disk.state g.U.RecoveryUnits.state c.args.self.now) c.args.shared.now _ _ (sym c.is_up.ensures ∙ c.if-is_up.false) c.if-self.true c.emit-then-self.ensures.emits).0)

pub returns-then-self-clause-performs : goal.returns-then-self-clause-performs
returns-then-self-clause-performs g c = (boot_unmade (kept_of g.D.Disk.state g.U.RecoveryUnits.state c.args.self.now) c.args.shared.now _ _ (sym c.is_up.ensures ∙ c.if-is_up.false) c.if-self.true c.emit-then-self.ensures.emits).1

pub returns-in-Some-clause-keeps : goal.returns-in-Some-clause-keeps
returns-in-Some-clause-keeps g c = later_keeps g.D.Disk.state g.U.RecoveryUnits.state _ _ _ _ c.in-Some.ensures.keeps

pub returns-in_default-clause-keeps : goal.returns-in_default-clause-keeps
returns-in_default-clause-keeps g c = later_keeps g.D.Disk.state g.U.RecoveryUnits.state _ _ _ _ c.in_default.ensures.keeps

pub returns-in-Some-clause-tells : goal.returns-in-Some-clause-tells
returns-in-Some-clause-tells g c = (
  false,
  boot_tells (kept_of g.D.Disk.state g.U.RecoveryUnits.state c.args.self.now) c.args.shared.now c.in-Some.boot _ (g.E.Emit.shows c.come_up.new.out) (g.E.Emit.shows c.emit-in-Some.new.self) (kept_of g.D.Disk.state g.U.RecoveryUnits.state c.come_up.new.self) c.come_up.new.shared c.in-Some.ensures.comes c.if-self.false (sym c.is_up.ensures ∙ c.if-is_up.false)
      (subst (λ (n : ℕ). Emits (g.E.Emit.shows c.come_up.new.out) (NormalCount n ∷ []) (g.E.Emit.shows c.emit-in-Some.new.self)) c.from.ensures c.emit-in-Some.ensures.emits),
)

pub returns-in-Some-clause-performs : goal.returns-in-Some-clause-performs
returns-in-Some-clause-performs g c =
    boot_performs (kept_of g.D.Disk.state g.U.RecoveryUnits.state c.args.self.now) c.args.shared.now c.in-Some.boot _ (g.E.Emit.shows c.come_up.new.out) (g.E.Emit.shows c.emit-in-Some.new.self) (kept_of g.D.Disk.state g.U.RecoveryUnits.state c.come_up.new.self) c.come_up.new.shared c.in-Some.ensures.comes c.if-self.false (sym c.is_up.ensures ∙ c.if-is_up.false)
    (subst (λ (n : ℕ). Emits (g.E.Emit.shows c.come_up.new.out) (NormalCount n ∷ []) (g.E.Emit.shows c.emit-in-Some.new.self)) c.from.ensures c.emit-in-Some.ensures.emits)

pub returns-in_default-clause-tells : goal.returns-in_default-clause-tells
returns-in_default-clause-tells g c = (true, (c.in_default.ensures.comes (Serves Boot) refl (λ e. (let f : ⊥ = cc in absurd f))).0)

pub returns-in_default-clause-performs : goal.returns-in_default-clause-performs
returns-in_default-clause-performs g c = λ log n w h share kept promised. (true, (c.in_default.ensures.comes (Serves Boot) refl (λ e. (let f : ⊥ = cc in absurd f))).1 log n w h share kept promised)
