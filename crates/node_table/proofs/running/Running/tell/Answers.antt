use Rattle.std.proofs.Common.{map, ap, refl, ◌∙◌}
use Rattle.tm_types.specs.Effects.{effect_of}
use Rattle.tm_types.specs.Events.{event_of}
use Rattle.vms_base.specs.Ids.{tid_of}
use Rattle.node_table.specs.Code.{stored_of, up_of}
use Rattle.node_table.specs.Standing.{Up}
use Rattle.node_table.proofs.Events.{event_keeps, event_rows, event_unit, told_as, told_early, told_may}
use Rattle.node_table.proofs.running.Running.tell.Goals as goal

pub begin-requires : goal.begin-requires
begin-requires g c = record { may = event_unit (event_of c.args.event.now) (up_of g.U.RecoveryUnits.state c.args.self.now) c.requires.up c.requires.allowed c.requires.told c.requires.fresh }

pub tell_all-requires-clause-may : goal.tell_all-requires-clause-may
tell_all-requires-clause-may g c = told_may (event_of c.args.event.now) (tid_of c.transaction-tid.result) (up_of g.U.RecoveryUnits.state c.args.self.now) c.requires.up c.requires.allowed c.requires.told c.requires.fresh c.transaction-tid.ensures _ _ (ap (map effect_of) c.items.ensures.value ∙ c.step.ensures.effects) c.begin.ensures

pub tell_all-requires-clause-early : goal.tell_all-requires-clause-early
tell_all-requires-clause-early g c = told_early (event_of c.args.event.now) (tid_of c.transaction-tid.result) (up_of g.U.RecoveryUnits.state c.args.self.now) c.requires.up c.requires.allowed c.requires.told c.requires.fresh c.transaction-tid.ensures c.requires.early _ c.begin.ensures

pub returns-clause-keeps : goal.returns-clause-keeps
returns-clause-keeps g c =
    let e = event_of c.args.event.now in
    let tid = tid_of c.transaction-tid.result in
    let old : Up = up_of g.U.RecoveryUnits.state c.args.self.now in
    let new : Up = record { stored = stored_of g.U.RecoveryUnits.state c.tell_all.new.self; tm = c.step.new.self; drawn = c.args.self.now.drawn; declared = c.args.self.now.managers } in
    event_keeps e tid old c.requires.up c.requires.allowed c.requires.told c.requires.fresh c.transaction-tid.ensures _ _ new _ _ _ _ c.step.ensures.table refl refl (told_as e tid old new _ _ _ _ _ _ _ _ (ap (map effect_of) c.items.ensures.value ∙ c.step.ensures.effects) c.begin.ensures c.tell_all.ensures.tells)

pub returns-clause-does : goal.returns-clause-does
returns-clause-does g c =
    let e = event_of c.args.event.now in
    let tid = tid_of c.transaction-tid.result in
    let old : Up = up_of g.U.RecoveryUnits.state c.args.self.now in
    let new : Up = record { stored = stored_of g.U.RecoveryUnits.state c.tell_all.new.self; tm = c.step.new.self; drawn = c.args.self.now.drawn; declared = c.args.self.now.managers } in
    event_rows e tid old c.requires.up c.requires.allowed c.requires.told c.requires.fresh c.transaction-tid.ensures _ _ new _ _ _ _ c.step.ensures.table refl refl (told_as e tid old new _ _ _ _ _ _ _ _ (ap (map effect_of) c.items.ensures.value ∙ c.step.ensures.effects) c.begin.ensures c.tell_all.ensures.tells) c.requires.laws
