use Rattle.std.proofs.Common.{ap, ◌∙◌}
use Rattle.std.specs.Prelude.{is_some}
use Rattle.std.specs.List.{position}
use Rattle.vms_base.specs.Ids.{serial_of}
use Rattle.recovery_units.specs.State.{is_begun}
use Rattle.node_units.specs.Tokens.{is_of}
use Rattle.node_units.proofs.TokenLemmas.{found_if}
use Rattle.node_units.proofs.units.NodeUnitsRecoveryUnits.has.Goals as goal

pub returns : goal.returns
returns c =
    let x = serial_of c.args.serial.now in
    c.is_some.ensures ∙ ap is_some (c.place_of.ensures ∙ ap (position (is_of x)) c.deref.ensures.value) ∙ found_if c.self.inside.begun.items c.self.inside.units c.self.inside.log x c.self.invariant.0 ∙ ap (is_begun x) c.self.view_is
