-- What an aborted unit held is free.
use Rattle.vms_base.specs.Ids.{serial_of}
use Rattle.rms_units.proofs.Holding.{released_fits}
use Rattle.std.proofs.Common.{◌≡◌, Option, IsSome, sym, subst}
use Rattle.unit_table.specs.Units.{OpenUnit}
use Rattle.rms_units.specs.State.{UnitsState, unit_of}
use Rattle.key_changes.proofs.unit_cuts.Outcomes.{the_one}
use Rattle.rms_units.proofs.EndLemmas.{alike_aborted, ends_alike}
use Rattle.rms_units.proofs.units.Units.abort.Goals as goal

pub invariant_of-self : goal.invariant_of-self
invariant_of-self g c = released_fits (serial_of c.branch-branch.result.serial) c.self.inside.locks c.abort_branch.new.locks c.abort_branch.ensures.locks c.self.invariant.0 c.self.invariant.1

pub invariant_of-self-2 : goal.invariant_of-self-2
invariant_of-self-2 g c = released_fits (serial_of c.branch-branch.result.serial) c.self.inside.locks c.abort_branch.new.locks c.abort_branch.ensures.locks c.self.invariant.0 c.self.invariant.1

pub returns-clause-images : goal.returns-clause-images
returns-clause-images g c =
    let s : UnitsState = record { units = c.self.inside.table; locks = c.self.inside.locks.locks } in
    let same : unit_of c.unit.inside.place s ≡ unit_of c.args.unit c.args.self.now = λ i. unit_of (c.unit.view_is i) (c.self.view_is i) in
    let one = the_one (unit_of c.unit.inside.place s) (subst (λ (x : Option OpenUnit). IsSome x) (sym same) c.requires.unit) in
    let v = c.args.volume.now in
    let w = c.abort_branch.new.volume in
    ends_alike 1 c.args.clock.0 v w (alike_aborted _ v w (c.in-Ok.ensures.aborts one.0 one.1).aborts) c.abort_branch.ensures.grows
