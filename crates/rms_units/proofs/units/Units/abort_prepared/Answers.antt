-- What an aborted unit held is free, also where the disk went down.
use Rattle.std.proofs.Common.{◌≡◌, ◌∙◌, ℕ, Some, subst, Option, IsSome, sym}
use Rattle.vms_base.specs.Ids.{serial_of}
use Rattle.rms_units.specs.State.{UnitsState, unit_of}
use Rattle.rms_units.specs.Voting.{AbortsPreparedNot}
use Rattle.rms_units.proofs.Holding.{released_fits}
use Rattle.unit_table.specs.Units.{OpenUnit}
use Rattle.key_changes.proofs.unit_cuts.Outcomes.{the_one}
use Rattle.rms_units.proofs.EndLemmas.{alike_aborted_logged, ends_alike}
use Rattle.rms_units.proofs.units.Units.abort_prepared.Goals as goal

pub invariant_of-self : goal.invariant_of-self
invariant_of-self g c = released_fits (serial_of c.branch-branch.result.serial) c.self.inside.locks c.abort_prepared.new.locks c.abort_prepared.ensures.locks c.self.invariant.0 c.self.invariant.1

pub invariant_of-self-2 : goal.invariant_of-self-2
invariant_of-self-2 g c = released_fits (serial_of c.branch-branch.result.serial) c.self.inside.locks c.abort_prepared.new.locks c.abort_prepared.ensures.locks c.self.invariant.0 c.self.invariant.1

pub returns-in-Err-clause-err : goal.returns-in-Err-clause-err
returns-in-Err-clause-err g c = λ u at.
    let s : UnitsState = record { units = c.self.inside.table; locks = c.self.inside.locks.locks } in
    let t : UnitsState = record { units = c.abort_prepared.new.table; locks = c.abort_prepared.new.locks.locks } in
    let there : unit_of c.unit.inside.place s ≡ Some u = (λ i. unit_of (c.unit.view_is i) (c.self.view_is i)) ∙ at in
    subst (λ (x : UnitsState). AbortsPreparedNot c.args.unit u c.args.reason c.args.clock.0 x c.args.log.now c.args.volume.now t c.abort_prepared.new.log c.abort_prepared.new.volume) c.self.view_is
    (subst (λ (p : ℕ). AbortsPreparedNot p u c.args.reason c.args.clock.0 s c.args.log.now c.args.volume.now t c.abort_prepared.new.log c.abort_prepared.new.volume) c.unit.view_is (c.in-Err.ensures.breaks u there))

pub returns-clause-images : goal.returns-clause-images
returns-clause-images g c =
    let s : UnitsState = record { units = c.self.inside.table; locks = c.self.inside.locks.locks } in
    let same : unit_of c.unit.inside.place s ≡ unit_of c.args.unit c.args.self.now = λ i. unit_of (c.unit.view_is i) (c.self.view_is i) in
    let one = the_one (unit_of c.unit.inside.place s) (subst (λ (x : Option OpenUnit). IsSome x) (sym same) c.requires.unit) in
    let v = c.args.volume.now in
    let w = c.abort_prepared.new.volume in
    ends_alike 1 c.args.clock.0 v w (alike_aborted_logged _ _ _ v w (c.in-Ok.ensures.aborts one.0 one.1).aborts) c.abort_prepared.ensures.grows
