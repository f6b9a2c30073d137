-- What a unit held that is no more is free, and a prepared one holds what it held.
use Rattle.std.proofs.Common.{◌≡◌, ◌∙◌, ℕ, Some, subst, Option, IsSome, sym}
use Rattle.vms_base.specs.Ids.{serial_of}
use Rattle.rms_units.specs.State.{UnitsState, unit_of}
use Rattle.rms_units.specs.Voting.{VotesNot}
use Rattle.rms_units.proofs.Holding.{kept_fits}
use Rattle.unit_table.specs.Units.{OpenUnit}
use Rattle.key_changes.proofs.unit_cuts.Outcomes.{the_one}
use Rattle.rms_units.proofs.EndLemmas.{ends_voted}
use Rattle.rms_units.proofs.units.Units.prepare.Goals as goal

pub invariant_of-self : goal.invariant_of-self
invariant_of-self g c = kept_fits (serial_of c.branch-branch.result.serial) c.self.inside.locks c.vote.new.locks c.vote.ensures.locks c.self.invariant.0 c.self.invariant.1

pub invariant_of-self-2 : goal.invariant_of-self-2
invariant_of-self-2 g c = kept_fits (serial_of c.branch-branch.result.serial) c.self.inside.locks c.vote.new.locks c.vote.ensures.locks c.self.invariant.0 c.self.invariant.1

pub returns-in-Err-clause-err : goal.returns-in-Err-clause-err
returns-in-Err-clause-err g c = λ u at.
    let s : UnitsState = record { units = c.self.inside.table; locks = c.self.inside.locks.locks } in
    let t : UnitsState = record { units = c.vote.new.table; locks = c.vote.new.locks.locks } in
    let there : unit_of c.unit.inside.place s ≡ Some u = (λ i. unit_of (c.unit.view_is i) (c.self.view_is i)) ∙ at in
    subst (λ (x : UnitsState). VotesNot c.args.unit u c.args.rms.now x c.args.log.now c.args.volume.now t c.vote.new.log c.vote.new.volume) c.self.view_is
    (subst (λ (p : ℕ). VotesNot p u c.args.rms.now s c.args.log.now c.args.volume.now t c.vote.new.log c.vote.new.volume) c.unit.view_is (c.in-Err.ensures.breaks u there))

pub returns-clause-images : goal.returns-clause-images
returns-clause-images g c =
    let s : UnitsState = record { units = c.self.inside.table; locks = c.self.inside.locks.locks } in
    let same : unit_of c.unit.inside.place s ≡ unit_of c.args.unit c.args.self.now = λ i. unit_of (c.unit.view_is i) (c.self.view_is i) in
    let one = the_one (unit_of c.unit.inside.place s) (subst (λ (x : Option OpenUnit). IsSome x) (sym same) c.requires.unit) in
    ends_voted c.in-Ok.yes _ one.0 _ _ _ c.args.volume.now _ _ c.vote.new.volume (c.in-Ok.ensures.votes one.0 one.1)
