-- What a committed unit held is free.
use Rattle.std.proofs.Common.{◌≡◌, ◌∙◌, Some, ap, sym, subst, Option, IsSome}
use Rattle.std.specs.Prelude.{option_copied}
use Rattle.lmcp_log.specs.Log.{slot_of}
use Rattle.unit_table.specs.Units.{OpenUnit}
use Rattle.unit_votes.specs.Logging.{MayHave}
use Rattle.vms_base.specs.Ids.{serial_of, tid_of}
use Rattle.vms_model.specs.Ids.{Id}
use Rattle.rms_units.specs.State.{UnitsState, unit_of}
use Rattle.rms_units.specs.Voting.{CommitsLoggedNot}
use Rattle.rms_units.proofs.Holding.{released_fits}
use Rattle.key_changes.proofs.unit_cuts.Outcomes.{of_some, the_one}
use Rattle.rms_units.proofs.EndLemmas.{alike_logged, ends_alike}
use Rattle.rms_units.proofs.units.Units.commit_at.Goals as goal

pub commit-requires-clause-may : goal.commit-requires-clause-may
commit-requires-clause-may g c =
    let o = unit_of c.args.place c.args.self.now in
    let one = the_one o c.requires.unit in
    let b = c.branch-branch.result in
    let is = of_some (λ (x : OpenUnit). (tid_of b.tid ≡ x.tid) × (serial_of b.serial ≡ x.serial)) o one.0 one.1 c.branch-branch.ensures in
    subst (λ (x : Id). MayHave x (slot_of (option_copied c.args.logged)) c.args.log.now) (sym is.1)
    (of_some (λ (x : OpenUnit). MayHave x.serial (slot_of (option_copied c.args.logged)) c.args.log.now) o one.0 one.1 c.requires.may)

pub invariant_of-self : goal.invariant_of-self
invariant_of-self g c = released_fits (serial_of c.branch-branch.result.serial) c.self.inside.locks c.commit.new.locks c.commit.ensures.locks c.self.invariant.0 c.self.invariant.1

pub invariant_of-self-2 : goal.invariant_of-self-2
invariant_of-self-2 g c = released_fits (serial_of c.branch-branch.result.serial) c.self.inside.locks c.commit.new.locks c.commit.ensures.locks c.self.invariant.0 c.self.invariant.1

pub returns-in-Err-clause-err : goal.returns-in-Err-clause-err
returns-in-Err-clause-err g c = λ u at.
    let s : UnitsState = record { units = c.self.inside.table; locks = c.self.inside.locks.locks } in
    let t : UnitsState = record { units = c.commit.new.table; locks = c.commit.new.locks.locks } in
    let there : unit_of c.args.place s ≡ Some u = ap (unit_of c.args.place) c.self.view_is ∙ at in
    subst (λ (x : UnitsState). CommitsLoggedNot c.args.place u (slot_of (option_copied c.args.logged)) c.args.clock.0 x c.args.log.now c.args.volume.now t c.commit.new.log c.commit.new.volume) c.self.view_is (c.in-Err.ensures.breaks u there)

pub returns-clause-images : goal.returns-clause-images
returns-clause-images g c =
    let s : UnitsState = record { units = c.self.inside.table; locks = c.self.inside.locks.locks } in
    let same : unit_of c.args.place s ≡ unit_of c.args.place c.args.self.now = ap (unit_of c.args.place) c.self.view_is in
    let one = the_one (unit_of c.args.place s) (subst (λ (x : Option OpenUnit). IsSome x) (sym same) c.requires.unit) in
    let v = c.args.volume.now in
    let w = c.commit.new.volume in
    ends_alike 1 c.args.clock.0 v w (alike_logged _ _ _ _ v w (c.in-Ok.ensures.commits one.0 one.1).makes) c.commit.ensures.grows
