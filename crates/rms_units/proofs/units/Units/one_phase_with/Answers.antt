-- The unit is the one at its place.
use Rattle.std.proofs.Common.{◌≡◌, ℕ, Some, IfOk, OnErr, subst}
use Rattle.std.specs.Prelude.{option_copied}
use Rattle.lmcp_log.specs.Log.{slot_of}
use Rattle.unit_table.specs.Units.{OpenUnit}
use Rattle.rms_units.specs.State.{unit_of}
use Rattle.rms_units.specs.Voting.{CommitsLogged, CommitsLoggedNot}
use Rattle.rms_units.specs.declared.tokens.SettledUnit.{SettledUnit}
use Rattle.rms_units.proofs.units.Units.one_phase_with.Goals as goal

pub returns-clause-done : goal.returns-clause-done
returns-clause-done g c =
    subst (λ (p : ℕ). IfOk c.commit_at.result (λ (told : SettledUnit). (u : OpenUnit) → unit_of p c.args.self.now ≡ Some u → CommitsLogged p u told.tid told.serial (slot_of (option_copied c.args.logged)) c.args.clock.0 told.moment.0 c.args.self.now c.args.log.now c.args.volume.now c.commit_at.new.self c.commit_at.new.log c.commit_at.new.volume))
    c.unit.view_is c.commit_at.ensures.done

pub returns-clause-err : goal.returns-clause-err
returns-clause-err g c =
    subst (λ (p : ℕ). OnErr c.commit_at.result ((u : OpenUnit) → unit_of p c.args.self.now ≡ Some u → CommitsLoggedNot p u (slot_of (option_copied c.args.logged)) c.args.clock.0 c.args.self.now c.args.log.now c.args.volume.now c.commit_at.new.self c.commit_at.new.log c.commit_at.new.volume))
    c.unit.view_is c.commit_at.ensures.err
