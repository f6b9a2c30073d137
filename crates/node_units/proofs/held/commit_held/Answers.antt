-- What the call of the token's kind answers is what is promised of the token.
use Rattle.std.proofs.Common.{◌≡◌, Some, option_copied, sym, subst}
use Rattle.lmcp_log.specs.Log.{slot_of}
use Rattle.unit_table.specs.Units.{OpenUnit}
use Rattle.rms_units.specs.State.{unit_of}
use Rattle.rms_units.specs.Voting.{CommitsLogged, CommitsLoggedNot}
use Rattle.node_units.specs.declared.begun.Token.{Token}
use Rattle.node_units.specs.Tokens.{place_in}
use Rattle.node_units.proofs.Answering.{fail_as, ok_with}
use Rattle.node_units.proofs.held.commit_held.Goals as goal

pub returns-in-Active-clause-done : goal.returns-in-Active-clause-done
returns-in-Active-clause-done g c =
    ok_with _ _ c.one_phase_with.result
    (λ told d. subst (λ (t : Token). (u : OpenUnit) → unit_of (place_in t) c.args.units.now ≡ Some u →
    CommitsLogged (place_in t) u told.tid told.serial (slot_of (option_copied c.args.logged)) c.args.clock.0 told.moment.0 c.args.units.now c.args.log.now c.args.volume.now c.one_phase_with.new.self c.one_phase_with.new.log c.one_phase_with.new.volume)
    (sym c.in-Active.is) d) c.one_phase_with.ensures.done

pub returns-in-Active-clause-err : goal.returns-in-Active-clause-err
returns-in-Active-clause-err g c =
    fail_as _ _ c.one_phase_with.result
    (λ d. subst (λ (t : Token). (u : OpenUnit) → unit_of (place_in t) c.args.units.now ≡ Some u →
    CommitsLoggedNot (place_in t) u (slot_of (option_copied c.args.logged)) c.args.clock.0 c.args.units.now c.args.log.now c.args.volume.now c.one_phase_with.new.self c.one_phase_with.new.log c.one_phase_with.new.volume) (sym c.in-Active.is) d) c.one_phase_with.ensures.err

pub returns-in-Prepared-clause-done : goal.returns-in-Prepared-clause-done
returns-in-Prepared-clause-done g c =
    ok_with _ _ c.commit_prepared.result
    (λ told d. subst (λ (t : Token). (u : OpenUnit) → unit_of (place_in t) c.args.units.now ≡ Some u →
    CommitsLogged (place_in t) u told.tid told.serial (slot_of (option_copied c.args.logged)) c.args.clock.0 told.moment.0 c.args.units.now c.args.log.now c.args.volume.now c.commit_prepared.new.self c.commit_prepared.new.log c.commit_prepared.new.volume)
    (sym c.in-Prepared.is) d) c.commit_prepared.ensures.done

pub returns-in-Prepared-clause-err : goal.returns-in-Prepared-clause-err
returns-in-Prepared-clause-err g c =
    fail_as _ _ c.commit_prepared.result
    (λ d. subst (λ (t : Token). (u : OpenUnit) → unit_of (place_in t) c.args.units.now ≡ Some u →
    CommitsLoggedNot (place_in t) u (slot_of (option_copied c.args.logged)) c.args.clock.0 c.args.units.now c.args.log.now c.args.volume.now c.commit_prepared.new.self c.commit_prepared.new.log c.commit_prepared.new.volume) (sym c.in-Prepared.is) d) c.commit_prepared.ensures.err
