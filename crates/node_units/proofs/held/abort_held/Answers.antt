-- What the call of the token's kind answers is what is promised of the token.
use Rattle.std.proofs.Common.{◌≡◌, true, Some, refl, sym, subst}
use Rattle.unit_table.specs.Units.{OpenUnit}
use Rattle.rms_units.specs.Aborting.{AbortsNot, AbortsUnit}
use Rattle.rms_units.specs.State.{unit_of}
use Rattle.rms_units.specs.Voting.{AbortsPrepared, AbortsPreparedNot}
use Rattle.node_units.specs.declared.begun.Token.{Token}
use Rattle.node_units.specs.Tokens.{is_active, is_waiting, place_in}
use Rattle.node_units.proofs.Answering.{fail_as, ok_with}
use Rattle.node_units.proofs.held.abort_held.Goals as goal

pub returns-in-Active-clause-active : goal.returns-in-Active-clause-active
returns-in-Active-clause-active g c =
    ok_with _ _ c.abort.result
    (λ told d. subst (λ (t : Token). is_active t ≡ true → (c.args.log.now ≡ c.args.log.now) × ((u : OpenUnit) → unit_of (place_in t) c.args.units.now ≡ Some u →
    AbortsUnit (place_in t) u told.tid told.serial c.args.reason c.args.clock.0 told.moment.0 c.args.units.now c.args.volume.now c.abort.new.self c.abort.new.volume)) (sym c.in-Active.is) (λ active. (refl, d))) c.abort.ensures.done

pub returns-in-Active-clause-active_err : goal.returns-in-Active-clause-active_err
returns-in-Active-clause-active_err g c =
    fail_as _ _ c.abort.result
    (λ d. subst (λ (t : Token). is_active t ≡ true → (u : OpenUnit) → unit_of (place_in t) c.args.units.now ≡ Some u → AbortsNot (place_in t) u c.args.reason c.args.clock.0 c.args.units.now c.args.volume.now c.abort.new.self c.abort.new.volume) (sym c.in-Active.is)
    (λ active. d)) c.abort.ensures.err

pub returns-in-Prepared-clause-waiting : goal.returns-in-Prepared-clause-waiting
returns-in-Prepared-clause-waiting g c =
    ok_with _ _ c.abort_prepared.result
    (λ told d. subst (λ (t : Token). is_waiting t ≡ true → (u : OpenUnit) → unit_of (place_in t) c.args.units.now ≡ Some u →
    AbortsPrepared (place_in t) u told.tid told.serial c.args.reason c.args.clock.0 told.moment.0 c.args.units.now c.args.log.now c.args.volume.now c.abort_prepared.new.self c.abort_prepared.new.log c.abort_prepared.new.volume) (sym c.in-Prepared.is)
    (λ waiting. d)) c.abort_prepared.ensures.done

pub returns-in-Prepared-clause-waiting_err : goal.returns-in-Prepared-clause-waiting_err
returns-in-Prepared-clause-waiting_err g c =
    fail_as _ _ c.abort_prepared.result
    (λ d. subst (λ (t : Token). is_waiting t ≡ true → (u : OpenUnit) → unit_of (place_in t) c.args.units.now ≡ Some u →
    AbortsPreparedNot (place_in t) u c.args.reason c.args.clock.0 c.args.units.now c.args.log.now c.args.volume.now c.abort_prepared.new.self c.abort_prepared.new.log c.abort_prepared.new.volume) (sym c.in-Prepared.is)
    (λ waiting. d)) c.abort_prepared.ensures.err
