-- The unit that begins stands behind the others, and so does its token.
use Rattle.std.proofs.Common.{◌++◌, ◌∷◌, [], List, ◌<◌, length, refl, sym, ap, subst, ◌∙◌, arith}
use Rattle.unit_table.specs.Units.{begun}
use Rattle.vms_base.specs.Ids.{serial_of, tid_of}
use Rattle.recovery_units.specs.State.{UnitsState, with_begun}
use Rattle.node_units.specs.declared.begun.BegunUnit.{BegunUnit}
use Rattle.rms_units.specs.State as rms
use Rattle.node_units.specs.Seen.{seen}
use Rattle.node_units.specs.Tokens.{TokensRepresent, place_in}
use Rattle.node_units.proofs.TokenLemmas.{begun_more, stand_long, stand_more}
use Rattle.node_units.proofs.units.NodeUnitsRecoveryUnits.begin.Goals as goal

pub push_reserved-requires : goal.push_reserved-requires
push_reserved-requires c =
    let few : length (begun c.self.inside.units.units) < 64 = subst (λ (x : UnitsState). length x.begun < 64) (sym c.self.view_is) c.requires.room in
    let long = stand_long c.self.inside.begun.items c.self.inside.units c.self.invariant.0 c.stand_in_order.ensures in
    let room = c.self.invariant.1 in
    omega (arith, few, long, room)

pub invariant_of-self : goal.invariant_of-self
invariant_of-self c =
    let s = c.self.inside.units in
    let ts = c.self.inside.begun.items in
    let t : BegunUnit = record { tid = c.args.tid; serial = c.args.serial; token = c.begin_unit-token.result } in
    let more = stand_more ts s c.self.invariant.0 c.stand_in_order.ensures (place_in c.begin_unit-token.result) t c.begin_unit-token.ensures.below c.begin_unit-token.ensures.free refl c.begin_unit-token.ensures.active in (
      subst (λ (xs : List BegunUnit). TokensRepresent xs c.begin_unit-token.new.units) (sym c.push_reserved.ensures.items) (subst (TokensRepresent (ts ++ t ∷ [])) (sym c.begin_unit-token.ensures.begun) more),
      (let roomy = c.push_reserved.ensures.capacity in let room = c.self.invariant.1 in omega (arith, roomy, room)),
    )

pub returns : goal.returns
returns c =
    let s = c.self.inside.units in
    let x = serial_of c.args.serial in
    ap (λ (z : rms.UnitsState). seen z c.self.inside.log) c.begin_unit-token.ensures.begun
    ∙ (λ i. record { begun = begun_more c.self.inside.begun.items s c.self.invariant.0 c.stand_in_order.ensures (place_in c.begin_unit-token.result) (tid_of c.args.tid) x c.begin_unit-token.ensures.below c.begin_unit-token.ensures.free i; locks = s.locks; log = c.self.inside.log })
    ∙ ap (with_begun (tid_of c.args.tid) x) c.self.view_is
