-- A branch that is committed is settled in the world, and is none of the units any more.
use Rattle.std.proofs.Common.{◌∙◌, List, Option, IfSome, ap, sym, subst, refl, arith}
use Rattle.std.specs.Prelude.{IsSome, option_copied}
use Rattle.std.specs.List.{position}
use Rattle.lmcp_log.specs.Log.{slot_of}
use Rattle.unit_table.specs.Units.{OpenUnit}
use Rattle.rms_units.specs.unit_votes.Logging.{MayHave}
use Rattle.vms_base.specs.Ids.{serial_of}
use Rattle.vms_base.specs.declared.ids.Serial.{Serial}
use Rattle.vms_base.specs.declared.ids.Tid.{Tid}
use Rattle.vms_base.specs.declared.moments.Moment.{Moment}
use Rattle.vms_model.specs.Ids.{Id}
use Rattle.vms_model.specs.Transactions.{Commit}
use Rattle.volume.specs.declared.catalog.Catalog.{Catalog}
use Rattle.recovery_units.specs.Calls as calls
use Rattle.recovery_units.specs.State as calls_state
use Rattle.recovery_units.specs.State.{MayLog, UnitsState, is_begun}
use Rattle.rms_units.specs.State as rms
use Rattle.rms_units.specs.Voting.{CommitsLogged, CommitsLoggedNot, commit_of}
use Rattle.node_units.specs.declared.begun.BegunUnit.{BegunUnit}
use Rattle.node_units.specs.Seen.{seen}
use Rattle.node_units.specs.Tokens.{TokensRepresent, is_of, place_in}
use Rattle.node_units.proofs.Committing.{commits_not, commits_ok}
use Rattle.node_units.proofs.Handling.{Handles, gone_with, may_settle, order_of, order_then, own_at, stand_without}
use Rattle.node_units.proofs.Writing.{logged_start, may_have, parts_of, set_long}
use Rattle.node_units.proofs.Seeing.{early_unseen}
use Rattle.node_units.proofs.TokenLemmas.{is_found}
use Rattle.node_units.proofs.units.NodeUnitsRecoveryUnits.commit.Goals as goal

pub unreachable-requires : goal.unreachable-requires
unreachable-requires g c =
    let x = serial_of c.args.serial.now in
    is_found c.self.inside.begun.items c.self.inside.units c.self.inside.log x c.place_of.result c.self.invariant.0 (c.place_of.ensures ∙ ap (position (is_of x)) c.deref.ensures.value) (ap (is_begun x) c.self.view_is ∙ c.requires.unit) c.in_default.is

pub commit_held-requires-clause-unit : goal.commit_held-requires-clause-unit
commit_held-requires-clause-unit g c =
    let ts = c.self.inside.begun.items in
    let s = c.self.inside.units in
    let log = c.self.inside.log in
    let v = c.args.volume.now in
    let x = serial_of c.args.serial.now in
    let i = c.in-Some.place in
    let b = c.remove-tid.result in
    let was = c.args.self.now in
    let clock = c.args.clock.0 in
    let k : Handles ts s log v x i b was clock = record {
      stand = c.self.invariant.0;
      places = c.stand_in_order.ensures;
      found = sym (ap (position (is_of (serial_of c.args.serial.now))) c.deref.ensures.value) ∙ sym c.place_of.ensures ∙ c.in-Some.is;
      at = c.remove-tid.ensures.value;
      view = c.self.view_is;
      order = c.requires.order;
      early = c.requires.early;
      clock_early = c.requires.clock;
      tid = c.have_ids.ensures.tid;
      serial = c.have_ids.ensures.serial;
    } in
    let own = own_at ts s log v x i b was clock k in
    subst IsSome (sym own.there) refl

pub commit_held-requires-clause-early : goal.commit_held-requires-clause-early
commit_held-requires-clause-early g c = early_unseen c.args.volume.now c.requires.early

pub commit_held-requires-clause-may : goal.commit_held-requires-clause-may
commit_held-requires-clause-may g c =
    let ts = c.self.inside.begun.items in
    let s = c.self.inside.units in
    let log = c.self.inside.log in
    let v = c.args.volume.now in
    let x = serial_of c.args.serial.now in
    let i = c.in-Some.place in
    let b = c.remove-tid.result in
    let was = c.args.self.now in
    let clock = c.args.clock.0 in
    let k : Handles ts s log v x i b was clock = record {
      stand = c.self.invariant.0;
      places = c.stand_in_order.ensures;
      found = sym (ap (position (is_of (serial_of c.args.serial.now))) c.deref.ensures.value) ∙ sym c.place_of.ensures ∙ c.in-Some.is;
      at = c.remove-tid.ensures.value;
      view = c.self.view_is;
      order = c.requires.order;
      early = c.requires.early;
      clock_early = c.requires.clock;
      tid = c.have_ids.ensures.tid;
      serial = c.have_ids.ensures.serial;
    } in
    let own = own_at ts s log v x i b was clock k in
    let rec = slot_of (option_copied c.args.logged) in
    let may_log : IfSome rec (λ r. MayLog x r log) = subst (λ (z : UnitsState). IfSome rec (λ r. MayLog x r z.log)) (sym c.self.view_is) c.requires.may in
    let may = may_settle ts s log v x i b was clock k rec (parts_of x log rec c.have_logged.ensures may_log) in
    subst (λ (o : Option OpenUnit). IfSome o (λ u. MayHave u.serial rec log)) (sym own.there) (subst (λ (y : Id). MayHave y rec log) (sym own.serial) (may_have x log rec may_log))

pub commit_held-requires-clause-order : goal.commit_held-requires-clause-order
commit_held-requires-clause-order g c =
    let ts = c.self.inside.begun.items in
    let s = c.self.inside.units in
    let log = c.self.inside.log in
    let v = c.args.volume.now in
    let x = serial_of c.args.serial.now in
    let i = c.in-Some.place in
    let b = c.remove-tid.result in
    let was = c.args.self.now in
    let clock = c.args.clock.0 in
    let k : Handles ts s log v x i b was clock = record {
      stand = c.self.invariant.0;
      places = c.stand_in_order.ensures;
      found = sym (ap (position (is_of (serial_of c.args.serial.now))) c.deref.ensures.value) ∙ sym c.place_of.ensures ∙ c.in-Some.is;
      at = c.remove-tid.ensures.value;
      view = c.self.view_is;
      order = c.requires.order;
      early = c.requires.early;
      clock_early = c.requires.clock;
      tid = c.have_ids.ensures.tid;
      serial = c.have_ids.ensures.serial;
    } in
    let own = own_at ts s log v x i b was clock k in
    order_of ts s log v x i b was clock k

pub invariant_of-self : goal.invariant_of-self
invariant_of-self g c =
    let ts = c.self.inside.begun.items in
    let s = c.self.inside.units in
    let log = c.self.inside.log in
    let v = c.args.volume.now in
    let x = serial_of c.args.serial.now in
    let i = c.in-Some.place in
    let b = c.remove-tid.result in
    let was = c.args.self.now in
    let clock = c.args.clock.0 in
    let k : Handles ts s log v x i b was clock = record {
      stand = c.self.invariant.0;
      places = c.stand_in_order.ensures;
      found = sym (ap (position (is_of (serial_of c.args.serial.now))) c.deref.ensures.value) ∙ sym c.place_of.ensures ∙ c.in-Some.is;
      at = c.remove-tid.ensures.value;
      view = c.self.view_is;
      order = c.requires.order;
      early = c.requires.early;
      clock_early = c.requires.clock;
      tid = c.have_ids.ensures.tid;
      serial = c.have_ids.ensures.serial;
    } in
    let own = own_at ts s log v x i b was clock k in
    let rec = slot_of (option_copied c.args.logged) in
    let may_log : IfSome rec (λ r. MayLog x r log) = subst (λ (z : UnitsState). IfSome rec (λ r. MayLog x r z.log)) (sym c.self.view_is) c.requires.may in
    let may = may_settle ts s log v x i b was clock k rec (parts_of x log rec c.have_logged.ensures may_log) in
    let t = c.commit_held.new.units in
    let us = c.commit_held.new.log in
    let w = c.commit_held.new.volume in
    let fails : CommitsLoggedNot (place_in b.token) own.unit rec clock s log v t us w = c.in-Err.ensures.err own.unit own.there in
    (subst (λ (zs : List BegunUnit). TokensRepresent zs t) (sym c.remove-tid.ensures.items) (stand_without ts s log v x i b was clock k t fails.spent), (let more = c.remove-tid.ensures.capacity in let room = c.self.invariant.1 in omega (arith, more, room)))

pub returns-in-Err-clause-err : goal.returns-in-Err-clause-err
returns-in-Err-clause-err g c = λ reason.
    let ts = c.self.inside.begun.items in
    let s = c.self.inside.units in
    let log = c.self.inside.log in
    let v = c.args.volume.now in
    let x = serial_of c.args.serial.now in
    let i = c.in-Some.place in
    let b = c.remove-tid.result in
    let was = c.args.self.now in
    let clock = c.args.clock.0 in
    let k : Handles ts s log v x i b was clock = record {
      stand = c.self.invariant.0;
      places = c.stand_in_order.ensures;
      found = sym (ap (position (is_of (serial_of c.args.serial.now))) c.deref.ensures.value) ∙ sym c.place_of.ensures ∙ c.in-Some.is;
      at = c.remove-tid.ensures.value;
      view = c.self.view_is;
      order = c.requires.order;
      early = c.requires.early;
      clock_early = c.requires.clock;
      tid = c.have_ids.ensures.tid;
      serial = c.have_ids.ensures.serial;
    } in
    let own = own_at ts s log v x i b was clock k in
    let rec = slot_of (option_copied c.args.logged) in
    let may_log : IfSome rec (λ r. MayLog x r log) = subst (λ (z : UnitsState). IfSome rec (λ r. MayLog x r z.log)) (sym c.self.view_is) c.requires.may in
    let may = may_settle ts s log v x i b was clock k rec (parts_of x log rec c.have_logged.ensures may_log) in
    let t = c.commit_held.new.units in
    let us = c.commit_held.new.log in
    let w = c.commit_held.new.volume in
    let fails : CommitsLoggedNot (place_in b.token) own.unit rec clock s log v t us w = c.in-Err.ensures.err own.unit own.there in
    subst (λ (z : UnitsState). calls.SettlesErr x Commit reason rec clock z v w) c.self.view_is
    (subst (λ (y : Id). calls.SettlesErr y Commit reason rec clock (seen s log) v w) own.serial (commits_not (place_in b.token) own.unit s t log us v w rec clock may reason fails))

pub invariant_of-self-in-Ok : goal.invariant_of-self-in-Ok
invariant_of-self-in-Ok g c =
    let ts = c.self.inside.begun.items in
    let s = c.self.inside.units in
    let log = c.self.inside.log in
    let v = c.args.volume.now in
    let x = serial_of c.args.serial.now in
    let i = c.in-Some.place in
    let b = c.remove-tid.result in
    let was = c.args.self.now in
    let clock = c.args.clock.0 in
    let k : Handles ts s log v x i b was clock = record {
      stand = c.self.invariant.0;
      places = c.stand_in_order.ensures;
      found = sym (ap (position (is_of (serial_of c.args.serial.now))) c.deref.ensures.value) ∙ sym c.place_of.ensures ∙ c.in-Some.is;
      at = c.remove-tid.ensures.value;
      view = c.self.view_is;
      order = c.requires.order;
      early = c.requires.early;
      clock_early = c.requires.clock;
      tid = c.have_ids.ensures.tid;
      serial = c.have_ids.ensures.serial;
    } in
    let own = own_at ts s log v x i b was clock k in
    let rec = slot_of (option_copied c.args.logged) in
    let may_log : IfSome rec (λ r. MayLog x r log) = subst (λ (z : UnitsState). IfSome rec (λ r. MayLog x r z.log)) (sym c.self.view_is) c.requires.may in
    let may = may_settle ts s log v x i b was clock k rec (parts_of x log rec c.have_logged.ensures may_log) in
    let t = c.commit_held.new.units in
    let us = c.commit_held.new.log in
    let w = c.commit_held.new.volume in
    let told = c.told_above.result in
    let same = c.told_above.ensures.told in
    let P : Tid → Serial → Moment → Type 0 = λ tid serial moment. CommitsLogged (place_in b.token) own.unit tid serial rec clock moment.0 s log v t us w in
    let done : P told.tid told.serial told.moment = subst (λ (y : Tid). P y told.serial told.moment) (sym same.0)
    (subst (λ (y : Serial). P c.in-Ok.settled.tid y told.moment) (sym same.1)
    (subst (λ (y : Moment). P c.in-Ok.settled.tid c.in-Ok.settled.serial y) (sym same.2) (c.in-Ok.ensures.done own.unit own.there))) in
    (subst (λ (zs : List BegunUnit). TokensRepresent zs c.told_above.new.units) (sym c.remove-tid.ensures.items) (stand_without ts s log v x i b was clock k c.told_above.new.units (c.told_above.ensures.same ∙ done.spent)), (let more = c.remove-tid.ensures.capacity in let room = c.self.invariant.1 in omega (arith, more, room)))

pub returns-in-Ok-clause-units : goal.returns-in-Ok-clause-units
returns-in-Ok-clause-units g c =
    let ts = c.self.inside.begun.items in
    let s = c.self.inside.units in
    let log = c.self.inside.log in
    let v = c.args.volume.now in
    let x = serial_of c.args.serial.now in
    let i = c.in-Some.place in
    let b = c.remove-tid.result in
    let was = c.args.self.now in
    let clock = c.args.clock.0 in
    let k : Handles ts s log v x i b was clock = record {
      stand = c.self.invariant.0;
      places = c.stand_in_order.ensures;
      found = sym (ap (position (is_of (serial_of c.args.serial.now))) c.deref.ensures.value) ∙ sym c.place_of.ensures ∙ c.in-Some.is;
      at = c.remove-tid.ensures.value;
      view = c.self.view_is;
      order = c.requires.order;
      early = c.requires.early;
      clock_early = c.requires.clock;
      tid = c.have_ids.ensures.tid;
      serial = c.have_ids.ensures.serial;
    } in
    let own = own_at ts s log v x i b was clock k in
    let rec = slot_of (option_copied c.args.logged) in
    let may_log : IfSome rec (λ r. MayLog x r log) = subst (λ (z : UnitsState). IfSome rec (λ r. MayLog x r z.log)) (sym c.self.view_is) c.requires.may in
    let may = may_settle ts s log v x i b was clock k rec (parts_of x log rec c.have_logged.ensures may_log) in
    let t = c.commit_held.new.units in
    let us = c.commit_held.new.log in
    let w = c.commit_held.new.volume in
    let told = c.told_above.result in
    let same = c.told_above.ensures.told in
    let P : Tid → Serial → Moment → Type 0 = λ tid serial moment. CommitsLogged (place_in b.token) own.unit tid serial rec clock moment.0 s log v t us w in
    let done : P told.tid told.serial told.moment = subst (λ (y : Tid). P y told.serial told.moment) (sym same.0)
    (subst (λ (y : Serial). P c.in-Ok.settled.tid y told.moment) (sym same.1)
    (subst (λ (y : Moment). P c.in-Ok.settled.tid c.in-Ok.settled.serial y) (sym same.2) (c.in-Ok.ensures.done own.unit own.there))) in
    gone_with ts s log v x i b was clock k rec c.told_above.new.units us (c.told_above.ensures.same ∙ done.spent) done.slots

pub returns-in-Ok-clause-order : goal.returns-in-Ok-clause-order
returns-in-Ok-clause-order g c =
    let ts = c.self.inside.begun.items in
    let s = c.self.inside.units in
    let log = c.self.inside.log in
    let v = c.args.volume.now in
    let x = serial_of c.args.serial.now in
    let i = c.in-Some.place in
    let b = c.remove-tid.result in
    let was = c.args.self.now in
    let clock = c.args.clock.0 in
    let k : Handles ts s log v x i b was clock = record {
      stand = c.self.invariant.0;
      places = c.stand_in_order.ensures;
      found = sym (ap (position (is_of (serial_of c.args.serial.now))) c.deref.ensures.value) ∙ sym c.place_of.ensures ∙ c.in-Some.is;
      at = c.remove-tid.ensures.value;
      view = c.self.view_is;
      order = c.requires.order;
      early = c.requires.early;
      clock_early = c.requires.clock;
      tid = c.have_ids.ensures.tid;
      serial = c.have_ids.ensures.serial;
    } in
    let own = own_at ts s log v x i b was clock k in
    let rec = slot_of (option_copied c.args.logged) in
    let may_log : IfSome rec (λ r. MayLog x r log) = subst (λ (z : UnitsState). IfSome rec (λ r. MayLog x r z.log)) (sym c.self.view_is) c.requires.may in
    let may = may_settle ts s log v x i b was clock k rec (parts_of x log rec c.have_logged.ensures may_log) in
    let t = c.commit_held.new.units in
    let us = c.commit_held.new.log in
    let w = c.commit_held.new.volume in
    let told = c.told_above.result in
    let same = c.told_above.ensures.told in
    let P : Tid → Serial → Moment → Type 0 = λ tid serial moment. CommitsLogged (place_in b.token) own.unit tid serial rec clock moment.0 s log v t us w in
    let done : P told.tid told.serial told.moment = subst (λ (y : Tid). P y told.serial told.moment) (sym same.0)
    (subst (λ (y : Serial). P c.in-Ok.settled.tid y told.moment) (sym same.1)
    (subst (λ (y : Moment). P c.in-Ok.settled.tid c.in-Ok.settled.serial y) (sym same.2) (c.in-Ok.ensures.done own.unit own.there))) in
    let made = commit_of own.unit told.tid told.serial told.moment.0 t in
    subst (λ (z : rms.UnitsState). calls_state.IsInOrder (seen z us) w) (sym c.told_above.ensures.same)
    (order_then ts s log v x i b was clock k t us w c.stand_in_order-in-Ok.ensures (set_long (serial_of told.serial) rec log us v done.makes.logged done.makes.log) (logged_start made rec log us v w done.makes) c.in-Ok.ensures.order)

pub returns-in-Ok-clause-moment : goal.returns-in-Ok-clause-moment
returns-in-Ok-clause-moment g c =
    let ts = c.self.inside.begun.items in
    let s = c.self.inside.units in
    let log = c.self.inside.log in
    let v = c.args.volume.now in
    let x = serial_of c.args.serial.now in
    let i = c.in-Some.place in
    let b = c.remove-tid.result in
    let was = c.args.self.now in
    let clock = c.args.clock.0 in
    let k : Handles ts s log v x i b was clock = record {
      stand = c.self.invariant.0;
      places = c.stand_in_order.ensures;
      found = sym (ap (position (is_of (serial_of c.args.serial.now))) c.deref.ensures.value) ∙ sym c.place_of.ensures ∙ c.in-Some.is;
      at = c.remove-tid.ensures.value;
      view = c.self.view_is;
      order = c.requires.order;
      early = c.requires.early;
      clock_early = c.requires.clock;
      tid = c.have_ids.ensures.tid;
      serial = c.have_ids.ensures.serial;
    } in
    let own = own_at ts s log v x i b was clock k in
    let rec = slot_of (option_copied c.args.logged) in
    let may_log : IfSome rec (λ r. MayLog x r log) = subst (λ (z : UnitsState). IfSome rec (λ r. MayLog x r z.log)) (sym c.self.view_is) c.requires.may in
    let may = may_settle ts s log v x i b was clock k rec (parts_of x log rec c.have_logged.ensures may_log) in
    let t = c.commit_held.new.units in
    let us = c.commit_held.new.log in
    let w = c.commit_held.new.volume in
    let told = c.told_above.result in
    let same = c.told_above.ensures.told in
    let P : Tid → Serial → Moment → Type 0 = λ tid serial moment. CommitsLogged (place_in b.token) own.unit tid serial rec clock moment.0 s log v t us w in
    let done : P told.tid told.serial told.moment = subst (λ (y : Tid). P y told.serial told.moment) (sym same.0)
    (subst (λ (y : Serial). P c.in-Ok.settled.tid y told.moment) (sym same.1)
    (subst (λ (y : Moment). P c.in-Ok.settled.tid c.in-Ok.settled.serial y) (sym same.2) (c.in-Ok.ensures.done own.unit own.there))) in
    sym (ap (λ (z : Catalog). z.home.greatest_moment.0) done.makes.makes.settles.catalog)

pub returns-in-Ok-clause-done : goal.returns-in-Ok-clause-done
returns-in-Ok-clause-done g c = λ reason.
    let ts = c.self.inside.begun.items in
    let s = c.self.inside.units in
    let log = c.self.inside.log in
    let v = c.args.volume.now in
    let x = serial_of c.args.serial.now in
    let i = c.in-Some.place in
    let b = c.remove-tid.result in
    let was = c.args.self.now in
    let clock = c.args.clock.0 in
    let k : Handles ts s log v x i b was clock = record {
      stand = c.self.invariant.0;
      places = c.stand_in_order.ensures;
      found = sym (ap (position (is_of (serial_of c.args.serial.now))) c.deref.ensures.value) ∙ sym c.place_of.ensures ∙ c.in-Some.is;
      at = c.remove-tid.ensures.value;
      view = c.self.view_is;
      order = c.requires.order;
      early = c.requires.early;
      clock_early = c.requires.clock;
      tid = c.have_ids.ensures.tid;
      serial = c.have_ids.ensures.serial;
    } in
    let own = own_at ts s log v x i b was clock k in
    let rec = slot_of (option_copied c.args.logged) in
    let may_log : IfSome rec (λ r. MayLog x r log) = subst (λ (z : UnitsState). IfSome rec (λ r. MayLog x r z.log)) (sym c.self.view_is) c.requires.may in
    let may = may_settle ts s log v x i b was clock k rec (parts_of x log rec c.have_logged.ensures may_log) in
    let t = c.commit_held.new.units in
    let us = c.commit_held.new.log in
    let w = c.commit_held.new.volume in
    let told = c.told_above.result in
    let same = c.told_above.ensures.told in
    let P : Tid → Serial → Moment → Type 0 = λ tid serial moment. CommitsLogged (place_in b.token) own.unit tid serial rec clock moment.0 s log v t us w in
    let done : P told.tid told.serial told.moment = subst (λ (y : Tid). P y told.serial told.moment) (sym same.0)
    (subst (λ (y : Serial). P c.in-Ok.settled.tid y told.moment) (sym same.1)
    (subst (λ (y : Moment). P c.in-Ok.settled.tid c.in-Ok.settled.serial y) (sym same.2) (c.in-Ok.ensures.done own.unit own.there))) in
    subst (λ (z : rms.UnitsState). calls.SettlesOk x Commit reason rec clock told was v (seen z us) w) (sym c.told_above.ensures.same)
    (subst (λ (z : UnitsState). calls.SettlesOk x Commit reason rec clock told z v (seen t us) w) c.self.view_is
    (subst (λ (y : Id). calls.SettlesOk y Commit reason rec clock told (seen s log) v (seen t us) w) own.serial
    (commits_ok (place_in b.token) own.unit s t log us v w rec clock may reason told done c.commit_held.ensures.goes.size)))
