-- A branch that is aborted is settled in the world, and is none of the units any more.
use Rattle.std.proofs.Common.{◌≡◌, ◌∙◌, ◌+◌, List, true, false, None, IfSome, length, ap, sym, subst, refl, arith}
use Rattle.std.specs.Prelude.{IsSome}
use Rattle.std.specs.List.{position}
use Rattle.unit_table.specs.Units.{begun}
use Rattle.vms_base.specs.Ids.{serial_of}
use Rattle.vms_base.specs.Outcomes.{reason_of}
use Rattle.vms_base.specs.declared.ids.Serial.{Serial}
use Rattle.vms_base.specs.declared.ids.Tid.{Tid}
use Rattle.vms_base.specs.declared.moments.Moment.{Moment}
use Rattle.vms_model.specs.Ids.{Id}
use Rattle.vms_model.specs.Transactions.{Abort}
use Rattle.volume.specs.declared.catalog.Catalog.{Catalog}
use Rattle.volume.specs.State.{VolumeState}
use Rattle.recovery_units.specs.Calls as calls
use Rattle.recovery_units.specs.State as calls_state
use Rattle.recovery_units.specs.State.{UnitsState}
use Rattle.rms_units.specs.Aborting.{AbortsNot, AbortsUnit, abortion_of}
use Rattle.rms_units.specs.State as rms
use Rattle.rms_units.specs.Voting.{AbortsPrepared, AbortsPreparedNot}
use Rattle.log_laws.specs.Slots.{Slots}
use Rattle.node_units.specs.declared.begun.BegunUnit.{BegunUnit}
use Rattle.node_units.specs.Seen.{seen}
use Rattle.node_units.specs.Tokens.{TokensRepresent, is_of, place_in}
use Rattle.node_units.proofs.Aborting.{aborts_not, aborts_ok}
use Rattle.node_units.proofs.Giving.{gives_not, gives_ok}
use Rattle.node_units.proofs.Handling.{Handles, by_kind, gone_aborted, may_settle, order_of, order_then, own_at, slots_else, slots_if, stand_without}
use Rattle.node_units.proofs.Writing.{aborts_start, gives_start, set_long}
use Rattle.node_units.proofs.Seeing.{early_unseen}
use Rattle.node_units.proofs.TokenLemmas.{active_of, begun_some, is_found}
use Rattle.node_units.proofs.units.NodeUnitsRecoveryUnits.abort.Goals as goal

pub unreachable-requires : goal.unreachable-requires
unreachable-requires g c =
    let x = serial_of c.args.serial.now in
    let there = begun_some x (begun c.self.inside.units.units) (subst (λ (z : UnitsState). IsSome (calls_state.unit_of x z.begun)) (sym c.self.view_is) c.requires.unit) in
    is_found c.self.inside.begun.items c.self.inside.units c.self.inside.log x c.place_of.result c.self.invariant.0 (c.place_of.ensures ∙ ap (position (is_of x)) c.deref.ensures.value) there c.in_default.is

pub abort_held-requires-clause-unit : goal.abort_held-requires-clause-unit
abort_held-requires-clause-unit g c =
    let ts = c.self.inside.begun.items in
    let s = c.self.inside.units in
    let log = c.self.inside.log in
    let v = c.blocks_are_whole.new.volume in
    let x = serial_of c.args.serial.now in
    let i = c.in-Some.place in
    let b = c.remove-tid.result in
    let was = c.args.self.now in
    let clock = c.args.clock.0 in
    let k : Handles ts s log v x i b was clock = record {
      stand = c.self.invariant.0;
      places = c.stand_in_order.ensures;
      found = sym (ap (position (is_of (serial_of c.args.serial.now))) c.deref.ensures.value) ∙ sym c.place_of.ensures ∙ c.in-Some.is;
      at = c.remove-tid.ensures.value;
      view = c.self.view_is;
      order = subst (calls_state.IsInOrder was) (sym c.blocks_are_whole.ensures.same) c.requires.order;
      early = subst calls_state.IsEarly (sym c.blocks_are_whole.ensures.same) c.requires.early;
      clock_early = c.requires.clock;
      tid = c.have_ids.ensures.tid;
      serial = c.have_ids.ensures.serial;
    } in
    let own = own_at ts s log v x i b was clock k in
    subst IsSome (sym own.there) refl

pub abort_held-requires-clause-early : goal.abort_held-requires-clause-early
abort_held-requires-clause-early g c = early_unseen c.blocks_are_whole.new.volume (subst calls_state.IsEarly (sym c.blocks_are_whole.ensures.same) c.requires.early)

pub abort_held-requires-clause-order : goal.abort_held-requires-clause-order
abort_held-requires-clause-order g c =
    let ts = c.self.inside.begun.items in
    let s = c.self.inside.units in
    let log = c.self.inside.log in
    let v = c.blocks_are_whole.new.volume in
    let x = serial_of c.args.serial.now in
    let i = c.in-Some.place in
    let b = c.remove-tid.result in
    let was = c.args.self.now in
    let clock = c.args.clock.0 in
    let k : Handles ts s log v x i b was clock = record {
      stand = c.self.invariant.0;
      places = c.stand_in_order.ensures;
      found = sym (ap (position (is_of (serial_of c.args.serial.now))) c.deref.ensures.value) ∙ sym c.place_of.ensures ∙ c.in-Some.is;
      at = c.remove-tid.ensures.value;
      view = c.self.view_is;
      order = subst (calls_state.IsInOrder was) (sym c.blocks_are_whole.ensures.same) c.requires.order;
      early = subst calls_state.IsEarly (sym c.blocks_are_whole.ensures.same) c.requires.early;
      clock_early = c.requires.clock;
      tid = c.have_ids.ensures.tid;
      serial = c.have_ids.ensures.serial;
    } in
    let own = own_at ts s log v x i b was clock k in
    order_of ts s log v x i b was clock k

pub invariant_of-self : goal.invariant_of-self
invariant_of-self g c =
    let ts = c.self.inside.begun.items in
    let s = c.self.inside.units in
    let log = c.self.inside.log in
    let v = c.blocks_are_whole.new.volume in
    let x = serial_of c.args.serial.now in
    let i = c.in-Some.place in
    let b = c.remove-tid.result in
    let was = c.args.self.now in
    let clock = c.args.clock.0 in
    let k : Handles ts s log v x i b was clock = record {
      stand = c.self.invariant.0;
      places = c.stand_in_order.ensures;
      found = sym (ap (position (is_of (serial_of c.args.serial.now))) c.deref.ensures.value) ∙ sym c.place_of.ensures ∙ c.in-Some.is;
      at = c.remove-tid.ensures.value;
      view = c.self.view_is;
      order = subst (calls_state.IsInOrder was) (sym c.blocks_are_whole.ensures.same) c.requires.order;
      early = subst calls_state.IsEarly (sym c.blocks_are_whole.ensures.same) c.requires.early;
      clock_early = c.requires.clock;
      tid = c.have_ids.ensures.tid;
      serial = c.have_ids.ensures.serial;
    } in
    let own = own_at ts s log v x i b was clock k in
    let t = c.abort_held.new.units in
    let us = c.abort_held.new.log in
    let w = c.abort_held.new.volume in
    let reason = c.args.reason in
    let active : own.unit.prepared ≡ false → AbortsNot (place_in b.token) own.unit reason clock s v t w = λ e. c.in-Err.ensures.active_err (active_of b.token own.held (sym own.prepared ∙ e)) own.unit own.there in
    let waiting : own.unit.prepared ≡ true → AbortsPreparedNot (place_in b.token) own.unit reason clock s log v t us w = λ e. c.in-Err.ensures.waiting_err (sym own.prepared ∙ e) own.unit own.there in
    let spent = by_kind own.unit.prepared (λ e. (waiting e).spent) (λ e. (active e).spent) in
    (subst (λ (zs : List BegunUnit). TokensRepresent zs t) (sym c.remove-tid.ensures.items) (stand_without ts s log v x i b was clock k t spent), (let more = c.remove-tid.ensures.capacity in let room = c.self.invariant.1 in omega (arith, more, room)))

pub returns-in-Err-clause-err : goal.returns-in-Err-clause-err
returns-in-Err-clause-err g c =
    let ts = c.self.inside.begun.items in
    let s = c.self.inside.units in
    let log = c.self.inside.log in
    let v = c.blocks_are_whole.new.volume in
    let x = serial_of c.args.serial.now in
    let i = c.in-Some.place in
    let b = c.remove-tid.result in
    let was = c.args.self.now in
    let clock = c.args.clock.0 in
    let k : Handles ts s log v x i b was clock = record {
      stand = c.self.invariant.0;
      places = c.stand_in_order.ensures;
      found = sym (ap (position (is_of (serial_of c.args.serial.now))) c.deref.ensures.value) ∙ sym c.place_of.ensures ∙ c.in-Some.is;
      at = c.remove-tid.ensures.value;
      view = c.self.view_is;
      order = subst (calls_state.IsInOrder was) (sym c.blocks_are_whole.ensures.same) c.requires.order;
      early = subst calls_state.IsEarly (sym c.blocks_are_whole.ensures.same) c.requires.early;
      clock_early = c.requires.clock;
      tid = c.have_ids.ensures.tid;
      serial = c.have_ids.ensures.serial;
    } in
    let own = own_at ts s log v x i b was clock k in
    let t = c.abort_held.new.units in
    let us = c.abort_held.new.log in
    let w = c.abort_held.new.volume in
    let reason = c.args.reason in
    let active : own.unit.prepared ≡ false → AbortsNot (place_in b.token) own.unit reason clock s v t w = λ e. c.in-Err.ensures.active_err (active_of b.token own.held (sym own.prepared ∙ e)) own.unit own.there in
    let waiting : own.unit.prepared ≡ true → AbortsPreparedNot (place_in b.token) own.unit reason clock s log v t us w = λ e. c.in-Err.ensures.waiting_err (sym own.prepared ∙ e) own.unit own.there in
    let may = may_settle ts s log v x i b was clock k None tt in
    let sized = subst (λ (z : VolumeState). IfSome z.store.current (λ a. length a + 518 ≡ z.store.disk.size)) (sym c.blocks_are_whole.ensures.same) c.blocks_are_whole.ensures.whole in
    let outer : calls.SettlesErr own.unit.serial Abort (reason_of reason) None clock (seen s log) v w → calls.SettlesErr x Abort (reason_of reason) None clock was c.args.volume.now w = λ d.
    subst (λ (z : VolumeState). calls.SettlesErr x Abort (reason_of reason) None clock was z w) c.blocks_are_whole.ensures.same
    (subst (λ (z : UnitsState). calls.SettlesErr x Abort (reason_of reason) None clock z v w) c.self.view_is
    (subst (λ (y : Id). calls.SettlesErr y Abort (reason_of reason) None clock (seen s log) v w) own.serial d)) in
    by_kind own.unit.prepared
    (λ e. outer (gives_not (place_in b.token) own.unit s t log us v w clock may reason (waiting e) sized))
    (λ e. outer (aborts_not (place_in b.token) own.unit s t log v w clock may reason e (active e) sized))

pub invariant_of-self-in-Ok : goal.invariant_of-self-in-Ok
invariant_of-self-in-Ok g c =
    let ts = c.self.inside.begun.items in
    let s = c.self.inside.units in
    let log = c.self.inside.log in
    let v = c.blocks_are_whole.new.volume in
    let x = serial_of c.args.serial.now in
    let i = c.in-Some.place in
    let b = c.remove-tid.result in
    let was = c.args.self.now in
    let clock = c.args.clock.0 in
    let k : Handles ts s log v x i b was clock = record {
      stand = c.self.invariant.0;
      places = c.stand_in_order.ensures;
      found = sym (ap (position (is_of (serial_of c.args.serial.now))) c.deref.ensures.value) ∙ sym c.place_of.ensures ∙ c.in-Some.is;
      at = c.remove-tid.ensures.value;
      view = c.self.view_is;
      order = subst (calls_state.IsInOrder was) (sym c.blocks_are_whole.ensures.same) c.requires.order;
      early = subst calls_state.IsEarly (sym c.blocks_are_whole.ensures.same) c.requires.early;
      clock_early = c.requires.clock;
      tid = c.have_ids.ensures.tid;
      serial = c.have_ids.ensures.serial;
    } in
    let own = own_at ts s log v x i b was clock k in
    let t = c.abort_held.new.units in
    let us = c.abort_held.new.log in
    let w = c.abort_held.new.volume in
    let reason = c.args.reason in
    let told = c.told_above.result in
    let same = c.told_above.ensures.told in
    let A : Tid → Serial → Moment → Type 0 = λ tid serial moment. AbortsUnit (place_in b.token) own.unit tid serial reason clock moment.0 s v t w in
    let B : Tid → Serial → Moment → Type 0 = λ tid serial moment. AbortsPrepared (place_in b.token) own.unit tid serial reason clock moment.0 s log v t us w in
    let as_told : (P : Tid → Serial → Moment → Type 0) → P c.in-Ok.settled.tid c.in-Ok.settled.serial c.in-Ok.settled.moment → P told.tid told.serial told.moment = λ P p. subst (λ (y : Tid). P y told.serial told.moment) (sym same.0)
    (subst (λ (y : Serial). P c.in-Ok.settled.tid y told.moment) (sym same.1) (subst (λ (y : Moment). P c.in-Ok.settled.tid c.in-Ok.settled.serial y) (sym same.2) p)) in
    let active : own.unit.prepared ≡ false → (us ≡ log) × A told.tid told.serial told.moment = λ e. (let r = c.in-Ok.ensures.active (active_of b.token own.held (sym own.prepared ∙ e)) in (r.0, as_told A (r.1 own.unit own.there))) in
    let waiting : own.unit.prepared ≡ true → B told.tid told.serial told.moment = λ e. as_told B (c.in-Ok.ensures.waiting (sym own.prepared ∙ e) own.unit own.there) in
    let spent = by_kind own.unit.prepared (λ e. (waiting e).spent) (λ e. (active e).1.spent) in
    (subst (λ (zs : List BegunUnit). TokensRepresent zs c.told_above.new.units) (sym c.remove-tid.ensures.items) (stand_without ts s log v x i b was clock k c.told_above.new.units (c.told_above.ensures.same ∙ spent)), (let more = c.remove-tid.ensures.capacity in let room = c.self.invariant.1 in omega (arith, more, room)))

pub returns-in-Ok-clause-units : goal.returns-in-Ok-clause-units
returns-in-Ok-clause-units g c =
    let ts = c.self.inside.begun.items in
    let s = c.self.inside.units in
    let log = c.self.inside.log in
    let v = c.blocks_are_whole.new.volume in
    let x = serial_of c.args.serial.now in
    let i = c.in-Some.place in
    let b = c.remove-tid.result in
    let was = c.args.self.now in
    let clock = c.args.clock.0 in
    let k : Handles ts s log v x i b was clock = record {
      stand = c.self.invariant.0;
      places = c.stand_in_order.ensures;
      found = sym (ap (position (is_of (serial_of c.args.serial.now))) c.deref.ensures.value) ∙ sym c.place_of.ensures ∙ c.in-Some.is;
      at = c.remove-tid.ensures.value;
      view = c.self.view_is;
      order = subst (calls_state.IsInOrder was) (sym c.blocks_are_whole.ensures.same) c.requires.order;
      early = subst calls_state.IsEarly (sym c.blocks_are_whole.ensures.same) c.requires.early;
      clock_early = c.requires.clock;
      tid = c.have_ids.ensures.tid;
      serial = c.have_ids.ensures.serial;
    } in
    let own = own_at ts s log v x i b was clock k in
    let t = c.abort_held.new.units in
    let us = c.abort_held.new.log in
    let w = c.abort_held.new.volume in
    let reason = c.args.reason in
    let told = c.told_above.result in
    let same = c.told_above.ensures.told in
    let A : Tid → Serial → Moment → Type 0 = λ tid serial moment. AbortsUnit (place_in b.token) own.unit tid serial reason clock moment.0 s v t w in
    let B : Tid → Serial → Moment → Type 0 = λ tid serial moment. AbortsPrepared (place_in b.token) own.unit tid serial reason clock moment.0 s log v t us w in
    let as_told : (P : Tid → Serial → Moment → Type 0) → P c.in-Ok.settled.tid c.in-Ok.settled.serial c.in-Ok.settled.moment → P told.tid told.serial told.moment = λ P p. subst (λ (y : Tid). P y told.serial told.moment) (sym same.0)
    (subst (λ (y : Serial). P c.in-Ok.settled.tid y told.moment) (sym same.1) (subst (λ (y : Moment). P c.in-Ok.settled.tid c.in-Ok.settled.serial y) (sym same.2) p)) in
    let active : own.unit.prepared ≡ false → (us ≡ log) × A told.tid told.serial told.moment = λ e. (let r = c.in-Ok.ensures.active (active_of b.token own.held (sym own.prepared ∙ e)) in (r.0, as_told A (r.1 own.unit own.there))) in
    let waiting : own.unit.prepared ≡ true → B told.tid told.serial told.moment = λ e. as_told B (c.in-Ok.ensures.waiting (sym own.prepared ∙ e) own.unit own.there) in
    by_kind own.unit.prepared
    (λ e. gone_aborted ts s log v x i b was clock k c.told_above.new.units us (c.told_above.ensures.same ∙ (waiting e).spent) (slots_if own.unit.prepared own.unit.serial log us e (waiting e).slots))
    (λ e. gone_aborted ts s log v x i b was clock k c.told_above.new.units us (c.told_above.ensures.same ∙ (active e).1.spent) (slots_else own.unit.prepared own.unit.serial log us e (active e).0))

pub returns-in-Ok-clause-order : goal.returns-in-Ok-clause-order
returns-in-Ok-clause-order g c =
    let ts = c.self.inside.begun.items in
    let s = c.self.inside.units in
    let log = c.self.inside.log in
    let v = c.blocks_are_whole.new.volume in
    let x = serial_of c.args.serial.now in
    let i = c.in-Some.place in
    let b = c.remove-tid.result in
    let was = c.args.self.now in
    let clock = c.args.clock.0 in
    let k : Handles ts s log v x i b was clock = record {
      stand = c.self.invariant.0;
      places = c.stand_in_order.ensures;
      found = sym (ap (position (is_of (serial_of c.args.serial.now))) c.deref.ensures.value) ∙ sym c.place_of.ensures ∙ c.in-Some.is;
      at = c.remove-tid.ensures.value;
      view = c.self.view_is;
      order = subst (calls_state.IsInOrder was) (sym c.blocks_are_whole.ensures.same) c.requires.order;
      early = subst calls_state.IsEarly (sym c.blocks_are_whole.ensures.same) c.requires.early;
      clock_early = c.requires.clock;
      tid = c.have_ids.ensures.tid;
      serial = c.have_ids.ensures.serial;
    } in
    let own = own_at ts s log v x i b was clock k in
    let t = c.abort_held.new.units in
    let us = c.abort_held.new.log in
    let w = c.abort_held.new.volume in
    let reason = c.args.reason in
    let told = c.told_above.result in
    let same = c.told_above.ensures.told in
    let A : Tid → Serial → Moment → Type 0 = λ tid serial moment. AbortsUnit (place_in b.token) own.unit tid serial reason clock moment.0 s v t w in
    let B : Tid → Serial → Moment → Type 0 = λ tid serial moment. AbortsPrepared (place_in b.token) own.unit tid serial reason clock moment.0 s log v t us w in
    let as_told : (P : Tid → Serial → Moment → Type 0) → P c.in-Ok.settled.tid c.in-Ok.settled.serial c.in-Ok.settled.moment → P told.tid told.serial told.moment = λ P p. subst (λ (y : Tid). P y told.serial told.moment) (sym same.0)
    (subst (λ (y : Serial). P c.in-Ok.settled.tid y told.moment) (sym same.1) (subst (λ (y : Moment). P c.in-Ok.settled.tid c.in-Ok.settled.serial y) (sym same.2) p)) in
    let active : own.unit.prepared ≡ false → (us ≡ log) × A told.tid told.serial told.moment = λ e. (let r = c.in-Ok.ensures.active (active_of b.token own.held (sym own.prepared ∙ e)) in (r.0, as_told A (r.1 own.unit own.there))) in
    let waiting : own.unit.prepared ≡ true → B told.tid told.serial told.moment = λ e. as_told B (c.in-Ok.ensures.waiting (sym own.prepared ∙ e) own.unit own.there) in
    let made = abortion_of own.unit told.tid told.serial reason told.moment.0 t in
    let long = by_kind own.unit.prepared (λ e. let m = (waiting e).aborts in set_long (serial_of told.serial) None log us m.mid m.makes.logged m.makes.log) (λ e. ap (λ (zs : Slots). length zs) (active e).0) in
    let start = by_kind own.unit.prepared (λ e. gives_start made log us v w (waiting e).aborts) (λ e. aborts_start made v w (active e).1.aborts) in
    subst (λ (z : rms.UnitsState). calls_state.IsInOrder (seen z us) w) (sym c.told_above.ensures.same) (order_then ts s log v x i b was clock k t us w c.stand_in_order-in-Ok.ensures long start c.in-Ok.ensures.order)

pub returns-in-Ok-clause-moment : goal.returns-in-Ok-clause-moment
returns-in-Ok-clause-moment g c =
    let ts = c.self.inside.begun.items in
    let s = c.self.inside.units in
    let log = c.self.inside.log in
    let v = c.blocks_are_whole.new.volume in
    let x = serial_of c.args.serial.now in
    let i = c.in-Some.place in
    let b = c.remove-tid.result in
    let was = c.args.self.now in
    let clock = c.args.clock.0 in
    let k : Handles ts s log v x i b was clock = record {
      stand = c.self.invariant.0;
      places = c.stand_in_order.ensures;
      found = sym (ap (position (is_of (serial_of c.args.serial.now))) c.deref.ensures.value) ∙ sym c.place_of.ensures ∙ c.in-Some.is;
      at = c.remove-tid.ensures.value;
      view = c.self.view_is;
      order = subst (calls_state.IsInOrder was) (sym c.blocks_are_whole.ensures.same) c.requires.order;
      early = subst calls_state.IsEarly (sym c.blocks_are_whole.ensures.same) c.requires.early;
      clock_early = c.requires.clock;
      tid = c.have_ids.ensures.tid;
      serial = c.have_ids.ensures.serial;
    } in
    let own = own_at ts s log v x i b was clock k in
    let t = c.abort_held.new.units in
    let us = c.abort_held.new.log in
    let w = c.abort_held.new.volume in
    let reason = c.args.reason in
    let told = c.told_above.result in
    let same = c.told_above.ensures.told in
    let A : Tid → Serial → Moment → Type 0 = λ tid serial moment. AbortsUnit (place_in b.token) own.unit tid serial reason clock moment.0 s v t w in
    let B : Tid → Serial → Moment → Type 0 = λ tid serial moment. AbortsPrepared (place_in b.token) own.unit tid serial reason clock moment.0 s log v t us w in
    let as_told : (P : Tid → Serial → Moment → Type 0) → P c.in-Ok.settled.tid c.in-Ok.settled.serial c.in-Ok.settled.moment → P told.tid told.serial told.moment = λ P p. subst (λ (y : Tid). P y told.serial told.moment) (sym same.0)
    (subst (λ (y : Serial). P c.in-Ok.settled.tid y told.moment) (sym same.1) (subst (λ (y : Moment). P c.in-Ok.settled.tid c.in-Ok.settled.serial y) (sym same.2) p)) in
    let active : own.unit.prepared ≡ false → (us ≡ log) × A told.tid told.serial told.moment = λ e. (let r = c.in-Ok.ensures.active (active_of b.token own.held (sym own.prepared ∙ e)) in (r.0, as_told A (r.1 own.unit own.there))) in
    let waiting : own.unit.prepared ≡ true → B told.tid told.serial told.moment = λ e. as_told B (c.in-Ok.ensures.waiting (sym own.prepared ∙ e) own.unit own.there) in
    by_kind own.unit.prepared (λ e. sym (ap (λ (z : Catalog). z.home.greatest_moment.0) (waiting e).aborts.makes.makes.settles.catalog)) (λ e. sym (ap (λ (z : Catalog). z.home.greatest_moment.0) (active e).1.aborts.makes.settles.catalog))

pub returns-in-Ok-clause-done : goal.returns-in-Ok-clause-done
returns-in-Ok-clause-done g c =
    let ts = c.self.inside.begun.items in
    let s = c.self.inside.units in
    let log = c.self.inside.log in
    let v = c.blocks_are_whole.new.volume in
    let x = serial_of c.args.serial.now in
    let i = c.in-Some.place in
    let b = c.remove-tid.result in
    let was = c.args.self.now in
    let clock = c.args.clock.0 in
    let k : Handles ts s log v x i b was clock = record {
      stand = c.self.invariant.0;
      places = c.stand_in_order.ensures;
      found = sym (ap (position (is_of (serial_of c.args.serial.now))) c.deref.ensures.value) ∙ sym c.place_of.ensures ∙ c.in-Some.is;
      at = c.remove-tid.ensures.value;
      view = c.self.view_is;
      order = subst (calls_state.IsInOrder was) (sym c.blocks_are_whole.ensures.same) c.requires.order;
      early = subst calls_state.IsEarly (sym c.blocks_are_whole.ensures.same) c.requires.early;
      clock_early = c.requires.clock;
      tid = c.have_ids.ensures.tid;
      serial = c.have_ids.ensures.serial;
    } in
    let own = own_at ts s log v x i b was clock k in
    let t = c.abort_held.new.units in
    let us = c.abort_held.new.log in
    let w = c.abort_held.new.volume in
    let reason = c.args.reason in
    let told = c.told_above.result in
    let same = c.told_above.ensures.told in
    let A : Tid → Serial → Moment → Type 0 = λ tid serial moment. AbortsUnit (place_in b.token) own.unit tid serial reason clock moment.0 s v t w in
    let B : Tid → Serial → Moment → Type 0 = λ tid serial moment. AbortsPrepared (place_in b.token) own.unit tid serial reason clock moment.0 s log v t us w in
    let as_told : (P : Tid → Serial → Moment → Type 0) → P c.in-Ok.settled.tid c.in-Ok.settled.serial c.in-Ok.settled.moment → P told.tid told.serial told.moment = λ P p. subst (λ (y : Tid). P y told.serial told.moment) (sym same.0)
    (subst (λ (y : Serial). P c.in-Ok.settled.tid y told.moment) (sym same.1) (subst (λ (y : Moment). P c.in-Ok.settled.tid c.in-Ok.settled.serial y) (sym same.2) p)) in
    let active : own.unit.prepared ≡ false → (us ≡ log) × A told.tid told.serial told.moment = λ e. (let r = c.in-Ok.ensures.active (active_of b.token own.held (sym own.prepared ∙ e)) in (r.0, as_told A (r.1 own.unit own.there))) in
    let waiting : own.unit.prepared ≡ true → B told.tid told.serial told.moment = λ e. as_told B (c.in-Ok.ensures.waiting (sym own.prepared ∙ e) own.unit own.there) in
    let may = may_settle ts s log v x i b was clock k None tt in
    let size = c.abort_held.ensures.goes.size in
    let outer : calls.SettlesOk own.unit.serial Abort (reason_of reason) None clock told (seen s log) v (seen t us) w → calls.SettlesOk x Abort (reason_of reason) None clock told was c.args.volume.now (seen c.told_above.new.units us) w = λ d.
    subst (λ (z : rms.UnitsState). calls.SettlesOk x Abort (reason_of reason) None clock told was c.args.volume.now (seen z us) w) (sym c.told_above.ensures.same)
    (subst (λ (z : VolumeState). calls.SettlesOk x Abort (reason_of reason) None clock told was z (seen t us) w) c.blocks_are_whole.ensures.same
    (subst (λ (z : UnitsState). calls.SettlesOk x Abort (reason_of reason) None clock told z v (seen t us) w) c.self.view_is
    (subst (λ (y : Id). calls.SettlesOk y Abort (reason_of reason) None clock told (seen s log) v (seen t us) w) own.serial d))) in
    by_kind own.unit.prepared
    (λ e. outer (gives_ok (place_in b.token) own.unit s t log us v w clock may reason told (waiting e) size))
    (λ e. outer (subst (λ (zs : Slots). calls.SettlesOk own.unit.serial Abort (reason_of reason) None clock told (seen s log) v (seen t zs) w) (sym (active e).0) (aborts_ok (place_in b.token) own.unit s t log v w clock may reason e told (active e).1 size)))
