use Rattle.std.proofs.Common.{◌≡◌, Some, None, rules}
use Rattle.net_wire.specs.Messages.{message_of}
use Rattle.said_steps.specs.run_model.Statements.{message_at}
use Rattle.run_nodes.specs.Held.{kept_all, names_of}
use Rattle.run_nodes.proofs.Each.{lost_serves, lost_tells, no_message_serves, no_message_tells, on_serves, on_tells, over_serves, over_tells, within_names}
use Rattle.run_nodes.proofs.Entries.{same_names}
use Rattle.run_nodes.proofs.statements.deliver.Goals as goal

pub returns-in_default-clause-tells : goal.returns-in_default-clause-tells
returns-in_default-clause-tells g c =
    let state = g.D.Disk.state in
    let units = g.U.RecoveryUnits.state in
    let none : message_at c.args.number c.args.shared.now.wire ≡ None = search rules in
    no_message_tells (names_of c.args.nodes.now) (kept_all state units c.args.nodes.now) c.args.shared.now (same_names state units c.requires.nodes.0 c.args.shared.now c.args.nodes.now.nodes.entries c.requires.nodes.2) c.requires.apart
    c.args.number (g.E.Emit.shows c.args.out.now) (g.E.Emit.shows c.emit.new.self) none c.emit.ensures.emits

pub returns-in_default-clause-serves : goal.returns-in_default-clause-serves
returns-in_default-clause-serves g c = λ logs w h kept never.
    let state = g.D.Disk.state in
    let units = g.U.RecoveryUnits.state in
    let none : message_at c.args.number c.args.shared.now.wire ≡ None = search rules in
    no_message_serves (names_of c.args.nodes.now) (kept_all state units c.args.nodes.now) c.args.shared.now (same_names state units c.requires.nodes.0 c.args.shared.now c.args.nodes.now.nodes.entries c.requires.nodes.2) c.requires.apart
    c.args.number (g.E.Emit.shows c.args.out.now) (g.E.Emit.shows c.emit.new.self) none c.emit.ensures.emits logs w h

pub returns-in_default-place_of-clause-tells : goal.returns-in_default-place_of-clause-tells
returns-in_default-place_of-clause-tells g c =
    let state = g.D.Disk.state in
    let units = g.U.RecoveryUnits.state in
    let there : message_at c.args.number c.args.shared.now.wire ≡ Some (message_of c.in-Some.message) = search rules in
    lost_tells (names_of c.args.nodes.now) (kept_all state units c.args.nodes.now) c.args.shared.now (same_names state units c.requires.nodes.0 c.args.shared.now c.args.nodes.now.nodes.entries c.requires.nodes.2) c.requires.apart
    c.args.number (message_of c.in-Some.message) (g.E.Emit.shows c.args.out.now) (g.E.Emit.shows c.emit-in_default-place_of.new.self) there (search rules) c.emit-in_default-place_of.ensures.emits

pub returns-in_default-place_of-clause-serves : goal.returns-in_default-place_of-clause-serves
returns-in_default-place_of-clause-serves g c = λ logs w h kept never.
    let state = g.D.Disk.state in
    let units = g.U.RecoveryUnits.state in
    let there : message_at c.args.number c.args.shared.now.wire ≡ Some (message_of c.in-Some.message) = search rules in
    lost_serves (names_of c.args.nodes.now) (kept_all state units c.args.nodes.now) c.args.shared.now (same_names state units c.requires.nodes.0 c.args.shared.now c.args.nodes.now.nodes.entries c.requires.nodes.2) c.requires.apart
    c.args.number (message_of c.in-Some.message) (g.E.Emit.shows c.args.out.now) (g.E.Emit.shows c.emit-in_default-place_of.new.self) there (search rules) c.emit-in_default-place_of.ensures.emits logs w h

pub take-requires-clause-there : goal.take-requires-clause-there
take-requires-clause-there g c = within_names (names_of c.args.nodes.now) c.in-Some-place_of.place c.in-Some.message.to c.in-Some-place_of.ensures.there

pub returns-in-GoesOn-clause-tells : goal.returns-in-GoesOn-clause-tells
returns-in-GoesOn-clause-tells g c =
    let state = g.D.Disk.state in
    let units = g.U.RecoveryUnits.state in
    let ns = c.args.nodes.now in
    let ks = kept_all state units ns in
    let s = c.args.shared.now in
    let same = same_names state units c.requires.nodes.0 s ns.nodes.entries c.requires.nodes.2 in
    let a = g.E.Emit.shows c.args.out.now in
    let there : message_at c.args.number c.args.shared.now.wire ≡ Some (message_of c.in-Some.message) = search rules in
    on_tells (names_of ns) ks s same c.requires.apart c.args.number c.in-Some-place_of.place (message_of c.in-Some.message) a (g.E.Emit.shows c.take.new.out) (g.E.Emit.shows c.emit-in-GoesOn.new.self) (kept_all state units c.take.new.self) c.take.new.shared there c.in-Some-place_of.ensures.there c.in-GoesOn.ensures.does c.emit-in-GoesOn.ensures.emits

pub returns-in-GoesOn-clause-serves : goal.returns-in-GoesOn-clause-serves
returns-in-GoesOn-clause-serves g c = λ logs w h kept never.
    let state = g.D.Disk.state in
    let units = g.U.RecoveryUnits.state in
    let ns = c.args.nodes.now in
    let ks = kept_all state units ns in
    let s = c.args.shared.now in
    let same = same_names state units c.requires.nodes.0 s ns.nodes.entries c.requires.nodes.2 in
    let a = g.E.Emit.shows c.args.out.now in
    let there : message_at c.args.number c.args.shared.now.wire ≡ Some (message_of c.in-Some.message) = search rules in
    on_serves (names_of ns) ks s same c.requires.apart c.args.number c.in-Some-place_of.place (message_of c.in-Some.message) a (g.E.Emit.shows c.take.new.out) (g.E.Emit.shows c.emit-in-GoesOn.new.self) (kept_all state units c.take.new.self) c.take.new.shared there c.in-Some-place_of.ensures.there c.in-GoesOn.ensures.does c.emit-in-GoesOn.ensures.emits logs w h kept

pub returns-in-Over-clause-tells : goal.returns-in-Over-clause-tells
returns-in-Over-clause-tells g c =
    let state = g.D.Disk.state in
    let units = g.U.RecoveryUnits.state in
    let ns = c.args.nodes.now in
    let ks = kept_all state units ns in
    let s = c.args.shared.now in
    let same = same_names state units c.requires.nodes.0 s ns.nodes.entries c.requires.nodes.2 in
    let a = g.E.Emit.shows c.args.out.now in
    let there : message_at c.args.number c.args.shared.now.wire ≡ Some (message_of c.in-Some.message) = search rules in
    over_tells (names_of ns) ks s same c.requires.apart c.args.number c.in-Some-place_of.place (message_of c.in-Some.message) a (g.E.Emit.shows c.take.new.out) (kept_all state units c.take.new.self) c.take.new.shared there c.in-Some-place_of.ensures.there c.in-Over.ensures.does

pub returns-in-Over-clause-serves : goal.returns-in-Over-clause-serves
returns-in-Over-clause-serves g c = λ logs w h kept never.
    let state = g.D.Disk.state in
    let units = g.U.RecoveryUnits.state in
    let ns = c.args.nodes.now in
    let ks = kept_all state units ns in
    let s = c.args.shared.now in
    let same = same_names state units c.requires.nodes.0 s ns.nodes.entries c.requires.nodes.2 in
    let a = g.E.Emit.shows c.args.out.now in
    let there : message_at c.args.number c.args.shared.now.wire ≡ Some (message_of c.in-Some.message) = search rules in
    over_serves (names_of ns) ks s same c.requires.apart c.args.number c.in-Some-place_of.place (message_of c.in-Some.message) a (g.E.Emit.shows c.take.new.out) (kept_all state units c.take.new.self) c.take.new.shared there c.in-Some-place_of.ensures.there c.in-Over.ensures.does logs w h kept
