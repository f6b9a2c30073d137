use Rattle.std.proofs.Common.{◌<◌, length, subst, sym, rules}
use Rattle.run_nodes.specs.Held.{kept_all, names_of}
use Rattle.run_nodes.proofs.Each.{first_serves, first_tells, link_is_served, link_tells, loop_serves, loop_tells, second_serves, second_tells, within_names}
use Rattle.run_nodes.proofs.Entries.{same_names}
use Rattle.run_nodes.proofs.statements.lose_link.Goals as goal

pub returns-in_default-clause-tells : goal.returns-in_default-clause-tells
returns-in_default-clause-tells g c =
    let state = g.D.Disk.state in
    let units = g.U.RecoveryUnits.state in
    let ns = c.args.nodes.now in
    let ks = kept_all state units ns in
    let s = c.args.shared.now in
    let same = same_names state units c.requires.nodes.0 s ns.nodes.entries c.requires.nodes.2 in
    let a = g.E.Emit.shows c.args.out.now in
    first_tells (names_of ns) ks s same c.requires.apart c.args.a.now c.args.b.now a (g.E.Emit.shows c.emit.new.self) c.in_default.ensures.missing c.emit.ensures.emits

pub returns-in_default-place_of-clause-tells : goal.returns-in_default-place_of-clause-tells
returns-in_default-place_of-clause-tells g c =
    let state = g.D.Disk.state in
    let units = g.U.RecoveryUnits.state in
    let ns = c.args.nodes.now in
    let ks = kept_all state units ns in
    let s = c.args.shared.now in
    let same = same_names state units c.requires.nodes.0 s ns.nodes.entries c.requires.nodes.2 in
    let a = g.E.Emit.shows c.args.out.now in
    second_tells (names_of ns) ks s same c.requires.apart c.args.a.now c.args.b.now c.in-Some.first a (g.E.Emit.shows c.emit-in_default-place_of.new.self) c.in-Some.ensures.there c.in_default-place_of.ensures.missing c.emit-in_default-place_of.ensures.emits

pub returns-then-eq-clause-tells : goal.returns-then-eq-clause-tells
returns-then-eq-clause-tells g c =
    let state = g.D.Disk.state in
    let units = g.U.RecoveryUnits.state in
    let ns = c.args.nodes.now in
    let ks = kept_all state units ns in
    let s = c.args.shared.now in
    let same = same_names state units c.requires.nodes.0 s ns.nodes.entries c.requires.nodes.2 in
    let a = g.E.Emit.shows c.args.out.now in
    loop_tells (names_of ns) ks s same c.requires.apart c.args.a.now c.args.b.now c.in-Some.first c.in-Some-place_of.second a (g.E.Emit.shows c.emit-then-eq.new.self) c.in-Some.ensures.there c.in-Some-place_of.ensures.there c.emit-then-eq.ensures.emits

pub returns-clause-tells : goal.returns-clause-tells
returns-clause-tells g c =
    let state = g.D.Disk.state in
    let units = g.U.RecoveryUnits.state in
    let ns = c.args.nodes.now in
    let ks = kept_all state units ns in
    let s = c.args.shared.now in
    let same = same_names state units c.requires.nodes.0 s ns.nodes.entries c.requires.nodes.2 in
    let a = g.E.Emit.shows c.args.out.now in
    link_tells (names_of ns) ks s same c.requires.apart c.args.a.now c.args.b.now c.in-Some.first c.in-Some-place_of.second a (g.E.Emit.shows c.lose_one.new.out) (g.E.Emit.shows c.lose_one-2.new.out) (g.E.Emit.shows c.emit-2.new.self) (kept_all state units c.lose_one.new.nodes) c.lose_one.new.shared (kept_all state units c.lose_one-2.new.nodes) c.lose_one-2.new.shared c.in-Some.ensures.there c.in-Some-place_of.ensures.there c.lose_one.ensures.does c.lose_one-2.ensures.does c.emit-2.ensures.emits

pub returns-in_default-clause-serves : goal.returns-in_default-clause-serves
returns-in_default-clause-serves g c = λ logs w h kept never.
    let state = g.D.Disk.state in
    let units = g.U.RecoveryUnits.state in
    let ns = c.args.nodes.now in
    let ks = kept_all state units ns in
    let s = c.args.shared.now in
    let same = same_names state units c.requires.nodes.0 s ns.nodes.entries c.requires.nodes.2 in
    let a = g.E.Emit.shows c.args.out.now in
    first_serves (names_of ns) ks s same c.requires.apart c.args.a.now c.args.b.now a (g.E.Emit.shows c.emit.new.self) c.in_default.ensures.missing c.emit.ensures.emits logs w h

pub returns-in_default-place_of-clause-serves : goal.returns-in_default-place_of-clause-serves
returns-in_default-place_of-clause-serves g c = λ logs w h kept never.
    let state = g.D.Disk.state in
    let units = g.U.RecoveryUnits.state in
    let ns = c.args.nodes.now in
    let ks = kept_all state units ns in
    let s = c.args.shared.now in
    let same = same_names state units c.requires.nodes.0 s ns.nodes.entries c.requires.nodes.2 in
    let a = g.E.Emit.shows c.args.out.now in
    second_serves (names_of ns) ks s same c.requires.apart c.args.a.now c.args.b.now c.in-Some.first a (g.E.Emit.shows c.emit-in_default-place_of.new.self) c.in-Some.ensures.there c.in_default-place_of.ensures.missing c.emit-in_default-place_of.ensures.emits logs w h

pub returns-then-eq-clause-serves : goal.returns-then-eq-clause-serves
returns-then-eq-clause-serves g c = λ logs w h kept never.
    let state = g.D.Disk.state in
    let units = g.U.RecoveryUnits.state in
    let ns = c.args.nodes.now in
    let ks = kept_all state units ns in
    let s = c.args.shared.now in
    let same = same_names state units c.requires.nodes.0 s ns.nodes.entries c.requires.nodes.2 in
    let a = g.E.Emit.shows c.args.out.now in
    loop_serves (names_of ns) ks s same c.requires.apart c.args.a.now c.args.b.now c.in-Some.first c.in-Some-place_of.second a (g.E.Emit.shows c.emit-then-eq.new.self) c.in-Some.ensures.there c.in-Some-place_of.ensures.there (search rules) c.emit-then-eq.ensures.emits logs w h

pub returns-clause-serves : goal.returns-clause-serves
returns-clause-serves g c = λ logs w h kept never.
    let state = g.D.Disk.state in
    let units = g.U.RecoveryUnits.state in
    let ns = c.args.nodes.now in
    let ks = kept_all state units ns in
    let s = c.args.shared.now in
    let same = same_names state units c.requires.nodes.0 s ns.nodes.entries c.requires.nodes.2 in
    let a = g.E.Emit.shows c.args.out.now in
    (link_is_served (names_of ns) ks s same c.requires.apart) c.worlds_stay_within.ensures.stays c.args.a.now c.args.b.now c.in-Some.first c.in-Some-place_of.second a (g.E.Emit.shows c.lose_one.new.out) (g.E.Emit.shows c.lose_one-2.new.out) (g.E.Emit.shows c.emit-2.new.self) (kept_all state units c.lose_one.new.nodes) c.lose_one.new.shared (kept_all state units c.lose_one-2.new.nodes) c.lose_one-2.new.shared c.in-Some.ensures.there c.in-Some-place_of.ensures.there (search rules) c.lose_one.ensures.does c.lose_one-2.ensures.does c.emit-2.ensures.emits logs w h kept

pub lose_one-requires-clause-there : goal.lose_one-requires-clause-there
lose_one-requires-clause-there g c = within_names (names_of c.args.nodes.now) c.in-Some.first c.args.a.now c.in-Some.ensures.there

pub lose_one-requires-2-clause-there : goal.lose_one-requires-2-clause-there
lose_one-requires-2-clause-there g c = subst (λ ns. c.in-Some-place_of.second < length ns) (sym c.lose_one.ensures.names) (within_names (names_of c.args.nodes.now) c.in-Some-place_of.second c.args.b.now c.in-Some-place_of.ensures.there)

pub lose_one-requires-2-clause-nodes : goal.lose_one-requires-2-clause-nodes
lose_one-requires-2-clause-nodes g c = (c.requires.nodes.0, c.requires.nodes.1, c.lose_one.ensures.nodes c.requires.nodes.0 c.requires.nodes.2)

pub returns-clause-nodes : goal.returns-clause-nodes
returns-clause-nodes g c = λ count h. c.lose_one-2.ensures.nodes count (c.lose_one.ensures.nodes count h)
