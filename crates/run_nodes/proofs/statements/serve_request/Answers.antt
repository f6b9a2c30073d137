use Rattle.std.proofs.Common.{◌<◌, length, subst, sym, rules}
use Rattle.script_lang.specs.Statements.{request_of}
use Rattle.run_nodes.specs.Held.{kept_all, names_of}
use Rattle.script_lang.specs.script_model.Statements.{At}
use Rattle.run_nodes.specs.Names.{IsOtherThere}
use Rattle.run_nodes.specs.Together.{AnswersTogether, ServesTogether}
use Rattle.run_nodes.proofs.Each.{alone_serves, alone_tells, can_be_told, clock_is_served, clock_tells, not_clock, nowhere_serves, nowhere_tells, request_is_served, request_tells, within_names}
use Rattle.run_nodes.proofs.Entries.{more_nodes, same_names}
use Rattle.run_nodes.proofs.statements.serve_request.Goals as goal

pub returns-in_default-clause-nodes : goal.returns-in_default-clause-nodes
returns-in_default-clause-nodes g c = λ count h. more_nodes g.D.Disk.state g.U.RecoveryUnits.state count c.args.shared.now c.args.nodes.now.nodes.entries h

pub returns-then-not-is_other_there-clause-nodes : goal.returns-then-not-is_other_there-clause-nodes
returns-then-not-is_other_there-clause-nodes g c = λ count h. more_nodes g.D.Disk.state g.U.RecoveryUnits.state count c.args.shared.now c.args.nodes.now.nodes.entries h

pub returns-in_default-clause-tells : goal.returns-in_default-clause-tells
returns-in_default-clause-tells g c =
    let state = g.D.Disk.state in
    let units = g.U.RecoveryUnits.state in
    let ns = c.args.nodes.now in
    let ks = kept_all state units ns in
    let s = c.args.shared.now in
    let same = same_names state units c.requires.nodes.0 s ns.nodes.entries c.requires.nodes.2 in
    let a = g.E.Emit.shows c.args.out.now in
    nowhere_tells (names_of ns) ks s same c.requires.apart c.args.name.now (request_of c.args.literals.now c.args.request.now) a (g.E.Emit.shows c.emit.new.self) c.in_default.ensures.missing c.emit.ensures.emits

pub returns-then-not-is_other_there-clause-tells : goal.returns-then-not-is_other_there-clause-tells
returns-then-not-is_other_there-clause-tells g c =
    let state = g.D.Disk.state in
    let units = g.U.RecoveryUnits.state in
    let ns = c.args.nodes.now in
    let ks = kept_all state units ns in
    let s = c.args.shared.now in
    let same = same_names state units c.requires.nodes.0 s ns.nodes.entries c.requires.nodes.2 in
    let a = g.E.Emit.shows c.args.out.now in
    alone_tells (names_of ns) ks s same c.requires.apart c.args.name.now c.in-Some.place c.args.request.now c.args.literals.now a (g.E.Emit.shows c.emit-then-not-is_other_there.new.self) c.in-Some.ensures.there (search rules) c.emit-then-not-is_other_there.ensures.emits

pub returns-in-Clock-clause-tells : goal.returns-in-Clock-clause-tells
returns-in-Clock-clause-tells g c =
    let state = g.D.Disk.state in
    let units = g.U.RecoveryUnits.state in
    let ns = c.args.nodes.now in
    let ks = kept_all state units ns in
    let s = c.args.shared.now in
    let same = same_names state units c.requires.nodes.0 s ns.nodes.entries c.requires.nodes.2 in
    let a = g.E.Emit.shows c.args.out.now in
    subst (λ r. AnswersTogether (names_of ns) (At c.args.name.now (request_of c.args.literals.now r)) a (g.E.Emit.shows c.emit-in-Clock.new.self) ks s (kept_all state units c.tick.new.nodes) c.tick.new.shared) (sym c.in-Clock.is)
    (clock_tells (names_of ns) ks s same c.requires.apart c.args.name.now c.in-Some.place c.in-Clock.now.0 a (g.E.Emit.shows c.tick.new.out) (g.E.Emit.shows c.emit-in-Clock.new.self) (kept_all state units c.set_clock.new.self) (kept_all state units c.tick.new.nodes) c.tick.new.shared c.in-Some.ensures.there (c.set_clock.ensures.clocked s) c.tick.ensures.does c.emit-in-Clock.ensures.emits)

pub returns-in_default-clause-serves : goal.returns-in_default-clause-serves
returns-in_default-clause-serves g c = λ logs w h kept never.
    let state = g.D.Disk.state in
    let units = g.U.RecoveryUnits.state in
    let ns = c.args.nodes.now in
    let ks = kept_all state units ns in
    let s = c.args.shared.now in
    let same = same_names state units c.requires.nodes.0 s ns.nodes.entries c.requires.nodes.2 in
    let a = g.E.Emit.shows c.args.out.now in
    nowhere_serves (names_of ns) ks s same c.requires.apart c.args.name.now (request_of c.args.literals.now c.args.request.now) a (g.E.Emit.shows c.emit.new.self) c.in_default.ensures.missing c.emit.ensures.emits logs w h

pub returns-then-not-is_other_there-clause-serves : goal.returns-then-not-is_other_there-clause-serves
returns-then-not-is_other_there-clause-serves g c = λ logs w h kept never.
    let state = g.D.Disk.state in
    let units = g.U.RecoveryUnits.state in
    let ns = c.args.nodes.now in
    let ks = kept_all state units ns in
    let s = c.args.shared.now in
    let same = same_names state units c.requires.nodes.0 s ns.nodes.entries c.requires.nodes.2 in
    let a = g.E.Emit.shows c.args.out.now in
    alone_serves (names_of ns) ks s same c.requires.apart c.args.name.now c.in-Some.place c.args.request.now c.args.literals.now a (g.E.Emit.shows c.emit-then-not-is_other_there.new.self) c.in-Some.ensures.there (search rules) c.emit-then-not-is_other_there.ensures.emits logs w h

pub returns-in-Clock-clause-serves : goal.returns-in-Clock-clause-serves
returns-in-Clock-clause-serves g c = λ logs w h kept never.
    let state = g.D.Disk.state in
    let units = g.U.RecoveryUnits.state in
    let ns = c.args.nodes.now in
    let ks = kept_all state units ns in
    let s = c.args.shared.now in
    let same = same_names state units c.requires.nodes.0 s ns.nodes.entries c.requires.nodes.2 in
    let a = g.E.Emit.shows c.args.out.now in
    subst (λ r. ServesTogether logs w (At c.args.name.now (request_of c.args.literals.now r)) a (g.E.Emit.shows c.emit-in-Clock.new.self) (kept_all state units c.tick.new.nodes) c.tick.new.shared) (sym c.in-Clock.is)
    (clock_is_served (names_of ns) ks s same c.requires.apart c.worlds_stay_within.ensures.stays c.args.name.now c.in-Some.place c.in-Clock.now.0 a (g.E.Emit.shows c.tick.new.out) (g.E.Emit.shows c.emit-in-Clock.new.self) (kept_all state units c.set_clock.new.self) (kept_all state units c.tick.new.nodes) c.tick.new.shared c.in-Some.ensures.there (c.set_clock.ensures.clocked s) c.tick.ensures.does c.emit-in-Clock.ensures.emits logs w h kept)

pub set_clock-requires-clause-there : goal.set_clock-requires-clause-there
set_clock-requires-clause-there g c = within_names (names_of c.args.nodes.now) c.in-Some.place c.args.name.now c.in-Some.ensures.there

pub tick-requires-clause-there : goal.tick-requires-clause-there
tick-requires-clause-there g c = subst (λ ns. c.in-Some.place < length ns) (sym c.set_clock.ensures.names) (within_names (names_of c.args.nodes.now) c.in-Some.place c.args.name.now c.in-Some.ensures.there)

pub tick-requires-clause-nodes : goal.tick-requires-clause-nodes
tick-requires-clause-nodes g c = (c.requires.nodes.0, c.requires.nodes.1, c.set_clock.ensures.nodes c.requires.nodes.0 c.args.shared.now c.requires.nodes.2)

pub serve-requires : goal.serve-requires
serve-requires g c = record {
  there = within_names (names_of c.args.nodes.now) c.in-Some.place c.args.name.now c.in-Some.ensures.there;
  answered = not_clock c.args.request.now c.args.literals.now c.in_default-request.not-Clock;
  times = can_be_told c.args.name.now (request_of c.args.literals.now c.args.request.now) c.requires.timely;
  nodes = c.requires.nodes;
}

pub returns-in-Clock-clause-nodes : goal.returns-in-Clock-clause-nodes
returns-in-Clock-clause-nodes g c = λ count h.
    more_nodes g.D.Disk.state g.U.RecoveryUnits.state count c.tick.new.shared c.tick.new.nodes.nodes.entries (c.tick.ensures.nodes count (c.set_clock.ensures.nodes count c.args.shared.now h))

pub returns-in_default-request : goal.returns-in_default-request
returns-in_default-request g c =
    let state = g.D.Disk.state in
    let units = g.U.RecoveryUnits.state in
    let ns = c.args.nodes.now in
    let ks = kept_all state units ns in
    let s = c.args.shared.now in
    let same = same_names state units c.requires.nodes.0 s ns.nodes.entries c.requires.nodes.2 in
    let a = g.E.Emit.shows c.args.out.now in
    let there : IsOtherThere (names_of ns) c.args.request.now = search rules in
    record {
      nodes = c.serve.ensures.nodes;
      names = c.serve.ensures.names;
      place = c.serve.ensures.place;
      since = c.serve.ensures.since;
      clocks = λ node e. c.serve.ensures.clocks;
      tells = request_tells (names_of ns) ks s same c.requires.apart c.args.name.now c.in-Some.place c.args.request.now c.args.literals.now a (g.E.Emit.shows c.serve.new.out) (kept_all state units c.serve.new.self) c.serve.new.shared c.in-Some.ensures.there there c.serve.ensures.does;
      serves = λ logs w h kept never.
          request_is_served (names_of ns) ks s same c.requires.apart c.args.name.now c.in-Some.place c.args.request.now c.args.literals.now a (g.E.Emit.shows c.serve.new.out) (kept_all state units c.serve.new.self) c.serve.new.shared c.in-Some.ensures.there there
          (not_clock c.args.request.now c.args.literals.now c.in_default-request.not-Clock) c.serve.ensures.does logs w h kept never;
    }
