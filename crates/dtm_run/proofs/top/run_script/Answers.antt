use Rattle.std.proofs.Common.{◌≤◌, map, length, refl, sym, ◌∙◌, ap, subst, arith}
use Rattle.day_run.specs.run_nodes.Held.{kept_all, names_of}
use Rattle.day_run.specs.run_nodes.Names.{AreApart}
use Rattle.day_run.specs.run_nodes.Together.{disks_of}
use Rattle.dtm_run.specs.Racks.{names_in, states_in}
use Rattle.dtm_run.specs.Headline.{AllGo}
use Rattle.dtm_run.proofs.Leading.{all_stay}
use Rattle.dtm_run.proofs.Taking.{new_disks, new_names, new_nodes, new_unsaid, new_zero}
use Rattle.dtm_run.proofs.Telling.{tells_in, tells_memory, tells_memory_on}
use Rattle.dtm_run.proofs.TopLemmas.{all_stay_on, memory_runs, memory_runs_on, rack_as, rack_on, runs_in}
use Rattle.dtm_run.proofs.top.run_script.Goals as goal

pub returns-in_default-clause-runs : goal.returns-in_default-clause-runs
returns-in_default-clause-runs g c = memory_runs (names_in c.args.rack.now) (states_in g.D.Disk.state c.args.rack.now) _ _

pub returns-in_default-clause-disks : goal.returns-in_default-clause-disks
returns-in_default-clause-disks g c = all_stay (states_in g.D.Disk.state c.args.rack.now)

pub returns-in_default-clause-calls : goal.returns-in_default-clause-calls
returns-in_default-clause-calls g c = tells_memory (names_in c.args.rack.now) (states_in g.D.Disk.state c.args.rack.now) _ _

pub returns-in_default-reserve-clause-runs : goal.returns-in_default-reserve-clause-runs
returns-in_default-reserve-clause-runs g c = memory_runs (names_in c.args.rack.now) (states_in g.D.Disk.state c.args.rack.now) _ _

pub returns-in_default-reserve-clause-disks : goal.returns-in_default-reserve-clause-disks
returns-in_default-reserve-clause-disks g c = all_stay (states_in g.D.Disk.state c.args.rack.now)

pub returns-in_default-reserve-clause-calls : goal.returns-in_default-reserve-clause-calls
returns-in_default-reserve-clause-calls g c = tells_memory (names_in c.args.rack.now) (states_in g.D.Disk.state c.args.rack.now) _ _

pub returns-in_default-reserve-2-clause-runs : goal.returns-in_default-reserve-2-clause-runs
returns-in_default-reserve-2-clause-runs g c = memory_runs (names_in c.args.rack.now) (states_in g.D.Disk.state c.args.rack.now) _ _

pub returns-in_default-reserve-2-clause-disks : goal.returns-in_default-reserve-2-clause-disks
returns-in_default-reserve-2-clause-disks g c = all_stay (states_in g.D.Disk.state c.args.rack.now)

pub returns-in_default-reserve-2-clause-calls : goal.returns-in_default-reserve-2-clause-calls
returns-in_default-reserve-2-clause-calls g c = tells_memory (names_in c.args.rack.now) (states_in g.D.Disk.state c.args.rack.now) _ _

pub returns-in_default-reserve-3-clause-runs : goal.returns-in_default-reserve-3-clause-runs
returns-in_default-reserve-3-clause-runs g c = memory_runs (names_in c.args.rack.now) (states_in g.D.Disk.state c.args.rack.now) _ _

pub returns-in_default-reserve-3-clause-disks : goal.returns-in_default-reserve-3-clause-disks
returns-in_default-reserve-3-clause-disks g c = all_stay (states_in g.D.Disk.state c.args.rack.now)

pub returns-in_default-reserve-3-clause-calls : goal.returns-in_default-reserve-3-clause-calls
returns-in_default-reserve-3-clause-calls g c = tells_memory (names_in c.args.rack.now) (states_in g.D.Disk.state c.args.rack.now) _ _

pub returns-in_default-make_room-clause-runs : goal.returns-in_default-make_room-clause-runs
returns-in_default-make_room-clause-runs g c = memory_runs_on g.D.Disk.state c.args.rack.now.nodes.entries c.make_room.new.self.nodes.entries _ _ c.make_room.ensures.same

pub returns-in_default-make_room-clause-disks : goal.returns-in_default-make_room-clause-disks
returns-in_default-make_room-clause-disks g c = all_stay_on g.D.Disk.state c.args.rack.now.nodes.entries c.make_room.new.self.nodes.entries c.make_room.ensures.same

pub returns-in_default-make_room-clause-calls : goal.returns-in_default-make_room-clause-calls
returns-in_default-make_room-clause-calls g c = tells_memory_on g.D.Disk.state c.args.rack.now.nodes.entries c.make_room.new.self.nodes.entries _ _ c.make_room.ensures.same

pub returns-in_default-make_room-clause-names : goal.returns-in_default-make_room-clause-names
returns-in_default-make_room-clause-names g c = ap (map (λ node. node.0)) c.make_room.ensures.same

pub returns-in_default-make_room-clause-memory : goal.returns-in_default-make_room-clause-memory
returns-in_default-make_room-clause-memory g c = λ e. (refl, refl, ap (map (λ node. node.1)) c.make_room.ensures.same)

pub returns-in_default-make_room-clause-rack : goal.returns-in_default-make_room-clause-rack
returns-in_default-make_room-clause-rack g c = rack_as g.D.Disk.state c.args.rack.now c.make_room.new.self c.make_room.ensures.same c.requires.rack

pub take_out-requires-clause-rack : goal.take_out-requires-clause-rack
take_out-requires-clause-rack g c = rack_as g.D.Disk.state c.args.rack.now c.make_room.new.self c.make_room.ensures.same c.requires.rack

pub drive-exit-requires-clause-apart : goal.drive-exit-requires-clause-apart
drive-exit-requires-clause-apart g c =
    let state = g.D.Disk.state in
    let units = g.U.RecoveryUnits.state in
    let ps = c.make_room.new.self.nodes.entries in
    let same = c.in-Ok-make_room.ensures.same in
    let es = c.take_out.new.nodes.nodes.entries in
    let names = new_names state units ps es c.take_out.ensures.nodes ∙ ap (map (λ p. p.0)) same in
    let disks = new_disks state units ps es c.take_out.ensures.nodes ∙ ap (map (λ p. state p.1)) same in
    subst AreApart (sym names) c.requires.rack.apart

pub drive-exit-requires-clause-nodes : goal.drive-exit-requires-clause-nodes
drive-exit-requires-clause-nodes g c = new_nodes g.D.Disk.state g.U.RecoveryUnits.state c.make_room.new.self.nodes.entries c.take_out.new.nodes.nodes.entries _ c.take_out.ensures.nodes

pub drive-exit-requires-clause-zero : goal.drive-exit-requires-clause-zero
drive-exit-requires-clause-zero g c = new_zero g.D.Disk.state g.U.RecoveryUnits.state c.make_room.new.self.nodes.entries c.take_out.new.nodes.nodes.entries c.take_out.ensures.nodes

pub drive-exit-requires-clause-unsaid : goal.drive-exit-requires-clause-unsaid
drive-exit-requires-clause-unsaid g c = new_unsaid g.D.Disk.state g.U.RecoveryUnits.state c.make_room.new.self.nodes.entries c.take_out.new.nodes.nodes.entries _ c.take_out.ensures.nodes c.in-Ok-reserve.ensures

pub put_back-requires-clause-room : goal.put_back-requires-clause-room
put_back-requires-clause-room g c = omega (arith, c.in-Ok-make_room.ensures.room, c.take_out.ensures.room)

pub put_back-requires-clause-few : goal.put_back-requires-clause-few
put_back-requires-clause-few g c =
    let state = g.D.Disk.state in
    let units = g.U.RecoveryUnits.state in
    let ps = c.make_room.new.self.nodes.entries in
    let same = c.in-Ok-make_room.ensures.same in
    let es = c.take_out.new.nodes.nodes.entries in
    let names = new_names state units ps es c.take_out.ensures.nodes ∙ ap (map (λ p. p.0)) same in
    let disks = new_disks state units ps es c.take_out.ensures.nodes ∙ ap (map (λ p. state p.1)) same in
    subst (λ xs. length xs ≤ 8) (sym (c.drive-exit.ensures.names ∙ names)) c.requires.rack.few

pub put_back-requires-clause-apart : goal.put_back-requires-clause-apart
put_back-requires-clause-apart g c =
    let state = g.D.Disk.state in
    let units = g.U.RecoveryUnits.state in
    let ps = c.make_room.new.self.nodes.entries in
    let same = c.in-Ok-make_room.ensures.same in
    let es = c.take_out.new.nodes.nodes.entries in
    let names = new_names state units ps es c.take_out.ensures.nodes ∙ ap (map (λ p. p.0)) same in
    let disks = new_disks state units ps es c.take_out.ensures.nodes ∙ ap (map (λ p. state p.1)) same in
    subst AreApart (sym (c.drive-exit.ensures.names ∙ names)) c.requires.rack.apart

pub returns-clause-runs : goal.returns-clause-runs
returns-clause-runs g c =
    let state = g.D.Disk.state in
    let units = g.U.RecoveryUnits.state in
    let ps = c.make_room.new.self.nodes.entries in
    let same = c.in-Ok-make_room.ensures.same in
    let es = c.take_out.new.nodes.nodes.entries in
    let names = new_names state units ps es c.take_out.ensures.nodes ∙ ap (map (λ p. p.0)) same in
    let disks = new_disks state units ps es c.take_out.ensures.nodes ∙ ap (map (λ p. state p.1)) same in
    runs_in (names_of c.take_out.new.nodes) (names_in c.args.rack.now) (disks_of (kept_all state units c.take_out.new.nodes)) (states_in state c.args.rack.now) _ _ _ _ c.drive-exit.result (disks_of (kept_all state units c.drive-exit.new.nodes)) (states_in state c.put_back.new.rack)
    names disks (c.in-Ok.ensures.nothing _) c.put_back.ensures.disks c.drive-exit.ensures.runs

pub returns-clause-calls : goal.returns-clause-calls
returns-clause-calls g c =
    let state = g.D.Disk.state in
    let units = g.U.RecoveryUnits.state in
    let ps = c.make_room.new.self.nodes.entries in
    let same = c.in-Ok-make_room.ensures.same in
    let es = c.take_out.new.nodes.nodes.entries in
    let names = new_names state units ps es c.take_out.ensures.nodes ∙ ap (map (λ p. p.0)) same in
    let disks = new_disks state units ps es c.take_out.ensures.nodes ∙ ap (map (λ p. state p.1)) same in
    tells_in (names_of c.take_out.new.nodes) (names_in c.args.rack.now) (disks_of (kept_all state units c.take_out.new.nodes)) (states_in state c.args.rack.now) _ _ _ _ c.drive-exit.result (disks_of (kept_all state units c.drive-exit.new.nodes)) (states_in state c.put_back.new.rack)
    names disks (c.in-Ok.ensures.nothing _) c.put_back.ensures.disks c.drive-exit.ensures.calls

pub returns-clause-names : goal.returns-clause-names
returns-clause-names g c =
    let state = g.D.Disk.state in
    let units = g.U.RecoveryUnits.state in
    let ps = c.make_room.new.self.nodes.entries in
    let same = c.in-Ok-make_room.ensures.same in
    let es = c.take_out.new.nodes.nodes.entries in
    let names = new_names state units ps es c.take_out.ensures.nodes ∙ ap (map (λ p. p.0)) same in
    let disks = new_disks state units ps es c.take_out.ensures.nodes ∙ ap (map (λ p. state p.1)) same in
    c.put_back.ensures.names ∙ c.drive-exit.ensures.names ∙ names

pub returns-clause-disks : goal.returns-clause-disks
returns-clause-disks g c =
    let state = g.D.Disk.state in
    let units = g.U.RecoveryUnits.state in
    let ps = c.make_room.new.self.nodes.entries in
    let same = c.in-Ok-make_room.ensures.same in
    let es = c.take_out.new.nodes.nodes.entries in
    let names = new_names state units ps es c.take_out.ensures.nodes ∙ ap (map (λ p. p.0)) same in
    let disks = new_disks state units ps es c.take_out.ensures.nodes ∙ ap (map (λ p. state p.1)) same in
    subst (λ ds. AllGo ds (states_in state c.put_back.new.rack)) disks (subst (AllGo (disks_of (kept_all state units c.take_out.new.nodes))) (sym c.put_back.ensures.disks) c.drive-exit.ensures.disks)

pub returns-clause-rack : goal.returns-clause-rack
returns-clause-rack g c =
    let state = g.D.Disk.state in
    let units = g.U.RecoveryUnits.state in
    let ps = c.make_room.new.self.nodes.entries in
    let same = c.in-Ok-make_room.ensures.same in
    let es = c.take_out.new.nodes.nodes.entries in
    let names = new_names state units ps es c.take_out.ensures.nodes ∙ ap (map (λ p. p.0)) same in
    let disks = new_disks state units ps es c.take_out.ensures.nodes ∙ ap (map (λ p. state p.1)) same in
    rack_on state c.args.rack.now c.put_back.new.rack (c.put_back.ensures.names ∙ c.drive-exit.ensures.names ∙ names)
    (subst (λ ds. AllGo ds (states_in state c.put_back.new.rack)) disks (subst (AllGo (disks_of (kept_all state units c.take_out.new.nodes))) (sym c.put_back.ensures.disks) c.drive-exit.ensures.disks)) c.requires.rack
