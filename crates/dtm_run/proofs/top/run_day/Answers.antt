use Rattle.std.proofs.Common.{◌≤◌, inl, inr, map, length, refl, sym, ◌∙◌, ap, subst, arith}
use Rattle.day_run.specs.node_standing.Standing.{counts_of}
use Rattle.day_run.specs.run_nodes.Held.{kept_all, names_of}
use Rattle.day_run.specs.run_nodes.Names.{AreApart}
use Rattle.day_run.specs.run_nodes.Together.{disks_of}
use Rattle.day_run.proofs.run_nodes.Entries.{same_names}
use Rattle.day_run.specs.Serving.{AreLarge}
use Rattle.day_tally.specs.Counters.{tallied_in}
use Rattle.transcript.specs.Emitters.{shown_by}
use Rattle.dtm_run.specs.Racks.{names_in, states_in}
use Rattle.dtm_run.specs.Headline.{AllGo}
use Rattle.dtm_run.specs.Leading.{is_unused}
use Rattle.dtm_run.specs.declared.top.Exit.TheVariants as exit
use Rattle.dtm_run.proofs.Days.{day_in, day_ran, day_told, entries_go, large_of, puts_all, puts_cut, told_in}
use Rattle.dtm_run.proofs.Driving.{stands_leaves}
use Rattle.dtm_run.proofs.Leading.{all_stay, fresh, logs_of, nothing_unused, stands_first}
use Rattle.dtm_run.proofs.Taking.{new_disks, new_names, new_nodes, new_unsaid, new_zero}
use Rattle.dtm_run.proofs.TopLemmas.{all_stay_on, rack_as, rack_on}
use Rattle.dtm_run.proofs.top.run_day.Goals as goal

pub returns-in_default-clause-makes : goal.returns-in_default-clause-makes
returns-in_default-clause-makes g c = λ nodes o s. inl refl

pub returns-in_default-clause-calls : goal.returns-in_default-clause-calls
returns-in_default-clause-calls g c = inl refl

pub returns-in_default-clause-disks : goal.returns-in_default-clause-disks
returns-in_default-clause-disks g c = all_stay (states_in g.D.Disk.state c.args.rack.now)

pub returns-in_default-reserve-clause-makes : goal.returns-in_default-reserve-clause-makes
returns-in_default-reserve-clause-makes g c = λ nodes o s. inl refl

pub returns-in_default-reserve-clause-calls : goal.returns-in_default-reserve-clause-calls
returns-in_default-reserve-clause-calls g c = inl refl

pub returns-in_default-reserve-clause-disks : goal.returns-in_default-reserve-clause-disks
returns-in_default-reserve-clause-disks g c = all_stay (states_in g.D.Disk.state c.args.rack.now)

pub returns-in_default-reserve-2-clause-makes : goal.returns-in_default-reserve-2-clause-makes
returns-in_default-reserve-2-clause-makes g c = λ nodes o s. inl refl

pub returns-in_default-reserve-2-clause-calls : goal.returns-in_default-reserve-2-clause-calls
returns-in_default-reserve-2-clause-calls g c = inl refl

pub returns-in_default-reserve-2-clause-disks : goal.returns-in_default-reserve-2-clause-disks
returns-in_default-reserve-2-clause-disks g c = all_stay (states_in g.D.Disk.state c.args.rack.now)

pub returns-in_default-make_room-clause-makes : goal.returns-in_default-make_room-clause-makes
returns-in_default-make_room-clause-makes g c = λ nodes o s. inl refl

pub returns-in_default-make_room-clause-calls : goal.returns-in_default-make_room-clause-calls
returns-in_default-make_room-clause-calls g c = inl refl

pub returns-in_default-make_room-clause-disks : goal.returns-in_default-make_room-clause-disks
returns-in_default-make_room-clause-disks g c = all_stay_on g.D.Disk.state c.args.rack.now.nodes.entries c.make_room.new.self.nodes.entries c.make_room.ensures.same

pub returns-in_default-make_room-clause-names : goal.returns-in_default-make_room-clause-names
returns-in_default-make_room-clause-names g c = ap (map (λ node. node.0)) c.make_room.ensures.same

pub returns-in_default-make_room-clause-memory : goal.returns-in_default-make_room-clause-memory
returns-in_default-make_room-clause-memory g c = λ e. (refl, ap (map (λ node. node.1)) c.make_room.ensures.same)

pub returns-in_default-make_room-clause-rack : goal.returns-in_default-make_room-clause-rack
returns-in_default-make_room-clause-rack g c = rack_as g.D.Disk.state c.args.rack.now c.make_room.new.self c.make_room.ensures.same c.requires.rack

pub take_out-requires-clause-rack : goal.take_out-requires-clause-rack
take_out-requires-clause-rack g c = rack_as g.D.Disk.state c.args.rack.now c.make_room.new.self c.make_room.ensures.same c.requires.rack

pub serve_day-ended-requires-clause-apart : goal.serve_day-ended-requires-clause-apart
serve_day-ended-requires-clause-apart g c =
    let state = g.D.Disk.state in
    let units = g.U.RecoveryUnits.state in
    let ps = c.make_room.new.self.nodes.entries in
    let same = c.in-Ok-make_room.ensures.same in
    let es = c.take_out.new.nodes.nodes.entries in
    let names = new_names state units ps es c.take_out.ensures.nodes ∙ ap (map (λ p. p.0)) same in
    let disks = new_disks state units ps es c.take_out.ensures.nodes ∙ ap (map (λ p. state p.1)) same in
    subst AreApart (sym names) c.requires.rack.apart

pub serve_day-ended-requires-clause-names : goal.serve_day-ended-requires-clause-names
serve_day-ended-requires-clause-names g c =
    let state = g.D.Disk.state in
    let units = g.U.RecoveryUnits.state in
    let ps = c.make_room.new.self.nodes.entries in
    let same = c.in-Ok-make_room.ensures.same in
    let es = c.take_out.new.nodes.nodes.entries in
    let names = new_names state units ps es c.take_out.ensures.nodes ∙ ap (map (λ p. p.0)) same in
    let disks = new_disks state units ps es c.take_out.ensures.nodes ∙ ap (map (λ p. state p.1)) same in
    names ∙ c.requires.names

pub serve_day-ended-requires-clause-large : goal.serve_day-ended-requires-clause-large
serve_day-ended-requires-clause-large g c =
    let state = g.D.Disk.state in
    let units = g.U.RecoveryUnits.state in
    let ps = c.make_room.new.self.nodes.entries in
    let same = c.in-Ok-make_room.ensures.same in
    let es = c.take_out.new.nodes.nodes.entries in
    let names = new_names state units ps es c.take_out.ensures.nodes ∙ ap (map (λ p. p.0)) same in
    let disks = new_disks state units ps es c.take_out.ensures.nodes ∙ ap (map (λ p. state p.1)) same in
    subst AreLarge (sym disks) (large_of (states_in state c.args.rack.now) c.requires.rack.sized)

pub serve_day-ended-requires-clause-nodes : goal.serve_day-ended-requires-clause-nodes
serve_day-ended-requires-clause-nodes g c = new_nodes g.D.Disk.state g.U.RecoveryUnits.state c.make_room.new.self.nodes.entries c.take_out.new.nodes.nodes.entries _ c.take_out.ensures.nodes

pub serve_day-ended-requires-clause-unsaid : goal.serve_day-ended-requires-clause-unsaid
serve_day-ended-requires-clause-unsaid g c = new_unsaid g.D.Disk.state g.U.RecoveryUnits.state c.make_room.new.self.nodes.entries c.take_out.new.nodes.nodes.entries _ c.take_out.ensures.nodes c.in-Ok.ensures

pub put_back-requires-clause-room : goal.put_back-requires-clause-room
put_back-requires-clause-room g c = omega (arith, c.in-Ok-make_room.ensures.room, c.take_out.ensures.room)

pub put_back-requires-clause-few : goal.put_back-requires-clause-few
put_back-requires-clause-few g c =
    let state = g.D.Disk.state in
    let units = g.U.RecoveryUnits.state in
    let ps = c.make_room.new.self.nodes.entries in
    let same = c.in-Ok-make_room.ensures.same in
    let es = c.take_out.new.nodes.nodes.entries in
    let names = new_names state units ps es c.take_out.ensures.nodes ∙ ap (map (λ p. p.0)) same in
    let disks = new_disks state units ps es c.take_out.ensures.nodes ∙ ap (map (λ p. state p.1)) same in
    subst (λ xs. length xs ≤ 8) (sym (c.serve_day-ended.ensures.names ∙ names)) c.requires.rack.few

pub put_back-requires-clause-apart : goal.put_back-requires-clause-apart
put_back-requires-clause-apart g c =
    let state = g.D.Disk.state in
    let units = g.U.RecoveryUnits.state in
    let ps = c.make_room.new.self.nodes.entries in
    let same = c.in-Ok-make_room.ensures.same in
    let es = c.take_out.new.nodes.nodes.entries in
    let names = new_names state units ps es c.take_out.ensures.nodes ∙ ap (map (λ p. p.0)) same in
    let disks = new_disks state units ps es c.take_out.ensures.nodes ∙ ap (map (λ p. state p.1)) same in
    subst AreApart (sym (c.serve_day-ended.ensures.names ∙ names)) c.requires.rack.apart

pub returns-then-failed-clause-makes : goal.returns-then-failed-clause-makes
returns-then-failed-clause-makes g c =
    let state = g.D.Disk.state in
    let units = g.U.RecoveryUnits.state in
    let ps = c.make_room.new.self.nodes.entries in
    let same = c.in-Ok-make_room.ensures.same in
    let es = c.take_out.new.nodes.nodes.entries in
    let names = new_names state units ps es c.take_out.ensures.nodes ∙ ap (map (λ p. p.0)) same in
    let disks = new_disks state units ps es c.take_out.ensures.nodes ∙ ap (map (λ p. state p.1)) same in
    let count = c.args.asked.count in
    let start = c.args.asked.start in
    let serve = c.serve_day-ended in
    let ks = kept_all state units c.take_out.new.nodes in
    let ls = kept_all state units serve.new.nodes in
    let t = tallied_in serve.new.lines in
    let a = shown_by g.K.Sink.shown g.K.Sink.faults c.args.out.now in
    let b = shown_by g.K.Sink.shown g.K.Sink.faults c.write_end.new.out in
    let ends = puts_cut a b _ c.write_end.ensures.puts c.requires.failed (sym c.failed.ensures ∙ c.if-failed.true) in
    let at_zero = new_zero state units ps es c.take_out.ensures.nodes in
    let unsaid = new_unsaid state units ps es _ c.take_out.ensures.nodes c.in-Ok.ensures in
    day_in (names_of c.take_out.new.nodes) (names_in c.args.rack.now) (disks_of ks) (states_in state c.args.rack.now) (disks_of ls) (states_in state c.put_back.new.rack) count start a.text b.text exit.WriteFault names disks c.put_back.ensures.disks
    (λ nodes o stand.
    let first = stands_first (names_of c.take_out.new.nodes) ks c.in-Ok.shared nodes (same_names state units 0 c.in-Ok.shared es (new_nodes state units ps es c.in-Ok.shared c.take_out.ensures.nodes)) at_zero (fresh ks c.in-Ok.shared (ap is_unused unsaid ∙ nothing_unused (names_of c.take_out.new.nodes))) o stand in
    let served = serve.ensures.serves (logs_of (disks_of ks)) nodes (map counts_of (disks_of ks)) o first in
    inr (day_ran (names_of c.take_out.new.nodes) nodes (disks_of ks) (disks_of ls) count start t serve.result serve.new.counts ls serve.new.shared a b exit.WriteFault (c.promises_hold.ensures.kept, c.manager_promises_hold.ensures) c.promises_hold.ensures.agreed (subst AreApart (sym names) c.requires.rack.apart) (names ∙ c.requires.names) o stand
    served (stands_leaves state units serve.ensures.nodes.0 serve.new.shared serve.new.nodes.nodes.entries serve.ensures.nodes.1 (disks_of ks) served.closing served.stands) c.write_end.ensures.puts ends))

pub returns-then-failed-clause-calls : goal.returns-then-failed-clause-calls
returns-then-failed-clause-calls g c =
    let state = g.D.Disk.state in
    let units = g.U.RecoveryUnits.state in
    let ps = c.make_room.new.self.nodes.entries in
    let same = c.in-Ok-make_room.ensures.same in
    let es = c.take_out.new.nodes.nodes.entries in
    let names = new_names state units ps es c.take_out.ensures.nodes ∙ ap (map (λ p. p.0)) same in
    let disks = new_disks state units ps es c.take_out.ensures.nodes ∙ ap (map (λ p. state p.1)) same in
    let count = c.args.asked.count in
    let start = c.args.asked.start in
    let serve = c.serve_day-ended in
    let ks = kept_all state units c.take_out.new.nodes in
    let ls = kept_all state units serve.new.nodes in
    let t = tallied_in serve.new.lines in
    let a = shown_by g.K.Sink.shown g.K.Sink.faults c.args.out.now in
    let b = shown_by g.K.Sink.shown g.K.Sink.faults c.write_end.new.out in
    let ends = puts_cut a b _ c.write_end.ensures.puts c.requires.failed (sym c.failed.ensures ∙ c.if-failed.true) in
    inr (told_in (names_of c.take_out.new.nodes) (names_in c.args.rack.now) (disks_of ks) (states_in state c.args.rack.now) (disks_of ls) (states_in state c.put_back.new.rack) count start a.text b.text exit.WriteFault names disks c.put_back.ensures.disks
    (day_told (names_of c.take_out.new.nodes) (disks_of ks) (disks_of ls) count start t serve.result serve.new.counts a b exit.WriteFault serve.ensures.tells c.write_end.ensures.puts ends))

pub returns-then-failed-clause-write_fault : goal.returns-then-failed-clause-write_fault
returns-then-failed-clause-write_fault g c = λ e. c.write_end.ensures.puts.cause c.requires.failed (sym c.failed.ensures ∙ c.if-failed.true)

pub returns-then-failed-clause-names : goal.returns-then-failed-clause-names
returns-then-failed-clause-names g c =
    let state = g.D.Disk.state in
    let units = g.U.RecoveryUnits.state in
    let ps = c.make_room.new.self.nodes.entries in
    let same = c.in-Ok-make_room.ensures.same in
    let es = c.take_out.new.nodes.nodes.entries in
    let names = new_names state units ps es c.take_out.ensures.nodes ∙ ap (map (λ p. p.0)) same in
    let disks = new_disks state units ps es c.take_out.ensures.nodes ∙ ap (map (λ p. state p.1)) same in
    c.put_back.ensures.names ∙ c.serve_day-ended.ensures.names ∙ names

pub returns-then-failed-clause-disks : goal.returns-then-failed-clause-disks
returns-then-failed-clause-disks g c =
    let state = g.D.Disk.state in
    let units = g.U.RecoveryUnits.state in
    let ps = c.make_room.new.self.nodes.entries in
    let same = c.in-Ok-make_room.ensures.same in
    let es = c.take_out.new.nodes.nodes.entries in
    let names = new_names state units ps es c.take_out.ensures.nodes ∙ ap (map (λ p. p.0)) same in
    let disks = new_disks state units ps es c.take_out.ensures.nodes ∙ ap (map (λ p. state p.1)) same in
    subst (λ ds. AllGo ds (states_in state c.put_back.new.rack)) disks (subst (AllGo (disks_of (kept_all state units c.take_out.new.nodes))) (sym c.put_back.ensures.disks)
    (entries_go (names_of c.take_out.new.nodes) (disks_of (kept_all state units c.take_out.new.nodes)) c.serve_day-ended.ensures.tells.entries (disks_of (kept_all state units c.serve_day-ended.new.nodes)) c.serve_day-ended.ensures.tells.tell))

pub returns-then-failed-clause-rack : goal.returns-then-failed-clause-rack
returns-then-failed-clause-rack g c =
    let state = g.D.Disk.state in
    let units = g.U.RecoveryUnits.state in
    let ps = c.make_room.new.self.nodes.entries in
    let same = c.in-Ok-make_room.ensures.same in
    let es = c.take_out.new.nodes.nodes.entries in
    let names = new_names state units ps es c.take_out.ensures.nodes ∙ ap (map (λ p. p.0)) same in
    let disks = new_disks state units ps es c.take_out.ensures.nodes ∙ ap (map (λ p. state p.1)) same in
    rack_on state c.args.rack.now c.put_back.new.rack (c.put_back.ensures.names ∙ c.serve_day-ended.ensures.names ∙ names)
    (subst (λ ds. AllGo ds (states_in state c.put_back.new.rack)) disks (subst (AllGo (disks_of (kept_all state units c.take_out.new.nodes))) (sym c.put_back.ensures.disks)
    (entries_go (names_of c.take_out.new.nodes) (disks_of (kept_all state units c.take_out.new.nodes)) c.serve_day-ended.ensures.tells.entries (disks_of (kept_all state units c.serve_day-ended.new.nodes)) c.serve_day-ended.ensures.tells.tell))) c.requires.rack

pub returns-clause-makes : goal.returns-clause-makes
returns-clause-makes g c =
    let state = g.D.Disk.state in
    let units = g.U.RecoveryUnits.state in
    let ps = c.make_room.new.self.nodes.entries in
    let same = c.in-Ok-make_room.ensures.same in
    let es = c.take_out.new.nodes.nodes.entries in
    let names = new_names state units ps es c.take_out.ensures.nodes ∙ ap (map (λ p. p.0)) same in
    let disks = new_disks state units ps es c.take_out.ensures.nodes ∙ ap (map (λ p. state p.1)) same in
    let count = c.args.asked.count in
    let start = c.args.asked.start in
    let serve = c.serve_day-ended in
    let ks = kept_all state units c.take_out.new.nodes in
    let ls = kept_all state units serve.new.nodes in
    let t = tallied_in serve.new.lines in
    let a = shown_by g.K.Sink.shown g.K.Sink.faults c.args.out.now in
    let b = shown_by g.K.Sink.shown g.K.Sink.faults c.write_end.new.out in
    let ends = puts_all a b _ c.write_end.ensures.puts c.requires.failed (sym c.failed.ensures ∙ c.if-failed.false) in
    let at_zero = new_zero state units ps es c.take_out.ensures.nodes in
    let unsaid = new_unsaid state units ps es _ c.take_out.ensures.nodes c.in-Ok.ensures in
    day_in (names_of c.take_out.new.nodes) (names_in c.args.rack.now) (disks_of ks) (states_in state c.args.rack.now) (disks_of ls) (states_in state c.put_back.new.rack) count start a.text b.text exit.Done names disks c.put_back.ensures.disks
    (λ nodes o stand.
    let first = stands_first (names_of c.take_out.new.nodes) ks c.in-Ok.shared nodes (same_names state units 0 c.in-Ok.shared es (new_nodes state units ps es c.in-Ok.shared c.take_out.ensures.nodes)) at_zero (fresh ks c.in-Ok.shared (ap is_unused unsaid ∙ nothing_unused (names_of c.take_out.new.nodes))) o stand in
    let served = serve.ensures.serves (logs_of (disks_of ks)) nodes (map counts_of (disks_of ks)) o first in
    inr (day_ran (names_of c.take_out.new.nodes) nodes (disks_of ks) (disks_of ls) count start t serve.result serve.new.counts ls serve.new.shared a b exit.Done (c.promises_hold.ensures.kept, c.manager_promises_hold.ensures) c.promises_hold.ensures.agreed (subst AreApart (sym names) c.requires.rack.apart) (names ∙ c.requires.names) o stand
    served (stands_leaves state units serve.ensures.nodes.0 serve.new.shared serve.new.nodes.nodes.entries serve.ensures.nodes.1 (disks_of ks) served.closing served.stands) c.write_end.ensures.puts ends))

pub returns-clause-calls : goal.returns-clause-calls
returns-clause-calls g c =
    let state = g.D.Disk.state in
    let units = g.U.RecoveryUnits.state in
    let ps = c.make_room.new.self.nodes.entries in
    let same = c.in-Ok-make_room.ensures.same in
    let es = c.take_out.new.nodes.nodes.entries in
    let names = new_names state units ps es c.take_out.ensures.nodes ∙ ap (map (λ p. p.0)) same in
    let disks = new_disks state units ps es c.take_out.ensures.nodes ∙ ap (map (λ p. state p.1)) same in
    let count = c.args.asked.count in
    let start = c.args.asked.start in
    let serve = c.serve_day-ended in
    let ks = kept_all state units c.take_out.new.nodes in
    let ls = kept_all state units serve.new.nodes in
    let t = tallied_in serve.new.lines in
    let a = shown_by g.K.Sink.shown g.K.Sink.faults c.args.out.now in
    let b = shown_by g.K.Sink.shown g.K.Sink.faults c.write_end.new.out in
    let ends = puts_all a b _ c.write_end.ensures.puts c.requires.failed (sym c.failed.ensures ∙ c.if-failed.false) in
    inr (told_in (names_of c.take_out.new.nodes) (names_in c.args.rack.now) (disks_of ks) (states_in state c.args.rack.now) (disks_of ls) (states_in state c.put_back.new.rack) count start a.text b.text exit.Done names disks c.put_back.ensures.disks
    (day_told (names_of c.take_out.new.nodes) (disks_of ks) (disks_of ls) count start t serve.result serve.new.counts a b exit.Done serve.ensures.tells c.write_end.ensures.puts ends))

pub returns-clause-names : goal.returns-clause-names
returns-clause-names g c =
    let state = g.D.Disk.state in
    let units = g.U.RecoveryUnits.state in
    let ps = c.make_room.new.self.nodes.entries in
    let same = c.in-Ok-make_room.ensures.same in
    let es = c.take_out.new.nodes.nodes.entries in
    let names = new_names state units ps es c.take_out.ensures.nodes ∙ ap (map (λ p. p.0)) same in
    let disks = new_disks state units ps es c.take_out.ensures.nodes ∙ ap (map (λ p. state p.1)) same in
    c.put_back.ensures.names ∙ c.serve_day-ended.ensures.names ∙ names

pub returns-clause-disks : goal.returns-clause-disks
returns-clause-disks g c =
    let state = g.D.Disk.state in
    let units = g.U.RecoveryUnits.state in
    let ps = c.make_room.new.self.nodes.entries in
    let same = c.in-Ok-make_room.ensures.same in
    let es = c.take_out.new.nodes.nodes.entries in
    let names = new_names state units ps es c.take_out.ensures.nodes ∙ ap (map (λ p. p.0)) same in
    let disks = new_disks state units ps es c.take_out.ensures.nodes ∙ ap (map (λ p. state p.1)) same in
    subst (λ ds. AllGo ds (states_in state c.put_back.new.rack)) disks (subst (AllGo (disks_of (kept_all state units c.take_out.new.nodes))) (sym c.put_back.ensures.disks)
    (entries_go (names_of c.take_out.new.nodes) (disks_of (kept_all state units c.take_out.new.nodes)) c.serve_day-ended.ensures.tells.entries (disks_of (kept_all state units c.serve_day-ended.new.nodes)) c.serve_day-ended.ensures.tells.tell))

pub returns-clause-rack : goal.returns-clause-rack
returns-clause-rack g c =
    let state = g.D.Disk.state in
    let units = g.U.RecoveryUnits.state in
    let ps = c.make_room.new.self.nodes.entries in
    let same = c.in-Ok-make_room.ensures.same in
    let es = c.take_out.new.nodes.nodes.entries in
    let names = new_names state units ps es c.take_out.ensures.nodes ∙ ap (map (λ p. p.0)) same in
    let disks = new_disks state units ps es c.take_out.ensures.nodes ∙ ap (map (λ p. state p.1)) same in
    rack_on state c.args.rack.now c.put_back.new.rack (c.put_back.ensures.names ∙ c.serve_day-ended.ensures.names ∙ names)
    (subst (λ ds. AllGo ds (states_in state c.put_back.new.rack)) disks (subst (AllGo (disks_of (kept_all state units c.take_out.new.nodes))) (sym c.put_back.ensures.disks)
    (entries_go (names_of c.take_out.new.nodes) (disks_of (kept_all state units c.take_out.new.nodes)) c.serve_day-ended.ensures.tells.entries (disks_of (kept_all state units c.serve_day-ended.new.nodes)) c.serve_day-ended.ensures.tells.tell))) c.requires.rack
