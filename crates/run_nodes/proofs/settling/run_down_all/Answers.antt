use Rattle.std.proofs.Common.{◌<◌, length, refl, sym, ◌∙◌, ap, subst, arith}
use Rattle.emitter_model.proofs.EmittingLemmas.{since_on, since_same}
use Rattle.said_steps.specs.run_model.Answers.{RunsDown}
use Rattle.statement_steps.specs.Settling.{run_down_of}
use Rattle.run_nodes.specs.Held.{kept_all, names_of}
use Rattle.run_nodes.specs.Names.{AreApart}
use Rattle.run_nodes.specs.Told.{kept_names}
use Rattle.run_nodes.proofs.Entries.{same_names}
use Rattle.run_nodes.proofs.Loops.{quiet_run_down}
use Rattle.run_nodes.proofs.Restarts.{task_over, task_turn, turn_none, turn_on, turn_over}
use Rattle.run_nodes.proofs.Worlds.{done_all, goes_none, run_down_ended, run_down_goes_on, same_many}
use Rattle.run_nodes.proofs.settling.run_down_all.Goals as goal

pub loop-place-init : goal.loop-place-init
loop-place-init g c =
    let state = g.D.Disk.state in
    let units = g.U.RecoveryUnits.state in
    let ns = c.args.nodes.now in
    let s = c.args.shared.now in
    let ks = kept_all state units ns in
    let same = same_names state units c.requires.nodes.0 s ns.nodes.entries c.requires.nodes.2 in
    let apart = subst AreApart same c.requires.apart in
    record {
      names = refl;
      nodes = λ count h. h;
      in_use = λ e. e;
      place = refl;
      since = since_same (g.E.Emit.shows c.args.out.now);
      told = turn_none (names_of ns) ks s (g.E.Emit.shows c.args.out.now);
      goes = λ logs w u h up. (goes_none run_down_of logs w u (g.E.Emit.shows c.args.out.now) ks s h, up);
    }

pub run_down-requires-clause-there : goal.run_down-requires-clause-there
run_down-requires-clause-there g c = subst (λ xs. c.loop-place.place < length xs) (sym c.loop-place.invariant.names) (omega (arith, c.loop-place-test.true, c.len-place-end.ensures))

pub run_down-requires-clause-nodes : goal.run_down-requires-clause-nodes
run_down-requires-clause-nodes g c = (c.requires.nodes.0, c.requires.nodes.1, c.loop-place.invariant.nodes c.requires.nodes.0 c.requires.nodes.2)

pub returns-in-Over-clause-nodes : goal.returns-in-Over-clause-nodes
returns-in-Over-clause-nodes g c = λ count h. c.run_down.ensures.nodes count (c.loop-place.invariant.nodes count h)

pub returns-in-Over-clause-answered : goal.returns-in-Over-clause-answered
returns-in-Over-clause-answered g c = λ over.
    let state = g.D.Disk.state in
    let units = g.U.RecoveryUnits.state in
    let ns = c.args.nodes.now in
    let s = c.args.shared.now in
    let ks = kept_all state units ns in
    let same = same_names state units c.requires.nodes.0 s ns.nodes.entries c.requires.nodes.2 in
    let apart = subst AreApart same c.requires.apart in
    let i = c.loop-place.invariant in
    let ms = kept_all state units c.loop-place.nodes in
    let now = same_names state units c.requires.nodes.0 c.loop-place.shared c.loop-place.nodes.nodes.entries (i.nodes c.requires.nodes.0 c.requires.nodes.2) in
    let apart_now : AreApart (kept_names ms) = subst AreApart now (subst AreApart (sym i.names) c.requires.apart) in
    let x = g.E.Emit.shows c.loop-place.out in
    let b = g.E.Emit.shows c.run_down.new.out in
    let ls = kept_all state units c.run_down.new.self in
    turn_over (names_of ns) ks s (g.E.Emit.shows c.args.out.now) x b ms c.loop-place.shared ls c.run_down.new.shared i.told (task_over (names_of ns) c.loop-place.place RunsDown ms c.loop-place.shared x b ls c.run_down.new.shared (sym i.names ∙ now) c.requires.apart quiet_run_down c.in-Over.ensures.does)

pub returns-in-Over-clause-ended : goal.returns-in-Over-clause-ended
returns-in-Over-clause-ended g c = λ over logs w u h up.
    let state = g.D.Disk.state in
    let units = g.U.RecoveryUnits.state in
    let ns = c.args.nodes.now in
    let s = c.args.shared.now in
    let ks = kept_all state units ns in
    let same = same_names state units c.requires.nodes.0 s ns.nodes.entries c.requires.nodes.2 in
    let apart = subst AreApart same c.requires.apart in
    let i = c.loop-place.invariant in
    let ms = kept_all state units c.loop-place.nodes in
    let now = same_names state units c.requires.nodes.0 c.loop-place.shared c.loop-place.nodes.nodes.entries (i.nodes c.requires.nodes.0 c.requires.nodes.2) in
    let apart_now : AreApart (kept_names ms) = subst AreApart now (subst AreApart (sym i.names) c.requires.apart) in
    run_down_ended logs w u c.loop-place.place (g.E.Emit.shows c.args.out.now) (g.E.Emit.shows c.loop-place.out) (g.E.Emit.shows c.run_down.new.out) ms c.loop-place.shared (kept_all state units c.run_down.new.self) c.run_down.new.shared apart_now (i.goes logs w u h up).0 c.in-Over.ensures.does

pub loop-place-preserved : goal.loop-place-preserved
loop-place-preserved g c =
    let state = g.D.Disk.state in
    let units = g.U.RecoveryUnits.state in
    let ns = c.args.nodes.now in
    let s = c.args.shared.now in
    let ks = kept_all state units ns in
    let same = same_names state units c.requires.nodes.0 s ns.nodes.entries c.requires.nodes.2 in
    let apart = subst AreApart same c.requires.apart in
    let i = c.loop-place.invariant in
    let ms = kept_all state units c.loop-place.nodes in
    let now = same_names state units c.requires.nodes.0 c.loop-place.shared c.loop-place.nodes.nodes.entries (i.nodes c.requires.nodes.0 c.requires.nodes.2) in
    let apart_now : AreApart (kept_names ms) = subst AreApart now (subst AreApart (sym i.names) c.requires.apart) in
    let d = c.in-GoesOn.ensures.does in
    let x = g.E.Emit.shows c.loop-place.out in
    let b = g.E.Emit.shows c.run_down.new.out in
    let ls = kept_all state units c.run_down.new.self in
    record {
      names = c.run_down.ensures.names ∙ i.names;
      nodes = λ count h. c.run_down.ensures.nodes count (i.nodes count h);
      in_use = λ e. c.run_down.ensures.in_use (i.in_use e);
      place = c.run_down.ensures.place ∙ i.place;
      since = since_on (g.E.Emit.shows c.args.out.now) x b i.since c.run_down.ensures.since;
      told = turn_on (names_of ns) ks s (g.E.Emit.shows c.args.out.now) x b ms c.loop-place.shared ls c.run_down.new.shared i.told (task_turn (names_of ns) c.loop-place.place RunsDown ms c.loop-place.shared x b ls c.run_down.new.shared (sym i.names ∙ now) c.requires.apart quiet_run_down d);
      goes = λ logs w u h up. (let y = i.goes logs w u h up in run_down_goes_on c.worlds_stay_within.ensures.stays logs w u c.loop-place.place (g.E.Emit.shows c.args.out.now) x b ms c.loop-place.shared ls c.run_down.new.shared apart_now y.0 y.1 d);
    }

pub returns-clause-done : goal.returns-clause-done
returns-clause-done g c = λ over logs w u h up.
    let state = g.D.Disk.state in
    let units = g.U.RecoveryUnits.state in
    let ns = c.args.nodes.now in
    let s = c.args.shared.now in
    let ks = kept_all state units ns in
    let same = same_names state units c.requires.nodes.0 s ns.nodes.entries c.requires.nodes.2 in
    let apart = subst AreApart same c.requires.apart in
    let i = c.loop-place.invariant in
    let ms = kept_all state units c.loop-place.nodes in
    let now = same_names state units c.requires.nodes.0 c.loop-place.shared c.loop-place.nodes.nodes.entries (i.nodes c.requires.nodes.0 c.requires.nodes.2) in
    let apart_now : AreApart (kept_names ms) = subst AreApart now (subst AreApart (sym i.names) c.requires.apart) in
    let x = i.goes logs w u h up in
    let many = same_many run_down_of logs w u c.loop-place.place (g.E.Emit.shows c.args.out.now) (g.E.Emit.shows c.loop-place.out) ms ks c.loop-place.shared s h (sym now ∙ i.names ∙ same) x.0 in
    done_all run_down_of logs w u c.loop-place.place (g.E.Emit.shows c.args.out.now) (g.E.Emit.shows c.loop-place.out) ms c.loop-place.shared x.0 (omega (arith, many, ap length (sym now ∙ i.names), c.loop-place-test.false, c.len-place-end.ensures)) x.1
