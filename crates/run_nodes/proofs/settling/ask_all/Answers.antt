use Rattle.std.proofs.Common.{◌<◌, length, refl, sym, ◌∙◌, ap, subst, arith}
use Rattle.emitter_model.proofs.EmittingLemmas.{since_on, since_same}
use Rattle.statement_steps.specs.Settling.{asks_of}
use Rattle.run_nodes.specs.Held.{kept_all, names_of}
use Rattle.run_nodes.specs.Names.{AreApart}
use Rattle.run_nodes.specs.Told.{TurnOver, TurnTold, kept_names}
use Rattle.run_nodes.proofs.Entries.{same_names}
use Rattle.run_nodes.proofs.Restarts.{turn_none, turn_on, turn_over}
use Rattle.run_nodes.proofs.Worlds.{done_all, goes_none, same_many}
use Rattle.run_nodes.proofs.settling.ask_all.Goals as goal

pub loop-place-init : goal.loop-place-init
loop-place-init g c =
    let ks = kept_all g.D.Disk.state g.U.RecoveryUnits.state c.args.nodes.now in
    let s = c.args.shared.now in
    record {
      names = refl;
      nodes = λ count h. h;
      in_use = λ e. e;
      place = refl;
      since = since_same (g.E.Emit.shows c.args.out.now);
      told = turn_none (names_of c.args.nodes.now) ks s (g.E.Emit.shows c.args.out.now);
      goes = λ logs w u h up. (goes_none asks_of logs w u (g.E.Emit.shows c.args.out.now) ks s h, up);
    }

pub ask_at-requires-clause-there : goal.ask_at-requires-clause-there
ask_at-requires-clause-there g c = subst (λ xs. c.loop-place.place < length xs) (sym c.loop-place.invariant.names) (omega (arith, c.loop-place-test.true, c.len-place-end.ensures))

pub ask_at-requires-clause-apart : goal.ask_at-requires-clause-apart
ask_at-requires-clause-apart g c = subst AreApart (sym c.loop-place.invariant.names) c.requires.apart

pub ask_at-requires-clause-nodes : goal.ask_at-requires-clause-nodes
ask_at-requires-clause-nodes g c = (c.requires.nodes.0, c.requires.nodes.1, c.loop-place.invariant.nodes c.requires.nodes.0 c.requires.nodes.2)

pub returns-in-Over-clause-nodes : goal.returns-in-Over-clause-nodes
returns-in-Over-clause-nodes g c = λ count h. c.ask_at.ensures.nodes count (c.loop-place.invariant.nodes count h)

pub returns-in-Over-clause-answered : goal.returns-in-Over-clause-answered
returns-in-Over-clause-answered g c = λ over.
    let state = g.D.Disk.state in
    let units = g.U.RecoveryUnits.state in
    let ns = c.args.nodes.now in
    let s = c.args.shared.now in
    let ks = kept_all state units ns in
    let same = same_names state units c.requires.nodes.0 s ns.nodes.entries c.requires.nodes.2 in
    let apart = subst AreApart same c.requires.apart in
    let i = c.loop-place.invariant in
    let ms = kept_all state units c.loop-place.nodes in
    let now = same_names state units c.requires.nodes.0 c.loop-place.shared c.loop-place.nodes.nodes.entries (i.nodes c.requires.nodes.0 c.requires.nodes.2) in
    let apart_now : AreApart (kept_names ms) = subst AreApart now (subst AreApart (sym i.names) c.requires.apart) in
    let x = g.E.Emit.shows c.loop-place.out in
    let b = g.E.Emit.shows c.ask_at.new.out in
    let ls = kept_all state units c.ask_at.new.nodes in
    turn_over (names_of ns) ks s (g.E.Emit.shows c.args.out.now) x b ms c.loop-place.shared ls c.ask_at.new.shared i.told (subst (λ ys. TurnOver ys ms c.loop-place.shared x b ls c.ask_at.new.shared) i.names (c.in-Over.ensures.answered refl))

pub returns-in-Over-clause-ended : goal.returns-in-Over-clause-ended
returns-in-Over-clause-ended g c = λ over logs w u h up.
    let y = c.loop-place.invariant.goes logs w u h up in
    c.in-Over.ensures.ended refl logs w u (g.E.Emit.shows c.args.out.now) y.0 y.1

pub loop-place-preserved : goal.loop-place-preserved
loop-place-preserved g c =
    let state = g.D.Disk.state in
    let units = g.U.RecoveryUnits.state in
    let ns = c.args.nodes.now in
    let s = c.args.shared.now in
    let ks = kept_all state units ns in
    let same = same_names state units c.requires.nodes.0 s ns.nodes.entries c.requires.nodes.2 in
    let apart = subst AreApart same c.requires.apart in
    let i = c.loop-place.invariant in
    let ms = kept_all state units c.loop-place.nodes in
    let now = same_names state units c.requires.nodes.0 c.loop-place.shared c.loop-place.nodes.nodes.entries (i.nodes c.requires.nodes.0 c.requires.nodes.2) in
    let apart_now : AreApart (kept_names ms) = subst AreApart now (subst AreApart (sym i.names) c.requires.apart) in
    let x = g.E.Emit.shows c.loop-place.out in
    let b = g.E.Emit.shows c.ask_at.new.out in
    let ls = kept_all state units c.ask_at.new.nodes in
    record {
      names = c.ask_at.ensures.names ∙ i.names;
      nodes = λ count h. c.ask_at.ensures.nodes count (i.nodes count h);
      in_use = λ e. c.ask_at.ensures.in_use (i.in_use e);
      place = c.ask_at.ensures.place ∙ i.place;
      since = since_on (g.E.Emit.shows c.args.out.now) x b i.since c.ask_at.ensures.since;
      told = turn_on (names_of ns) ks s (g.E.Emit.shows c.args.out.now) x b ms c.loop-place.shared ls c.ask_at.new.shared i.told (subst (λ ys. TurnTold ys ms c.loop-place.shared x b ls c.ask_at.new.shared) i.names (c.in-GoesOn.ensures.told refl));
      goes = λ logs w u h up. (let y = i.goes logs w u h up in c.in-GoesOn.ensures.done refl logs w u (g.E.Emit.shows c.args.out.now) y.0 y.1);
    }

pub returns-clause-done : goal.returns-clause-done
returns-clause-done g c = λ over logs w u h up.
    let state = g.D.Disk.state in
    let units = g.U.RecoveryUnits.state in
    let ns = c.args.nodes.now in
    let s = c.args.shared.now in
    let ks = kept_all state units ns in
    let same = same_names state units c.requires.nodes.0 s ns.nodes.entries c.requires.nodes.2 in
    let apart = subst AreApart same c.requires.apart in
    let i = c.loop-place.invariant in
    let ms = kept_all state units c.loop-place.nodes in
    let now = same_names state units c.requires.nodes.0 c.loop-place.shared c.loop-place.nodes.nodes.entries (i.nodes c.requires.nodes.0 c.requires.nodes.2) in
    let apart_now : AreApart (kept_names ms) = subst AreApart now (subst AreApart (sym i.names) c.requires.apart) in
    let x = i.goes logs w u h up in
    let many = same_many asks_of logs w u c.loop-place.place (g.E.Emit.shows c.args.out.now) (g.E.Emit.shows c.loop-place.out) ms ks c.loop-place.shared s h (sym now ∙ i.names ∙ same) x.0 in
    done_all asks_of logs w u c.loop-place.place (g.E.Emit.shows c.args.out.now) (g.E.Emit.shows c.loop-place.out) ms c.loop-place.shared x.0 (omega (arith, many, ap length (sym now ∙ i.names), c.loop-place-test.false, c.len-place-end.ensures)) x.1
