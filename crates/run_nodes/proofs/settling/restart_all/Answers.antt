use Rattle.std.specs.Prelude.{slice_get}
use Rattle.std.proofs.Common.{◌≡◌, ◌<◌, ◌≤◌, length, Some, true, refl, sym, ◌∙◌, ap, subst, arith}
use Rattle.emitter_model.proofs.EmittingLemmas.{since_on, since_same}
use Rattle.script_lang.specs.script_model.Statements.{Settle}
use Rattle.said_steps.specs.run_model.Statements.{begun_with}
use Rattle.statement_steps.specs.Settling.{restart_of}
use Rattle.dtm_node.specs.node_standing.Standing.{NodeState, is_up}
use Rattle.run_nodes.specs.Held.{kept_all}
use Rattle.run_nodes.specs.Names.{AreApart}
use Rattle.run_nodes.specs.Told.{RestartsTold, kept_names}
use Rattle.run_nodes.specs.Together.{AnswersTogether}
use Rattle.run_nodes.proofs.Entries.{same_names}
use Rattle.run_nodes.proofs.Loops.{at_length, told_none, told_on, told_over, told_up}
use Rattle.run_nodes.proofs.Worlds.{as_many, done_all, goes_none, restart_ended, restart_goes_on, restart_goes_up, same_many}
use Rattle.statement_steps.proofs.Rising.{up_all}
use Rattle.run_nodes.proofs.settling.restart_all.Goals as goal

pub loop-place-init : goal.loop-place-init
loop-place-init g c =
    let state = g.D.Disk.state in
    let units = g.U.RecoveryUnits.state in
    let ns = c.args.nodes.now in
    let s = c.args.shared.now in
    let ks = kept_all state units ns in
    let same = same_names state units c.requires.nodes.0 s ns.nodes.entries c.requires.nodes.2 in
    let apart = subst AreApart same c.requires.apart in
    record {
      names = refl;
      nodes = λ count h. h;
      used = c.requires.used;
      place = refl;
      since = since_same (g.E.Emit.shows c.args.out.now);
      told = told_none ks s (g.E.Emit.shows c.args.out.now);
      goes = λ logs w h differ told. record { goes = goes_none restart_of logs w (begun_with Settle w) (g.E.Emit.shows c.args.out.now) ks s h; up = tt };
    }

pub loop-place-preserved-then-is_up : goal.loop-place-preserved-then-is_up
loop-place-preserved-then-is_up g c =
    let state = g.D.Disk.state in
    let units = g.U.RecoveryUnits.state in
    let ns = c.args.nodes.now in
    let s = c.args.shared.now in
    let ks = kept_all state units ns in
    let same = same_names state units c.requires.nodes.0 s ns.nodes.entries c.requires.nodes.2 in
    let apart = subst AreApart same c.requires.apart in
    let i = c.loop-place.invariant in
    let ms = kept_all state units c.loop-place.nodes in
    let now = same_names state units c.requires.nodes.0 c.loop-place.shared c.loop-place.nodes.nodes.entries (i.nodes c.requires.nodes.0 c.requires.nodes.2) in
    let apart_now : AreApart (kept_names ms) = subst AreApart now (subst AreApart (sym i.names) c.requires.apart) in
    let within : c.loop-place.place < length (kept_names ks) = subst (λ xs. c.loop-place.place < length xs) same (omega (arith, c.loop-place-test.true, c.len-place-end.ensures)) in
    let a = g.E.Emit.shows c.loop-place.out in
    let up : (k : NodeState) → slice_get ms c.loop-place.place ≡ Some k → is_up k.place ≡ true = λ k e. sym (c.is_up.ensures k e) ∙ c.if-is_up.true in
    record {
      names = i.names;
      nodes = i.nodes;
      used = i.used;
      place = i.place;
      since = i.since;
      told = told_up c.loop-place.place ks s (g.E.Emit.shows c.args.out.now) a ms c.loop-place.shared i.told within up;
      goes = λ logs w h differ told.
          let k = at_length ms c.loop-place.place (subst (λ xs. c.loop-place.place < length xs) (sym same ∙ sym i.names ∙ now) within) in
          restart_goes_up logs w c.loop-place.place (g.E.Emit.shows c.args.out.now) a ms c.loop-place.shared apart_now (i.goes logs w h differ told) k.0 k.1 (up k.0 k.1);
    }

pub restart-requires-clause-nodes : goal.restart-requires-clause-nodes
restart-requires-clause-nodes g c = (c.requires.nodes.0, c.requires.nodes.1, c.loop-place.invariant.nodes c.requires.nodes.0 c.requires.nodes.2)

pub returns-in-Over-clause-nodes : goal.returns-in-Over-clause-nodes
returns-in-Over-clause-nodes g c = λ count h. c.restart.ensures.nodes count (c.loop-place.invariant.nodes count h)

pub returns-in-Over-clause-answered : goal.returns-in-Over-clause-answered
returns-in-Over-clause-answered g c = λ over t used.
    let state = g.D.Disk.state in
    let units = g.U.RecoveryUnits.state in
    let ns = c.args.nodes.now in
    let s = c.args.shared.now in
    let ks = kept_all state units ns in
    let same = same_names state units c.requires.nodes.0 s ns.nodes.entries c.requires.nodes.2 in
    let apart = subst AreApart same c.requires.apart in
    let i = c.loop-place.invariant in
    let ms = kept_all state units c.loop-place.nodes in
    let now = same_names state units c.requires.nodes.0 c.loop-place.shared c.loop-place.nodes.nodes.entries (i.nodes c.requires.nodes.0 c.requires.nodes.2) in
    let apart_now : AreApart (kept_names ms) = subst AreApart now (subst AreApart (sym i.names) c.requires.apart) in
    let within : c.loop-place.place < length (kept_names ks) = subst (λ xs. c.loop-place.place < length xs) same (omega (arith, c.loop-place-test.true, c.len-place-end.ensures)) in
    let d = c.in-Over.ensures.does in
    subst (λ xs. AnswersTogether xs Settle (g.E.Emit.shows c.args.out.now) (g.E.Emit.shows c.restart.new.out) ks t (kept_all state units c.restart.new.self) c.restart.new.shared) (sym same)
    (told_over c.loop-place.place ks t (g.E.Emit.shows c.args.out.now) (g.E.Emit.shows c.loop-place.out) (g.E.Emit.shows c.restart.new.out) ms c.loop-place.shared (kept_all state units c.restart.new.self) c.restart.new.shared apart
    (subst (λ x. RestartsTold c.loop-place.place ks x (g.E.Emit.shows c.args.out.now) (g.E.Emit.shows c.loop-place.out) ms c.loop-place.shared) used i.told) within d (sym (c.is_up.ensures d.old d.here) ∙ c.if-is_up.false))

pub returns-in-Over-clause-ended : goal.returns-in-Over-clause-ended
returns-in-Over-clause-ended g c = λ over logs w h differ told.
    let state = g.D.Disk.state in
    let units = g.U.RecoveryUnits.state in
    let ns = c.args.nodes.now in
    let s = c.args.shared.now in
    let ks = kept_all state units ns in
    let same = same_names state units c.requires.nodes.0 s ns.nodes.entries c.requires.nodes.2 in
    let apart = subst AreApart same c.requires.apart in
    let i = c.loop-place.invariant in
    let ms = kept_all state units c.loop-place.nodes in
    let now = same_names state units c.requires.nodes.0 c.loop-place.shared c.loop-place.nodes.nodes.entries (i.nodes c.requires.nodes.0 c.requires.nodes.2) in
    let apart_now : AreApart (kept_names ms) = subst AreApart now (subst AreApart (sym i.names) c.requires.apart) in
    let within : c.loop-place.place < length (kept_names ks) = subst (λ xs. c.loop-place.place < length xs) same (omega (arith, c.loop-place-test.true, c.len-place-end.ensures)) in
    let d = c.in-Over.ensures.does in
    restart_ended logs w c.loop-place.place (g.E.Emit.shows c.args.out.now) (g.E.Emit.shows c.loop-place.out) (g.E.Emit.shows c.restart.new.out) ms c.loop-place.shared (kept_all state units c.restart.new.self) c.restart.new.shared apart_now differ told (i.goes logs w h differ told).goes d
    (sym (c.is_up.ensures d.old d.here) ∙ c.if-is_up.false)

pub loop-place-preserved : goal.loop-place-preserved
loop-place-preserved g c =
    let state = g.D.Disk.state in
    let units = g.U.RecoveryUnits.state in
    let ns = c.args.nodes.now in
    let s = c.args.shared.now in
    let ks = kept_all state units ns in
    let same = same_names state units c.requires.nodes.0 s ns.nodes.entries c.requires.nodes.2 in
    let apart = subst AreApart same c.requires.apart in
    let i = c.loop-place.invariant in
    let ms = kept_all state units c.loop-place.nodes in
    let now = same_names state units c.requires.nodes.0 c.loop-place.shared c.loop-place.nodes.nodes.entries (i.nodes c.requires.nodes.0 c.requires.nodes.2) in
    let apart_now : AreApart (kept_names ms) = subst AreApart now (subst AreApart (sym i.names) c.requires.apart) in
    let within : c.loop-place.place < length (kept_names ks) = subst (λ xs. c.loop-place.place < length xs) same (omega (arith, c.loop-place-test.true, c.len-place-end.ensures)) in
    let d = c.in-GoesOn.ensures.does in
    let down = sym (c.is_up.ensures d.old d.here) ∙ c.if-is_up.false in
    let x = g.E.Emit.shows c.loop-place.out in
    let b = g.E.Emit.shows c.restart.new.out in
    let ls = kept_all state units c.restart.new.self in
    record {
      names = c.restart.ensures.names ∙ i.names;
      nodes = λ count h. c.restart.ensures.nodes count (i.nodes count h);
      used = c.restart.ensures.in_use i.used;
      place = c.restart.ensures.place ∙ i.place;
      since = since_on (g.E.Emit.shows c.args.out.now) x b i.since c.restart.ensures.since;
      told = told_on c.loop-place.place ks s (g.E.Emit.shows c.args.out.now) x b ms c.loop-place.shared ls c.restart.new.shared apart i.told within d down;
      goes = λ logs w h differ told. restart_goes_on c.worlds_stay_within.ensures.stays logs w c.loop-place.place (g.E.Emit.shows c.args.out.now) x b ms c.loop-place.shared ls c.restart.new.shared apart_now differ told (i.goes logs w h differ told) d down;
    }

pub returns-clause-done : goal.returns-clause-done
returns-clause-done g c = λ over logs w h differ told.
    let state = g.D.Disk.state in
    let units = g.U.RecoveryUnits.state in
    let ns = c.args.nodes.now in
    let s = c.args.shared.now in
    let ks = kept_all state units ns in
    let same = same_names state units c.requires.nodes.0 s ns.nodes.entries c.requires.nodes.2 in
    let apart = subst AreApart same c.requires.apart in
    let i = c.loop-place.invariant in
    let ms = kept_all state units c.loop-place.nodes in
    let now = same_names state units c.requires.nodes.0 c.loop-place.shared c.loop-place.nodes.nodes.entries (i.nodes c.requires.nodes.0 c.requires.nodes.2) in
    let apart_now : AreApart (kept_names ms) = subst AreApart now (subst AreApart (sym i.names) c.requires.apart) in
    let x = i.goes logs w h differ told in
    let many = same_many restart_of logs w (begun_with Settle w) c.loop-place.place (g.E.Emit.shows c.args.out.now) (g.E.Emit.shows c.loop-place.out) ms ks c.loop-place.shared s h (sym now ∙ i.names ∙ same) x.goes in
    let all : length w.nodes ≤ c.loop-place.place = omega (arith, many, ap length (sym now ∙ i.names), c.loop-place-test.false, c.len-place-end.ensures) in
    done_all restart_of logs w (begun_with Settle w) c.loop-place.place (g.E.Emit.shows c.args.out.now) (g.E.Emit.shows c.loop-place.out) ms c.loop-place.shared x.goes all (up_all x.goes.world.nodes c.loop-place.place x.up (let m = as_many logs ms c.loop-place.shared x.goes.world x.goes.stands in let n = as_many logs ks s (begun_with Settle w) h.stands in let q = ap length (sym now ∙ i.names ∙ same) in omega (arith, m, n, q, all)))
