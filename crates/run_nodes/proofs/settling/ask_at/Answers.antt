use Rattle.std.specs.Prelude.{slice_get}
use Rattle.std.specs.Option.{option_map}
use Rattle.std.proofs.Common.{◌≡◌, ◌+◌, ◌<◌, ◌≤◌, length, true, false, refl, sym, ◌∙◌, ap, subst, arith}
use Rattle.vms_base.specs.Ids.{serial_of}
use Rattle.emitter_model.proofs.EmittingLemmas.{since_on, since_same}
use Rattle.statement_steps.specs.Settling.{doubts_of}
use Rattle.run_nodes.specs.Held.{kept_all, names_of}
use Rattle.run_nodes.specs.Names.{AreApart}
use Rattle.run_nodes.specs.Phases.{AskingAt}
use Rattle.run_nodes.specs.Told.{TurnOver, TurnTold, kept_names}
use Rattle.run_nodes.proofs.Askings.{asked_stays, asked_leaves, asking_begins, asking_ended_at, asking_ends, asking_over, doubts_at, doubts_begun, goes_at}
use Rattle.run_nodes.proofs.Doubts.{in_doubt_apart}
use Rattle.run_nodes.proofs.Entries.{same_names}
use Rattle.run_nodes.proofs.Restarts.{turn_none, turn_on, turn_over}
use Rattle.run_nodes.proofs.Turns.{kept_within}
use Rattle.run_nodes.proofs.settling.ask_at.Goals as goal
use Rattle.run_nodes.proofs.settling.ask_at.Goals.{then-is_in_doubt, else-is_in_doubt}

pub loop-number-init : goal.loop-number-init
loop-number-init g c =
    let ks = kept_all g.D.Disk.state g.U.RecoveryUnits.state c.args.nodes.now in
    let s = c.args.shared.now in
    let a = g.E.Emit.shows c.args.out.now in
    record {
      names = refl;
      nodes = λ count h. h;
      in_use = λ e. e;
      place = refl;
      since = since_same a;
      few = omega arith;
      told = turn_none (names_of c.args.nodes.now) ks s a;
      asking = λ logs w u x h up n at. asking_begins logs w u c.args.place x a ks s h up n at;
    }

pub ask-requires-clause-there : goal.ask-requires-clause-there
ask-requires-clause-there g c = subst (λ xs. c.args.place < length xs) (sym c.loop-number.invariant.names) c.requires.there

pub ask-requires-clause-apart : goal.ask-requires-clause-apart
ask-requires-clause-apart g c = subst AreApart (sym c.loop-number.invariant.names) c.requires.apart

pub ask-requires-clause-nodes : goal.ask-requires-clause-nodes
ask-requires-clause-nodes g c = (c.requires.nodes.0, c.requires.nodes.1, c.loop-number.invariant.nodes c.requires.nodes.0 c.requires.nodes.2)

-- None is left where the order has no such number.
pub returns-in_default-clause-done : goal.returns-in_default-clause-done
returns-in_default-clause-done g c = λ over logs w u a h up.
    let state = g.D.Disk.state in
    let units = g.U.RecoveryUnits.state in
    let ns = c.args.nodes.now in
    let s = c.args.shared.now in
    let ks = kept_all state units ns in
    let same = same_names state units c.requires.nodes.0 s ns.nodes.entries c.requires.nodes.2 in
    let apart = subst AreApart same c.requires.apart in
    let i = c.loop-number.invariant in
    let ms = kept_all state units c.loop-number.nodes in
    let now = same_names state units c.requires.nodes.0 c.loop-number.shared c.loop-number.nodes.nodes.entries (i.nodes c.requires.nodes.0 c.requires.nodes.2) in
    let apart_now : AreApart (kept_names ms) = subst AreApart now (subst AreApart (sym i.names) c.requires.apart) in
    let k = kept_within state units c.loop-number.nodes.nodes.entries c.args.place (subst (λ xs. c.args.place < length xs) (sym i.names) c.requires.there) in
    let n = goes_at logs w u c.args.place a (g.E.Emit.shows c.args.out.now) ks s apart h (kept_within state units ns.nodes.entries c.args.place c.requires.there).0 (kept_within state units ns.nodes.entries c.args.place c.requires.there).1 in
    let x = i.asking logs w u a h up n.0 n.1 in
    let distinct = in_doubt_apart state units c.requires.nodes.0 c.loop-number.shared c.loop-number.nodes.nodes.entries c.args.place k.0 (i.nodes c.requires.nodes.0 c.requires.nodes.2) k.1 in
    let here = doubts_at logs w h.world c.args.place n.0.name (doubts_of n.0) c.loop-number.number c.loop-number.unanswered (g.E.Emit.shows c.args.out.now) (g.E.Emit.shows c.loop-number.out) ms c.loop-number.shared apart_now x k.0 k.1 distinct in
    asking_ends logs w u c.args.place a (g.E.Emit.shows c.args.out.now) (g.E.Emit.shows c.loop-number.out) ks s ms c.loop-number.shared h n.0 n.1 c.loop-number.number c.loop-number.unanswered x
    (ap (λ xs. slice_get xs c.loop-number.unanswered) (sym here) ∙ sym (c.in_doubt.ensures k.0 k.1) ∙ ap (option_map serial_of) c.in_default.is)

pub loop-number-preserved : goal.loop-number-preserved
loop-number-preserved g c =
    let state = g.D.Disk.state in
    let units = g.U.RecoveryUnits.state in
    let ns = c.args.nodes.now in
    let s = c.args.shared.now in
    let ks = kept_all state units ns in
    let same = same_names state units c.requires.nodes.0 s ns.nodes.entries c.requires.nodes.2 in
    let apart = subst AreApart same c.requires.apart in
    let i = c.loop-number.invariant in
    let ms = kept_all state units c.loop-number.nodes in
    let now = same_names state units c.requires.nodes.0 c.loop-number.shared c.loop-number.nodes.nodes.entries (i.nodes c.requires.nodes.0 c.requires.nodes.2) in
    let apart_now : AreApart (kept_names ms) = subst AreApart now (subst AreApart (sym i.names) c.requires.apart) in
    let j = c.loop-number in
    let x = g.E.Emit.shows j.out in
    let b = g.E.Emit.shows c.ask.new.out in
    let ls = kept_all state units c.ask.new.nodes in
    let t = c.ask.new.shared in
    let k = kept_within state units j.nodes.nodes.entries c.args.place (subst (λ xs. c.args.place < length xs) (sym i.names) c.requires.there) in
    let names = c.ask.ensures.names ∙ i.names in
    let later = c.ask.ensures.nodes c.requires.nodes.0 (i.nodes c.requires.nodes.0 c.requires.nodes.2) in
    let m = kept_within state units c.ask.new.nodes.nodes.entries c.args.place (subst (λ xs. c.args.place < length xs) (sym names) c.requires.there) in
    let apart_then : AreApart (kept_names ls) = subst AreApart (same_names state units c.requires.nodes.0 t c.ask.new.nodes.nodes.entries later) (subst AreApart (sym names) c.requires.apart) in
    let distinct = in_doubt_apart state units c.requires.nodes.0 j.shared j.nodes.nodes.entries c.args.place k.0 (i.nodes c.requires.nodes.0 c.requires.nodes.2) k.1 in
    let distinct_then = in_doubt_apart state units c.requires.nodes.0 t c.ask.new.nodes.nodes.entries c.args.place m.0 later m.1 in
    let a = g.E.Emit.shows c.args.out.now in
    let serial = serial_of c.in-Some.serial in
    record {
      names = names;
      nodes = λ count h. c.ask.ensures.nodes count (i.nodes count h);
      in_use = λ e. c.ask.ensures.in_use (i.in_use e);
      place = c.ask.ensures.place ∙ i.place;
      since = since_on a x b i.since c.ask.ensures.since;
      few = elim c.if-is_in_doubt.branch [ then-is_in_doubt w ↦ omega (arith, w.unanswered-is, i.few) | else-is_in_doubt w ↦ omega (arith, w.unanswered-is, i.few) ];
      told = turn_on (names_of ns) ks s a x b ms j.shared ls t i.told (subst (λ ys. TurnTold ys ms j.shared x b ls t) i.names (c.in-GoesOn.ensures.told refl));
      asking = λ logs w u y h up n at.
          let z = i.asking logs w u y h up n at in
          let here = doubts_at logs w h.world c.args.place n.name (doubts_of n) j.number j.unanswered a x ms j.shared apart_now z k.0 k.1 distinct in
          let next = ap (λ xs. slice_get xs j.unanswered) (sym here) ∙ sym (c.in_doubt.ensures k.0 k.1) ∙ ap (option_map serial_of) c.in-Some.is in
          let one = c.in-GoesOn.ensures.asked refl logs w h.world n.name (doubts_of n) j.number j.unanswered a z next in
          elim c.if-is_in_doubt.branch [
            | then-is_in_doubt v ↦ subst (λ many. AskingAt logs w h.world c.args.place n.name (doubts_of n) (j.number + 1) many a b ls t) (sym v.unanswered-is)
                (asked_stays logs w h.world c.args.place n.name (doubts_of n) j.number j.unanswered serial a b ls t apart_then m.0 m.1 distinct_then ((c.is_in_doubt.ensures m.0 m.1).0 v.if-is_in_doubt.true) one)
            | else-is_in_doubt v ↦ subst (λ many. AskingAt logs w h.world c.args.place n.name (doubts_of n) (j.number + 1) many a b ls t) (sym v.unanswered-is)
                (asked_leaves logs w h.world c.args.place n.name (doubts_of n) j.number j.unanswered serial a b ls t apart_then m.0 m.1 distinct_then
                (λ e. (let no : true ≡ false = sym ((c.is_in_doubt.ensures m.0 m.1).1 e) ∙ v.if-is_in_doubt.false in let none : ⊥ = cc in none)) one)
          ];
    }

pub returns-in-Over-clause-nodes : goal.returns-in-Over-clause-nodes
returns-in-Over-clause-nodes g c = λ count h. c.ask.ensures.nodes count (c.loop-number.invariant.nodes count h)

pub returns-in-Over-clause-answered : goal.returns-in-Over-clause-answered
returns-in-Over-clause-answered g c = λ over.
    let state = g.D.Disk.state in
    let units = g.U.RecoveryUnits.state in
    let ns = c.args.nodes.now in
    let s = c.args.shared.now in
    let ks = kept_all state units ns in
    let same = same_names state units c.requires.nodes.0 s ns.nodes.entries c.requires.nodes.2 in
    let apart = subst AreApart same c.requires.apart in
    let i = c.loop-number.invariant in
    let ms = kept_all state units c.loop-number.nodes in
    let now = same_names state units c.requires.nodes.0 c.loop-number.shared c.loop-number.nodes.nodes.entries (i.nodes c.requires.nodes.0 c.requires.nodes.2) in
    let apart_now : AreApart (kept_names ms) = subst AreApart now (subst AreApart (sym i.names) c.requires.apart) in
    let x = g.E.Emit.shows c.loop-number.out in
    let b = g.E.Emit.shows c.ask.new.out in
    let ls = kept_all state units c.ask.new.nodes in
    turn_over (names_of ns) ks s (g.E.Emit.shows c.args.out.now) x b ms c.loop-number.shared ls c.ask.new.shared i.told (subst (λ ys. TurnOver ys ms c.loop-number.shared x b ls c.ask.new.shared) i.names (c.in-Over.ensures.answered refl))

pub returns-in-Over-clause-ended : goal.returns-in-Over-clause-ended
returns-in-Over-clause-ended g c = λ over logs w u a h up.
    let state = g.D.Disk.state in
    let units = g.U.RecoveryUnits.state in
    let ns = c.args.nodes.now in
    let s = c.args.shared.now in
    let ks = kept_all state units ns in
    let same = same_names state units c.requires.nodes.0 s ns.nodes.entries c.requires.nodes.2 in
    let apart = subst AreApart same c.requires.apart in
    let i = c.loop-number.invariant in
    let ms = kept_all state units c.loop-number.nodes in
    let now = same_names state units c.requires.nodes.0 c.loop-number.shared c.loop-number.nodes.nodes.entries (i.nodes c.requires.nodes.0 c.requires.nodes.2) in
    let apart_now : AreApart (kept_names ms) = subst AreApart now (subst AreApart (sym i.names) c.requires.apart) in
    let k = kept_within state units c.loop-number.nodes.nodes.entries c.args.place (subst (λ xs. c.args.place < length xs) (sym i.names) c.requires.there) in
    let l = kept_within state units ns.nodes.entries c.args.place c.requires.there in
    let n = goes_at logs w u c.args.place a (g.E.Emit.shows c.args.out.now) ks s apart h l.0 l.1 in
    let x = i.asking logs w u a h up n.0 n.1 in
    let distinct = in_doubt_apart state units c.requires.nodes.0 c.loop-number.shared c.loop-number.nodes.nodes.entries c.args.place k.0 (i.nodes c.requires.nodes.0 c.requires.nodes.2) k.1 in
    let here = doubts_at logs w h.world c.args.place n.0.name (doubts_of n.0) c.loop-number.number c.loop-number.unanswered (g.E.Emit.shows c.args.out.now) (g.E.Emit.shows c.loop-number.out) ms c.loop-number.shared apart_now x k.0 k.1 distinct in
    let next = ap (λ xs. slice_get xs c.loop-number.unanswered) (sym here) ∙ sym (c.in_doubt.ensures k.0 k.1) ∙ ap (option_map serial_of) c.in-Some.is in
    asking_ended_at logs w u c.args.place a (g.E.Emit.shows c.args.out.now) (g.E.Emit.shows c.ask.new.out) ks s (kept_all state units c.ask.new.nodes) c.ask.new.shared h n.0 n.1
    (c.in-Over.ensures.ended refl logs w h.world n.0.name (doubts_of n.0) c.loop-number.number c.loop-number.unanswered (g.E.Emit.shows c.args.out.now) x next)

pub returns-clause-done : goal.returns-clause-done
returns-clause-done g c = λ over logs w u a h up.
    let state = g.D.Disk.state in
    let units = g.U.RecoveryUnits.state in
    let ns = c.args.nodes.now in
    let s = c.args.shared.now in
    let ks = kept_all state units ns in
    let same = same_names state units c.requires.nodes.0 s ns.nodes.entries c.requires.nodes.2 in
    let apart = subst AreApart same c.requires.apart in
    let i = c.loop-number.invariant in
    let ms = kept_all state units c.loop-number.nodes in
    let now = same_names state units c.requires.nodes.0 c.loop-number.shared c.loop-number.nodes.nodes.entries (i.nodes c.requires.nodes.0 c.requires.nodes.2) in
    let apart_now : AreApart (kept_names ms) = subst AreApart now (subst AreApart (sym i.names) c.requires.apart) in
    let l = kept_within state units ns.nodes.entries c.args.place c.requires.there in
    let n = goes_at logs w u c.args.place a (g.E.Emit.shows c.args.out.now) ks s apart h l.0 l.1 in
    let x = i.asking logs w u a h up n.0 n.1 in
    let first = in_doubt_apart state units c.requires.nodes.0 s ns.nodes.entries c.args.place l.0 c.requires.nodes.2 l.1 in
    let all = doubts_begun logs w u c.args.place a (g.E.Emit.shows c.args.out.now) ks s apart h up l.0 l.1 first n.0 n.1 in
    let over : length (doubts_of n.0) ≤ c.loop-number.number = omega (arith, ap length all, c.doubts-number-end.ensures l.0 l.1, c.loop-number-test.false) in
    asking_ends logs w u c.args.place a (g.E.Emit.shows c.args.out.now) (g.E.Emit.shows c.loop-number.out) ks s ms c.loop-number.shared h n.0 n.1 c.loop-number.number c.loop-number.unanswered x
    (asking_over logs w h.world c.args.place n.0.name (doubts_of n.0) c.loop-number.number c.loop-number.unanswered (g.E.Emit.shows c.args.out.now) (g.E.Emit.shows c.loop-number.out) ms c.loop-number.shared x over)
