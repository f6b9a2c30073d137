use Rattle.std.proofs.Common.{◌<◌, [], ◌∷◌, ◌++◌, map, take, drop, length, refl, sym, ◌∙◌, ap, subst, arith}
use Rattle.std.proofs.lemmas.List.{length-map}
use Rattle.day_run.specs.run_nodes.Names.{is_among}
use Rattle.day_run.proofs.run_nodes.Places.{get_map}
use Rattle.dtm_run.specs.Racks.{names_in}
use Rattle.dtm_run.specs.Taking.{AreNew}
use Rattle.dtm_run.proofs.Taking.{drop_all, drop_some, new_more, new_names, next_out, none_some, not_before, take_all, take_map}
use Rattle.dtm_run.proofs.TopLemmas.{sized_at}
use Rattle.dtm_run.proofs.top.take_out.Goals as goal

pub loop-number-init : goal.loop-number-init
loop-number-init g c = record {
  left = refl;
  new = subst (AreNew g.D.Disk.state g.U.RecoveryUnits.state []) (sym c.requires.none) tt;
  room = omega (arith, c.requires.room);
  spare_room = omega arith;
}

pub unreachable-requires : goal.unreachable-requires
unreachable-requires g c =
    let ps = c.args.rack.now.nodes.entries in
    let n = c.loop-number._number in
    let some = c.take_first.ensures.some (subst (λ qs. 0 < length (map (λ q. q.0) qs)) (sym c.loop-number.invariant.left) (omega (arith, length-map (drop n ps) (λ q. q.0), drop_some n ps (omega (arith, length-map ps (λ q. q.0), c.loop-number-test.true, c.len-number-end.ensures))))) in
    none_some c.take_first.result c.in_default.is some

pub push-requires-clause-room : goal.push-requires-clause-room
push-requires-clause-room g c =
    let ps = c.args.rack.now.nodes.entries in
    omega (arith, c.loop-number.invariant.room, c.loop-number-test.true, c.len-number-end.ensures, c.requires.rack.few)

pub push-requires-clause-new : goal.push-requires-clause-new
push-requires-clause-new g c =
    let ps = c.args.rack.now.nodes.entries in
    let n = c.loop-number._number in
    let i = c.loop-number.invariant in
    let p = c.in-Some.node in
    let next = next_out ps n p c.take_first.new.self.nodes.entries (sym i.left ∙ c.in-Some.ensures.nodes) in
    let names = new_names g.D.Disk.state g.U.RecoveryUnits.state (take n ps) c.loop-number.nodes.nodes.entries i.new ∙ sym (take_map (λ q. q.0) n ps) in
    ap (is_among p.0) names ∙ not_before (names_in c.args.rack.now) n p.0 c.requires.rack.apart (get_map (λ q. q.0) ps n p next.at)

pub loop-number-preserved : goal.loop-number-preserved
loop-number-preserved g c =
    let state = g.D.Disk.state in
    let units = g.U.RecoveryUnits.state in
    let ps = c.args.rack.now.nodes.entries in
    let n = c.loop-number._number in
    let i = c.loop-number.invariant in
    let p = c.in-Some.node in
    let next = next_out ps n p c.take_first.new.self.nodes.entries (sym i.left ∙ c.in-Some.ensures.nodes) in
    let sized = sized_at state ps n p c.requires.rack.sized next.at in
    record {
      left = next.left;
      new = subst (λ qs. AreNew state units qs c.push.new.self.nodes.entries) (sym next.taken)
          (subst (AreNew state units (take n ps ++ p ∷ [])) (sym c.push.ensures.nodes) (new_more state units (take n ps) c.loop-number.nodes.nodes.entries p (p.0, c.new.result) i.new refl c.new.ensures.kept (λ s. c.new.ensures.node s sized.0 sized.1)));
      room = omega (arith, i.room, c.push.ensures.room);
      spare_room = omega (arith, i.spare_room, c.take_first.ensures.room);
    }

pub returns-clause-nodes : goal.returns-clause-nodes
returns-clause-nodes g c =
    let ps = c.args.rack.now.nodes.entries in
    let n = c.loop-number._number in
    subst (λ qs. AreNew g.D.Disk.state g.U.RecoveryUnits.state qs c.loop-number.nodes.nodes.entries) (take_all n ps (omega (arith, length-map ps (λ q. q.0), c.loop-number-test.false, c.len-number-end.ensures))) c.loop-number.invariant.new

pub returns-clause-room : goal.returns-clause-room
returns-clause-room g c = c.loop-number.invariant.spare_room

pub returns-clause-rack : goal.returns-clause-rack
returns-clause-rack g c =
    let ps = c.args.rack.now.nodes.entries in
    let n = c.loop-number._number in
    c.loop-number.invariant.left ∙ drop_all n ps (omega (arith, length-map ps (λ q. q.0), c.loop-number-test.false, c.len-number-end.ensures))
