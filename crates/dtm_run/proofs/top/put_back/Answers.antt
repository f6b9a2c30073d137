use Rattle.std.proofs.Common.{◌<◌, [], ◌∷◌, ◌++◌, map, take, drop, length, refl, sym, ◌∙◌, ap, subst, arith}
use Rattle.std.proofs.lemmas.List.{length-map}
use Rattle.day_run.specs.dtm_node.Nodes.{kept_of, state_of}
use Rattle.day_run.specs.node_standing.Standing.{disk_in}
use Rattle.day_run.specs.run_nodes.Held.{kept_all, names_of}
use Rattle.day_run.specs.run_nodes.Names.{is_among}
use Rattle.day_run.specs.run_nodes.Together.{disks_of}
use Rattle.day_run.proofs.run_nodes.Places.{get_map}
use Rattle.dtm_run.proofs.RackLemmas.{names_more, states_more}
use Rattle.dtm_run.proofs.Taking.{drop_some, next_out, none_some, not_before, pair_of, take_all, take_next}
use Rattle.dtm_run.proofs.top.put_back.Goals as goal

pub loop-number-init : goal.loop-number-init
loop-number-init g c = record {
  left = refl;
  names = ap (map (λ p. p.0)) c.requires.none;
  disks = ap (map (λ p. g.D.Disk.state p.1)) c.requires.none;
  room = omega (arith, c.requires.room);
}

pub unreachable-requires : goal.unreachable-requires
unreachable-requires g c =
    let es = c.args.nodes.now.nodes.entries in
    let n = c.loop-number._number in
    let some = c.take_first.ensures.some (subst (λ qs. 0 < length (map (λ q. q.0) qs)) (sym c.loop-number.invariant.left) (omega (arith, length-map (drop n es) (λ q. q.0), drop_some n es (omega (arith, length-map es (λ q. q.0), c.loop-number-test.true, c.len-number-end.ensures))))) in
    none_some c.take_first.result c.in_default.is some

pub put_back-requires-clause-room : goal.put_back-requires-clause-room
put_back-requires-clause-room g c = omega (arith, c.loop-number.invariant.room, c.loop-number-test.true, c.len-number-end.ensures, c.requires.few)

pub put_back-requires-clause-new : goal.put_back-requires-clause-new
put_back-requires-clause-new g c =
    let es = c.args.nodes.now.nodes.entries in
    let n = c.loop-number._number in
    let i = c.loop-number.invariant in
    let e = c.in-Some.node in
    let next = next_out es n e c.take_first.new.self.nodes.entries (sym i.left ∙ c.in-Some.ensures.nodes) in
    ap (is_among e.0) i.names ∙ not_before (names_of c.args.nodes.now) n e.0 c.requires.apart (get_map (λ q. q.0) es n e next.at)

pub loop-number-preserved : goal.loop-number-preserved
loop-number-preserved g c =
    let state = g.D.Disk.state in
    let units = g.U.RecoveryUnits.state in
    let es = c.args.nodes.now.nodes.entries in
    let n = c.loop-number._number in
    let i = c.loop-number.invariant in
    let e = c.in-Some.node in
    let next = next_out es n e c.take_first.new.self.nodes.entries (sym i.left ∙ c.in-Some.ensures.nodes) in
    let p = pair_of e.0 c.into_disk.result in
    let disk = state_of state units e.1 in
    record {
      left = next.left;
      names = names_more c.loop-number.rack.nodes.entries c.put_back.new.self.nodes.entries p c.put_back.ensures.nodes ∙ ap (λ xs. xs ++ e.0 ∷ []) i.names
          ∙ sym (take_next (names_of c.args.nodes.now) n e.0 (get_map (λ q. q.0) es n e next.at));
      disks = states_more state c.loop-number.rack.nodes.entries c.put_back.new.self.nodes.entries p c.put_back.ensures.nodes ∙ ap (λ xs. xs ++ state c.into_disk.result ∷ []) i.disks
          ∙ ap (λ d. take n (disks_of (kept_all state units c.args.nodes.now)) ++ d ∷ []) c.into_disk.ensures
          ∙ sym (take_next (disks_of (kept_all state units c.args.nodes.now)) n disk (get_map (λ k. disk_in k.place) (kept_all state units c.args.nodes.now) n (kept_of state units e.1) (get_map (λ q. kept_of state units q.1) es n e next.at)));
      room = omega (arith, i.room, c.put_back.ensures.room);
    }

pub returns-clause-names : goal.returns-clause-names
returns-clause-names g c =
    let names = names_of c.args.nodes.now in
    c.loop-number.invariant.names ∙ take_all c.loop-number._number names (omega (arith, c.loop-number-test.false, c.len-number-end.ensures))

pub returns-clause-disks : goal.returns-clause-disks
returns-clause-disks g c =
    let es = c.args.nodes.now.nodes.entries in
    let ks = kept_all g.D.Disk.state g.U.RecoveryUnits.state c.args.nodes.now in
    c.loop-number.invariant.disks
    ∙ take_all c.loop-number._number (disks_of ks) (omega (arith, length-map ks (λ k. disk_in k.place), length-map es (λ q. kept_of g.D.Disk.state g.U.RecoveryUnits.state q.1), length-map es (λ q. q.0), c.loop-number-test.false, c.len-number-end.ensures))
