use Rattle.std.proofs.Common.{None, [], ap, false, refl, subst, sym, true, ◌∷◌}
use Rattle.transcript.specs.Forms.{line_of}
use Rattle.emitter_model.specs.transcript_model.Lines as line
use Rattle.run_shared.specs.Sharing.{SharedState}
use Rattle.dtm_node.specs.Causes.{cause_of}
use Rattle.dtm_node.specs.Nodes.{kept_of, place_of}
use Rattle.dtm_node.specs.Opening.{ComesTo}
use Rattle.node_requests.specs.node_standing.Standing.{NodeState}
use Rattle.dtm_node.proofs.BootPlaces.{left_place}
use Rattle.dtm_node.proofs.Going.{same_moment}
use Rattle.dtm_node.proofs.Boots.{ended_comes, opens_fell, opens_lacks, opens_open, opens_refused, up_comes}
use Rattle.dtm_node.proofs.node.Node.come_up.Goals as goal

pub returns-in-Up-clause-comes : goal.returns-in-Up-clause-comes
returns-in-Up-clause-comes g c =
    let k = kept_of g.D.Disk.state g.U.RecoveryUnits.state c.args.self.now in
    let q = (kept_of g.D.Disk.state g.U.RecoveryUnits.state c.rise.new.self).place in
    let a = g.E.Emit.shows c.args.out.now in
    let b = g.E.Emit.shows c.rise.new.out in
    subst (λ (l : NodeState). ComesTo k c.args.shared.now c.rise.result a b l c.occupy.new.self) (sym c.rise.ensures.kept)
    (subst (λ (t : SharedState). ComesTo k c.args.shared.now c.rise.result a b (record k { place = q }) t) (sym c.occupy.ensures)
    (up_comes c.the_laws.ensures k (place_of g.D.Disk.state g.U.RecoveryUnits.state c.replace_with.new.dest) q c.rise.result c.args.shared.now a b c.requires.made c.requires.down (c.in-Up.ensures.1 c.args.self.now.clock.0) c.rise.ensures.reopens))

pub returns-in-NoMemory-clause-comes : goal.returns-in-NoMemory-clause-comes
returns-in-NoMemory-clause-comes g c =
    let k = kept_of g.D.Disk.state g.U.RecoveryUnits.state c.args.self.now in
    let p = place_of g.D.Disk.state g.U.RecoveryUnits.state c.replace_with.new.dest in
    ended_comes k p [] line.NoMemory false c.requires.made (opens_lacks (record k { unmade = false }) p (c.in-NoMemory.ensures.1 c.args.self.now.clock.0)).1 c.args.shared.now _ _ c.emit.ensures.emits

pub returns-in-Refused-clause-comes : goal.returns-in-Refused-clause-comes
returns-in-Refused-clause-comes g c =
    let k = kept_of g.D.Disk.state g.U.RecoveryUnits.state c.args.self.now in
    let p = place_of g.D.Disk.state g.U.RecoveryUnits.state c.replace_with.new.dest in
    ended_comes k p [] (line_of c.in-Refused.form) false c.requires.made (opens_refused (record k { unmade = false }) p c.in-Refused.form (c.in-Refused.ensures.1 c.args.self.now.clock.0)).2 c.args.shared.now _ _ c.emit-in-Refused.ensures.emits

pub returns-in-Fell-clause-comes : goal.returns-in-Fell-clause-comes
returns-in-Fell-clause-comes g c =
    let k = kept_of g.D.Disk.state g.U.RecoveryUnits.state c.args.self.now in
    let p = place_of g.D.Disk.state g.U.RecoveryUnits.state c.replace_with.new.dest in
    let cause = cause_of c.in-Fell.down in
    subst (λ (t : SharedState). ComesTo k c.args.shared.now None (g.E.Emit.shows c.args.out.now) (g.E.Emit.shows c.show_fall.new.out) (record k { place = p }) t) (sym c.occupy-in-Fell.ensures)
    (ended_comes k p (line.Down c.args.self.now.name cause ∷ []) (line.Broken cause) true c.requires.made (opens_fell (record k { unmade = false }) p c.in-Fell.down (c.in-Fell.ensures.1 c.args.self.now.clock.0)).1 c.args.shared.now _ _ c.show_fall.ensures.shows)

pub rise-requires-clause-open : goal.rise-requires-clause-open
rise-requires-clause-open g c = opens_open (record (kept_of g.D.Disk.state g.U.RecoveryUnits.state c.args.self.now) { unmade = false }) (place_of g.D.Disk.state g.U.RecoveryUnits.state c.replace_with.new.dest) (c.in-Up.ensures.1 c.args.self.now.clock.0)

pub emit-requires-in-Refused : goal.emit-requires-in-Refused
emit-requires-in-Refused g c = (opens_refused (record (kept_of g.D.Disk.state g.U.RecoveryUnits.state c.args.self.now) { unmade = false }) (place_of g.D.Disk.state g.U.RecoveryUnits.state c.replace_with.new.dest) c.in-Refused.form (c.in-Refused.ensures.1 c.args.self.now.clock.0)).1

pub returns-in-Up-clause-keeps : goal.returns-in-Up-clause-keeps
returns-in-Up-clause-keeps g c = record {
  name = ap (λ (k : NodeState). k.name) c.rise.ensures.kept;
  clock = same_moment _ _ (ap (λ (k : NodeState). k.clock) c.rise.ensures.kept);
  in_use = λ used. ap (λ (t : SharedState). t.in_use) c.occupy.ensures;
  node = λ count h. c.rise.ensures.node count c.occupy.new.self (ap (λ (t : SharedState). t.in_use) c.occupy.ensures) c.requires.made;
}

pub returns-in-NoMemory-clause-keeps : goal.returns-in-NoMemory-clause-keeps
returns-in-NoMemory-clause-keeps g c = record {
  name = refl;
  clock = refl;
  in_use = λ used. used;
  node = λ count h. record {
    place = left_place g.D.Disk.state g.U.RecoveryUnits.state count c.args.shared.now (record c.args.self.now { place = c.replace_with.new.dest }) c.replace_with.new.dest
        (opens_lacks (record (kept_of g.D.Disk.state g.U.RecoveryUnits.state c.args.self.now) { unmade = false }) (place_of g.D.Disk.state g.U.RecoveryUnits.state c.replace_with.new.dest) (c.in-NoMemory.ensures.1 c.args.self.now.clock.0)).0 c.in-NoMemory.ensures.0;
    clock = h.clock;
  };
}

pub returns-in-Refused-clause-keeps : goal.returns-in-Refused-clause-keeps
returns-in-Refused-clause-keeps g c = record {
  name = refl;
  clock = refl;
  in_use = λ used. used;
  node = λ count h. record {
    place = left_place g.D.Disk.state g.U.RecoveryUnits.state count c.args.shared.now (record c.args.self.now { place = c.replace_with.new.dest }) c.replace_with.new.dest
        (opens_refused (record (kept_of g.D.Disk.state g.U.RecoveryUnits.state c.args.self.now) { unmade = false }) (place_of g.D.Disk.state g.U.RecoveryUnits.state c.replace_with.new.dest) c.in-Refused.form (c.in-Refused.ensures.1 c.args.self.now.clock.0)).0 c.in-Refused.ensures.0;
    clock = h.clock;
  };
}

pub returns-in-Fell-clause-keeps : goal.returns-in-Fell-clause-keeps
returns-in-Fell-clause-keeps g c = record {
  name = refl;
  clock = refl;
  in_use = λ used. ap (λ (t : SharedState). t.in_use) c.occupy-in-Fell.ensures;
  node = λ count h. record {
    place = left_place g.D.Disk.state g.U.RecoveryUnits.state count c.occupy-in-Fell.new.self (record c.args.self.now { place = c.replace_with.new.dest }) c.replace_with.new.dest
        (opens_fell (record (kept_of g.D.Disk.state g.U.RecoveryUnits.state c.args.self.now) { unmade = false }) (place_of g.D.Disk.state g.U.RecoveryUnits.state c.replace_with.new.dest) c.in-Fell.down (c.in-Fell.ensures.1 c.args.self.now.clock.0)).0 c.in-Fell.ensures.0;
    clock = h.clock;
  };
}
