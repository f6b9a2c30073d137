use Rattle.std.proofs.Common.{Ok, ap, refl, subst, ◌+◌, ◌∙◌}
use Rattle.emitter_model.proofs.EmittingLemmas.{since_on}
use Rattle.script_lang.specs.Statements.{request_of}
use Rattle.node_requests.specs.node_table.Code.{up_of}
use Rattle.node_requests.specs.Requests.{AnswersRequest}
use Rattle.node_requests.specs.node_standing.Standing.{NodeState}
use Rattle.dtm_node.proofs.Going.{same_keeps, same_moment}
use Rattle.dtm_node.proofs.NodeEvents.{fall_shown}
use Rattle.dtm_node.proofs.NodeRequests.{broken_falls, broken_performs, broken_tells, lacking_node, lacking_performs, lacking_tells, lacking_use, may_serve_node, refused_performs, refused_tells, request_use, served_node, served_performs, served_tells}
use Rattle.dtm_node.proofs.node.Node.serve_up.Goals as goal

pub serve_up-requires-clause-may : goal.serve_up-requires-clause-may
serve_up-requires-clause-may g c = may_serve_node g.D.Disk.state g.U.RecoveryUnits.state c.args.self.now c.args.shared.now c.in-Up.running c.in-Up.is c.requires.node

pub returns-in-Ok-Told-clause-keeps : goal.returns-in-Ok-Told-clause-keeps
returns-in-Ok-Told-clause-keeps g c =
    let state = g.D.Disk.state in
    let units = g.U.RecoveryUnits.state in
    let asked = request_of c.args.lit.now c.args.request.now in
    let does = subst (λ reply. AnswersRequest (Ok reply) asked c.args.self.now.clock.0 (up_of units c.in-Up.running) (up_of units c.serve_up.new.running) c.args.shared.now c.serve_up.new.shared (g.E.Emit.shows c.args.out.now) (g.E.Emit.shows c.serve_up.new.out)) c.in-Ok-Told.field-0-is c.in-Ok-Told.ensures.does in
    record {
      name = refl;
      clock = refl;
      in_use = λ used. request_use _ _ _ _ _ _ _ c.requires.asks does.says used;
      node = λ count h. served_node state units c.args.self.now c.args.shared.now c.in-Up.running c.in-Up.is asked c.requires.asks c.serve_up.new.running c.serve_up.new.shared _ _ does count h;
    }

pub returns-in-Ok-Told-clause-shown : goal.returns-in-Ok-Told-clause-shown
returns-in-Ok-Told-clause-shown g c =
    let units = g.U.RecoveryUnits.state in
    let asked = request_of c.args.lit.now c.args.request.now in
    let does = subst (λ reply. AnswersRequest (Ok reply) asked c.args.self.now.clock.0 (up_of units c.in-Up.running) (up_of units c.serve_up.new.running) c.args.shared.now c.serve_up.new.shared (g.E.Emit.shows c.args.out.now) (g.E.Emit.shows c.serve_up.new.out)) c.in-Ok-Told.field-0-is c.in-Ok-Told.ensures.does in
    record { since = does.keeps.since; place = c.in-Ok-Told.ensures.place }

pub returns-in-Ok-Told-clause-tells : goal.returns-in-Ok-Told-clause-tells
returns-in-Ok-Told-clause-tells g c =
    let state = g.D.Disk.state in
    let units = g.U.RecoveryUnits.state in
    let asked = request_of c.args.lit.now c.args.request.now in
    let does = subst (λ reply. AnswersRequest (Ok reply) asked c.args.self.now.clock.0 (up_of units c.in-Up.running) (up_of units c.serve_up.new.running) c.args.shared.now c.serve_up.new.shared (g.E.Emit.shows c.args.out.now) (g.E.Emit.shows c.serve_up.new.out)) c.in-Ok-Told.field-0-is c.in-Ok-Told.ensures.does in
    served_tells state units c.args.self.now c.args.shared.now c.in-Up.running c.in-Up.is asked c.requires.asks c.serve_up.new.running c.serve_up.new.shared _ _ does c.requires.node.0 c.requires.node.2

pub returns-in-Ok-Told-clause-performs : goal.returns-in-Ok-Told-clause-performs
returns-in-Ok-Told-clause-performs g c =
    let state = g.D.Disk.state in
    let units = g.U.RecoveryUnits.state in
    let asked = request_of c.args.lit.now c.args.request.now in
    let does = subst (λ reply. AnswersRequest (Ok reply) asked c.args.self.now.clock.0 (up_of units c.in-Up.running) (up_of units c.serve_up.new.running) c.args.shared.now c.serve_up.new.shared (g.E.Emit.shows c.args.out.now) (g.E.Emit.shows c.serve_up.new.out)) c.in-Ok-Told.field-0-is c.in-Ok-Told.ensures.does in
    served_performs state units c.args.self.now c.args.shared.now c.in-Up.running c.in-Up.is asked c.requires.asks c.serve_up.new.running c.serve_up.new.shared _ _ does c.requires.node.0 c.requires.node.2

pub returns-in-Ok-NoMemory-clause-keeps : goal.returns-in-Ok-NoMemory-clause-keeps
returns-in-Ok-NoMemory-clause-keeps g c =
    let state = g.D.Disk.state in
    let units = g.U.RecoveryUnits.state in
    let asked = request_of c.args.lit.now c.args.request.now in
    let does = subst (λ reply. AnswersRequest (Ok reply) asked c.args.self.now.clock.0 (up_of units c.in-Up.running) (up_of units c.serve_up.new.running) c.args.shared.now c.serve_up.new.shared (g.E.Emit.shows c.args.out.now) (g.E.Emit.shows c.serve_up.new.out)) c.in-Ok-NoMemory.field-0-is c.in-Ok-NoMemory.ensures.does in
    record {
      name = refl;
      clock = refl;
      in_use = λ used. lacking_use state units c.args.self.now c.args.shared.now c.in-Up.running c.in-Up.is asked c.requires.asks c.serve_up.new.running c.serve_up.new.shared _ _ does used;
      node = λ count h. lacking_node state units c.args.self.now c.args.shared.now c.in-Up.running c.in-Up.is asked c.requires.asks c.serve_up.new.running c.serve_up.new.shared _ _ does count h;
    }

pub returns-in-Ok-NoMemory-clause-shown : goal.returns-in-Ok-NoMemory-clause-shown
returns-in-Ok-NoMemory-clause-shown g c =
    let units = g.U.RecoveryUnits.state in
    let asked = request_of c.args.lit.now c.args.request.now in
    let does = subst (λ reply. AnswersRequest (Ok reply) asked c.args.self.now.clock.0 (up_of units c.in-Up.running) (up_of units c.serve_up.new.running) c.args.shared.now c.serve_up.new.shared (g.E.Emit.shows c.args.out.now) (g.E.Emit.shows c.serve_up.new.out)) c.in-Ok-NoMemory.field-0-is c.in-Ok-NoMemory.ensures.does in
    record { since = since_on _ _ _ does.keeps.since c.emit.ensures.since; place = c.emit.ensures.same_place ∙ c.in-Ok-NoMemory.ensures.place }

pub returns-in-Ok-NoMemory-clause-tells : goal.returns-in-Ok-NoMemory-clause-tells
returns-in-Ok-NoMemory-clause-tells g c =
    let state = g.D.Disk.state in
    let units = g.U.RecoveryUnits.state in
    let asked = request_of c.args.lit.now c.args.request.now in
    let does = subst (λ reply. AnswersRequest (Ok reply) asked c.args.self.now.clock.0 (up_of units c.in-Up.running) (up_of units c.serve_up.new.running) c.args.shared.now c.serve_up.new.shared (g.E.Emit.shows c.args.out.now) (g.E.Emit.shows c.serve_up.new.out)) c.in-Ok-NoMemory.field-0-is c.in-Ok-NoMemory.ensures.does in
    lacking_tells state units c.args.self.now c.args.shared.now c.in-Up.running c.in-Up.is asked c.requires.asks c.serve_up.new.running c.serve_up.new.shared _ _ does _ c.emit.ensures.emits c.requires.node.0 c.requires.node.2

pub returns-in-Ok-NoMemory-clause-performs : goal.returns-in-Ok-NoMemory-clause-performs
returns-in-Ok-NoMemory-clause-performs g c =
    let state = g.D.Disk.state in
    let units = g.U.RecoveryUnits.state in
    let asked = request_of c.args.lit.now c.args.request.now in
    let does = subst (λ reply. AnswersRequest (Ok reply) asked c.args.self.now.clock.0 (up_of units c.in-Up.running) (up_of units c.serve_up.new.running) c.args.shared.now c.serve_up.new.shared (g.E.Emit.shows c.args.out.now) (g.E.Emit.shows c.serve_up.new.out)) c.in-Ok-NoMemory.field-0-is c.in-Ok-NoMemory.ensures.does in
    lacking_performs state units c.args.self.now c.args.shared.now c.in-Up.running c.in-Up.is asked c.requires.asks c.serve_up.new.running c.serve_up.new.shared _ _ does _ c.emit.ensures.emits c.requires.node.0 c.requires.node.2

pub go_down-requires : goal.go_down-requires
go_down-requires g c = record {
  falls = broken_falls g.D.Disk.state g.U.RecoveryUnits.state c.args.self.now c.args.shared.now c.in-Up.running c.in-Up.is (request_of c.args.lit.now c.args.request.now) c.requires.asks c.serve_up.new.running c.serve_up.new.shared _ _ c.in-Err.down c.in-Err.ensures.does c.requires.node.0 c.requires.node.2;
}

pub returns-in-Err-clause-keeps : goal.returns-in-Err-clause-keeps
returns-in-Err-clause-keeps g c = record {
  name = ap (λ (k : NodeState). k.name) c.go_down.ensures.kept;
  clock = same_moment _ _ (ap (λ (k : NodeState). k.clock) c.go_down.ensures.kept);
  in_use = λ used. request_use _ _ _ _ _ _ _ c.requires.asks c.in-Err.ensures.does.says used;
  node = λ count h. c.go_down.ensures.node (count + 1) c.serve_up.new.shared h.clock;
}

pub returns-in-Err-clause-shown : goal.returns-in-Err-clause-shown
returns-in-Err-clause-shown g c = record {
  since = since_on _ _ _ (since_on _ _ _ c.in-Err.ensures.does.keeps.since c.go_down.ensures.shown.since) c.emit-in-Err.ensures.since;
  place = c.emit-in-Err.ensures.same_place ∙ (c.go_down.ensures.shown.place ∙ c.in-Err.ensures.place);
}

pub returns-in-Err-clause-tells : goal.returns-in-Err-clause-tells
returns-in-Err-clause-tells g c =
    broken_tells g.D.Disk.state g.U.RecoveryUnits.state c.args.self.now c.args.shared.now c.in-Up.running c.in-Up.is (request_of c.args.lit.now c.args.request.now) c.requires.asks c.serve_up.new.running c.serve_up.new.shared _ _ c.in-Err.down c.in-Err.ensures.does _ _ c.go_down.ensures.kept
    (fall_shown _ _ _ _ _ _ c.cause_of.ensures c.go_down.ensures.shows c.emit-in-Err.ensures.emits) c.requires.node.0 c.requires.node.2

pub returns-in-Err-clause-performs : goal.returns-in-Err-clause-performs
returns-in-Err-clause-performs g c =
    broken_performs g.D.Disk.state g.U.RecoveryUnits.state c.args.self.now c.args.shared.now c.in-Up.running c.in-Up.is (request_of c.args.lit.now c.args.request.now) c.requires.asks c.serve_up.new.running c.serve_up.new.shared _ _ c.in-Err.down c.in-Err.ensures.does _ _ c.go_down.ensures.kept
    (fall_shown _ _ _ _ _ _ c.cause_of.ensures c.go_down.ensures.shows c.emit-in-Err.ensures.emits) c.requires.node.0 c.requires.node.2

pub returns-in-Down-clause-keeps : goal.returns-in-Down-clause-keeps
returns-in-Down-clause-keeps g c = same_keeps g.D.Disk.state g.U.RecoveryUnits.state c.args.shared.now c.args.self.now

pub returns-in-Down-clause-tells : goal.returns-in-Down-clause-tells
returns-in-Down-clause-tells g c = refused_tells g.D.Disk.state g.U.RecoveryUnits.state c.args.self.now c.args.shared.now _ _ c.in-Down.is (request_of c.args.lit.now c.args.request.now) c.requires.asks _ _ c.emit-in-Down.ensures.emits

pub returns-in-Down-clause-performs : goal.returns-in-Down-clause-performs
returns-in-Down-clause-performs g c = refused_performs g.D.Disk.state g.U.RecoveryUnits.state c.args.self.now c.args.shared.now _ _ c.in-Down.is (request_of c.args.lit.now c.args.request.now) c.requires.asks _ _ c.emit-in-Down.ensures.emits
