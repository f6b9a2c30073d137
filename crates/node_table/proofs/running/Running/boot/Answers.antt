use Rattle.std.proofs.Common.{◌∙◌, refl, ap, arith}
use Rattle.std.proofs.lemmas.List.{length-map}
use Rattle.tm_types.specs.Parts.{log_record_of}
use Rattle.node_table.specs.Code.{stored_of}
use Rattle.node_table.proofs.Booting.{booted_stands, booted_up, restart_as}
use Rattle.node_table.proofs.running.Running.boot.Goals as goal

pub recall-requires : goal.recall-requires
recall-requires g c =
    let few = c.requires.begins.within.table in
    let l = length-map c.args.self.now.stored.room.told.prepared log_record_of in
    omega (arith, few, l)

pub boot-requires : goal.boot-requires
boot-requires g c = restart_as _ _ c.args.self.now.stored.room.told _ (c.prepared.ensures ∙ ap (λ t. t.prepared) c.recall.ensures.told) (c.committed.ensures ∙ ap (λ t. t.committed) c.recall.ensures.told) c.requires.begins

pub returns-clause-up : goal.returns-clause-up
returns-clause-up g c = booted_up _ _ _ _ c.args.self.now.stored.room.told _ c.boot.ensures (c.prepared.ensures ∙ ap (λ t. t.prepared) c.recall.ensures.told) (c.committed.ensures ∙ ap (λ t. t.committed) c.recall.ensures.told) c.name-node.ensures c.recall.ensures.serials c.requires.begins _ c.clear.ensures c.requires.order c.requires.units

pub returns-clause-stands : goal.returns-clause-stands
returns-clause-stands g c = booted_stands _ _ _ _ c.args.self.now.stored.room.told _ c.boot.ensures (c.prepared.ensures ∙ ap (λ t. t.prepared) c.recall.ensures.told) (c.committed.ensures ∙ ap (λ t. t.committed) c.recall.ensures.told) c.name-node.ensures c.recall.ensures.serials c.requires.begins _ c.clear.ensures
    (stored_of g.U.RecoveryUnits.state c.args.self.now.stored) refl refl
