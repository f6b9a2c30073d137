use Rattle.std.proofs.Common.{Ok, ◌≡◌, ◌+◌, IfSome, length, refl, subst, sym, ◌∙◌}
use Rattle.careful_write.specs.State.{EachWhole, StoreState}
use Rattle.recovered_nodes.specs.recover_rms.Calls.{IsRecovered, NotRecovered}
use Rattle.script_lang.specs.Statements.{recovery_of}
use Rattle.script_lang.specs.script_model.Statements.{Recover}
use Rattle.file_images.specs.run_model.Answers.{service}
use Rattle.node_standing.specs.node_table.Code.{stored_of}
use Rattle.file_requests.specs.declared.recovery.Reply.TheVariants.{Told}
use Rattle.file_requests.specs.Recovering.{Recovers}
use Rattle.file_requests.proofs.CauseTimes.{has_times}
use Rattle.file_requests.proofs.Recovering.{recover_done, recover_none, recover_told, rings_at}
use Rattle.file_requests.proofs.recovery.recover.Goals as goal

pub returns-in_default-clause-recovers : goal.returns-in_default-clause-recovers
returns-in_default-clause-recovers g c =
    recover_none c.args.name.now (stored_of g.U.RecoveryUnits.state c.args.stored.now) c.requires.order c.the_laws.ensures (recovery_of c.args.recovery) _ _ c.in_default.ensures.none c.emit.ensures.emits

pub recover-outcome-requires-clause-rings : goal.recover-outcome-requires-clause-rings
recover-outcome-requires-clause-rings g c = λ h there. rings_at (stored_of g.U.RecoveryUnits.state c.args.stored.now) c.requires.order c.requires.early c.in-Some.file h there

pub tell-requires : goal.tell-requires
tell-requires g c =
    let found = rw (c.in-Some.file-is) at c.in-Some.ensures.found in
    record {
      times = has_times (g.U.RecoveryUnits.state c.args.stored.now.units) c.args.stored.now.volume c.requires.order c.in-Some.file c.in-Some.field-0-1 found.1.there c.way_of-way.result (recovery_of c.args.recovery) c.changed_by-user.result c.way_of-way.ensures c.requires.times
          _ _ c.in-Err.cause (c.in-Err.ensures.err c.in-Some.field-0-1 found.1.there);
    }

pub returns-in-Ok-clause-recovers : goal.returns-in-Ok-clause-recovers
returns-in-Ok-clause-recovers g c =
    let u = stored_of g.U.RecoveryUnits.state c.args.stored.now in
    let found = rw (c.in-Some.file-is) at c.in-Some.ensures.found in
    let value = c.store.ensures.value in
    let each = subst (λ (x : StoreState). IfSome x.current EachWhole) value c.blocks_are_whole.ensures.each in
    let sized = subst (λ (x : StoreState). IfSome x.current (λ b. length b + 518 ≡ x.disk.size)) value c.blocks_are_whole.ensures.sized in
    let new = c.recover-outcome.new.volume in
    let it = subst (λ (x : StoreState). IsRecovered c.in-Some.file c.way_of-way.result c.changed_by-user.result c.in-Some.field-0-1 c.in-Ok.count (record u.volume { store = x }) new) (c.blocks_are_whole.ensures.same ∙ value) (c.in-Ok.ensures.done c.in-Some.field-0-1 found.1.there) in
    let after = record u { volume = c.recover-outcome.new.volume } in
    let back = sym (c.blocks_are_whole-2.ensures.same ∙ c.store-2.ensures.value) in
    subst (λ (x : StoreState). Recovers (Ok Told) (service (Recover c.args.name.now (recovery_of c.args.recovery))) u (record after { volume = record after.volume { store = x } }) (g.E.Emit.shows c.args.out.now) (g.E.Emit.shows c.emit-in-Ok.new.self)) back
    (recover_done c.args.name.now u c.requires.order c.the_laws.ensures (recovery_of c.args.recovery) c.in-Some.file c.in-Some.field-0-1 found.1 c.way_of-way.result c.way_of-way.ensures c.changed_by-user.result c.changed_by-user.ensures
    each sized it.allowed c.requires.early c.in-Ok.count _ refl refl it (subst (λ (x : StoreState). IfSome x.current EachWhole) c.store-2.ensures.value c.blocks_are_whole-2.ensures.each) _ _ c.emit-in-Ok.ensures.emits)

pub returns-in-Err-clause-recovers : goal.returns-in-Err-clause-recovers
returns-in-Err-clause-recovers g c =
    let u = stored_of g.U.RecoveryUnits.state c.args.stored.now in
    let found = rw (c.in-Some.file-is) at c.in-Some.ensures.found in
    let value = c.store.ensures.value in
    let each = subst (λ (x : StoreState). IfSome x.current EachWhole) value c.blocks_are_whole.ensures.each in
    let sized = subst (λ (x : StoreState). IfSome x.current (λ b. length b + 518 ≡ x.disk.size)) value c.blocks_are_whole.ensures.sized in
    let after = record u { volume = c.recover-outcome.new.volume } in
    let back = sym (c.blocks_are_whole-2.ensures.same ∙ c.store-2.ensures.value) in
    subst (λ (x : StoreState). Recovers c.tell.result (service (Recover c.args.name.now (recovery_of c.args.recovery))) u (record after { volume = record after.volume { store = x } }) (g.E.Emit.shows c.args.out.now) (g.E.Emit.shows c.tell.new.out)) back
    (recover_told c.args.name.now u c.requires.order c.the_laws.ensures (recovery_of c.args.recovery) c.in-Some.file c.in-Some.field-0-1 found.1 c.way_of-way.result c.way_of-way.ensures c.changed_by-user.result c.changed_by-user.ensures
    each sized c.requires.early _ refl refl c.tell.result _ _ c.in-Err.cause (subst (λ (x : StoreState). NotRecovered c.in-Some.file c.way_of-way.result c.changed_by-user.result c.in-Some.field-0-1 c.in-Err.cause (record u.volume { store = x }) c.recover-outcome.new.volume) (c.blocks_are_whole.ensures.same ∙ value) (c.in-Err.ensures.err c.in-Some.field-0-1 found.1.there)) c.tell.ensures.tells)
