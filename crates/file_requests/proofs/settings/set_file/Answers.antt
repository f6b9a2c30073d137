use Rattle.std.proofs.Common.{◌∷◌, [], option_map, refl, sym, ap, subst, ◌∙◌}
use Rattle.script_lang.specs.Statements.{setting_of}
use Rattle.volume.specs.volume_format.Head.{head_block_of}
use Rattle.vms_base.specs.Ids.{serial_of}
use Rattle.emitter_model.specs.Emitting.{Emits}
use Rattle.emitter_model.specs.transcript_model.Lines as line
use Rattle.node_standing.specs.node_table.Code.{stored_of}
use Rattle.node_standing.specs.node_table.Standing.{Stored}
use Rattle.file_requests.proofs.Marking.{mark_absent, mark_done, mark_empty, mark_fell, mark_full, mark_locked}
use Rattle.file_requests.proofs.settings.set_file.Goals as goal

pub returns-in_default-clause-serves : goal.returns-in_default-clause-serves
returns-in_default-clause-serves g c =
    mark_absent c.args.name.now (setting_of c.args.setting) (stored_of g.U.RecoveryUnits.state c.args.stored.now) c.requires.order c.requires.early c.the_laws.ensures _ _ c.in_default.ensures.none c.emit.ensures.emits

pub returns-then-asks_for_none-clause-serves : goal.returns-then-asks_for_none-clause-serves
returns-then-asks_for_none-clause-serves g c =
    let found = rw (c.in-Some.file-is, c.in-Some.head-is) at c.in-Some.ensures.found in
    mark_empty c.args.name.now (setting_of c.args.setting) (stored_of g.U.RecoveryUnits.state c.args.stored.now) c.requires.order c.requires.early c.the_laws.ensures c.in-Some.file c.in-Some.head found.1 _ _ (sym c.asks_for_none.ensures ∙ c.if-asks_for_none.true) c.emit-then-asks_for_none.ensures.emits

pub returns-in-Some-changed_by-clause-serves : goal.returns-in-Some-changed_by-clause-serves
returns-in-Some-changed_by-clause-serves g c =
    let found = rw (c.in-Some.file-is, c.in-Some.head-is) at c.in-Some.ensures.found in
    mark_locked c.args.name.now (setting_of c.args.setting) (stored_of g.U.RecoveryUnits.state c.args.stored.now) c.requires.order c.requires.early c.the_laws.ensures c.in-Some.file c.in-Some.head found.1 (sym c.asks_for_none.ensures ∙ c.if-asks_for_none.false) (serial_of c.in-Some-changed_by.serial) _ _
    (sym c.changed_by.ensures ∙ ap (option_map serial_of) c.in-Some-changed_by.is) c.emit-in-Some-changed_by.ensures.emits

pub returns-in-Err-clause-serves : goal.returns-in-Err-clause-serves
returns-in-Err-clause-serves g c =
    let found = rw (c.in-Some.file-is, c.in-Some.head-is) at c.in-Some.ensures.found in
    mark_full c.args.name.now (setting_of c.args.setting) (stored_of g.U.RecoveryUnits.state c.args.stored.now) c.requires.order c.requires.early c.the_laws.ensures c.in-Some.file c.in-Some.head found.1 (sym c.asks_for_none.ensures ∙ c.if-asks_for_none.false)
    (sym c.changed_by.ensures ∙ ap (option_map serial_of) c.in_default-changed_by.is) c.in-Err.field-0.need c.in-Err.field-0.free (g.E.Emit.shows c.args.out.now) (g.E.Emit.shows c.emit-in-Err.new.self) c.in-Err.ensures.lacks
    (let free = c.from.ensures in let need = c.from-in-Err.ensures in rw (free, need) at c.emit-in-Err.ensures.emits)

pub returns-in-Err-write_head-clause-serves : goal.returns-in-Err-write_head-clause-serves
returns-in-Err-write_head-clause-serves g c =
    let found = rw (c.in-Some.file-is, c.in-Some.head-is) at c.in-Some.ensures.found in
    let u = stored_of g.U.RecoveryUnits.state c.args.stored.now in
    let after : Stored = record { volume = c.write_head.new.volume; units = u.units; in_doubt = u.in_doubt } in
    mark_fell c.args.name.now (setting_of c.args.setting) u c.requires.order c.requires.early c.the_laws.ensures c.in-Some.file c.in-Some.head found.1 (sym c.asks_for_none.ensures ∙ c.if-asks_for_none.false)
    (sym c.changed_by.ensures ∙ ap (option_map serial_of) c.in_default-changed_by.is) c.write_head.result after (head_block_of c.in-Ok.new) c.in-Ok.new c.in-Ok.ensures.sets refl refl c.write_head.ensures c.in-Err-write_head.down _ c.in-Err-write_head.is

pub returns-in-Ok-write_head-clause-serves : goal.returns-in-Ok-write_head-clause-serves
returns-in-Ok-write_head-clause-serves g c =
    let found = rw (c.in-Some.file-is, c.in-Some.head-is) at c.in-Some.ensures.found in
    let u = stored_of g.U.RecoveryUnits.state c.args.stored.now in
    let after : Stored = record { volume = c.write_head.new.volume; units = u.units; in_doubt = u.in_doubt } in
    mark_done c.args.name.now (setting_of c.args.setting) u c.requires.order c.requires.early c.the_laws.ensures c.in-Some.file c.in-Some.head found.1 (sym c.asks_for_none.ensures ∙ c.if-asks_for_none.false)
    (sym c.changed_by.ensures ∙ ap (option_map serial_of) c.in_default-changed_by.is) c.write_head.result after (head_block_of c.in-Ok.new) c.in-Ok.new c.in-Ok.ensures.sets refl refl c.write_head.ensures c.in-Ok-write_head.field-0 _ _ c.in-Ok-write_head.is c.emit-in-Ok-write_head.ensures.emits
