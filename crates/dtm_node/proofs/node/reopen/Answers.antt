use Rattle.std.proofs.Common.{List, ap, map, subst, sym, ◌<◌, ◌∙◌}
use Rattle.std.specs.List.{AllByRecursion}
use Rattle.emitter_model.specs.Emitting.{Emits}
use Rattle.vms_base.specs.Ids.{serial_of}
use Rattle.vms_base.specs.declared.protocol.LogRec.{LogRec}
use Rattle.volume_format.specs.declared.home.Home.{Home}
use Rattle.emitter_model.specs.commit_protocol.Table.{record_serials}
use Rattle.tm_types.specs.Parts.{log_record_of}
use Rattle.recovery_units.specs.Told.{ReopenedTold}
use Rattle.recovery_units.specs.declared.settled.SettledUnit.{SettledUnit}
use Rattle.node_requests.specs.node_table.Code.{stored_of}
use Rattle.dtm_node.specs.Nodes.{last_lines_of, undone_line}
use Rattle.dtm_node.specs.Opening.{prepared_told}
use Rattle.dtm_node.proofs.Reopening.{reopened_down, reopened_up, three_shown, undone_times}
use Rattle.dtm_node.proofs.node.reopen.Goals as goal

pub reopen_units-done-requires-clause-order : goal.reopen_units-done-requires-clause-order
reopen_units-done-requires-clause-order g c = c.requires.raised.1.order _ c.requires.none

pub show_undone-requires : goal.show_undone-requires
show_undone-requires g c = record {
  times = subst (λ (us : List SettledUnit). AllByRecursion (λ (u : SettledUnit). u.moment.0 < 24000001000067) us) (sym c.settled.ensures)
      (undone_times c.requires.raised.0 c.args.clock.0 c.args.running.now.stored.volume c.reopen_units-done.new.stored.volume _ c.requires.raised.1 c.requires.clock c.reopen_units-done.ensures.grows c.reopen_units-done.ensures.moments);
}

pub returns-in-Ok-clause-up : goal.returns-in-Ok-clause-up
returns-in-Ok-clause-up g c =
    let v = c.args.running.now.stored.volume in
    let stored = c.reopen_units-done.new.stored in
    let told : ReopenedTold = stored.room.told in
    let up = c.boot.new.self in
    let a = g.E.Emit.shows c.args.out.now in
    let b = g.E.Emit.shows c.show_last.new.out in
    let d = g.E.Emit.shows c.show_undone.new.out in
    let e = g.E.Emit.shows c.show_prepared.new.out in
    let last = subst (λ (h : Home). Emits a (last_lines_of h) b) c.home.ensures c.show_last.ensures.shows in
    let undone = subst (λ (us : List SettledUnit). Emits b (map undone_line us) d) c.settled.ensures c.show_undone.ensures.shows in
    let prepared = subst (λ (rs : List LogRec). Emits d (map prepared_told rs) e) (c.prepared.ensures ∙ ap (λ (t : ReopenedTold). t.prepared) c.boot.ensures.told) c.show_prepared.ensures.shows in
    reopened_up c.requires.raised.0 c.args.clock.0 v stored.volume (g.U.RecoveryUnits.state stored.units) told c.requires.raised.1 c.requires.clock c.in-Ok.ensures.grows (map serial_of stored.room.in_doubt.items) (record_serials (map log_record_of told.prepared)) (stored_of g.U.RecoveryUnits.state up.stored) up.table up.drawn up.managers
    c.home-in-Ok.result.now.boot a e c.in-Ok.ensures.room c.in-Ok.ensures.images c.in-Ok.ensures.order c.in-Ok.ensures.units c.in-Ok.ensures.begins c.in-Ok.ensures.done c.boot.ensures.stored c.boot.ensures.drawn (ap (λ (h : Home). h.boot) c.home-in-Ok.ensures) c.boot.ensures.up c.boot.ensures.stands (three_shown a b d e _ _ _ last undone prepared)

pub returns-in-Err-clause-down : goal.returns-in-Err-clause-down
returns-in-Err-clause-down g c =
    let v = c.args.running.now.stored.volume in
    let stored = c.reopen_units-done.new.stored in
    let a = g.E.Emit.shows c.args.out.now in
    let b = g.E.Emit.shows c.show_last.new.out in
    let d = g.E.Emit.shows c.show_undone.new.out in
    let last = subst (λ (h : Home). Emits a (last_lines_of h) b) c.home.ensures c.show_last.ensures.shows in
    let undone = subst (λ (us : List SettledUnit). Emits b (map undone_line us) d) c.settled.ensures c.show_undone.ensures.shows in
    reopened_down c.requires.raised.0 c.args.clock.0 v stored.volume (g.U.RecoveryUnits.state stored.units) stored.room.told c.requires.raised.1 c.requires.clock c.in-Err.ensures.grows (g.U.RecoveryUnits.state c.args.running.now.stored.units) c.requires.none c.in-Err.down a b d c.in-Err.ensures.cause c.in-Err.ensures.err last undone
