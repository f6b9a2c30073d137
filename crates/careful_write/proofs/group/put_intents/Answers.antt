use Rattle.std.proofs.Common.{◌+◌, length}
use Rattle.careful_write.specs.Parts.{in_data}
use Rattle.careful_write.proofs.Exits.{on_err_so}
use Rattle.careful_write.proofs.Intents.{told_intents, held_kept, index_off_data}
use Rattle.careful_write.proofs.Written.{data_touched, intents_touched, first_off}
use Rattle.careful_write.proofs.group.put_intents.Goals as goal

pub returns-clause-intents : goal.returns-clause-intents
returns-clause-intents g c =
    let es = c.args.group.now.entries in
    let s1 = g.D.Disk.state c.write_data.new.disk in
    let s2 = g.D.Disk.state c.write_index.new.disk in
    let held = held_kept es (length es) s1 s2 c.requires.few c.in_ok-write_index.ensures.touches c.in_ok-write_data.ensures.held in
    told_intents es s2.seen c.in_ok-write_index.ensures.names held

pub returns-in_err-write_data-clause-order : goal.returns-in_err-write_data-clause-order
returns-in_err-write_data-clause-order g c =
    let count = length c.args.group.now.entries in
    on_err_so c.from_residual.result (first_off (in_data count) count _ _ (λ n on. index_off_data count n c.requires.few on) c.write_data.ensures.touches c.requires.settled)

pub returns-in_err-write_index-clause-order : goal.returns-in_err-write_index-clause-order
returns-in_err-write_index-clause-order g c =
    on_err_so c.from_residual-in_err-write_index.result (λ n on has k below. c.write_index.ensures.kept (6 + k) (c.in_ok-write_data.ensures.pends k below))

pub returns-clause-pends : goal.returns-clause-pends
returns-clause-pends g c = λ k below. c.write_index.ensures.kept (6 + k) (c.in_ok-write_data.ensures.pends k below)

pub returns-in_err-write_data-clause-touches : goal.returns-in_err-write_data-clause-touches
returns-in_err-write_data-clause-touches g c = data_touched (length c.args.group.now.entries) _ _ c.write_data.ensures.touches

pub returns-in_err-write_index-clause-touches : goal.returns-in_err-write_index-clause-touches
returns-in_err-write_index-clause-touches g c = intents_touched (length c.args.group.now.entries) _ _ _ c.write_data.ensures.touches c.write_index.ensures.touches

pub returns-clause-touches : goal.returns-clause-touches
returns-clause-touches g c = intents_touched (length c.args.group.now.entries) _ _ _ c.write_data.ensures.touches c.write_index.ensures.touches
