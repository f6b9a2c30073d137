use Rattle.std.proofs.Common.{Result, Ok, Err, OnOk}
use Rattle.relative_file.proofs.LayoutLaws.{layout_empty}
use Rattle.relative_file.proofs.MakeLaws.{map_empty}
use Rattle.relative_file.proofs.relative.RelativeFileRecordFile.make.Goals as goal

on_ok_then : {T E A B : Type 0} (r : Result T E) → (A → B) → OnOk r A → OnOk r B
on_ok_then (Ok x) f a = f a
on_ok_then (Err e) f a = tt

pub returns-else-is_err-clause-map : goal.returns-else-is_err-clause-map
returns-else-is_err-clause-map g c =
    on_ok_then c.make_file-done.result (λ empty. map_empty c.make_file-done.new.store.current c.args.head.now c.requires.form empty) c.make_file-done.ensures.ok

pub returns-else-is_err-clause-valid : goal.returns-else-is_err-clause-valid
returns-else-is_err-clause-valid g c =
    on_ok_then c.make_file-done.result (λ empty. layout_empty c.make_file-done.new.store.current c.args.head.now c.requires.form c.requires.placed.records empty) c.make_file-done.ensures.ok
