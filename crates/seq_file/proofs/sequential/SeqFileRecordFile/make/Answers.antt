use Rattle.std.proofs.Common.{Result, Ok, Err, OnOk}
use Rattle.seq_file.proofs.SetLaws.{empty_made, empty_valid}
use Rattle.seq_file.proofs.sequential.SeqFileRecordFile.make.Goals as goal

on_ok_then : {T E A B : Type 0} (r : Result T E) → (A → B) → OnOk r A → OnOk r B
on_ok_then (Ok x) f a = f a
on_ok_then (Err e) f a = tt

pub returns-else-is_err-clause-map : goal.returns-else-is_err-clause-map
returns-else-is_err-clause-map g c = on_ok_then c.make_file-done.result (λ made. empty_made c.make_file-done.new.store.current c.args.head.now made) c.make_file-done.ensures.made

pub returns-else-is_err-clause-valid : goal.returns-else-is_err-clause-valid
returns-else-is_err-clause-valid g c = on_ok_then c.make_file-done.result (λ made. empty_valid c.make_file-done.new.store.current c.args.head.now made) c.make_file-done.ensures.made
