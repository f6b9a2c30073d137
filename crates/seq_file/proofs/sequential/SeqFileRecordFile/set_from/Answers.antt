use Rattle.std.proofs.Common.{◌-◌, ◌*◌, Result, Ok, Err, OnOk}
use Rattle.std.specs.Option.{option_copied}
use Rattle.file_base.specs.vms_base.Keys.{key_of}
use Rattle.file_base.specs.vms_model.Keys.{Key}
use Rattle.change_set.specs.Files.{StagesIn, sizes_of}
use Rattle.change_set.proofs.NoLayout.{none_set}
use Rattle.seq_file.specs.Layout.{IsLaidOut, Takes}
use Rattle.seq_file.proofs.SetLaws.{stages_two}
use Rattle.seq_file.proofs.sequential.SeqFileRecordFile.set_from.Goals as goal

on_ok_then : {T E A B : Type 0} (r : Result T E) → (A → B) → OnOk r A → OnOk r B
on_ok_then (Ok x) f a = f a
on_ok_then (Err e) f a = tt

pub returns-clause-staged : goal.returns-clause-staged
returns-clause-staged g c = on_ok_then c.set_record.result (λ (s : StagesIn c.args.head.now c.args.head.now.bucket c.args.store.now c.set_record.new.store). stages_two c.args.head.now c.args.store.now c.set_record.new.store s) c.set_record.ensures.staged

pub returns-clause-layout : goal.returns-clause-layout
returns-clause-layout g c =
    let v = option_copied c.args.value in
    let k = key_of c.args.key.now in
    none_set (IsLaidOut c.args.head.now) (λ b. Takes c.args.head.now b k v) c.set_record.result c.args.head.now c.args.head.now.bucket c.args.store.now c.set_record.new.store (sizes_of c.args.head.now) (λ (key : Key). g.H.Held.held c.args._held.now key)
    k v c.set_record.ensures.staged
