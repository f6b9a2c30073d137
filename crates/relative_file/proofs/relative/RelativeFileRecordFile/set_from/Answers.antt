use Rattle.std.proofs.Common.{◌-◌, ◌*◌, Result, Ok, Err, OnOk}
use Rattle.std.specs.Option.{option_copied}
use Rattle.vms_base.specs.Keys.{key_of}
use Rattle.vms_base.specs.vms_model.Keys.{Key}
use Rattle.change_set.specs.Files.{StagesIn, sizes_of}
use Rattle.change_set.specs.Maps.{set_key}
use Rattle.change_set.proofs.NoLayout.{none_set}
use Rattle.relative_file.specs.Cells.{map_of, IsLaidOut, Anything}
use Rattle.relative_file.proofs.MapLaws.{stages_two, told_map, told_valid}
use Rattle.relative_file.proofs.relative.RelativeFileRecordFile.set_from.Goals as goal

on_ok_then : {T E A B : Type 0} (r : Result T E) → (A → B) → OnOk r A → OnOk r B
on_ok_then (Ok x) f a = f a
on_ok_then (Err e) f a = tt

pub returns-clause-staged : goal.returns-clause-staged
returns-clause-staged g c = on_ok_then c.set_record.result (λ (s : StagesIn c.args.head.now c.args.head.now.bucket c.args.store.now c.set_record.new.store). stages_two c.args.head.now c.args.store.now c.set_record.new.store s) c.set_record.ensures.staged

pub returns-clause-layout : goal.returns-clause-layout
returns-clause-layout g c =
    none_set (IsLaidOut c.args.head.now) (λ b. Anything) c.set_record.result c.args.head.now c.args.head.now.bucket c.args.store.now c.set_record.new.store (sizes_of c.args.head.now) (λ (k : Key). g.H.Held.held c.args._held.now k)
    (key_of c.args.key.now) (option_copied c.args.value) c.set_record.ensures.staged

pub returns-clause-map : goal.returns-clause-map
returns-clause-map g c = told_map c.set_record.result c.args.head.now c.args.store.now.current _ (λ b. set_key (key_of c.args.key.now) (option_copied c.args.value) (map_of c.args.head.now b)) c.set_record.ensures.map

pub returns-clause-valid : goal.returns-clause-valid
returns-clause-valid g c = told_valid c.set_record.result c.args.head.now c.args.store.now.current c.set_record.new.store.current c.set_record.ensures.valid
