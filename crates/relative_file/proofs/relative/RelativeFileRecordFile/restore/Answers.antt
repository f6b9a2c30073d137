use Rattle.std.specs.Option.{option_copied}
use Rattle.vms_base.specs.Keys.{key_of}
use Rattle.change_set.specs.Maps.{set_key}
use Rattle.change_set.proofs.NoLayout.{none_back}
use Rattle.relative_file.specs.Cells.{map_of, IsLaidOut, Anything}
use Rattle.relative_file.proofs.MapLaws.{told_map, told_valid}
use Rattle.relative_file.proofs.relative.RelativeFileRecordFile.restore.Goals as goal

pub returns-clause-layout : goal.returns-clause-layout
returns-clause-layout g c =
    none_back (IsLaidOut c.args.head.now) (λ b. Anything) c.set_record.result c.args.head.now c.args.head.now.bucket c.args.store.now c.set_record.new.store (key_of c.args.key.now) (option_copied c.args.value) c.set_record.ensures.staged

pub returns-clause-map : goal.returns-clause-map
returns-clause-map g c = told_map c.set_record.result c.args.head.now c.args.store.now.current _ (λ b. set_key (key_of c.args.key.now) (option_copied c.args.value) (map_of c.args.head.now b)) c.set_record.ensures.map

pub returns-clause-valid : goal.returns-clause-valid
returns-clause-valid g c = told_valid c.set_record.result c.args.head.now c.args.store.now.current c.set_record.new.store.current c.set_record.ensures.valid
