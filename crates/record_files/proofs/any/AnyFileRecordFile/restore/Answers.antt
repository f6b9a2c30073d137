use Rattle.std.proofs.Common.{subst}
use Rattle.std.specs.Option.{option_copied}
use Rattle.file_base.specs.declared.head.Organization.{Organization}
use Rattle.file_base.specs.declared.head.Organization.TheVariants.{Sequential, Relative, Indexed}
use Rattle.vms_base.specs.Keys.{key_of}
use Rattle.record_files.specs.Any.{FormBy}
use Rattle.record_files.proofs.Cases.{restore_map, restore_valid, restore_rooms, restore_layout, set_form}
use Rattle.record_files.proofs.any.AnyFileRecordFile.restore.Goals as goal

pub restore-requires-clause-form : goal.restore-requires-clause-form
restore-requires-clause-form g c = subst (λ (o : Organization). FormBy o c.args.head.now) c.in-Sequential.is c.requires.form

pub returns-in-Sequential-clause-map : goal.returns-in-Sequential-clause-map
returns-in-Sequential-clause-map g c =
    restore_map c.restore.result Sequential c.args.head.now c.restore.new.head (key_of c.args.key.now) (option_copied c.args.value) c.args.store.now.current c.restore.new.store.current c.in-Sequential.is c.restore.ensures.file c.restore.ensures.map

pub returns-in-Sequential-clause-valid : goal.returns-in-Sequential-clause-valid
returns-in-Sequential-clause-valid g c =
    restore_valid c.restore.result Sequential c.args.head.now c.restore.new.head (key_of c.args.key.now) (option_copied c.args.value) c.args.store.now.current c.restore.new.store.current c.in-Sequential.is c.restore.ensures.file c.restore.ensures.valid

pub returns-in-Sequential-clause-form : goal.returns-in-Sequential-clause-form
returns-in-Sequential-clause-form g c = set_form c.restore.result Sequential c.args.head.now c.restore.new.head c.in-Sequential.is c.restore.ensures.file c.restore.ensures.form

pub restore-requires-in-Relative-clause-form : goal.restore-requires-in-Relative-clause-form
restore-requires-in-Relative-clause-form g c = subst (λ (o : Organization). FormBy o c.args.head.now) c.in-Relative.is c.requires.form

pub returns-in-Relative-clause-map : goal.returns-in-Relative-clause-map
returns-in-Relative-clause-map g c =
    restore_map c.restore-in-Relative.result Relative c.args.head.now c.restore-in-Relative.new.head (key_of c.args.key.now) (option_copied c.args.value) c.args.store.now.current c.restore-in-Relative.new.store.current c.in-Relative.is c.restore-in-Relative.ensures.file c.restore-in-Relative.ensures.map

pub returns-in-Relative-clause-valid : goal.returns-in-Relative-clause-valid
returns-in-Relative-clause-valid g c =
    restore_valid c.restore-in-Relative.result Relative c.args.head.now c.restore-in-Relative.new.head (key_of c.args.key.now) (option_copied c.args.value) c.args.store.now.current c.restore-in-Relative.new.store.current c.in-Relative.is c.restore-in-Relative.ensures.file c.restore-in-Relative.ensures.valid

pub returns-in-Relative-clause-form : goal.returns-in-Relative-clause-form
returns-in-Relative-clause-form g c = set_form c.restore-in-Relative.result Relative c.args.head.now c.restore-in-Relative.new.head c.in-Relative.is c.restore-in-Relative.ensures.file c.restore-in-Relative.ensures.form

pub restore-requires-in-Indexed-clause-form : goal.restore-requires-in-Indexed-clause-form
restore-requires-in-Indexed-clause-form g c = subst (λ (o : Organization). FormBy o c.args.head.now) c.in-Indexed.is c.requires.form

pub returns-in-Indexed-clause-map : goal.returns-in-Indexed-clause-map
returns-in-Indexed-clause-map g c =
    restore_map c.restore-in-Indexed.result Indexed c.args.head.now c.restore-in-Indexed.new.head (key_of c.args.key.now) (option_copied c.args.value) c.args.store.now.current c.restore-in-Indexed.new.store.current c.in-Indexed.is c.restore-in-Indexed.ensures.file c.restore-in-Indexed.ensures.map

pub returns-in-Indexed-clause-valid : goal.returns-in-Indexed-clause-valid
returns-in-Indexed-clause-valid g c =
    restore_valid c.restore-in-Indexed.result Indexed c.args.head.now c.restore-in-Indexed.new.head (key_of c.args.key.now) (option_copied c.args.value) c.args.store.now.current c.restore-in-Indexed.new.store.current c.in-Indexed.is c.restore-in-Indexed.ensures.file c.restore-in-Indexed.ensures.valid

pub returns-in-Indexed-clause-rooms : goal.returns-in-Indexed-clause-rooms
returns-in-Indexed-clause-rooms g c =
    restore_rooms c.restore-in-Indexed.result Indexed c.args.head.now c.restore-in-Indexed.new.head (key_of c.args.key.now) (option_copied c.args.value) c.args.store.now.current c.restore-in-Indexed.new.store.current c.in-Indexed.is c.restore-in-Indexed.ensures.file c.restore-in-Indexed.ensures.rooms

pub returns-in-Indexed-clause-layout : goal.returns-in-Indexed-clause-layout
returns-in-Indexed-clause-layout g c =
    restore_layout c.restore-in-Indexed.result Indexed c.args.head.now c.restore-in-Indexed.new.head (key_of c.args.key.now) (option_copied c.args.value) c.args.store.now.current c.restore-in-Indexed.new.store.current c.in-Indexed.is c.restore-in-Indexed.ensures.file c.restore-in-Indexed.ensures.layout

pub returns-in-Indexed-clause-form : goal.returns-in-Indexed-clause-form
returns-in-Indexed-clause-form g c = set_form c.restore-in-Indexed.result Indexed c.args.head.now c.restore-in-Indexed.new.head c.in-Indexed.is c.restore-in-Indexed.ensures.file c.restore-in-Indexed.ensures.form
