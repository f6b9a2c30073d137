use Rattle.std.proofs.Common.{Some, IfSome, subst}
use Rattle.file_base.specs.declared.head.Organization.{Organization}
use Rattle.file_base.specs.declared.head.Organization.TheVariants.{Sequential, Relative, Indexed}
use Rattle.std.specs.Option.{option_copied}
use Rattle.vms_base.specs.vms_model.Keys.{Key}
use Rattle.vms_base.specs.Keys.{key_of}
use Rattle.relative_file.specs.change_set.Files.{sizes_of}
use Rattle.record_files.proofs.Cases.{set_map, set_valid, set_used, set_rooms, set_layout, set_back, set_form}
use Rattle.record_files.specs.Any.{BeginsBy, FormBy, LaidOutBy, SuitsBy}
use Rattle.record_files.proofs.any.AnyFileRecordFile.set_from.Goals as goal

pub set_from-requires-clause-form : goal.set_from-requires-clause-form
set_from-requires-clause-form g c =
    subst (λ (o : Organization). FormBy o c.args.head.now) c.in-Sequential.is c.requires.form

pub set_from-requires-clause-suits : goal.set_from-requires-clause-suits
set_from-requires-clause-suits g c =
    subst (λ (o : Organization). SuitsBy o c.args.head.now (key_of c.args.key.now) (option_copied c.args.value)) c.in-Sequential.is c.requires.suits

pub returns-in-Sequential-clause-map : goal.returns-in-Sequential-clause-map
returns-in-Sequential-clause-map g c =
    set_map c.set_from.result Sequential c.args.head.now c.set_from.new.head (key_of c.args.key.now) (option_copied c.args.value) c.args.store.now.current c.set_from.new.store.current c.in-Sequential.is c.set_from.ensures.file c.set_from.ensures.map

pub returns-in-Sequential-clause-valid : goal.returns-in-Sequential-clause-valid
returns-in-Sequential-clause-valid g c =
    set_valid c.set_from.result Sequential c.args.head.now c.set_from.new.head (key_of c.args.key.now) (option_copied c.args.value) c.args.store.now.current c.set_from.new.store.current c.in-Sequential.is c.set_from.ensures.file c.set_from.ensures.valid

pub returns-in-Sequential-clause-used : goal.returns-in-Sequential-clause-used
returns-in-Sequential-clause-used g c =
    set_used c.set_from.result Sequential c.args.head.now c.set_from.new.head (λ (k : Key). g.H.Held.held c.args.held.now k) (key_of c.args.key.now) (option_copied c.args.value) c.args.store.now.current c.in-Sequential.is c.set_from.ensures.file c.set_from.ensures.used

pub returns-in-Sequential-clause-rooms : goal.returns-in-Sequential-clause-rooms
returns-in-Sequential-clause-rooms g c =
    set_rooms c.set_from.result Sequential c.args.head.now c.set_from.new.head (λ (k : Key). g.H.Held.held c.args.held.now k) (key_of c.args.key.now) (option_copied c.args.value) c.args.store.now.current c.set_from.new.store.current c.in-Sequential.is c.set_from.ensures.file c.set_from.ensures.rooms

pub returns-in-Sequential-clause-form : goal.returns-in-Sequential-clause-form
returns-in-Sequential-clause-form g c =
    set_form c.set_from.result Sequential c.args.head.now c.set_from.new.head c.in-Sequential.is c.set_from.ensures.file c.set_from.ensures.form

pub set_from-requires-in-Relative-clause-form : goal.set_from-requires-in-Relative-clause-form
set_from-requires-in-Relative-clause-form g c =
    subst (λ (o : Organization). FormBy o c.args.head.now) c.in-Relative.is c.requires.form

pub set_from-requires-in-Relative-clause-suits : goal.set_from-requires-in-Relative-clause-suits
set_from-requires-in-Relative-clause-suits g c =
    subst (λ (o : Organization). SuitsBy o c.args.head.now (key_of c.args.key.now) (option_copied c.args.value)) c.in-Relative.is c.requires.suits

pub returns-in-Relative-clause-map : goal.returns-in-Relative-clause-map
returns-in-Relative-clause-map g c =
    set_map c.set_from-in-Relative.result Relative c.args.head.now c.set_from-in-Relative.new.head (key_of c.args.key.now) (option_copied c.args.value) c.args.store.now.current c.set_from-in-Relative.new.store.current c.in-Relative.is c.set_from-in-Relative.ensures.file c.set_from-in-Relative.ensures.map

pub returns-in-Relative-clause-valid : goal.returns-in-Relative-clause-valid
returns-in-Relative-clause-valid g c =
    set_valid c.set_from-in-Relative.result Relative c.args.head.now c.set_from-in-Relative.new.head (key_of c.args.key.now) (option_copied c.args.value) c.args.store.now.current c.set_from-in-Relative.new.store.current c.in-Relative.is c.set_from-in-Relative.ensures.file c.set_from-in-Relative.ensures.valid

pub returns-in-Relative-clause-used : goal.returns-in-Relative-clause-used
returns-in-Relative-clause-used g c =
    set_used c.set_from-in-Relative.result Relative c.args.head.now c.set_from-in-Relative.new.head (λ (k : Key). g.H.Held.held c.args.held.now k) (key_of c.args.key.now) (option_copied c.args.value) c.args.store.now.current c.in-Relative.is c.set_from-in-Relative.ensures.file c.set_from-in-Relative.ensures.used

pub returns-in-Relative-clause-rooms : goal.returns-in-Relative-clause-rooms
returns-in-Relative-clause-rooms g c =
    set_rooms c.set_from-in-Relative.result Relative c.args.head.now c.set_from-in-Relative.new.head (λ (k : Key). g.H.Held.held c.args.held.now k) (key_of c.args.key.now) (option_copied c.args.value) c.args.store.now.current c.set_from-in-Relative.new.store.current c.in-Relative.is c.set_from-in-Relative.ensures.file c.set_from-in-Relative.ensures.rooms

pub returns-in-Relative-clause-form : goal.returns-in-Relative-clause-form
returns-in-Relative-clause-form g c =
    set_form c.set_from-in-Relative.result Relative c.args.head.now c.set_from-in-Relative.new.head c.in-Relative.is c.set_from-in-Relative.ensures.file c.set_from-in-Relative.ensures.form

pub set_from-requires-in-Indexed-clause-form : goal.set_from-requires-in-Indexed-clause-form
set_from-requires-in-Indexed-clause-form g c =
    subst (λ (o : Organization). FormBy o c.args.head.now) c.in-Indexed.is c.requires.form

pub set_from-requires-in-Indexed-clause-suits : goal.set_from-requires-in-Indexed-clause-suits
set_from-requires-in-Indexed-clause-suits g c =
    subst (λ (o : Organization). SuitsBy o c.args.head.now (key_of c.args.key.now) (option_copied c.args.value)) c.in-Indexed.is c.requires.suits

pub returns-in-Indexed-clause-map : goal.returns-in-Indexed-clause-map
returns-in-Indexed-clause-map g c =
    set_map c.set_from-in-Indexed.result Indexed c.args.head.now c.set_from-in-Indexed.new.head (key_of c.args.key.now) (option_copied c.args.value) c.args.store.now.current c.set_from-in-Indexed.new.store.current c.in-Indexed.is c.set_from-in-Indexed.ensures.file c.set_from-in-Indexed.ensures.map

pub returns-in-Indexed-clause-valid : goal.returns-in-Indexed-clause-valid
returns-in-Indexed-clause-valid g c =
    set_valid c.set_from-in-Indexed.result Indexed c.args.head.now c.set_from-in-Indexed.new.head (key_of c.args.key.now) (option_copied c.args.value) c.args.store.now.current c.set_from-in-Indexed.new.store.current c.in-Indexed.is c.set_from-in-Indexed.ensures.file c.set_from-in-Indexed.ensures.valid

pub returns-in-Indexed-clause-used : goal.returns-in-Indexed-clause-used
returns-in-Indexed-clause-used g c =
    set_used c.set_from-in-Indexed.result Indexed c.args.head.now c.set_from-in-Indexed.new.head (λ (k : Key). g.H.Held.held c.args.held.now k) (key_of c.args.key.now) (option_copied c.args.value) c.args.store.now.current c.in-Indexed.is c.set_from-in-Indexed.ensures.file c.set_from-in-Indexed.ensures.used

pub returns-in-Indexed-clause-rooms : goal.returns-in-Indexed-clause-rooms
returns-in-Indexed-clause-rooms g c =
    set_rooms c.set_from-in-Indexed.result Indexed c.args.head.now c.set_from-in-Indexed.new.head (λ (k : Key). g.H.Held.held c.args.held.now k) (key_of c.args.key.now) (option_copied c.args.value) c.args.store.now.current c.set_from-in-Indexed.new.store.current c.in-Indexed.is c.set_from-in-Indexed.ensures.file c.set_from-in-Indexed.ensures.rooms

pub returns-in-Indexed-clause-form : goal.returns-in-Indexed-clause-form
returns-in-Indexed-clause-form g c =
    set_form c.set_from-in-Indexed.result Indexed c.args.head.now c.set_from-in-Indexed.new.head c.in-Indexed.is c.set_from-in-Indexed.ensures.file c.set_from-in-Indexed.ensures.form

pub returns-in-Sequential-clause-back : goal.returns-in-Sequential-clause-back
returns-in-Sequential-clause-back g c =
    set_back c.set_from.result Sequential c.args.head.now c.set_from.new.head (key_of c.args.key.now) (option_copied c.args.value) c.args.store.now.current c.set_from.new.store.current c.in-Sequential.is c.set_from.ensures.file c.set_from.ensures.back

pub returns-in-Indexed-clause-back : goal.returns-in-Indexed-clause-back
returns-in-Indexed-clause-back g c =
    set_back c.set_from-in-Indexed.result Indexed c.args.head.now c.set_from-in-Indexed.new.head (key_of c.args.key.now) (option_copied c.args.value) c.args.store.now.current c.set_from-in-Indexed.new.store.current c.in-Indexed.is c.set_from-in-Indexed.ensures.file c.set_from-in-Indexed.ensures.back

pub returns-in-Indexed-clause-layout : goal.returns-in-Indexed-clause-layout
returns-in-Indexed-clause-layout g c =
    set_layout c.set_from-in-Indexed.result Indexed c.args.head.now c.set_from-in-Indexed.new.head (sizes_of c.args.head.now) (λ (k : Key). g.H.Held.held c.args.held.now k) (key_of c.args.key.now) (option_copied c.args.value) c.args.store.now.current c.set_from-in-Indexed.new.store.current c.in-Indexed.is c.set_from-in-Indexed.ensures.file c.set_from-in-Indexed.ensures.layout

pub set_from-requires-clause-begins : goal.set_from-requires-clause-begins
set_from-requires-clause-begins g c =
    subst (λ (o : Organization). IfSome c.args.store.now.current (λ b. LaidOutBy o c.args.head.now b → BeginsBy o c.args.head.now b (Some (key_of c.args.key.now)) c.args.place)) c.in-Sequential.is c.requires.begins

pub set_from-requires-in-Relative-clause-begins : goal.set_from-requires-in-Relative-clause-begins
set_from-requires-in-Relative-clause-begins g c =
    subst (λ (o : Organization). IfSome c.args.store.now.current (λ b. LaidOutBy o c.args.head.now b → BeginsBy o c.args.head.now b (Some (key_of c.args.key.now)) c.args.place)) c.in-Relative.is c.requires.begins

pub set_from-requires-in-Indexed-clause-begins : goal.set_from-requires-in-Indexed-clause-begins
set_from-requires-in-Indexed-clause-begins g c =
    subst (λ (o : Organization). IfSome c.args.store.now.current (λ b. LaidOutBy o c.args.head.now b → BeginsBy o c.args.head.now b (Some (key_of c.args.key.now)) c.args.place)) c.in-Indexed.is c.requires.begins
