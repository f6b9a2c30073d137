use Rattle.std.proofs.Common.{Some, IfSome, subst}
use Rattle.file_base.specs.declared.head.Organization.{Organization}
use Rattle.file_base.specs.declared.head.Organization.TheVariants.{Sequential}
use Rattle.record_files.specs.Any.{BeginsBy, FormBy, LaidOutBy}
use Rattle.vms_base.specs.vms_model.Keys.{Number}
use Rattle.record_files.proofs.Cases.{cut_map, cut_valid, cut_used, set_form}
use Rattle.record_files.proofs.any.AnyFile.cut_at.Goals as goal

pub cut_at-requires-clause-form : goal.cut_at-requires-clause-form
cut_at-requires-clause-form g c =
    subst (λ (o : Organization). FormBy o c.args.head.now) c.requires.sequential c.requires.form

pub cut_at-requires-clause-begins : goal.cut_at-requires-clause-begins
cut_at-requires-clause-begins g c =
    subst (λ (o : Organization). IfSome c.args.store.now.current (λ b. LaidOutBy o c.args.head.now b → BeginsBy o c.args.head.now b (Some (Number c.args.from)) c.args.place)) c.requires.sequential c.requires.begins

pub returns-clause-map : goal.returns-clause-map
returns-clause-map g c =
    cut_map c.cut_at.result Sequential c.args.head.now c.cut_at.new.head c.args.from c.args.store.now.current c.cut_at.new.store.current c.requires.sequential c.cut_at.ensures.file c.cut_at.ensures.map

pub returns-clause-valid : goal.returns-clause-valid
returns-clause-valid g c =
    cut_valid c.cut_at.result Sequential c.args.head.now c.cut_at.new.head c.args.store.now.current c.cut_at.new.store.current c.requires.sequential c.cut_at.ensures.file c.cut_at.ensures.valid

pub returns-clause-used : goal.returns-clause-used
returns-clause-used g c =
    cut_used c.cut_at.result Sequential c.args.head.now c.cut_at.new.head c.args.from c.args.store.now.current c.requires.sequential c.cut_at.ensures.file c.cut_at.ensures.used

pub returns-clause-form : goal.returns-clause-form
returns-clause-form g c =
    set_form c.cut_at.result Sequential c.args.head.now c.cut_at.new.head c.requires.sequential c.cut_at.ensures.file c.cut_at.ensures.form
