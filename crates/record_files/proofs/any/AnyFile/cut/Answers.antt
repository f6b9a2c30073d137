use Rattle.std.proofs.Common.{subst}
use Rattle.file_base.specs.declared.head.Organization.{Organization}
use Rattle.file_base.specs.declared.head.Organization.TheVariants.{Sequential}
use Rattle.record_files.specs.Any.{FormBy}
use Rattle.record_files.proofs.Cases.{cut_map, cut_valid, cut_used, set_form}
use Rattle.record_files.proofs.any.AnyFile.cut.Goals as goal

pub cut-requires-clause-form : goal.cut-requires-clause-form
cut-requires-clause-form g c =
    subst (λ (o : Organization). FormBy o c.args.head.now) c.requires.sequential c.requires.form

pub returns-clause-map : goal.returns-clause-map
returns-clause-map g c =
    cut_map c.cut.result Sequential c.args.head.now c.cut.new.head c.args.from c.args.store.now.current c.cut.new.store.current c.requires.sequential c.cut.ensures.file c.cut.ensures.map

pub returns-clause-valid : goal.returns-clause-valid
returns-clause-valid g c =
    cut_valid c.cut.result Sequential c.args.head.now c.cut.new.head c.args.store.now.current c.cut.new.store.current c.requires.sequential c.cut.ensures.file c.cut.ensures.valid

pub returns-clause-used : goal.returns-clause-used
returns-clause-used g c =
    cut_used c.cut.result Sequential c.args.head.now c.cut.new.head c.args.from c.args.store.now.current c.requires.sequential c.cut.ensures.file c.cut.ensures.used

pub returns-clause-form : goal.returns-clause-form
returns-clause-form g c =
    set_form c.cut.result Sequential c.args.head.now c.cut.new.head c.requires.sequential c.cut.ensures.file c.cut.ensures.form
