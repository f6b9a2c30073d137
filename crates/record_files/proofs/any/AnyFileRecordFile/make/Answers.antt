use Rattle.std.proofs.Common.{◌≡◌, OnOk, IfSome, sym, subst}
use Rattle.file_base.specs.declared.head.Organization.{Organization}
use Rattle.relative_file.specs.change_set.Maps.{empty_map}
use Rattle.record_files.specs.Any.{FormBy, FreshBy, LaidOutBy, map_by}
use Rattle.record_files.proofs.any.AnyFileRecordFile.make.Goals as goal

pub make-requires-clause-form : goal.make-requires-clause-form
make-requires-clause-form g c =
    subst (λ (o : Organization). FormBy o c.args.head.now) c.in-Sequential.is c.requires.form

pub make-requires-clause-fresh : goal.make-requires-clause-fresh
make-requires-clause-fresh g c =
    subst (λ (o : Organization). FreshBy o c.args.head.now) c.in-Sequential.is c.requires.fresh

pub returns-in-Sequential-clause-map : goal.returns-in-Sequential-clause-map
returns-in-Sequential-clause-map g c =
    subst (λ (o : Organization). OnOk c.make.result (IfSome c.make.new.store.current (λ b. map_by o c.args.head.now b ≡ empty_map))) (sym c.in-Sequential.is) c.make.ensures.map

pub returns-in-Sequential-clause-valid : goal.returns-in-Sequential-clause-valid
returns-in-Sequential-clause-valid g c =
    subst (λ (o : Organization). OnOk c.make.result (IfSome c.make.new.store.current (LaidOutBy o c.args.head.now))) (sym c.in-Sequential.is) c.make.ensures.valid

pub make-requires-in-Relative-clause-form : goal.make-requires-in-Relative-clause-form
make-requires-in-Relative-clause-form g c =
    subst (λ (o : Organization). FormBy o c.args.head.now) c.in-Relative.is c.requires.form

pub make-requires-in-Relative-clause-fresh : goal.make-requires-in-Relative-clause-fresh
make-requires-in-Relative-clause-fresh g c =
    subst (λ (o : Organization). FreshBy o c.args.head.now) c.in-Relative.is c.requires.fresh

pub returns-in-Relative-clause-map : goal.returns-in-Relative-clause-map
returns-in-Relative-clause-map g c =
    subst (λ (o : Organization). OnOk c.make-in-Relative.result (IfSome c.make-in-Relative.new.store.current (λ b. map_by o c.args.head.now b ≡ empty_map))) (sym c.in-Relative.is) c.make-in-Relative.ensures.map

pub returns-in-Relative-clause-valid : goal.returns-in-Relative-clause-valid
returns-in-Relative-clause-valid g c =
    subst (λ (o : Organization). OnOk c.make-in-Relative.result (IfSome c.make-in-Relative.new.store.current (LaidOutBy o c.args.head.now))) (sym c.in-Relative.is) c.make-in-Relative.ensures.valid

pub make-requires-in-Indexed-clause-form : goal.make-requires-in-Indexed-clause-form
make-requires-in-Indexed-clause-form g c =
    subst (λ (o : Organization). FormBy o c.args.head.now) c.in-Indexed.is c.requires.form

pub make-requires-in-Indexed-clause-fresh : goal.make-requires-in-Indexed-clause-fresh
make-requires-in-Indexed-clause-fresh g c =
    subst (λ (o : Organization). FreshBy o c.args.head.now) c.in-Indexed.is c.requires.fresh

pub returns-in-Indexed-clause-map : goal.returns-in-Indexed-clause-map
returns-in-Indexed-clause-map g c =
    subst (λ (o : Organization). OnOk c.make-in-Indexed.result (IfSome c.make-in-Indexed.new.store.current (λ b. map_by o c.args.head.now b ≡ empty_map))) (sym c.in-Indexed.is) c.make-in-Indexed.ensures.map

pub returns-in-Indexed-clause-valid : goal.returns-in-Indexed-clause-valid
returns-in-Indexed-clause-valid g c =
    subst (λ (o : Organization). OnOk c.make-in-Indexed.result (IfSome c.make-in-Indexed.new.store.current (LaidOutBy o c.args.head.now))) (sym c.in-Indexed.is) c.make-in-Indexed.ensures.valid
