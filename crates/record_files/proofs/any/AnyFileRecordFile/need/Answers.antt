use Rattle.std.proofs.Common.{◌≡◌, IfOk, IfSome, sym, subst}
use Rattle.file_base.specs.declared.head.Organization.{Organization}
use Rattle.record_files.specs.Any.{FormBy, LaidOutBy, asks_by}
use Rattle.record_files.proofs.any.AnyFileRecordFile.need.Goals as goal

pub need-requires-clause-form : goal.need-requires-clause-form
need-requires-clause-form g c =
    subst (λ (o : Organization). FormBy o c.args.head.now) c.in-Sequential.is c.requires.form

pub returns-in-Sequential-clause-need : goal.returns-in-Sequential-clause-need
returns-in-Sequential-clause-need g c =
    subst (λ (o : Organization). IfOk c.need.result (λ free. IfSome c.args.store.now.current (λ b. LaidOutBy o c.args.head.now b → free ≡ asks_by o c.args.head.now b c.args.size))) (sym c.in-Sequential.is) c.need.ensures.need

pub need-requires-in-Relative-clause-form : goal.need-requires-in-Relative-clause-form
need-requires-in-Relative-clause-form g c =
    subst (λ (o : Organization). FormBy o c.args.head.now) c.in-Relative.is c.requires.form

pub returns-in-Relative-clause-need : goal.returns-in-Relative-clause-need
returns-in-Relative-clause-need g c =
    subst (λ (o : Organization). IfOk c.need-in-Relative.result (λ free. IfSome c.args.store.now.current (λ b. LaidOutBy o c.args.head.now b → free ≡ asks_by o c.args.head.now b c.args.size))) (sym c.in-Relative.is) c.need-in-Relative.ensures.need

pub need-requires-in-Indexed-clause-form : goal.need-requires-in-Indexed-clause-form
need-requires-in-Indexed-clause-form g c =
    subst (λ (o : Organization). FormBy o c.args.head.now) c.in-Indexed.is c.requires.form

pub returns-in-Indexed-clause-need : goal.returns-in-Indexed-clause-need
returns-in-Indexed-clause-need g c =
    subst (λ (o : Organization). IfOk c.need-in-Indexed.result (λ free. IfSome c.args.store.now.current (λ b. LaidOutBy o c.args.head.now b → free ≡ asks_by o c.args.head.now b c.args.size))) (sym c.in-Indexed.is) c.need-in-Indexed.ensures.need
