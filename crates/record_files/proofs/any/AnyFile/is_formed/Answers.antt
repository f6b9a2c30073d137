use Rattle.std.proofs.Common.{◌≡◌, true, sym, subst}
use Rattle.file_base.specs.declared.head.Organization.{Organization}
use Rattle.record_files.specs.Any.{FormBy}
use Rattle.record_files.proofs.any.AnyFile.is_formed.Goals as goal

pub returns-in-Sequential-clause-formed : goal.returns-in-Sequential-clause-formed
returns-in-Sequential-clause-formed c = subst (λ (o : Organization). c.forms_sequential.result ≡ true → FormBy o c.args.head.now) (sym c.in-Sequential.is) c.forms_sequential.ensures.formed

pub returns-in-Sequential-clause-exact : goal.returns-in-Sequential-clause-exact
returns-in-Sequential-clause-exact c = subst (λ (o : Organization). FormBy o c.args.head.now → c.forms_sequential.result ≡ true) (sym c.in-Sequential.is) c.forms_sequential.ensures.exact

pub returns-in-Relative-clause-formed : goal.returns-in-Relative-clause-formed
returns-in-Relative-clause-formed c = subst (λ (o : Organization). c.forms_relative.result ≡ true → FormBy o c.args.head.now) (sym c.in-Relative.is) c.forms_relative.ensures.formed

pub returns-in-Relative-clause-exact : goal.returns-in-Relative-clause-exact
returns-in-Relative-clause-exact c = subst (λ (o : Organization). FormBy o c.args.head.now → c.forms_relative.result ≡ true) (sym c.in-Relative.is) c.forms_relative.ensures.exact

pub returns-in-Indexed-clause-formed : goal.returns-in-Indexed-clause-formed
returns-in-Indexed-clause-formed c = subst (λ (o : Organization). c.forms_indexed.result ≡ true → FormBy o c.args.head.now) (sym c.in-Indexed.is) c.forms_indexed.ensures.formed

pub returns-in-Indexed-clause-exact : goal.returns-in-Indexed-clause-exact
returns-in-Indexed-clause-exact c = subst (λ (o : Organization). FormBy o c.args.head.now → c.forms_indexed.result ≡ true) (sym c.in-Indexed.is) c.forms_indexed.ensures.exact
