use Rattle.std.proofs.Common.{◌≡◌, ◌∷◌, ◌∙◌, List, ap}
use Rattle.unit_laws.specs.Journal.{RecoveryUnit}
use Rattle.reference_units.specs.declared.units.Unit.{Unit}
use Rattle.reference_units.specs.Entries.{unit_of, units_of}
use Rattle.reference_units.proofs.UnitLemmas.{first_active}
use Rattle.reference_units.proofs.units.+active_units.Goals as goal

pub returns-in_ok-push_front-in-len1-up : goal.returns-in_ok-push_front-in-len1-up
returns-in_ok-push_front-in-len1-up t c =
    ap (λ (us : List Unit). units_of us) c.in_ok-push_front-in-len1-up.ensures
    ∙ ap (λ (us : List RecoveryUnit). unit_of c.u-item.result ∷ us) c.in_ok-all-in-len1-up.ensures
    ∙ first_active c.args.units.now c.u-item.result c.in-len1-up.len_at_least c.u-item.is c.if-u.false
