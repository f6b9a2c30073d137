use Rattle.std.proofs.Common.{◌≡◌, Bool, not, Option, Some, None, IfSome, ap, subst}
use Rattle.unit_table.specs.Units.{OpenUnit, is_active}
use Rattle.unit_table.proofs.BegunLemmas.{found_behind, found_first, none_at_all}
use Rattle.unit_table.proofs.table.+active_place.Goals as goal

turned : (o : Option OpenUnit) (b : Bool) → IfSome o (λ (u : OpenUnit). b ≡ u.prepared) → IfSome o (λ (u : OpenUnit). not b ≡ is_active u)
turned None b is = tt
turned (Some u) b is = ap not is

pub returns-then-not-is_prepared-clause-found : goal.returns-then-not-is_prepared-clause-found
returns-then-not-is_prepared-clause-found t c =
    found_first is_active c.args.places.now c.args.order.now c.index-places-p.result c.in-len1-up.len_at_least c.index-places-p.is c.requires
    (subst (λ (b : Bool). IfSome c.index-places-p.result (λ u. not b ≡ is_active u)) c.if-not-is_prepared.true (turned c.index-places-p.result c.is_prepared.result c.is_prepared.ensures))

pub returns-else-not-is_prepared-clause-found : goal.returns-else-not-is_prepared-clause-found
returns-else-not-is_prepared-clause-found t c =
    found_behind is_active c.args.places.now c.args.order.now c.index-places-p.result c.active_place.result c.in-len1-up.len_at_least c.index-places-p.is c.requires
    (subst (λ (b : Bool). IfSome c.index-places-p.result (λ u. not b ≡ is_active u)) c.if-not-is_prepared.false (turned c.index-places-p.result c.is_prepared.result c.is_prepared.ensures)) c.active_place.ensures.found

pub returns-else-not-is_prepared-clause-none : goal.returns-else-not-is_prepared-clause-none
returns-else-not-is_prepared-clause-none t c =
    none_at_all is_active c.args.places.now c.args.order.now c.index-places-p.result c.active_place.result c.in-len1-up.len_at_least c.index-places-p.is c.requires
    (subst (λ (b : Bool). IfSome c.index-places-p.result (λ u. not b ≡ is_active u)) c.if-not-is_prepared.false (turned c.index-places-p.result c.is_prepared.result c.is_prepared.ensures)) c.active_place.ensures.none
