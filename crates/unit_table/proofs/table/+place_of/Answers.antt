use Rattle.std.proofs.Common.{◌≡◌, Bool, IfSome, subst}
use Rattle.unit_table.specs.Units.{is_of}
use Rattle.vms_base.specs.Ids.{serial_of}
use Rattle.unit_table.proofs.BegunLemmas.{found_behind, found_first, none_at_all}
use Rattle.unit_table.proofs.table.+place_of.Goals as goal

pub returns-then-is_of-clause-found : goal.returns-then-is_of-clause-found
returns-then-is_of-clause-found t c =
    found_first (is_of (serial_of c.args.serial.now)) c.args.places.now c.args.order.now c.index-places-p.result c.in-len1-up.len_at_least c.index-places-p.is c.requires
    (subst (λ (b : Bool). IfSome c.index-places-p.result (λ u. b ≡ is_of (serial_of c.args.serial.now) u)) c.if-is_of.true c.is_of.ensures)

pub returns-else-is_of-clause-found : goal.returns-else-is_of-clause-found
returns-else-is_of-clause-found t c =
    found_behind (is_of (serial_of c.args.serial.now)) c.args.places.now c.args.order.now c.index-places-p.result c.place_of.result c.in-len1-up.len_at_least c.index-places-p.is c.requires
    (subst (λ (b : Bool). IfSome c.index-places-p.result (λ u. b ≡ is_of (serial_of c.args.serial.now) u)) c.if-is_of.false c.is_of.ensures) c.place_of.ensures.found

pub returns-else-is_of-clause-none : goal.returns-else-is_of-clause-none
returns-else-is_of-clause-none t c =
    none_at_all (is_of (serial_of c.args.serial.now)) c.args.places.now c.args.order.now c.index-places-p.result c.place_of.result c.in-len1-up.len_at_least c.index-places-p.is c.requires
    (subst (λ (b : Bool). IfSome c.index-places-p.result (λ u. b ≡ is_of (serial_of c.args.serial.now) u)) c.if-is_of.false c.is_of.ensures) c.place_of.ensures.none
