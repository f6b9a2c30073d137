use Rattle.std.proofs.Common.{◌≡◌, ◌≤◌, ◌^◌, Option, IfSome, subst, sym, arith}
use Rattle.std.specs.List.{AllByRecursion}
use Rattle.unit_entries.specs.tm_types.Parts.{log_record_of}
use Rattle.unit_entries.proofs.OpenLemmas.{first_holds, less_none}
use Rattle.unit_table.specs.Units.{OpenUnit, begun, is_of}
use Rattle.vms_base.specs.Ids.{serial_of, tid_of}
use Rattle.unit_returns.proofs.Units.{left_by, taken_with}
use Rattle.unit_returns.proofs.returning.take_unit.Goals as goal

pub returns-in_default-find-clause-left : goal.returns-in_default-find-clause-left
returns-in_default-find-clause-left g c = sym (less_none (is_of (serial_of c.args.r.now.serial)) (begun c.args.left.now) c.in_default-find.ensures.none)

pub hold_changes-requires-clause-low : goal.hold_changes-requires-clause-low
hold_changes-requires-clause-low g c =
    let first = c.in-Some-find.ensures.found.1 in
    let positions = c.positions-positions.result.now in
    let are : positions ≡ first.unit.positions = subst (λ (o : Option OpenUnit). IfSome o (λ (u : OpenUnit). positions ≡ u.positions)) first.there c.positions-positions.ensures.value in
    subst (AllByRecursion (λ p. p ≤ 2 ^ 62)) (sym are)
    (first_holds (λ (u : OpenUnit). AllByRecursion (λ p. p ≤ 2 ^ 62) u.positions) (is_of (serial_of c.args.r.now.serial)) (begun c.args.left.now) first.unit c.requires.low first.first)

pub returns-clause-taken : goal.returns-clause-taken
returns-clause-taken g c =
    let first = c.in-Some-find.ensures.found.1 in
    let positions = c.positions-positions.result.now in
    let are : positions ≡ first.unit.positions = subst (λ (o : Option OpenUnit). IfSome o (λ (u : OpenUnit). positions ≡ u.positions)) first.there c.positions-positions.ensures.value in
    let files = c.files.result.now in
    let filed : files ≡ first.unit.files = subst (λ (o : Option OpenUnit). IfSome o (λ (u : OpenUnit). files ≡ u.files)) first.there c.files.ensures in
    let below = c.in-Some.ensures.free.0 in
    let whole = c.stand_in_order.ensures.whole in
    taken_with (log_record_of c.args.r.now) (begun c.args.left.now) c.args.volume.now c.in-Some.place c.args.table.now c.begin.new.self c.take_back.new.self c.args.locks.now c.hold_changes.new.locks (omega (arith, below, whole))
    c.in-Some.ensures.begun c.in-Some.ensures.last positions files c.take_back.ensures c.in-Ok.ensures.held
    (left_by (tid_of c.args.r.now.tid) (serial_of c.args.r.now.serial) (begun c.args.left.now) first.unit positions files first.first are filed)
