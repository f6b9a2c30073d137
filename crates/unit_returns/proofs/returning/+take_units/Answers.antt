use Rattle.std.proofs.Common.{◌++◌, ◌∷◌, [], ◌-◌, ◌^◌, ◌<◌, ◌≤◌, ℕ, List, length, length-append, take, drop, map, ap, subst, sym, ◌∙◌, arith}
use Rattle.std.specs.List.{AllByRecursion}
use Rattle.careful_write.proofs.Reading.{ready_read}
use Rattle.unit_entries.specs.commit_protocol.Messages.{LogRecord}
use Rattle.journal_store.specs.Rings.{IsRing}
use Rattle.unit_entries.specs.tm_types.Parts.{log_record_of}
use Rattle.unit_entries.proofs.OpenLemmas.{all_less}
use Rattle.unit_table.specs.Units.{OpenUnit, begun, is_of}
use Rattle.vms_base.specs.Ids.{serial_of}
use Rattle.volume.specs.State.{VolumeState}
use Rattle.volume.proofs.Reading.{store_of_same, volume_on}
use Rattle.unit_returns.specs.Returning.{AreLow, AreTakenUp}
use Rattle.unit_returns.proofs.Units.{all_push, if_ok, shorter, split, taken_more, taken_read}
use Rattle.unit_returns.proofs.returning.+take_units.Goals as goal

pub take_units-requires : goal.take_units-requires
take_units-requires g t c κs within =
    let rs = c.args.records.now in
    let less = shorter rs c.in-len1-up.len_at_least in
    let same = c.in-Ok.ensures.same in
    let one = c.in-Ok.ensures.taken in
    let more = ap length one.behind ∙ length-append (begun c.args.table.now) (one.unit ∷ []) in
    let few = c.requires.few in
    let items = c.push_reserved.ensures.items in
    let longer = ap length items ∙ length-append c.args.places.now.items (c.in-Ok.place ∷ []) in
    let wide = c.push_reserved.ensures.capacity in
    let room = c.requires.room in (
      omega (arith, less, c.decreases),
      (
        within,
        (
          ready_read c.args.volume.now.store c.take_unit.new.volume.store (store_of_same c.args.volume.now c.take_unit.new.volume same) c.requires.ready,
          (
            subst (λ (x : VolumeState). IsRing x.catalog.ru x.store.disk) (sym same) c.requires.ring,
            (
              subst AreLow (sym c.in-Ok.ensures.left) (all_less (λ (u : OpenUnit). AllByRecursion (λ p. p ≤ 2 ^ 62) u.positions) (is_of (serial_of c.r-item.result.serial)) (begun c.args.left.now) c.requires.low),
              (
                omega (arith, less, more, few),
                (
                  items ∙ ap (λ (xs : List ℕ). xs ++ c.in-Ok.place ∷ []) c.requires.places ∙ sym c.in-Ok.ensures.order,
                  (
                    subst (AllByRecursion (λ p. p < 64)) (sym items) (all_push (λ p. p < 64) c.args.places.now.items c.in-Ok.place c.requires.below c.in-Ok.ensures.place),
                    omega (arith, less, longer, wide, room),
                  ),
                ),
              ),
            ),
          ),
        ),
      ),
    )

pub returns-in-Ok-clause-same : goal.returns-in-Ok-clause-same
returns-in-Ok-clause-same g t c =
    if_ok c.take_units.result c.take_units.ensures.same (λ later. volume_on c.args.volume.now c.take_unit.new.volume c.take_units.new.volume c.in-Ok.ensures.same later)

pub returns-in-Ok-clause-taken : goal.returns-in-Ok-clause-taken
returns-in-Ok-clause-taken g t c =
    let rs = c.args.records.now in
    let r = c.r-item.result in
    let rest = take (length rs - 1) (drop 1 rs) in
    let parts = split rs r c.in-len1-up.len_at_least c.r-item.is in
    if_ok c.take_units.result c.take_units.ensures.taken (λ taken.
    subst (λ (xs : List LogRecord). AreTakenUp xs (begun c.args.left.now) c.args.volume.now (begun c.args.table.now) (begun c.take_units.new.table) c.args.locks.now c.take_units.new.locks) (sym (ap (map log_record_of) parts))
    (taken_more (log_record_of r) (map log_record_of rest) (begun c.args.left.now) c.args.volume.now (begun c.args.table.now) (begun c.take_unit.new.table) (begun c.take_units.new.table) c.args.locks.now c.take_unit.new.locks c.take_units.new.locks c.in-Ok.ensures.taken
    (subst (λ (us : List OpenUnit). AreTakenUp (map log_record_of rest) us c.args.volume.now (begun c.take_unit.new.table) (begun c.take_units.new.table) c.take_unit.new.locks c.take_units.new.locks) c.in-Ok.ensures.left
    (taken_read (map log_record_of rest) (begun c.take_unit.new.left) c.args.volume.now c.take_unit.new.volume (begun c.take_unit.new.table) (begun c.take_units.new.table) c.take_unit.new.locks c.take_units.new.locks c.in-Ok.ensures.same taken)) c.take_unit.ensures.few))
