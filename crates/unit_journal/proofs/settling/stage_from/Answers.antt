-- There is room for two blocks more.
use Rattle.std.proofs.Common.{length, refl, arith, ap}
use Rattle.careful_write.proofs.Touched.{length-with_number}
use Rattle.careful_write.specs.State.{StoreState}
use Rattle.unit_journal.proofs.settling.stage_from.Goals as goal

pub unreachable-requires-in_default-stage_ru : goal.unreachable-requires-in_default-stage_ru
unreachable-requires-in_default-stage_ru g c =
    let staged = ap (λ (s : StoreState). length s.touched) c.in-Ok.ensures.store in
    let full = (c.in_default-stage_ru.ensures.full refl).0 in
    omega (arith, staged, full, length-with_number 518 c.args.volume.now.store.touched)
