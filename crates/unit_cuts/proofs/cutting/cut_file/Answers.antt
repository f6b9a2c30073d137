-- One block more is staged.
use Rattle.std.proofs.Common.{◌≡◌, ◌+◌, ◌≤◌, length, ap, arith}
use Rattle.careful_write.proofs.Touched.{length-with_number}
use Rattle.careful_write.specs.State.{StoreState}
use Rattle.unit_cuts.proofs.cutting.cut_file.Goals as goal

pub returns-clause-few : goal.returns-clause-few
returns-clause-few g c =
    let staged = ap (λ (s : StoreState). length s.touched) c.in-Ok-stage_head.ensures.store in
    let few = c.in-Ok.ensures.stages.few in
    omega (arith, staged, few, length-with_number (519 + c.args.cut.now.file) c.stage_cut.new.volume.store.touched)
