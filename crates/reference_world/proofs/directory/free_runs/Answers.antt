use Rattle.std.proofs.Common.{◌≡◌, ◌+◌, ◌-◌, suc, subst, arith}
use Rattle.reference_index.specs.run_model.World.{extents_of}
use Rattle.reference_world.specs.Standing.{directory_of}
use Rattle.reference_world.specs.Directories.{IsRuns}
use Rattle.reference_world.proofs.RunsLemmas.{longer_runs}
use Rattle.reference_world.proofs.directory.free_runs.Goals as goal

pub loop-k-preserved : goal.loop-k-preserved
loop-k-preserved c =
    let es = extents_of (directory_of c.args.files.now) in
    let k = c.loop-k.k in
    let block = c.args.start + (c.args.count - 1 - k) in
    let at : c.args.start + (c.args.count - k) ≡ suc block = omega (arith, c.loop-k-test.true) in
    let next : block ≡ c.args.start + (c.args.count - (k + 1)) = omega (arith, c.loop-k-test.true) in
    let one : suc k ≡ k + 1 = omega arith in
    let runs = longer_runs es c.args.need block k c.loop-k.runs c.longer-runs.result (subst (λ n. IsRuns es c.args.need n k c.loop-k.runs) at c.loop-k.invariant.0) c.longer-runs.ensures.first c.longer-runs.ensures.longest c.longer-runs.ensures.lowest in
    (subst (λ n. IsRuns es c.args.need n (k + 1) c.longer-runs.result) next (subst (λ m. IsRuns es c.args.need block m c.longer-runs.result) one runs), omega (arith, c.longer-runs.ensures.short, c.loop-k.invariant.1))

pub returns : goal.returns
returns c =
    let es = extents_of (directory_of c.args.files.now) in
    let same : c.loop-k.k ≡ c.args.count = omega (arith, c.loop-k.auto.k-end, c.loop-k-test.false) in
    let at : c.args.start + (c.args.count - c.loop-k.k) ≡ c.args.start = omega (arith, same) in
    subst (λ n. IsRuns es c.args.need n c.args.count c.loop-k.runs) at (subst (λ m. IsRuns es c.args.need (c.args.start + (c.args.count - c.loop-k.k)) m c.loop-k.runs) same c.loop-k.invariant.0)
