use Rattle.std.proofs.Common.{ℕ, List, Option, sym, subst}
use Rattle.frame_pool.specs.Pool.{IsOut}
use Rattle.change_set.proofs.Frames.{out-with_frame}
use Rattle.disk_tests.proofs.change_set_tests.fill.Goals as goal

pub returns-clause-out : goal.returns-clause-out
returns-clause-out g c =
    out-with_frame c.args.frame.now _ c.pool.result.now (subst (λ (p : List (Option (List ℕ))). IsOut p c.args.frame.now) (sym c.pool.ensures.value) c.requires)
