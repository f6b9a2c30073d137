use Rattle.std.proofs.Common.{◌≡◌, length, ◌∙◌, arith}
use Rattle.frame_pool.specs.Pool.{out_frames}
use Rattle.frame_pool.proofs.OutFrames.{out_frames_none}
use Rattle.frame_pool.proofs.pool.Pool.new.Goals as goal

pub returns : goal.returns
returns c =
    let long : length c.in_ok-vec.field-0.items ≡ c.args.frames = omega (arith, c.in_ok-vec.ensures.len) in
    (λ i. out_frames (c.in_ok-vec-2.ensures.items_if_clones_equal (λ y same. same) i) c.in_ok-vec.field-0.items) ∙ out_frames_none c.args.frames c.in_ok-vec.field-0.items long
