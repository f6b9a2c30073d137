use Rattle.std.proofs.Common.{None, ◌∙◌, set, arith}
use Rattle.frame_pool.specs.Pool.{out_frames, IsOut}
use Rattle.frame_pool.proofs.OutFrames.{out_within, out_frames-free}
use Rattle.frame_pool.proofs.pool.Pool.give.Goals as goal

pub index_mut-requires : goal.index_mut-requires
index_mut-requires c =
    let out : IsOut (out_frames c.self.inside.out.items c.self.inside.frames.items) c.frame.inside.number = rw (c.self.view_is, c.frame.view_is) c.requires in
    let within = out_within c.self.inside.out.items c.self.inside.frames.items c.frame.inside.number out in omega (arith, within)

pub returns : goal.returns
returns c = out_frames-free c.self.inside.out.items c.self.inside.frames.items c.frame.inside.number c.self.invariant ∙ (λ i. set (c.self.view_is i) (c.frame.view_is i) None)
