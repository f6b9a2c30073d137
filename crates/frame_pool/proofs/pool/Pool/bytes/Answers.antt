use Rattle.std.proofs.Common.{None, Some, sym, ◌∙◌, ap, get_or, arith}
use Rattle.frame_pool.specs.Pool.{out_frames, IsOut}
use Rattle.frame_pool.proofs.OutFrames.{out_within, out_bytes}
use Rattle.frame_pool.proofs.pool.Pool.bytes.Goals as goal

pub index-requires : goal.index-requires
index-requires c =
    let out : IsOut (out_frames c.self.inside.out.items c.self.inside.frames.items) c.frame.inside.number = rw (c.self.view_is, c.frame.view_is) c.requires in
    let within = out_within c.self.inside.out.items c.self.inside.frames.items c.frame.inside.number out in omega (arith, within)

pub returns-clause-value : goal.returns-clause-value
returns-clause-value c =
    let out : IsOut (out_frames c.self.inside.out.items c.self.inside.frames.items) c.frame.inside.number = rw (c.self.view_is, c.frame.view_is) c.requires in
    (λ i. get_or (sym c.self.view_is i) (sym c.frame.view_is i) None)
    ∙ out_bytes c.self.inside.out.items c.self.inside.frames.items c.frame.inside.number c.index.result.now out ∙ ap Some (sym c.index.ensures)
