use Rattle.std.proofs.Common.{None, Some, refl, sym, ◌∙◌, ap, get_or, arith, set}
use Rattle.frame_pool.specs.Pool.{out_frames, IsOut}
use Rattle.frame_pool.proofs.OutFrames.{out_within, out_bytes, out_frames-set_bytes}
use Rattle.frame_pool.proofs.pool.Pool.bytes_mut.Goals as goal

pub index_mut-requires : goal.index_mut-requires
index_mut-requires c =
    let out : IsOut (out_frames c.self.inside.out.items c.self.inside.frames.items) c.frame.inside.number = rw (c.self.view_is, c.frame.view_is) c.requires in
    let within = out_within c.self.inside.out.items c.self.inside.frames.items c.frame.inside.number out in omega (arith, within)

pub returns : goal.returns
returns c =
    let out : IsOut (out_frames c.self.inside.out.items c.self.inside.frames.items) c.frame.inside.number = rw (c.self.view_is, c.frame.view_is) c.requires in (
      (refl, λ w. out_frames-set_bytes c.self.inside.out.items c.self.inside.frames.items c.frame.inside.number w out ∙ (λ i. set (c.self.view_is i) (c.frame.view_is i) (Some w))),
      record {
        writes = tt;
        value = (λ i. get_or (sym c.self.view_is i) (sym c.frame.view_is i) None)
            ∙ out_bytes c.self.inside.out.items c.self.inside.frames.items c.frame.inside.number c.index_mut.result.now out ∙ ap Some (sym c.index_mut.ensures.value);
      },
    )
