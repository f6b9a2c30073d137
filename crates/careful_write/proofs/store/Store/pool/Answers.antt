use Rattle.std.proofs.Common.{◌≡◌, ◌+◌, List, ℕ, IfSome, length, subst, refl, ap}
use Rattle.careful_write.specs.State.{EachWhole, StoreState}
use Rattle.careful_write.proofs.Home.{content_size, content_whole}
use Rattle.careful_write.proofs.store.Store.pool.Goals as goal

pub returns : goal.returns
returns g c =
    let disk = g.D.Disk.state c.self.inside.disk in (
      (refl, λ w. (λ i. record (c.self.view_is i) { pool = w })),
      record {
        writes = tt;
        value = ap (λ (s : StoreState). s.pool) c.self.view_is;
        whole = subst (λ (s : StoreState). IfSome s.current (λ (blocks : List (List ℕ)). length blocks + 518 ≡ s.disk.size)) c.self.view_is
            (content_size c.self.inside.staged.entries disk.seen disk.size (g.met.D.Disk.whole c.self.inside.disk) c.self.invariant.big);
        each = subst (λ (s : StoreState). IfSome s.current EachWhole) c.self.view_is
            (content_whole c.self.inside.staged.entries disk.seen disk.size (g.met.D.Disk.whole c.self.inside.disk) c.self.invariant.whole);
      },
    )
