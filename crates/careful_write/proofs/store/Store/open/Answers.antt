use Rattle.std.proofs.Common.{◌∙◌, sym, ap}
use Rattle.block_disk.specs.Blocks.{Table, numbers_of}
use Rattle.careful_write.specs.Content.{laid_home}
use Rattle.careful_write.proofs.Home.{laid_home-none}
use Rattle.careful_write.proofs.store.Store.open.Goals as goal

pub returns-in-Ok-clause-current : goal.returns-in-Ok-clause-current
returns-in-Ok-clause-current g c =
    let seen = (g.D.Disk.state c.open_group.new.disk).seen in
    ap (λ (t : Table). laid_home t.entries seen) c.clear-in-Ok.ensures ∙ laid_home-none seen ∙ c.in-Ok.ensures.home

pub returns-in-Ok-clause-idle : goal.returns-in-Ok-clause-idle
returns-in-Ok-clause-idle g c = λ fit. record {
  ready = record { fitting = fit; settled = c.in-Ok.ensures.settled; closed = c.in-Ok.ensures.closed fit };
  unstaged = ap (λ (t : Table). numbers_of t.entries) c.clear-in-Ok.ensures;
  current = returns-in-Ok-clause-current g c ∙ sym c.in-Ok.ensures.content;
}
