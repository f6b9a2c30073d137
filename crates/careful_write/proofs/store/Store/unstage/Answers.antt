use Rattle.std.proofs.Common.{◌∙◌, ap, option_map, []}
use Rattle.block_disk.specs.Blocks.{Table, numbers_of}
use Rattle.careful_write.specs.Content.{home, laid_home}
use Rattle.careful_write.specs.State.{StoreState}
use Rattle.careful_write.proofs.Home.{laid_home-none}
use Rattle.careful_write.proofs.Images.{idle_unstaged}
use Rattle.careful_write.proofs.store.Store.unstage.Goals as goal

pub returns-clause-state : goal.returns-clause-state
returns-clause-state g c =
    let disk = g.D.Disk.state c.self.inside.disk in
    let current = ap (λ (t : Table). laid_home t.entries disk.seen) c.clear.ensures ∙ laid_home-none disk.seen in
    let touched = ap (λ (t : Table). numbers_of t.entries) c.clear.ensures in
    (λ i. record { disk = disk; current = current i; touched = touched i; pool = c.self.inside.pool; fits = c.self.inside.fits; reads = c.self.inside.reads })
    ∙ ap (λ (s : StoreState). record s { current = option_map home s.disk.seen; touched = [] }) c.self.view_is

pub returns-clause-idle : goal.returns-clause-idle
returns-clause-idle g c = idle_unstaged c.args.self.now _ (returns-clause-state g c)
