use Rattle.std.proofs.Common.{◌≡◌, ◌≤◌, ◌+◌, ℕ, IfSome, subst, sym}
use Rattle.volume.specs.Catalogs.{TellsCatalog}
use Rattle.volume.specs.State.{VolumeState, with_block}
use Rattle.volume.proofs.Staging.{holds_head}
use Rattle.volume.proofs.volume.Volume.stage_head.Goals as goal

pub returns-clause-holds : goal.returns-clause-holds
returns-clause-holds g c = λ holds.
    let staged = subst (λ (n : ℕ). c.stage.new.self ≡ with_block (519 + n) c.write_directory.new.block c.self.inside.store) c.from.ensures c.in_ok-stage.ensures.ok in
    let big = subst (λ (v : VolumeState). 4096 ≤ v.store.disk.size) (sym c.self.view_is) c.requires.size in
    let tells = subst (λ (v : VolumeState). IfSome v.store.current (TellsCatalog v.catalog)) (sym c.self.view_is) holds in
    holds_head c.self.inside.catalog c.self.inside.store c.stage.new.self c.args.file c.args.head.now c.write_directory.new.block staged c.stage.ensures.whole c.requires.number big c.self.invariant
    c.write_directory.ensures.entry c.write_directory.ensures.block tells
