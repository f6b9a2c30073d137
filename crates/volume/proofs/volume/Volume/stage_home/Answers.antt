use Rattle.std.proofs.Common.{◌≤◌, ℕ, List, IfSome, replicate, refl, subst, sym}
use Rattle.volume_format.specs.Home.{HasHome}
use Rattle.volume.specs.Catalogs.{TellsCatalog}
use Rattle.volume.specs.State.{VolumeState}
use Rattle.volume.proofs.Staging.{holds_home}
use Rattle.volume.proofs.volume.Volume.stage_home.Goals as goal

pub returns-clause-holds : goal.returns-clause-holds
returns-clause-holds g c = λ holds.
    let big = subst (λ (v : VolumeState). 4096 ≤ v.store.disk.size) (sym c.self.view_is) c.requires.size in
    let tells = subst (λ (v : VolumeState). IfSome v.store.current (TellsCatalog v.catalog)) (sym c.self.view_is) holds in
    let has = subst (λ (b : List ℕ). HasHome b c.args.home.now) (sym c.write_home.ensures.bytes)
    (c.layouts_are_read_as_written.ensures.home_written c.args.home.now (replicate {A = ℕ} 512 0) c.write_home.ensures.home refl) in
    holds_home c.self.inside.catalog c.self.inside.store c.stage.new.self c.args.home.now c.write_home.new.block c.in_ok-stage.ensures.ok c.stage.ensures.whole big c.write_home.ensures.home has tells
