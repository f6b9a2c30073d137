use Rattle.std.proofs.Common.{◌≡◌, sym, ◌∙◌, true, false}
use Rattle.std.proofs.lemmas.Slice.Eq.{bytes_eq-Decides}
use Rattle.volume_format.specs.Home.{IsHome, HasHome}
use Rattle.volume_format.proofs.Readings.{only_one, none_holds}
use Rattle.volume_format.proofs.home.read_home.Goals as goal

pub returns-then-eq : goal.returns-then-eq
returns-then-eq c =
    only_one (λ h. IsHome h × HasHome c.args.block.now h) c.in_ok-home.home
    (c.write_home.ensures.home, sym c.write_home.ensures.bytes ∙ (bytes_eq-Decides _ _).0 (sym c.if-eq.ensures))
    (λ h p. sym c.in_ok-home.was ∙ c.home_at.ensures h p.0 p.1)

pub returns-else-eq : goal.returns-else-eq
returns-else-eq c =
    none_holds (λ h. IsHome h × HasHome c.args.block.now h) c.in_ok-home.home
    (λ p. let t = (bytes_eq-Decides _ _).1 (c.write_home.ensures.bytes ∙ p.1) in let k : true ≡ false = sym t ∙ sym c.if-eq.ensures in cc)
    (λ h p. sym c.in_ok-home.was ∙ c.home_at.ensures h p.0 p.1)
