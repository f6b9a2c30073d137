use Rattle.std.proofs.Common.{◌≡◌, sym, ◌∙◌, true, false, ap, Some}
use Rattle.std.proofs.lemmas.Slice.Eq.{bytes_eq-Decides}
use Rattle.volume_format.specs.Home.{IsSizes, HasSizes}
use Rattle.volume_format.proofs.Readings.{only_one, none_holds}
use Rattle.volume_format.proofs.home.read_sizes.Goals as goal

pub returns-then-eq : goal.returns-then-eq
returns-then-eq c =
    only_one (λ s. IsSizes s × HasSizes c.args.block.now s) c.sizes_at-sizes.result
    (c.write_sizes.ensures.sizes, sym c.write_sizes.ensures.bytes ∙ (bytes_eq-Decides _ _).0 (sym c.if-eq.ensures))
    (λ s p. ap Some (c.sizes_at-sizes.ensures s p.0 p.1))

pub returns-else-eq : goal.returns-else-eq
returns-else-eq c =
    none_holds (λ s. IsSizes s × HasSizes c.args.block.now s) c.sizes_at-sizes.result
    (λ p. let t = (bytes_eq-Decides _ _).1 (c.write_sizes.ensures.bytes ∙ p.1) in let k : true ≡ false = sym t ∙ sym c.if-eq.ensures in cc)
    (λ s p. ap Some (c.sizes_at-sizes.ensures s p.0 p.1))
