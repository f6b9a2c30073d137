use Rattle.std.proofs.Common.{◌≡◌, Some, length, sym, subst, rules}
use Rattle.volume_format.specs.declared.home.Sizes.{Sizes}
use Rattle.volume.specs.Limits.{SizesFit}
use Rattle.volume.proofs.Entries.{some_same}
use Rattle.volume.proofs.load.home_in.Goals as goal

pub returns-clause-ok : goal.returns-clause-ok
returns-clause-ok c =
    let sizes = c.in-Some.sizes in
    let home = c.in-Some-read_home.home in
    let long : length c.args.block.now ≡ 512 = search rules in
    let front = (c.in-Some.ensures sizes).0 (λ i. Some sizes) in
    let found = (c.in-Some-read_home.ensures home).0 (λ i. Some home) in
    let same = c.sizes_are_those_of_the_home.ensures.sizes home sizes c.args.block.now found.0 front.0 long found.1 front.1 in
    let fit = c.sizes_fit.ensures.yes c.if-not-sizes_fit.false in
    record {
      ranges = found.0;
      stands = found.1;
      one = λ k ranges stands. sym (some_same _ _ ((c.in-Some-read_home.ensures k).1 (ranges, stands)));
      version = c.sizes_are_those_of_the_home.ensures.version home sizes c.args.block.now found.0 front.0 long found.1 front.1;
      sizes = subst (λ (s : Sizes). SizesFit c.args.disk s) same fit;
      group = c.if-not-fits.false;
      fit = c.home_fits.ensures.yes c.if-not-home_fits.false;
      front = record { sizes = sizes; ranges = front.0; stands = front.1 };
      sized = record { sizes = sizes; ranges = front.0; stands = front.1; fit = fit; group = c.if-not-fits.false };
    }
