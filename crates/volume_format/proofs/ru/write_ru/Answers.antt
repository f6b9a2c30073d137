use Rattle.std.proofs.Common.{◌≡◌, length, rules, refl, sym, subst}
use Rattle.volume_format.specs.Layout.{laid}
use Rattle.volume_format.specs.Home.{HasRu, ru_rows}
use Rattle.volume_format.proofs.Splices.{laid_again, laid_stand, length-laid}
use Rattle.volume_format.proofs.ru.write_ru.Goals as goal

pub returns-clause-positions : goal.returns-clause-positions
returns-clause-positions c =
    let rows = ru_rows c.args.span.now in
    let long : length c.args.block.now ≡ 512 = search rules in
    let written : c.write_64-2.new.block ≡ laid rows c.args.block.now = search rules in
    subst (λ b. HasRu b c.args.span.now) (sym written)
    (laid_again 0 rows (laid rows c.args.block.now) refl (refl, (refl, tt)) (length-laid 0 rows c.args.block.now refl (refl, (refl, tt)) long) (laid_stand 0 rows c.args.block.now refl (refl, (refl, tt)) long))
