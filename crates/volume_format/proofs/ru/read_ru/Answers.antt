use Rattle.std.proofs.Common.{◌≡◌, length, rules, refl}
use Rattle.volume_format.specs.Home.{ru_rows}
use Rattle.volume_format.proofs.Splices.{laid_again}
use Rattle.volume_format.proofs.ru.read_ru.Goals as goal

pub returns-clause-positions : goal.returns-clause-positions
returns-clause-positions c =
    let long : length c.args.block.now ≡ 512 = search rules in
    laid_again 0 (ru_rows (record { start = c.args.start; blocks = c.args.blocks; first = c.number_64.result; end = c.number_64-2.result })) c.args.block.now refl (refl, (refl, tt)) long
    (c.number_64.ensures.bytes, (c.number_64-2.ensures.bytes, tt))
