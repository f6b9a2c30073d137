use Rattle.std.proofs.Common.{◌≡◌, length, rules}
use Rattle.volume_format.proofs.Homes.{size_fields, same_sizes}
use Rattle.volume_format.proofs.home.sizes_at.Goals as goal

pub returns : goal.returns
returns c = λ sizes is has.
    let long : length c.args.block.now ≡ 512 = search rules in
    let f = size_fields sizes c.args.block.now long has in
    same_sizes sizes _ _ _
    (c.number_32.ensures sizes.blocks is.blocks f.blocks)
    (c.number_32-2.ensures sizes.slots is.slots f.slots)
    (c.number_32-3.ensures sizes.ru_blocks is.ru_blocks f.ru_blocks)
