use Rattle.std.proofs.Common.{◌≡◌, sym, ◌∙◌, length, rules}
use Rattle.volume_format.proofs.Homes.{home_fields, same_home}
use Rattle.volume_format.proofs.home.home_at.Goals as goal

pub returns-in_err-node : goal.returns-in_err-node
returns-in_err-node c = λ home is has.
    let long : length c.args.block.now ≡ 512 = search rules in
    let f = home_fields home c.args.block.now is long has in
    let e = sym c.in_err-node.was ∙ c.node_at.ensures home.node is.node f.node in cc

pub returns-in_err-last : goal.returns-in_err-last
returns-in_err-last c = λ home is has.
    let long : length c.args.block.now ≡ 512 = search rules in
    let f = home_fields home c.args.block.now is long has in
    let e = sym c.in_err-last.was ∙ c.last_at.ensures home.last is.last f.tid f.serial f.kind f.reason in cc

pub returns : goal.returns
returns c = λ home is has.
    let long : length c.args.block.now ≡ 512 = search rules in
    let f = home_fields home c.args.block.now is long has in
    same_home home _ _ _ _ _ _ _ _
    (c.number_32.ensures home.version is.version f.version)
    (c.number_32-2.ensures home.blocks is.blocks f.blocks)
    (c.number_32-3.ensures home.slots is.slots f.slots)
    (c.number_32-4.ensures home.ru_blocks is.ru_blocks f.ru_blocks)
    (sym c.in_ok-node.was ∙ c.node_at.ensures home.node is.node f.node)
    (c.number_32-5.ensures home.boot is.boot f.boot)
    (c.number_64.ensures.value home.greatest_moment.0 is.greatest_moment f.greatest_moment)
    (sym c.in_ok-last.was ∙ c.last_at.ensures home.last is.last f.tid f.serial f.kind f.reason)
