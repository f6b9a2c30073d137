use Rattle.std.proofs.Common.{arith}
use Rattle.node_table.proofs.Rows.{all_down, all_more, all_none, early_on, first_may, may_all_as, no_effects, rest_may, rest_shorter, split_effects, tells_all_as}
use Rattle.node_table.proofs.stored.Stored.+tell_all.Goals as goal

pub tell_one-requires-clause-may : goal.tell_one-requires-clause-may
tell_one-requires-clause-may g t c =
    let m = c.requires.may in
    first_may _ _ _ m.1 m.0 _ (may_all_as _ _ _ _ _ _ (split_effects c.args.effects.now c.first-item.result c.in-len1-up.len_at_least c.first-item.is) m.2)

pub tell_all-requires : goal.tell_all-requires
tell_all-requires g t c κs within =
    let m = c.requires.may in
    let l = rest_shorter c.args.effects.now c.in-len1-up.len_at_least in
    (omega (arith, l, c.decreases), (within.0, (within.1.0, (within.1.1, (c.requires.laws, (rest_may _ _ _ _ m.1 m.0 _ _ _ _ _ _ (may_all_as _ _ _ _ _ _ (split_effects c.args.effects.now c.first-item.result c.in-len1-up.len_at_least c.first-item.is) m.2) c.in-Ok.ensures.tells, (early_on _ _ _ c.requires.clock c.requires.early c.in-Ok.ensures.tells.stays.grown, c.requires.clock)))))))

pub returns-in-empty-clause-tells : goal.returns-in-empty-clause-tells
returns-in-empty-clause-tells g t c = tells_all_as _ _ _ _ _ _ _ _ _ _ _ (no_effects c.args.effects.now c.in-empty.len_below) (all_none c.requires.laws _ _ _ _ _)

pub returns-in-Ok-clause-tells : goal.returns-in-Ok-clause-tells
returns-in-Ok-clause-tells g t c = tells_all_as _ _ _ _ _ _ _ _ _ _ _ (split_effects c.args.effects.now c.first-item.result c.in-len1-up.len_at_least c.first-item.is)
    (all_more c.requires.laws _ _ _ _ _ _ _ _ _ _ _ _ _ _ c.in-Ok.ensures.tells c.tell_all.ensures.tells)

pub returns-in-Err-clause-tells : goal.returns-in-Err-clause-tells
returns-in-Err-clause-tells g t c = tells_all_as _ _ _ _ _ _ _ _ _ _ _ (split_effects c.args.effects.now c.first-item.result c.in-len1-up.len_at_least c.first-item.is)
    (all_down c.requires.laws c.in-Err.down _ _ _ _ _ _ _ _ _ _ c.in-Err.ensures.tells)
