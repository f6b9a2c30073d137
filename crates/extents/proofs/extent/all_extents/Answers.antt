use Rattle.std.proofs.Common.{◌≡◌, ◌<◌, ◌+◌, ◌*◌, ◌++◌, length, take, get_or, set, None, ap, sym, ◌∙◌, arith, length-set}
use Rattle.std.proofs.lemmas.List.{get_or_default}
use Rattle.extents.specs.Extents.{extents_of, nowhere}
use Rattle.extents.proofs.Four.{four_more, four_of, extents_more}
use Rattle.extents.proofs.extent.all_extents.Goals as goal

pub loop-i-preserved : goal.loop-i-preserved
loop-i-preserved c =
    let within : c.loop-i.i < length c.args.heads.now = omega (arith, c.type_inv.heads) in
    let four = four_of (get_or c.args.heads.now c.loop-i.i None) c.extents_of.result nowhere (c.extents_of.ensures ∙ ap extents_of (get_or_default c.args.heads.now c.loop-i.i _ None within)) in
    record {
      long = grind (arith, length-set);
      told = ap (λ n. take n (set (set (set (set c.loop-i.all (4 * c.loop-i.i) (get_or c.extents_of.result 0 nowhere)) (4 * c.loop-i.i + 1) (get_or c.extents_of.result 1 nowhere)) (4 * c.loop-i.i + 2) (get_or c.extents_of.result 2 nowhere)) (4 * c.loop-i.i + 3) (get_or c.extents_of.result 3 nowhere))) (let e : 4 * (c.loop-i.i + 1) ≡ 4 * c.loop-i.i + 4 = omega arith in e)
          ∙ four_more c.loop-i.all (4 * c.loop-i.i) _ _ _ _ (omega arith)
          ∙ ap (λ l. take (4 * c.loop-i.i) c.loop-i.all ++ l) four
          ∙ ap (λ l. l ++ extents_of (get_or c.args.heads.now c.loop-i.i None)) c.loop-i.invariant.told
          ∙ sym (extents_more c.args.heads.now c.loop-i.i within);
    }
