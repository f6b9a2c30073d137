use Rattle.std.proofs.Common.{◌≤◌, ◌+◌, length, subst}
use Rattle.careful_write.specs.State.{StoreState}
use Rattle.save_sets.proofs.CopyLaws.{few_staged}
use Rattle.save_sets.proofs.copying.copy_block.Goals as goal

pub returns-clause-touched : goal.returns-clause-touched
returns-clause-touched g c =
    let less : length c.stage.new.self.touched ≤ length c.read.new.self.touched + 1 = few_staged c.stage.result c.args.to c.read.new.self c.stage.new.self _ c.stage.ensures.ok c.stage.ensures.err in
    subst (λ (s : StoreState). length c.stage.new.self.touched ≤ length s.touched + 1) c.in_ok-read.ensures.state less
