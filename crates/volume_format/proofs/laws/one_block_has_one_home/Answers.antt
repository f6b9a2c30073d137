use Rattle.std.proofs.Common.{sym, ◌∙◌}
use Rattle.volume_format.proofs.Readings.{same_some}
use Rattle.volume_format.proofs.laws.one_block_has_one_home.Goals as goal

pub returns : goal.returns
returns c = λ a b is_a is_b has_a has_b. same_some a b (sym ((c.read_home-home.ensures a).1 (is_a, has_a)) ∙ (c.read_home-home.ensures b).1 (is_b, has_b))
