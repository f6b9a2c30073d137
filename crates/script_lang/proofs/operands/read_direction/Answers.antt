use Rattle.std.proofs.Common.{refl}
use Rattle.script_lang.proofs.TableLemmas.{among_map}
use Rattle.script_lang.proofs.operands.read_direction.Goals as goal

pub returns : goal.returns
returns c = rw (c.find.ensures, among_map) refl
