-- A clock is set to a moment that can be read, which leaves time enough for all that a script may do.
use Rattle.std.proofs.Common.{◌≡◌, ℕ, ◌*◌, ◌≤◌, List, arith}
use Rattle.script_lang.specs.script_model.Grammar.{reading}
use Rattle.script_lang.specs.script_model.Statements as said
use Rattle.script_lang.specs.script_model.Statements.{Request, Says, Statement}
use Rattle.script_laws.specs.Clocks.{IsEarly}
use Rattle.script_laws.proofs.EarlyLemmas.{reading_early}
use Rattle.reference_tasks.specs.Serving.{IsSetEarly}
use Rattle.reference_run.specs.Served.{AreTimely}

-- Clocks leave time for so many units as a script may take.

-- a clock that is set early enough for some units is early enough for fewer
pub set_less : (more units : ℕ) (r : Request) → units ≤ more → IsSetEarly more r → IsSetEarly units r
set_less more units (said.Clock now) few h = omega arith
set_less more units _ few h = tt

timely : (units : ℕ) (s : Statement) → units ≤ 1024 * 1000001 → IsEarly s → AreTimely units s
timely units (said.At node (said.Clock now)) few h = omega arith
timely units _ few h = tt

pub read_timely : (units : ℕ) (text : List ℕ) (s : Statement) → units ≤ 1024 * 1000001 → reading text ≡ Says s → AreTimely units s
read_timely units text s few e = timely units s few (reading_early text s e)
