-- Early exits.
use Rattle.std.proofs.Common.{Result, Ok, Err}
use Rattle.std.specs.Result.{OnErr}

-- what holds in any case holds after an error
pub on_err_so : {T E P : Type 0} (r : Result T E) → P → OnErr r P
on_err_so (Ok x) p = tt
on_err_so (Err e) p = p
