use Rattle.std.proofs.Common.{[], sym, Ok, Err, Result, get_or}
use Rattle.std.specs.Result.{OnErr}
use Rattle.std.proofs.lemmas.List.{set-get_or}
use Rattle.block_disk.proofs.mem.MemPlatterPlatter.write.Goals as goal

on_err_so : {T E P : Type 0} (r : Result T E) → P → OnErr r P
on_err_so (Ok x) p = tt
on_err_so (Err e) p = p

pub returns-in_err-count-clause-err : goal.returns-in_err-count-clause-err
returns-in_err-count-clause-err c =
    let blocks = c.args.self.now.blocks.items in
    on_err_so c.from_residual.result (get_or blocks c.args.n [], sym (set-get_or blocks c.args.n []))
