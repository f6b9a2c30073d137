use Rattle.std.proofs.Common.{◌∙◌, Result, Ok, Err, OnErr, arith}
use Rattle.change_set.specs.Files.{in_extent}
use Rattle.change_set.proofs.Extents.{leaves_out}
use Rattle.relative_file.proofs.MakeLaws.{agrees_more}
use Rattle.relative_file.proofs.make.make_file.Goals as goal

on_err_so : {T E P : Type 0} (r : Result T E) → P → OnErr r P
on_err_so (Ok x) p = tt
on_err_so (Err e) p = p

pub returns-in_err-write_many-clause-down : goal.returns-in_err-write_many-clause-down
returns-in_err-write_many-clause-down g c =
    on_err_so c.from_residual.result (leaves_out (in_extent c.args.head.now) c.args.store.now.current c.loop-at.store.current c.write_many.new.store.disk c.loop-at.invariant.outside c.in_err-write_many.ensures.down)

pub loop-at-preserved : goal.loop-at-preserved
loop-at-preserved g c =
    let e = c.in_ok-write_many.ensures in
    let before = c.loop-at.invariant in
    record {
      empty = e.empty before.empty;
      idle = e.idle;
      outside = agrees_more (in_extent c.args.head.now) c.args.store.now.current c.loop-at.store.current c.write_many.new.store.current before.outside e.outside;
      quiet = record { size = e.counts.size ∙ before.quiet.size; calls = e.counts.calls ∙ before.quiet.calls; faults = e.counts.faults ∙ before.quiet.faults; stops = e.counts.stops ∙ before.quiet.stops; told = e.counts.told ∙ before.quiet.told };
      pool = e.pool ∙ before.pool;
      within = omega arith;
    }
