use Rattle.std.proofs.Common.{map, ◌∙◌}
use Rattle.load_pages.specs.Given.{keyed}
use Rattle.file_loads.proofs.LoopLemmas.{cells_more}
use Rattle.file_loads.proofs.WriteLemmas.{written_more, leaves_later, quiet_more, on_err_any}
use Rattle.file_loads.proofs.relative.write_all_cells.Goals as goal

pub returns-in_err-end-clause-down : goal.returns-in_err-end-clause-down
returns-in_err-end-clause-down g c =
    on_err_any c.from_residual.result
    (leaves_later c.args.head.now c.loop-i.staged c.args.store.now c.loop-i.store c.write_cells.new.store c.loop-i.invariant.written c.in_err-end.ensures.down)

pub loop-i-preserved : goal.loop-i-preserved
loop-i-preserved g c =
    let h = c.args.head.now in
    let e = c.in_ok-end.ensures in
    let s0 = c.args.store.now in
    let s1 = c.loop-i.store in
    let s2 = c.write_cells.new.store in
    let before = c.loop-i.invariant in
    record {
      stand = cells_more h (map keyed c.args.records.now) c.loop-i.i s1.current s2.current before.stand e.adds;
      between = record { passed = e.passed; climbs = e.climbs };
      written = written_more h c.loop-i.staged c.write_cells.new.staged s0 s1 s2 before.written e.ok;
      quiet = quiet_more s0.disk s1.disk s2.disk before.quiet e.counts;
      pool = e.pool ∙ before.pool;
      within = e.to;
    }
