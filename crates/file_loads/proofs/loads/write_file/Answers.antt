use Rattle.file_loads.proofs.WriteLemmas.{idle_apart, leaves_apart, on_err_any, on_err_then}
use Rattle.file_loads.proofs.loads.write_file.Goals as goal

pub returns-in_err-write_pages-clause-down : goal.returns-in_err-write_pages-clause-down
returns-in_err-write_pages-clause-down g c =
    on_err_any c.from_residual.result (c.in_err-write_pages.ensures.down c.args.store.now.current (idle_apart c.args.head.now c.args.store.now c.requires.idle))

pub returns-clause-down : goal.returns-clause-down
returns-clause-down g c =
    let h = c.args.head.now in
    let s0 = c.args.store.now in
    let s1 = c.write_pages.new.store in
    on_err_then c.apply.result (λ leaves. leaves_apart h s1 c.apply.new.self.disk leaves s0.current (c.in_ok-write_pages.ensures.ok.apart s0.current (idle_apart h s0 c.requires.idle))) c.apply.ensures.err
