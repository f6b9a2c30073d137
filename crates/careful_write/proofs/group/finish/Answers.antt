use Rattle.std.proofs.Common.{◌≡◌, ℕ, true, false, refl, arith}
use Rattle.block_disk.specs.Blocks.{has_number, numbers_of, laid_from}
use Rattle.careful_write.specs.Content.{gate_block}
use Rattle.careful_write.proofs.Exits.{on_err_so}
use Rattle.careful_write.proofs.Home.{whole_count}
use Rattle.careful_write.proofs.GroupParts.{IsAfter, stop_gate, stop_group, stands_open, stands_gate, stands_group, exactly_after, done_home, done_closed}
use Rattle.careful_write.proofs.Written.{home_touched, finish_touched, told_gate}
use Rattle.careful_write.proofs.group.finish.Goals as goal

pub returns-in_err-write_home-clause-err : goal.returns-in_err-write_home-clause-err
returns-in_err-write_home-clause-err g c =
    let s0 = g.D.Disk.state c.args.disk.now in
    let es = c.args.group.now.entries in
    let low = λ (n : ℕ) (has : has_number n (numbers_of es) ≡ true). (c.requires.in_home n has).0 in
    let stands0 = stands_open s0 es c.requires.says in
    on_err_so c.from_residual.result (stop_group s0 es s0 (g.D.Disk.state c.write_home.new.disk) stands0 c.requires.settled low c.write_home.ensures.touches)

pub returns-in_err-write_gate-clause-err : goal.returns-in_err-write_gate-clause-err
returns-in_err-write_gate-clause-err g c =
    let s0 = g.D.Disk.state c.args.disk.now in
    let es = c.args.group.now.entries in
    let low = λ (n : ℕ) (has : has_number n (numbers_of es) ≡ true). (c.requires.in_home n has).0 in
    let stands0 = stands_open s0 es c.requires.says in
    let s3 = g.D.Disk.state c.write_home.new.disk in
    let stands3 = stands_group s0 es s0 s3 stands0 c.in_ok-write_home.ensures.seen low in
    on_err_so c.from_residual-in_err-write_gate.result (stop_gate s0 es (IsAfter s0.seen es) s3 (g.D.Disk.state c.write_gate.new.disk) (laid_from 518 es) true stands3 c.in_ok-write_home.ensures.settled c.write_gate.ensures.touches (exactly_after s0 es))

pub returns-clause-home : goal.returns-clause-home
returns-clause-home g c =
    let s0 = g.D.Disk.state c.args.disk.now in
    let es = c.args.group.now.entries in
    let low = λ (n : ℕ) (has : has_number n (numbers_of es) ≡ true). (c.requires.in_home n has).0 in
    let stands0 = stands_open s0 es c.requires.says in
    let s3 = g.D.Disk.state c.write_home.new.disk in
    let stands3 = stands_group s0 es s0 s3 stands0 c.in_ok-write_home.ensures.seen low in
    let s4 = g.D.Disk.state c.write_gate.new.disk in
    let long3 = whole_count s3.seen c.in_ok-write_home.ensures.counts.size (g.met.D.Disk.whole c.write_home.new.disk) in
    let stands4 = stands_gate s0 es s3 s4 (laid_from 518 es) true false (gate_block 0) s0.size stands3 c.in_ok-write_gate.ensures.seen refl long3 (omega (arith, c.requires.size)) in
    done_home s0 es s4 stands4

pub returns-clause-closed : goal.returns-clause-closed
returns-clause-closed g c =
    let s0 = g.D.Disk.state c.args.disk.now in
    let es = c.args.group.now.entries in
    let low = λ (n : ℕ) (has : has_number n (numbers_of es) ≡ true). (c.requires.in_home n has).0 in
    let stands0 = stands_open s0 es c.requires.says in
    let s3 = g.D.Disk.state c.write_home.new.disk in
    let stands3 = stands_group s0 es s0 s3 stands0 c.in_ok-write_home.ensures.seen low in
    let s4 = g.D.Disk.state c.write_gate.new.disk in
    let long3 = whole_count s3.seen c.in_ok-write_home.ensures.counts.size (g.met.D.Disk.whole c.write_home.new.disk) in
    let stands4 = stands_gate s0 es s3 s4 (laid_from 518 es) true false (gate_block 0) s0.size stands3 c.in_ok-write_gate.ensures.seen refl long3 (omega (arith, c.requires.size)) in
    done_closed s0 es s4 stands4

pub returns-clause-gate : goal.returns-clause-gate
returns-clause-gate g c =
    let s3 = g.D.Disk.state c.write_home.new.disk in
    let long3 = whole_count s3.seen c.in_ok-write_home.ensures.counts.size (g.met.D.Disk.whole c.write_home.new.disk) in
    told_gate (gate_block 0) _ s3.seen _ c.in_ok-write_gate.ensures.seen long3 (omega (arith, c.requires.size))

pub returns-in_err-write_home-clause-touches : goal.returns-in_err-write_home-clause-touches
returns-in_err-write_home-clause-touches g c = home_touched c.args.group.now.entries _ _ c.write_home.ensures.touches

pub returns-in_err-write_gate-clause-touches : goal.returns-in_err-write_gate-clause-touches
returns-in_err-write_gate-clause-touches g c = finish_touched c.args.group.now.entries _ _ _ c.write_home.ensures.touches c.write_gate.ensures.touches

pub returns-clause-touches : goal.returns-clause-touches
returns-clause-touches g c = finish_touched c.args.group.now.entries _ _ _ c.write_home.ensures.touches c.write_gate.ensures.touches
