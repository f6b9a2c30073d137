use Rattle.std.proofs.Common.{◌≡◌, ℕ, true, false, inr, length, refl, ◌∙◌, arith}
use Rattle.block_disk.specs.Blocks.{has_number, numbers_of}
use Rattle.careful_write.specs.Content.{gate_block, words_for}
use Rattle.careful_write.specs.Parts.{in_gate, in_index, in_finish}
use Rattle.careful_write.proofs.Exits.{on_err_so}
use Rattle.careful_write.proofs.Home.{whole_count}
use Rattle.careful_write.proofs.Images.{group_fits}
use Rattle.careful_write.proofs.GroupParts.{Either, stop_intents, stop_gate, stands_intents, stands_gate, either_before, says_open, laid_standing}
use Rattle.careful_write.proofs.Intents.{names_kept, told_front}
use Rattle.careful_write.proofs.Written.{part_intents, part_gate, part_finish, first_gate, first_off, gate_apart, index_off_finish, index_low}
use Rattle.careful_write.proofs.group.write_group.Goals as goal

pub returns-in_err-write_intents-clause-err : goal.returns-in_err-write_intents-clause-err
returns-in_err-write_intents-clause-err g c =
    let s0 = g.D.Disk.state c.args.disk.now in
    on_err_so c.from_residual.result (stop_intents s0 c.args.group.now.entries (g.D.Disk.state c.write_intents.new.disk) c.requires.few c.requires.settled c.requires.closed c.write_intents.ensures.touches)

pub returns-in_err-write_gate-clause-err : goal.returns-in_err-write_gate-clause-err
returns-in_err-write_gate-clause-err g c =
    let s0 = g.D.Disk.state c.args.disk.now in
    let es = c.args.group.now.entries in
    let fit = group_fits s0.size es c.requires.few c.requires.ascending c.requires.in_home in
    let s1 = g.D.Disk.state c.write_intents.new.disk in
    let long1 = whole_count s1.seen c.in_ok-write_intents.ensures.counts.size (g.met.D.Disk.whole c.write_intents.new.disk) in
    let stands1 = stands_intents s0 es s1 s0.size c.requires.closed c.in_ok-write_intents.ensures.touches c.in_ok-write_intents.ensures.intents long1 fit in
    on_err_so c.from_residual-in_err-write_gate.result (stop_gate s0 es (Either s0.seen es) s1 (g.D.Disk.state c.write_gate.new.disk) (λ h. h) false stands1 c.in_ok-write_intents.ensures.settled c.write_gate.ensures.touches (either_before s0 es))

pub finish-requires-clause-says : goal.finish-requires-clause-says
finish-requires-clause-says g c =
    let s0 = g.D.Disk.state c.args.disk.now in
    let es = c.args.group.now.entries in
    let fit = group_fits s0.size es c.requires.few c.requires.ascending c.requires.in_home in
    let s1 = g.D.Disk.state c.write_intents.new.disk in
    let long1 = whole_count s1.seen c.in_ok-write_intents.ensures.counts.size (g.met.D.Disk.whole c.write_intents.new.disk) in
    let stands1 = stands_intents s0 es s1 s0.size c.requires.closed c.in_ok-write_intents.ensures.touches c.in_ok-write_intents.ensures.intents long1 fit in
    let s2 = g.D.Disk.state c.write_gate.new.disk in
    let stands2 = stands_gate s0 es s1 s2 (λ h. h) false true (gate_block 1) s0.size stands1 c.in_ok-write_gate.ensures.seen refl long1 (omega (arith, c.requires.size)) in
    says_open s0 es s2 stands2

pub returns-in_err-finish-clause-err : goal.returns-in_err-finish-clause-err
returns-in_err-finish-clause-err g c =
    let s0 = g.D.Disk.state c.args.disk.now in
    let es = c.args.group.now.entries in
    let fit = group_fits s0.size es c.requires.few c.requires.ascending c.requires.in_home in
    let s1 = g.D.Disk.state c.write_intents.new.disk in
    let long1 = whole_count s1.seen c.in_ok-write_intents.ensures.counts.size (g.met.D.Disk.whole c.write_intents.new.disk) in
    let stands1 = stands_intents s0 es s1 s0.size c.requires.closed c.in_ok-write_intents.ensures.touches c.in_ok-write_intents.ensures.intents long1 fit in
    let s2 = g.D.Disk.state c.write_gate.new.disk in
    let stands2 = stands_gate s0 es s1 s2 (λ h. h) false true (gate_block 1) s0.size stands1 c.in_ok-write_gate.ensures.seen refl long1 (omega (arith, c.requires.size)) in
    on_err_so c.from_residual-in_err-finish.result (λ image left. let l = c.in_err-finish.ensures.err image left in (l.0, inr (l.1 ∙ laid_standing s0 es s2 stands2)))

pub returns-clause-content : goal.returns-clause-content
returns-clause-content g c =
    let s0 = g.D.Disk.state c.args.disk.now in
    let es = c.args.group.now.entries in
    let fit = group_fits s0.size es c.requires.few c.requires.ascending c.requires.in_home in
    let s1 = g.D.Disk.state c.write_intents.new.disk in
    let long1 = whole_count s1.seen c.in_ok-write_intents.ensures.counts.size (g.met.D.Disk.whole c.write_intents.new.disk) in
    let stands1 = stands_intents s0 es s1 s0.size c.requires.closed c.in_ok-write_intents.ensures.touches c.in_ok-write_intents.ensures.intents long1 fit in
    let s2 = g.D.Disk.state c.write_gate.new.disk in
    let stands2 = stands_gate s0 es s1 s2 (λ h. h) false true (gate_block 1) s0.size stands1 c.in_ok-write_gate.ensures.seen refl long1 (omega (arith, c.requires.size)) in
    c.in_ok-finish.ensures.home ∙ laid_standing s0 es s2 stands2

pub returns-clause-front : goal.returns-clause-front
returns-clause-front g c =
    let es = c.args.group.now.entries in
    let low = λ (n : ℕ) (has : has_number n (numbers_of es) ≡ true). (c.requires.in_home n has).0 in
    let bound = words_for (length es) in
    let s1 = g.D.Disk.state c.write_intents.new.disk in
    let s2 = g.D.Disk.state c.write_gate.new.disk in
    let s3 = g.D.Disk.state c.finish.new.disk in
    let opened = names_kept in_gate es bound s1 s2 (omega (arith, c.requires.few)) (λ n one five. gate_apart n one) c.write_gate.ensures.touches c.in_ok-write_intents.ensures.names in
    let named = names_kept (in_finish es) es bound s2 s3 (omega (arith, c.requires.few)) (λ n one five. index_off_finish es c.requires.few low n one five) c.finish.ensures.touches opened in
    told_front es s3.seen named c.in_ok-finish.ensures.gate

pub returns-in_err-write_gate-clause-order : goal.returns-in_err-write_gate-clause-order
returns-in_err-write_gate-clause-order g c =
    on_err_so c.from_residual-in_err-write_gate.result (first_gate (length c.args.group.now.entries) _ _ c.requires.few c.write_gate.ensures.touches c.in_ok-write_intents.ensures.settled)

pub returns-in_err-finish-clause-order : goal.returns-in_err-finish-clause-order
returns-in_err-finish-clause-order g c =
    let es = c.args.group.now.entries in
    let low = λ (n : ℕ) (has : has_number n (numbers_of es) ≡ true). (c.requires.in_home n has).0 in
    let off = λ (n : ℕ) (on : in_index (length es) n ≡ true). (let at = index_low (length es) n c.requires.few on in index_off_finish es c.requires.few low n at.0 at.1) in
    on_err_so c.from_residual-in_err-finish.result (first_off (in_finish es) (length es) _ _ off c.finish.ensures.touches c.in_ok-write_gate.ensures.settled)

pub returns-in_err-write_intents-clause-touches : goal.returns-in_err-write_intents-clause-touches
returns-in_err-write_intents-clause-touches g c = part_intents c.args.group.now.entries _ _ c.write_intents.ensures.touches

pub returns-in_err-write_gate-clause-touches : goal.returns-in_err-write_gate-clause-touches
returns-in_err-write_gate-clause-touches g c = part_gate c.args.group.now.entries _ _ _ c.write_intents.ensures.touches c.write_gate.ensures.touches

pub returns-in_err-finish-clause-touches : goal.returns-in_err-finish-clause-touches
returns-in_err-finish-clause-touches g c = part_finish c.args.group.now.entries _ _ _ _ c.write_intents.ensures.touches c.write_gate.ensures.touches c.finish.ensures.touches

pub returns-clause-touches : goal.returns-clause-touches
returns-clause-touches g c = part_finish c.args.group.now.entries _ _ _ _ c.write_intents.ensures.touches c.write_gate.ensures.touches c.finish.ensures.touches
