use Rattle.std.proofs.Common.{true, false, ap, arith}
use Rattle.careful_write.specs.State.{StoreState}
use Rattle.std.specs.Option.{option_copied}
use Rattle.indexed_file.specs.change_set.Buckets.{frame_of}
use Rattle.index_blocks.proofs.StageLaws.{told_same}
use Rattle.indexed_file.proofs.BackLaws.{tries_bytes}
use Rattle.indexed_tree.proofs.StoreLaws.{rest_own}
use Rattle.indexed_tree.proofs.RestoreLaws.{back_taken, back_left}
use Rattle.indexed_tree.proofs.restore.restore_loaded.Goals as goal

pub returns-then-restore_in_leaf-clause-back : goal.returns-then-restore_in_leaf-clause-back
returns-then-restore_in_leaf-clause-back g c =
    let h = c.args.head.now in
    let s0 = c.args.store.now in
    let frame = frame_of s0.pool c.args.frame.now in
    let low = c.restore_in_leaf.new.low in
    back_taken s0.current c.put_back.new.store.current h s0.disk c.args.key.now (option_copied c.args.value) c.args.n frame low c.requires.form c.requires.keys c.requires.placed c.requires.suits
    (tries_bytes h c.args.key.now (option_copied c.args.value) _ c.restore_in_leaf.result true frame c.read_frame.new.bytes low (omega arith) c.read_frame.ensures.bytes c.if-restore_in_leaf.true c.restore_in_leaf.ensures)
    (told_same _ _ _ (ap (λ (s : StoreState). s.current) c.read_frame.ensures.same) c.put_back.ensures.back)

pub returns-else-restore_in_leaf-clause-back : goal.returns-else-restore_in_leaf-clause-back
returns-else-restore_in_leaf-clause-back g c =
    let h = c.args.head.now in
    let s0 = c.args.store.now in
    let frame = frame_of s0.pool c.args.frame.now in
    let low = c.restore_in_leaf.new.low in
    back_left s0.current c.read_frame.new.store.current h c.args.key.now (option_copied c.args.value) c.args.n frame low c.requires.form c.requires.keys c.requires.suits
    (tries_bytes h c.args.key.now (option_copied c.args.value) _ c.restore_in_leaf.result false frame c.read_frame.new.bytes low (omega arith) c.read_frame.ensures.bytes c.if-restore_in_leaf.false c.restore_in_leaf.ensures)
    (ap (λ (s : StoreState). s.current) c.read_frame.ensures.same)

pub returns-else-restore_in_leaf-clause-rest : goal.returns-else-restore_in_leaf-clause-rest
returns-else-restore_in_leaf-clause-rest g c = rest_own c.args.frame.now c.args.store.now c.read_frame.new.store c.requires.out c.read_frame.ensures.same
