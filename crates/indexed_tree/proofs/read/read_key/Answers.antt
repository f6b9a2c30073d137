use Rattle.std.proofs.Common.{◌-◌, ◌+◌, Some, None, ap, arith}
use Rattle.careful_write.specs.State.{StoreState}
use Rattle.careful_write.specs.Down.{answered}
use Rattle.indexed_file.proofs.change_set.Frames.{read_again}
use Rattle.index_blocks.proofs.StageLaws.{told_same}
use Rattle.indexed_file.proofs.ReadLaws.{on_ok}
use Rattle.indexed_tree.proofs.ReadLaws.{key_told}
use Rattle.indexed_tree.proofs.StoreLaws.{levels_read}
use Rattle.indexed_tree.proofs.read.read_key.Goals as goal

pub returns-in-Ok-clause-state : goal.returns-in-Ok-clause-state
returns-in-Ok-clause-state g c = read_again c.args.frame.now c.args.store.now c.find_leaf.new.store c.read_leaf.new.store (answered c.read_leaf.result) c.in-Ok.ensures.state c.read_leaf.ensures.state

pub returns-in-Ok-clause-reads : goal.returns-in-Ok-clause-reads
returns-in-Ok-clause-reads g c =
    let h = c.args.head.now in
    levels_read (h.levels - 1) h.levels h.bucket c.args.store.now.reads c.find_leaf.new.store.reads c.read_leaf.new.store.reads (omega (arith, c.requires.form.some)) c.find_leaf.ensures.reads c.read_leaf.ensures.reads

pub returns-in-Err-clause-reads : goal.returns-in-Err-clause-reads
returns-in-Err-clause-reads g c =
    let h = c.args.head.now in
    levels_read (h.levels - 1) h.levels h.bucket c.args.store.now.reads c.find_leaf.new.store.reads c.find_leaf.new.store.reads (omega (arith, c.requires.form.some)) c.find_leaf.ensures.reads (omega arith)

pub returns-in-Ok-clause-found : goal.returns-in-Ok-clause-found
returns-in-Ok-clause-found g c =
    let same = ap (λ (s : StoreState). s.current) c.in-Ok.ensures.state in
    on_ok c.read_leaf.result _ _ (λ x fact is. key_told c.args.store.now.current c.args.head.now c.args.key.now c.in-Ok.n (Some c.read_leaf.new.out) c.requires.form.root c.in-Ok.ensures.leaf (told_same _ _ _ same (fact is))) c.read_leaf.ensures.found

pub returns-in-Ok-clause-absent : goal.returns-in-Ok-clause-absent
returns-in-Ok-clause-absent g c =
    let same = ap (λ (s : StoreState). s.current) c.in-Ok.ensures.state in
    on_ok c.read_leaf.result _ _ (λ x fact is. key_told c.args.store.now.current c.args.head.now c.args.key.now c.in-Ok.n None c.requires.form.root c.in-Ok.ensures.leaf (told_same _ _ _ same (fact is))) c.read_leaf.ensures.absent
