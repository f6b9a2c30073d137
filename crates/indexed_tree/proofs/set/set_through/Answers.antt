use Rattle.std.proofs.Common.{ℕ, Result, Err}
use Rattle.block_disk.specs.Disk.{DiskState}
use Rattle.careful_write.specs.Down.{answered}
use Rattle.careful_write.specs.declared.down.Down.{Down}
use Rattle.indexed_file.proofs.change_set.Frames.{read_again}
use Rattle.indexed_tree.proofs.StoreLaws.{rest_read, rest_same}
use Rattle.indexed_tree.proofs.set.set_through.Goals as goal

pub returns-in-Ok-load_index-clause-rest : goal.returns-in-Ok-load_index-clause-rest
returns-in-Ok-load_index-clause-rest g c =
    let f = c.args.frame.now in
    let s0 = c.args.store.now in
    rest_read f s0 c.load_index.new.store c.set_loaded.new.store (answered c.set_loaded.result)
    (read_again f s0 c.find_leaf.new.store c.load_index.new.store (λ (d : DiskState). d) c.in-Ok.ensures.state c.in-Ok-load_index.ensures.state) c.set_loaded.ensures.rest

pub returns-in-Err-load_index-clause-rest : goal.returns-in-Err-load_index-clause-rest
returns-in-Err-load_index-clause-rest g c =
    let r : Result ℕ Down = Err c.in-Err-load_index.down in
    let s0 = c.args.store.now in
    rest_same c.args.frame.now s0 c.load_index.new.store (answered r s0.disk)
    (read_again c.args.frame.now s0 c.find_leaf.new.store c.load_index.new.store (answered r) c.in-Ok.ensures.state c.in-Err-load_index.ensures.state)
