use Rattle.file_loads.proofs.WriteLemmas.{stages}
use Rattle.file_loads.proofs.group.stage_bytes.Goals as goal

pub returns : goal.returns
returns g c =
    stages c.args.head.now c.take_frame-frame.result c.args.n c.args.bytes.now c.args.store.now _ _ c.give_frame.new.store c.take_frame-frame.ensures.free c.take_frame-frame.ensures.out c.take_frame-frame.ensures.state
    c.stage_index.ensures.state c.give_frame.ensures c.take_frame-frame.ensures.whole
