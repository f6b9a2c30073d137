use Rattle.std.proofs.Common.{◌≡◌, length, ap, arith}
use Rattle.careful_write.specs.State.{StoreState}
use Rattle.indexed_file.proofs.StoreLaws.{parts_none, parts_one, parts_two, touched_few}
use Rattle.indexed_tree.proofs.StoreLaws as all
use Rattle.indexed_tree.proofs.put.stage_leaves.Goals as goal

pub returns-then-added-eq0-clause-state : goal.returns-then-added-eq0-clause-state
returns-then-added-eq0-clause-state g c =
    parts_none c.args.head.now c.args.frame.now c.args.n c.args.added c.args.low.now c.args.mid.now c.args.high.now c.args.store.now c.stage_index.new.store c.if-added-eq0.true c.stage_index.ensures.state

pub returns-then-added-eq1-clause-state : goal.returns-then-added-eq1-clause-state
returns-then-added-eq1-clause-state g c =
    parts_one c.args.head.now c.args.frame.now c.args.n c.args.added c.args.low.now c.args.mid.now c.args.high.now c.args.store.now c.stage_index.new.store c.stage_index-2.new.store c.if-added-eq1.true c.stage_index.ensures.state c.stage_index-2.ensures.state

pub returns-clause-state : goal.returns-clause-state
returns-clause-state g c =
    let two : c.args.added ≡ 2 = omega (arith, c.requires.few, c.if-added-eq0.false, c.if-added-eq1.false) in
    parts_two c.args.head.now c.args.frame.now c.args.n c.args.added c.args.low.now c.args.mid.now c.args.high.now c.args.store.now c.stage_index.new.store c.stage_index-2.new.store c.stage_index-3.new.store two
    c.stage_index.ensures.state c.stage_index-2.ensures.state c.stage_index-3.ensures.state

pub stage_index-requires-2-clause-room : goal.stage_index-requires-2-clause-room
stage_index-requires-2-clause-room g c =
    omega (arith, c.requires.room, touched_few c.args.head.now c.args.frame.now c.args.n c.args.low.now c.args.store.now c.stage_index.new.store c.requires.placed.blocks c.stage_index.ensures.state)

pub stage_index-requires-3-clause-room : goal.stage_index-requires-3-clause-room
stage_index-requires-3-clause-room g c =
    omega (
      arith,
      c.requires.room,
      touched_few c.args.head.now c.args.frame.now c.args.n c.args.low.now c.args.store.now c.stage_index.new.store c.requires.placed.blocks c.stage_index.ensures.state,
      touched_few c.args.head.now c.args.frame.now c.args.head.now.used c.args.mid.now c.stage_index.new.store c.stage_index-2.new.store c.requires.placed.blocks c.stage_index-2.ensures.state,
    )

pub returns-then-added-eq0-clause-few : goal.returns-then-added-eq0-clause-few
returns-then-added-eq0-clause-few g c =
    let is = parts_none c.args.head.now c.args.frame.now c.args.n c.args.added c.args.low.now c.args.mid.now c.args.high.now c.args.store.now c.stage_index.new.store c.if-added-eq0.true c.stage_index.ensures.state in
    omega (arith, all.touched_few c.args.head.now c.args.n c.args.added c.args.store.now.touched c.requires.placed.blocks, ap (λ (s : StoreState). length s.touched) is)

pub returns-then-added-eq1-clause-few : goal.returns-then-added-eq1-clause-few
returns-then-added-eq1-clause-few g c =
    let is = parts_one c.args.head.now c.args.frame.now c.args.n c.args.added c.args.low.now c.args.mid.now c.args.high.now c.args.store.now c.stage_index.new.store c.stage_index-2.new.store c.if-added-eq1.true c.stage_index.ensures.state c.stage_index-2.ensures.state in
    omega (arith, all.touched_few c.args.head.now c.args.n c.args.added c.args.store.now.touched c.requires.placed.blocks, ap (λ (s : StoreState). length s.touched) is)

pub returns-clause-few : goal.returns-clause-few
returns-clause-few g c =
    let two : c.args.added ≡ 2 = omega (arith, c.requires.few, c.if-added-eq0.false, c.if-added-eq1.false) in
    let is = parts_two c.args.head.now c.args.frame.now c.args.n c.args.added c.args.low.now c.args.mid.now c.args.high.now c.args.store.now c.stage_index.new.store c.stage_index-2.new.store c.stage_index-3.new.store two
    c.stage_index.ensures.state c.stage_index-2.ensures.state c.stage_index-3.ensures.state in
    omega (arith, all.touched_few c.args.head.now c.args.n c.args.added c.args.store.now.touched c.requires.placed.blocks, ap (λ (s : StoreState). length s.touched) is)
