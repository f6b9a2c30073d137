use Rattle.std.proofs.Common.{◌≡◌, Bool, length, option_map, sym, ap, subst, arith}
use Rattle.change_set.specs.careful_write.State.{StoreState}
use Rattle.change_set.specs.Buckets.{frame_of, with_frame}
use Rattle.index_blocks.specs.Writes.{with_halves, with_blocks_of_halves}
use Rattle.index_blocks.proofs.StageLaws.{both_staged, blocks_few}
use Rattle.index_blocks.proofs.stage.stage_halves.Goals as goal

pub stage_index-requires-then-parted-clause-room : goal.stage_index-requires-then-parted-clause-room
stage_index-requires-then-parted-clause-room g c =
    omega (arith, c.requires.room, blocks_few c.args.head.now c.args.n c.args.store.now.touched c.requires.placed.blocks, ap (λ (s : StoreState). length s.touched) c.stage_index.ensures.state)

pub returns-then-parted-clause-state : goal.returns-then-parted-clause-state
returns-then-parted-clause-state g c =
    let h = c.args.head.now in
    let f = c.args.frame.now in
    let s0 = c.args.store.now in
    let s2 = c.stage_index-then-parted.new.store in
    subst (λ (p : Bool). s2 ≡ with_frame f (frame_of s2.pool f) (record s0 { current = option_map (with_halves h c.args.n c.args.fresh p c.args.low.now c.args.high.now) s0.current; touched = with_blocks_of_halves h c.args.n c.args.fresh p s0.touched })) (sym c.if-parted.true)
    (both_staged h f c.args.n c.args.fresh c.args.low.now c.args.high.now s0 c.stage_index.new.store s2 c.stage_index.ensures.state c.stage_index-then-parted.ensures.state)
