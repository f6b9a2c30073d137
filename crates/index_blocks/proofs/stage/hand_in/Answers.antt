use Rattle.std.proofs.Common.{◌≡◌, ◌+◌, ℕ, List, Option, Some, None, IfSome, length, sym, subst, ◌∙◌}
use Rattle.change_set.specs.careful_write.Reads.{SameButReads}
use Rattle.change_set.specs.careful_write.State.{StoreState}
use Rattle.change_set.proofs.careful_write.Reading.{same_as}
use Rattle.change_set.specs.Buckets.{frame_of, with_frame}
use Rattle.index_bucket.specs.declared.hand.Handed.{Handed}
use Rattle.index_bucket.specs.Takes.{entries_of}
use Rattle.index_blocks.proofs.StageLaws.{handed_in}
use Rattle.index_blocks.proofs.stage.hand_in.Goals as goal

-- the frame's bytes are taken from it, which reads nothing
read_so : (f : ℕ) (x : List ℕ) (s0 s1 s2 : StoreState) → SameButReads (with_frame f x s0) s1 → s2 ≡ s1 → SameButReads (with_frame f x s0) s2
read_so f x s0 s1 s2 read same = same_as s2 (with_frame f x s0) s1.reads (same ∙ read)

pub returns-then-parted-clause-hands : goal.returns-then-parted-clause-hands
returns-then-parted-clause-hands g c =
    let h = c.args.head.now in
    (handed_in h c.args.key.now (entries_of h c.args.handed.now) c.args.n c.args.fresh (Some c.parent_of.result) c.args.frame.now (frame_of c.load_index.new.store.pool c.args.frame.now) c.args.store.now c.read_frame.new.store c.stage_halves.new.store c.take_handed-parted.result
    c.read_frame.new.bytes c.take_handed-parted.new.low c.take_handed-parted.new.high c.requires.placed.blocks c.requires.there c.requires.free (sym c.if-parted.true) (read_so c.args.frame.now (frame_of c.load_index.new.store.pool c.args.frame.now) c.args.store.now c.load_index.new.store c.read_frame.new.store c.in_ok-load_index.ensures.state c.read_frame.ensures.same) c.stage_halves.ensures.state c.read_frame.ensures.bytes
    c.in_ok-load_index.ensures.read c.take_handed-parted.ensures.takes c.parent_of.ensures).hands

pub returns-then-parted-clause-pool : goal.returns-then-parted-clause-pool
returns-then-parted-clause-pool g c =
    let h = c.args.head.now in
    (handed_in h c.args.key.now (entries_of h c.args.handed.now) c.args.n c.args.fresh (Some c.parent_of.result) c.args.frame.now (frame_of c.load_index.new.store.pool c.args.frame.now) c.args.store.now c.read_frame.new.store c.stage_halves.new.store c.take_handed-parted.result
    c.read_frame.new.bytes c.take_handed-parted.new.low c.take_handed-parted.new.high c.requires.placed.blocks c.requires.there c.requires.free (sym c.if-parted.true) (read_so c.args.frame.now (frame_of c.load_index.new.store.pool c.args.frame.now) c.args.store.now c.load_index.new.store c.read_frame.new.store c.in_ok-load_index.ensures.state c.read_frame.ensures.same) c.stage_halves.ensures.state c.read_frame.ensures.bytes
    c.in_ok-load_index.ensures.read c.take_handed-parted.ensures.takes c.parent_of.ensures).pool

pub returns-then-parted-clause-few : goal.returns-then-parted-clause-few
returns-then-parted-clause-few g c =
    let h = c.args.head.now in
    (handed_in h c.args.key.now (entries_of h c.args.handed.now) c.args.n c.args.fresh (Some c.parent_of.result) c.args.frame.now (frame_of c.load_index.new.store.pool c.args.frame.now) c.args.store.now c.read_frame.new.store c.stage_halves.new.store c.take_handed-parted.result
    c.read_frame.new.bytes c.take_handed-parted.new.low c.take_handed-parted.new.high c.requires.placed.blocks c.requires.there c.requires.free (sym c.if-parted.true) (read_so c.args.frame.now (frame_of c.load_index.new.store.pool c.args.frame.now) c.args.store.now c.load_index.new.store c.read_frame.new.store c.in_ok-load_index.ensures.state c.read_frame.ensures.same) c.stage_halves.ensures.state c.read_frame.ensures.bytes
    c.in_ok-load_index.ensures.read c.take_handed-parted.ensures.takes c.parent_of.ensures).few

pub returns-then-parted-clause-whole : goal.returns-then-parted-clause-whole
returns-then-parted-clause-whole g c =
    subst (λ (s : StoreState). IfSome s.current (λ (b : List (List ℕ)). length b + 518 ≡ s.disk.size)) (c.read_frame.ensures.same ∙ c.in_ok-load_index.ensures.state) c.stage_halves.ensures.whole

pub returns-else-parted-clause-hands : goal.returns-else-parted-clause-hands
returns-else-parted-clause-hands g c =
    let h = c.args.head.now in
    let none : Option Handed = None in
    (handed_in h c.args.key.now (entries_of h c.args.handed.now) c.args.n c.args.fresh none c.args.frame.now (frame_of c.load_index.new.store.pool c.args.frame.now) c.args.store.now c.read_frame.new.store c.stage_halves.new.store c.take_handed-parted.result
    c.read_frame.new.bytes c.take_handed-parted.new.low c.take_handed-parted.new.high c.requires.placed.blocks c.requires.there c.requires.free (sym c.if-parted.false) (read_so c.args.frame.now (frame_of c.load_index.new.store.pool c.args.frame.now) c.args.store.now c.load_index.new.store c.read_frame.new.store c.in_ok-load_index.ensures.state c.read_frame.ensures.same) c.stage_halves.ensures.state c.read_frame.ensures.bytes
    c.in_ok-load_index.ensures.read c.take_handed-parted.ensures.takes tt).hands

pub returns-else-parted-clause-pool : goal.returns-else-parted-clause-pool
returns-else-parted-clause-pool g c =
    let h = c.args.head.now in
    let none : Option Handed = None in
    (handed_in h c.args.key.now (entries_of h c.args.handed.now) c.args.n c.args.fresh none c.args.frame.now (frame_of c.load_index.new.store.pool c.args.frame.now) c.args.store.now c.read_frame.new.store c.stage_halves.new.store c.take_handed-parted.result
    c.read_frame.new.bytes c.take_handed-parted.new.low c.take_handed-parted.new.high c.requires.placed.blocks c.requires.there c.requires.free (sym c.if-parted.false) (read_so c.args.frame.now (frame_of c.load_index.new.store.pool c.args.frame.now) c.args.store.now c.load_index.new.store c.read_frame.new.store c.in_ok-load_index.ensures.state c.read_frame.ensures.same) c.stage_halves.ensures.state c.read_frame.ensures.bytes
    c.in_ok-load_index.ensures.read c.take_handed-parted.ensures.takes tt).pool

pub returns-else-parted-clause-few : goal.returns-else-parted-clause-few
returns-else-parted-clause-few g c =
    let h = c.args.head.now in
    let none : Option Handed = None in
    (handed_in h c.args.key.now (entries_of h c.args.handed.now) c.args.n c.args.fresh none c.args.frame.now (frame_of c.load_index.new.store.pool c.args.frame.now) c.args.store.now c.read_frame.new.store c.stage_halves.new.store c.take_handed-parted.result
    c.read_frame.new.bytes c.take_handed-parted.new.low c.take_handed-parted.new.high c.requires.placed.blocks c.requires.there c.requires.free (sym c.if-parted.false) (read_so c.args.frame.now (frame_of c.load_index.new.store.pool c.args.frame.now) c.args.store.now c.load_index.new.store c.read_frame.new.store c.in_ok-load_index.ensures.state c.read_frame.ensures.same) c.stage_halves.ensures.state c.read_frame.ensures.bytes
    c.in_ok-load_index.ensures.read c.take_handed-parted.ensures.takes tt).few

pub returns-else-parted-clause-whole : goal.returns-else-parted-clause-whole
returns-else-parted-clause-whole g c =
    subst (λ (s : StoreState). IfSome s.current (λ (b : List (List ℕ)). length b + 518 ≡ s.disk.size)) (c.read_frame.ensures.same ∙ c.in_ok-load_index.ensures.state) c.stage_halves.ensures.whole

pub returns-then-parted-clause-stages : goal.returns-then-parted-clause-stages
returns-then-parted-clause-stages g c =
    let h = c.args.head.now in
    (handed_in h c.args.key.now (entries_of h c.args.handed.now) c.args.n c.args.fresh (Some c.parent_of.result) c.args.frame.now (frame_of c.load_index.new.store.pool c.args.frame.now) c.args.store.now c.read_frame.new.store c.stage_halves.new.store c.take_handed-parted.result
    c.read_frame.new.bytes c.take_handed-parted.new.low c.take_handed-parted.new.high c.requires.placed.blocks c.requires.there c.requires.free (sym c.if-parted.true) (read_so c.args.frame.now (frame_of c.load_index.new.store.pool c.args.frame.now) c.args.store.now c.load_index.new.store c.read_frame.new.store c.in_ok-load_index.ensures.state c.read_frame.ensures.same) c.stage_halves.ensures.state c.read_frame.ensures.bytes
    c.in_ok-load_index.ensures.read c.take_handed-parted.ensures.takes c.parent_of.ensures).stages

pub returns-else-parted-clause-stages : goal.returns-else-parted-clause-stages
returns-else-parted-clause-stages g c =
    let h = c.args.head.now in
    let none : Option Handed = None in
    (handed_in h c.args.key.now (entries_of h c.args.handed.now) c.args.n c.args.fresh none c.args.frame.now (frame_of c.load_index.new.store.pool c.args.frame.now) c.args.store.now c.read_frame.new.store c.stage_halves.new.store c.take_handed-parted.result
    c.read_frame.new.bytes c.take_handed-parted.new.low c.take_handed-parted.new.high c.requires.placed.blocks c.requires.there c.requires.free (sym c.if-parted.false) (read_so c.args.frame.now (frame_of c.load_index.new.store.pool c.args.frame.now) c.args.store.now c.load_index.new.store c.read_frame.new.store c.in_ok-load_index.ensures.state c.read_frame.ensures.same) c.stage_halves.ensures.state c.read_frame.ensures.bytes
    c.in_ok-load_index.ensures.read c.take_handed-parted.ensures.takes tt).stages
