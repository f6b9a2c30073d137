use Rattle.std.proofs.Common.{◌≤◌, ◌+◌, ◌-◌, ◌*◌, Result, Ok, Err, IfOk, OnOk, ap, arith}
use Rattle.careful_write.specs.State.{StoreState}
use Rattle.careful_write.specs.Down.{answered}
use Rattle.indexed_file.specs.change_set.Files.{StagesIn}
use Rattle.index_blocks.specs.index_bucket.Takes.{entries_of}
use Rattle.indexed_tree.specs.Puts.{MayPart}
use Rattle.indexed_tree.proofs.StoreLaws.{sets_whole, sets_parted, stages_leaves, stages_whole, stages_all, rest_staged}
use Rattle.indexed_tree.proofs.put.stage_set.Goals as goal

if_ok_then : {T E : Type 0} (r : Result T E) (P Q : T → Type 0) → ((x : T) → P x → Q x) → IfOk r P → IfOk r Q
if_ok_then (Ok x) P Q f p = f x p
if_ok_then (Err e) P Q f p = tt

on_ok_then : {T E A B : Type 0} (r : Result T E) → (A → B) → OnOk r A → OnOk r B
on_ok_then (Ok x) f a = f a
on_ok_then (Err e) f a = tt

pub returns-then-added-eq0-clause-sets : goal.returns-then-added-eq0-clause-sets
returns-then-added-eq0-clause-sets g c =
    sets_whole c.args.store.now.current c.stage_leaves.new.store.current c.args.head.now c.args.store.now.disk c.args.key.now c.args.path.now c.args.n c.args.added c.args.low.now c.args.mid.now c.args.high.now c.requires.form c.requires.placed
    c.if-added-eq0.true c.stage_leaves.ensures.whole (ap (λ (s : StoreState). s.current) c.stage_leaves.ensures.state)

pub returns-then-added-eq0-clause-stages : goal.returns-then-added-eq0-clause-stages
returns-then-added-eq0-clause-stages g c =
    let h = c.args.head.now in
    stages_whole h (1 + c.args.added) c.args.store.now (record c.stage_leaves.new.store { pool = c.args.store.now.pool }) c.requires.form.some (omega (arith, c.requires.few))
    (stages_leaves h c.args.frame.now c.args.n c.args.added c.args.low.now c.args.mid.now c.args.high.now c.args.store.now c.stage_leaves.new.store (omega (arith, c.requires.there, c.requires.form.within)) c.requires.few
    (omega (arith, c.if-added-eq0.true, c.requires.form.within)) c.stage_leaves.ensures.state)

pub returns-clause-sets : goal.returns-clause-sets
returns-clause-sets g c =
    let h = c.args.head.now in
    let s0 = c.args.store.now in
    let some : 1 ≤ c.args.added = omega (arith, c.if-added-eq0.false) in
    let may : MayPart h = c.requires.may some in
    if_ok_then c.climb.result _ _
    (λ growth climbs. sets_parted s0.current c.stage_leaves.new.store.current c.climb.new.store.current h s0.disk c.args.key.now c.args.path.now c.args.n c.args.added c.args.low.now c.args.mid.now c.args.high.now (entries_of h c.entries_for-handed.result) growth
    c.requires.form c.requires.placed some (omega (arith, may.free, c.requires.few)) c.stage_leaves.ensures.whole (ap (λ (s : StoreState). s.current) c.stage_leaves.ensures.state) c.entries_for-handed.ensures climbs)
    c.climb.ensures.climbs

pub returns-clause-stages : goal.returns-clause-stages
returns-clause-stages g c =
    let h = c.args.head.now in
    let may : MayPart h = c.requires.may (omega (arith, c.if-added-eq0.false)) in
    let s0 = c.args.store.now in
    let s1 = c.stage_leaves.new.store in
    on_ok_then c.climb.result (λ (stages : StagesIn h ((2 * (h.levels - 1) + 1) * h.bucket) s1 (record c.climb.new.store { pool = s1.pool })).
    stages_all h c.args.added s0 s1 c.climb.new.store c.requires.form.some c.requires.few
    (stages_leaves h c.args.frame.now c.args.n c.args.added c.args.low.now c.args.mid.now c.args.high.now s0 s1 (omega (arith, c.requires.there, c.requires.form.within)) c.requires.few (omega (arith, may.free, c.requires.few)) c.stage_leaves.ensures.state) stages)
    c.climb.ensures.stages

pub returns-clause-rest : goal.returns-clause-rest
returns-clause-rest g c = rest_staged c.args.frame.now c.args.store.now c.stage_leaves.new.store c.climb.new.store _ _ (answered c.climb.result) c.stage_leaves.ensures.state c.climb.ensures.rest
