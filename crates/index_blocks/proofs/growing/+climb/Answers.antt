use Rattle.std.proofs.Common.{◌-◌, ℕ, Option, Some, None, Result, Ok, Err, IfOk, slice_index_or, refl, ap, subst, arith, ◌+◌, ◌*◌, OnOk}
use Rattle.change_set.specs.careful_write.State.{StoreState}
use Rattle.change_set.specs.careful_write.Down.{answered}
use Rattle.change_set.proofs.careful_write.Reading.{same_so}
use Rattle.change_set.specs.Files.{StagesIn}
use Rattle.index_bucket.specs.declared.hand.Handed.{Handed}
use Rattle.index_bucket.specs.Takes.{entries_of}
use Rattle.index_blocks.specs.Writes.{HandsIn}
use Rattle.index_blocks.proofs.StageLaws.{rest_again, stages_climb, stages_least}
use Rattle.index_blocks.proofs.ClimbLaws.{at_root, fit_told, cut_told}
use Rattle.index_blocks.proofs.growing.+climb.Goals as goal

if_ok_then : {T E : Type 0} (r : Result T E) (P Q : T → Type 0) → ((x : T) → P x → Q x) → IfOk r P → IfOk r Q
if_ok_then (Ok x) P Q f p = f x p
if_ok_then (Err e) P Q f p = tt

pub returns-then-depth-eq0-clause-climbs : goal.returns-then-depth-eq0-clause-climbs
returns-then-depth-eq0-clause-climbs g t c =
    let h = c.args.head.now in
    at_root c.args.store.now.current c.stage_root.new.store.current h c.args.key.now (entries_of h c.args.handed.now) c.args.depth c.args.path.now c.args.used _ (omega (arith, c.if-depth-eq0.true)) c.stage_root.ensures.climbs

pub returns-then-depth-eq0-clause-rest : goal.returns-then-depth-eq0-clause-rest
returns-then-depth-eq0-clause-rest g t c = same_so _ c.stage_root.new.store c.stage_root.ensures.rest

pub returns-in-Some-clause-rest : goal.returns-in-Some-clause-rest
returns-in-Some-clause-rest g t c =
    rest_again c.args.frame.now c.args.store.now c.hand_in.new.store c.climb.new.store _ _ (answered c.climb.result) c.in_ok-up.ensures.hands.state c.hand_in.ensures.pool c.climb.ensures.rest

pub returns-in-Some-clause-climbs : goal.returns-in-Some-clause-climbs
returns-in-Some-clause-climbs g t c =
    let h = c.args.head.now in
    let n : ℕ = slice_index_or c.args.path.now (c.args.depth - 1) 0 in
    let s0 = c.args.store.now in
    let up : Option Handed = Some c.in-Some.up in
    let hands : HandsIn h c.args.key.now (entries_of h c.args.handed.now) n c.args.used up s0 (record c.hand_in.new.store { pool = s0.pool }) =
    subst (λ (o : Option Handed). HandsIn h c.args.key.now (entries_of h c.args.handed.now) n c.args.used o s0 (record c.hand_in.new.store { pool = s0.pool })) c.in-Some.is c.in_ok-up.ensures.hands in
    if_ok_then c.climb.result _ _
    (λ growth fact. cut_told s0.current c.hand_in.new.store.current c.climb.new.store.current h s0.disk c.args.key.now (entries_of h c.args.handed.now) c.args.depth c.args.path.now c.args.used n hands.low hands.high (entries_of h c.in-Some.up) growth
    c.requires.placed c.requires.short (omega (arith, c.requires.free)) c.in_ok-up.ensures.whole (omega (arith, c.if-depth-eq0.false)) refl (ap (λ (s : StoreState). s.current) hands.state) hands.takes hands.leads fact)
    c.climb.ensures.climbs

pub returns-in-None-clause-climbs : goal.returns-in-None-clause-climbs
returns-in-None-clause-climbs g t c =
    let h = c.args.head.now in
    let n : ℕ = slice_index_or c.args.path.now (c.args.depth - 1) 0 in
    let s0 = c.args.store.now in
    let up : Option Handed = None in
    let hands : HandsIn h c.args.key.now (entries_of h c.args.handed.now) n c.args.used up s0 (record c.hand_in.new.store { pool = s0.pool }) =
    subst (λ (o : Option Handed). HandsIn h c.args.key.now (entries_of h c.args.handed.now) n c.args.used o s0 (record c.hand_in.new.store { pool = s0.pool })) c.in-None.is c.in_ok-up.ensures.hands in
    fit_told s0.current c.hand_in.new.store.current h s0.disk c.args.key.now (entries_of h c.args.handed.now) c.args.depth c.args.path.now c.args.used n hands.low hands.high c.requires.placed c.requires.short (omega (arith, c.requires.free))
    c.in_ok-up.ensures.whole (omega (arith, c.if-depth-eq0.false)) refl (ap (λ (s : StoreState). s.current) hands.state) hands.takes

on_ok_then : {T E A B : Type 0} (r : Result T E) → (A → B) → OnOk r A → OnOk r B
on_ok_then (Ok x) f a = f a
on_ok_then (Err e) f a = tt

pub returns-then-depth-eq0-clause-stages : goal.returns-then-depth-eq0-clause-stages
returns-then-depth-eq0-clause-stages g t c =
    let h = c.args.head.now in
    let least : StagesIn h (1 * h.bucket) c.args.store.now (record c.stage_root.new.store { pool = c.args.store.now.pool }) =
    subst (λ (l : ℕ). StagesIn h l c.args.store.now (record c.stage_root.new.store { pool = c.args.store.now.pool })) (omega arith) c.stage_root.ensures.stages in
    stages_least h c.args.depth 1 c.args.store.now (record c.stage_root.new.store { pool = c.args.store.now.pool }) (omega arith) least

pub returns-in-None-clause-stages : goal.returns-in-None-clause-stages
returns-in-None-clause-stages g t c =
    stages_least c.args.head.now c.args.depth 2 c.args.store.now (record c.hand_in.new.store { pool = c.args.store.now.pool }) (omega (arith, c.if-depth-eq0.false)) c.in_ok-up.ensures.stages

pub returns-in-Some-clause-stages : goal.returns-in-Some-clause-stages
returns-in-Some-clause-stages g t c =
    on_ok_then c.climb.result (λ (stages : StagesIn c.args.head.now ((2 * (c.args.depth - 1) + 1) * c.args.head.now.bucket) c.hand_in.new.store (record c.climb.new.store { pool = c.hand_in.new.store.pool })).
    stages_climb c.args.head.now c.args.depth c.args.store.now c.hand_in.new.store c.climb.new.store (omega (arith, c.if-depth-eq0.false)) c.in_ok-up.ensures.stages stages)
    c.climb.ensures.stages
