use Rattle.std.proofs.Common.{◌≡◌, ◌+◌, List, Option, length, map, set, sym, ap, subst, ◌∙◌, arith, rules}
use Rattle.std.proofs.lemmas.List.{length-map, map-set, length-set}
use Rattle.vms_base.specs.declared.protocol.LogRec.{LogRec}
use Rattle.lmcp_log.specs.Log.{passed, slot_of}
use Rattle.lmcp_log.proofs.Few.{IsPassed, all_passed, at_mapped, none_passed, one_passed}
use Rattle.lmcp_log.proofs.listing.pass_over.Goals as goal

pub loop-i-init : goal.loop-i-init
loop-i-init c = record { passed = none_passed c.args.most (map slot_of c.args.slots.now.items); count = search rules; room = search rules }

pub loop-i-preserved : goal.loop-i-preserved
loop-i-preserved c =
    let now = c.loop-i.slots.items in
    let count = c.loop-i.i in
    let before = c.loop-i.invariant in
    let long = before.count in
    let below = c.loop-i-test.true in
    let all = c.len-i-end.ensures in
    let mapped = length-map now slot_of in
    let same = c.index_mut.ensures.value in
    let left = c.pass_over_one-left.ensures in
    record {
      passed = subst (λ n. IsPassed c.args.most n (count + 1) (map slot_of c.args.slots.now.items) (map slot_of (set now count c.pass_over_one-left.new.slot))) (sym left.fewer)
          (one_passed c.args.most c.loop-i.left count (map slot_of c.args.slots.now.items) (map slot_of now) (map slot_of (set now count c.pass_over_one-left.new.slot)) (slot_of c.index_mut.result.now) before.passed
          (omega (arith, below, all, long, mapped)) (at_mapped now count c.index_mut.result.now (omega (arith, below, all, long)) same)
          (map-set slot_of now count c.pass_over_one-left.new.slot ∙ ap (set (map slot_of now) count) left.slot));
      count = length-set now count c.pass_over_one-left.new.slot ∙ long;
      room = before.room;
    }

pub returns-clause-slots : goal.returns-clause-slots
returns-clause-slots c =
    let now = c.loop-i.slots.items in
    let long = c.loop-i.invariant.count in
    let end = c.loop-i-test.false in
    let all = c.len-i-end.ensures in
    let mapped = length-map now slot_of in
    all_passed c.args.most c.loop-i.left c.loop-i.i (map slot_of c.args.slots.now.items) (map slot_of now) c.loop-i.invariant.passed (omega (arith, end, all, long, mapped))
