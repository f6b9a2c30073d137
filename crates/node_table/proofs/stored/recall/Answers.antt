use Rattle.std.proofs.Common.{◌≡◌, ◌++◌, ◌∷◌, ℕ, List, [], ◌∙◌, ap, sym, map, take, length, arith}
use Rattle.std.proofs.Math.Seq.{take-length}
use Rattle.std.proofs.lemmas.List.{length-append}
use Rattle.vms_base.specs.Ids.{serial_of}
use Rattle.vms_base.specs.declared.ids.Serial.{Serial}
use Rattle.node_table.proofs.Recalling.{one_more, serials_in, told_serials}
use Rattle.node_table.proofs.stored.recall.Goals as goal

pub push_reserved-requires : goal.push_reserved-requires
push_reserved-requires c =
    let count = c.loop-record.invariant.count in
    let below = c.loop-record-test.true in
    omega (arith, count, below, c.requires.few, c.loop-record.invariant.room)

pub loop-record-preserved : goal.loop-record-preserved
loop-record-preserved c = record {
  serials = c.push_reserved.ensures.items ∙ ap (λ xs. xs ++ c.record-item.result.serial ∷ []) c.loop-record.invariant.serials ∙ sym (one_more c.args.prepared.now c.loop-record.record-index c.record-item.result c.loop-record-test.true c.record-item.is);
  count = (
      let e = ap (λ (xs : List Serial). length xs) c.push_reserved.ensures.items in
      let a = length-append c.loop-record.in_doubt.items (c.record-item.result.serial ∷ []) in
      omega (arith, e, a, c.loop-record.invariant.count));
  room = omega (arith, c.push_reserved.ensures.capacity, c.loop-record.invariant.room);
}

pub returns-clause-serials : goal.returns-clause-serials
returns-clause-serials c =
    let all : c.loop-record.record-index ≡ length c.args.prepared.now = omega (arith, c.loop-record-test.false, c.loop-record.auto.record-index-end) in
    ap (λ xs. map serial_of xs) (c.loop-record.invariant.serials ∙ ap serials_in (ap (λ (i : ℕ). take i c.args.prepared.now) all ∙ take-length c.args.prepared.now)) ∙ told_serials c.args.prepared.now
