use Rattle.std.proofs.Common.{not, sym, ap, ◌∙◌, arith}
use Rattle.vms_base.specs.Keys.{key_of}
use Rattle.record_locks.proofs.LockLemmas.{indexed, is_held, one_free, one_held}
use Rattle.record_locks.proofs.locks.Locks.count_free.Goals as goal
use Rattle.record_locks.proofs.locks.Locks.count_free.Goals.{then-is_none, else-is_none}

pub loop-key-preserved : goal.loop-key-preserved
loop-key-preserved c =
    let ls = c.args.self.now.locks in
    let k = c.key-item.result in
    let i = c.loop-key.key-index in
    let at = indexed c.args.keys.now i k c.loop-key-test.true c.key-item.is in
    let count = c.loop-key.invariant.count in
    let few = c.loop-key.invariant.few in
    let held = is_held ls c.args.file (key_of k) c.holder.result c.is_none.result c.holder.ensures c.is_none.ensures in
    elim c.if-is_none.branch [
      | then-is_none w ↦
          let step = one_free ls c.args.file c.args.keys.now i k at (held ∙ ap not w.if-is_none.true) in
          let is = w.free-is in
          record { count = omega (arith, is, count, step); few = omega (arith, is, few) }
      | else-is_none w ↦
          let step = one_held ls c.args.file c.args.keys.now i k at (held ∙ ap not w.if-is_none.false) in
          let is = w.free-is in
          record { count = is ∙ count ∙ sym step; few = omega (arith, is, few) }
    ]
