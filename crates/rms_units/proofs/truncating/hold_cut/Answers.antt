-- Key by key, from the lowest up, and the file's end last.
use Rattle.std.proofs.Common.{◌≡◌, ◌+◌, ◌-◌, ◌<◌, ◌≤◌, ◌∷◌, ◌++◌, [], List, Some, None, length, sym, ap, subst, ◌∙◌, arith}
use Rattle.record_locks.specs.Locks.{not_locked, with_locks}
use Rattle.vms_base.specs.Ids.{serial_of}
use Rattle.vms_model.specs.Keys.{Key, Number, End}
use Rattle.key_changes.specs.Changing.{locks_refuse}
use Rattle.rms_units.specs.Truncating.{cut_asked}
use Rattle.key_changes.specs.unit_cuts.Truncating.{keys_cut, keys_down, removed_from}
use Rattle.key_changes.proofs.unit_cuts.CutLemmas.{keys_front, keys_whole, removed_lies, upper_keys}
use Rattle.rms_units.proofs.CutLocks.{above_down, end_apart, few_behind, few_held, few_with, holds_more, may_hold}
use Rattle.rms_units.proofs.truncating.hold_cut.Goals as goal

pub loop-i-preserved : goal.loop-i-preserved
loop-i-preserved c =
    let by = serial_of c.args.by.now in
    let file = c.args.cut.now.file in
    let count = c.args.cut.now.head.count in
    let from = c.args.cut.now.from in
    let i = c.loop-i.i in
    let ls = c.args.locks.now.locks in
    let below : i < removed_from count from = omega (arith, c.removed-i-end.ensures.many) in
    let lies = removed_lies count from (omega (arith, below)) in
    let front = End ∷ keys_down count (removed_from count from - (i + 1)) in
    let back = Number (from + i) ∷ keys_down (from + i - 1) i in
    let all : cut_asked c.args.cut.now.head from ≡ front ++ back = ap (λ (ks : List Key). End ∷ ks) (upper_keys count from i below) in
    let free = may_hold (Some by) file (Number (from + i)) front (keys_down (from + i - 1) i) ls (subst (λ (ks : List Key). locks_refuse (Some by) file ks ls ≡ None) all c.requires.free) in
    let few = few_behind file front back ls (subst (λ (ks : List Key). length ls + length (not_locked ls file ks) ≤ 4096) all (few_held file (cut_asked c.args.cut.now.head from) ls c.requires.few)) in
    holds_more by file (Number (from + i)) (keys_down (from + i - 1) i) ls c.args.locks.now.most c.lock.result c.loop-i.locks c.lock.new.self c.loop-i.invariant c.lock.ensures.locks c.lock.ensures.refused
    (above_down (from + i) (from + i - 1) i (omega (arith, lies.0))) free c.requires.most few
    ∙ ap (λ (ks : List Key). record { most = c.args.locks.now.most; locks = with_locks by file ks ls }) (sym (keys_front from i))

pub returns-clause-locks : goal.returns-clause-locks
returns-clause-locks c =
    let by = serial_of c.args.by.now in
    let file = c.args.cut.now.file in
    let h = c.args.cut.now.head in
    let from = c.args.cut.now.from in
    let ls = c.args.locks.now.locks in
    let done : c.loop-i.i ≡ removed_from h.count from = omega (arith, c.removed-i-end.ensures.many) in
    let whole = keys_whole h.count from c.loop-i.i done in
    holds_more by file End (keys_cut h from) ls c.args.locks.now.most c.lock-2.result c.loop-i.locks c.lock-2.new.self
    (c.loop-i.invariant ∙ ap (λ (ks : List Key). record { most = c.args.locks.now.most; locks = with_locks by file ks ls }) whole)
    c.lock-2.ensures.locks c.lock-2.ensures.refused (end_apart h.count (removed_from h.count from)) (may_hold (Some by) file End [] (keys_cut h from) ls c.requires.free) c.requires.most (few_held file (cut_asked h from) ls c.requires.few)

pub returns-clause-few : goal.returns-clause-few
returns-clause-few c = few_with (serial_of c.args.by.now) c.args.cut.now.file (cut_asked c.args.cut.now.head c.args.cut.now.from) c.args.locks.now.locks c.args.locks.now.most c.lock-2.new.self c.requires.few (returns-clause-locks c)
