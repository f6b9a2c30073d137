use Rattle.std.proofs.Common.{◌≡◌, ◌+◌, ◌-◌, List, Option, None, option_map, sym, ap, ◌∙◌, arith}
use Rattle.record_locks.specs.Locks.{holder}
use Rattle.record_operations.specs.Causes.{Cause, cause_of, first_cause}
use Rattle.vms_base.specs.Ids.{serial_of}
use Rattle.vms_model.specs.Keys.{Key, Number, End}
use Rattle.key_changes.specs.Changing.{held_against, locks_refuse}
use Rattle.key_changes.specs.unit_cuts.Truncating.{keys_cut, keys_down}
use Rattle.key_changes.proofs.unit_cuts.CutLemmas.{keys_step}
use Rattle.rms_units.proofs.CutLocks.{passes, stops}
use Rattle.rms_units.proofs.truncating.cut_lock_refusal.Goals as goal

pub loop-behind-preserved : goal.loop-behind-preserved
loop-behind-preserved c =
    let who = option_map serial_of c.args.by.now in
    let h = c.args.cut.now.head in
    let b = c.loop-behind.behind in
    let many = c.removed-behind-end.result in
    let free : None ≡ held_against who (holder c.args.locks.now.locks c.args.cut.now.file (Number (h.count - b))) =
    c.in-None-lock_refusal.ensures.refuses ∙ ap (λ (k : Key). held_against who (holder c.args.locks.now.locks c.args.cut.now.file k)) c.key.ensures in
    c.loop-behind.invariant ∙ ap (λ (ks : List Key). locks_refuse who c.args.cut.now.file ks c.args.locks.now.locks) (keys_step h.count many b (omega arith))
    ∙ passes who c.args.cut.now.file (Number (h.count - b)) (keys_down (h.count - (b + 1)) (many - (b + 1))) c.args.locks.now.locks free

pub returns-in-Some-lock_refusal-clause-refuses : goal.returns-in-Some-lock_refusal-clause-refuses
returns-in-Some-lock_refusal-clause-refuses c =
    let who = option_map serial_of c.args.by.now in
    let h = c.args.cut.now.head in
    let b = c.loop-behind.behind in
    let many = c.removed-behind-end.result in
    let held : cause_of c.in-Some-lock_refusal.refusal ≡ held_against who (holder c.args.locks.now.locks c.args.cut.now.file (Number (h.count - b))) =
    c.in-Some-lock_refusal.ensures.refuses ∙ ap (λ (k : Key). held_against who (holder c.args.locks.now.locks c.args.cut.now.file k)) c.key.ensures in
    let rest = locks_refuse who c.args.cut.now.file (keys_down (h.count - (b + 1)) (many - (b + 1))) c.args.locks.now.locks in
    sym (passes who c.args.cut.now.file End (keys_cut h c.args.cut.now.from) c.args.locks.now.locks c.in-None.ensures.refuses
    ∙ c.loop-behind.invariant ∙ ap (λ (ks : List Key). locks_refuse who c.args.cut.now.file ks c.args.locks.now.locks) (keys_step h.count many b (omega arith))
    ∙ ap (λ (x : Option Cause). first_cause x rest) (sym held) ∙ stops (cause_of c.in-Some-lock_refusal.refusal) rest c.in-Some-lock_refusal.ensures.refusal)
