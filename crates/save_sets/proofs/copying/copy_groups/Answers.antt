use Rattle.std.proofs.Common.{◌≤◌, ◌+◌, ◌-◌, ℕ, subst, ◌∙◌, arith}
use Rattle.change_set.specs.Files.{LeavesOut}
use Rattle.save_sets.specs.Copies.{is_within, CopiesTo}
use Rattle.save_sets.proofs.CopyLaws.{both_copied, later_leaves, low, apart_low, on_err_so}
use Rattle.save_sets.proofs.copying.copy_groups.Goals as goal

pub returns-in_err-copy_group-clause-down : goal.returns-in_err-copy_group-clause-down
returns-in_err-copy_group-clause-down g c =
    let done = c.loop-done.done in
    let count = c.min-count.result in
    let leaves = subst (λ (n : ℕ). LeavesOut (is_within n count) c.loop-done.store.current c.copy_group.new.store.disk) (low c.args.to done c.requires.target.from) c.in_err-copy_group.ensures.down in
    on_err_so c.from_residual.result (later_leaves (c.args.from - 518) (c.args.to - 518) c.args.blocks done count c.args.store.now.current c.loop-done.store.current c.copy_group.new.store.disk (omega arith) c.loop-done.invariant.copies leaves)

pub loop-done-preserved : goal.loop-done-preserved
loop-done-preserved g c =
    let e = c.in_ok-copy_group.ensures in
    let before = c.loop-done.invariant in
    let done = c.loop-done.done in
    let count = c.min-count.result in
    let next = c.copy_group.new.store.current in
    let moved = subst (λ (n : ℕ). CopiesTo (c.args.from - 518 + done) n count c.loop-done.store.current next) (low c.args.to done c.requires.target.from)
    (subst (λ (n : ℕ). CopiesTo n (c.args.to + done - 518) count c.loop-done.store.current next) (low c.args.from done c.requires.source.from) e.copies) in
    record {
      copies = both_copied (c.args.from - 518) (c.args.to - 518) c.args.blocks done count c.args.store.now.current c.loop-done.store.current next
          (apart_low c.args.from c.args.to c.args.blocks c.requires.source.from c.requires.target.from c.requires.apart) (omega arith) before.copies moved;
      idle = e.idle;
      quiet = record { size = e.counts.size ∙ before.quiet.size; calls = e.counts.calls ∙ before.quiet.calls; faults = e.counts.faults ∙ before.quiet.faults; stops = e.counts.stops ∙ before.quiet.stops; told = e.counts.told ∙ before.quiet.told };
      pool = e.pool ∙ before.pool;
      within = omega arith;
    }
