use Rattle.std.proofs.Common.{Some, None, List, ℕ, Option, IfSome}
use Rattle.image_laws.proofs.unit_entries.StoreLemmas.{of_content, stays_read, stays_so}
use Rattle.rolled_records.proofs.RollLemmas.{none_here, sets_read, on_ok, memory_fails}
use Rattle.rolled_records.proofs.rolling.set_entry.Goals as goal

pub returns-in-Ok-None-clause-set : goal.returns-in-Ok-None-clause-set
returns-in-Ok-None-clause-set g c = of_content c.args.store.now.current (λ x none. none_here c.args.images.now c.args.position c.entry_at.new.image c.args.map.now c.args.map.now x none) (rw c.in-Ok-None.field-0-is at c.in-Ok-None.ensures.entry)

pub returns-in-Ok-Some-clause-set : goal.returns-in-Ok-Some-clause-set
returns-in-Ok-Some-clause-set g c = on_ok c.set_change.result (sets_read c.args.images.now c.args.position _ _ _ c.entry_at.new.image c.args.map.now c.set_change.new.map c.args.store.now.current c.in-Ok-Some.field-0-is c.in-Ok-Some.ensures.entry) c.set_change.ensures.set

pub returns-in-Ok-Some-clause-err : goal.returns-in-Ok-Some-clause-err
returns-in-Ok-Some-clause-err g c = memory_fails c.set_change.result c.args.store.now c.entry_at.new.store (stays_read c.args.store.now c.args.store.now c.entry_at.new.store (stays_so c.args.store.now) _ c.in-Ok-Some.ensures.ok) c.set_change.ensures.err
