use Rattle.image_laws.proofs.unit_entries.StoreLemmas.{of_any, of_content}
use Rattle.rolled_records.proofs.RollLemmas.{behind_there, get_some, on_ok, set_there}
use Rattle.rolled_records.proofs.rolling.set_at.Goals as goal

pub returns-then-images-position-clause-set : goal.returns-then-images-position-clause-set
returns-then-images-position-clause-set g c = of_any c.args.store.now.current (λ x. behind_there c.args.images.now c.args.positions.now c.args.place _ c.args.map.now x (get_some c.args.positions.now c.args.place c.if-positions-n.false) c.if-images-position.true)

pub returns-clause-set : goal.returns-clause-set
returns-clause-set g c = on_ok c.set_entry.result (of_content c.args.store.now.current (λ x sets. set_there c.args.images.now c.args.positions.now c.args.place _ c.args.map.now c.set_entry.new.map x (get_some c.args.positions.now c.args.place c.if-positions-n.false) sets)) c.set_entry.ensures.set
