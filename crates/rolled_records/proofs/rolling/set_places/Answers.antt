use Rattle.std.proofs.Common.{◌+◌}
use Rattle.image_laws.proofs.unit_entries.StoreLemmas.{stays_so, stays_read, ring_stays, of_any, of_content}
use Rattle.rolled_records.proofs.RollLemmas.{none_set, next_set, all_set, fails_later}
use Rattle.rolled_records.proofs.rolling.set_places.Goals as goal

pub loop-place-init : goal.loop-place-init
loop-place-init g c = record {
  stays = stays_so c.args.store.now;
  far = of_any c.args.store.now.current (none_set c.args.images.now c.args.positions.now c.args.places.now c.args.map.now);
}

pub set_at-requires : goal.set_at-requires
set_at-requires g c = record { ring = ring_stays c.args.store.now c.loop-place.store c.loop-place.invariant.stays c.args.images.now.span c.requires.ring }

pub loop-place-preserved : goal.loop-place-preserved
loop-place-preserved g c = record {
  stays = stays_read c.args.store.now c.loop-place.store c.set_at.new.store c.loop-place.invariant.stays tt c.in-Ok.ensures.ok;
  far = next_set c.args.images.now c.args.positions.now c.args.places.now c.loop-place.place-index c.args.map.now c.loop-place.map c.set_at.new.map c.loop-place.store.current c.args.store.now.current c.loop-place.invariant.stays.current c.loop-place-test.true
      c.loop-place.invariant.far c.in-Ok.ensures.set;
}

pub returns-in-Err-clause-err : goal.returns-in-Err-clause-err
returns-in-Err-clause-err g c = fails_later c.in-Err.e c.args.store.now c.loop-place.store c.set_at.new.store c.loop-place.invariant.stays c.in-Err.ensures.err

pub returns-clause-set : goal.returns-clause-set
returns-clause-set g c = of_content c.args.store.now.current (λ x far. all_set c.args.images.now c.args.positions.now c.args.places.now c.loop-place.place-index c.args.map.now c.loop-place.map x c.loop-place-test.false far) c.loop-place.invariant.far
