use Rattle.std.proofs.Common.{◌+◌, ap, ◌∙◌}
use Rattle.image_journals.specs.Headers.{is_among}
use Rattle.image_journals.proofs.CommitLemmas.{place_next}
use Rattle.image_journals.proofs.places.places_among.Goals as goal

pub loop-entry-preserved : goal.loop-entry-preserved
loop-entry-preserved c = (
  ap (λ n. n + 1) c.loop-entry.invariant.0,
  place_next (λ s. is_among s c.args.found.now.keys) c.args.entries.now c.loop-entry.entry-index c.loop-entry.place c.entry-item.result c.loop-entry.places.items c.put_place.new.places.items
      c.loop-entry-test.true c.entry-item.is c.loop-entry.invariant.0 c.in_ok-put_place.ensures ∙ c.loop-entry.invariant.1,
)
