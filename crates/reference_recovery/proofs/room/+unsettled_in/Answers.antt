use Rattle.std.proofs.Common.{sym, ◌∙◌}
use Rattle.std.specs.Prelude.{map}
use Rattle.reference_index.specs.recovery_model.File.{all_of}
use Rattle.reference_world.specs.Standing.{placed_of}
use Rattle.reference_recovery.proofs.RoomLemmas.{none_unsettled, one_unsettled}
use Rattle.reference_recovery.proofs.room.+unsettled_in.Goals as goal

pub returns-then-has_entry-clause-count : goal.returns-then-has_entry-clause-count
returns-then-has_entry-clause-count t c = one_unsettled (all_of (map placed_of c.args.all.now)) c.args.live.now c.l-item.result c.unsettled_in.result c.in-len1-up.len_at_least c.l-item.is (sym c.has_entry.ensures ∙ c.if-has_entry.true) c.unsettled_in.ensures.count

pub returns-else-has_entry-clause-count : goal.returns-else-has_entry-clause-count
returns-else-has_entry-clause-count t c = c.unsettled_in-else-has_entry.ensures.count ∙ none_unsettled (all_of (map placed_of c.args.all.now)) c.args.live.now c.l-item.result c.in-len1-up.len_at_least c.l-item.is (sym c.has_entry.ensures ∙ c.if-has_entry.false)
