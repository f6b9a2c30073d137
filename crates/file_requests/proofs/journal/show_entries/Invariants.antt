use Rattle.std.proofs.Common.{◌≡◌, ◌-◌, ℕ, List, Some}
use Rattle.emitter_model.specs.Emitting.{Since}
use Rattle.file_images.specs.unit_laws.Journal.{Journal}
use Rattle.node_standing.specs.node_table.Code.{stored_of}
use Rattle.file_requests.specs.Replying.{ShowsQuietly}
use Rattle.file_requests.specs.Listing.{HasShowable}
use Rattle.file_requests.specs.Serving.{SameStored}
use Rattle.file_requests.proofs.JournalShown.{HasShown}
use Rattle.file_requests.proofs.journal.show_entries.Given as goal

abbrev pub invariant-loop-position : goal.invariant-loop-position
invariant-loop-position g l = record {
  same : SameStored (stored_of g.U.RecoveryUnits.state l.fn.stored) (stored_of g.U.RecoveryUnits.state l.stored);
  place : g.E.Emit.place l.out ≡ g.E.Emit.place l.fn.out;
  since : Since (g.E.Emit.shows l.fn.out) (g.E.Emit.shows l.out);
  quiet : ShowsQuietly (g.E.Emit.shows l.fn.out) (g.E.Emit.shows l.out);
  shows : (content : List (List ℕ)) (j : Journal) → l.fn.stored.volume.store.current ≡ Some content → HasShowable l.fn.stored.volume l.fn.span content j → HasShown j l.position (g.E.Emit.shows l.fn.out) (g.E.Emit.shows l.out);
}

abbrev pub decreases-loop-position : goal.decreases-loop-position
decreases-loop-position g l = l.fn.span.end - l.position
