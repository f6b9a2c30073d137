use Rattle.std.proofs.Common.{◌≡◌, ◌≤◌, ◌-◌, Some, IfSome, ℕ, List}
use Rattle.std.specs.Prelude.{option_map}
use Rattle.std.specs.FinMap.{get}
use Rattle.emitter_model.specs.Emitting.{Since}
use Rattle.vms_model.specs.Keys.{Key}
use Rattle.vms_base.specs.Keys.{key_of}
use Rattle.records_model.specs.Records.{Records}
use Rattle.file_images.specs.record_files.Any.{Begins, IsFile, IsLaidOut, map_of}
use Rattle.directory_model.specs.Files.{IsShown}
use Rattle.node_standing.specs.node_table.Code.{stored_of}
use Rattle.file_requests.specs.Replying.{ShowsQuietly}
use Rattle.file_requests.specs.Serving.{SameStored}
use Rattle.file_requests.proofs.Dumping.{ShowsSome}
use Rattle.file_requests.proofs.files.show_records.Given as goal

abbrev pub invariant-loop-count : goal.invariant-loop-count
invariant-loop-count g l = record {
  same : SameStored (stored_of g.U.RecoveryUnits.state l.fn.stored) (stored_of g.U.RecoveryUnits.state l.stored);
  place : g.E.Emit.place l.out ≡ g.E.Emit.place l.fn.out;
  since : Since (g.E.Emit.shows l.fn.out) (g.E.Emit.shows l.out);
  quiet : ShowsQuietly (g.E.Emit.shows l.fn.out) (g.E.Emit.shows l.out);
  most : l.count ≤ 4294967295;
  begins : IfSome l.fn.stored.volume.store.current (λ content. IsFile l.head → IsLaidOut l.head content → Begins l.head content (option_map key_of l.after) l.place);
  shows : (content : List (List ℕ)) (m : Records) → l.fn.stored.volume.store.current ≡ Some content → IsFile l.head → IsLaidOut l.head content → ((k : Key) → get m k ≡ map_of l.head content k) →
      IsShown m l.count (option_map key_of l.after) × ShowsSome m l.count (g.E.Emit.shows l.fn.out) (g.E.Emit.shows l.out);
}

abbrev pub decreases-loop-count : goal.decreases-loop-count
decreases-loop-count g l = 4294967295 - l.count
