use Rattle.std.proofs.Common.{◌≡◌, ◌+◌, drop}
use Rattle.journal_format.specs.journal_model.Ring.{put_bytes}
use Rattle.journal_store.proofs.appending.overlay.Given as goal

abbrev pub invariant-loop-i : goal.invariant-loop-i
invariant-loop-i l = put_bytes (l.at + l.i) (drop l.i l.bytes) l.block ≡ put_bytes l.at l.bytes l.fn.block
