-- Refusals by causes, and as the world says them.
use Rattle.std.proofs.Common.{◌≡◌, ℕ, ◌+◌, List, [], ◌∷◌, Bool, true, false, not, Option, Some, None, length, nat_lt, refl, sym, ◌∙◌, ap, if◌then◌else◌}
use Rattle.std.specs.Prelude.{option_map}
use Rattle.vms_model.specs.Limits.{lock_limit}
use Rattle.file_base.specs.declared.head.FileHead.{FileHead}
use Rattle.transcript_model.specs.Lines as line
use Rattle.transcript_model.specs.Lines.{Line}
use Rattle.vms_model.specs.Ids.{Id}
use Rattle.vms_model.specs.Keys.{Key}
use Rattle.records_model.specs.History.{same_id}
use Rattle.record_locks.specs.Locks as table
use Rattle.record_operations.specs.Causes.{Locked, Locks, NotForUnits, cause_if}
use Rattle.recovery_units.specs.run_model.Answers.{held_against, is_marked, keys_refused, more_locks}
use Rattle.recovery_units.specs.run_model.Operations.{first_of, refused_if}
use Rattle.recovery_units.specs.run_model.Locks.{holder}
use Rattle.recovery_units.specs.run_model.World.{File, Node}
use Rattle.unit_world.specs.directory_model.Files.{IsHeadOf, head_at}
use Rattle.recovery_units.specs.Calls.{cause_line}
use Rattle.recovery_units.specs.State.{AreLocks}
use Rattle.recovery_units.proofs.FormLemmas.{line_if, lines_first}
use Rattle.rms_units.specs.key_changes.Changing as rms
use Rattle.node_units.proofs.Locking.{AreOnce, holder_alike, many_alike, not_locked_alike}

pub held_alike : (asking holder : Option Id) → option_map cause_line (rms.held_against asking holder) ≡ held_against asking holder
held_alike None None = refl
held_alike (Some serial) None = refl
held_alike None (Some by) = refl
held_alike (Some serial) (Some by) = go (same_id serial by)
  where
    go : (t : Bool) → option_map cause_line (if t then None else Some (Locked by)) ≡ refused_if (not t) (line.RecordLocked by)
    go true = refl
    go false = refl

pub marked_alike : (h : FileHead) (file : File) → IsHeadOf h file → option_map cause_line (cause_if (not h.marks.ru) NotForUnits) ≡ is_marked file
marked_alike h file is = line_if (not h.marks.ru) NotForUnits ∙ ap (λ (b : Bool). refused_if (not b) line.NotForUnits) (sym is.units)

module _ (heads : List (Option FileHead)) (once : AreOnce heads) (f : ℕ) (h : FileHead) (there : head_at heads f ≡ Some h) (n : Node) (ls : List table.Lock) (are : AreLocks heads ls n.volatile.locks) where
  pub held_by : (asking : Option Id) (key : Key) → option_map cause_line (rms.held_against asking (table.holder ls f key)) ≡ held_against asking (holder n.volatile.locks h.name key)
  held_by asking key = held_alike asking (table.holder ls f key) ∙ ap (held_against asking) (sym (holder_alike heads once f h there ls n.volatile.locks key are))

  pub locks_alike : (asking : Option Id) (ks : List Key) → option_map cause_line (rms.locks_refuse asking f ks ls) ≡ keys_refused n asking h.name ks
  locks_alike asking [] = refl
  locks_alike asking (k ∷ ks) = lines_first _ _ ∙ (λ i. first_of (held_by asking k i) (locks_alike asking ks i))

  pub more_alike : (ks : List Key) → option_map cause_line (rms.keys_refused f ks ls) ≡ more_locks n h.name ks
  more_alike ks =
      line_if (nat_lt 4096 (length ls + length (table.not_locked ls f ks))) Locks
      ∙ (λ i. refused_if (nat_lt lock_limit (sym (many_alike heads ls n.volatile.locks are) i + length (sym (not_locked_alike heads once f h there ls n.volatile.locks ks are) i))) (line.QuotaExceeded line.Locks lock_limit))
