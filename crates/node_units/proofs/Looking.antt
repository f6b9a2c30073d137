-- A read that was refused, or in which the disk went down, is so in the world.
use Rattle.std.proofs.Common.{◌≡◌, ◌⊎◌, ℕ, List, Option, Some, None, refl, sym, ◌∙◌, ap, inl, inr}
use Rattle.std.specs.Prelude.{option_map}
use Rattle.careful_write.specs.declared.down.Down.{Down}
use Rattle.file_base.specs.declared.head.FileHead.{FileHead}
use Rattle.transcript_model.specs.Lines.{Line}
use Rattle.vms_model.specs.Ids.{Id}
use Rattle.vms_base.specs.Ids.{serial_of}
use Rattle.vms_base.specs.Keys.{key_of}
use Rattle.record_locks.specs.Locks as table
use Rattle.record_operations.specs.Asking.{read_file_in}
use Rattle.record_operations.specs.Causes as cause
use Rattle.record_operations.specs.Causes.{Cause, IfRefused, cause_of, first_cause}
use Rattle.record_operations.specs.declared.errors.RecErr.{RecErr}
use Rattle.record_operations.specs.declared.errors.RecErr.TheVariants as err
use Rattle.record_operations.specs.declared.ops.ReadOp.{ReadOp}
use Rattle.record_operations.specs.declared.ops.ReadOp.TheVariants as read
use Rattle.volume_files.specs.record_files.Any.{map_of}
use Rattle.recovery_units.specs.run_model.Answers.{found_refused, held_against, keys_refused}
use Rattle.recovery_units.specs.run_model.Locks.{holder}
use Rattle.recovery_units.specs.run_model.Operations as said
use Rattle.recovery_units.specs.run_model.Operations.{at_end, first_of, key_found, keys_asked, record_in}
use Rattle.recovery_units.specs.run_model.World.{File, Node}
use Rattle.unit_world.specs.directory_model.Files.{IsFile, head_at}
use Rattle.unit_world.proofs.directory_model.Reading.{reads_files}
use Rattle.recovery_units.specs.Calls.{cause_line, read_said}
use Rattle.recovery_units.specs.State.{AreLocks}
use Rattle.recovery_units.proofs.FormLemmas.{lines_first}
use Rattle.rms_units.specs.key_changes.Changing as rms
use Rattle.rms_units.specs.Reading.{FindsNone, missing}
use Rattle.node_units.proofs.Locking.{AreOnce}
use Rattle.node_units.proofs.Refusing.{held_by}

-- an answer is a refusal, or tells that the disk went down
pub refused_cases : (e : RecErr) (P : Cause → Type 0) (Q : Down → Type 0) → IfRefused e P Q → ((c : Cause) × (cause_of e ≡ Some c) × P c) ⊎ ((down : Down) × (cause_of e ≡ None) × Q down)
refused_cases err.BadParameter P Q h = inl (cause.BadParameter, refl, h)
refused_cases err.BadOperation P Q h = inl (cause.BadOperation, refl, h)
refused_cases err.BadRecordNumber P Q h = inl (cause.BadRecordNumber, refl, h)
refused_cases err.BadRecordSize P Q h = inl (cause.BadRecordSize, refl, h)
refused_cases err.NotForUnits P Q h = inl (cause.NotForUnits, refl, h)
refused_cases err.NeedsUnit P Q h = inl (cause.NeedsUnit, refl, h)
refused_cases (err.Locked by) P Q h = inl (cause.Locked (serial_of by), refl, h)
refused_cases err.RecordExists P Q h = inl (cause.RecordExists, refl, h)
refused_cases err.KeyExists P Q h = inl (cause.KeyExists, refl, h)
refused_cases err.RecordNotFound P Q h = inl (cause.RecordNotFound, refl, h)
refused_cases err.EndOfFile P Q h = inl (cause.EndOfFile, refl, h)
refused_cases err.KeyChanged P Q h = inl (cause.KeyChanged, refl, h)
refused_cases err.Changes P Q h = inl (cause.Changes, refl, h)
refused_cases err.Locks P Q h = inl (cause.Locks, refl, h)
refused_cases (err.FileFull free need) P Q h = inl (cause.FileFull free need, refl, h)
refused_cases (err.JournalFull free need) P Q h = inl (cause.JournalFull free need, refl, h)
refused_cases (err.AfterImagesFull free need) P Q h = inl (cause.AfterImagesFull free need, refl, h)
refused_cases (err.BeforeImagesFull free need) P Q h = inl (cause.BeforeImagesFull free need, refl, h)
refused_cases (err.Down down) P Q h = inr (down, refl, h)

-- Several refusals.

pub first_some : (a b : Option Line) (l : Line) → a ≡ Some l → first_of a b ≡ Some l
first_some a b l is = ap (λ o. first_of o b) is

pub first_again : (a b c : Option Line) → first_of a (first_of b c) ≡ first_of (first_of a b) c
first_again (Some l) b c = refl
first_again None b c = refl

-- a key that is asked for, and what is found then
either_one : (h d rest : Option Line) (l : Line) → first_of h d ≡ Some l → first_of (first_of h None) (first_of d rest) ≡ Some l
either_one (Some k) d rest l is = is
either_one None (Some k) rest l is = is
either_one None None rest l is = let never : ⊥ = cc in absurd never

missing_alike : (o : Option (List ℕ)) → option_map cause_line (missing o) ≡ said.missing o
missing_alike None = refl
missing_alike (Some bytes) = refl

module _ (heads : List (Option FileHead)) (once : AreOnce heads) (f : ℕ) (h : FileHead) (there : head_at heads f ≡ Some h) (n : Node) (ls : List table.Lock) (are : AreLocks heads ls n.volatile.locks) (content : List (List ℕ)) (file : File)
    (is_file : IsFile content h file) (asking : Option Id) where
  pub finds_none : (op : ReadOp) (why : Cause) → read_file_in op ≡ f → FindsNone op asking ls why (map_of h content) → first_of (keys_refused n asking h.name (keys_asked file (read_said op))) (found_refused n asking h.name (read_said op) file) ≡ Some (cause_line why)
  finds_none (read.Get g asked) why same none =
      let key = key_of asked in
      let held = ap (λ k. option_map cause_line (rms.held_against asking (table.holder ls k key))) same ∙ held_by heads once f h there n ls are asking key in
      let stands = missing_alike (map_of h content key) ∙ ap said.missing (sym (is_file.records key)) in
      either_one (held_against asking (holder n.volatile.locks h.name key)) (said.missing (record_in file key)) None (cause_line why)
      ((λ i. first_of (sym held i) (sym stands i)) ∙ sym (lines_first (rms.held_against asking (table.holder ls g key)) (missing (map_of h content key))) ∙ ap (option_map cause_line) none)
  finds_none (read.Next g after) why same (inl ends) =
      let last = reads_files.end content h file (option_map key_of after) is_file ends.0 in
      ap (λ o. first_of (at_end o) (keys_refused n asking h.name (key_found o))) last ∙ ap (λ c. Some (cause_line c)) (sym ends.1)
  finds_none (read.Next g after) why same (inr next) =
      let key = next.0 in
      let found = reads_files.next content h file (option_map key_of after) key next.1 is_file next.2 in
      let held = sym (held_by heads once f h there n ls are asking key) ∙ ap (option_map cause_line) (ap (λ k. rms.held_against asking (table.holder ls k key)) (sym same) ∙ next.3) in
      ap (λ o. first_of (at_end o) (keys_refused n asking h.name (key_found o))) found ∙ first_some (held_against asking (holder n.volatile.locks h.name key)) None (cause_line why) held
