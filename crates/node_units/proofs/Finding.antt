-- What a read finds, as the world says it.
use Rattle.std.proofs.Common.{◌≡◌, ℕ, List, [], ◌∷◌, Option, Some, None, refl, sym, ◌∙◌, ap}
use Rattle.std.specs.Prelude.{option_map}
use Rattle.file_base.specs.declared.head.FileHead.{FileHead}
use Rattle.vms_model.specs.Ids.{Id}
use Rattle.vms_model.specs.Keys.{Key}
use Rattle.vms_base.specs.Keys.{key_of}
use Rattle.record_locks.specs.Locks as table
use Rattle.record_operations.specs.Asking.{read_file_in}
use Rattle.record_operations.specs.declared.ops.ReadOp.{ReadOp}
use Rattle.record_operations.specs.declared.ops.ReadOp.TheVariants as read
use Rattle.volume_files.specs.record_files.Any.{map_of}
use Rattle.recovery_units.specs.run_model.Answers.{found_refused, keys_refused}
use Rattle.recovery_units.specs.run_model.Operations.{at_end, first_of, found_answer, key_found, keys_asked, keys_held, missing, next_answer, operation_answer, record_in}
use Rattle.recovery_units.specs.run_model.World.{File, Node}
use Rattle.unit_world.specs.directory_model.Files.{IsFile, head_at}
use Rattle.unit_world.proofs.directory_model.Reading.{reads_files}
use Rattle.recovery_units.specs.Calls.{cause_line, read_said, record_line}
use Rattle.recovery_units.specs.State.{AreLocks}
use Rattle.rms_units.specs.key_changes.Changing as rms
use Rattle.rms_units.specs.Reading.{Finds}
use Rattle.node_units.proofs.Locking.{AreOnce}
use Rattle.node_units.proofs.Refusing.{held_by}

-- the world finds this record for a branch or for none, and no branch refuses it
pub record ReadsIn (n : Node) (asking : Option Id) (name : List ℕ) (file : File) (op : ReadOp) (key : Key) (bytes : List ℕ) : Type 0 where
  pub held : keys_held file (read_said op) ≡ key ∷ []
  pub asked : keys_refused n asking name (keys_asked file (read_said op)) ≡ None
  pub found : found_refused n asking name (read_said op) file ≡ None
  pub answers : operation_answer file (read_said op) ≡ record_line op key bytes

none_of : {A B : Type 0} (g : A → B) (o : Option A) (p : Option B) → option_map g o ≡ p → o ≡ None → p ≡ None
none_of g o p is none = sym is ∙ ap (option_map g) none

module _ (heads : List (Option FileHead)) (once : AreOnce heads) (f : ℕ) (h : FileHead) (there : head_at heads f ≡ Some h) (n : Node) (ls : List table.Lock) (are : AreLocks heads ls n.volatile.locks) (content : List (List ℕ)) (file : File)
    (is_file : IsFile content h file) (asking : Option Id) where
  key_free : (key : Key) → rms.held_against asking (table.holder ls f key) ≡ None → keys_refused n asking h.name (key ∷ []) ≡ None
  key_free key free = ap (λ o. first_of o None) (none_of cause_line (rms.held_against asking (table.holder ls f key)) _ (held_by heads once f h there n ls are asking key) free)

  pub reads_in : (op : ReadOp) (key : Key) (bytes : List ℕ) → read_file_in op ≡ f → Finds op asking ls key bytes (map_of h content) → ReadsIn n asking h.name file op key bytes
  reads_in (read.Get g asked) key bytes same finds =
      let at : record_in file (key_of asked) ≡ Some bytes = is_file.records (key_of asked) ∙ ap (map_of h content) (sym finds.0) ∙ finds.1 in
      record {
        held = ap (λ k. k ∷ []) (sym finds.0);
        asked = key_free (key_of asked) (ap (λ k. rms.held_against asking (table.holder ls k (key_of asked))) (sym same) ∙ ap (λ k. rms.held_against asking (table.holder ls g k)) (sym finds.0) ∙ finds.2);
        found = ap (λ o. first_of (missing o) None) at;
        answers = ap found_answer at;
      }
  reads_in (read.Next g after) key bytes same finds =
      let next = reads_files.next content h file (option_map key_of after) key bytes is_file finds.0 in
      record {
        held = ap key_found next;
        asked = refl;
        found = ap (λ o. first_of (at_end o) (keys_refused n asking h.name (key_found o))) next ∙ key_free key (ap (λ k. rms.held_against asking (table.holder ls k key)) (sym same) ∙ finds.1);
        answers = ap next_answer next;
      }
