-- Refusals by a head, and by the file that it is the head of.
use Rattle.std.proofs.Common.{◌≡◌, ℕ, List, Bool, true, false, Option, Some, None, length, refl, sym, ap, ◌∙◌}
use Rattle.std.specs.Prelude.{option_map, ◌||◌, nat_lt}
use Rattle.journal_model.specs.file_base.declared.head.FileHead.{FileHead}
use Rattle.journal_model.specs.file_base.declared.head.Organization.{Organization as Kept}
use Rattle.journal_model.specs.file_base.declared.head.Organization.TheVariants as kept
use Rattle.volume_model.specs.transcript_model.Lines as line
use Rattle.vms_model.specs.Keys.{Key, Number, Text, End}
use Rattle.vms_base.specs.Keys.{key_of}
use Rattle.record_operations.specs.Causes.{Cause, cause_if, first_cause, BadRecordSize}
use Rattle.record_operations.specs.Forms as form
use Rattle.record_operations.specs.Asking.{written}
use Rattle.record_operations.specs.declared.ops.RecordOp.{RecordOp}
use Rattle.record_operations.specs.declared.ops.RecordOp.TheVariants as change
use Rattle.record_operations.specs.declared.ops.ReadOp.{ReadOp}
use Rattle.record_operations.specs.declared.ops.ReadOp.TheVariants as read
use Rattle.volume_model.specs.run_model.World.{File}
use Rattle.volume_model.specs.run_model.Operations.{first_of, refused_if, key_refused, place_refused, least_size, size_refused, delete_refused, truncate_refused, after_refused, form_refused}
use Rattle.volume_model.specs.directory_model.Files.{IsHeadOf, organized_by}
use Rattle.recovery_units.specs.Calls.{IsNumber, IsNumbered, cause_line, change_said, number_of, read_said}
use Rattle.recovery_units.specs.Laws.{FormsRefuseAlike}

pub line_if : (b : Bool) (c : Cause) → option_map cause_line (cause_if b c) ≡ refused_if b (cause_line c)
line_if true c = refl
line_if false c = refl

pub lines_first : (a b : Option Cause) → option_map cause_line (first_cause a b) ≡ first_of (option_map cause_line a) (option_map cause_line b)
lines_first (Some c) b = refl
lines_first None b = refl

key_by : (o : Kept) (h : FileHead) (key : Key) → option_map cause_line (form.key_refused_by o h key) ≡ key_refused (organized_by o h) key
key_by kept.Sequential h (Number n) = refl
key_by kept.Sequential h (Text bytes) = refl
key_by kept.Sequential h End = refl
key_by kept.Relative h (Number n) = line_if _ _
key_by kept.Relative h (Text bytes) = refl
key_by kept.Relative h End = refl
key_by kept.Indexed h (Number n) = refl
key_by kept.Indexed h (Text bytes) = line_if _ _
key_by kept.Indexed h End = refl

key_is : (h : FileHead) (file : File) (key : Key) → IsHeadOf h file → option_map cause_line (form.key_refused h key) ≡ key_refused file.organization key
key_is h file key is = key_by h.organization h key ∙ ap (λ o. key_refused o key) (sym is.organization)

place_by : (o : Kept) (h : FileHead) (key : Option Key) → h.organization ≡ o → IsNumber key → option_map cause_line (form.place_refused_by o h key) ≡ place_refused (organized_by o h) (number_of key)
place_by kept.Sequential h None e number = refl
place_by kept.Sequential h (Some (Number n)) e number = refl
place_by kept.Sequential h (Some (Text bytes)) e number = absurd number
place_by kept.Sequential h (Some End) e number = absurd number
place_by kept.Relative h None e number = refl
place_by kept.Relative h (Some (Number n)) e number = key_by h.organization h (Number n) ∙ ap (λ o. key_refused (organized_by o h) (Number n)) e
place_by kept.Relative h (Some (Text bytes)) e number = absurd number
place_by kept.Relative h (Some End) e number = absurd number
place_by kept.Indexed h None e number = refl
place_by kept.Indexed h (Some (Number n)) e number = refl
place_by kept.Indexed h (Some (Text bytes)) e number = absurd number
place_by kept.Indexed h (Some End) e number = absurd number

least_by : (o : Kept) (h : FileHead) → form.least_size_by o h ≡ least_size (organized_by o h)
least_by kept.Sequential h = refl
least_by kept.Relative h = refl
least_by kept.Indexed h = refl

size_is : (h : FileHead) (file : File) (bytes : List ℕ) → IsHeadOf h file → option_map cause_line (form.size_refused h (length bytes)) ≡ size_refused file bytes
size_is h file bytes is =
    let least = least_by h.organization h ∙ ap least_size (sym is.organization) in
    line_if (nat_lt (length bytes) (form.least_size h) || nat_lt h.mrs (length bytes)) BadRecordSize
    ∙ (λ i. refused_if (nat_lt (length bytes) (least i) || nat_lt (sym is.record_size i) (length bytes)) line.BadRecordSize)

delete_by : (o : Kept) (h : FileHead) → option_map cause_line (form.delete_refused_by o) ≡ delete_refused (organized_by o h)
delete_by kept.Sequential h = refl
delete_by kept.Relative h = refl
delete_by kept.Indexed h = refl

truncate_by : (o : Kept) (h : FileHead) → option_map cause_line (form.truncate_refused_by o) ≡ truncate_refused (organized_by o h)
truncate_by kept.Sequential h = refl
truncate_by kept.Relative h = refl
truncate_by kept.Indexed h = refl

changes : (h : FileHead) (file : File) (op : RecordOp) (bytes : List ℕ) → IsHeadOf h file → IsNumbered op → option_map cause_line (form.form_refused h op (length (written op bytes))) ≡ form_refused file (change_said op bytes)
changes h file (change.Put f key) bytes is number =
    let place = place_by h.organization h (option_map key_of key) refl number ∙ ap (λ o. place_refused o (number_of (option_map key_of key))) (sym is.organization) in
    lines_first _ _ ∙ (λ i. first_of (place i) (size_is h file bytes is i))
changes h file (change.Update f key) bytes is number = lines_first _ _ ∙ (λ i. first_of (key_is h file (key_of key) is i) (size_is h file bytes is i))
changes h file (change.Delete f key) bytes is number =
    let delete = delete_by h.organization h ∙ ap delete_refused (sym is.organization) in
    lines_first _ _ ∙ (λ i. first_of (key_is h file (key_of key) is i) (delete i))
changes h file (change.Truncate f from) bytes is number = truncate_by h.organization h ∙ ap truncate_refused (sym is.organization)

after_is : (h : FileHead) (file : File) (after : Option Key) → IsHeadOf h file → option_map cause_line (form.after_refused h after) ≡ after_refused file.organization after
after_is h file None is = refl
after_is h file (Some key) is = key_is h file key is

reads : (h : FileHead) (file : File) (op : ReadOp) → IsHeadOf h file → option_map cause_line (form.read_form_refused h op) ≡ form_refused file (read_said op)
reads h file (read.Get f key) is = key_is h file (key_of key) is
reads h file (read.Next f after) is = after_is h file (option_map key_of after) is

pub forms : FormsRefuseAlike
forms = record { changes = changes; reads = reads }
