-- Words that stand for no key, and how operations are answered.
use Rattle.std.proofs.Common.{◌≡◌, ℕ, ◌≤◌, List, Bool, true, false, Some, length, refl, ap, ◌∙◌, arith}
use Rattle.std.specs.Prelude.{◌==◌, not}
use Rattle.std.proofs.lemmas.Bool.{eqb-true}
use Rattle.file_base.specs.declared.head.FileHead.{FileHead}
use Rattle.file_base.specs.declared.head.Organization.{Organization as Kept}
use Rattle.file_base.specs.declared.head.Organization.TheVariants as kept
use Rattle.file_images.specs.record_files.Any.{FormBy}
use Rattle.emitter_model.specs.transcript_model.Lines as line
use Rattle.emitter_model.specs.transcript_model.Lines.{Line}
use Rattle.vms_model.specs.Keys.{Key, Text}
use Rattle.script_lang.specs.script_model.Statements.{Update, Delete, Get, Next}
use Rattle.file_images.specs.run_model.World.{File}
use Rattle.file_images.specs.run_model.Operations.{first_of, key_refused, refused_if, delete_refused, size_refused}
use Rattle.directory_model.specs.Files.{IsHeadOf, organized_by}
use Rattle.file_requests.specs.Asking.{IsUnkeyed}

unlike : (m n : ℕ) → (m ≡ n → ⊥) → (m == n) ≡ false
unlike m n other = go (m == n) refl
  where
    go : (b : Bool) → (m == n) ≡ b → b ≡ false
    go true e = absurd (other (eqb-true m n e))
    go false e = refl

-- bytes that no key has
bad_by : (o : Kept) (h : FileHead) (bytes : List ℕ) → FormBy o h → (1 ≤ length bytes → length bytes ≤ 64 → ⊥) → key_refused (organized_by o h) (Text bytes) ≡ Some line.BadParameter
bad_by kept.Sequential h bytes form none = refl
bad_by kept.Relative h bytes form none = refl
bad_by kept.Indexed h bytes form none =
    let one = form.keys.key in
    let most = form.keys.short in
    ap (λ (b : Bool). refused_if (not b) line.BadParameter) (unlike (length bytes) h.key_size (λ e. none (omega (arith, e, one)) (omega (arith, e, most))))

pub bad_key : (h : FileHead) (file : File) (key : Key) (bytes : List ℕ) → IsHeadOf h file → key ≡ Text bytes → (1 ≤ length bytes → length bytes ≤ 64 → ⊥) → key_refused file.organization key ≡ Some line.BadParameter
bad_key h file key bytes is e none =
    (λ i. key_refused (is.organization i) (e i)) ∙ bad_by h.organization h bytes is.form none

pub update_unkeyed : (key : Key) (bytes record_bytes : List ℕ) → key ≡ Text bytes → (1 ≤ length bytes → length bytes ≤ 64 → ⊥) → IsUnkeyed (Update key record_bytes)
update_unkeyed key bytes record_bytes e none h file is = ap (λ o. first_of o (size_refused file record_bytes)) (bad_key h file key bytes is e none)

pub delete_unkeyed : (key : Key) (bytes : List ℕ) → key ≡ Text bytes → (1 ≤ length bytes → length bytes ≤ 64 → ⊥) → IsUnkeyed (Delete key)
delete_unkeyed key bytes e none h file is = ap (λ o. first_of o (delete_refused file.organization)) (bad_key h file key bytes is e none)

pub get_unkeyed : (key : Key) (bytes : List ℕ) → key ≡ Text bytes → (1 ≤ length bytes → length bytes ≤ 64 → ⊥) → IsUnkeyed (Get key)
get_unkeyed key bytes e none h file is = bad_key h file key bytes is e none

pub next_unkeyed : (key : Key) (bytes : List ℕ) → key ≡ Text bytes → (1 ≤ length bytes → length bytes ≤ 64 → ⊥) → IsUnkeyed (Next (Some key))
next_unkeyed key bytes e none h file is = bad_key h file key bytes is e none
