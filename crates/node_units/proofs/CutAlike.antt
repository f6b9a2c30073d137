-- What refuses a truncation once no lock does, by the head of a sequential file and as the world says it.
use Rattle.std.proofs.Common.{◌≡◌, ℕ, ◌+◌, ◌≤◌, ◌==◌, ◌||◌, List, Bool, true, false, Option, None, length, nat_lt, refl, ◌∙◌, ap, arith}
use Rattle.std.specs.Prelude.{option_map}
use Rattle.std.proofs.lemmas.Bool.Decides.{nat_tests}
use Rattle.vms_model.specs.Limits.{change_limit}
use Rattle.file_base.specs.declared.head.FileHead.{FileHead}
use Rattle.file_base.specs.declared.head.Organization.{Organization as Kept}
use Rattle.file_base.specs.declared.head.Organization.TheVariants as kept
use Rattle.transcript_model.specs.Lines as line
use Rattle.vms_model.specs.Keys.{Key}
use Rattle.record_operations.specs.Causes.{Cause, Changes, RecordNotFound, cause_if, first_cause}
use Rattle.record_operations.specs.Forms as form
use Rattle.record_operations.specs.declared.ops.RecordOp.TheVariants as op
use Rattle.recovery_units.specs.run_model.Operations.{changes_of, count_of, data_refused, file_full, first_of, free_buckets, refused_if}
use Rattle.recovery_units.specs.run_model.World.{File}
use Rattle.script_model.specs.Statements.{Truncate}
use Rattle.unit_world.specs.directory_model.Files.{IsFile}
use Rattle.recovery_units.specs.Calls.{cause_line, position_line}
use Rattle.recovery_units.proofs.FormLemmas.{line_if, lines_first}
use Rattle.rms_units.specs.key_changes.Keys.{change_in, position_by}
use Rattle.rms_units.specs.Truncating.{number_refused}
use Rattle.rms_units.specs.unit_cuts.Truncating.{removed_from}
use Rattle.rms_units.proofs.unit_cuts.CutLemmas.{removed_lies}
use Rattle.node_units.proofs.AskedCut.{data_alike, many_alike}

module _ (content : List (List ℕ)) (h : FileHead) (file : File) (is : IsFile content h file) (sequential : h.organization ≡ kept.Sequential) (from : ℕ) where
  -- no record is there, or too many go
  pub number_alike : option_map cause_line (number_refused 0 (removed_from h.count from))
      ≡ first_of (data_refused file (Truncate from)) (refused_if (nat_lt change_limit (length (changes_of file (Truncate from)))) (line.QuotaExceeded line.Changes change_limit))
  number_alike =
      lines_first (cause_if (removed_from h.count from == 0) RecordNotFound) (cause_if (nat_lt 1024 (0 + removed_from h.count from)) Changes)
      ∙ ap (λ o. first_of o (option_map cause_line (cause_if (nat_lt 1024 (0 + removed_from h.count from)) Changes))) (data_alike content h file is sequential from)
      ∙ go (nat_lt from 1) refl
    where
      go : (b : Bool) → nat_lt from 1 ≡ b → first_of (refused_if (b || nat_lt (count_of file) from) line.RecordNotFound) (option_map cause_line (cause_if (nat_lt 1024 (0 + removed_from h.count from)) Changes))
          ≡ first_of (refused_if (b || nat_lt (count_of file) from) line.RecordNotFound) (refused_if (nat_lt change_limit (length (changes_of file (Truncate from)))) (line.QuotaExceeded line.Changes change_limit))
      go true e = refl
      go false e =
          let one : 1 ≤ from = grind (arith, nat_tests) in
          let many : 0 + removed_from h.count from ≡ length (changes_of file (Truncate from)) = (let same = many_alike content h file is sequential from one in omega (arith, same)) in
          ap (first_of (refused_if (nat_lt (count_of file) from) line.RecordNotFound)) (line_if (nat_lt 1024 (0 + removed_from h.count from)) Changes ∙ ap (λ k. refused_if (nat_lt 1024 k) (line.QuotaExceeded line.Changes change_limit)) many)

  -- it wants no bucket
  pub cut_room : file_full file (Truncate from) ≡ None
  cut_room = let off : nat_lt (free_buckets file) 0 ≡ false = grind (arith, nat_tests) in ap (λ t. refused_if t (line.FileFull (free_buckets file) 0)) off

  -- Where nothing refuses it, there are changes.
  pub cut_some : number_refused 0 (removed_from h.count from) ≡ None → (1 ≤ from) × (1 ≤ length (changes_of file (Truncate from)))
  cut_some none =
      let some : 1 ≤ removed_from h.count from = (let off = there (removed_from h.count from == 0) (cause_if (nat_lt 1024 (0 + removed_from h.count from)) Changes) none in grind (arith, nat_tests)) in
      let one = (removed_lies h.count from some).0 in
      (one, (let same = many_alike content h file is sequential from one in omega (arith, same, some)))
    where
      there : (b : Bool) (rest : Option Cause) → first_cause (cause_if b RecordNotFound) rest ≡ None → b ≡ false
      there true rest e = let never : ⊥ = cc in absurd never
      there false rest e = refl

-- it is answered without a position
pub cut_answers : (o : Kept) (key : Key) → line.RecordNormal ≡ position_line (position_by o (change_in (op.Truncate 0 0)) key)
cut_answers kept.Sequential key = refl
cut_answers kept.Relative key = refl
cut_answers kept.Indexed key = refl

-- only a sequential file is truncated
pub is_sequential : (h : FileHead) → form.truncate_refused h ≡ None → h.organization ≡ kept.Sequential
is_sequential h none = go h.organization refl none
  where
    go : (o : Kept) → h.organization ≡ o → form.truncate_refused_by o ≡ None → h.organization ≡ kept.Sequential
    go kept.Sequential e k = e
    go kept.Relative e k = let never : ⊥ = cc in absurd never
    go kept.Indexed e k = let never : ⊥ = cc in absurd never
