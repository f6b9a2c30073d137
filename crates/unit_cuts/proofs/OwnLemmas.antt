-- The settlement of a change of one file alone.
use Rattle.std.proofs.Common.{◌≡◌, ◌≢◌, ℕ, zero, suc, ◌+◌, ◌*◌, ◌<◌, ◌≤◌, Bool, true, false, List, ◌∷◌, length, replicate, slice_set, refl, sym, ap, subst, ◌∙◌, arith, inl, inr, get_or-set_other}
use Rattle.std.specs.Prelude.{slice_index_or}
use Rattle.std.proofs.lemmas.Bool.{cases_eq}
use Rattle.journal_format.proofs.Decoding.{total_is}
use Rattle.journal_model.specs.Entries.{IsEntry, spelling}
use Rattle.image_appends.specs.Settling.{files_in}
use Rattle.kept_files.specs.Own.{only}
use Rattle.unit_journal.specs.Entries.{settled_entry}
use Rattle.unit_table.specs.Units.{no_files}
use Rattle.vms_model.specs.Ids.{Id}
use Rattle.vms_model.specs.Transactions.{Outcome}

none_in : (n g : ℕ) → slice_index_or (replicate n false) g false ≡ false
none_in zero g = refl
none_in (suc n) zero = refl
none_in (suc n) (suc g) = none_in n g

-- it is that file
pub only_of : (file g : ℕ) → slice_index_or (only file) g false ≡ true → g ≡ file
only_of file g is = elim (cases_eq g file) [
  | inl same ↦ same
  | inr apart ↦ (let no : false ≡ true = sym (get_or-set_other no_files file g true false apart ∙ none_in 64 g) ∙ is in let no_way : ⊥ = cc in absurd no_way)
]

count_none : (n : ℕ) → files_in (replicate n false) ≡ 0
count_none zero = refl
count_none (suc n) = let rest = count_none n in let e : files_in (false ∷ replicate n false) ≡ 0 = omega (arith, rest) in e

count_one : (n file : ℕ) → files_in (slice_set (replicate n false) file true) ≤ 1
count_one zero file = omega arith
count_one (suc n) zero = let none = count_none n in let e : files_in (true ∷ replicate n false) ≤ 1 = omega (arith, none) in e
count_one (suc n) (suc file) = let rest = count_one n file in let e : files_in (false ∷ slice_set (replicate n false) file true) ≤ 1 = omega (arith, rest) in e

pub one_file : (file : ℕ) → files_in (only file) ≤ 1
one_file file = count_one 64 file

-- the bytes of its entry
pub settled_long : (tid serial : Id) (outcome : Outcome) (moment : ℕ) → IsEntry (settled_entry tid serial outcome moment) → length (spelling (settled_entry tid serial outcome moment)) ≡ 48
settled_long tid serial outcome moment is = total_is (settled_entry tid serial outcome moment) is
