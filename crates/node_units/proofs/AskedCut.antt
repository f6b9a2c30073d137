-- The truncation that is asked for, as the units say it and as the world does.
use Rattle.std.proofs.Common.{◌≡◌, ℕ, zero, suc, ◌+◌, ◌-◌, ◌<◌, ◌≤◌, ◌++◌, List, [], ◌∷◌, Bool, true, false, ◌&&◌, ◌||◌, if◌then◌else◌, length, map, drop, reverse, refl, sym, ◌∙◌, ap, arith, inl, inr, length-drop}
use Rattle.std.proofs.lemmas.List.{length-map, reverse-append}
use Rattle.std.proofs.lemmas.Bool.{cases_lt}
use Rattle.std.proofs.lemmas.Bool.Decides.{nat_tests}
use Rattle.std.specs.Prelude.{◌==◌, nat_le, nat_lt, option_map}
use Rattle.file_base.specs.declared.head.FileHead.{FileHead}
use Rattle.file_base.specs.declared.head.Organization.TheVariants as kept
use Rattle.vms_model.specs.Keys.{Key, Number, End}
use Rattle.record_operations.specs.Causes.{RecordNotFound, cause_if}
use Rattle.recovery_units.specs.run_model.Operations.{changes_of, count_of, data_refused, in_order, keys_asked, refused_if, removed}
use Rattle.transcript_model.specs.Lines as line
use Rattle.recovery_units.specs.run_model.World.{File}
use Rattle.script_model.specs.Statements.{Truncate}
use Rattle.volume_files.specs.seq_file.Layout.{records_in}
use Rattle.unit_world.specs.directory_model.Files.{IsFile}
use Rattle.unit_world.proofs.directory_model.Reading.{reads_files}
use Rattle.unit_world.proofs.directory_model.ReadingFiles.{order_is}
use Rattle.unit_world.proofs.directory_model.ReadingLists.{drop_numbered, length-numbered, numbered}
use Rattle.recovery_units.specs.Calls.{cause_line}
use Rattle.recovery_units.proofs.FormLemmas.{line_if}
use Rattle.rms_units.specs.Truncating.{cut_asked}
use Rattle.rms_units.specs.unit_cuts.Truncating.{keys_down, removed_from}

abbrev Entries : Type 0
Entries = List (Key × List ℕ)

abbrev keys_of : Entries → List Key
keys_of es = map (λ e. e.0) es

-- so many positions from one down, with the lowest last
down_more : (last n : ℕ) → n ≤ last → keys_down last (suc n) ≡ keys_down last n ++ Number (last - n) ∷ []
down_more last zero few = ap (λ (k : ℕ). Number k ∷ []) (omega arith)
down_more last (suc n) few =
    let rest = down_more (last - 1) n (omega (arith, few)) in
    let place : last - 1 - n ≡ last - suc n = omega arith in
    ap (λ ks. Number last ∷ ks) (rest ∙ ap (λ (k : ℕ). keys_down (last - 1) n ++ Number k ∷ []) place)

-- the positions of records, from the last one down
pub down_numbered : (from : ℕ) (rs : List (List ℕ)) → 1 ≤ from → reverse (keys_of (numbered from rs)) ≡ keys_down (from + length rs - 1) (length rs)
down_numbered from [] one = refl
down_numbered from (r ∷ rs) one =
    let rest = down_numbered (suc from) rs (omega arith) in
    let last : suc from + length rs - 1 ≡ from + length (r ∷ rs) - 1 = omega arith in
    let first : from + length (r ∷ rs) - 1 - length rs ≡ from = omega (arith, one) in
    reverse-append (Number from ∷ []) (keys_of (numbered (suc from) rs))
    ∙ ap (λ ks. ks ++ Number from ∷ []) (rest ∙ ap (λ (k : ℕ). keys_down k (length rs)) last)
    ∙ ap (λ (k : ℕ). keys_down (from + length (r ∷ rs) - 1) (length rs) ++ Number k ∷ []) (sym first)
    ∙ sym (down_more (from + length (r ∷ rs) - 1) (length rs) (omega arith))

tests_are : (from count : ℕ) → ((if nat_le 1 from && nat_le from count then count - from + 1 else 0) == 0) ≡ (nat_lt from 1 || nat_lt count from)
tests_are from count = grind (arith, nat_tests)

removed_is : (from count : ℕ) → 1 ≤ from → from ≤ count → (if nat_le 1 from && nat_le from count then count - from + 1 else 0) ≡ count - from + 1
removed_is from count one few = grind (arith, nat_tests)

none_removed : (from count : ℕ) → count < from → (if nat_le 1 from && nat_le from count then count - from + 1 else 0) ≡ 0
none_removed from count past = grind (arith, nat_tests)

one_of : (from : ℕ) → nat_le 1 from ≡ true → 1 ≤ from
one_of from is = grind (arith, nat_tests)

none_at : (from count : ℕ) → nat_le 1 from ≡ false → (if nat_le 1 from && nat_le from count then count - from + 1 else 0) ≡ 0
none_at from count is = grind (arith, nat_tests)

module _ (content : List (List ℕ)) (h : FileHead) (file : File) (is : IsFile content h file) (kind : h.organization ≡ kept.Sequential) where
  abbrev rs : List (List ℕ)
  rs = records_in h content

  pub count_is : length rs ≡ h.count
  count_is = sym (length_of (order_is content h file is kind)) ∙ reads_files.count content h file is kind
    where
      length_of : in_order file ≡ numbered 1 rs → count_of file ≡ length rs
      length_of e = ap length e ∙ length-numbered 1 rs

  -- the records from a position on
  pub from_order : (from : ℕ) → 1 ≤ from → drop (from - 1) (in_order file) ≡ numbered from (drop (from - 1) rs)
  from_order from one = ap (drop (from - 1)) (order_is content h file is kind) ∙ drop_numbered (from - 1) 1 rs ∙ ap (λ (k : ℕ). numbered k (drop (from - 1) rs)) (omega (arith, one))

  left_many : (from : ℕ) → 1 ≤ from → length (drop (from - 1) rs) ≡ removed_from h.count from
  left_many from one = elim (cases_lt h.count from) [
    | inl past ↦ (let left = length-drop (from - 1) rs in let size = count_is in let none = none_removed from h.count past in omega (arith, left, size, past, none))
    | inr few ↦ (let left = length-drop (from - 1) rs in let size = count_is in let some = removed_is from h.count one few in omega (arith, left, size, few, one, some))
  ]

  pub data_alike : (from : ℕ) → option_map cause_line (cause_if (removed_from h.count from == 0) RecordNotFound) ≡ data_refused file (Truncate from)
  data_alike from =
      line_if (removed_from h.count from == 0) RecordNotFound
      ∙ ap (λ (t : Bool). refused_if t line.RecordNotFound) (tests_are from h.count ∙ ap (λ (k : ℕ). nat_lt from 1 || nat_lt k from) (sym (reads_files.count content h file is kind)))

  pub keys_alike : (from : ℕ) → keys_asked file (Truncate from) ≡ cut_asked h from
  keys_alike from = go (nat_le 1 from) refl
    where
      last_is : 1 ≤ from → keys_down (from + removed_from h.count from - 1) (removed_from h.count from) ≡ keys_down h.count (removed_from h.count from)
      last_is one = elim (cases_lt h.count from) [
        | inl past ↦ (let none = none_removed from h.count past in ap (keys_down (from + removed_from h.count from - 1)) none ∙ ap (keys_down h.count) (sym none))
        | inr few ↦ (let some = removed_is from h.count one few in ap (λ (k : ℕ). keys_down k (removed_from h.count from)) (omega (arith, some, few, one)))
      ]

      go : (t : Bool) → nat_le 1 from ≡ t → ◌≡◌ {A = List Key} (End ∷ (if t then reverse (map (λ e. e.0) (drop (from - 1) (in_order file))) else [])) (cut_asked h from)
      go true is =
          let one : 1 ≤ from = one_of from is in
          ap (λ ks. End ∷ ks)
          (ap (λ (es : Entries). reverse (keys_of es)) (from_order from one) ∙ down_numbered from (drop (from - 1) rs) one
          ∙ ap (λ (k : ℕ). keys_down (from + k - 1) k) (left_many from one) ∙ last_is one)
      go false is = ap (λ (k : ℕ). End ∷ keys_down h.count k) (sym (none_at from h.count is))

  pub many_alike : (from : ℕ) → 1 ≤ from → length (changes_of file (Truncate from)) ≡ removed_from h.count from
  many_alike from one = length-map (drop (from - 1) (in_order file)) removed ∙ ap length (from_order from one) ∙ length-numbered from (drop (from - 1) rs) ∙ left_many from one
