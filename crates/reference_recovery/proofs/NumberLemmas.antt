-- Records at positions from one on.
use Rattle.std.proofs.Common.{◌≡◌, ◌<◌, ◌≤◌, ◌+◌, ℕ, List, [], ◌∷◌, refl, sym, ap, ◌∙◌, arith, length, get_or}
use Rattle.std.specs.Prelude.{map}
use Rattle.std.specs.FinMap.{entries, entries-insert}
use Rattle.std.specs.FinMap.Entries.{put}
use Rattle.vms_model.specs.Keys.{Number}
use Rattle.records_model.specs.Records.{key_cmp}
use Rattle.records_model.proofs.KeyLemmas.{key_cmp_total}
use Rattle.reference_index.specs.run_model.World.{records_from}
use Rattle.reference_index.proofs.ListLemmas.{behind_first, parts}
use Rattle.reference_world.specs.declared.world.Row.{Row}
use Rattle.reference_world.specs.Standing.{entry_of}
use Rattle.reference_world.proofs.EntryLemmas.{no_entries}

pub no_numbers : (first : ℕ) (rows : List Row) → length rows < 1 → entries (records_from first (map entry_of rows)) ≡ []
no_numbers first [] none = no_entries key_cmp
no_numbers first (r ∷ rows) none = absurd (omega arith)

first_number : (first : ℕ) (rows : List Row) (r : Row) → 1 ≤ length rows → r ≡ get_or rows 0 r →
    put key_cmp (Number first) r.bytes.now (entries (records_from (first + 1) (map entry_of (behind_first rows)))) ≡ entries (records_from first (map entry_of rows))
first_number first rows r some is = sym (entries-insert key_cmp_total (records_from (first + 1) (map entry_of (behind_first rows))) (Number first) r.bytes.now)
    ∙ ap (λ xs. entries (records_from first (map entry_of xs))) (sym (parts rows r some is))

pub first_at : (first : ℕ) (rows : List Row) (d : Row) → 1 ≤ length rows →
    put key_cmp (Number first) (get_or rows 0 d).bytes.now (entries (records_from (first + 1) (map entry_of (behind_first rows)))) ≡ entries (records_from first (map entry_of rows))
first_at first [] d some = absurd (omega arith)
first_at first (r ∷ rows) d some = first_number first (r ∷ rows) r some refl
