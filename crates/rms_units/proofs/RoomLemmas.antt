-- The room that the journal has for what units enter.
use Rattle.std.proofs.Common.{◌≡◌, ◌≢◌, ℕ, suc, ◌+◌, ◌-◌, ◌*◌, ◌<◌, ◌≤◌, Bool, true, false, List, [], ◌∷◌, Option, Some, None, length, refl, sym, ap, subst, ◌∙◌, arith}
use Rattle.std.specs.Prelude.{nat_lt, unwrap_or}
use Rattle.std.proofs.lemmas.Bool.{ltb-false}
use Rattle.file_base.specs.declared.head.Span.{Span}
use Rattle.journal_format.proofs.Decoding.{total_is}
use Rattle.journal_model.specs.Entries.{IsEntry, spelling}
use Rattle.journal_model.specs.Ring.{ring_size}
use Rattle.record_operations.specs.Causes.{Cause, cause_if}
use Rattle.unit_journal.specs.Entries.{change_entry}
use Rattle.unit_journal.specs.Room.{bytes_wanted, entry_size, free_bytes, journal_refused, owed_first}
use Rattle.unit_table.specs.Units.{OpenUnit, owed, owed_for, unit_at}
use Rattle.vms_model.specs.Ids.{Id}
use Rattle.vms_model.specs.Keys.{Key}
use Rattle.rms_units.proofs.PositionLemmas.{owed_gone}

-- what a test does not refuse
pub not_refused : (b : Bool) (cause : Cause) → cause_if b cause ≡ None → b ≡ false
not_refused true cause is = let no : ⊥ = cc in absurd no
not_refused false cause is = refl

-- there is room for what is not refused
pub room_for : (ru : Span) (places : List (Option OpenUnit)) (u : OpenUnit) (size : ℕ) → ru.end - ru.first + owed places ≤ ring_size ru → journal_refused ru places u size ≡ None → ru.end - ru.first + size + owed_first u.positions + owed places ≤ ring_size ru
room_for ru places u size room is =
    let le : bytes_wanted u size ≤ free_bytes ru places = ltb-false (free_bytes ru places) (bytes_wanted u size) (not_refused _ _ is) in
    omega (arith, room, le)

-- a unit that changed something is owed one entry at least
pub owed_least : (prepared : Bool) (p : ℕ) (ps : List ℕ) → 48 ≤ owed_for prepared (p ∷ ps)
owed_least true p ps = omega arith
owed_least false p ps = omega arith

-- and for the settlement of a unit that changed something
pub room_to_settle : (us : List (Option OpenUnit)) (i : ℕ) (u : OpenUnit) (used ring : ℕ) → unit_at us i ≡ Some u → u.positions ≢ [] → used + owed us ≤ ring → used + 48 ≤ ring
room_to_settle us i u used ring is changed room = some u.positions refl
  where
    some : (ps : List ℕ) → u.positions ≡ ps → used + 48 ≤ ring
    some [] none = absurd (changed none)
    some (p ∷ ps) at = let gone = owed_gone us i u is in let least = owed_least u.prepared p ps in let more = ap (owed_for u.prepared) at in omega (arith, gone, least, more, room)
