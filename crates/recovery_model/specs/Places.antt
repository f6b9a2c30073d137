-- The places of the entries that a recovery uses, in a journal whose oldest entry stands first.
use Rattle.std.specs.Prelude.{ℕ, ◌+◌, List, [], ◌∷◌, Bool, false, Some, if◌then◌else◌, ◌&&◌, ◌||◌, reverse, slice_index_or}
use Rattle.unit_laws.specs.vms_model.Ids.{Id}
use Rattle.unit_laws.specs.vms_model.Transactions.{Outcome, Abort}
use Rattle.unit_laws.specs.records_model.Records.{Records, set_key}
use Rattle.unit_laws.specs.records_model.History.{same_id, reached}
use Rattle.recovery_model.specs.Journal.{Entry, Changed, Settled, is_commit, beyond}

-- what an entry says of its branch: that it changed a record, or that it was settled so; or none of both
pub data Header : Type 0 where
  ChangeBy : (serial : Id) → Header
  SettlementOf : (serial : Id) → Outcome → (moment : ℕ) → Header
  Neither : Header

abbrev pub header_of : Entry → Header
header_of (Changed s k v) = ChangeBy s
header_of (Settled s outcome t) = SettlementOf s outcome t

-- whether an entry settles the branch by a commit at a moment that passes
abbrev pub commits : (ℕ → Bool) → Header → Id → Bool
commits ok (ChangeBy r) s = false
commits ok (SettlementOf r outcome t) s = same_id s r && (is_commit outcome && ok t)
commits ok Neither s = false

abbrev pub committed : (ℕ → Bool) → List Header → Id → Bool
committed ok [] s = false
committed ok (h ∷ hs) s = commits ok h s || committed ok hs s

-- whether an entry is a change of a branch that passes
abbrev pub changed_by : (Id → Bool) → Header → Bool
changed_by p (ChangeBy s) = p s
changed_by p (SettlementOf s outcome t) = false
changed_by p Neither = false

-- the places, counted from n, of the changes of branches that pass
abbrev pub places : (Id → Bool) → List Header → ℕ → List ℕ
places p [] n = []
places p (h ∷ hs) n = if changed_by p h then n ∷ places p hs (n + 1) else places p hs (n + 1)

-- forward: those of the branches committed by a moment, in the order of the journal
abbrev pub applied_places : ℕ → List Header → List ℕ
applied_places until hs = places (committed (reached (Some until)) hs) hs 0

-- backward: those of the branches committed past a moment, from the journal's end on
abbrev pub undone_places : ℕ → List Header → List ℕ
undone_places until hs = reverse (places (committed (beyond until) hs) hs 0)

-- records with the image of an entry set
abbrev pub set_entry : Entry → Records → Records
set_entry (Changed s k v) m = set_key m k v
set_entry (Settled s outcome t) m = m

-- an entry that sets nothing
abbrev pub no_entry : Entry
no_entry = Settled (record { node = []; boot = 0; seq = 0 }) Abort 0

-- the images of the entries at these places set, in order
abbrev pub sets_at : List ℕ → List Entry → Records → Records
sets_at [] es m = m
sets_at (n ∷ ns) es m = sets_at ns es (set_entry (slice_index_or es n no_entry) m)
