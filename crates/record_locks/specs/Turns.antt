-- Which locks of a log are held: those of the turns that branches have now.
use Rattle.std.specs.Prelude.{◌≡◌, ℕ, suc, ◌+◌, ◌≤◌, ◌<◌, ◌==◌, Bool, false, List, [], ◌∷◌, ◌++◌, Option, Some, None, length, if◌then◌else◌}
use Rattle.std.specs.List.{AllByRecursion, IsDistinct}
use Rattle.std.specs.Map.{lookup, keys_of}
use Rattle.indexmap.specs.IndexMap.{IndexMap, IsUnique, get, spare}
use Rattle.table_keys.specs.declared.key.BranchKey.{BranchKey}
use Rattle.vms_base.specs.vms_model.Ids.{Id}
use Rattle.vms_base.specs.Ids.{serial_of}
use Rattle.vms_base.specs.declared.ids.Serial.{Serial}
use Rattle.table_keys.specs.records_model.History.{same_id}
use Rattle.table_keys.specs.declared.place.Place.{Place}
use Rattle.record_locks.specs.declared.turns.Turn.{Turn}
use Rattle.record_locks.specs.declared.turns.Hold.{Hold}
use Rattle.record_locks.specs.declared.lock_log.Entry.{Entry}
use Rattle.table_keys.specs.Places.{same_place}

abbrev pub same_branch : BranchKey → BranchKey → Bool
same_branch a b = same_id (serial_of a.serial) (serial_of b.serial)

-- the turn that a branch has now
abbrev pub turn_of : List (BranchKey × Turn) → Serial → Option Turn
turn_of turns by = lookup (λ k. same_id (serial_of by) (serial_of k.serial)) turns

abbrev pub began_at : Option Turn → ℕ → Bool
began_at None since = false
began_at (Some t) since = t.since == since

-- whether a lock is of the turn that its branch has
abbrev pub is_now : (turn : Serial → Option Turn) → Hold → Bool
is_now turn h = began_at (turn h.by) h.since

-- the locks of these that are held
abbrev pub held_now : (turn : Serial → Option Turn) → List Entry → List (Place × Serial)
held_now turn [] = []
held_now turn (e ∷ es) = if is_now turn e.hold then (e.place, e.hold.by) ∷ held_now turn es else held_now turn es

-- who holds a key whose last lock is this
abbrev pub found_now : (turn : Serial → Option Turn) → Option Hold → Option Serial
found_now turn None = None
found_now turn (Some h) = if is_now turn h then Some h.by else None

abbrev pub turn_count : Option Turn → ℕ
turn_count None = 0
turn_count (Some t) = t.count

-- the turn once its branch locked one key more, as the log is so long
abbrev pub one_more : (now : ℕ) → Option Turn → Turn
one_more now None = record { since = now; count = 1 }
one_more now (Some t) = record { since = t.since; count = t.count + 1 }

-- how many of these a branch holds
abbrev pub count_of : Id → List (Place × Serial) → ℕ
count_of serial [] = 0
count_of serial (e ∷ es) = if same_id serial (serial_of e.1) then suc (count_of serial es) else count_of serial es

-- what a log of locks is: what is held, in the order of its locking, how many locks it has, and how many it may have
pub record LogSaid : Type 0 where
  pub held : List (Place × Serial)
  pub used : ℕ
  pub room : ℕ

abbrev pub with_held : LogSaid → Place × Serial → LogSaid
with_held log e = record { held = log.held ++ e ∷ []; used = log.used + 1; room = log.room }

-- a log, of each key its last lock, the turns of the branches, and how many keys are held
pub record IsLog {S T : Type 0} (log : List Entry) (latest : IndexMap Place Hold S) (turns : IndexMap BranchKey Turn T) (count room capacity : ℕ) : Type 0 where
  pub unique_places : IsUnique same_place latest
  pub unique_turns : IsUnique same_branch turns
  pub locked_before : AllByRecursion (λ (e : Entry). e.hold.since < length log) log
  pub latest_before : (p : Place) (h : Hold) → get same_place latest p ≡ Some h → h.since < length log
  pub began_before : (by : Serial) (t : Turn) → turn_of turns.entries by ≡ Some t → t.since ≤ length log
  pub found : (p : Place) → found_now (turn_of turns.entries) (get same_place latest p) ≡ lookup (same_place p) (held_now (turn_of turns.entries) log)
  pub distinct : IsDistinct same_place (keys_of (held_now (turn_of turns.entries) log))
  pub counts : (by : Serial) → turn_count (turn_of turns.entries by) ≡ count_of (serial_of by) (held_now (turn_of turns.entries) log)
  pub counted : count ≡ length (held_now (turn_of turns.entries) log)
  pub few_places : length latest.entries ≤ length log
  pub few_turns : length turns.entries ≤ length log
  pub place_room : room ≤ length latest.entries + spare latest
  pub turn_room : room ≤ length turns.entries + spare turns
  pub log_room : room ≤ capacity

-- a table of locks: a log of them, and one without any, to which what is held is moved where the first is full
pub record IsTable (log other : LogSaid) (most : ℕ) : Type 0 where
  pub few : length log.held ≤ most
  pub room : most ≤ log.room
  pub other_empty : other ≡ record { held = []; used = 0; room = log.room }
