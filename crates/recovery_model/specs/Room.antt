-- The bytes of the rings of journals of images: what is free there, what changes need, and which ring is full.
use Rattle.std.specs.Prelude.{◌≡◌, ℕ, suc, ◌+◌, ◌-◌, ◌*◌, ◌≤◌, List, [], ◌∷◌, Bool, true, false, Option, Some, None, if◌then◌else◌, ◌&&◌, ◌||◌, nat_lt}
use Rattle.unit_laws.specs.vms_model.Ids.{Id}
use Rattle.unit_laws.specs.records_model.Records.{Change}
use Rattle.unit_laws.specs.records_model.Slots.{size_of}
use Rattle.unit_laws.specs.records_model.History.{LiveChanges, same_id}
use Rattle.unit_laws.specs.Journal.{key_size}
use Rattle.recovery_model.specs.Images.{Image, afters, befores}
use Rattle.recovery_model.specs.Journal.{Entry, Changed, Settled}
use Rattle.recovery_model.specs.File.{ImageJournal, FileState, all_of}

-- whether a branch has changed a key in a journal
abbrev pub has_entry : Id → List Entry → Bool
has_entry s [] = false
has_entry s (Changed r k v ∷ es) = same_id r s || has_entry s es
has_entry s (Settled r outcome t ∷ es) = has_entry s es

-- how many of the unsettled branches have
abbrev pub unsettled_in : List Entry → List LiveChanges → ℕ
unsettled_in es [] = 0
unsettled_in es (l ∷ ls) = if has_entry l.serial es then suc (unsettled_in es ls) else unsettled_in es ls

-- the bytes of a ring that are free: those behind the entries, but for 48 of each unsettled branch that has one, since its settlement is still to come
abbrev pub free_in : ImageJournal → List LiveChanges → ℕ
free_in j live = 512 * j.blocks - (j.end - j.first) - 48 * unsettled_in (all_of j.entries) live

-- how many bytes changes to these images take
abbrev pub changes_length : List Image → ℕ
changes_length [] = 0
changes_length (i ∷ is) = (48 + key_size i.0 + size_of i.1) + changes_length is

-- How many bytes a branch needs for them. With its first entry it needs those of its settlement too; so a branch of one statement alone always does.
abbrev pub need_in : Id → List Image → ImageJournal → ℕ
need_in s is j = if has_entry s (all_of j.entries) then changes_length is else 48 + changes_length is

-- the changes fit the journal, where the file has it
abbrev pub Fits : Id → List Image → ImageJournal → List LiveChanges → Type 0
Fits s is j live = j.on ≡ true → need_in s is j ≤ free_in j live

-- a change of a branch fits both journals
pub record OneFits (s : Id) (c : Change) (f : FileState) : Type 0 where
  pub afters : Fits s (afters (c ∷ [])) f.ai f.timeline.history.live
  pub befores : Fits s (befores (c ∷ [])) f.bi f.timeline.history.live

-- there is room for the entries, and for the settlements that are still to come
abbrev pub HasRoom : ImageJournal → List LiveChanges → Type 0
HasRoom j live = (j.end - j.first) + 48 * unsettled_in (all_of j.entries) live ≤ 512 * j.blocks

-- What a change of a file is refused for: the ring of its after images, or that of its before images, has fewer bytes free than the change needs.
pub data Full : Type 0 where
  AftersFull : (free need : ℕ) → Full
  BeforesFull : (free need : ℕ) → Full

abbrev pub is_short : Id → List Image → ImageJournal → List LiveChanges → Bool
is_short s is j live = j.on && nat_lt (free_in j live) (need_in s is j)

-- The first of the two, where a branch makes these changes by one statement. A branch of that statement alone has a serial that no entry has.
abbrev pub full_of : (serial : Id) → List Change → FileState → Option Full
full_of s cs f =
    if is_short s (afters cs) f.ai f.timeline.history.live then Some (AftersFull (free_in f.ai f.timeline.history.live) (need_in s (afters cs) f.ai))
    else (if is_short s (befores cs) f.bi f.timeline.history.live then Some (BeforesFull (free_in f.bi f.timeline.history.live) (need_in s (befores cs) f.bi)) else None)
