-- The slots of a node's log, what each act of its table makes of them, and that they tell the records of the table.
use Rattle.std.specs.Prelude.{◌≡◌, ℕ, ◌+◌, length, Bool, true, false, List, [], ◌∷◌, Option, Some, None, ◌⊎◌, if◌then◌else◌, map, slice_index_or}
use Rattle.std.specs.List.{list_any}
use Rattle.commit_protocol.specs.vms_model.Ids.{Id}
use Rattle.commit_protocol.specs.Messages.{Name, LogRecord, RecordKind, PreparedRecord, CommittedRecord, same_name, same_id}
use Rattle.commit_protocol.specs.Table.{Tm, Act, Prepares, Settles, Acknowledges, Releases, first, child, find, prepared_record, prepared_records, record_serials, after_act}
use Rattle.commit_protocol.specs.Rows.{Event, Start, Begin}
use Rattle.commit_protocol.specs.Effects.{Effect, KeepEffect, ForgetEffect, acknowledge_effects, release_effects}
use Rattle.commit_protocol.specs.World.{In}
use Rattle.commit_protocol.specs.Agreement.{Distinct}

-- a slot has a record, or is free
abbrev pub Slots : Type 0
Slots = List (Option LogRecord)

-- the records, in the order of the slots
abbrev pub records_in : Slots → List LogRecord
records_in [] = []
records_in (None ∷ ss) = records_in ss
records_in (Some r ∷ ss) = r ∷ records_in ss

-- the record is a prepared one
abbrev pub is_prepared_record : RecordKind → Bool
is_prepared_record PreparedRecord = true
is_prepared_record CommittedRecord = false

-- the prepared ones of these records, in their order
abbrev pub prepared_of : List LogRecord → List LogRecord
prepared_of [] = []
prepared_of (r ∷ rs) = if is_prepared_record r.kind then r ∷ prepared_of rs else prepared_of rs

-- and the committed ones
abbrev pub committed_of : List LogRecord → List LogRecord
committed_of [] = []
committed_of (r ∷ rs) = if is_prepared_record r.kind then committed_of rs else r ∷ committed_of rs

-- those of them that wait for a manager
abbrev pub waiting_for : Name → List LogRecord → List LogRecord
waiting_for rm [] = []
waiting_for rm (r ∷ rs) = if list_any (λ x. same_name x rm) r.rms then r ∷ waiting_for rm rs else waiting_for rm rs

-- the records with the numbers of their slots, of which the first has this one
abbrev pub slot_records : ℕ → Slots → List (ℕ × LogRecord)
slot_records slot [] = []
slot_records slot (None ∷ ss) = slot_records (slot + 1) ss
slot_records slot (Some r ∷ ss) = (slot, r) ∷ slot_records (slot + 1) ss

-- how many slots are free
abbrev pub free_slots : Slots → ℕ
free_slots [] = 0
free_slots (None ∷ ss) = 1 + free_slots ss
free_slots (Some r ∷ ss) = free_slots ss

-- a slot has this serial
abbrev pub has_slot : Id → Slots → Bool
has_slot s [] = false
has_slot s (None ∷ ss) = has_slot s ss
has_slot s (Some q ∷ ss) = if same_id q.serial s then true else has_slot s ss

-- a slot is free
abbrev pub has_free : Slots → Bool
has_free [] = false
has_free (None ∷ ss) = true
has_free (Some q ∷ ss) = has_free ss

-- a record in the slot of its serial
abbrev pub replaced : LogRecord → Slots → Slots
replaced r [] = []
replaced r (None ∷ ss) = None ∷ replaced r ss
replaced r (Some q ∷ ss) = if same_id q.serial r.serial then Some r ∷ ss else Some q ∷ replaced r ss

-- a record in the lowest free slot
abbrev pub filled : LogRecord → Slots → Slots
filled r [] = []
filled r (None ∷ ss) = Some r ∷ ss
filled r (Some q ∷ ss) = Some q ∷ filled r ss

-- a record in the slot of its serial, else in the lowest free one
abbrev pub put_in : LogRecord → Slots → Slots
put_in r ss = if has_slot r.serial ss then replaced r ss else filled r ss

-- the slot of this serial is free
abbrev pub forgotten : Id → Slots → Slots
forgotten s [] = []
forgotten s (None ∷ ss) = None ∷ forgotten s ss
forgotten s (Some q ∷ ss) = if same_id q.serial s then None ∷ ss else Some q ∷ forgotten s ss

-- what an effect on a committed record makes of the slots
abbrev pub record_effect_in : Effect → Slots → Slots
record_effect_in (KeepEffect r) ss = put_in r ss
record_effect_in (ForgetEffect s) ss = forgotten s ss
record_effect_in _ ss = ss

-- what these effects make of them
abbrev pub record_effects_in : List Effect → Slots → Slots
record_effects_in [] ss = ss
record_effects_in (e ∷ es) ss = record_effects_in es (record_effect_in e ss)

-- the slots after a settlement, which writes the committed record or leaves none
abbrev pub settled_in : Id → Option LogRecord → Slots → Slots
settled_in s None ss = forgotten s ss
settled_in s (Some r) ss = put_in r ss

-- the slots after an act of the table, where these are the committed records
abbrev pub slots_after : Act → List LogRecord → Slots → Slots
slots_after (Prepares b) rs ss = put_in (prepared_record b) ss
slots_after (Settles k o reason r) rs ss = settled_in k.serial r ss
slots_after (Acknowledges k) rs ss = record_effects_in (acknowledge_effects k rs) ss
slots_after (Releases s x) rs ss = record_effects_in (release_effects s x rs) ss
slots_after _ rs ss = ss

-- the slots have just the records of the prepared branches and the committed records, each once
pub record LogTells (tm : Tm) (ss : Slots) : Type 0 where
  pub from : (q : LogRecord) → In q (records_in ss) → In q (prepared_records tm.table) ⊎ In q tm.records
  pub prepared : (q : LogRecord) → In q (prepared_records tm.table) → In q (records_in ss)
  pub committed : (q : LogRecord) → In q tm.records → In q (records_in ss)
  pub distinct : Distinct (record_serials (records_in ss))

-- an act that writes a record anew finds a free slot
abbrev pub HasSlot : Slots → Act → Type 0
HasSlot ss (Prepares b) = has_free ss ≡ true
HasSlot ss (Settles k o reason (Some r)) = (has_slot r.serial ss ≡ true) ⊎ (has_free ss ≡ true)
HasSlot ss _ = Unit {0}

-- they do so after each of these acts
abbrev pub AllTell : List Act → Tm → Slots → Type 0
AllTell [] tm ss = Unit {0}
AllTell (a ∷ acts) tm ss = LogTells (after_act a tm) (slots_after a tm.records ss) × AllTell acts (after_act a tm) (slots_after a tm.records ss)

-- unsettled branches and committed records together
abbrev pub size : Tm → ℕ
size tm = length tm.table + length tm.records

-- a branch that begins does not stand there yet
abbrev pub IsFresh : Tm → Event → Type 0
IsFresh tm (Start t due) = find (first t) tm.table ≡ None
IsFresh tm (Begin t s bid) = find (child t s) tm.table ≡ None
IsFresh tm _ = Unit {0}

-- how many branches an event begins
abbrev pub branches_added : Event → ℕ
branches_added (Start t due) = 1
branches_added (Begin t s bid) = 1
branches_added _ = 0

-- committed records are of that kind
abbrev pub AreCommitted : List LogRecord → Type 0
AreCommitted rs = (r : LogRecord) → In r rs → r.kind ≡ CommittedRecord

-- the prepared ones of these records wait for no serial
abbrev pub AreUnwaiting : List LogRecord → Type 0
AreUnwaiting rs = (r : LogRecord) → In r rs → r.kind ≡ PreparedRecord → r.waiting ≡ []

-- The records of slots with the numbers of these are the records in their order, each in the slot of its number; and each slot is free, or has a prepared or a
-- committed record.
pub record SlotsAreCounted (ss : Slots) : Type 0 where
  pub records : map (λ (e : ℕ × LogRecord). e.1) (slot_records 0 ss) ≡ records_in ss
  pub numbered : (slot : ℕ) (r : LogRecord) → In (slot, r) (slot_records 0 ss) → slice_index_or ss slot None ≡ Some r
  pub counted : length (committed_of (records_in ss)) + (length (prepared_of (records_in ss)) + free_slots ss) ≡ length ss
