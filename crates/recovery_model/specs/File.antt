-- What recovery knows of a file: its history, its journals of images and its save; and the steps that change them.
use Rattle.std.specs.Prelude.{◌≡◌, ℕ, ◌+◌, ◌*◌, ◌/◌, ◌≤◌, List, [], ◌∷◌, ◌++◌, Bool, true, false, Option, Some, None, if◌then◌else◌, nat_le}
use Rattle.std.specs.FinMap.{empty}
use Rattle.unit_laws.specs.vms_model.Ids.{Id}
use Rattle.unit_laws.specs.vms_model.Transactions.{Outcome}
use Rattle.unit_laws.specs.records_model.Records.{Records, Change}
use Rattle.unit_laws.specs.records_model.History.{LiveChanges, same_id, current, changed_with, settled_at, changed_it}
use Rattle.recovery_model.specs.Journal.{Entry, Changed, Settled, is_settled, entry_length}
use Rattle.recovery_model.specs.Timeline.{Timeline}

-- an entry at its position, with the transaction of its branch
pub record Placed : Type 0 where
  pub at : ℕ
  pub tid : Id
  pub entry : Entry

-- A journal of images: whether the file has it, the blocks of its ring, where its entries begin and end, and these, the newest first. Where the
-- file has none, it has no blocks and no entries, and the positions stay.
pub record ImageJournal : Type 0 where
  pub on : Bool
  pub start : ℕ
  pub blocks : ℕ
  pub first : ℕ
  pub end : ℕ
  pub entries : List Placed

-- A save, which is a copy of the file's buckets: where it lies; where the journal of after images ended, and the greatest moment on the disk then;
-- and the records.
pub record Save : Type 0 where
  pub start : ℕ
  pub buckets : ℕ
  pub position : ℕ
  pub moment : ℕ
  pub records : Records

-- A file: its timeline, the journals of its after images and of its before images, the moment since which the latter tells, and its save, where it
-- has one.
pub record FileState : Type 0 where
  pub timeline : Timeline
  pub ai : ImageJournal
  pub bi : ImageJournal
  pub bi_since : ℕ
  pub save : Option Save

abbrev pub all_of : List Placed → List Entry
all_of [] = []
all_of (x ∷ xs) = x.entry ∷ all_of xs

-- the entries from a position on
abbrev pub since : ℕ → List Placed → List Entry
since p [] = []
since p (x ∷ xs) = if nat_le p x.at then x.entry ∷ since p xs else []

-- how many bytes entries take
abbrev pub entries_length : List Placed → ℕ
entries_length [] = 0
entries_length (x ∷ xs) = entry_length x.entry + entries_length xs

-- each entry stands right behind those before it, of which the first begins at a position
abbrev pub StandFrom : ℕ → List Placed → Type 0
StandFrom first [] = Unit {0}
StandFrom first (x ∷ xs) = (x.at ≡ first + entries_length xs) × StandFrom first xs

-- A journal's entries stand from its first position to its end, one right behind the other. Where the file has none, there is no ring and no entry.
pub record IsInOrder (j : ImageJournal) : Type 0 where
  pub places : StandFrom j.first j.entries
  pub within : j.first + entries_length j.entries ≤ j.end
  pub end : j.on ≡ true → j.end ≡ j.first + entries_length j.entries
  pub bare : j.on ≡ false → (j.start ≡ 0) × (j.blocks ≡ 0) × (j.entries ≡ [])

-- A position at which an entry of the journal begins, or its end: it parts newer entries from older ones.
pub record IsPlace (p : ℕ) (j : ImageJournal) : Type 0 where
  pub newer : List Placed
  pub older : List Placed
  pub split : j.entries ≡ newer ++ older
  pub at : p ≡ j.first + entries_length older

-- one entry more at the end, where the file has the journal
abbrev pub append : Id → Entry → ImageJournal → ImageJournal
append tid e j = if j.on then record j { end = j.end + entry_length e; entries = record { at = j.end; tid = tid; entry = e } ∷ j.entries } else j

-- where a journal that begins anew has its first position: at a whole block behind its end
abbrev pub next_span : ℕ → ℕ
next_span end = 512 * (end / 512 + 1)

abbrev pub renewed : (start blocks : ℕ) → ImageJournal → ImageJournal
renewed start blocks j = record { on = true; start = start; blocks = blocks; first = next_span j.end; end = next_span j.end; entries = [] }

abbrev pub renewed_if_on : ImageJournal → ImageJournal
renewed_if_on j = if j.on then renewed j.start j.blocks j else j

abbrev pub ended : ImageJournal → ImageJournal
ended j = record j { on = false; start = 0; blocks = 0; entries = [] }

abbrev pub no_images : ImageJournal
no_images = record { on = false; start = 0; blocks = 0; first = 0; end = 0; entries = [] }

-- The steps. Where a step has a moment g, it is the greatest on the disk.

-- a branch changes a key: one journal has the image after it, the other the image before it
abbrev pub changed_file : (tid serial : Id) → Change → FileState → FileState
changed_file tid s c f = record f {
  timeline = record f.timeline { history = changed_with s (c ∷ []) f.timeline.history };
  ai = append tid (Changed s c.key c.after) f.ai;
  bi = append tid (Changed s c.key c.before) f.bi;
}

-- a branch is settled: both journals tell it, where it changed the file
abbrev pub settled_file : (tid serial : Id) → Outcome → (moment : ℕ) → FileState → FileState
settled_file tid s outcome t f = if changed_it f.timeline.history s then record f {
  timeline = record f.timeline { history = settled_at s outcome t f.timeline.history };
  ai = append tid (Settled s outcome t) f.ai;
  bi = append tid (Settled s outcome t) f.bi;
} else f

-- the unsettled branches, of which this one has these changes
abbrev pub with_its : Id → List Change → List LiveChanges → List LiveChanges
with_its serial cs [] = []
with_its serial cs (l ∷ ls) = if same_id serial l.serial then record l { changes = cs } ∷ ls else l ∷ with_its serial cs ls

-- the abort of a branch is cut short: its changes are these, and the journals tell nothing of it
abbrev pub half_aborted : (serial : Id) → List Change → FileState → FileState
half_aborted s cs f = record f { timeline = record f.timeline { history = record f.timeline.history { live = with_its s cs f.timeline.history.live } } }

-- the file is saved: what stands is copied
abbrev pub saved_file : (start buckets : ℕ) → (g : ℕ) → FileState → FileState
saved_file start buckets g f = record f { save = Some (record { start = start; buckets = buckets; position = f.ai.end; moment = g; records = current f.timeline.history }) }

-- these records are a new base, of a file whose branches are all settled
abbrev pub rebased : Records → ℕ → Timeline → Timeline
rebased m g t = record t { history = record t.history { base = m; moment = g; settled = [] } }

-- these records in the place of the file's own: each journal that there is begins anew
abbrev pub recovered_file : Records → (g : ℕ) → FileState → FileState
recovered_file m g f = record f {
  timeline = rebased m g f.timeline;
  ai = renewed_if_on f.ai;
  bi = renewed_if_on f.bi;
  bi_since = if f.bi.on then g else f.bi_since;
}

-- a file that was made at this moment; nothing reaches what stood before
abbrev pub created : (g : ℕ) → (ℕ → Records) → FileState
created g past = record {
  timeline = record { history = record { base = empty; moment = g; settled = []; live = [] }; past = past };
  ai = no_images;
  bi = no_images;
  bi_since = 0;
  save = None;
}

-- What is asked of a file.

-- no unsettled branch changed it
abbrev pub IsStill : FileState → Type 0
IsStill f = (s : Id) → changed_it f.timeline.history s ≡ false

-- neither journal tells that this branch is settled
abbrev pub IsOpenIn : Id → FileState → Type 0
IsOpenIn s f = (is_settled (all_of f.ai.entries) s ≡ false) × (is_settled (all_of f.bi.entries) s ≡ false)

-- the journal of after images reaches back to a save
abbrev pub IsCovering : ImageJournal → Save → Type 0
IsCovering j v = j.first ≤ v.position
