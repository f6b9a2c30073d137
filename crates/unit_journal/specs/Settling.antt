-- What the settlement of a branch makes of a volume.
use Rattle.std.specs.Prelude.{◌≡◌, ℕ, ◌+◌, Bool, true, false, List, Option, Some, None, length, option_map, slice_set, unwrap_or, nat_le, if◌then◌else◌}
use Rattle.file_base.specs.declared.head.Span.{Span}
use Rattle.journal_format.specs.journal_model.Entries.{Entry, spelling}
use Rattle.unit_table.specs.Units.{OpenUnit, earliest}
use Rattle.vms_base.specs.declared.ids.Serial.{Serial}
use Rattle.vms_base.specs.declared.ids.Tid.{Tid}
use Rattle.volume.specs.State.{VolumeState}
use Rattle.volume_format.specs.declared.home.Home.{Home}
use Rattle.volume_format.specs.declared.home.Ending.{Ending}
use Rattle.volume_format.specs.Home.{home_block_of, ru_block_of}
use Rattle.unit_journal.specs.Spans.{entered, longer}

-- the moment of the next settlement: the clock's, or the first after all that are on the disk where that is later
abbrev pub next_moment : (clock : ℕ) → Home → ℕ
next_moment clock h = if nat_le clock (h.greatest_moment.0 + 1) then h.greatest_moment.0 + 1 else clock

-- the home once a branch was settled so
abbrev pub settled_home : Tid → Serial → Ending → (moment : ℕ) → Home → Home
settled_home tid serial ending moment h = record h { greatest_moment = record { 0 = moment }; last = Some (record { tid = tid; serial = serial; ending = ending }) }

-- the journal from a position on, and else from its end on
abbrev pub starting : Option ℕ → Span → Span
starting first s = record s { first = unwrap_or first s.end }

-- the journal from the earliest change of these units on
abbrev pub from_earliest : List (Option OpenUnit) → Span → Span
from_earliest units s = starting (earliest units) s

-- an entry where a test holds
abbrev pub entry_if : Bool → Entry → Option Entry
entry_if true e = Some e
entry_if false e = None

-- the journal's span behind one entry more, where there is one
abbrev pub span_with : Option Entry → Span → Span
span_with None s = s
span_with (Some e) s = longer (length (spelling e)) s

-- and a content with it
abbrev pub content_with : Option Entry → Span → List (List ℕ) → List (List ℕ)
content_with None s c = c
content_with (Some e) s c = entered s (spelling e) c

-- a content with this home block, and this span of the journal
abbrev pub with_front : Home → Span → List (List ℕ) → List (List ℕ)
with_front home ru c = slice_set (slice_set c 0 (home_block_of home)) 65 (ru_block_of ru)

-- A volume has what the settlement of a branch makes of another: its home tells it, the journal has its entry, where there is one, and begins with the earliest
-- change of the units that are left.
pub record MakesSettlement (tid : Tid) (serial : Serial) (ending : Ending) (moment : ℕ) (e : Option Entry) (left : List (Option OpenUnit)) (v made : VolumeState) : Type 0 where
  pub current : made.store.current ≡ option_map (λ c. with_front (settled_home tid serial ending moment v.catalog.home) (from_earliest left (span_with e v.catalog.ru)) (content_with e v.catalog.ru c)) v.store.current
  pub catalog : made.catalog ≡ record v.catalog { home = settled_home tid serial ending moment v.catalog.home; ru = from_earliest left (span_with e v.catalog.ru) }
