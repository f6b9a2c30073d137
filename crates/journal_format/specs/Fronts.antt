-- The fronts of entries, byte by byte: which byte may stand behind those before it, and so where bytes stop being the front of an entry.
use Rattle.std.specs.Prelude.{◌≡◌, ℕ, ◌+◌, ◌*◌, ◌-◌, ◌<◌, ◌==◌, Bool, true, false, List, ◌++◌, length, slice_index, take, drop, nat_lt, if◌then◌else◌}
use Rattle.std.specs.Int.{w64, from_le_bytes, byte_at}
use Rattle.journal_format.specs.declared.check.EntryErr.{EntryErr}
use Rattle.journal_format.specs.declared.check.EntryErr.TheVariants.{Short, Form}
use Rattle.journal_format.specs.IdForms.{id_byte, id_said}
use Rattle.journal_model.specs.Entries.{Entry, IsEntry, spelling, is_kind, is_flag, is_file, is_key, has_image, is_image, is_moment, total}

-- a byte among the first 8, behind those before it
abbrev pub field_ok : ℕ → List ℕ → ℕ → Bool
field_ok n past b =
    if n == 0 then is_kind b else (
    if n == 1 then is_flag (slice_index past 0) b else (
    if n == 2 then is_file (slice_index past 0) b else (
    if n == 3 then is_key (slice_index past 0) b else (
    if n == 4 then (if has_image (slice_index past 0) (slice_index past 1) then true else b == 0) else (
    if n == 5 then (if has_image (slice_index past 0) (slice_index past 1) then is_image true (slice_index past 4 + 256 * b) else b == 0) else (
    if n == 6 then b == byte_at 0 (total (slice_index past 3) (slice_index past 4 + 256 * slice_index past 5)) else
    b == byte_at 1 (total (slice_index past 3) (slice_index past 4 + 256 * slice_index past 5))))))))

-- a byte behind those before it
abbrev pub next_ok : List ℕ → ℕ → Bool
next_ok past b =
    if nat_lt (length past) 8 then field_ok (length past) past b else (
    if nat_lt (length past) 24 then id_byte (length past - 8) (slice_index past (length past - 1)) b else (
    if nat_lt (length past) 40 then id_byte (length past - 24) (slice_index past (length past - 1)) b else (
    is_moment (slice_index past 0) b)))

-- each of the first n bytes may stand behind those before it
abbrev pub Begun : ℕ → List ℕ → Type 0
Begun n h = (i : ℕ) → i < n → next_ok (take i h) (slice_index h i) ≡ true

-- the sizes that the first bytes tell
abbrev pub key_size : List ℕ → ℕ
key_size h = slice_index h 3

abbrev pub image_size : List ℕ → ℕ
image_size h = slice_index h 4 + 256 * slice_index h 5

abbrev pub size_of : List ℕ → ℕ
size_of h = total (key_size h) (image_size h)

-- what bytes with the front of an entry tell
abbrev pub read_entry : List ℕ → Entry
read_entry h = record {
  kind = slice_index h 0;
  flag = slice_index h 1;
  file = slice_index h 2;
  tid = id_said (take 16 (drop 8 h));
  serial = id_said (take 16 (drop 24 h));
  moment = from_le_bytes w64 (take 8 (drop 40 h));
  key = take (key_size h) (drop 48 h);
  image = take (image_size h) (drop (key_size h) (drop 48 h));
}

-- an entry begins so, and is longer
pub record Unfinished (h : List ℕ) : Type 0 where
  pub entry : Entry
  pub is : IsEntry entry
  pub more : List ℕ
  pub left : 0 < length more
  pub joined : h ++ more ≡ spelling entry

-- no entry begins so, and none stands there
abbrev pub NoEntry : List ℕ → Type 0
NoEntry h = (e : Entry) (x y : List ℕ) → IsEntry e → h ++ x ≡ spelling e ++ y → ⊥

-- why no entry stands at the front
abbrev pub Fails : EntryErr → List ℕ → Type 0
Fails Short h = Unfinished h
Fails Form h = NoEntry h

-- where the first 48 bytes stop being those of an entry
abbrev pub Stops : EntryErr → List ℕ → Type 0
Stops Short h = (length h < 48) × Begun (length h) h
Stops Form h = (i : ℕ) × (i < 48) × (i < length h) × (next_ok (take i h) (slice_index h i) ≡ false)
