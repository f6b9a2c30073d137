-- What each operation on the records of a file answers and does. Each definition here that takes an operation has one case for each of them, or one for
-- those that it speaks of.
use Rattle.std.specs.Prelude.{ℕ, ◌+◌, ◌-◌, List, [], ◌∷◌, Bool, true, false, not, ◌||◌, ◌==◌, Option, Some, None, if◌then◌else◌, max, nat_lt, nat_le, map, length, take, drop, reverse, ◌++◌}
use Rattle.std.specs.FinMap.{entries, get, contains_key}
use Rattle.std.specs.Ordering.{eq_by_cmp, is_lt}
use Rattle.transcript_model.specs.vms_model.Keys.{Key, Number, Text, End}
use Rattle.transcript_model.specs.Lines as line
use Rattle.transcript_model.specs.Lines.{Line}
use Rattle.script_model.specs.Statements.{Operation, Put, Update, Delete, Truncate, Get, Next}
use Rattle.recovery_model.specs.records_model.Records.{Records, Change, key_cmp}
use Rattle.recovery_model.specs.tree_model.Layouts.{used_of, need_of as need_of_layout}
use Rattle.recovery_model.specs.records_model.History.{current}
use Rattle.recovery_model.specs.records_model.Placing.{Filled, filled_by, first_bucket}
use Rattle.run_model.specs.World.{File, Organization, Sequential, Relative, Indexed, capacity}

-- Single causes of refusals.

-- the first of two that applies
abbrev pub first_of : Option Line → Option Line → Option Line
first_of (Some refusal) other = Some refusal
first_of None other = other

-- a refusal where a test holds
abbrev pub refused_if : Bool → Line → Option Line
refused_if true refusal = Some refusal
refused_if false refusal = None

-- The records of a file.

-- the records as they stand, with the changes of unsettled branches
abbrev pub current_records : File → Records
current_records f = current f.history

-- in the order of their keys
abbrev pub in_order : File → List (Key × List ℕ)
in_order f = entries (current_records f)

-- their number, which in a sequential file is the last position
abbrev pub count_of : File → ℕ
count_of f = length (in_order f)

-- what stands at a key
abbrev pub record_in : File → Key → Option (List ℕ)
record_in f key = get (current_records f) key

-- the bytes of so many from a position on: the key of a record
abbrev pub key_within : ℕ → ℕ → List ℕ → List ℕ
key_within position size bytes = take size (drop position bytes)

-- whether a key comes behind another; every key comes behind none
abbrev pub is_behind : Option Key → Key → Bool
is_behind None key = true
is_behind (Some after) key = is_lt (key_cmp after key)

-- the first of these records whose key comes behind another
abbrev pub first_behind : Option Key → List (Key × List ℕ) → Option (Key × List ℕ)
first_behind after [] = None
first_behind after (e ∷ es) = if is_behind after e.0 then Some e else first_behind after es

-- The buckets of a file.

-- how records of a sequential file lie in its buckets: each takes two bytes more than it has
abbrev pub placed : File → Filled
placed f = filled_by (capacity f) first_bucket (map (λ e. length e.1 + 2) (in_order f))

-- how many buckets a file so organized has in use: all; those that its records take, one at least; or those of its layout
abbrev pub used_by : Organization → File → ℕ
used_by Sequential f = (placed f).buckets
used_by (Relative greatest) f = f.buckets
used_by (Indexed position size) f = used_of f.layout

-- how many buckets a file has in use
abbrev pub used : File → ℕ
used f = used_by f.organization f

-- and how many are free
abbrev pub free_buckets : File → ℕ
free_buckets f = f.buckets - used f

-- Refusals by the form of what is asked.

-- a key is not of the form that an organization has: bytes in place of a number or a number in place of bytes, or bytes that are not as many as a key's;
-- or it is a number of no cell
abbrev pub key_refused : Organization → Key → Option Line
key_refused Sequential (Number n) = None
key_refused (Relative greatest) (Number n) = refused_if (nat_lt n 1 || nat_lt greatest n) line.BadRecordNumber
key_refused (Indexed position size) (Text bytes) = refused_if (not (length bytes == size)) line.BadParameter
key_refused organization key = Some line.BadParameter

-- a record goes behind the others or by its key, and only in a relative file to a number
abbrev pub place_refused : Organization → Option ℕ → Option Line
place_refused Sequential None = None
place_refused (Relative greatest) (Some n) = key_refused (Relative greatest) (Number n)
place_refused (Indexed position size) None = None
place_refused organization number = Some line.BadParameter

-- how many bytes a record has at least: one, and as many as hold its key
abbrev pub least_size : Organization → ℕ
least_size Sequential = 1
least_size (Relative greatest) = 1
least_size (Indexed position size) = max 1 (position + size)

-- a record is too short or too long
abbrev pub size_refused : File → List ℕ → Option Line
size_refused f bytes = refused_if (nat_lt (length bytes) (least_size f.organization) || nat_lt f.record_size (length bytes)) line.BadRecordSize

-- single records are not deleted from a sequential file
abbrev pub delete_refused : Organization → Option Line
delete_refused Sequential = Some line.BadOperation
delete_refused (Relative greatest) = None
delete_refused (Indexed position size) = None

-- and only a sequential file is truncated
abbrev pub truncate_refused : Organization → Option Line
truncate_refused Sequential = None
truncate_refused (Relative greatest) = Some line.BadOperation
truncate_refused (Indexed position size) = Some line.BadOperation

-- a key behind which the next one is asked for, where one is said
abbrev pub after_refused : Organization → Option Key → Option Line
after_refused organization None = None
after_refused organization (Some key) = key_refused organization key

-- what refuses an operation by its form alone
abbrev pub form_refused : File → Operation → Option Line
form_refused f (Put number bytes) = first_of (place_refused f.organization number) (size_refused f bytes)
form_refused f (Update key bytes) = first_of (key_refused f.organization key) (size_refused f bytes)
form_refused f (Delete key) = first_of (key_refused f.organization key) (delete_refused f.organization)
form_refused f (Truncate number) = truncate_refused f.organization
form_refused f (Get key) = key_refused f.organization key
form_refused f (Next after) = after_refused f.organization after

-- Refusals by the records that stand.

-- a record that is to be new is there
abbrev pub put_refused : Organization → Records → Option ℕ → List ℕ → Option Line
put_refused organization m (Some number) bytes = refused_if (contains_key m (Number number)) line.RecordExists
put_refused (Indexed position size) m None bytes = refused_if (contains_key m (Text (key_within position size bytes))) line.KeyExists
put_refused Sequential m None bytes = None
put_refused (Relative greatest) m None bytes = None

-- a record may not take the place of one that has another length, in a sequential file, nor stand at a key that is not its own
abbrev pub other_refused : Organization → Key → (old new : List ℕ) → Option Line
other_refused Sequential key old new = refused_if (not (length old == length new)) line.BadRecordSize
other_refused (Relative greatest) key old new = None
other_refused (Indexed position size) key old new = refused_if (not (eq_by_cmp key_cmp key (Text (key_within position size new)))) line.KeyChanged

-- a record is to take the place of one that is not there, or may not
abbrev pub update_refused : Organization → Key → Option (List ℕ) → List ℕ → Option Line
update_refused organization key None new = Some line.RecordNotFound
update_refused organization key (Some old) new = other_refused organization key old new

-- a record that is asked for is not there
abbrev pub missing : Option (List ℕ) → Option Line
missing None = Some line.RecordNotFound
missing (Some bytes) = None

-- there is no next record
abbrev pub at_end : Option (Key × List ℕ) → Option Line
at_end None = Some line.EndOfFile
at_end (Some e) = None

-- what refuses an operation by the records that stand
abbrev pub data_refused : File → Operation → Option Line
data_refused f (Put number bytes) = put_refused f.organization (current_records f) number bytes
data_refused f (Update key bytes) = update_refused f.organization key (record_in f key) bytes
data_refused f (Delete key) = missing (record_in f key)
data_refused f (Truncate number) = refused_if (nat_lt number 1 || nat_lt (count_of f) number) line.RecordNotFound
data_refused f (Get key) = missing (record_in f key)
data_refused f (Next after) = at_end (first_behind after (in_order f))

-- What is changed.

-- a key is set from what stands there
abbrev pub set_in : File → Key → Option (List ℕ) → Change
set_in f key after = record { key = key; before = record_in f key; after = after }

-- a record is removed
abbrev pub removed : Key × List ℕ → Change
removed e = record { key = e.0; before = Some e.1; after = None }

-- the key that a record gets that is put: a number that is said, the position behind the last, or its own key
abbrev pub key_put : Organization → ℕ → Option ℕ → List ℕ → Key
key_put organization count (Some number) bytes = Number number
key_put (Indexed position size) count None bytes = Text (key_within position size bytes)
key_put Sequential count None bytes = Number (count + 1)
key_put (Relative greatest) count None bytes = Number (count + 1)

-- the changes of an operation, the newest first: a file is truncated from its last position down
abbrev pub changes_of : File → Operation → List Change
changes_of f (Put number bytes) = set_in f (key_put f.organization (count_of f) number bytes) (Some bytes) ∷ []
changes_of f (Update key bytes) = set_in f key (Some bytes) ∷ []
changes_of f (Delete key) = set_in f key None ∷ []
changes_of f (Truncate number) = map removed (drop (number - 1) (in_order f))
changes_of f (Get key) = []
changes_of f (Next after) = []

-- whether an operation is to change something
abbrev pub is_change : Operation → Bool
is_change (Put number bytes) = true
is_change (Update key bytes) = true
is_change (Delete key) = true
is_change (Truncate number) = true
is_change (Get key) = false
is_change (Next after) = false

-- The keys that an operation asks for: a branch that holds one of them refuses it to others.

-- a record is put behind the others, where the file's end is asked for and the position behind the last, or to its key
abbrev pub put_keys : Organization → ℕ → Option ℕ → List ℕ → List Key
put_keys Sequential count number bytes = End ∷ key_put Sequential count number bytes ∷ []
put_keys (Relative greatest) count number bytes = key_put (Relative greatest) count number bytes ∷ []
put_keys (Indexed position size) count number bytes = key_put (Indexed position size) count number bytes ∷ []

-- the positions that go where a file is truncated, from the last down
abbrev pub cut_keys : File → ℕ → List Key
cut_keys f number = if nat_le 1 number then reverse (map (λ e. e.0) (drop (number - 1) (in_order f))) else []

-- the keys that are known before a record is read
abbrev pub keys_asked : File → Operation → List Key
keys_asked f (Put number bytes) = put_keys f.organization (count_of f) number bytes
keys_asked f (Update key bytes) = key ∷ []
keys_asked f (Delete key) = key ∷ []
keys_asked f (Truncate number) = End ∷ cut_keys f number
keys_asked f (Get key) = key ∷ []
keys_asked f (Next after) = []

-- the key of a record, where there is one
abbrev pub key_found : Option (Key × List ℕ) → List Key
key_found (Some e) = e.0 ∷ []
key_found None = []

-- that of the record that is found to be the next
abbrev pub keys_found : File → Operation → List Key
keys_found f (Next after) = key_found (first_behind after (in_order f))
keys_found f op = []

-- all that a branch holds once it has done an operation
abbrev pub keys_held : File → Operation → List Key
keys_held f op = keys_asked f op ++ keys_found f op

-- The buckets that an operation may take.

-- one more record in a sequential file takes a bucket where it does not fit into the last used one
abbrev pub one_more : File → List ℕ → ℕ
one_more f bytes = if nat_le ((placed f).bytes + (length bytes + 2)) (capacity f) then 0 else 1

-- how many free buckets a record that is put wants: in an indexed file, by its layout
abbrev pub put_need : Organization → File → List ℕ → ℕ
put_need Sequential f bytes = one_more f bytes
put_need (Relative greatest) f bytes = 0
put_need (Indexed position size) f bytes = need_of_layout f.layout

-- and one that takes the place of another
abbrev pub update_need : Organization → File → ℕ
update_need Sequential f = 0
update_need (Relative greatest) f = 0
update_need (Indexed position size) f = need_of_layout f.layout

-- how many free buckets an operation wants
abbrev pub need_of : File → Operation → ℕ
need_of f (Put number bytes) = put_need f.organization f bytes
need_of f (Update key bytes) = update_need f.organization f
need_of f (Delete key) = 0
need_of f (Truncate number) = 0
need_of f (Get key) = 0
need_of f (Next after) = 0

-- fewer are free
abbrev pub file_full : File → Operation → Option Line
file_full f op = refused_if (nat_lt (free_buckets f) (need_of f op)) (line.FileFull (free_buckets f) (need_of f op))

-- Answers of successes.

-- a record that was put behind the others is answered with its position
abbrev pub put_answer : Organization → ℕ → Line
put_answer Sequential count = line.RecordPosition (count + 1)
put_answer (Relative greatest) count = line.RecordNormal
put_answer (Indexed position size) count = line.RecordNormal

-- a record that was asked for
abbrev pub found_answer : Option (List ℕ) → Line
found_answer (Some bytes) = line.RecordFound bytes
found_answer None = line.RecordNormal

-- the next record with its key
abbrev pub next_answer : Option (Key × List ℕ) → Line
next_answer (Some e) = line.NextFound e.0 e.1
next_answer None = line.RecordNormal

-- what a success is answered
abbrev pub operation_answer : File → Operation → Line
operation_answer f (Put number bytes) = put_answer f.organization (count_of f)
operation_answer f (Update key bytes) = line.RecordNormal
operation_answer f (Delete key) = line.RecordNormal
operation_answer f (Truncate number) = line.RecordNormal
operation_answer f (Get key) = found_answer (record_in f key)
operation_answer f (Next after) = next_answer (first_behind after (in_order f))
