-- What a line reader holds, and what is ahead of it.
use Rattle.std.specs.Prelude.{◌≡◌, ◌≢◌, ℕ, ◌+◌, ◌<◌, ◌≤◌, ◌⊎◌, List, [], ◌∷◌, ◌++◌, Option, take, length, slice_range, IfSome}
use Rattle.std.specs.Option.{option_map}
use Rattle.vms_model.specs.Limits.{line_size_limit, script_size_limit}
use Rattle.emitter_model.specs.transcript_model.Outside.{ahead, Rose}
use Rattle.emitter_model.specs.transcript_model.Script.{ScriptLine, lines_of, size_of, HasNoFeed, BeginsTooLong, IsWithinLimits}
use Rattle.transcript.specs.declared.lines.LineReader.{LineReader}
use Rattle.transcript.specs.declared.lines.Next.{Next}
use Rattle.transcript.specs.declared.lines.Next.TheVariants as next
use Rattle.transcript.specs.declared.lines.Taken.{Taken}
use Rattle.transcript.specs.declared.lines.Taken.TheVariants as taken

-- the line that was given last
abbrev pub script_line : LineReader → ScriptLine
script_line r = record { text = take r.length r.line.items; ended = r.ended }

-- the bytes of the script in all lines that were given
abbrev pub taken_bytes : LineReader → ℕ
taken_bytes r = r.taken

-- the line that is begun, as far as it is read
abbrev pub begun_line : LineReader → List ℕ
begun_line r = take r.used r.line.items

-- bytes that the source gave and no line has taken
abbrev pub pending : LineReader → List ℕ
pending r = slice_range r.buffer.items r.start r.end

-- the lines that are still to come, where they are known
abbrev pub lines_ahead : LineReader → Option (List ℕ) → Option (List ScriptLine)
lines_ahead r left = option_map lines_of (ahead (begun_line r ++ pending r) left)

-- the sizes of its parts, and that a line feed ends a line
pub record IsSound (r : LineReader) : Type 0 where
  pub line : length r.line.items ≡ line_size_limit
  pub used : r.used ≤ line_size_limit
  pub whole : r.length ≤ line_size_limit
  pub buffer : length r.buffer.items ≡ 65536
  pub start : r.start ≤ r.end
  pub end : r.end ≤ 65536
  pub script : r.taken + r.used ≤ script_size_limit
  pub no_feed : HasNoFeed (begun_line r)

-- bytes went from those pending onto the line that is begun
abbrev pub Takes : LineReader → Taken → LineReader → Type 0
Takes old taken.Feed new = (begun_line old ++ pending old ≡ begun_line new ++ (10 ∷ pending new)) × (new.taken + new.used < script_size_limit)
Takes old taken.All new = (begun_line old ++ pending old ≡ begun_line new) × (pending new ≡ []) × (new.used ≡ old.used + length (pending old)) × (new.end ≤ new.start)
Takes old taken.Full new = (y : ℕ) × (ys : List ℕ) × (begun_line old ++ pending old ≡ begun_line new ++ pending new) × (pending new ≡ y ∷ ys) × (((y ≢ 10) × (length (begun_line new) ≡ line_size_limit)) ⊎ (new.taken + length (begun_line new) ≡ script_size_limit))

-- what a call of next tells of the lines ahead, after so many bytes of the script
abbrev pub ReadsNext : ℕ → Option (List ScriptLine) → Next → LineReader → Option (List ScriptLine) → ℕ → ℕ → Type 0
ReadsNext before old next.Line r new faults faults' = old ≡ option_map (λ more. script_line r ∷ more) new
ReadsNext before old next.End r new faults faults' = IfSome old (λ lines. lines ≡ [])
ReadsNext before old next.TooLong r new faults faults' = IfSome old (BeginsTooLong before)
ReadsNext before old next.Failed r new faults faults' = Rose faults faults'

-- A line that is given is within the limits, and its bytes are counted.
abbrev pub Counts : ℕ → Next → LineReader → Type 0
Counts before next.Line r = IsWithinLimits before (script_line r) × (taken_bytes r ≡ before + size_of (script_line r))
Counts before next.End r = taken_bytes r ≡ before
Counts before next.TooLong r = taken_bytes r ≡ before
Counts before next.Failed r = taken_bytes r ≡ before
