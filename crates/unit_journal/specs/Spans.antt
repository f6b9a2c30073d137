-- The journal's span, and a content with more in the journal.
use Rattle.std.specs.Prelude.{ℕ, ◌+◌, List, length, slice_set}
use Rattle.file_base.specs.declared.head.Span.{Span}
use Rattle.journal_format.specs.journal_model.Ring.{put_stream}
use Rattle.volume_format.specs.Home.{ru_block_of}

-- the journal's span once its end moved by so many bytes
abbrev pub longer : ℕ → Span → Span
longer size s = record s { end = s.end + size }

-- a content with these bytes more at the journal's end, and with its span
abbrev pub entered : Span → List ℕ → List (List ℕ) → List (List ℕ)
entered s bytes c = slice_set (put_stream c s s.end bytes) 65 (ru_block_of (longer (length bytes) s))
