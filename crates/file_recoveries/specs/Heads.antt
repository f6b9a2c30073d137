-- Heads of recovered files.
use Rattle.std.specs.Prelude.{ℕ, ◌+◌, ◌*◌, ◌/◌, Bool, true, false, if◌then◌else◌}
use Rattle.file_base.specs.declared.head.FileHead.{FileHead}
use Rattle.file_base.specs.declared.head.Span.{Span}
use Rattle.vms_base.specs.declared.moments.Moment.{Moment}

-- where a journal begins anew: at a whole block behind its end
abbrev pub renewed_span : (marked : Bool) → Span → Span
renewed_span true s = record s { first = 512 * (s.end / 512 + 1); end = 512 * (s.end / 512 + 1) }
renewed_span false s = s

-- the head with its journals begun anew, of which that of before images tells since this moment
abbrev pub with_new_journals : FileHead → Moment → FileHead
with_new_journals h g = record h { ai = renewed_span h.marks.ai h.ai; bi = renewed_span h.marks.bi h.bi; bi_since = if h.marks.bi then g else h.bi_since }
