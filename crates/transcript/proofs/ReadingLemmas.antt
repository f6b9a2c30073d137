-- Bytes from those pending onto a line, and what a call of next tells.
use Rattle.std.proofs.Common.{◌≡◌, ◌≢◌, ◌⊎◌, ℕ, ◌+◌, ◌-◌, ◌<◌, ◌≤◌, List, [], ◌∷◌, ◌++◌, take, set, get_or, length, slice_range, refl, sym, ◌∙◌, ap, append_assoc, append-nil, arith, add-one, suc, Option, Some, None, true, false, inl, inr}
use Rattle.std.proofs.Math.Seq.{drop-cons}
use Rattle.std.proofs.lemmas.Grind.{common_steps, get_or_default_zero}
use Rattle.std.proofs.lemmas.List.{take_more_set}
use Rattle.std.specs.Option.{option_map, IfSome}
use Rattle.emitter_model.specs.transcript_model.Outside.{ahead}
use Rattle.emitter_model.specs.transcript_model.Script.{ScriptLine, HasNoFeed, lines_of, BeginsTooLong}
use Rattle.emitter_model.proofs.transcript_model.ScriptLemmas.{no_feed_on, line_to_feed, line_to_end, line_too_long, script_too_long}

pub range_cons : (xs : List ℕ) (i j : ℕ) → i < j → j ≤ length xs → slice_range xs i j ≡ get_or xs i 0 ∷ slice_range xs (i + 1) j
range_cons xs i j h k =
    let e : j - i ≡ suc (j - (i + 1)) = omega arith in
    let within : i < length xs = omega arith in
    rw (e, drop-cons xs i 0 within, add-one) refl

pub range_none : (xs : List ℕ) (i j : ℕ) → j ≤ i → slice_range xs i j ≡ []
range_none xs i j h = let e : j - i ≡ 0 = omega arith in rw e refl

pub length-range : (xs : List ℕ) (i j : ℕ) → j ≤ length xs → length (slice_range xs i j) ≡ j - i
length-range xs i j h = grind (arith, common_steps)

pub byte_ahead : (xs : List ℕ) (i j b : ℕ) → b ≡ get_or xs i 0 → i < j → j ≤ length xs → slice_range xs i j ≡ b ∷ slice_range xs (i + 1) j
byte_ahead xs i j b is h k = rw (is, range_cons xs i j h k) refl

-- what an index reads
pub byte_at : (bytes : List ℕ) (i b : ℕ) → b ≡ get_or bytes i b → i < length bytes → b ≡ get_or bytes i 0
byte_at bytes i b e h = e ∙ get_or_default_zero bytes i b h

-- the byte goes onto the line
pub byte_moved : (whole line bytes : List ℕ) (u i j b : ℕ) → whole ≡ take u line ++ slice_range bytes i j → b ≡ get_or bytes i 0 → u < length line → i < j → j ≤ length bytes →
    whole ≡ take (u + 1) (set line u b) ++ slice_range bytes (i + 1) j
byte_moved whole line bytes u i j b e is hu hi hj =
    e ∙ rw (range_cons bytes i j hi hj, ← is, take_more_set line u b hu) (sym (append_assoc (take u line) (b ∷ []) (slice_range bytes (i + 1) j)))

-- the byte that stands first
pub byte_first : (whole line bytes : List ℕ) (i j b : ℕ) → whole ≡ line ++ slice_range bytes i j → b ≡ get_or bytes i 0 → i < j → j ≤ length bytes →
    whole ≡ line ++ (b ∷ slice_range bytes (i + 1) j)
byte_first whole line bytes i j b e is hi hj = e ∙ rw (range_cons bytes i j hi hj, ← is) refl

pub no_feed_more : (line : List ℕ) (u b : ℕ) → u < length line → b ≢ 10 → HasNoFeed (take u line) → HasNoFeed (take (u + 1) (set line u b))
no_feed_more line u b hu ne h = rw (take_more_set line u b hu) (no_feed_on (take u line) (b ∷ []) h (ne, tt))

pub length_taken : (line : List ℕ) (u : ℕ) → u ≤ length line → length (take u line) ≡ u
length_taken line u h = grind (arith, common_steps)

-- what is told at a line feed
pub tells_feed : (whole left : Option (List ℕ)) (got text rest begun pend : List ℕ) (line : ScriptLine) → whole ≡ ahead got left → got ≡ text ++ (10 ∷ rest) → HasNoFeed text →
    line ≡ record { text = text; ended = true } → begun ≡ [] → pend ≡ rest →
    option_map lines_of whole ≡ option_map (λ more. line ∷ more) (option_map lines_of (ahead (begun ++ pend) left))
tells_feed whole None got text rest begun pend line e is h l b p = rw e refl
tells_feed whole (Some x) got text rest begun pend line e is h l b p = rw (e, is, l, b, p) (ap Some (rw (append_assoc text (10 ∷ rest) x) (line_to_feed text (rest ++ x) h)))

-- of a line that is too long, or ends too late in the script
pub tells_long : (before taken : ℕ) (whole left : Option (List ℕ)) (got line pend : List ℕ) (y : ℕ) (ys : List ℕ) → whole ≡ ahead got left → got ≡ line ++ pend → pend ≡ y ∷ ys → HasNoFeed line →
    ((y ≢ 10) × (length line ≡ 20000)) ⊎ (taken + length line ≡ 67108864) → taken ≡ before → IfSome (option_map lines_of whole) (BeginsTooLong before)
tells_long before taken whole None got line pend y ys e is first h long same = rw e tt
tells_long before taken whole (Some x) got line pend y ys e is first h (inl long) same = rw (e, is, first, append_assoc line (y ∷ ys) x) (line_too_long before line y (ys ++ x) h long.0 long.1)
tells_long before taken whole (Some x) got line pend y ys e is first h (inr long) same = rw (e, is, first, append_assoc line (y ∷ ys) x) (script_too_long before line y (ys ++ x) h (omega (arith, long, same)))

last_line : (line : List ℕ) → HasNoFeed line → 0 < length line → lines_of line ≡ record { text = line; ended = false } ∷ []
last_line [] h n = absurd (omega arith)
last_line (x ∷ xs) h n = line_to_end x xs h

-- of a last line without a line feed
pub tells_last : (whole old new : Option (List ℕ)) (got text begun pend : List ℕ) (line : ScriptLine) → whole ≡ ahead got old → got ≡ text → old ≡ ahead [] new → IfSome old (λ r. r ≡ []) → HasNoFeed text → 0 < length text →
    line ≡ record { text = text; ended = false } → begun ≡ [] → pend ≡ [] →
    option_map lines_of whole ≡ option_map (λ more. line ∷ more) (option_map lines_of (ahead (begun ++ pend) new))
tells_last whole old None got text begun pend line e is o end h n l b p = rw (e, o) refl
tells_last whole old (Some x) got text begun pend line e is o end h n l b p =
    let empty : x ≡ [] = rw o at end in
    rw (e, is, o, l, b, p, empty, append-nil) (ap Some (last_line text h n))
