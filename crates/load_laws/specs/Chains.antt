-- Records in order in the slots of buckets, each of which is filled before the next.
use Rattle.std.specs.Prelude.{◌≡◌, ◌≤◌, ◌+◌, ℕ, zero, suc, Bool, true, false, List, [], ◌∷◌, ◌++◌, length, map, if◌then◌else◌, nat_le, nat_lt}
use Rattle.bucket_page.specs.declared.kind.PageKind.{PageKind}
use Rattle.bucket_page.specs.declared.kind.PageKind.TheVariants.{Seq, Rel, Data, Index}
use Rattle.bucket_page.specs.Pages.{u16_bytes, joined, no_next}
use Rattle.load_laws.specs.Pages.{Page, Slots}

-- the slot of a record: its length and its bytes; in an indexed file its room, which is its length, before these
abbrev pub raw_for : PageKind → List ℕ → List ℕ
raw_for Seq bytes = u16_bytes (length bytes) ++ bytes
raw_for (Data pos size) bytes = u16_bytes (length bytes) ++ (u16_bytes (length bytes) ++ bytes)
raw_for (Rel mrs) bytes = []
raw_for (Index size) bytes = []

-- slots in buckets, each filled before the next; the first slots stand in the one that is being filled
abbrev pub packed : ℕ → List (List ℕ) → List (List ℕ) → List (List (List ℕ))
packed cap now [] = now ∷ []
packed cap now (s ∷ ss) = if nat_le (length (joined (now ++ s ∷ []))) cap then packed cap (now ++ s ∷ []) ss else now ∷ packed cap (s ∷ []) ss

-- the same, but no bucket where there are no slots
abbrev pub parts_of : ℕ → List (List ℕ) → List (List (List ℕ))
parts_of cap [] = []
parts_of cap (s ∷ ss) = packed cap [] (s ∷ ss)

-- the bucket behind bucket n, where there is one to which it leads
abbrev pub next_for : PageKind → Bool → ℕ → ℕ
next_for (Data pos size) true n = suc n
next_for (Data pos size) false n = no_next
next_for Seq left n = no_next
next_for (Rel mrs) left n = no_next
next_for (Index size) left n = no_next

-- buckets with these slots, numbered from this one on
abbrev pub chain_pages : PageKind → ℕ → List (List (List ℕ)) → List Page
chain_pages kind n [] = []
chain_pages kind n (p ∷ ps) = Slots kind p (next_for kind (nat_lt 0 (length ps)) n) ∷ chain_pages kind (suc n) ps
