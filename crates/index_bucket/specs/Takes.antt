-- An index bucket that takes entries.
use Rattle.std.specs.Prelude.{◌≡◌, ◌≤◌, ◌<◌, ◌+◌, ◌/◌, ℕ, Bool, true, false, List, [], ◌∷◌, length, map, take, drop}
use Rattle.file_base.specs.declared.head.FileHead.{FileHead}
use Rattle.bucket_page.specs.declared.kind.PageKind.{PageKind}
use Rattle.bucket_page.specs.Pages.{no_next, next_of, Packs}
use Rattle.index_model.specs.Indexes.{Entry, with_added}
use Rattle.index_bucket.specs.declared.hand.Handed.{Handed}
use Rattle.index_bucket.specs.declared.hand.Handed.TheVariants.{One, Two}
use Rattle.index_bucket.specs.Entries.{index_kind, sizes_of, entry_of, entries_at}

-- a bucket took entries and has all of them, where they are not too many; else another one has the upper half, which is the greater one
pub data Takes (kind : PageKind) (size fan_out next : ℕ) (all : List (List ℕ)) (parted : Bool) (low high : List ℕ) : Type 0 where
  whole : parted ≡ false → length all ≤ fan_out → Packs kind size all next low → Takes kind size fan_out next all parted low high
  halved : parted ≡ true → fan_out < length all → Packs kind size (take (length all / 2) all) next low → Packs kind size (drop (length all / 2) all) no_next high → Takes kind size fan_out next all parted low high

-- the entries that are handed up, each at the front of its bytes
abbrev pub entries_of : FileHead → Handed → List Entry
entries_of h (One first) = entry_of h (take (h.key_size + 4) first) ∷ []
entries_of h (Two first second) = entry_of h (take (h.key_size + 4) first) ∷ entry_of h (take (h.key_size + 4) second) ∷ []

-- a bucket took entries behind the one that a key leads to
pub record TakesIn (h : FileHead) (size : ℕ) (k : List ℕ) (added : List Entry) (old : List ℕ) (parted : Bool) (low high : List ℕ) : Type 0 where
  pub raws : List (List ℕ)
  pub entries : map (entry_of h) raws ≡ with_added k added (entries_at h old)
  pub takes : Takes (index_kind h) size (sizes_of h).fan_out (next_of old) raws parted low high
