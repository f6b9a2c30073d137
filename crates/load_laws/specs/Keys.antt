-- The lowest keys of buckets.
use Rattle.std.specs.Prelude.{◌≡◌, ℕ, zero, suc, List, [], ◌∷◌, ◌+◌, length, map, drop, replicate}
use Rattle.record_files.specs.file_base.declared.head.FileHead.{FileHead}
use Rattle.bucket_page.specs.Pages.{key_in}
use Rattle.record_files.specs.indexed_file.Chain.{kind_of}
use Rattle.index_bucket.specs.Entries.{sizes_of}
use Rattle.load_model.specs.Nodes.{nodes_over, all_nodes}
use Rattle.index_bucket.specs.index_model.Indexes.{Entry}
use Rattle.load_laws.specs.Pages.{Page, Entries}

-- the key of the first slot
abbrev pub first_raw_key : FileHead → List (List ℕ) → List ℕ
first_raw_key h [] = []
first_raw_key h (s ∷ ss) = key_in (kind_of h) s

-- the lowest keys of leaves with these slots: the first may hold all keys, each other one those from its first slot's on
abbrev pub lowest_keys : FileHead → List (List (List ℕ)) → List (List ℕ)
lowest_keys h [] = []
lowest_keys h (p ∷ ps) = replicate h.key_size 0 ∷ map (first_raw_key h) ps

-- every so many-th of these keys, from the first on; no more of them than a number
abbrev pub every : ℕ → ℕ → List (List ℕ) → List (List ℕ)
every step zero ks = []
every step (suc more) [] = []
every step (suc more) (k ∷ ks) = k ∷ every step more (drop step (k ∷ ks))

-- index buckets with these entries
abbrev pub entry_pages : List (List Entry) → List Page
entry_pages gs = map Entries gs

-- the pages of the index over buckets with these lowest keys, numbered from this one on
abbrev pub index_pages : FileHead → ℕ → List (List ℕ) → List Page
index_pages h first keys = entry_pages (all_nodes (nodes_over (sizes_of h).fan_out (length keys) first keys))

-- each of these keys has this size
abbrev pub AllKeys : ℕ → List (List ℕ) → Type 0
AllKeys size [] = Unit {0}
AllKeys size (k ∷ ks) = (length k ≡ size) × AllKeys size ks
