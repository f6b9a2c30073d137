-- Buckets at the front of frames.
use Rattle.std.specs.Prelude.{ℕ, ◌++◌, List, [], Option, Some, None, take, drop, unwrap_or, slice_index_or, slice_set}
use Rattle.bucket_page.specs.declared.kind.PageKind.{PageKind}
use Rattle.bucket_page.specs.Pages.{slots_of, next_of}

-- the bytes of a frame
abbrev pub frame_bytes : List (Option (List ℕ)) → ℕ → List ℕ
frame_bytes pool f = unwrap_or (slice_index_or pool f None) []

-- the bucket of so many bytes in a frame
abbrev pub bucket_in : List (Option (List ℕ)) → ℕ → ℕ → List ℕ
bucket_in pool f size = take size (frame_bytes pool f)

-- its slots
abbrev pub slots_in : PageKind → List (Option (List ℕ)) → ℕ → ℕ → List (List ℕ)
slots_in kind pool f size = slots_of kind (bucket_in pool f size)

-- and its next bucket
abbrev pub next_in : List (Option (List ℕ)) → ℕ → ℕ → ℕ
next_in pool f size = next_of (bucket_in pool f size)

-- the pool, with another bucket in a frame: what stands behind it there and all other frames are as they were
abbrev pub with_bucket_in : List (Option (List ℕ)) → ℕ → ℕ → List ℕ → List (Option (List ℕ))
with_bucket_in pool f size bucket = slice_set pool f (Some (bucket ++ drop size (frame_bytes pool f)))
