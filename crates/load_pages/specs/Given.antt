-- Records that are given, and their slots.
use Rattle.std.specs.Prelude.{◌≡◌, ◌≤◌, ◌+◌, ℕ, true, List, [], ◌∷◌, length}
use Rattle.vms_model.specs.Limits.{record_limit}
use Rattle.vms_base.specs.Keys.{key_of}
use Rattle.bucket_page.specs.declared.kind.PageKind.{PageKind}
use Rattle.bucket_page.specs.Pages.{suits}
use Rattle.load_laws.specs.Records.{Keyed}
use Rattle.load_laws.specs.Chains.{raw_for}
use Rattle.load_pages.specs.declared.records.KeyedRecord.{KeyedRecord}

-- a record under its key
abbrev pub keyed : KeyedRecord → Keyed
keyed r = (key_of r.key, r.bytes.items)

-- its slot
abbrev pub raw_of : PageKind → KeyedRecord → List ℕ
raw_of kind r = raw_for kind r.bytes.items

-- a record whose slot is of the kind and fits a bucket of so many bytes
pub record IsRaw (kind : PageKind) (size : ℕ) (r : KeyedRecord) : Type 0 where
  pub short : length r.bytes.items ≤ record_limit
  pub suit : suits kind (raw_of kind r) ≡ true
  pub fits : 16 + length (raw_of kind r) ≤ size

abbrev pub AllRaw : PageKind → ℕ → List KeyedRecord → Type 0
AllRaw kind size [] = Unit {0}
AllRaw kind size (r ∷ rs) = IsRaw kind size r × AllRaw kind size rs
