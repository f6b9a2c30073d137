-- The failing conditions of a content, as a list.
use Rattle.std.specs.Prelude.{◌≡◌, ◌<◌, ◌≤◌, ◌⊎◌, ◌+◌, ◌-◌, ◌*◌, ℕ, Bool, List, [], ◌∷◌, Option, Some, None, length, slice_set, ⊤}
use Rattle.std.specs.List.{All, Contains}
use Rattle.careful_write.specs.block_disk.Blocks.{block_at}
use Rattle.file_base.specs.vms_model.Blocks.{directory_start}
use Rattle.file_base.specs.declared.head.FileHead.{FileHead}
use Rattle.extents.specs.declared.extent.Extent.{Extent}
use Rattle.extents.specs.Extents.{FitsAt}
use Rattle.volume.specs.declared.load.Finding.{Finding}
use Rattle.volume.specs.declared.load.LoadErr.{LoadErr}
use Rattle.volume.specs.declared.load.LoadErr.TheVariants.{Finding as found_one, Down}
use Rattle.volume.specs.Limits.{EntryFits}
use Rattle.volume.specs.Catalogs.{TellsEntry, head_at}
use Rattle.volume.specs.Conditions.{IsNamed, Meets, IsTested, IsFinding, IsFirstFinding}
use Rattle.volume.specs.Findings.{Ascends, first_thousand, with_finding}
use Rattle.volume.specs.Load.{EntryFound, EntryMisses}

-- the condition of a number fails at a block
abbrev pub fails_at : ℕ → ℕ → Finding
fails_at number block = record { number = number; block = block }

-- all conditions of lower numbers hold
abbrev pub LowerMeet : List ℕ → Bool → List (List ℕ) → ℕ → Type 0
LowerMeet node fits content number = (n b : ℕ) → n < number → IsTested n b → Meets node fits content n b

-- the failing conditions of a content, ascending: each fails where no condition of a lower number fails, and no other does.
-- A condition rests on those of lower numbers, so it is not tested where one of them fails.
pub record ListsFindings (node : List ℕ) (fits : Bool) (content : List (List ℕ)) (found : List Finding) : Type 0 where
  pub ascends : Ascends found
  pub fails : All (λ x. IsFinding node fits content x.number x.block) found
  pub whole : (number block : ℕ) → IsTested number block → LowerMeet node fits content number → Contains found (fails_at number block) ⊎ Meets node fits content number block

-- a list is that of the failing conditions: its first is the lowest failing condition at its lowest block
abbrev pub FirstIsFirst : Type 0
FirstIsFirst = (node : List ℕ) (fits : Bool) (content : List (List ℕ)) (x : Finding) (rest : List Finding) → ListsFindings node fits content (x ∷ rest) → IsFirstFinding node fits content x.number x.block

-- where a condition fails first, the list of the failing ones begins with it
abbrev pub BeginsWithFirst : Type 0
BeginsWithFirst = (node : List ℕ) (fits : Bool) (content : List (List ℕ)) (found : List Finding) (number block : ℕ) → ListsFindings node fits content found → IsFirstFinding node fits content number block
    → (rest : List Finding) × (found ≡ fails_at number block ∷ rest)

-- no condition fails exactly where all hold
abbrev pub EmptyIsValid : Type 0
EmptyIsValid = (node : List ℕ) (fits : Bool) (content : List (List ℕ)) → ListsFindings node fits content [] → (number block : ℕ) → IsTested number block → Meets node fits content number block

-- there is one such list
abbrev pub OneListing : Type 0
OneListing = (node : List ℕ) (fits : Bool) (content : List (List ℕ)) (found other : List Finding) → ListsFindings node fits content found → ListsFindings node fits content other → found ≡ other

-- what was found at the home is one of its three conditions
abbrev pub IsOfHome : LoadErr → Type 0
IsOfHome (found_one found) = found.number ≤ 3
IsOfHome (Down down) = ⊤

-- condition 4 at a file number, in a volume whose greatest moment is this
pub record IsEntered (greatest : ℕ) (content : List (List ℕ)) (f : ℕ) : Type 0 where
  pub entry : Option FileHead
  pub tells : TellsEntry (block_at content (1 + f)) entry
  pub fits : EntryFits greatest entry
  pub named : (h : FileHead) → entry ≡ Some h → IsNamed greatest content f h

-- condition 5 at a file number, said of these extents
abbrev pub LiesApart : Extent → List Extent → ℕ → Type 0
LiesApart area es f = (i : ℕ) → 4 * f ≤ i → i < 4 * f + 4 → FitsAt area es i

-- a finding of this number at one of the first directory blocks
pub record IsIn (number count : ℕ) (x : Finding) : Type 0 where
  pub number_is : x.number ≡ number
  pub from : directory_start ≤ x.block
  pub to : x.block < directory_start + count

-- the findings of one condition at the first directory blocks, ascending: those where it does not hold
pub record ListsTo (number : ℕ) (Holds : ℕ → Type 0) (count : ℕ) (found : List Finding) : Type 0 where
  pub ascends : Ascends found
  pub within : All (IsIn number count) found
  pub fails : All (λ x. Holds (x.block - directory_start) → ⊥) found
  pub whole : (f : ℕ) → f < count → Contains found (fails_at number (directory_start + f)) ⊎ Holds f
  pub few : length found ≤ count

-- a directory block was found, with its file; or it has none that fits under a new name
abbrev pub EntryTried : ℕ → List (Option FileHead) → ℕ → List ℕ → Type 0
EntryTried greatest heads f block = EntryFound greatest heads f block (head_at heads f) ⊎ ((head_at heads f ≡ None) × EntryMisses greatest heads f block)

-- so were the first of them
abbrev pub HeadsTried : ℕ → List (Option FileHead) → ℕ → List (List ℕ) → Type 0
HeadsTried greatest heads count content = (f : ℕ) → f < count → EntryTried greatest heads f (block_at content (1 + f))

-- a directory block was tried: its file is kept, or it was found that condition 4 fails there
abbrev pub TakesEntry : ℕ → ℕ → List ℕ → List (Option FileHead) → List (Option FileHead) → List Finding → List Finding → Type 0
TakesEntry greatest f block heads new found more =
    ((o : Option FileHead) × EntryFound greatest heads f block o × (new ≡ slice_set heads f o) × (more ≡ found))
    ⊎ (EntryMisses greatest heads f block × (new ≡ slice_set heads f None) × (more ≡ first_thousand (with_finding (fails_at 4 (directory_start + f)) found)))
