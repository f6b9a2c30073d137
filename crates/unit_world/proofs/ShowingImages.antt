-- The entries of a file's journals of images can be shown.
use Rattle.std.proofs.Common.{◌≡◌, ◌≤◌, ◌<◌, ◌^◌, ℕ, List, [], Bool, true, false, Option, Some, None, if◌then◌else◌, length, sym, ◌∙◌, ap, subst, arith}
use Rattle.std.specs.Prelude.{◌==◌}
use Rattle.std.specs.Int.{w32, to_le_bytes, from_le_bytes}
use Rattle.std.specs.List.{AllByRecursion}
use Rattle.extents.specs.file_base.declared.head.FileHead.{FileHead}
use Rattle.extents.specs.file_base.declared.head.Organization.{Organization}
use Rattle.extents.specs.file_base.declared.head.Organization.TheVariants.{Sequential, Relative, Indexed}
use Rattle.vms_model.specs.Keys.{Key, Number, Text, End}
use Rattle.recovery_units.specs.volume.declared.catalog.Catalog.{Catalog}
use Rattle.recovery_units.specs.unit_entries.Keys.{key_in}
use Rattle.volume_laws.specs.file_images.Images.{IsOf, key_bytes}
use Rattle.recovery_units.specs.recovery_model.Journal.{Entry, Changed, Settled}
use Rattle.recovery_units.specs.recovery_model.File.{ImageJournal, all_of}
use Rattle.recovery_units.specs.run_model.World.{File, Node, find_file}
use Rattle.recovery_units.specs.world_laws.Nodes.{IsTellingBy, IsUp}
use Rattle.volume_laws.specs.directory_model.Files.{IsCarried, IsNamed}
use Rattle.volume_laws.proofs.directory_model.Finding.{finds_files}
use Rattle.volume_laws.proofs.restart_laws.ListLemmas.{both_as}
use Rattle.recovery_units.specs.volume_model.Volumes.{HasVolume}
use Rattle.recovery_units.specs.State.{IsImageShowable, IsKeyBy}

-- Keys.

abbrev number_of : Option Key → ℕ
number_of (Some (Number n)) = n
number_of _ = 0

-- a number that its spelling stands for is one of 32 bits
number_again : (n : ℕ) → key_in Sequential (to_le_bytes w32 n) ≡ Some (Number n) → n < 2 ^ 32
number_again n e = let same : from_le_bytes w32 (to_le_bytes w32 n) ≡ n = ap number_of e in omega (arith, same)

-- no other key is spelled as a number
not_text : (t : Bool) (n : ℕ) (bytes : List ℕ) → ◌≡◌ {A = Option Key} (if t then Some (Number n) else None) (Some (Text bytes)) → ⊥
not_text true n bytes e = cc
not_text false n bytes e = cc

not_end : (t : Bool) (n : ℕ) → ◌≡◌ {A = Option Key} (if t then Some (Number n) else None) (Some End) → ⊥
not_end true n e = cc
not_end false n e = cc

key_by : (o : Organization) (k : Key) → key_in o (key_bytes k) ≡ Some k → IsKeyBy o k
key_by Sequential (Number n) e = number_again n e
key_by Sequential (Text bytes) e = absurd (not_text (length bytes == 4) (from_le_bytes w32 bytes) bytes e)
key_by Sequential End e = absurd (not_end (0 == 4) (from_le_bytes w32 []) e)
key_by Relative (Number n) e = number_again n e
key_by Relative (Text bytes) e = absurd (not_text (length bytes == 4) (from_le_bytes w32 bytes) bytes e)
key_by Relative End e = absurd (not_end (0 == 4) (from_le_bytes w32 []) e)
key_by Indexed (Number n) e = let no : ⊥ = cc in absurd no
key_by Indexed (Text bytes) e = tt
key_by Indexed End e = let no : ⊥ = cc in absurd no

-- Entries.

shown : (o : Organization) (moment greatest : ℕ) (e : Entry) → moment ≡ greatest → IsOf o e → IsTellingBy moment e → IsImageShowable o greatest e
shown o moment greatest (Changed serial key value) same of by = key_by o key of
shown o moment greatest (Settled serial outcome at) same of by = subst (λ m. at ≤ m) same by

pub shows_images : (content : List (List ℕ)) (v : Catalog) (n : Node) (f : ℕ) (h : FileHead) (name : List ℕ) (file : File) → HasVolume content v n → IsUp n → IsNamed v.heads f h name → find_file name n.durable.directory ≡ Some file →
    AllByRecursion (IsImageShowable h.organization v.home.greatest_moment.0) (all_of file.carried.after.entries) × AllByRecursion (IsImageShowable h.organization v.home.greatest_moment.0) (all_of file.carried.before.entries)
shows_images content v n f h name file has up named found =
    let at = finds_files.found content v.heads n.durable.directory f h name has.files named in
    let one : at.0 ≡ file = same_file (sym at.2.found ∙ found) in
    let carried : IsCarried content f h file.carried = subst (λ (x : File). IsCarried content f h x.carried) one at.3 in
    let by = up.filed.moments name file found in
    (each file.carried.after carried.after.of by.after, each file.carried.before carried.before.of by.before)
  where
    same_file : {a b : File} → ◌≡◌ {A = Option File} (Some a) (Some b) → a ≡ b
    same_file e = cc

    each : (j : ImageJournal) → AllByRecursion (IsOf h.organization) (all_of j.entries) → AllByRecursion (IsTellingBy n.durable.greatest) (all_of j.entries) → AllByRecursion (IsImageShowable h.organization v.home.greatest_moment.0) (all_of j.entries)
    each j of by = both_as (IsOf h.organization) (IsTellingBy n.durable.greatest) (IsImageShowable h.organization v.home.greatest_moment.0) (all_of j.entries) (λ e. shown h.organization n.durable.greatest v.home.greatest_moment.0 e has.home.greatest) of by
