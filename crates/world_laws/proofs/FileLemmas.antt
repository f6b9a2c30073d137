-- What holds of each file that is found in a directory, after a change of one, of all, or with one more.
use Rattle.std.proofs.Common.{◌≡◌, ℕ, zero, suc, List, map, Bool, true, false, Option, Some, None, if◌then◌else◌, refl, sym, ◌∙◌, ap, subst}
use Rattle.std.specs.Prelude.{replicate, slice_set}
use Rattle.std.specs.Str.{bytes_eq}
use Rattle.std.specs.Option.{option_map}
use Rattle.std.proofs.lemmas.Slice.Eq.{bytes_eq-Decides}
use Rattle.run_model.specs.World.{File, find_file, free_place, with_file}
use Rattle.world_laws.specs.Running.{AllFound}
use Rattle.world_laws.proofs.FindLemmas.{mapped_file, placed_file, some_is}
use Rattle.world_laws.proofs.HeldLemmas.{file_after}

-- Files of a directory.

pub found_changed : (P Q : List ℕ → File → Type 0) (other : List ℕ) (change : File → File) (fs : List (Option File)) → ((f : File) → (change f).name ≡ f.name) → ((f : File) → find_file other fs ≡ Some f → P other f → Q other (change f)) →
    ((file : List ℕ) (f : File) → P file f → Q file f) → AllFound P fs → AllFound Q (with_file other change fs)
found_changed P Q other change fs named here elsewhere h file f e = go (bytes_eq other file) refl (sym (file_after file other change fs named) ∙ e)
  where
    at : (o : Option File) → find_file file fs ≡ o → other ≡ file → ◌≡◌ {A = Option File} (option_map change o) (Some f) → Q file f
    at (Some g) found is k = subst (Q file) (some_is (change g) f k) (subst (λ y. Q y (change g)) is (here g (ap (λ y. find_file y fs) is ∙ found) (subst (λ y. P y g) (sym is) (h file g found))))
    at None found is k = let none : ⊥ = cc in absurd none

    go : (b : Bool) → bytes_eq other file ≡ b → ◌≡◌ {A = Option File} (if b then option_map change (find_file file fs) else find_file file fs) (Some f) → Q file f
    go true t k = at (find_file file fs) refl ((bytes_eq-Decides other file).0 t) k
    go false t k = elsewhere file f (h file f k)

pub found_mapped : (P Q : List ℕ → File → Type 0) (change : File → File) (fs : List (Option File)) → ((f : File) → (change f).name ≡ f.name) → ((file : List ℕ) (f : File) → find_file file fs ≡ Some f → P file f → Q file (change f)) →
    AllFound P fs → AllFound Q (map (option_map change) fs)
found_mapped P Q change fs named each h file f e = go (find_file file fs) refl (sym (mapped_file file change fs named) ∙ e)
  where
    go : (o : Option File) → find_file file fs ≡ o → ◌≡◌ {A = Option File} (option_map change o) (Some f) → Q file f
    go (Some g) found k = subst (Q file) (some_is (change g) f k) (each file g found (h file g found))
    go None found k = let none : ⊥ = cc in absurd none

pub found_placed : (P : List ℕ → File → Type 0) (f : File) (fs : List (Option File)) (place : ℕ) → find_file f.name fs ≡ None → free_place fs ≡ Some place → P f.name f → AllFound P fs → AllFound P (slice_set fs place (Some f))
found_placed P f fs place none free k h file g e = go (bytes_eq file f.name) refl (sym (placed_file file f fs place free none) ∙ e)
  where
    go : (b : Bool) → bytes_eq file f.name ≡ b → ◌≡◌ {A = Option File} (if b then Some f else find_file file fs) (Some g) → P file g
    go true t e = subst (P file) (some_is f g e) (subst (λ y. P y f) (sym ((bytes_eq-Decides file f.name).0 t)) k)
    go false t e = h file g e

pub none_empty : (k : ℕ) (file : List ℕ) (f : File) → find_file file (replicate k None) ≡ Some f → ⊥
none_empty zero file f e = let none : ⊥ = cc in none
none_empty (suc k) file f e = none_empty k file f e
