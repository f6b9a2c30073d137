-- What is found in a directory: files by their names, and places.
use Rattle.std.proofs.Common.{◌≡◌, ℕ, zero, suc, ◌<◌, List, [], ◌∷◌, length, true, false, Option, Some, None, if◌then◌else◌, refl, sym, ap, ◌∙◌, arith}
use Rattle.std.specs.Option.{option_map}
use Rattle.std.specs.Str.{bytes_eq}
use Rattle.std.proofs.lemmas.Bool.{false_from_ne_true}
use Rattle.std.proofs.lemmas.Slice.Eq.{bytes_eq-Decides}
use Rattle.extents.specs.file_base.declared.head.FileHead.{FileHead}
use Rattle.file_images.specs.run_model.World.{File, find_file, free_place, with_file}
use Rattle.directory_model.specs.Files.{AreFiles, NoneNamed, IsFoundAt, file_at}
use Rattle.directory_model.specs.Laws.{FindsFiles, FindsPlaces}
use Rattle.directory_model.proofs.Places.{file_there, head_there, no_file_there, no_head_there}

-- no file of a lower place has this name
abbrev pub NoneCalled : List (Option File) → ℕ → List ℕ → Type 0
NoneCalled directory f name = (g : ℕ) (other : File) → g < f → file_at directory g ≡ Some other → other.name ≡ name → ⊥

-- a name that is not the file's
not_called : (name other : List ℕ) → (other ≡ name → ⊥) → bytes_eq name other ≡ false
not_called name other differs = false_from_ne_true _ (λ same. differs (sym ((bytes_eq-Decides name other).0 same)))

is_called : (name other : List ℕ) → other ≡ name → bytes_eq name other ≡ true
is_called name other same = (bytes_eq-Decides name other).1 (sym same)

-- the file of the lowest place that has this name
pub found_at : (name : List ℕ) (directory : List (Option File)) (f : ℕ) (file : File) → file_at directory f ≡ Some file → file.name ≡ name → NoneCalled directory f name → IsFoundAt name directory f file
found_at name [] f file there called lowest = let none : ⊥ = cc in absurd none
found_at name (None ∷ directory) zero file there called lowest = let none : ⊥ = cc in absurd none
found_at name (Some other ∷ directory) zero file there called lowest =
    let same : other ≡ file = cc in
    let test : bytes_eq name other.name ≡ true = is_called name other.name (ap (λ (x : File). x.name) same ∙ called) in
    record {
      found = ap (λ b. if b then Some other else find_file name directory) test ∙ ap Some same;
      there = there;
      changed = λ change. ap (λ b. if b then Some (change other) ∷ directory else Some other ∷ with_file name change directory) test ∙ ap (λ x. Some (change x) ∷ directory) same;
    }
found_at name (None ∷ directory) (suc f) file there called lowest =
    let more = found_at name directory f file there called (λ g other below. lowest (suc g) other (omega arith)) in
    record { found = more.found; there = there; changed = λ change. ap (λ fs. None ∷ fs) (more.changed change) }
found_at name (Some first ∷ directory) (suc f) file there called lowest =
    let more = found_at name directory f file there called (λ g other below. lowest (suc g) other (omega arith)) in
    let test : bytes_eq name first.name ≡ false = not_called name first.name (lowest 0 first (omega arith) refl) in
    record {
      found = ap (λ b. if b then Some first else find_file name directory) test ∙ more.found;
      there = there;
      changed = λ change. ap (λ b. if b then Some (change first) ∷ directory else Some first ∷ with_file name change directory) test ∙ ap (λ fs. Some first ∷ fs) (more.changed change);
    }

none_found : (name : List ℕ) (directory : List (Option File)) → NoneCalled directory (length directory) name → find_file name directory ≡ None
none_found name [] none = refl
none_found name (None ∷ directory) none = none_found name directory (λ g other below. none (suc g) other (omega arith))
none_found name (Some first ∷ directory) none =
    ap (λ b. if b then Some first else find_file name directory) (not_called name first.name (none 0 first (omega arith) refl))
    ∙ none_found name directory (λ g other below. none (suc g) other (omega arith))

-- names of heads are names of files
none_called : (content : List (List ℕ)) (heads : List (Option FileHead)) (directory : List (Option File)) (f : ℕ) (name : List ℕ) → AreFiles content heads directory → NoneNamed heads f name → NoneCalled directory f name
none_called content heads directory f name are none g other below there called =
    let head = head_there content heads directory g other are there in
    none g head.0 below head.1 (sym head.2.head.name ∙ called)

pub finds_files : FindsFiles
finds_files = record {
  found = λ content heads directory f h name are named.
      let file = file_there content heads directory f h are named.there in
      (file.0, file.2, found_at name directory f file.0 file.1 (file.2.head.name ∙ named.called) (none_called content heads directory f name are named.lowest), file.3);
  none = λ content heads directory name are none.
      none_found name directory (none_called content heads directory (length directory) name are (λ g other below. none g other (let long = are.directory_long in omega arith)));
}

-- Places.

lowest_free : (directory : List (Option File)) (f : ℕ) → f < length directory → file_at directory f ≡ None → ((g : ℕ) → g < f → file_at directory g ≡ None → ⊥) → free_place directory ≡ Some f
lowest_free [] f within free lowest = absurd (omega arith)
lowest_free (None ∷ directory) zero within free lowest = refl
lowest_free (None ∷ directory) (suc f) within free lowest = absurd (lowest 0 (omega arith) refl)
lowest_free (Some file ∷ directory) zero within free lowest = let none : ⊥ = cc in absurd none
lowest_free (Some file ∷ directory) (suc f) within free lowest = ap (option_map suc) (lowest_free directory f (omega arith) free (λ g below. lowest (suc g) (omega arith)))

none_free : (directory : List (Option File)) → ((g : ℕ) → g < length directory → file_at directory g ≡ None → ⊥) → free_place directory ≡ None
none_free [] none = refl
none_free (None ∷ directory) none = absurd (none 0 (omega arith) refl)
none_free (Some file ∷ directory) none = ap (option_map suc) (none_free directory (λ g below. none (suc g) (omega arith)))

pub finds_places : FindsPlaces
finds_places = record {
  lowest = λ content heads directory f are within free lowest. lowest_free directory f (let long = are.directory_long in omega arith) (no_file_there content heads directory f are free)
      (λ g below none. lowest g below (no_head_there content heads directory g are none));
  none = λ content heads directory are none. none_free directory (λ g below free. none g (let long = are.directory_long in omega arith) (no_head_there content heads directory g are free));
}
