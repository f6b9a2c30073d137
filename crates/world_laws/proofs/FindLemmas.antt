-- What is found by its name: after a change, and what holds of it.
use Rattle.std.proofs.Common.{◌≡◌, ℕ, suc, List, [], ◌∷◌, map, Bool, true, false, Option, Some, None, if◌then◌else◌, refl, sym, ◌∙◌, ap, subst}
use Rattle.std.specs.Prelude.{slice_set}
use Rattle.std.specs.Str.{bytes_eq}
use Rattle.std.specs.Option.{option_map}
use Rattle.std.proofs.lemmas.Bool.{both_ways}
use Rattle.std.proofs.lemmas.Slice.Eq.{bytes_eq-Decides}
use Rattle.vms_model.specs.Ids.{Id}
use Rattle.run_model.specs.records_model.History.{same_id}
use Rattle.run_model.specs.commit_protocol.Table.{Branch}
use Rattle.run_model.specs.World.{File, find_file, find_branch, free_place, with_file}
use Rattle.world_laws.proofs.IdLemmas.{id_is}

-- texts test alike either way round
pub either_way : (xs ys : List ℕ) → bytes_eq xs ys ≡ bytes_eq ys xs
either_way xs ys = go (bytes_eq xs ys) (bytes_eq ys xs) refl refl
  where
    go : (a b : Bool) → bytes_eq xs ys ≡ a → bytes_eq ys xs ≡ b → a ≡ b
    go true true e f = refl
    go true false e f = absurd (both_ways _ f ((bytes_eq-Decides ys xs).1 (sym ((bytes_eq-Decides xs ys).0 e))))
    go false true e f = absurd (both_ways _ e ((bytes_eq-Decides xs ys).1 (sym ((bytes_eq-Decides ys xs).0 f))))
    go false false e f = refl

pub some_is : {A : Type 0} (x y : A) → Some x ≡ Some y → x ≡ y
some_is x y e = cc

-- Files.

pub changed_file : (file : List ℕ) (change : File → File) (files : List (Option File)) → ((f : File) → (change f).name ≡ f.name) → find_file file (with_file file change files) ≡ option_map change (find_file file files)
changed_file file change [] named = refl
changed_file file change (None ∷ files) named = changed_file file change files named
changed_file file change (Some g ∷ files) named = go (bytes_eq file g.name) refl (changed_file file change files named)
  where
    go : (b : Bool) → bytes_eq file g.name ≡ b → find_file file (with_file file change files) ≡ option_map change (find_file file files) →
        find_file file (if b then Some (change g) ∷ files else Some g ∷ with_file file change files) ≡ option_map change (if b then Some g else find_file file files)
    go true is more = rw (named g, is) refl
    go false is more = rw is more

pub other_file : (file other : List ℕ) (change : File → File) (files : List (Option File)) → ((f : File) → (change f).name ≡ f.name) → bytes_eq other file ≡ false → find_file file (with_file other change files) ≡ find_file file files
other_file file other change [] named apart = refl
other_file file other change (None ∷ files) named apart = other_file file other change files named apart
other_file file other change (Some g ∷ files) named apart = go (bytes_eq other g.name) refl (other_file file other change files named apart)
  where
    passed : bytes_eq other g.name ≡ true → bytes_eq file g.name ≡ false
    passed is = ap (bytes_eq file) (sym ((bytes_eq-Decides other g.name).0 is)) ∙ either_way file other ∙ apart

    go : (b : Bool) → bytes_eq other g.name ≡ b → find_file file (with_file other change files) ≡ find_file file files →
        ◌≡◌ {A = Option File} (find_file file (if b then Some (change g) ∷ files else Some g ∷ with_file other change files)) (if bytes_eq file g.name then Some g else find_file file files)
    go true is more = rw (named g, passed is) refl
    go false is more = ap (λ o. if bytes_eq file g.name then Some g else o) more

pub mapped_file : (file : List ℕ) (change : File → File) (files : List (Option File)) → ((f : File) → (change f).name ≡ f.name) → find_file file (map (option_map change) files) ≡ option_map change (find_file file files)
mapped_file file change [] named = refl
mapped_file file change (None ∷ files) named = mapped_file file change files named
mapped_file file change (Some g ∷ files) named =
    subst (λ t. ◌≡◌ {A = Option File} (if t then Some (change g) else find_file file (map (option_map change) files)) (option_map change (find_file file (Some g ∷ files)))) (sym (ap (bytes_eq file) (named g)))
    (go (bytes_eq file g.name) (mapped_file file change files named))
  where
    go : (b : Bool) → find_file file (map (option_map change) files) ≡ option_map change (find_file file files) →
        ◌≡◌ {A = Option File} (if b then Some (change g) else find_file file (map (option_map change) files)) (option_map change (if b then Some g else find_file file files))
    go true more = refl
    go false more = more

-- a new file is found by its name, and the others as before
pub placed_file : (file : List ℕ) (f : File) (files : List (Option File)) (place : ℕ) → free_place files ≡ Some place → find_file f.name files ≡ None →
    find_file file (slice_set files place (Some f)) ≡ (if bytes_eq file f.name then Some f else find_file file files)
placed_file file f [] place free none = let no : ⊥ = cc in absurd no
placed_file file f (None ∷ files) place free none =
    let first : place ≡ 0 = cc in
    subst (λ p. find_file file (slice_set (None ∷ files) p (Some f)) ≡ (if bytes_eq file f.name then Some f else find_file file files)) (sym first) refl
placed_file file f (Some g ∷ files) place free none = at (free_place files) refl free (apart (bytes_eq f.name g.name) refl none) (λ p k e. placed_file file f files p k e)
  where
    apart : (b : Bool) → bytes_eq f.name g.name ≡ b → ◌≡◌ {A = Option File} (if b then Some g else find_file f.name files) None → (bytes_eq f.name g.name ≡ false) × (find_file f.name files ≡ None)
    apart true is k = let no : ⊥ = cc in absurd no
    apart false is k = (is, k)

    other : bytes_eq f.name g.name ≡ false → bytes_eq file g.name ≡ true → bytes_eq file f.name ≡ false
    other is k = ap (λ x. bytes_eq x f.name) ((bytes_eq-Decides file g.name).0 k) ∙ either_way g.name f.name ∙ is

    go : (b : Bool) (p : ℕ) → bytes_eq file g.name ≡ b → bytes_eq f.name g.name ≡ false → find_file file (slice_set files p (Some f)) ≡ (if bytes_eq file f.name then Some f else find_file file files) →
        ◌≡◌ {A = Option File} (if b then Some g else find_file file (slice_set files p (Some f))) (if bytes_eq file f.name then Some f else (if b then Some g else find_file file files))
    go true p is k more = rw (other k is) refl
    go false p is k more = more

    at : (o : Option ℕ) → free_place files ≡ o → option_map suc o ≡ Some place → (bytes_eq f.name g.name ≡ false) × (find_file f.name files ≡ None) →
        ((p : ℕ) → free_place files ≡ Some p → find_file f.name files ≡ None → find_file file (slice_set files p (Some f)) ≡ (if bytes_eq file f.name then Some f else find_file file files)) →
        find_file file (slice_set (Some g ∷ files) place (Some f)) ≡ (if bytes_eq file f.name then Some f else find_file file (Some g ∷ files))
    at (Some p) is k parts more =
        subst (λ q. find_file file (slice_set (Some g ∷ files) q (Some f)) ≡ (if bytes_eq file f.name then Some f else find_file file (Some g ∷ files))) (some_is (suc p) place k)
        (go (bytes_eq file g.name) p refl parts.0 (more p is parts.1))
    at None is k parts more = let no : ⊥ = cc in absurd no

-- Branches.

pub found_serial : (serial : Id) (bs : List Branch) (b : Branch) → find_branch serial bs ≡ Some b → serial ≡ b.key.serial
found_serial serial [] b e = let none : ⊥ = cc in absurd none
found_serial serial (a ∷ bs) b e = go (same_id serial a.key.serial) refl (found_serial serial bs b) e
  where
    go : (t : Bool) → same_id serial a.key.serial ≡ t → (find_branch serial bs ≡ Some b → serial ≡ b.key.serial) → ◌≡◌ {A = Option Branch} (if t then Some a else find_branch serial bs) (Some b) → serial ≡ b.key.serial
    go true is more k = let same : a ≡ b = cc in id_is serial a.key.serial is ∙ ap (λ (x : Branch). x.key.serial) same
    go false is more k = more k
