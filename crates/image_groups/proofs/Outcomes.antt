-- The outcome of a branch in the journals of each file that it changed.
use Rattle.std.proofs.Common.{◌≡◌, ℕ, suc, zero, ◌+◌, ◌<◌, ◌≤◌, Bool, true, false, List, [], ◌∷◌, Option, Some, None, length, map, slice_set, slice_index_or, refl, sym, ◌∙◌, ap, subst, arith, inl, inr, length-set, get_or-set_same, get_or-set_other}
use Rattle.std.specs.Prelude.{if◌then◌else◌}
use Rattle.std.specs.Option.{option_map}
use Rattle.std.proofs.lemmas.Bool.{cases_eq, cases_lt}
use Rattle.std.proofs.lemmas.List.{length-map}
use Rattle.extents.specs.declared.extent.Extent.{Extent as Area}
use Rattle.file_base.specs.declared.head.FileHead.{FileHead}
use Rattle.records_model.specs.History.{changed_it}
use Rattle.restart_laws.specs.run_model.World.{File, Settlement, settled_file, with_outcome}
use Rattle.image_room.specs.image_appends.declared.side.Side.{Side}
use Rattle.image_room.specs.image_appends.declared.side.Side.TheVariants.{After, Before}
use Rattle.image_room.specs.image_appends.Images.{files_grown, grown, heads_with, heads_with_both, is_kept}
use Rattle.image_room.specs.image_appends.Settling.{content_from, content_if, heads_from, heads_if}
use Rattle.restart_laws.specs.directory_model.Files.{AreFiles, IsPlace, file_at, head_at}
use Rattle.restart_laws.specs.directory_model.Laws.{carrying, settled_buckets, spelled_entry}
use Rattle.restart_laws.proofs.directory_model.Places.{behind_list, file_mapped, within_list}
use Rattle.image_groups.specs.Groups.{AllDressed, AreFitting, AreToldBy, Enters, EntersOutcome, EntersTold, HaveRoom, IsToldBy, MayEnter, MayTell, TellsOutcome, appended_to, outcome_of, told_file}
use Rattle.image_groups.proofs.Dressed.{all_after, all_same, sound_after, sound_same, tells_after, tells_same}
use Rattle.image_groups.proofs.Sides.{enters_both}

-- directories whose places are the same
files_alike : (c : List (List ℕ)) (area : Area) (heads : List (Option FileHead)) (d e : List (Option File)) → AreFitting c area heads d → length e ≡ 64 → ((f : ℕ) → file_at d f ≡ file_at e f) → AreFitting c area heads e
files_alike c area heads d e are long same = record {
  files = record { heads_long = are.files.heads_long; directory_long = long; each = λ f. subst (λ (o : Option File). IsPlace c f (head_at heads f) o) (same f) (are.files.each f) };
  fit = are.fit;
  behind = are.behind;
  whole = are.whole;
}

-- heads of other numbers stay
heads_grown : (heads : List (Option FileHead)) (o : Option FileHead) (f g n : ℕ) (side : Side) → (g ≡ f → ⊥) → head_at (files_grown o f side n heads) g ≡ head_at heads g
heads_grown heads None f g n side other = refl
heads_grown heads (Some h) f g n side other = kept (is_kept side h)
  where
    kept : (k : Bool) → head_at (if k then slice_set heads f (Some (grown side n h)) else heads) g ≡ head_at heads g
    kept true = get_or-set_other heads f g (Some (grown side n h)) None other
    kept false = refl

heads_both : (heads : List (Option FileHead)) (f g n : ℕ) → (g ≡ f → ⊥) → head_at (heads_with_both f n n heads) g ≡ head_at heads g
heads_both heads f g n other =
    heads_grown (heads_with f After n heads) (head_at (heads_with f After n heads) f) f g n Before other ∙ heads_grown heads (head_at heads f) f g n After other

heads_one : (heads : List (Option FileHead)) (takes : Bool) (f g n : ℕ) → (g ≡ f → ⊥) → head_at (heads_if takes f n heads) g ≡ head_at heads g
heads_one heads true f g n other = heads_both heads f g n other
heads_one heads false f g n other = refl

-- The outcome is put into the journals of each of the files from a number on.

abbrev bytes_of : Settlement → List ℕ
bytes_of s = spelled_entry 0 s.tid (outcome_of s)

-- where this tells so, there is a file that can be entered
record At (s : Settlement) (heads : List (Option FileHead)) (directory : List (Option File)) (f : ℕ) (takes : Bool) : Type 0 where
  there : takes ≡ true → (file : File) × (file_at directory f ≡ Some file)
  may : takes ≡ true → MayEnter After f heads s.tid (outcome_of s) × MayEnter Before f heads s.tid (outcome_of s)

abbrev Each : Settlement → List (Option FileHead) → List (Option File) → ℕ → List Bool → Type 0
Each s heads directory f [] = Unit {0}
Each s heads directory f (t ∷ ts) = At s heads directory f t × Each s heads directory (suc f) ts

each_later : (s : Settlement) (heads new : List (Option FileHead)) (directory after : List (Option File)) (f : ℕ) (ts : List Bool) → ((g : ℕ) → f ≤ g → head_at new g ≡ head_at heads g) → ((g : ℕ) → f ≤ g → file_at after g ≡ file_at directory g) →
    Each s heads directory f ts → Each s new after f ts
each_later s heads new directory after f [] same alike all = tt
each_later s heads new directory after f (t ∷ ts) same alike all = (
  record {
    there = λ on. let it = all.0.there on in (it.0, alike f (omega arith) ∙ it.1);
    may = λ on. let both = all.0.may on in ((λ h there. both.0 h (sym (same f (omega arith)) ∙ there)), (λ h there. both.1 h (sym (same f (omega arith)) ∙ there)));
  },
  each_later s heads new directory after (suc f) ts (λ g from. same g (omega (arith, from))) (λ g from. alike g (omega (arith, from))) all.1,
)

-- What becomes of the directory: the files before the number stay, and the others tell what this says.
record Result (area : Area) (s : Settlement) (c : List (List ℕ)) (heads : List (Option FileHead)) (directory : List (Option File)) (f : ℕ) (ts : List Bool) : Type 0 where
  after : List (Option File)
  enters : Enters c heads (content_from f ts (bytes_of s) heads c) area (heads_from f ts (length (bytes_of s)) heads) after
  lower : (g : ℕ) → g < f → file_at after g ≡ file_at directory g
  others : (i : ℕ) → file_at after (f + i) ≡ option_map (told_file (slice_index_or ts i false) s) (file_at directory (f + i))

told_nothing : (s : Settlement) (o : Option File) → o ≡ option_map (told_file false s) o
told_nothing s None = refl
told_nothing s (Some file) = refl

-- one number is passed over
passed_over : (area : Area) (s : Settlement) (c : List (List ℕ)) (heads : List (Option FileHead)) (directory : List (Option File)) (f : ℕ) (ts : List Bool) → Result area s c heads directory (suc f) ts → Result area s c heads directory f (false ∷ ts)
passed_over area s c heads directory f ts rest = record { after = rest.after; enters = rest.enters; lower = λ g below. rest.lower g (omega (arith, below)); others = at }
  where
    at : (i : ℕ) → file_at rest.after (f + i) ≡ option_map (told_file (slice_index_or (false ∷ ts) i false) s) (file_at directory (f + i))
    at zero = rest.lower (f + 0) (omega arith) ∙ told_nothing s (file_at directory (f + 0))
    at (suc i) = subst (λ g. file_at rest.after g ≡ option_map (told_file (slice_index_or ts i false) s) (file_at directory g)) (let e : suc f + i ≡ f + suc i = omega arith in e) (rest.others i)

-- one file tells the outcome
taken : (area : Area) (s : Settlement) (c : List (List ℕ)) (heads : List (Option FileHead)) (directory : List (Option File)) (f : ℕ) (ts : List Bool) (file : File) → file_at directory f ≡ Some file →
    Enters c heads (content_if true f (bytes_of s) heads c) area (heads_if true f (length (bytes_of s)) heads) (slice_set directory f (Some (told_file true s file))) →
    Result area s (content_if true f (bytes_of s) heads c) (heads_if true f (length (bytes_of s)) heads) (slice_set directory f (Some (told_file true s file))) (suc f) ts → Result area s c heads directory f (true ∷ ts)
taken area s c heads directory f ts file there one rest = record {
  after = rest.after;
  enters = record {
    fitting = rest.enters.fitting;
    dressed = all_after c (content_if true f (bytes_of s) heads c) (content_from f (true ∷ ts) (bytes_of s) heads c) heads (heads_if true f (length (bytes_of s)) heads) (heads_from f (true ∷ ts) (length (bytes_of s)) heads) one.dressed rest.enters.dressed;
    size = rest.enters.size ∙ one.size;
    front = λ k side near. rest.enters.front k side near ∙ one.front k side near;
    tells = tells_after c (content_if true f (bytes_of s) heads c) (content_from f (true ∷ ts) (bytes_of s) heads c) heads (heads_if true f (length (bytes_of s)) heads) (heads_from f (true ∷ ts) (length (bytes_of s)) heads) one.tells rest.enters.tells;
    sound = sound_after heads (heads_if true f (length (bytes_of s)) heads) (heads_from f (true ∷ ts) (length (bytes_of s)) heads) one.sound rest.enters.sound;
  };
  lower = λ g below. rest.lower g (omega (arith, below)) ∙ get_or-set_other directory f g (Some (told_file true s file)) None (λ is. omega (arith, below, is));
  others = at;
}
  where
    at : (i : ℕ) → file_at rest.after (f + i) ≡ option_map (told_file (slice_index_or (true ∷ ts) i false) s) (file_at directory (f + i))
    at zero =
        let same : f + 0 ≡ f = omega arith in
        subst (λ g. file_at rest.after g ≡ option_map (told_file true s) (file_at directory g)) (sym same)
        (rest.lower f (omega arith) ∙ get_or-set_same directory f (Some (told_file true s file)) None (within_list directory f file there) ∙ ap (option_map (told_file true s)) (sym there))
    at (suc i) = subst (λ g. file_at rest.after g ≡ option_map (told_file (slice_index_or ts i false) s) (file_at directory g)) (let e : suc f + i ≡ f + suc i = omega arith in e)
        (rest.others i ∙ ap (option_map (told_file (slice_index_or ts i false) s)) (get_or-set_other directory f (suc f + i) (Some (told_file true s file)) None (λ is. omega (arith, is))))

run : (area : Area) (s : Settlement) (f : ℕ) (ts : List Bool) (c : List (List ℕ)) (heads : List (Option FileHead)) (directory : List (Option File)) → AreFitting c area heads directory → Each s heads directory f ts → Result area s c heads directory f ts
run area s f [] c heads directory are each = record { after = directory; enters = record { fitting = are; dressed = all_same c heads; size = refl; front = λ k side near. refl; tells = tells_same c heads; sound = sound_same heads }; lower = λ g below. refl; others = λ i. told_nothing s (file_at directory (f + i)) }
run area s f (false ∷ ts) c heads directory are each = passed_over area s c heads directory f ts (run area s (suc f) ts c heads directory are each.1)
run area s f (true ∷ ts) c heads directory are each =
    let it = each.0.there refl in
    let may = each.0.may refl in
    let low : f < 64 = let within = within_list directory f it.0 it.1 in let long = are.files.directory_long in omega (arith, within, long) in
    let now = slice_set directory f (Some (told_file true s it.0)) in
    let one : Enters c heads (content_if true f (bytes_of s) heads c) area (heads_if true f (length (bytes_of s)) heads) now = enters_both c area heads directory f it.0 s.tid (outcome_of s) (outcome_of s) are low it.1 may.0 may.1 in
    taken area s c heads directory f ts it.0 it.1 one (run area s (suc f) ts (content_if true f (bytes_of s) heads c) (heads_if true f (length (bytes_of s)) heads) now one.fitting
    (each_later s heads (heads_if true f (length (bytes_of s)) heads) directory now (suc f) ts (λ g from. heads_one heads true f g (length (bytes_of s)) (λ is. omega (arith, from, is)))
    (λ g from. get_or-set_other directory f g (Some (told_file true s it.0)) None (λ is. omega (arith, from, is))) each.1))

each_of : (s : Settlement) (heads : List (Option FileHead)) (directory : List (Option File)) (f : ℕ) (ts : List Bool) → ((i : ℕ) → At s heads directory (f + i) (slice_index_or ts i false)) → Each s heads directory f ts
each_of s heads directory f [] at = tt
each_of s heads directory f (t ∷ ts) at = (
  subst (λ k. At s heads directory k t) (let e : f + 0 ≡ f = omega arith in e) (at 0),
  each_of s heads directory (suc f) ts (λ i. subst (λ k. At s heads directory k (slice_index_or ts i false)) (let e : f + suc i ≡ suc f + i = omega arith in e) (at (suc i))),
)

pub enters_told : EntersTold
enters_told c area heads directory files s are can =
    let result = run area s 0 files c heads directory are
    (each_of s heads directory 0 files (λ i. let same : i ≡ 0 + i = omega arith in subst (λ k. At s heads directory k (slice_index_or files i false)) same (record { there = can.there i; may = can.may i }))) in
    record {
      after = result.after;
      enters = result.enters;
      each = λ f. let same : 0 + f ≡ f = omega arith in subst (λ k. file_at result.after k ≡ option_map (told_file (slice_index_or files f false) s) (file_at directory k)) same (result.others f);
    }

-- A branch is settled.

-- a file that it changed is there
pub there_changed : (s : Settlement) (o : Option File) → IsToldBy s true o → (file : File) × (o ≡ Some file)
there_changed s None told = let no : ⊥ = cc in absurd no
there_changed s (Some file) told = (file, refl)

-- once it is settled in the buckets, a file that tells what it should is settled
telling : (s : Settlement) (told : Bool) (o : Option File) → IsToldBy s told o → option_map (told_file told s) (option_map (λ file. carrying file.carried (settled_file s file)) o) ≡ option_map (settled_file s) o
telling s told None is = refl
telling s told (Some file) is = ap (λ (b : Bool). Some (carrying (with_outcome b s file.carried) (settled_file s file))) (sym is)

pub enters_outcome : EntersOutcome
enters_outcome c area heads directory files s are told room =
    let tells = enters_told c area heads (settled_buckets s directory) files s are (record {
      there = λ f on. let it = there_changed s (file_at directory f) (subst (λ b. IsToldBy s b (file_at directory f)) on (told f)) in
          (carrying it.0.carried (settled_file s it.0), file_mapped (λ file. carrying file.carried (settled_file s file)) directory f ∙ ap (option_map (λ file. carrying file.carried (settled_file s file))) it.1);
      may = room;
    }) in
    record {
      fitting = files_alike (content_from 0 files (spelled_entry 0 s.tid (outcome_of s)) heads c) area (heads_from 0 files (length (spelled_entry 0 s.tid (outcome_of s))) heads) tells.after (map (option_map (settled_file s)) directory) tells.enters.fitting
          (length-map directory (option_map (settled_file s)) ∙ sym (length-map directory (option_map (λ file. carrying file.carried (settled_file s file)))) ∙ are.files.directory_long)
          (λ f. tells.each f ∙ ap (option_map (told_file (slice_index_or files f false) s)) (file_mapped (λ file. carrying file.carried (settled_file s file)) directory f) ∙ telling s (slice_index_or files f false) (file_at directory f) (told f)
          ∙ sym (file_mapped (settled_file s) directory f));
      dressed = tells.enters.dressed;
      size = tells.enters.size;
      front = tells.enters.front;
      tells = tells.enters.tells;
      sound = tells.enters.sound;
    }
