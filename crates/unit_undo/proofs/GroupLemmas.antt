-- Groups of an undo over all files of a volume.
use Rattle.std.proofs.Common.{◌≡◌, ◌≢◌, ℕ, ◌<◌, ◌≤◌, List, [], ◌∷◌, length, map, Option, Some, None, refl, sym, ◌∙◌, ap, subst, inl, inr, slice_set}
use Rattle.std.specs.List.{AllByRecursion}
use Rattle.std.proofs.lemmas.Bool.{cases_eq}
use Rattle.std.proofs.lemmas.List.{length-set, get_or-set_same, get_or-set_other}
use Rattle.file_base.specs.declared.head.FileHead.{FileHead}
use Rattle.file_base.specs.declared.head.Organization.{Organization as Kept}
use Rattle.file_base.specs.declared.head.Organization.TheVariants as kept
use Rattle.vms_model.specs.Ids.{Id}
use Rattle.records_model.specs.Records.{Change}
use Rattle.records_model.specs.Slots.{size_of}
use Rattle.records_model.specs.History.{LiveChanges, changes_by}
use Rattle.careful_write.specs.State.{EachWhole}
use Rattle.file_base.specs.declared.head.Span.{Span}
use Rattle.directory_model.specs.file_images.Files.{SameRing}
use Rattle.unit_entries.specs.change_set.Files.{AgreesOn}
use Rattle.directory_model.specs.record_files.Any.{map_of, FormBy, LaidOutBy}
use Rattle.directory_model.specs.record_files.Local as local
use Rattle.directory_model.specs.seq_file.Layout.{records_in}
use Rattle.directory_model.specs.seq_file.Local as sequential_local
use Rattle.unit_entries.proofs.seq_file.RecordLaws.{one_list}
use Rattle.directory_model.specs.indexed_file.Chain as leaf
use Rattle.directory_model.specs.indexed_tree.Files as indexed
use Rattle.directory_model.specs.record_files.Indexed as indexed_local
use Rattle.unit_entries.specs.unit_laws.Units.{Map, IsUndoGroup, earliest_before}
use Rattle.unit_entries.specs.sequence_laws.Undoing.{GoesBack}
use Rattle.unit_entries.specs.run_model.World.{File}
use Rattle.directory_model.specs.Files.{AgreesOnCarried, head_at, file_at}
use Rattle.directory_model.specs.Restoring.{bare_layout, CanRestoreBy, IsLeft, IsPlaceLeft, AreLeft, IsGrouped, IsPlaceGrouped, AreGrouped}
use Rattle.unit_undo.specs.Steps.{IsPartlyUndone}
use Rattle.unit_undo.specs.Way.{ArePartlyUndone, IsPlacePartly}

all_so : {X : Type 0} (P Q : X → Type 0) (xs : List X) → ((x : X) → P x → Q x) → AllByRecursion P xs → AllByRecursion Q xs
all_so P Q [] f all = tt
all_so P Q (x ∷ xs) f all = (f x all.0, all_so P Q xs f all.1)

-- nothing is undone yet

grouped_file : (a : List (List ℕ)) (h : FileHead) (file : File) → IsLeft a h file → IsGrouped a h file.history.live a h
grouped_file a h file left = record {
  same = record { is = refl };
  form = left.head.form;
  laid = left.laid;
  group = record { others = λ key none. refl; images = left.represents.images };
  layout = refl;
  can = left.can;
}

grouped_place : (a : List (List ℕ)) (f : ℕ) (o : Option FileHead) (p : Option File) → IsPlaceLeft a f o p → IsPlaceGrouped a o p a o
grouped_place a f None None left = tt
grouped_place a f None (Some file) left = absurd left
grouped_place a f (Some h) None left = absurd left
grouped_place a f (Some h) (Some file) left = grouped_file a h file left.0

-- what a file carries stands where nothing is written
stands_itself : (a : List (List ℕ)) (h : FileHead) → EachWhole a → AgreesOnCarried h a a
stands_itself a h whole = record { after = λ m. record { size = refl; whole = whole; blocks = λ k from to. refl }; before = λ m. record { size = refl; whole = whole; blocks = λ k from to. refl }; save = λ m n in_it. refl }

pub grouped_itself : (a : List (List ℕ)) (heads : List (Option FileHead)) (directory : List (Option File)) → EachWhole a → AreLeft a heads directory → AreGrouped a heads directory a heads
grouped_itself a heads directory whole left = record { long = refl; each = λ f. grouped_place a f (head_at heads f) (file_at directory f) (left.each f); carried = λ f h there. stands_itself a h whole }

-- a file in whose blocks nothing changes

can_local : (o : Kept) (b c : List (List ℕ)) (h : FileHead) (cs : List Change) → FormBy o h → AgreesOn h b c → LaidOutBy o h b → CanRestoreBy o h b cs → CanRestoreBy o h c cs
can_local kept.Sequential b c h cs form agrees laid can = (can.0, subst (λ (rs : List (List ℕ)). GoesBack h cs rs can.0) (one_list (records_in h b) (records_in h c) (sequential_local.local_law h b c form agrees)) can.1)
can_local kept.Relative b c h cs form agrees laid can = can
can_local kept.Indexed b c h cs form agrees laid can =
    all_so (λ (x : Change). leaf.Suits h x.key (earliest_before cs x.key) × (size_of (earliest_before cs x.key) ≤ indexed.room_at h b x.key)) (λ (x : Change). leaf.Suits h x.key (earliest_before cs x.key) × (size_of (earliest_before cs x.key) ≤ indexed.room_at h c x.key)) cs
    (λ x is. (is.0, subst (λ (r : ℕ). size_of (earliest_before cs x.key) ≤ r) (indexed_local.room_local_law h b c form agrees laid x.key) is.1)) can

pub grouped_local : (a b c : List (List ℕ)) (first h : FileHead) (ls : List LiveChanges) → AgreesOn h b c → IsGrouped a first ls b h → IsGrouped a first ls c h
grouped_local a b c first h ls agrees is = record {
  same = is.same;
  form = is.form;
  laid = local.valid_local_law h b c is.form agrees is.laid;
  group = subst (λ (m : Map). IsUndoGroup ls (map_of first a) m) (local.local_law h b c is.form agrees is.laid) is.group;
  layout = ap bare_layout (sym (local.layout_local_law h b c is.form agrees is.laid)) ∙ is.layout;
  can = all_so (λ (l : LiveChanges). CanRestoreBy h.organization h b l.changes) (λ (l : LiveChanges). CanRestoreBy h.organization h c l.changes) ls (λ l can. can_local h.organization b c h l.changes is.form agrees is.laid can) is.can;
}

local_place : (a b c : List (List ℕ)) (o : Option FileHead) (p : Option File) (m : Option FileHead) → ((h : FileHead) → m ≡ Some h → AgreesOn h b c) → IsPlaceGrouped a o p b m → IsPlaceGrouped a o p c m
local_place a b c None None None agrees is = tt
local_place a b c None None (Some h) agrees is = absurd is
local_place a b c None (Some file) m agrees is = absurd is
local_place a b c (Some first) None m agrees is = absurd is
local_place a b c (Some first) (Some file) None agrees is = absurd is
local_place a b c (Some first) (Some file) (Some h) agrees is = grouped_local a b c first h file.history.live (agrees h refl) is

-- one file is undone further

set_place : (a c : List (List ℕ)) (o : Option FileHead) (p : Option File) (first new : FileHead) (file : File) → o ≡ Some first → p ≡ Some file → IsGrouped a first file.history.live c new → IsPlaceGrouped a o p c (Some new)
set_place a c None p first new file there named is = let never : ⊥ = cc in absurd never
set_place a c (Some h) None first new file there named is = let never : ⊥ = cc in absurd never
set_place a c (Some h) (Some g) first new file there named is =
    let same : h ≡ first = cc in
    let one : g ≡ file = cc in
    subst (λ (x : FileHead). IsGrouped a x g.history.live c new) (sym same) (subst (λ (x : File). IsGrouped a first x.history.live c new) (sym one) is)

pub grouped_more : (a b c : List (List ℕ)) (heads mid : List (Option FileHead)) (directory : List (Option File)) (f : ℕ) (first h new : FileHead) (file : File) → AreGrouped a heads directory b mid → f < length mid → head_at heads f ≡ Some first → file_at directory f ≡ Some file
    → IsGrouped a first file.history.live c new → ((g : ℕ) (other : FileHead) → g ≢ f → head_at mid g ≡ Some other → AgreesOn other b c) → ((g : ℕ) (k : FileHead) → head_at heads g ≡ Some k → AgreesOnCarried k b c) → AreGrouped a heads directory c (slice_set mid f (Some new))
grouped_more a b c heads mid directory f first h new file are below there named is others stands = record {
  long = length-set mid f (Some new) ∙ are.long;
  each = λ g. elim (cases_eq f g) [
    | inl same ↦ subst (λ (k : ℕ). IsPlaceGrouped a (head_at heads k) (file_at directory k) c (head_at (slice_set mid f (Some new)) k)) same
        (subst (λ (m : Option FileHead). IsPlaceGrouped a (head_at heads f) (file_at directory f) c m) (sym (get_or-set_same mid f (Some new) None below)) (set_place a c (head_at heads f) (file_at directory f) first new file there named is))
    | inr other ↦ let apart : g ≢ f = λ e. other (sym e) in
        subst (λ (m : Option FileHead). IsPlaceGrouped a (head_at heads g) (file_at directory g) c m) (sym (get_or-set_other mid f g (Some new) None apart))
        (local_place a b c (head_at heads g) (file_at directory g) (head_at mid g) (λ x at. others g x apart at) (are.each g))
  ];
  carried = λ g k there. carried_on (are.carried g k there) (stands g k there);
}
  where
    rings : {s : Span} {x y z : List (List ℕ)} → SameRing s x y → SameRing s y z → SameRing s x z
    rings one two = record { size = two.size ∙ one.size; whole = two.whole; blocks = λ k from to. two.blocks k from to ∙ one.blocks k from to }

    carried_on : {k : FileHead} → AgreesOnCarried k a b → AgreesOnCarried k b c → AgreesOnCarried k a c
    carried_on one two = record { after = λ m. rings (one.after m) (two.after m); before = λ m. rings (one.before m) (two.before m); save = λ m n in_it. one.save m n in_it ∙ two.save m n in_it }

-- What a branch changed is partly undone, and what it did not stands.

partly_place : (serial : Id) (a : List (List ℕ)) (o : Option FileHead) (p : Option File) → IsPlacePartly serial a o p a o
partly_place serial a None p = tt
partly_place serial a (Some h) None = tt
partly_place serial a (Some h) (Some file) = record { others = λ key other. refl; own = λ key changed. inl refl }

pub partly_itself : (serial : Id) (a : List (List ℕ)) (heads : List (Option FileHead)) (directory : List (Option File)) → ArePartlyUndone serial a heads directory a heads
partly_itself serial a heads directory f = partly_place serial a (head_at heads f) (file_at directory f)

partly_local : (serial : Id) (a b c : List (List ℕ)) (o : Option FileHead) (p : Option File) (m : Option FileHead) → ((h : FileHead) → m ≡ Some h → AgreesOn h b c) → IsPlaceGrouped a o p b m → IsPlacePartly serial a o p b m → IsPlacePartly serial a o p c m
partly_local serial a b c None p m agrees is k = tt
partly_local serial a b c (Some first) None m agrees is k = tt
partly_local serial a b c (Some first) (Some file) None agrees is k = tt
partly_local serial a b c (Some first) (Some file) (Some h) agrees is k =
    subst (λ (m : Map). IsPartlyUndone (first.organization ≡ kept.Sequential) (changes_by serial file.history.live) (map_of first a) m) (local.local_law h b c is.form (agrees h refl) is.laid) k

partly_set : (serial : Id) (a c : List (List ℕ)) (o : Option FileHead) (p : Option File) (first new : FileHead) (file : File) → o ≡ Some first → p ≡ Some file → IsPartlyUndone (first.organization ≡ kept.Sequential) (changes_by serial file.history.live) (map_of first a) (map_of new c) → IsPlacePartly serial a o p c (Some new)
partly_set serial a c o p first new file there named k = subst (λ x. IsPlacePartly serial a x p c (Some new)) (sym there) (subst (λ x. IsPlacePartly serial a (Some first) x c (Some new)) (sym named) k)

pub partly_more : (serial : Id) (a b c : List (List ℕ)) (heads mid : List (Option FileHead)) (directory : List (Option File)) (f : ℕ) (first h new : FileHead) (file : File) → AreGrouped a heads directory b mid → ArePartlyUndone serial a heads directory b mid → f < length mid → head_at heads f ≡ Some first →
    file_at directory f ≡ Some file → IsPartlyUndone (first.organization ≡ kept.Sequential) (changes_by serial file.history.live) (map_of first a) (map_of new c) → ((g : ℕ) (other : FileHead) → g ≢ f → head_at mid g ≡ Some other → AgreesOn other b c) → ArePartlyUndone serial a heads directory c (slice_set mid f (Some new))
partly_more serial a b c heads mid directory f first h new file are kept below there named is others g = elim (cases_eq f g) [
  | inl same ↦ subst (λ (k : ℕ). IsPlacePartly serial a (head_at heads k) (file_at directory k) c (head_at (slice_set mid f (Some new)) k)) same
      (subst (λ (m : Option FileHead). IsPlacePartly serial a (head_at heads f) (file_at directory f) c m) (sym (get_or-set_same mid f (Some new) None below)) (partly_set serial a c (head_at heads f) (file_at directory f) first new file there named is))
  | inr other ↦ let apart : g ≢ f = λ e. other (sym e) in
      subst (λ (m : Option FileHead). IsPlacePartly serial a (head_at heads g) (file_at directory g) c m) (sym (get_or-set_other mid f g (Some new) None apart))
      (partly_local serial a b c (head_at heads g) (file_at directory g) (head_at mid g) (λ x at. others g x apart at) (are.each g) (kept g))
]
