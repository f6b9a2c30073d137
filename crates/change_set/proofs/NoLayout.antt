-- Files that are not indexed have no layout: sets leave them none.
use Rattle.std.proofs.Common.{◌≡◌, ℕ, Bool, List, Option, Some, None, IfSome, IsSomeAnd, MatchOption, option_map, Result, Ok, Err, OnOk, refl, ap, sym}
use Rattle.careful_write.specs.State.{StoreState}
use Rattle.careful_write.specs.Steps.{AgreesOff}
use Rattle.file_base.specs.declared.head.FileHead.{FileHead}
use Rattle.tree_model.specs.vms_model.Keys.{Key, Number, Text, End}
use Rattle.tree_model.specs.Layouts.{Layout, Sizes, no_layout}
use Rattle.tree_model.specs.Setting.{layout_set, layout_back}
use Rattle.change_set.specs.Files.{StagesIn, in_extent}

abbrev Blocks : Type 0
Blocks = List (List ℕ)

abbrev none_of : Blocks → Layout
none_of blocks = no_layout

no_layout_set : (sizes : Sizes) (held : Key → Bool) (k : Key) (v : Option (List ℕ)) → layout_set sizes held k v no_layout ≡ no_layout
no_layout_set sizes held (Text t) v = refl
no_layout_set sizes held (Number n) v = refl
no_layout_set sizes held End v = refl

no_layout_back : (k : Key) (v : Option (List ℕ)) → layout_back k v no_layout ≡ no_layout
no_layout_back (Text t) v = refl
no_layout_back (Number n) v = refl
no_layout_back End v = refl

-- a store that is told what it has is told it still
none_told : (h : FileHead) (limit : ℕ) (old new : StoreState) (layout : Layout) → layout ≡ no_layout → StagesIn h limit old new → IfSome old.current (λ b. option_map none_of new.current ≡ Some layout)
none_told h limit old new layout none stages = told old.current new.current stages.blocks
  where
    told : (o n : Option Blocks) → MatchOption o (n ≡ None) (λ before. IsSomeAnd n (AgreesOff (in_extent h) before)) → IfSome o (λ b. option_map none_of n ≡ Some layout)
    told None n is = tt
    told (Some b) None is = absurd is
    told (Some b) (Some c) is = ap Some (sym none)

given_two : (A B : Blocks → Type 0) (Q : Type 0) (o : Option Blocks) → IfSome o (λ b. Q) → IfSome o (λ b. A b → B b → Q)
given_two A B Q None is = tt
given_two A B Q (Some b) is = λ x y. is

-- where blocks of the extent were staged, a set left no layout
pub none_set : {E : Type 0} (A B : Blocks → Type 0) (r : Result (Unit {0}) E) (h : FileHead) (limit : ℕ) (old new : StoreState) (sizes : Sizes) (held : Key → Bool) (k : Key) (v : Option (List ℕ)) → OnOk r (StagesIn h limit old new)
    → OnOk r (IfSome old.current (λ b. A b → B b → option_map none_of new.current ≡ Some (layout_set sizes held k v no_layout)))
none_set A B (Ok x) h limit old new sizes held k v stages = given_two A B _ old.current (none_told h limit old new _ (no_layout_set sizes held k v) stages)
none_set A B (Err e) h limit old new sizes held k v stages = tt

pub none_back : {E : Type 0} (A B : Blocks → Type 0) (r : Result (Unit {0}) E) (h : FileHead) (limit : ℕ) (old new : StoreState) (k : Key) (v : Option (List ℕ)) → OnOk r (StagesIn h limit old new)
    → OnOk r (IfSome old.current (λ b. A b → B b → option_map none_of new.current ≡ Some (layout_back k v no_layout)))
none_back A B (Ok x) h limit old new k v stages = given_two A B _ old.current (none_told h limit old new _ (no_layout_back k v) stages)
none_back A B (Err e) h limit old new k v stages = tt
