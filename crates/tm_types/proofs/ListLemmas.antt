-- Lists that a loop makes, element by element, and tests of each element.
use Rattle.std.proofs.Common.{◌≡◌, ℕ, ◌+◌, ◌<◌, ◌≤◌, Bool, true, false, List, [], ◌∷◌, ◌++◌, Option, Some, length, map, get_or, drop, refl, ap, sym, ◌∙◌, append_assoc, not, if◌then◌else◌, arith}
use Rattle.std.proofs.lemmas.List.{at_drop_more, at_drop_all, append-nil, length_push}
use Rattle.vms_base.specs.vms_model.Ids.{Id}
use Rattle.commit_protocol.specs.Messages.{Message, ReadOnly, Abort}
use Rattle.commit_protocol.specs.Messages as model
use Rattle.commit_protocol.specs.Table as table
use Rattle.commit_protocol.specs.Rows.{down, told_abort, to_each, unless_read_only}
use Rattle.commit_protocol.specs.Table.{child}
use Rattle.tm_types.specs.Parts.{is_read_only}

-- One more element is done: what it gives comes last in what was made, and what is left gets shorter.
pub turned : {X Y : Type 0} (F G : List X → List Y) (whole : List Y) (xs : List X) (i : ℕ) (x : X) (made more : List Y)
    → i < length xs → x ≡ get_or xs i x → made ++ F (drop i xs) ≡ whole → F (x ∷ drop (i + 1) xs) ≡ more ++ G (drop (i + 1) xs)
    → (made ++ more) ++ G (drop (i + 1) xs) ≡ whole
turned F G whole xs i x made more lt at before step =
    append_assoc made more (G (drop (i + 1) xs)) ∙ (ap (λ rest. made ++ rest) (sym step ∙ (ap (λ y. F (y ∷ drop (i + 1) xs)) at ∙ sym (at_drop_more F xs i x lt))) ∙ before)

-- All elements are done.
pub all_turned : {X Y : Type 0} (F : List X → List Y) (whole : List Y) (xs : List X) (i : ℕ) (made : List Y)
    → length xs ≤ i → made ++ F (drop i xs) ≡ whole → F [] ≡ [] → made ≡ whole
all_turned F whole xs i made le before none =
    sym (append-nil made) ∙ (ap (λ rest. made ++ rest) (sym none ∙ sym (at_drop_all F xs i le)) ∙ before)

pub map_push : {X Y : Type 0} (f : X → Y) (xs : List X) (x : X) → map f (xs ++ x ∷ []) ≡ map f xs ++ f x ∷ []
map_push f [] x = refl
map_push f (y ∷ ys) x = ap (λ rest. f y ∷ rest) (map_push f ys x)

-- the list as it is where the change was made already, else with the change
abbrev pub unless_noted : {X : Type 0} → Bool → (List X → List X) → List X → List X
unless_noted true change xs = xs
unless_noted false change xs = change xs

-- the serials that an abort is sent to
abbrev pub hearing : List table.Child → List Id
hearing [] = []
hearing (c ∷ cs) = if not (is_read_only c.vote) then c.serial ∷ hearing cs else hearing cs

to_each_hears : (t s : Id) (v : Option model.Kind) (rest : List Id) → to_each Abort t (if not (is_read_only v) then s ∷ rest else rest) ≡ unless_read_only v (down Abort (child t s)) (to_each Abort t rest)
to_each_hears t s (Some ReadOnly) rest = refl
to_each_hears t s _ rest = refl

pub to_each_hearing : (t : Id) (cs : List table.Child) → to_each Abort t (hearing cs) ≡ told_abort t cs
to_each_hearing t [] = refl
to_each_hearing t (c ∷ cs) = to_each_hears t c.serial c.vote (hearing cs) ∙ ap (λ rest. unless_read_only c.vote (down Abort (child t c.serial)) rest) (to_each_hearing t cs)

-- What a loop looks for is told by the element at hand, or by what is left behind it.
pub stepped : {X Y : Type 0} (F : List X → Y) (whole : Y) (xs : List X) (i : ℕ) (x : X) (y : Y)
    → i < length xs → x ≡ get_or xs i x → F (drop i xs) ≡ whole → F (x ∷ drop (i + 1) xs) ≡ y → y ≡ whole
stepped F whole xs i x y lt at before step =
    sym step ∙ (ap (λ z. F (z ∷ drop (i + 1) xs)) at ∙ (sym (at_drop_more F xs i x lt) ∙ before))

-- An element of a loop is pushed, or passed over.
pub record Turns {Y Z : Type 0} (f : Z → Y) (new : List Z) (rest whole : List Y) (n : ℕ) : Type 0 where
  pub count : length new ≤ n
  pub made : map f new ++ rest ≡ whole

pub pushed : {X Y Z : Type 0} (f : Z → Y) (F G : List X → List Y) (whole : List Y) (xs : List X) (i : ℕ) (x : X) (list new : List Z) (z : Z)
    → i < length xs → x ≡ get_or xs i x → length list ≤ i → map f list ++ F (drop i xs) ≡ whole → new ≡ list ++ z ∷ []
    → F (x ∷ drop (i + 1) xs) ≡ f z ∷ G (drop (i + 1) xs) → Turns f new (G (drop (i + 1) xs)) whole (i + 1)
pushed f F G whole xs i x list new z lt at few before is step =
    record {
      count = let e = ap length is in let n = length_push list z in omega arith;
      made = ap (λ made. map f made ++ G (drop (i + 1) xs)) is ∙ (ap (λ made. made ++ G (drop (i + 1) xs)) (map_push f list z) ∙ turned F G whole xs i x (map f list) (f z ∷ []) lt at before step);
    }

pub passed : {X Y Z : Type 0} (f : Z → Y) (F G : List X → List Y) (whole : List Y) (xs : List X) (i : ℕ) (x : X) (list new : List Z)
    → i < length xs → x ≡ get_or xs i x → length list ≤ i → map f list ++ F (drop i xs) ≡ whole → new ≡ list
    → F (x ∷ drop (i + 1) xs) ≡ G (drop (i + 1) xs) → Turns f new (G (drop (i + 1) xs)) whole (i + 1)
passed f F G whole xs i x list new lt at few before is step =
    record {
      count = let e = ap length is in omega arith;
      made = ap (λ made. map f made ++ G (drop (i + 1) xs)) is ∙ (ap (λ rest. map f list ++ rest) (sym step ∙ (ap (λ y. F (y ∷ drop (i + 1) xs)) at ∙ sym (at_drop_more F xs i x lt))) ∙ before);
    }
