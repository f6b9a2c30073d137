-- Words that name images.
use Rattle.std.proofs.Common.{◌≡◌, ◌≢◌, ℕ, suc, ◌<◌, List, [], ◌∷◌, ◌++◌, length, get_or, Bool, true, false, not, ◌&&◌, Option, Some, None, refl, sym, ◌∙◌, ap, arith, if◌then◌else◌, eqb}
use Rattle.std.specs.Option.{option_map, option_and_then}
use Rattle.std.specs.Str.{bytes_eq}
use Rattle.std.proofs.lemmas.Bool.{ne_eqb, eq-eqb}
use Rattle.vms_model.specs.Names.{node_named}
use Rattle.vms_model.specs.Words.{parted_at}
use Rattle.script_model.specs.LineWords.{is_empty}
use Rattle.script_model.specs.Command.{is_disk_of}
use Rattle.dtm_command.specs.Images.{node_and_image, is_for}

-- parting at a byte

pub parted_none : (mark : ℕ) (bs : List ℕ) → ((i : ℕ) → i < length bs → get_or bs i 0 ≢ mark) → parted_at mark bs ≡ None
parted_none mark [] h = refl
parted_none mark (b ∷ bs) h =
    ap (λ t. if t then Some ([], bs) else option_map (λ parts. (b ∷ parts.0, parts.1)) (parted_at mark bs)) (ne_eqb b mark (h 0 (omega arith)))
    ∙ ap (option_map (λ parts. (b ∷ parts.0, parts.1))) (parted_none mark bs (λ i l. h (suc i) (omega arith)))

pub parted_some : (mark : ℕ) (xs ys : List ℕ) → ((i : ℕ) → i < length xs → get_or xs i 0 ≢ mark) → parted_at mark (xs ++ mark ∷ ys) ≡ Some (xs, ys)
parted_some mark [] ys h = ap (λ t. if t then Some ([], ys) else option_map (λ parts. (mark ∷ parts.0, parts.1)) (parted_at mark ys)) (eq-eqb mark mark refl)
parted_some mark (x ∷ xs) ys h =
    ap (λ t. if t then Some ([], xs ++ mark ∷ ys) else option_map (λ parts. (x ∷ parts.0, parts.1)) (parted_at mark (xs ++ mark ∷ ys))) (ne_eqb x mark (h 0 (omega arith)))
    ∙ ap (option_map (λ parts. (x ∷ parts.0, parts.1))) (parted_some mark xs ys (λ i l. h (suc i) (omega arith)))

-- what a word names is what the command wants of it

and_not : (b e : Bool) → (b && not e) ≡ (if e then false else b)
and_not true true = refl
and_not true false = refl
and_not false true = refl
and_not false false = refl

named_for : (node path : List ℕ) (name : Option (List ℕ)) (e : Bool) → ((elim name [ Some n ↦ bytes_eq n node | None ↦ false ]) && not e) ≡ is_for node (if e then None else option_map (λ n. (n, path)) name)
named_for node path None true = refl
named_for node path None false = refl
named_for node path (Some n) true = and_not (bytes_eq n node) true
named_for node path (Some n) false = and_not (bytes_eq n node) false

pub form_is : (node word : List ℕ) → is_disk_of node word ≡ is_for node (node_and_image word)
form_is node word = go (parted_at 61 word)
  where
    go : (o : Option (List ℕ × List ℕ)) → (elim o [ Some parts ↦ (elim (node_named parts.0) [ Some n ↦ bytes_eq n node | None ↦ false ]) && not (is_empty parts.1) | None ↦ false ])
        ≡ is_for node (option_and_then (λ parts. if is_empty parts.1 then None else option_map (λ n. (n, parts.1)) (node_named parts.0)) o)
    go None = refl
    go (Some parts) = named_for node parts.1 (node_named parts.0) (is_empty parts.1)

-- what a word says, by where it is parted

pub unparted : (word : List ℕ) → ((i : ℕ) → i < length word → get_or word i 0 ≢ 61) → None ≡ node_and_image word
unparted word h = sym (ap (option_and_then (λ parts. if is_empty parts.1 then None else option_map (λ node. (node, parts.1)) (node_named parts.0))) (parted_none 61 word h))

parted_as : (word node path : List ℕ) → (word ≡ node ++ 61 ∷ path) × ((i : ℕ) → i < length node → get_or node i 0 ≢ 61) →
    node_and_image word ≡ (if is_empty path then None else option_map (λ n. (n, path)) (node_named node))
parted_as word node path h =
    ap node_and_image h.0 ∙ ap (option_and_then (λ parts. if is_empty parts.1 then None else option_map (λ n. (n, parts.1)) (node_named parts.0))) (parted_some 61 node path h.1)

empty_is : (path : List ℕ) → is_empty path ≡ eqb (length path) 0
empty_is [] = refl
empty_is (b ∷ path) = sym (ne_eqb (length (b ∷ path)) 0 (λ e. omega arith))

pub pathless : (word node path : List ℕ) → (word ≡ node ++ 61 ∷ path) × ((i : ℕ) → i < length node → get_or node i 0 ≢ 61) → eqb (length path) 0 ≡ true → None ≡ node_and_image word
pathless word node path h e = sym (parted_as word node path h ∙ ap (λ b. if b then None else option_map (λ n. (n, path)) (node_named node)) (empty_is path ∙ e))

pub with_path : (word node path : List ℕ) (name : Option (List ℕ)) → (word ≡ node ++ 61 ∷ path) × ((i : ℕ) → i < length node → get_or node i 0 ≢ 61) → eqb (length path) 0 ≡ false → name ≡ node_named node →
    option_map (λ n. (n, path)) name ≡ node_and_image word
with_path word node path name h e named =
    ap (option_map (λ n. (n, path))) named ∙ sym (parted_as word node path h ∙ ap (λ b. if b then None else option_map (λ n. (n, path)) (node_named node)) (empty_is path ∙ e))
