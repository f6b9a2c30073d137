-- Racks that are filled with the images that words name.
use Rattle.std.proofs.Common.{◌≡◌, ℕ, ◌<◌, ◌≤◌, ◌⊎◌, inl, inr, List, [], ◌∷◌, ◌++◌, length, get_or, map, take, drop, ◌-◌, Bool, true, false, Option, Some, None, refl, sym, ◌∙◌, ap, subst, append_assoc, arith, nat_lt, nat_le, if◌then◌else◌}
use Rattle.std.specs.Prelude.{◌||◌, Result, Ok, Err, IfOk, IfErr, unwrap_or}
use Rattle.std.proofs.lemmas.Bool.{le-ltb}
use Rattle.std.proofs.lemmas.List.{append-nil, take_rest}
use Rattle.std.specs.Borrow.{Bor}
use Rattle.block_disk.specs.Disk.{DiskState}
use Rattle.run_nodes.specs.Names.{is_among}
use Rattle.dtm_run.specs.Racks.{refusal_of}
use Rattle.dtm_run.specs.declared.rack.RackCause.{RackCause}
use Rattle.dtm_run.specs.declared.rack.RackCause.TheVariants as cause
use Rattle.dtm_command.specs.Images.{node_and_image, Store, IsImageOf}
use Rattle.dtm_command.specs.Causes.{IsRefused, WhyUnopened}
use Rattle.dtm_command.specs.declared.images.OpenErr.{OpenErr}
use Rattle.dtm_command.specs.declared.images.OpenErr.TheVariants as open_err
use Rattle.dtm.specs.Images.{Names, Stops, IsUnwanted, IsFilled, Reaches}
use Rattle.dtm.specs.Causes.{WhyUnfilled}

-- why a rack refuses a node whose disk has a right size

sized : (size : ℕ) → 4096 ≤ size → size ≤ 65536 → (nat_lt size 4096 || nat_lt 65536 size) ≡ false
sized size low high = ap (λ b. b || nat_lt 65536 size) (le-ltb size 4096 low) ∙ le-ltb 65536 size high

refused_by : (among wrong many : Bool) → wrong ≡ false → unwrap_or (if among then Some cause.Name else (if wrong then Some cause.Size else (if many then Some cause.Full else None))) cause.Memory ≡ cause.Size → ⊥
refused_by true wrong many e s = cc
refused_by false true many e s = cc
refused_by false false true e s = cc
refused_by false false false e s = cc

pub never_size : (names : List (List ℕ)) (node : List ℕ) (size : ℕ) → 4096 ≤ size → size ≤ 65536 → unwrap_or (refusal_of names node size) cause.Memory ≡ cause.Size → ⊥
never_size names node size low high e = refused_by (is_among node names) (nat_lt size 4096 || nat_lt 65536 size) (nat_le 8 (length names)) (sized size low high) e

pub refused_as : (o : Option RackCause) (c : RackCause) → (c ≡ cause.Memory → ⊥) → unwrap_or o cause.Memory ≡ c → o ≡ Some c
refused_as None c other e = absurd (other (sym e))
refused_as (Some d) c other e = ap Some e

-- a rack that is filled

pub unwanted : {Image : Type 0} (opens : List ℕ → Image → Type 0) (size : Image → ℕ) (names old_names : List (List ℕ)) (word node : List ℕ) (image : Image) (c : RackCause) → names ≡ old_names →
    Names opens word node image → c ≡ unwrap_or (refusal_of old_names node (size image)) cause.Memory → (c ≡ cause.Name) ⊎ (c ≡ cause.Full) → IsUnwanted opens size names word
unwanted opens size names old_names word node image c same named e is =
    subst (λ n. IsUnwanted opens size n word) (sym same) record { node = node; image = image; named = named; refused = go is }
  where
    go : (c ≡ cause.Name) ⊎ (c ≡ cause.Full) → (refusal_of old_names node (size image) ≡ Some cause.Name) ⊎ (refusal_of old_names node (size image) ≡ Some cause.Full)
    go (inl is_name) = inl (refused_as (refusal_of old_names node (size image)) cause.Name (λ m. cc) (sym e ∙ is_name))
    go (inr is_full) = inr (refused_as (refusal_of old_names node (size image)) cause.Full (λ m. cc) (sym e ∙ is_full))

pub filled_here : {Image : Type 0} (opens : List ℕ → Image → Type 0) (size : Image → ℕ) (words names : List (List ℕ)) (images : List Image) (new_names : List (List ℕ)) (new_images : List Image) →
    new_names ≡ names → new_images ≡ images → Stops opens size new_names words → IsFilled opens size words names images new_names new_images
filled_here opens size words names images new_names new_images same_names same_images ends =
    record { nodes = []; added = []; left = words; adds = refl; names_are = same_names ∙ sym (append-nil names); images_are = same_images ∙ sym (append-nil images); ends = ends }

filled_more : {Image : Type 0} (opens : List ℕ → Image → Type 0) (size : Image → ℕ) (word node : List ℕ) (image : Image) (words names : List (List ℕ)) (images : List Image) (new_names : List (List ℕ)) (new_images : List Image) →
    Names opens word node image → refusal_of names node (size image) ≡ None → IsFilled opens size words (names ++ node ∷ []) (images ++ image ∷ []) new_names new_images → IsFilled opens size (word ∷ words) names images new_names new_images
filled_more opens size word node image words names images new_names new_images named none h =
    record { nodes = node ∷ h.nodes; added = image ∷ h.added; left = h.left; adds = (named, none, h.adds); names_are = h.names_are ∙ append_assoc names (node ∷ []) h.nodes; images_are = h.images_are ∙ append_assoc images (image ∷ []) h.added; ends = h.ends }

pub filled_on : {Image E R : Type 0} (opens : List ℕ → Image → Type 0) (size : Image → ℕ) (all : List (List ℕ)) (word node : List ℕ) (image : Image) (words names : List (List ℕ)) (images : List Image) (mid_names : List (List ℕ)) (mid_images : List Image) (names_of : R → List (List ℕ)) (images_of : R → List Image) (result : Result R E) →
    all ≡ word ∷ words → Names opens word node image → refusal_of names node (size image) ≡ None → mid_names ≡ names ++ node ∷ [] → mid_images ≡ images ++ image ∷ [] →
    IfOk result (λ r. IsFilled opens size words mid_names mid_images (names_of r) (images_of r)) → IfOk result (λ r. IsFilled opens size all names images (names_of r) (images_of r))
filled_on opens size all word node image words names images mid_names mid_images names_of images_of (Err e) all_are named none names_are images_are h = h
filled_on opens size all word node image words names images mid_names mid_images names_of images_of (Ok r) all_are named none names_are images_are h =
    let at_names = subst (λ n. IsFilled opens size words n mid_images (names_of r) (images_of r)) names_are h in
    subst (λ ws. IsFilled opens size ws names images (names_of r) (images_of r)) (sym all_are)
    (filled_more opens size word node image words names images (names_of r) (images_of r) named none (subst (λ i. IsFilled opens size words (names ++ node ∷ []) i (names_of r) (images_of r)) images_are at_names))

-- why it is not filled

pub why_here : {File Image : Type 0} (store : Store File Image) (state : Image → DiskState) (names : List (List ℕ)) (word : List ℕ) (words : List (List ℕ)) (node path : List ℕ) (e : OpenErr) →
    node_and_image word ≡ Some (node, path) → WhyUnopened store path e → WhyUnfilled store state names (word ∷ words) e
why_here store state names word words node path (open_err.Image named refused) says why =
    (record { nodes = []; added = []; word = word; left = words; adds = refl; node = node; says = says ∙ ap (λ p. Some (node, p)) (sym why.0) }, subst (λ p. IsRefused store p refused) (sym why.0) why.1)
why_here store state names word words node path open_err.Memory says why = tt

reaches_more : {Image : Type 0} (opens : List ℕ → Image → Type 0) (size : Image → ℕ) (word node : List ℕ) (image : Image) (names words : List (List ℕ)) (path : List ℕ) →
    Names opens word node image → refusal_of names node (size image) ≡ None → Reaches opens size (names ++ node ∷ []) words path → Reaches opens size names (word ∷ words) path
reaches_more opens size word node image names words path named none h =
    record { nodes = node ∷ h.nodes; added = image ∷ h.added; word = h.word; left = h.left; adds = (named, none, h.adds); node = h.node; says = h.says }

why_more : {File Image : Type 0} (store : Store File Image) (state : Image → DiskState) (word node : List ℕ) (image : Image) (names words : List (List ℕ)) (e : OpenErr) →
    Names (IsImageOf store state) word node image → refusal_of names node (state image).size ≡ None → WhyUnfilled store state (names ++ node ∷ []) words e → WhyUnfilled store state names (word ∷ words) e
why_more store state word node image names words (open_err.Image path refused) named none h = (reaches_more (IsImageOf store state) (λ image. (state image).size) word node image names words path.now named none h.0, h.1)
why_more store state word node image names words open_err.Memory named none h = tt

pub why_on : {File Image R : Type 0} (store : Store File Image) (state : Image → DiskState) (all : List (List ℕ)) (word node : List ℕ) (image : Image) (words names mid_names : List (List ℕ)) (result : Result R OpenErr) →
    all ≡ word ∷ words → Names (IsImageOf store state) word node image → refusal_of names node (state image).size ≡ None → mid_names ≡ names ++ node ∷ [] →
    IfErr result (λ e. WhyUnfilled store state mid_names words e) → IfErr result (λ e. WhyUnfilled store state names all e)
why_on store state all word node image words names mid_names (Ok r) all_are named none names_are h = h
why_on store state all word node image words names mid_names (Err e) all_are named none names_are h =
    subst (λ ws. WhyUnfilled store state names ws e) (sym all_are) (why_more store state word node image names words e named none (subst (λ n. WhyUnfilled store state n words e) names_are h))

-- the words as a list

pub first_said : (words : List (Bor (List ℕ))) (other : Bor (List ℕ)) → 1 ≤ length words → map (λ word. word.now) words ≡ (get_or words 0 other).now ∷ map (λ word. word.now) (take (length words - 1) (drop 1 words))
first_said [] other h = absurd (omega arith)
first_said (word ∷ words) other h = ap (λ rest. word.now ∷ map (λ w. w.now) rest) (sym (take_rest (word ∷ words) 1))

pub no_word : {A B : Type 0} (f : A → B) → (xs : List A) → length xs < 1 → map f xs ≡ []
no_word f [] h = refl
no_word f (x ∷ xs) h = absurd (omega arith)

-- a rack that was empty at first

pub none_read : {A B C : Type 0} (f : A → B) (g : A → C) → (xs : List A) → map f xs ≡ [] → map g xs ≡ []
none_read f g [] e = refl
none_read f g (x ∷ xs) e = let none : ⊥ = cc in absurd none

pub filled_from_none : {Image : Type 0} (opens : List ℕ → Image → Type 0) (size : Image → ℕ) (words others names : List (List ℕ)) (images : List Image) (new_names : List (List ℕ)) (new_images : List Image) →
    words ≡ others → names ≡ [] → images ≡ [] → IsFilled opens size words names images new_names new_images → IsFilled opens size others [] [] new_names new_images
filled_from_none opens size words others names images new_names new_images words_are no_names no_images h =
    subst (λ ws. IsFilled opens size ws [] [] new_names new_images) words_are
    (subst (λ is. IsFilled opens size words [] is new_names new_images) no_images (subst (λ ns. IsFilled opens size words ns images new_names new_images) no_names h))

pub why_from_none : {File Image : Type 0} (store : Store File Image) (state : Image → DiskState) (words others names : List (List ℕ)) (e : OpenErr) → words ≡ others → names ≡ [] → WhyUnfilled store state names words e → WhyUnfilled store state [] others e
why_from_none store state words others names e words_are no_names h = subst (λ ws. WhyUnfilled store state [] ws e) words_are (subst (λ ns. WhyUnfilled store state ns words e) no_names h)
