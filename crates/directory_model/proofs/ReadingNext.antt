-- The next record of a file is the first entry behind a key.
use Rattle.std.proofs.Common.{◌≡◌, ℕ, List, [], ◌∷◌, Bool, true, false, cond, T, Option, Some, None, if◌then◌else◌, refl, sym, ap, ◌∙◌}
use Rattle.std.specs.Prelude.{◌&&◌}
use Rattle.std.specs.Cmp.{tied_itself}
use Rattle.std.specs.Ordering.{is_lt, is_eq, ordering_reverse}
use Rattle.std.specs.declared.cmp.Ordering.{Ordering}
use Rattle.std.specs.declared.cmp.Ordering.TheVariants.{Less, Equal, Greater}
use Rattle.std.specs.FinMap.{entries_sorted, get-entries, find, is_sorted}
use Rattle.std.specs.FinMap.Entries.{below_all}
use Rattle.extents.specs.file_base.declared.head.FileHead.{FileHead}
use Rattle.file_images.specs.change_set.Maps.{Map, IsNext, EndsAfter, is_after, key_before}
use Rattle.records_model.specs.vms_model.Keys.{Key}
use Rattle.records_model.specs.Records.{key_cmp}
use Rattle.records_model.specs.History.{current}
use Rattle.records_model.proofs.KeyLemmas.{key_cmp_total, key_cmp-IsAntisymmetric}
use Rattle.file_images.specs.run_model.World.{File}
use Rattle.file_images.specs.run_model.Operations.{first_behind, in_order, is_behind}
use Rattle.file_images.specs.record_files.Any.{map_of}
use Rattle.directory_model.specs.Files.{IsFile}
use Rattle.directory_model.proofs.ReadingLists.{Entries, as_test}

is_behind_as : (after : Option Key) (key : Key) → is_behind after key ≡ is_after after key
is_behind_as None key = refl
is_behind_as (Some a) key = refl

parts : (a b : Bool) → T (a && b) → (a ≡ true) × T b
parts true b t = (refl, t)
parts false b t = absurd t

lt_less : (o : Ordering) → is_lt o ≡ true → o ≡ Less
lt_less Less e = refl
lt_less Equal e = let no : ⊥ = cc in absurd no
lt_less Greater e = let no : ⊥ = cc in absurd no

eq_equal : (o : Ordering) → is_eq o ≡ true → o ≡ Equal
eq_equal Less e = let no : ⊥ = cc in absurd no
eq_equal Equal e = refl
eq_equal Greater e = let no : ⊥ = cc in absurd no

before_trans : (a b c : Key) → key_before a b ≡ true → key_before b c ≡ true → key_before a c ≡ true
before_trans a b c p q = ap is_lt (key_cmp_total.trans a b c (lt_less (key_cmp a b) p) (lt_less (key_cmp b c) q))

clash : {A : Type 0} (o : Option A) (x : A) → o ≡ None → o ≡ Some x → ⊥
clash o x none some = let k : None ≡ Some x = sym none ∙ some in cc

find_here : (key : Key) (e : Key × List ℕ) (es : Entries) → key_cmp key e.0 ≡ Equal → find key_cmp key (e ∷ es) ≡ Some e.1
find_here key e es is = ap (λ o. cond (is_eq o) (Some e.1) (find key_cmp key es)) is

find_other : (key : Key) (e : Key × List ℕ) (es : Entries) → is_eq (key_cmp key e.0) ≡ false → find key_cmp key (e ∷ es) ≡ find key_cmp key es
find_other key e es differs = ap (λ b. cond b (Some e.1) (find key_cmp key es)) differs

none_below : (key : Key) (es : Entries) → T (below_all key_cmp key es) → find key_cmp key es ≡ None
none_below key [] below = refl
none_below key (e ∷ es) below =
    let both = parts (is_lt (key_cmp key e.0)) (below_all key_cmp key es) below in
    find_other key e es (ap is_eq (lt_less (key_cmp key e.0) both.0)) ∙ none_below key es both.1

below_of : (key x : Key) (es : Entries) → key_before key x ≡ true → T (below_all key_cmp x es) → T (below_all key_cmp key es)
below_of key x [] first below = tt
below_of key x (e ∷ es) first below =
    let both = parts (is_lt (key_cmp x e.0)) (below_all key_cmp x es) below in
    ap_both (is_lt (key_cmp key e.0)) (below_all key_cmp key es) (before_trans key x e.0 first both.0) (below_of key x es first both.1)
  where
    ap_both : (a b : Bool) → a ≡ true → T b → T (a && b)
    ap_both true b e t = t
    ap_both false b e t = let no : ⊥ = cc in absurd no

greater_less : (a b : Key) → key_cmp a b ≡ Greater → key_cmp b a ≡ Less
greater_less a b is = key_cmp_total.antisymm b a ∙ ap ordering_reverse is

-- what keys behind one have is found in these entries
abbrev Finds : Map → Option Key → Entries → Type 0
Finds keys after es = (key : Key) → is_after after key ≡ true → keys key ≡ find key_cmp key es

pick : {A : Type 0} (P : A → Type 0) (t : Bool) (x y : A) → (t ≡ true → P x) → (t ≡ false → P y) → P (if t then x else y)
pick P true x y a b = a refl
pick P false x y a b = b refl

-- a key behind one does not tie with a key that is not
not_tied : (after : Option Key) (key x : Key) → is_after after x ≡ false → is_after after key ≡ true → is_eq (key_cmp key x) ≡ false
not_tied after key x not behind = go (key_cmp key x) refl
  where
    go : (o : Ordering) → key_cmp key x ≡ o → is_eq o ≡ false
    go Less is = refl
    go Equal is = let same : key ≡ x = key_cmp-IsAntisymmetric key x is in let no : true ≡ false = sym behind ∙ ap (is_after after) same ∙ not in cc
    go Greater is = refl

finds_rest : (keys : Map) (after : Option Key) (e : Key × List ℕ) (es : Entries) → is_after after e.0 ≡ false → Finds keys after (e ∷ es) → Finds keys after es
finds_rest keys after e es not finds key behind = finds key behind ∙ find_other key e es (not_tied after key e.0 not behind)

first_is : (keys : Map) (after : Option Key) (e : Key × List ℕ) (es : Entries) (key : Key) (bytes : List ℕ) → T (is_sorted key_cmp (e ∷ es)) → is_after after e.0 ≡ true → Finds keys after (e ∷ es) → IsNext keys after key bytes → e ≡ (key, bytes)
first_is keys after e es key bytes sorted behind finds next = go (key_cmp key e.0) refl
  where
    below : T (below_all key_cmp e.0 es)
    below = as_test (below_all key_cmp e.0 es) (parts (below_all key_cmp e.0 es) (is_sorted key_cmp es) sorted).0

    there : find key_cmp key (e ∷ es) ≡ Some bytes
    there = sym (finds key next.behind) ∙ next.has

    first_has : keys e.0 ≡ Some e.1
    first_has = finds e.0 behind ∙ find_here e.0 e es (tied_itself key_cmp_total e.0)

    go : (o : Ordering) → key_cmp key e.0 ≡ o → e ≡ (key, bytes)
    go Less is = absurd (clash (find key_cmp key (e ∷ es)) bytes (find_other key e es (ap is_eq is) ∙ none_below key es (below_of key e.0 es (ap is_lt is) below)) there)
    go Equal is = let value : e.1 ≡ bytes = (let k : Some e.1 ≡ Some bytes = sym (find_here key e es is) ∙ there in cc) in
        let at : e.0 ≡ key = sym (key_cmp-IsAntisymmetric key e.0 is) in
        λ i. (at i, value i)
    go Greater is = absurd (clash (keys e.0) e.1 (next.least e.0 behind (ap is_lt (greater_less key e.0 is))) first_has)

next_in : (keys : Map) (after : Option Key) (es : Entries) (key : Key) (bytes : List ℕ) → T (is_sorted key_cmp es) → Finds keys after es → IsNext keys after key bytes → first_behind after es ≡ Some (key, bytes)
next_in keys after [] key bytes sorted finds next = absurd (clash (keys key) bytes (finds key next.behind) next.has)
next_in keys after (e ∷ es) key bytes sorted finds next =
    pick (λ (o : Option (Key × List ℕ)). o ≡ Some (key, bytes)) (is_behind after e.0) (Some e) (first_behind after es)
    (λ behind. ap Some (first_is keys after e es key bytes sorted (sym (is_behind_as after e.0) ∙ behind) finds next))
    (λ not. next_in keys after es key bytes (parts (below_all key_cmp e.0 es) (is_sorted key_cmp es) sorted).1 (finds_rest keys after e es (sym (is_behind_as after e.0) ∙ not) finds) next)

ends_in : (keys : Map) (after : Option Key) (es : Entries) → T (is_sorted key_cmp es) → Finds keys after es → EndsAfter keys after → first_behind after es ≡ None
ends_in keys after [] sorted finds ends = refl
ends_in keys after (e ∷ es) sorted finds ends =
    pick (λ (o : Option (Key × List ℕ)). o ≡ None) (is_behind after e.0) (Some e) (first_behind after es)
    (λ behind. let there = sym (is_behind_as after e.0) ∙ behind in absurd (clash (keys e.0) e.1 (ends e.0 there) (finds e.0 there ∙ find_here e.0 e es (tied_itself key_cmp_total e.0))))
    (λ not. ends_in keys after es (parts (below_all key_cmp e.0 es) (is_sorted key_cmp es) sorted).1 (finds_rest keys after e es (sym (is_behind_as after e.0) ∙ not) finds) ends)

finds_file : (content : List (List ℕ)) (h : FileHead) (file : File) (after : Option Key) → IsFile content h file → Finds (map_of h content) after (in_order file)
finds_file content h file after of key behind = sym (of.records key) ∙ get-entries (current file.history) key

pub next : (content : List (List ℕ)) (h : FileHead) (file : File) (after : Option Key) (key : Key) (bytes : List ℕ) → IsFile content h file → IsNext (map_of h content) after key bytes → first_behind after (in_order file) ≡ Some (key, bytes)
next content h file after key bytes of is = next_in (map_of h content) after (in_order file) key bytes (entries_sorted (current file.history)) (finds_file content h file after of) is

pub end : (content : List (List ℕ)) (h : FileHead) (file : File) (after : Option Key) → IsFile content h file → EndsAfter (map_of h content) after → first_behind after (in_order file) ≡ None
end content h file after of ends = ends_in (map_of h content) after (in_order file) (entries_sorted (current file.history)) (finds_file content h file after of) ends
