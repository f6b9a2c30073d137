-- The answers to 'which record is the next' are the entries of a finite map in their order.
use Rattle.std.proofs.Common.{◌≡◌, ℕ, zero, suc, ◌+◌, ◌<◌, ◌≤◌, List, [], ◌∷◌, ◌++◌, length, take, Bool, true, false, cond, T, Option, Some, None, refl, sym, ap, subst, ◌∙◌, arith, add-one}
use Rattle.std.specs.Prelude.{◌&&◌}
use Rattle.std.specs.Cmp.{tied_itself}
use Rattle.std.specs.Ordering.{is_lt, is_eq, ordering_reverse}
use Rattle.std.specs.declared.cmp.Ordering.{Ordering}
use Rattle.std.specs.declared.cmp.Ordering.TheVariants.{Less, Equal, Greater}
use Rattle.std.specs.FinMap.{entries, entries_sorted, get, get-entries, find, is_sorted}
use Rattle.std.specs.FinMap.Entries.{below_all}
use Rattle.std.proofs.lemmas.List.{take_all}
use Rattle.file_images.specs.change_set.Maps.{Map, IsNext, EndsAfter, is_after, key_before}
use Rattle.records_model.specs.vms_model.Keys.{Key}
use Rattle.records_model.specs.Records.{Records, key_cmp}
use Rattle.records_model.proofs.KeyLemmas.{key_cmp_total, key_cmp-IsAntisymmetric}
use Rattle.directory_model.specs.Files.{IsShown, last_key}
use Rattle.directory_model.specs.Laws.{ShowsRecords}

abbrev Entries : Type 0
Entries = List (Key × List ℕ)

parts : (a b : Bool) → T (a && b) → (a ≡ true) × T b
parts true b t = (refl, t)
parts false b t = absurd t

lt_less : (o : Ordering) → is_lt o ≡ true → o ≡ Less
lt_less Less e = refl
lt_less Equal e = let no : ⊥ = cc in absurd no
lt_less Greater e = let no : ⊥ = cc in absurd no

as_test : (b : Bool) → b ≡ true → T b
as_test true e = tt
as_test false e = let no : ⊥ = cc in absurd no

before_trans : (a b c : Key) → key_before a b ≡ true → key_before b c ≡ true → key_before a c ≡ true
before_trans a b c p q = ap is_lt (key_cmp_total.trans a b c (lt_less (key_cmp a b) p) (lt_less (key_cmp b c) q))

-- a key below all of these is none of them
below_of : (key x : Key) (es : Entries) → key_before key x ≡ true → T (below_all key_cmp x es) → T (below_all key_cmp key es)
below_of key x [] first below = tt
below_of key x (e ∷ es) first below =
    let both = parts (is_lt (key_cmp x e.0)) (below_all key_cmp x es) below in
    ap_both (is_lt (key_cmp key e.0)) (below_all key_cmp key es) (before_trans key x e.0 first both.0) (below_of key x es first both.1)
  where
    ap_both : (a b : Bool) → a ≡ true → T b → T (a && b)
    ap_both true b e t = t
    ap_both false b e t = let no : ⊥ = cc in absurd no

find_other : (key : Key) (e : Key × List ℕ) (es : Entries) (o : Ordering) → key_cmp key e.0 ≡ o → is_eq o ≡ false → find key_cmp key (e ∷ es) ≡ find key_cmp key es
find_other key e es o is differs = ap (λ b. cond b (Some e.1) (find key_cmp key es)) (ap is_eq is ∙ differs)

find_here : (key : Key) (e : Key × List ℕ) (es : Entries) → key_cmp key e.0 ≡ Equal → find key_cmp key (e ∷ es) ≡ Some e.1
find_here key e es is = ap (λ o. cond (is_eq o) (Some e.1) (find key_cmp key es)) is

none_below : (key : Key) (es : Entries) → T (below_all key_cmp key es) → find key_cmp key es ≡ None
none_below key [] below = refl
none_below key (e ∷ es) below =
    let both = parts (is_lt (key_cmp key e.0)) (below_all key_cmp key es) below in
    find_other key e es Less (lt_less (key_cmp key e.0) both.0) refl ∙ none_below key es both.1

-- a key, where there is one, is below all of these
abbrev Behind : Option Key → Entries → Type 0
Behind None es = Unit {0}
Behind (Some key) es = T (below_all key_cmp key es)

first_after : (after : Option Key) (e : Key × List ℕ) (es : Entries) → Behind after (e ∷ es) → is_after after e.0 ≡ true
first_after None e es behind = refl
first_after (Some key) e es behind = (parts (is_lt (key_cmp key e.0)) (below_all key_cmp key es) behind).0

-- what the keys behind one have is found in these entries
abbrev Finds : Map → Option Key → Entries → Type 0
Finds keys after es = (key : Key) → is_after after key ≡ true → keys key ≡ find key_cmp key es

after_first : (after : Option Key) (e : Key × List ℕ) (es : Entries) (key : Key) → Behind after (e ∷ es) → key_before e.0 key ≡ true → is_after after key ≡ true
after_first None e es key behind later = refl
after_first (Some old) e es key behind later = before_trans old e.0 key (first_after (Some old) e es behind) later

less_greater : (a b : Key) → key_cmp a b ≡ Less → key_cmp b a ≡ Greater
less_greater a b is = key_cmp_total.antisymm b a ∙ ap ordering_reverse is

greater_less : (a b : Key) → key_cmp a b ≡ Greater → key_cmp b a ≡ Less
greater_less a b is = key_cmp_total.antisymm b a ∙ ap ordering_reverse is

-- behind the first entry are the others
finds_rest : (keys : Map) (after : Option Key) (e : Key × List ℕ) (es : Entries) → Behind after (e ∷ es) → Finds keys after (e ∷ es) → Finds keys (Some e.0) es
finds_rest keys after e es behind finds key later =
    finds key (after_first after e es key behind later) ∙ find_other key e es Greater (less_greater e.0 key (lt_less (key_cmp e.0 key) later)) refl

has_first : (keys : Map) (after : Option Key) (e : Key × List ℕ) (es : Entries) → Behind after (e ∷ es) → Finds keys after (e ∷ es) → keys e.0 ≡ Some e.1
has_first keys after e es behind finds = finds e.0 (first_after after e es behind) ∙ find_here e.0 e es (tied_itself key_cmp_total e.0)

clash : {A : Type 0} (o : Option A) (x : A) → o ≡ None → o ≡ Some x → ⊥
clash o x none some = let k : None ≡ Some x = sym none ∙ some in cc

-- the next is the first of the entries
next_first : (keys : Map) (after : Option Key) (e : Key × List ℕ) (es : Entries) (key : Key) (bytes : List ℕ) → Behind after (e ∷ es) → T (is_sorted key_cmp (e ∷ es)) → Finds keys after (e ∷ es) → IsNext keys after key bytes → e ≡ (key, bytes)
next_first keys after e es key bytes behind sorted finds next = go (key_cmp key e.0) refl
  where
    below : T (below_all key_cmp e.0 es)
    below = as_test (below_all key_cmp e.0 es) (parts (below_all key_cmp e.0 es) (is_sorted key_cmp es) sorted).0

    there : find key_cmp key (e ∷ es) ≡ Some bytes
    there = sym (finds key next.behind) ∙ next.has

    go : (o : Ordering) → key_cmp key e.0 ≡ o → e ≡ (key, bytes)
    go Less is = absurd (clash (find key_cmp key (e ∷ es)) bytes (find_other key e es Less is refl ∙ none_below key es (below_of key e.0 es (ap is_lt is) below)) there)
    go Equal is = let value : e.1 ≡ bytes = (let k : Some e.1 ≡ Some bytes = sym (find_here key e es is) ∙ there in cc) in
        let at : e.0 ≡ key = sym (key_cmp-IsAntisymmetric key e.0 is) in
        λ i. (at i, value i)
    go Greater is = absurd (clash (keys e.0) e.1 (next.least e.0 (first_after after e es behind) (ap is_lt (greater_less key e.0 is))) (has_first keys after e es behind finds))

-- the last key of these, or the one before them
abbrev last_from : Option Key → Entries → Option Key
last_from after [] = after
last_from after (e ∷ es) = last_from (Some e.0) es

last_is : (e : Key × List ℕ) (es : Entries) → last_key (e ∷ es) ≡ last_from (Some e.0) es
last_is e [] = refl
last_is e (d ∷ es) = last_is d es

last_key_is : (es : Entries) → last_key es ≡ last_from None es
last_key_is [] = refl
last_key_is (e ∷ es) = last_is e es

rest_sorted : (e : Key × List ℕ) (es : Entries) → T (is_sorted key_cmp (e ∷ es)) → T (is_sorted key_cmp es)
rest_sorted e es sorted = (parts (below_all key_cmp e.0 es) (is_sorted key_cmp es) sorted).1

rest_behind : (e : Key × List ℕ) (es : Entries) → T (is_sorted key_cmp (e ∷ es)) → Behind (Some e.0) es
rest_behind e es sorted = as_test (below_all key_cmp e.0 es) (parts (below_all key_cmp e.0 es) (is_sorted key_cmp es) sorted).0

-- the next behind so many entries is the one that follows them
next_at : (keys : Map) (after : Option Key) (es : Entries) (count : ℕ) (key : Key) (bytes : List ℕ) → Behind after es → T (is_sorted key_cmp es) → Finds keys after es → count ≤ length es → IsNext keys (last_from after (take count es)) key bytes →
    (count < length es) × (take (suc count) es ≡ take count es ++ (key, bytes) ∷ [])
next_at keys after [] zero key bytes behind sorted finds few next = absurd (clash (keys key) bytes (finds key next.behind) next.has)
next_at keys after [] (suc count) key bytes behind sorted finds few next = absurd (omega arith)
next_at keys after (e ∷ es) zero key bytes behind sorted finds few next =
    (omega arith, ap (λ x. x ∷ []) (next_first keys after e es key bytes behind sorted finds next))
next_at keys after (e ∷ es) (suc count) key bytes behind sorted finds few next =
    let rest = next_at keys (Some e.0) es count key bytes (rest_behind e es sorted) (rest_sorted e es sorted) (finds_rest keys after e es behind finds) (omega arith) next in
    (omega (arith, rest.0), ap (λ l. e ∷ l) rest.1)

-- where nothing is behind so many entries, they are all
ends_at : (keys : Map) (after : Option Key) (es : Entries) (count : ℕ) → Behind after es → T (is_sorted key_cmp es) → Finds keys after es → count ≤ length es → EndsAfter keys (last_from after (take count es)) → count ≡ length es
ends_at keys after [] count behind sorted finds few ends = omega arith
ends_at keys after (e ∷ es) zero behind sorted finds few ends = absurd (clash (keys e.0) e.1 (ends e.0 (first_after after e es behind)) (has_first keys after e es behind finds))
ends_at keys after (e ∷ es) (suc count) behind sorted finds few ends = ap suc (ends_at keys (Some e.0) es count (rest_behind e es sorted) (rest_sorted e es sorted) (finds_rest keys after e es behind finds) (omega arith) ends)

-- Of a file's records.

finds_all : (m : Records) (keys : Map) → ((k : Key) → get m k ≡ keys k) → Finds keys None (entries m)
finds_all m keys same key after = sym (same key) ∙ get-entries m key

last_of_more : (es : Entries) (e : Key × List ℕ) → last_key (es ++ e ∷ []) ≡ Some e.0
last_of_more [] e = refl
last_of_more (d ∷ []) e = refl
last_of_more (d ∷ c ∷ es) e = last_of_more (c ∷ es) e

shows_next : (m : Records) (keys : Map) (count : ℕ) (after : Option Key) (key : Key) (bytes : List ℕ) → ((k : Key) → get m k ≡ keys k) → IsShown m count after → IsNext keys after key bytes →
    IsShown m (count + 1) (Some key) × (take (count + 1) (entries m) ≡ take count (entries m) ++ (key, bytes) ∷ [])
shows_next m keys count after key bytes same shown next =
    let up_to : after ≡ last_from None (take count (entries m)) = sym shown.last ∙ last_key_is (take count (entries m)) in
    let it = next_at keys None (entries m) count key bytes tt (entries_sorted m) (finds_all m keys same) shown.few (subst (λ o. IsNext keys o key bytes) up_to next) in
    let more : take (count + 1) (entries m) ≡ take count (entries m) ++ (key, bytes) ∷ [] = ap (λ n. take n (entries m)) (add-one count) ∙ it.1 in
    (record { few = omega (arith, it.0); last = ap last_key more ∙ last_of_more (take count (entries m)) (key, bytes) }, more)

shows_last : (m : Records) (keys : Map) (count : ℕ) (after : Option Key) → ((k : Key) → get m k ≡ keys k) → IsShown m count after → EndsAfter keys after → (count ≡ length (entries m)) × (take count (entries m) ≡ entries m)
shows_last m keys count after same shown ends =
    let up_to : after ≡ last_from None (take count (entries m)) = sym shown.last ∙ last_key_is (take count (entries m)) in
    let all = ends_at keys None (entries m) count tt (entries_sorted m) (finds_all m keys same) shown.few (subst (EndsAfter keys) up_to ends) in
    (all, take_all count (entries m) (omega (arith, all)))

pub shows_records : ShowsRecords
shows_records = record {
  first = λ m. record { few = omega arith; last = refl };
  next = shows_next;
  last = shows_last;
}
