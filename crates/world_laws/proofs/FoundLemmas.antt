-- What an operation asks for, and what its changes found.
use Rattle.std.proofs.Common.{◌≡◌, ◌<◌, ◌≤◌, ℕ, zero, suc, ◌-◌, List, [], ◌∷◌, ◌++◌, map, reverse, drop, Bool, true, false, ◌&&◌, ◌||◌, Option, Some, None, T, leb, if◌then◌else◌, refl, sym, ◌∙◌, ap, subst, arith}
use Rattle.std.specs.Prelude.{nat_lt}
use Rattle.std.specs.List.{AllByRecursion}
use Rattle.std.specs.Cmp.{tied_itself}
use Rattle.std.specs.FinMap.{entries, get, entries_sorted, get-entries}
use Rattle.std.specs.FinMap.Entries.{below_all, find, is_sorted}
use Rattle.std.specs.Ordering.{eq_by_cmp, is_lt}
use Rattle.std.specs.declared.cmp.Ordering.{Ordering}
use Rattle.std.specs.declared.cmp.Ordering.TheVariants.{Less, Equal, Greater}
use Rattle.std.proofs.lemmas.List.{reverse-append}
use Rattle.std.proofs.lemmas.Bool.{leb-false, ltb-false, or_parts}
use Rattle.vms_model.specs.Keys.{Key}
use Rattle.run_model.specs.transcript_model.Lines as line
use Rattle.run_model.specs.script_model.Statements.{Operation, Put, Update, Delete, Truncate, Get, Next}
use Rattle.run_model.specs.records_model.Records.{Records, Change, Found, key_cmp}
use Rattle.run_model.specs.records_model.History.{changes_key, current}
use Rattle.run_model.proofs.records_model.KeyLemmas.{key_cmp_total}
use Rattle.run_model.specs.unit_laws.Units.{latest_after}
use Rattle.run_model.proofs.unit_laws.CurrentLemmas.{applied_at}
use Rattle.world_laws.proofs.AnswerLemmas.{not_refused}
use Rattle.run_model.specs.World.{File, Organization, Sequential, Relative, Indexed}
use Rattle.run_model.specs.Operations.{changes_of, count_of, cut_keys, data_refused, in_order, key_put, keys_asked, put_keys, removed}

-- The records of a file in the order of their keys.

abbrev pub Entry : Type 0
Entry = Key × List ℕ

pub first_part : (a b : Bool) → T (a && b) → T a
first_part true b p = tt
first_part false b p = absurd p

pub second_part : (a b : Bool) → T (a && b) → T b
second_part true b p = p
second_part false b p = absurd p

pub less : (o : Ordering) → T (is_lt o) → o ≡ Less
less Less p = refl
less Equal p = absurd p
less Greater p = absurd p

-- a lesser key is not one of these
apart_below : (key : Key) (es : List Entry) → T (below_all key_cmp key es) → changes_key key (map removed es) ≡ false
apart_below key [] h = refl
apart_below key (e ∷ es) h = rw (less (key_cmp key e.0) (first_part _ _ h)) (apart_below key es (second_part _ _ h))

-- what is found behind a lesser key is found
pass : (e : Entry) (xs es : List Entry) → T (below_all key_cmp e.0 xs) → AllByRecursion (λ (x : Entry). find key_cmp x.0 es ≡ Some x.1) xs → AllByRecursion (λ (x : Entry). find key_cmp x.0 (e ∷ es) ≡ Some x.1) xs
pass e [] es b h = tt
pass e (x ∷ xs) es b h = (rw (key_cmp_total.antisymm x.0 e.0, less (key_cmp e.0 x.0) (first_part _ _ b)) h.0, pass e xs es (second_part _ _ b) h.1)

pub itself : (key : Key) → eq_by_cmp key_cmp key key ≡ true
itself key = rw (tied_itself key_cmp_total key) refl

pub sorted_in : (es : List Entry) → T (is_sorted key_cmp es) → AllByRecursion (λ (x : Entry). find key_cmp x.0 es ≡ Some x.1) es
sorted_in [] s = tt
sorted_in (e ∷ es) s = (rw (itself e.0) refl, pass e es es (first_part _ _ s) (sorted_in es (second_part _ _ s)))

pub all_got : (m : Records) (es : List Entry) → AllByRecursion (λ (x : Entry). find key_cmp x.0 (entries m) ≡ Some x.1) es → AllByRecursion (λ (x : Entry). get m x.0 ≡ Some x.1) es
all_got m [] h = tt
all_got m (x ∷ es) h = (get-entries m x.0 ∙ h.0, all_got m es h.1)

pub dropped : (P : Entry → Type 0) (k : ℕ) (xs : List Entry) → AllByRecursion P xs → AllByRecursion P (drop k xs)
dropped P zero xs h = h
dropped P (suc k) [] h = tt
dropped P (suc k) (x ∷ xs) h = dropped P k xs h.1

pub sorted_dropped : (k : ℕ) (es : List Entry) → T (is_sorted key_cmp es) → T (is_sorted key_cmp (drop k es))
sorted_dropped zero es h = h
sorted_dropped (suc k) [] h = tt
sorted_dropped (suc k) (e ∷ es) h = sorted_dropped k es (second_part _ _ h)

removed_found : (m : Records) (es : List Entry) → T (is_sorted key_cmp es) → AllByRecursion (λ (x : Entry). get m x.0 ≡ Some x.1) es → Found (map removed es) m
removed_found m [] s h = tt
removed_found m (e ∷ es) s h = (sym (applied_at (map removed es) m e.0 ∙ ap (λ b. if b then latest_after (map removed es) e.0 else get m e.0) (apart_below e.0 es (first_part _ _ s)) ∙ h.0), removed_found m es (second_part _ _ s) h.1)

-- each change of an operation noted what it found
pub changes_found : (f : File) (op : Operation) → Found (changes_of f op) (current f.history)
changes_found f (Put number bytes) = (refl, tt)
changes_found f (Update key bytes) = (refl, tt)
changes_found f (Delete key) = (refl, tt)
changes_found f (Truncate number) =
    let m = current f.history in
    removed_found m (drop (number - 1) (entries m)) (sorted_dropped (number - 1) (entries m) (entries_sorted m))
    (all_got m (drop (number - 1) (entries m)) (dropped (λ x. find key_cmp x.0 (entries m) ≡ Some x.1) (number - 1) (entries m) (sorted_in (entries m) (entries_sorted m))))
changes_found f (Get key) = tt
changes_found f (Next after) = tt

-- Keys.

put_asked : (P : Key → Type 0) (o : Organization) (count : ℕ) (number : Option ℕ) (bytes : List ℕ) → AllByRecursion P (put_keys o count number bytes) → P (key_put o count number bytes)
put_asked P Sequential count number bytes h = h.1.0
put_asked P (Relative greatest) count number bytes h = h.0
put_asked P (Indexed position size) count number bytes h = h.0

behind : (P : Key → Type 0) (xs : List Key) (y : Key) → AllByRecursion P (xs ++ y ∷ []) → P y × AllByRecursion P xs
behind P [] y h = (h.0, tt)
behind P (x ∷ xs) y h = let r = behind P xs y h.1 in (r.0, (h.0, r.1))

unreversed : (P : Key → Type 0) (xs : List Key) → AllByRecursion P (reverse xs) → AllByRecursion P xs
unreversed P [] h = tt
unreversed P (x ∷ xs) h = let r = behind P (reverse xs) x (subst (AllByRecursion P) (reverse-append (x ∷ []) xs) h) in (r.0, unreversed P xs r.1)

keys_removed : (P : Key → Type 0) (es : List Entry) → AllByRecursion P (map (λ e. e.0) es) → AllByRecursion (λ (c : Change). P c.key) (map removed es)
keys_removed P [] h = tt
keys_removed P (e ∷ es) h = (h.0, keys_removed P es h.1)

cut_asked : (P : Key → Type 0) (f : File) (number : ℕ) → data_refused f (Truncate number) ≡ None → AllByRecursion P (cut_keys f number) → AllByRecursion (λ (c : Change). P c.key) (map removed (drop (number - 1) (in_order f)))
cut_asked P f number passes h = go (leb 1 number) refl h
  where
    at_least : 1 ≤ number
    at_least = ltb-false number 1 (or_parts (nat_lt number 1) (nat_lt (count_of f) number) (not_refused (nat_lt number 1 || nat_lt (count_of f) number) line.RecordNotFound passes)).0

    go : (b : Bool) → leb 1 number ≡ b → AllByRecursion P (if b then reverse (map (λ e. e.0) (drop (number - 1) (in_order f))) else []) → AllByRecursion (λ (c : Change). P c.key) (map removed (drop (number - 1) (in_order f)))
    go true t k = keys_removed P (drop (number - 1) (in_order f)) (unreversed P (map (λ e. e.0) (drop (number - 1) (in_order f))) k)
    go false t k = let low : number < 1 = leb-false 1 number t in absurd (omega (arith, at_least, low))

-- what holds of all keys that an operation asks for holds of those that it changes
pub changes_asked : (P : Key → Type 0) (f : File) (op : Operation) → data_refused f op ≡ None → AllByRecursion P (keys_asked f op) → AllByRecursion (λ (c : Change). P c.key) (changes_of f op)
changes_asked P f (Put number bytes) passes h = (put_asked P f.organization (count_of f) number bytes h, tt)
changes_asked P f (Update key bytes) passes h = (h.0, tt)
changes_asked P f (Delete key) passes h = (h.0, tt)
changes_asked P f (Truncate number) passes h = cut_asked P f number passes h.1
changes_asked P f (Get key) passes h = tt
changes_asked P f (Next after) passes h = tt
