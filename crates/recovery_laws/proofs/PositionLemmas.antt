-- Records by the keys that they have, and positions at the end of a sequential file.
use Rattle.std.proofs.Common.{◌≡◌, ℕ, suc, ◌+◌, List, [], ◌∷◌, ◌++◌, append_assoc, append-nil, length, map, Bool, true, false, cond, T, Some, None, refl, sym, ◌∙◌, ap, subst, arith}
use Rattle.std.specs.Prelude.{◌&&◌, is_some}
use Rattle.std.specs.Cmp.{nat_cmp_is, tied_itself}
use Rattle.std.specs.Ordering.{eq_by_cmp, is_lt}
use Rattle.std.specs.declared.cmp.Ordering.TheVariants.{Greater}
use Rattle.std.specs.FinMap.{empty, entries, entries-insert, entries_sorted, find, get, get-entries, get-remove, insert, is_sorted, remove}
use Rattle.std.specs.FinMap.Entries.{below_all, by_order, find-append, put, same_entries}
use Rattle.vms_model.specs.Keys.{Key, Number}
use Rattle.unit_laws.specs.records_model.Records.{Records, applied, key_cmp}
use Rattle.unit_laws.proofs.records_model.KeyLemmas.{key_cmp_total, key_cmp-IsAntisymmetric}
use Rattle.unit_laws.proofs.records_model.RecordsLemmas.{same_key}
use Rattle.world_laws.specs.run_model.World.{Indexed, Organization, Relative, Sequential, numbered}
use Rattle.world_laws.specs.run_model.Operations.{removed}
use Rattle.world_laws.proofs.run_model.EntryLemmas.{no_entries}
use Rattle.recovery_laws.specs.Loading.{HasNoGap}

abbrev Entries : Type 0
Entries = List (Key × List ℕ)

abbrev keys_in : Entries → List Key
keys_in es = map (λ e. e.0) es

-- Two maps of the same keys have these in the same order.

-- entries with their keys alone
abbrev bare : Entries → List (Key × Unit {0})
bare [] = []
bare (e ∷ es) = (e.0, tt) ∷ bare es

bare_keys : (es : Entries) → map (λ e. e.0) (bare es) ≡ keys_in es
bare_keys [] = refl
bare_keys (e ∷ es) = ap (λ ks. e.0 ∷ ks) (bare_keys es)

bare_below : (k : Key) (es : Entries) → below_all key_cmp k (bare es) ≡ below_all key_cmp k es
bare_below k [] = refl
bare_below k (e ∷ es) = ap (λ b. is_lt (key_cmp k e.0) && b) (bare_below k es)

bare_sorted : (es : Entries) → is_sorted key_cmp (bare es) ≡ is_sorted key_cmp es
bare_sorted [] = refl
bare_sorted (e ∷ es) = ap (λ b. b && is_sorted key_cmp (bare es)) (bare_below e.0 es) ∙ ap (λ b. below_all key_cmp e.0 es && b) (bare_sorted es)

bare_find : (q : Key) (es : Entries) → find key_cmp q (bare es) ≡ cond (is_some (find key_cmp q es)) (Some tt) None
bare_find q [] = refl
bare_find q (e ∷ es) = go (eq_by_cmp key_cmp q e.0) (bare_find q es)
  where
    go : (b : Bool) → find key_cmp q (bare es) ≡ cond (is_some (find key_cmp q es)) (Some tt) None → cond b (Some tt) (find key_cmp q (bare es)) ≡ cond (is_some (cond b (Some e.1) (find key_cmp q es))) (Some tt) None
    go true more = refl
    go false more = more

same_keys : (m n : Records) → ((q : Key) → is_some (find key_cmp q (entries m)) ≡ is_some (find key_cmp q (entries n))) → keys_in (entries m) ≡ keys_in (entries n)
same_keys m n same =
    sym (bare_keys (entries m))
    ∙ ap (map (λ (e : Key × Unit {0}). e.0)) (same_entries key_cmp key_cmp_total key_cmp-IsAntisymmetric (bare (entries m)) (bare (entries n)) (subst T (sym (bare_sorted (entries m))) (entries_sorted m)) (subst T (sym (bare_sorted (entries n))) (entries_sorted n))
    (λ q. bare_find q (entries m) ∙ ap (λ b. cond b (Some tt) None) (same q) ∙ sym (bare_find q (entries n))))
    ∙ bare_keys (entries n)

pub keys_length : (es : Entries) → length (keys_in es) ≡ length es
keys_length [] = refl
keys_length (e ∷ es) = ap suc (keys_length es)

-- where the same keys have records, there is no gap either
pub same_positions : (o : Organization) (m n : Records) → ((q : Key) → is_some (get n q) ≡ is_some (get m q)) → HasNoGap o m → HasNoGap o n
same_positions Sequential m n same gaps =
    let keys : keys_in (entries n) ≡ keys_in (entries m) = same_keys n m (λ q. ap is_some (sym (get-entries n q)) ∙ same q ∙ ap is_some (get-entries m q)) in
    keys ∙ gaps ∙ ap (numbered 1) (sym (keys_length (entries m)) ∙ ap length (sym keys) ∙ keys_length (entries n))
same_positions (Relative greatest) m n same gaps = tt
same_positions (Indexed position size) m n same gaps = tt

-- One more behind the last.

put_last : (first n : ℕ) (v : List ℕ) (es : Entries) → n ≡ first + length es → keys_in es ≡ numbered first (length es) → put key_cmp (Number n) v es ≡ es ++ (Number n, v) ∷ []
put_last first n v [] is e = refl
put_last first n v (x ∷ es) is e =
    ap (λ o. by_order o ((Number n, v) ∷ x ∷ es) ((x.0, v) ∷ es) (x ∷ put key_cmp (Number n) v es)) (ap (key_cmp (Number n)) (let key : x.0 ≡ Number first = cc in key) ∙ sym (nat_cmp_is n first Greater (omega (arith, is))))
    ∙ ap (λ xs. x ∷ xs) (put_last (first + 1) n v es (omega (arith, is)) (let rest : keys_in es ≡ numbered (first + 1) (length es) = cc in rest))

one_behind : (first n : ℕ) (v : List ℕ) (es : Entries) → n ≡ first + length es → keys_in es ≡ numbered first (length es) → keys_in (es ++ (Number n, v) ∷ []) ≡ numbered first (length (es ++ (Number n, v) ∷ []))
one_behind first n v [] is e = let same : n ≡ first = omega (arith, is) in ap (λ m. Number m ∷ []) same
one_behind first n v (x ∷ es) is e =
    ap (λ k. k ∷ keys_in (es ++ (Number n, v) ∷ [])) (let key : x.0 ≡ Number first = cc in key)
    ∙ ap (λ ks. Number first ∷ ks) (one_behind (first + 1) n v es (omega (arith, is)) (let rest : keys_in es ≡ numbered (first + 1) (length es) = cc in rest))

pub put_behind : (m : Records) (v : List ℕ) → HasNoGap Sequential m → HasNoGap Sequential (insert m (Number (length (entries m) + 1)) v)
put_behind m v gaps =
    let place : length (entries m) + 1 ≡ 1 + length (entries m) = omega arith in
    let left = entries-insert key_cmp_total m (Number (length (entries m) + 1)) v ∙ put_last 1 (length (entries m) + 1) v (entries m) place gaps in
    subst (λ es. keys_in es ≡ numbered 1 (length es)) (sym left) (one_behind 1 (length (entries m) + 1) v (entries m) place gaps)

-- The last ones gone.

first_of_both : (a b : Bool) → T (a && b) → T a
first_of_both true b h = tt
first_of_both false b h = h

second_of_both : (a b : Bool) → T (a && b) → T b
second_of_both true b h = h
second_of_both false b h = absurd h

both_of : (a b : Bool) → T a → T b → T (a && b)
both_of true b p q = q
both_of false b p q = p

front_below : (k : Key) (es : Entries) (x : Key × List ℕ) → T (below_all key_cmp k (es ++ x ∷ [])) → T (below_all key_cmp k es) × T (is_lt (key_cmp k x.0))
front_below k [] x h = (tt, first_of_both _ _ h)
front_below k (e ∷ es) x h = let rest = front_below k es x (second_of_both _ _ h) in (both_of _ _ (first_of_both _ _ h) rest.0, rest.1)

-- a key behind another is not that one
not_itself : (e x : Key) → T (is_lt (key_cmp e x)) → eq_by_cmp key_cmp x e ≡ false
not_itself e x less = go (eq_by_cmp key_cmp x e) refl
  where
    go : (b : Bool) → eq_by_cmp key_cmp x e ≡ b → b ≡ false
    go true is = absurd (subst (λ o. T (is_lt o)) (ap (key_cmp e) (same_key x e is) ∙ tied_itself key_cmp_total e) less)
    go false is = refl

front_sorted : (es : Entries) (x : Key × List ℕ) → T (is_sorted key_cmp (es ++ x ∷ [])) → T (is_sorted key_cmp es) × (find key_cmp x.0 es ≡ None)
front_sorted [] x h = (tt, refl)
front_sorted (e ∷ es) x h =
    let below = front_below e.0 es x (first_of_both _ _ h) in
    let rest = front_sorted es x (second_of_both _ _ h) in
    (both_of _ _ below.0 rest.0, ap (λ b. cond b (Some e.1) (find key_cmp x.0 es)) (not_itself e.0 x.0 below.1) ∙ rest.1)

last_gone : (m : Records) (es : Entries) (x : Key × List ℕ) → entries m ≡ es ++ x ∷ [] → entries (remove m x.0) ≡ es
last_gone m es x is =
    same_entries key_cmp key_cmp_total key_cmp-IsAntisymmetric (entries (remove m x.0)) es (entries_sorted (remove m x.0)) front.0
    (λ q. sym (get-entries (remove m x.0) q) ∙ get-remove key_cmp_total m x.0 q ∙ ap (cond (eq_by_cmp key_cmp q x.0) None) (get-entries m q ∙ ap (find key_cmp q) is ∙ find-append key_cmp key_cmp_total es x.0 x.1 q front.1) ∙ pick q (eq_by_cmp key_cmp q x.0) refl)
  where
    front : T (is_sorted key_cmp es) × (find key_cmp x.0 es ≡ None)
    front = front_sorted es x (subst (λ fs. T (is_sorted key_cmp fs)) is (entries_sorted m))

    pick : (q : Key) (b : Bool) → eq_by_cmp key_cmp q x.0 ≡ b → cond b None (cond b (Some x.1) (find key_cmp q es)) ≡ find key_cmp q es
    pick q true at = sym (ap (λ k. find key_cmp k es) (same_key q x.0 at) ∙ front.1)
    pick q false at = refl

cut_off : (es xs : Entries) (m : Records) → entries m ≡ es ++ xs → entries (applied (map removed xs) m) ≡ es
cut_off es [] m is = is ∙ append-nil es
cut_off es (x ∷ xs) m is = last_gone (applied (map removed xs) m) es x (cut_off (es ++ x ∷ []) xs m (is ∙ sym (append_assoc es (x ∷ []) xs)))

front_numbered : (first : ℕ) (es xs : Entries) → keys_in (es ++ xs) ≡ numbered first (length (es ++ xs)) → keys_in es ≡ numbered first (length es)
front_numbered first [] xs e = refl
front_numbered first (x ∷ es) xs e =
    ap (λ k. k ∷ keys_in es) (let key : x.0 ≡ Number first = cc in key) ∙ ap (λ ks. Number first ∷ ks) (front_numbered (first + 1) es xs (let rest : keys_in (es ++ xs) ≡ numbered (first + 1) (length (es ++ xs)) = cc in rest))

pub cut_behind : (m : Records) (es xs : Entries) → entries m ≡ es ++ xs → HasNoGap Sequential m → HasNoGap Sequential (applied (map removed xs) m)
cut_behind m es xs is gaps = subst (λ fs. keys_in fs ≡ numbered 1 (length fs)) (sym (cut_off es xs m is)) (front_numbered 1 es xs (subst (λ fs. keys_in fs ≡ numbered 1 (length fs)) is gaps))

-- Records that a load numbers.
pub no_positions : (o : Organization) → HasNoGap o empty
no_positions Sequential = subst (λ es. keys_in es ≡ numbered 1 (length es)) (sym (no_entries key_cmp)) refl
no_positions (Relative greatest) = tt
no_positions (Indexed position size) = tt
