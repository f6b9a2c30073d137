-- The lowest keys of leaves.
use Rattle.std.proofs.Common.{◌≡◌, ◌<◌, ◌≤◌, ◌+◌, ◌-◌, ◌*◌, ◌/◌, ◌%◌, ◌==◌, ◌&&◌, ℕ, zero, suc, Bool, true, false, List, [], ◌∷◌, ◌++◌, nat_le, if◌then◌else◌, length, map, take, drop, get_or, set, min, replicate, refl, sym, ap, ◌∙◌, arith, append-nil, append_assoc, length-append, length-drop, length-set}
use Rattle.std.proofs.lemmas.List.{drop_more, drop_all, get_or-drop}
use Rattle.std.proofs.lemmas.Bool.Decides.{nat_tests}
use Rattle.file_base.specs.declared.head.FileHead.{FileHead}
use Rattle.file_base.specs.Bytes.{piece_at}
use Rattle.bucket_page.specs.Pages.{joined, key_in, suits, u16_at}
use Rattle.bucket_page.proofs.PageLaws.{joined-append}
use Rattle.load_laws.specs.indexed_file.Chain.{kind_of}
use Rattle.load_laws.specs.Chains.{raw_for, packed}
use Rattle.load_laws.specs.Keys.{first_raw_key, lowest_keys, every}
use Rattle.load_laws.proofs.ChainLemmas.{packed_fits, packed_over, packed_some}

-- the keys of the buckets behind the first
abbrev pub later_keys : FileHead → List (List (List ℕ)) → List (List ℕ)
later_keys h [] = []
later_keys h (p ∷ ps) = map (first_raw_key h) ps

-- the bucket that is filled has these slots, of so many bytes, and the keys so far are those of the buckets up to it
pub record KeysTo (h : FileHead) (cap : ℕ) (raws : List (List ℕ)) (at used : ℕ) (keys : List (List ℕ)) : Type 0 where
  pub now : List (List ℕ)
  pub bytes : length (joined now) ≡ used
  pub rest : lowest_keys h (packed cap [] raws) ≡ keys ++ later_keys h (packed cap now (drop at raws))

joined_one : (now : List (List ℕ)) (s : List ℕ) → length (joined (now ++ s ∷ [])) ≡ length (joined now) + length s
joined_one now s =
    let both = ap (λ (x : List ℕ). length x) (joined-append now (s ∷ [])) in
    let long = length-append (joined now) (joined (s ∷ [])) in
    let last = ap (λ (x : List ℕ). length x) (append-nil s) in omega (arith, both, long, last)

first_of : (h : FileHead) (cap : ℕ) (s : List ℕ) (now ss : List (List ℕ)) → map (first_raw_key h) (packed cap (s ∷ now) ss) ≡ key_in (kind_of h) s ∷ later_keys h (packed cap (s ∷ now) ss)
first_of h cap s now [] = refl
first_of h cap s now (r ∷ rs) = go (nat_le (length (joined (s ∷ now ++ r ∷ []))) cap) (first_of h cap s (now ++ r ∷ []) rs)
  where
    go : (t : Bool) → map (first_raw_key h) (packed cap (s ∷ now ++ r ∷ []) rs) ≡ key_in (kind_of h) s ∷ later_keys h (packed cap (s ∷ now ++ r ∷ []) rs)
        → map (first_raw_key h) (if t then packed cap (s ∷ now ++ r ∷ []) rs else (s ∷ now) ∷ packed cap (r ∷ []) rs) ≡ key_in (kind_of h) s ∷ later_keys h (if t then packed cap (s ∷ now ++ r ∷ []) rs else (s ∷ now) ∷ packed cap (r ∷ []) rs)
    go true here = here
    go false here = refl

lowest_first : (h : FileHead) (ps : List (List (List ℕ))) → 1 ≤ length ps → lowest_keys h ps ≡ replicate h.key_size 0 ∷ later_keys h ps
lowest_first h [] some = absurd (omega (arith, some))
lowest_first h (p ∷ ps) some = refl

pub keys_none : (h : FileHead) (cap : ℕ) (raws : List (List ℕ)) → KeysTo h cap raws 0 0 (replicate h.key_size 0 ∷ [])
keys_none h cap raws = record { now = []; bytes = refl; rest = lowest_first h (packed cap [] raws) (packed_some cap [] raws) }

-- a slot more that fits
pub keys_fit : (h : FileHead) (cap : ℕ) (raws : List (List ℕ)) (at used size : ℕ) (keys : List (List ℕ)) → at < length raws → length (get_or raws at []) ≡ size → used + size ≤ cap → KeysTo h cap raws at used keys → KeysTo h cap raws (at + 1) (used + size) keys
keys_fit h cap raws at used size keys below is fits before =
    let long = joined_one before.now (get_or raws at []) in
    let bytes = before.bytes in
    record {
      now = before.now ++ get_or raws at [] ∷ [];
      bytes = omega (arith, long, bytes, is);
      rest = before.rest ∙ ap (λ x. keys ++ later_keys h (packed cap before.now x)) (drop_more raws at [] below)
          ∙ ap (λ x. keys ++ later_keys h x) (packed_fits cap before.now (get_or raws at []) (drop (at + 1) raws) (omega (arith, long, bytes, is, fits)));
    }

-- and one with which a bucket begins
pub keys_over : (h : FileHead) (cap : ℕ) (raws : List (List ℕ)) (at used size : ℕ) (keys : List (List ℕ)) → at < length raws → length (get_or raws at []) ≡ size → cap < used + size → KeysTo h cap raws at used keys
    → KeysTo h cap raws (at + 1) size (keys ++ key_in (kind_of h) (get_or raws at []) ∷ [])
keys_over h cap raws at used size keys below is over before =
    let s = get_or raws at [] in
    let long = joined_one before.now s in
    let bytes = before.bytes in
    let one = ap (λ (x : List ℕ). length x) (append-nil s) in
    record {
      now = s ∷ [];
      bytes = omega (arith, one, is);
      rest = before.rest ∙ ap (λ x. keys ++ later_keys h (packed cap before.now x)) (drop_more raws at [] below)
          ∙ ap (λ x. keys ++ later_keys h x) (packed_over cap before.now s (drop (at + 1) raws) (omega (arith, long, bytes, is, over)))
          ∙ ap (λ x. keys ++ x) (first_of h cap s [] (drop (at + 1) raws))
          ∙ sym (append_assoc keys (key_in (kind_of h) s ∷ []) (later_keys h (packed cap (s ∷ []) (drop (at + 1) raws))));
    }

pub keys_all : (h : FileHead) (cap : ℕ) (raws : List (List ℕ)) (at used : ℕ) (keys : List (List ℕ)) → length raws ≤ at → KeysTo h cap raws at used keys → keys ≡ lowest_keys h (packed cap [] raws)
keys_all h cap raws at used keys most before =
    sym (before.rest ∙ ap (λ x. keys ++ later_keys h (packed cap before.now x)) (drop_all at raws most) ∙ append-nil keys)

-- the key in a slot is that in its record
pub key_of_raw : (h : FileHead) (raw v : List ℕ) → raw ≡ raw_for (kind_of h) v → key_in (kind_of h) raw ≡ piece_at v h.key_pos h.key_size
key_of_raw h raw v is =
    ap (λ (x : List ℕ). piece_at x (4 + h.key_pos) h.key_size) is ∙ ap (λ n. take h.key_size (drop n (raw_for (kind_of h) v))) (let four : 4 + h.key_pos ≡ suc (suc (suc (suc h.key_pos))) = omega arith in four)

room_holds : (a b c d e : ℕ) → ((a == b) && (nat_le c d && nat_le e d)) ≡ true → e ≤ d
room_holds a b c d e is = grind (arith, nat_tests)

pub raw_holds : (h : FileHead) (v : List ℕ) → suits (kind_of h) (raw_for (kind_of h) v) ≡ true → h.key_pos + h.key_size ≤ length v
raw_holds h v suit =
    let holds = room_holds (length (raw_for (kind_of h) v)) (4 + u16_at (raw_for (kind_of h) v) 0) (u16_at (raw_for (kind_of h) v) 2) (u16_at (raw_for (kind_of h) v) 0) (h.key_pos + h.key_size) suit in
    let len : length v % 256 + 256 * (length v / 256) ≡ length v = omega arith in omega (arith, holds, len)

-- Every so many-th key.

abbrev Keys : Type 0
Keys = List (List ℕ)

keys_drop_nil : (m : ℕ) → drop m (let none : Keys = [] in none) ≡ []
keys_drop_nil zero = refl
keys_drop_nil (suc m) = refl

keys_dropped : (i j : ℕ) (ks : Keys) → drop j (drop i ks) ≡ drop (i + j) ks
keys_dropped zero j ks = ap (λ m. drop m ks) (let same : j ≡ 0 + j = omega arith in same)
keys_dropped (suc i) j [] = keys_drop_nil j ∙ sym (keys_drop_nil (suc i + j))
keys_dropped (suc i) j (k ∷ ks) = keys_dropped i j ks ∙ ap (λ m. drop m (k ∷ ks)) (let same : suc (i + j) ≡ suc i + j = omega arith in same)

keys_drop_min : (step : ℕ) (ks : Keys) → drop (min step (length ks)) ks ≡ drop step ks
keys_drop_min zero ks = ap (λ m. drop m ks) (let same : min 0 (length ks) ≡ 0 = omega arith in same)
keys_drop_min (suc step) [] = keys_drop_nil (min (suc step) 0) ∙ sym (keys_drop_nil (suc step))
keys_drop_min (suc step) (k ∷ ks) = ap (λ m. drop m (k ∷ ks)) (let same : min (suc step) (suc (length ks)) ≡ suc (min step (length ks)) = omega arith in same) ∙ keys_drop_min step ks

every_first : (step more : ℕ) (ks : Keys) → 1 ≤ length ks → 1 ≤ more → every step more ks ≡ get_or ks 0 [] ∷ every step (more - 1) (drop step ks)
every_first step zero ks some least = absurd (omega (arith, least))
every_first step (suc more) [] some least = absurd (omega (arith, some))
every_first step (suc more) (k ∷ ks) some least = ap (λ m. k ∷ every step m (drop step (k ∷ ks))) (let same : more ≡ suc more - 1 = omega arith in same)

every_none : (step more : ℕ) (ks : Keys) → length ks ≡ 0 → every step more ks ≡ []
every_none step zero ks none = refl
every_none step (suc more) [] none = refl
every_none step (suc more) (k ∷ ks) none = absurd (omega (arith, none))

-- so many keys were kept, of those before one
pub record EveryTo (step : ℕ) (all now : Keys) (kept at : ℕ) : Type 0 where
  pub done : every step (length all) all ≡ take kept now ++ every step (length all - kept) (drop at all)
  pub same : drop kept now ≡ drop kept all
  pub long : length now ≡ length all
  pub few : kept ≤ at

pub every_start : (step : ℕ) (all : Keys) → EveryTo step all all 0 0
every_start step all = record { done = ap (λ m. every step m all) (let same : length all ≡ length all - 0 = omega arith in same); same = refl; long = refl; few = omega arith }

get_later : (xs ys : Keys) (n i : ℕ) → n ≤ i → drop n xs ≡ drop n ys → get_or xs i [] ≡ get_or ys i []
get_later xs ys n i from is = back xs ∙ ap (λ ks. get_or ks (i - n) []) is ∙ sym (back ys)
  where
    at : n + (i - n) ≡ i
    at = omega (arith, from)

    back : (ks : Keys) → get_or ks i [] ≡ get_or (drop n ks) (i - n) []
    back ks = ap (λ m. get_or ks m []) (sym at) ∙ sym (get_or-drop n ks (i - n) [])

pub every_more : (step : ℕ) (all now : Keys) (kept at : ℕ) → 1 ≤ step → at < length all → EveryTo step all now kept at → EveryTo step all (set now kept (get_or now at [])) (kept + 1) (at + min step (length all - at))
every_more step all now kept at least below before =
    let key = get_or now at [] in
    let few = before.few in
    let long = before.long in
    let left : length (drop at all) ≡ length all - at = length-drop at all in
    let first : get_or (drop at all) 0 [] ≡ key = get_or-drop at all 0 [] ∙ ap (λ m. get_or all m []) (let same : at + 0 ≡ at = omega arith in same) ∙ sym (get_later now all kept at few before.same) in
    let rest : drop step (drop at all) ≡ drop (at + min step (length all - at)) all =
    sym (keys_drop_min step (drop at all)) ∙ ap (λ m. drop (min step m) (drop at all)) left ∙ keys_dropped at (min step (length all - at)) all in
    record {
      done = before.done
          ∙ ap (λ ks. take kept now ++ ks) (every_first step (length all - kept) (drop at all) (omega (arith, left, below)) (omega (arith, few, below)))
          ∙ (λ i. take kept now ++ (first i ∷ every step (length all - kept - 1) (rest i)))
          ∙ sym (append_assoc (take kept now) (key ∷ []) (every step (length all - kept - 1) (drop (at + min step (length all - at)) all)))
          ∙ (λ i. sym (taken now kept key (omega (arith, few, below, long))) i ++ every step ((let same : length all - kept - 1 ≡ length all - (kept + 1) = omega arith in same) i) (drop (at + min step (length all - at)) all));
      same = later now kept key ∙ sym (keys_dropped kept 1 now) ∙ ap (drop 1) before.same ∙ keys_dropped kept 1 all;
      long = length-set now kept key ∙ long;
      few = omega (arith, few, least, below);
    }
  where
    taken : (ks : Keys) (n : ℕ) (k : List ℕ) → n < length ks → take (n + 1) (set ks n k) ≡ take n ks ++ k ∷ []
    taken [] n k under = absurd (omega (arith, under))
    taken (x ∷ xs) zero k under = refl
    taken (x ∷ xs) (suc n) k under = ap (λ m. take m (set (x ∷ xs) (suc n) k)) (let one : suc n + 1 ≡ suc (n + 1) = omega arith in one) ∙ ap (λ ks. x ∷ ks) (taken xs n k (omega (arith, under)))

    later : (ks : Keys) (n : ℕ) (k : List ℕ) → drop (n + 1) (set ks n k) ≡ drop (n + 1) ks
    later [] n k = refl
    later (x ∷ xs) zero k = refl
    later (x ∷ xs) (suc n) k =
        ap (λ m. drop m (set (x ∷ xs) (suc n) k)) (let one : suc n + 1 ≡ suc (n + 1) = omega arith in one) ∙ later xs n k ∙ ap (λ m. drop m (x ∷ xs)) (let one : suc (n + 1) ≡ suc n + 1 = omega arith in one)

pub every_end : (step : ℕ) (all now : Keys) (kept at : ℕ) → length all ≤ at → EveryTo step all now kept at → take kept now ≡ every step (length all) all
every_end step all now kept at most before =
    let left = length-drop at all in
    sym (before.done ∙ ap (λ ks. take kept now ++ ks) (every_none step (length all - kept) (drop at all) (omega (arith, left, most))) ∙ append-nil (take kept now))
