-- The records of a file are read one after another.
use Rattle.std.proofs.Common.{◌≡◌, ℕ, ◌+◌, ◌<◌, ◌≤◌, Bool, true, false, List, Option, Some, None, Result, Err, if◌then◌else◌, refl, sym, ◌∙◌, ap, subst, arith}
use Rattle.std.specs.Prelude.{cond, is_some}
use Rattle.std.specs.Ordering.{is_eq, is_lt, eq_by_cmp, ordering_reverse}
use Rattle.std.specs.declared.cmp.Ordering.{Ordering}
use Rattle.std.specs.declared.cmp.Ordering.TheVariants.{Less, Equal, Greater}
use Rattle.std.specs.FinMap.{empty, get, get-empty, get-insert, insert, len, len-empty, len-insert}
use Rattle.vms_model.specs.Keys.{Key}
use Rattle.records_model.specs.Records.{Records, key_cmp, set_key}
use Rattle.records_model.proofs.KeyLemmas.{key_cmp_total, key_cmp-IsAntisymmetric}
use Rattle.change_set.specs.Maps.{Map, is_after, key_before, IsNext, EndsAfter}
use Rattle.change_set.specs.Files.{fell}
use Rattle.careful_write.specs.State.{StoreState}
use Rattle.careful_write.specs.Reads.{SameButReads}
use Rattle.careful_write.specs.declared.down.Down.{Down}
use Rattle.journal_store.specs.Leaving.{Fell}
use Rattle.journal_store.specs.Refusing.{Stays}

-- The records up to a key were read: these have them, and they are so many.
pub record HasRead (f : Map) (after : Option Key) (m : Records) (count : ℕ) : Type 0 where
  pub has : (k : Key) → get m k ≡ (if is_after after k then None else f k)
  pub counted : len m ≡ count

pub nothing_read : (f : Map) → HasRead f None empty 0
nothing_read f = record { has = λ k. get-empty key_cmp k; counted = len-empty key_cmp (List ℕ) }

is_less : (r : Ordering) → is_lt r ≡ true → r ≡ Less
is_less Less e = refl
is_less Equal e = let no : ⊥ = cc in absurd no
is_less Greater e = let no : ⊥ = cc in absurd no

-- what is behind a key that is behind another, is behind that
after_trans : (after : Option Key) (key k : Key) → is_after after key ≡ true → key_cmp key k ≡ Less → is_after after k ≡ true
after_trans None key k behind less = refl
after_trans (Some a) key k behind less = ap is_lt (key_cmp_total.trans a key k (is_less (key_cmp a key) behind) less)

if_yes : {X : Type 0} (b : Bool) (x y : X) → b ≡ true → (if b then x else y) ≡ x
if_yes b x y e = ap (λ t. if t then x else y) e

if_no : {X : Type 0} (b : Bool) (x y : X) → b ≡ false → (if b then x else y) ≡ y
if_no b x y e = ap (λ t. if t then x else y) e

module _ (f : Map) (after : Option Key) (m : Records) (count : ℕ) (read : HasRead f after m count) where
  module _ (key : Key) (bytes : List ℕ) (next : IsNext f after key bytes) where
    passed : (k : Key) (b : Bool) → is_after after k ≡ b → key_cmp k key ≡ Less → get m k ≡ f k
    passed k true is less = read.has k ∙ if_yes (is_after after k) None (f k) is ∙ sym (next.least k is (ap is_lt less))
    passed k false is less = read.has k ∙ if_no (is_after after k) None (f k) is

    at_key : (k : Key) (r : Ordering) → key_cmp key k ≡ r → cond (is_eq (ordering_reverse r)) (Some bytes) (get m k) ≡ (if is_lt r then None else f k)
    at_key k Less is = read.has k ∙ if_yes (is_after after k) None (f k) (after_trans after key k next.behind is)
    at_key k Equal is = sym next.has ∙ ap f (key_cmp-IsAntisymmetric key k is)
    at_key k Greater is = passed k (is_after after k) refl (key_cmp_total.antisymm k key ∙ ap ordering_reverse is)

    pub has_next : HasRead f (Some key) (set_key m key (Some bytes)) (count + 1)
    has_next = record {
      has = λ k. get-insert key_cmp_total m key bytes k ∙ ap (λ o. cond (is_eq o) (Some bytes) (get m k)) (key_cmp_total.antisymm k key) ∙ at_key k (key_cmp key k) refl;
      counted = len-insert key_cmp_total m key bytes ∙ ap (λ (v : Option (List ℕ)). cond (is_some v) (len m) (len m + 1)) (read.has key ∙ if_yes (is_after after key) None (f key) next.behind) ∙ ap (λ n. n + 1) read.counted;
    }

  -- at the end all were read
  pub has_all : EndsAfter f after → (k : Key) → get m k ≡ f k
  has_all ends k = read.has k ∙ go (is_after after k) refl
    where
      go : (b : Bool) → is_after after k ≡ b → (if b then None else f k) ≡ f k
      go true is = sym (ends k is)
      go false is = refl

  -- so many are counted by no number of 64 bits
  pub all_counted : (18446744073709551615 ≤ count) → len m < 9223372036854775808 → ⊥
  all_counted most few = let same = read.counted in omega (arith, most, few, same)

-- Stores that are the same but for reads.

pub same_stays : (s t : StoreState) → SameButReads s t → Stays s t
same_stays s t same = record {
  current = ap (λ (x : StoreState). x.current) same;
  touched = ap (λ (x : StoreState). x.touched) same;
  disk = ap (λ (x : StoreState). x.disk) same;
  pool = ap (λ (x : StoreState). x.pool) same;
  fits = ap (λ (x : StoreState). x.fits) same;
}

abbrev gone_down : Down → StoreState → StoreState
gone_down down s = let r : Result Bool Down = Err down in fell r s

pub same_fell : (down : Down) (s t : StoreState) → SameButReads (gone_down down s) t → Fell down s t
same_fell down s t same = record {
  current = ap (λ (x : StoreState). x.current) same;
  touched = ap (λ (x : StoreState). x.touched) same;
  disk = ap (λ (x : StoreState). x.disk) same;
  pool = ap (λ (x : StoreState). x.pool) same;
  fits = ap (λ (x : StoreState). x.fits) same;
}
