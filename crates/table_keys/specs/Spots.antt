-- Keys of files are one where their files and their keys are, and equal ones are hashed alike.
use Rattle.std.proofs.Common.{◌≡◌, ℕ, ◌&&◌, ◌++◌, ◌==◌, Bool, true, List, [], Decides, refl, sym, ap, ◌∙◌}
use Rattle.std.proofs.lemmas.Bool.Decides.{Decides-and, Decides-eqb, same_from_decides}
use Rattle.std.specs.Cmp.{IsEquivalence, IsPartialEquivalence, eq_by_cmp_equiv}
use Rattle.std.proofs.lemmas.Bool.{false≢true}
use Rattle.std.specs.Ordering.{eq_by_cmp, is_eq}
use Rattle.std.specs.declared.cmp.Ordering.{Ordering}
use Rattle.std.specs.declared.cmp.Ordering.TheVariants.{Less, Equal, Greater}
use Rattle.std.specs.Hash as fed
use Rattle.std.specs.Hash.{HashWrites}
use Rattle.vms_base.specs.vms_model.Keys.{Key, Number, Text, End}
use Rattle.records_model.specs.Records.{key_cmp}
use Rattle.records_model.proofs.KeyLemmas.{key_cmp_total, key_cmp-IsAntisymmetric}

-- what of a key is hashed
abbrev pub key_fed : Key → HashWrites
key_fed (Number n) = fed.u32 n
key_fed (Text bytes) = fed.slice fed.u8 bytes
key_fed End = []

is_equal : (o : Ordering) → is_eq o ≡ true → o ≡ Equal
is_equal Less e = absurd (false≢true e)
is_equal Equal e = refl
is_equal Greater e = absurd (false≢true e)

-- two keys that tie are one
pub same_key_is : (k l : Key) → Decides (eq_by_cmp key_cmp k l) (k ≡ l)
same_key_is k l = (λ e. key_cmp-IsAntisymmetric k l (is_equal (key_cmp k l) e), λ e. ap (eq_by_cmp key_cmp k) (sym e) ∙ (eq_by_cmp_equiv key_cmp_total).refl k)

pub spot_decides : (f g : ℕ) (k l : Key) → Decides ((f == g) && eq_by_cmp key_cmp k l) ((f ≡ g) × (k ≡ l))
spot_decides f g k l = Decides-and _ _ (Decides-eqb f g) (same_key_is k l)

pub spot_itself : (f : ℕ) (k : Key) → ((f == f) && eq_by_cmp key_cmp k k) ≡ true
spot_itself f k = (spot_decides f f k k).1 (refl, refl)

pub spot_turned : (f g : ℕ) (k l : Key) → ((f == g) && eq_by_cmp key_cmp k l) ≡ ((g == f) && eq_by_cmp key_cmp l k)
spot_turned f g k l = let d = spot_decides g f l k in same_from_decides _ _ (spot_decides f g k l) (λ h. let e = d.0 h in (sym e.0, sym e.1), λ h. d.1 (sym h.0, sym h.1))

module _ {P : Type 0} (file : P → ℕ) (key : P → Key) where
  abbrev same : P → P → Bool
  same a b = (file a == file b) && eq_by_cmp key_cmp (key a) (key b)

  pub spot_congr : (a b c : P) → same a b ≡ true → same a c ≡ same b c
  spot_congr a b c e = let d = (spot_decides (file a) (file b) (key a) (key b)).0 e in λ i. (d.0 i == file c) && eq_by_cmp key_cmp (d.1 i) (key c)

  pub spot_equivalence : IsEquivalence same
  spot_equivalence = record { refl = λ a. spot_itself (file a) (key a); symm = λ a b. spot_turned (file a) (file b) (key a) (key b); congr = spot_congr }

  pub spot_partial : IsPartialEquivalence same
  spot_partial = record { symm = λ a b. spot_turned (file a) (file b) (key a) (key b); trans = λ a b c e f. spot_congr a b c e ∙ f }

  pub spot_alike : (a b : P) → same a b ≡ true → (fed.u8 (file a) ++ key_fed (key a)) ≡ (fed.u8 (file b) ++ key_fed (key b))
  spot_alike a b e = let d = (spot_decides (file a) (file b) (key a) (key b)).0 e in λ i. fed.u8 (d.0 i) ++ key_fed (d.1 i)
