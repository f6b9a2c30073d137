-- Ids are equal where their parts are, and equal ids are hashed alike.
use Rattle.std.proofs.Common.{◌≡◌, ◌++◌, true, Decides, refl, sym, ap, ◌∙◌}
use Rattle.std.proofs.lemmas.Bool.Decides.{same_from_decides, Decides-and, Decides-eqb}
use Rattle.std.proofs.lemmas.Slice.Eq.{bytes_eq-Decides}
use Rattle.std.specs.Cmp.{IsEquivalence, IsPartialEquivalence}
use Rattle.std.specs.Hash as fed
use Rattle.vms_base.specs.vms_model.Ids.{Id}
use Rattle.records_model.specs.History.{same_id}

-- two ids with the same parts are one
pub same_id_decides : (a b : Id) → Decides (same_id a b) (a ≡ b)
same_id_decides a b = (λ h. to (all.0 h), λ h. all.1 (from h))
  where
    all : Decides (same_id a b) (((a.node ≡ b.node) × (a.boot ≡ b.boot)) × (a.seq ≡ b.seq))
    all = Decides-and _ _ (Decides-and _ _ (bytes_eq-Decides a.node b.node) (Decides-eqb a.boot b.boot)) (Decides-eqb a.seq b.seq)

    to : ((a.node ≡ b.node) × (a.boot ≡ b.boot)) × (a.seq ≡ b.seq) → a ≡ b
    to h = λ i. record { node = h.0.0 i; boot = h.0.1 i; seq = h.1 i }

    from : a ≡ b → ((a.node ≡ b.node) × (a.boot ≡ b.boot)) × (a.seq ≡ b.seq)
    from h = ((ap (λ (x : Id). x.node) h, ap (λ (x : Id). x.boot) h), ap (λ (x : Id). x.seq) h)

pub same_id_itself : (a : Id) → same_id a a ≡ true
same_id_itself a = (same_id_decides a a).1 refl

pub same_id_turned : (a b : Id) → same_id a b ≡ same_id b a
same_id_turned a b = let d = same_id_decides b a in same_from_decides _ _ (same_id_decides a b) (λ h. sym (d.0 h), λ h. d.1 (sym h))

module _ {K : Type 0} (id : K → Id) where
  pub id_equivalence : IsEquivalence (λ (a b : K). same_id (id a) (id b))
  id_equivalence = record {
    refl = λ a. same_id_itself (id a);
    symm = λ a b. same_id_turned (id a) (id b);
    congr = λ a b c e. ap (λ (x : Id). same_id x (id c)) ((same_id_decides (id a) (id b)).0 e);
  }

  pub id_partial : IsPartialEquivalence (λ (a b : K). same_id (id a) (id b))
  id_partial = record {
    symm = λ a b. same_id_turned (id a) (id b);
    trans = λ a b c e f. ap (λ (x : Id). same_id x (id c)) ((same_id_decides (id a) (id b)).0 e) ∙ f;
  }

  pub id_alike : (a b : K) → same_id (id a) (id b) ≡ true → (fed.u32 (id a).boot ++ fed.u32 (id a).seq) ≡ (fed.u32 (id b).boot ++ fed.u32 (id b).seq)
  id_alike a b e = ap (λ (x : Id). fed.u32 x.boot ++ fed.u32 x.seq) ((same_id_decides (id a) (id b)).0 e)
