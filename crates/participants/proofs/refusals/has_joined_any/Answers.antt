use Rattle.std.proofs.Common.{◌≡◌, ℕ, suc, zero, ◌||◌, Bool, true, false, List, [], ◌∷◌, drop, refl, sym, ap, ◌∙◌, add-one, arith}
use Rattle.std.proofs.lemmas.List.{at_drop_all}
use Rattle.std.specs.List.{list_any, slice_get}
use Rattle.run_model.specs.commit_protocol.Allowed.{there_is}
use Rattle.run_model.specs.commit_protocol.Table.{Branch}
use Rattle.run_model.specs.Answers.{has_joined}
use Rattle.participants.proofs.refusals.has_joined_any.Goals as goal

any_found : (P : Branch → Bool) (i : ℕ) (bs : List Branch) → there_is (slice_get bs i) P ≡ true → list_any P bs ≡ true
any_found P i [] e = let no : ⊥ = cc in absurd no
any_found P zero (b ∷ bs) e = ap (λ (x : Bool). x || list_any P bs) e
any_found P (suc i) (b ∷ bs) e = or_right (P b) (list_any P bs) (any_found P i bs e)
  where
    or_right : (x y : Bool) → y ≡ true → (x || y) ≡ true
    or_right true y is = refl
    or_right false y is = is

any_past : (P : Branch → Bool) (i : ℕ) (bs : List Branch) → there_is (slice_get bs i) P ≡ false → list_any P (drop (suc i) bs) ≡ list_any P (drop i bs)
any_past P zero [] e = refl
any_past P zero (b ∷ bs) e = ap (λ (x : Bool). x || list_any P bs) (sym e)
any_past P (suc i) [] e = refl
any_past P (suc i) (b ∷ bs) e = any_past P i bs e

pub returns-then-has_joined_at : goal.returns-then-has_joined_at
returns-then-has_joined_at c = sym (any_found (has_joined c.args.rm.now) c.loop-place.place c.args.table.now.table (sym c.has_joined_at.ensures ∙ c.if-has_joined_at.true))

pub loop-place-preserved : goal.loop-place-preserved
loop-place-preserved c = rw add-one (any_past (has_joined c.args.rm.now) c.loop-place.place c.args.table.now.table (sym c.has_joined_at.ensures ∙ c.if-has_joined_at.false) ∙ c.loop-place.invariant)

pub returns : goal.returns
returns c = sym (at_drop_all (list_any (has_joined c.args.rm.now)) c.args.table.now.table c.loop-place.place (omega arith)) ∙ c.loop-place.invariant
