use Rattle.std.proofs.Common.{◌≡◌, Bool, true, false, List, [], ◌∷◌, not, refl, ap, ◌∙◌, rules}
use Rattle.std.specs.List.{filter}
use Rattle.std.proofs.lemmas.Fn.{filter_same}
use Rattle.run_model.specs.commit_protocol.Messages.{Name, same_name}
use Rattle.run_model.specs.commit_protocol.Table.{without_rm}
use Rattle.participants.proofs.declared.take_out.Goals as goal

left : (rm : Name) (xs : List Name) → filter (λ x. not (same_name x rm)) xs ≡ without_rm rm xs
left rm [] = refl
left rm (x ∷ xs) = go (same_name x rm) refl (left rm xs)
  where
    go : (b : Bool) → same_name x rm ≡ b → filter (λ y. not (same_name y rm)) xs ≡ without_rm rm xs → filter (λ y. not (same_name y rm)) (x ∷ xs) ≡ without_rm rm (x ∷ xs)
    go true is more = rw is more
    go false is more = rw is (ap (λ (ys : List Name). x ∷ ys) more)

pub returns-clause-without : goal.returns-clause-without
returns-clause-without c = filter_same _ (λ x. not (same_name x c.args.rm.now)) _ (λ x b f' k. search rules) _ _ c.retain.ensures.filtered ∙ left c.args.rm.now _
