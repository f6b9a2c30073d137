use Rattle.std.proofs.Common.{◌≡◌, Bool, true, false, List, [], ◌∷◌, not, map, refl, ap, ◌∙◌, arith, rules}
use Rattle.std.specs.List.{filter}
use Rattle.std.proofs.lemmas.Fn.{filter_same}
use Rattle.net_wire.specs.commit_protocol.Messages.{same_id}
use Rattle.net_wire.specs.commit_protocol.Table.{without}
use Rattle.vms_base.specs.Ids.{serial_of}
use Rattle.vms_model.specs.Ids.{Id}
use Rattle.vms_base.specs.declared.ids.Serial.{Serial}
use Rattle.node_table.proofs.acts.no_longer.Goals as goal

left : (s : Serial) (xs : List Serial) → map serial_of (filter (λ x. not (same_id (serial_of x) (serial_of s))) xs) ≡ without (serial_of s) (map serial_of xs)
left s [] = refl
left s (x ∷ xs) = go (same_id (serial_of x) (serial_of s)) refl (left s xs)
  where
    go : (t : Bool) → same_id (serial_of x) (serial_of s) ≡ t → map serial_of (filter (λ y. not (same_id (serial_of y) (serial_of s))) xs) ≡ without (serial_of s) (map serial_of xs) → map serial_of (filter (λ y. not (same_id (serial_of y) (serial_of s))) (x ∷ xs)) ≡ without (serial_of s) (map serial_of (x ∷ xs))
    go true e more = rw e more
    go false e more = rw e (ap (λ (z : List Id). serial_of x ∷ z) more)

pub returns-clause-without : goal.returns-clause-without
returns-clause-without c =
    ap (map serial_of) (filter_same _ (λ (x : Serial). not (same_id (serial_of x) (serial_of c.args.serial))) _ (λ x b f' k. search rules) _ _ c.retain.ensures.filtered) ∙ left c.args.serial _

pub returns-clause-room : goal.returns-clause-room
returns-clause-room c = omega (arith, c.retain.ensures.capacity)
