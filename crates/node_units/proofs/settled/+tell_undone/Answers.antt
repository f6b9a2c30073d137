use Rattle.std.proofs.Common.{◌≡◌, ◌∙◌, ◌++◌, ◌∷◌, ◌-◌, [], ap, length, map, take, drop, append_assoc}
use Rattle.recovery_units.specs.Told.{ReopenedTold}
use Rattle.recovery_units.specs.declared.settled.SettledUnit.{SettledUnit}
use Rattle.node_units.specs.Told.{unit_settled}
use Rattle.node_units.proofs.Nothing.{told_first}
use Rattle.node_units.proofs.settled.+tell_undone.Goals as goal

pub returns-in-len1-up : goal.returns-in-len1-up
returns-in-len1-up t c =
    let out = c.args.out.now in
    let ts = c.args.undone.now in
    let first : SettledUnit = unit_settled c.unit-item.result in
    let rest = map unit_settled (take (length ts - 1) (drop 1 ts)) in
    let told : (out.settled ++ (first ∷ [])) ++ rest ≡ out.settled ++ map unit_settled ts = append_assoc out.settled (first ∷ []) rest ∙ ap (λ us. out.settled ++ us) (told_first ts c.unit-item.result c.in-len1-up.len_at_least c.unit-item.is) in
    c.tell_undone.ensures ∙ ap (λ (o : ReopenedTold). record o { settled = o.settled ++ rest }) c.push.ensures ∙ (λ i. record out { settled = told i })
