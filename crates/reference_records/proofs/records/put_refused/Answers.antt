use Rattle.std.proofs.Common.{◌≡◌, ◌∙◌, ℕ, List, Bool, Option, Some, None, ap, sym, subst, option_map, Bor, is_some}
use Rattle.std.specs.FinMap.{contains_key}
use Rattle.vms_model.specs.Keys as key
use Rattle.reference_world.specs.declared.line.Line.TheVariants as line
use Rattle.reference_index.specs.run_model.Operations as operations
use Rattle.reference_index.specs.run_model.Operations.{current_records}
use Rattle.reference_index.specs.Standing.{lent_value}
use Rattle.reference_world.specs.Standing.{file_of, line_of, organization_of}
use Rattle.reference_world.specs.declared.world.Organization.{Organization}
use Rattle.reference_records.proofs.records.put_refused.Goals as goal

held : (o : Option (Bor (List ℕ))) (x : Option (List ℕ)) → lent_value o ≡ x → is_some o ≡ is_some x
held None x e = ap is_some e
held (Some b) x e = ap is_some e

pub returns-in-Some : goal.returns-in-Some
returns-in-Some c =
    let m = current_records (file_of c.args.f.now) in
    subst (λ (o : Option ℕ). option_map line_of c.refused_if.result ≡ operations.put_refused (organization_of c.args.f.now.organization) m o c.args.bytes.now) (sym c.in-Some.is)
    (c.refused_if.ensures ∙ ap (λ (t : Bool). operations.refused_if t (line_of line.RecordExists)) (c.is_some.ensures ∙ held _ _ c.record_in-found.ensures)
    ∙ ap (λ (n : ℕ). operations.refused_if (contains_key m (key.Number n)) (line_of line.RecordExists)) c.from.ensures)

pub returns-in-Indexed : goal.returns-in-Indexed
returns-in-Indexed c =
    let m = current_records (file_of c.args.f.now) in
    subst (λ (o : Option ℕ). option_map line_of c.refused_if-in-Indexed.result ≡ operations.put_refused (organization_of c.args.f.now.organization) m o c.args.bytes.now) (sym c.in_default.is)
    (subst (λ (x : Organization). option_map line_of c.refused_if-in-Indexed.result ≡ operations.put_refused (organization_of x) m None c.args.bytes.now) (sym c.in-Indexed.is)
    (c.refused_if-in-Indexed.ensures ∙ ap (λ (t : Bool). operations.refused_if t (line_of line.KeyExists)) (c.is_some-in-Indexed.ensures ∙ held _ _ c.record_in-found-in-Indexed.ensures)
    ∙ ap (λ (bytes : List ℕ). operations.refused_if (contains_key m (key.Text bytes)) (line_of line.KeyExists)) c.key_within.ensures))
