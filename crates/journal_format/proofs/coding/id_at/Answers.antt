use Rattle.std.proofs.Common.{◌≡◌, ◌∙◌, sym, ap, Some, None, option_map, arith}
use Rattle.vms_base.specs.vms_model.Ids.{Id}
use Rattle.vms_base.specs.Ids.{id_of}
use Rattle.journal_format.proofs.IdSpellings.{piece_small, told_id}
use Rattle.journal_format.proofs.coding.id_at.Goals as goal

nothing : (a : Id) → None ≡ Some a → ⊥
nothing a h = cc

same : (a b : Id) → Some a ≡ Some b → a ≡ b
same a b h = cc

pub unreachable-requires : goal.unreachable-requires
unreachable-requires c = nothing _ (sym (ap (option_map id_of) c.in-None.is) ∙ told_id _ _ _ c.requires.form (piece_small 16 c.args.at c.args.bytes.now (λ i. omega (arith, c.type_inv.bytes i))) c.sixteen.ensures c.get_id.ensures)

pub returns : goal.returns
returns c = same _ _ (sym (ap (option_map id_of) c.in-Some.is) ∙ told_id _ _ _ c.requires.form (piece_small 16 c.args.at c.args.bytes.now (λ i. omega (arith, c.type_inv.bytes i))) c.sixteen.ensures c.get_id.ensures)
