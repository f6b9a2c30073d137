use Rattle.std.proofs.Common.{◌≡◌, ◌+◌, ◌∙◌, ◌∷◌, ◌++◌, [], append_assoc, ap, sym}
use Rattle.std.specs.Prelude.{map}
use Rattle.std.proofs.lemmas.List.{map-append}
use Rattle.world_laws.specs.transcript_model.Lines as model
use Rattle.world_laws.specs.run_model.Answers.{boot_rows, left_active, prepared_lines, unit_key}
use Rattle.world_laws.specs.run_model.Steps.{lines_of_rows}
use Rattle.world_laws.specs.run_model.World.{Boots, acted}
use Rattle.reference_world.specs.Standing.{line_of}
use Rattle.reference_node.specs.Nodes.{node_of}
use Rattle.reference_node.proofs.BootLemmas.{undone_shares}
use Rattle.reference_node.proofs.node.Node.boot.Goals as goal

pub returns-clause-does : goal.returns-clause-does
returns-clause-does c = λ s.
    let n = node_of c.args.self.now in
    let r = c.in_ok-lines.ensures.restarts s in
    record {
      shows = ap (map line_of) c.in_ok-push_back.ensures ∙ map-append line_of c.in_ok-lines.lines.items _ ∙ (λ i. r.shows i ++ model.NormalCount (c.from-boot.ensures i + 1) ∷ []) ∙ append_assoc (lines_of_rows (boot_rows s n)) (prepared_lines n) (model.NormalCount (n.durable.boot + 1) ∷ []);
      node = r.node;
      shared = sym (undone_shares (map unit_key (left_active n)) s (acted Boots n));
    }
