use Rattle.std.proofs.Common.{◌≡◌, ◌∙◌, List, Option, ap, sym, arith, length}
use Rattle.std.specs.Prelude.{map, vec_len}
use Rattle.std.proofs.lemmas.List.{map-append}
use Rattle.world_laws.specs.log_laws.Slots.{slot_records}
use Rattle.world_laws.specs.run_model.Answers.{log_line}
use Rattle.vms_base.specs.declared.protocol.LogRec.{LogRec}
use Rattle.reference_world.specs.Standing.{line_of}
use Rattle.reference_world.specs.declared.line.Line.{Line}
use Rattle.reference_disk.specs.Disks.{slots_of}
use Rattle.reference_node.specs.Nodes.{node_of}
use Rattle.reference_node.proofs.FileActLemmas.{dumps_log}
use Rattle.reference_node.proofs.node.Node.dump_log.Goals as goal

pub returns : goal.returns
returns c = λ s.
    let told = c.in_ok-lines.lines in
    let len : length told.items ≡ vec_len told = omega (arith, told.ok.0) in
    dumps_log s (node_of c.args.self.now) told.items c.push_back.new.items.items c.len-count.result
    (c.in_ok-lines.ensures ∙ ap (λ (ss : List (Option LogRec)). map log_line (slot_records 0 (slots_of ss))) c.as_slice-slots.ensures.value) (c.len-count.ensures ∙ sym len)
    (ap (λ (ls : List Line). map line_of ls) c.in_ok-push_back.ensures ∙ map-append line_of told.items _)
