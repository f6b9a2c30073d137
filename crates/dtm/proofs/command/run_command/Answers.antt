use Rattle.std.proofs.Common.{◌≡◌, ◌∙◌, ap, map, rules, string_bytes}
use Rattle.dtm_run.specs.Racks.{names_in, disks_in}
use Rattle.dtm_command.specs.Images.{images_of}
use Rattle.dtm.proofs.ImageLemmas.{none_read, filled_from_none, why_from_none}
use Rattle.dtm.proofs.command.run_command.Goals as goal

pub returns-in-Err-clause-why : goal.returns-in-Err-clause-why
returns-in-Err-clause-why g c =
    let same : c.as_slice.result.now ≡ c.in-Ok.images.items = search rules in
    why_from_none (g.F.ImageFiles.store c.args.files.now) g.F.Image.Disk.state (map (λ image. image.now) c.as_slice.result.now) (images_of (map string_bytes c.args.words.now)) (names_in c.new.result) c.in-Err.e
    (ap (map (λ image. image.now)) same ∙ c.in-Ok.ensures) c.new.ensures.names c.in-Err.ensures.why

pub returns-clause-ran : goal.returns-clause-ran
returns-clause-ran g c =
    let same : c.as_slice.result.now ≡ c.in-Ok.images.items = search rules in
    record {
      rack = c.in-Ok-add_images.rack;
      filled = filled_from_none _ _ (map (λ image. image.now) c.as_slice.result.now) (images_of (map string_bytes c.args.words.now)) (names_in c.new.result) (disks_in c.new.result) (names_in c.in-Ok-add_images.rack) (disks_in c.in-Ok-add_images.rack)
          (ap (map (λ image. image.now)) same ∙ c.in-Ok.ensures) c.new.ensures.names (none_read (λ node. node.0) (λ node. node.1) c.new.result.nodes.entries c.new.ensures.names) c.in-Ok-add_images.ensures.filled;
      names = c.run-exit.ensures.names;
      ran = c.run-exit.ensures.runs;
      calls = c.run-exit.ensures.calls;
      usage = c.run-exit.ensures.usage;
      commanded = c.run-exit.ensures.commanded;
      unread = c.run-exit.ensures.unread;
      memory = c.run-exit.ensures.memory;
    }
