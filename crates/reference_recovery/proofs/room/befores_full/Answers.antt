use Rattle.std.proofs.Common.{◌≡◌, ◌∙◌, ap}
use Rattle.std.specs.Prelude.{◌&&◌, nat_lt}
use Rattle.reference_index.specs.transcript_model.Lines as line
use Rattle.reference_index.specs.recovery_model.Room.{free_in}
use Rattle.reference_index.specs.run_model.Operations.{refused_if}
use Rattle.reference_world.specs.Standing.{file_of}
use Rattle.reference_recovery.proofs.room.befores_full.Goals as goal

pub returns : goal.returns
returns c =
    let f = file_of c.args.file.now in
    let free : c.free_in-free.result ≡ free_in f.carried.before f.history.live = rw c.as_slice-live.ensures.value at c.free_in-free.ensures in
    let need = c.need_in-need.ensures in
    c.refused_if.ensures ∙ ap (λ b. refused_if b (line.BeforesFull c.free_in-free.result c.need_in-need.result)) c.is_short-short.ensures
    ∙ (λ i. refused_if (f.carried.before.on && nat_lt (free i) (need i)) (line.BeforesFull (free i) (need i)))
