use Rattle.std.proofs.Common.{◌+◌, ◌<◌, ◌∷◌, ◌++◌, [], length, take, sym, ◌∙◌, ap, arith}
use Rattle.dtm_run.specs.Racks.{names_in}
use Rattle.dtm_run.proofs.Taking.{length_set, take_next, take_set, there_some}
use Rattle.dtm_run.proofs.command.command_of.Goals as goal
use Rattle.dtm_run.proofs.command.command_of.Goals.{in-Some, in_default}

pub loop-place-preserved : goal.loop-place-preserved
loop-place-preserved g c =
    let l = c.loop-place in
    let names = names_in c.args.rack.now in
    let within : l.place < length names = omega (arith, c.loop-place-test.true, c.len-count.ensures) in
    let below : l.place < length l.names = omega (arith, within, c.requires.few, l.invariant.long) in
    elim c.match-name.branch [
      | in-Some w ↦ record {
        long = ap length w.names-is ∙ length_set l.names l.place w.in-Some.name ∙ l.invariant.long;
        same = ap (take (l.place + 1)) w.names-is ∙ take_set l.names l.place w.in-Some.name below ∙ ap (λ xs. xs ++ w.in-Some.name ∷ []) l.invariant.same ∙ sym (take_next names l.place w.in-Some.name (sym c.name.ensures ∙ w.in-Some.is));
      }
      | in_default w ↦ absurd (there_some names l.place within (sym c.name.ensures ∙ w.in_default.is))
    ]
