use Rattle.std.proofs.Common.{sym}
use Rattle.unit_undo.specs.FileWays.{ChangesOnly, TellsBackFile, UndoesNumber, there}
use Rattle.unit_undo.proofs.StagedLemmas.{on_both}
use Rattle.unit_undo.proofs.undoing.undo_number.Goals as goal

pub returns-clause-undoes : goal.returns-clause-undoes
returns-clause-undoes g c =
    let v = c.args.volume.now in
    let f = c.args.file in
    let first = c.in-Some.head.now in
    let new = c.undo_file.new.head in
    let x = c.undo_file.new.volume in
    let ks = c.args.keys.now in
    on_both (ChangesOnly f first v x new) (TellsBackFile f first ks v x new) (UndoesNumber f ks v x) c.undo_file.result (λ only back. there first new (sym c.in-Some.ensures.value) only back) c.undo_file.ensures.changes c.undo_file.ensures.back
