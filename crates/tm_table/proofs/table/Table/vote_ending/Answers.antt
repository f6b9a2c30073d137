use Rattle.std.proofs.Common.{List, sym, subst}
use Rattle.commit_protocol.specs.Table as table
use Rattle.commit_protocol.specs.Table.{Branch}
use Rattle.vms_base.specs.Ids.{serial_of}
use Rattle.net_wire.specs.Messages.{kind_of}
use Rattle.tm_types.specs.Branches.{branch_of}
use Rattle.tm_table.specs.Kept.{Fits}
use Rattle.tm_table.proofs.FitLemmas.{fits_vote}
use Rattle.tm_table.proofs.table.Table.vote_ending.Goals as goal

pub note-requires-clause-fits : goal.note-requires-clause-fits
note-requires-clause-fits c =
    let b = branch_of c.args.b.now in
    let P : List table.Child → Type 0 = λ cs. Fits (record b { accepted = cs }) in
    subst P (sym c.with_vote-b.ensures) (fits_vote b (serial_of c.args.serial.now) (kind_of c.args.kind) c.requires.fits)
