use Rattle.std.proofs.Common.{◌++◌, ◌∷◌, [], map, if◌then◌else◌, sym, ◌∙◌, arith}
use Rattle.vms_base.specs.Ids.{serial_of}
use Rattle.ru_journal.specs.Units.{id_of_key}
use Rattle.ru_journal.proofs.UnitLemmas.{of_ok, noted, noted_longer}
use Rattle.ru_journal.proofs.state.note_settled.Goals as goal

pub returns-then-settles-clause-branches : goal.returns-then-settles-clause-branches
returns-then-settles-clause-branches c =
    noted c.args.settled.now.keys c.insert.new.self.keys record { serial = c.args.e.now.serial } c.requires.new (of_ok c.insert.result (c.insert.ensures.succeeds c.requires.room) c.insert.ensures.keys)
    ∙ (λ i. if (sym c.if-settles.true ∙ c.settles.ensures) i then map id_of_key c.args.settled.now.keys ++ serial_of c.args.e.now.serial ∷ [] else map id_of_key c.args.settled.now.keys)

pub returns-then-settles-clause-room : goal.returns-then-settles-clause-room
returns-then-settles-clause-room c =
    let long = noted_longer c.args.settled.now.keys c.insert.new.self.keys record { serial = c.args.e.now.serial } c.requires.new (of_ok c.insert.result (c.insert.ensures.succeeds c.requires.room) c.insert.ensures.keys) in
    let spare = c.insert.ensures.spare in
    omega (arith, long, spare)
