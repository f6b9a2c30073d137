use Rattle.file_recoveries.proofs.RollLemmas.{off_told}
use Rattle.file_recoveries.proofs.rolling.roll_off.Goals as goal

pub returns-in-Ok-roll_back-clause-rolled : goal.returns-in-Ok-roll_back-clause-rolled
returns-in-Ok-roll_back-clause-rolled g c =
    off_told c.args.head.now c.args.until c.in-Ok.map c.roll_back.new.map c.read_records.new.store.current c.args.store.now.current c.in-Ok.ensures.ok.current c.in-Ok.ensures.read c.in-Ok-roll_back.ensures.rolled
