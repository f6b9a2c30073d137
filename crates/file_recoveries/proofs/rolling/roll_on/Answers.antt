use Rattle.file_recoveries.proofs.RollLemmas.{on_told}
use Rattle.file_recoveries.proofs.rolling.roll_on.Goals as goal

pub returns-in-Ok-roll_forward-clause-rolled : goal.returns-in-Ok-roll_forward-clause-rolled
returns-in-Ok-roll_forward-clause-rolled g c =
    on_told c.images_follow.ensures.read c.images_follow.ensures.placed c.args.head.now c.save_head.result c.args.until c.last_moment-last.result c.in-Ok.map c.roll_forward.new.map c.read_records.new.store.current c.args.store.now.current
    c.in-Ok.ensures.ok.current c.save_head.ensures c.last_moment-last.ensures c.requires.behind c.in-Ok.ensures.read c.in-Ok-roll_forward.ensures.rolled
