use Rattle.std.proofs.Common.{map, take, ap, sym, ◌∙◌}
use Rattle.unit_entries.specs.Keys.{lowest_in, lowest_with}
use Rattle.unit_entries.specs.Rows.{key_said}
use Rattle.unit_entries.proofs.KeyLemmas.{lowest_behind}
use Rattle.unit_entries.proofs.RowLemmas.{said_more}
use Rattle.unit_entries.proofs.keys.lowest_in.Goals as goal

pub loop-key-preserved : goal.loop-key-preserved
loop-key-preserved c =
    let ks = c.args.keys.now in
    let i = c.loop-key.key-index in
    let k = c.key-item.result in
    c.lowest_with-lowest.ensures ∙ ap (lowest_with c.args.file (key_said k)) c.loop-key.invariant
    ∙ sym (ap (lowest_in c.args.file) (said_more ks i k c.loop-key-test.true c.key-item.is) ∙ lowest_behind c.args.file (map key_said (take i ks)) (key_said k))
