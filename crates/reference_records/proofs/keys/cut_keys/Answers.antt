use Rattle.std.proofs.Common.{◌≤◌, ◌-◌, ap, ◌∙◌, sym, arith, drop}
use Rattle.std.specs.Prelude.{map}
use Rattle.std.proofs.lemmas.List.{drop-map}
use Rattle.reference_world.specs.Standing.{entry_of, file_of}
use Rattle.reference_index.proofs.ListLemmas.{if_ok_so}
use Rattle.reference_records.proofs.CutLemmas.{keys_back, cut_is}
use Rattle.reference_records.proofs.keys.cut_keys.Goals as goal

pub returns : goal.returns
returns c =
    let some : 1 ≤ c.args.number = omega (arith, c.if-number-lt1.false) in
    if_ok_so c.keys_down.result c.keys_down.ensures (λ v p. p ∙ ap (λ xs. keys_back (map entry_of xs)) c.behind.ensures
    ∙ ap keys_back (sym (drop-map entry_of (c.args.number - 1) c.args.rows.now) ∙ ap (drop (c.args.number - 1)) c.requires) ∙ cut_is (file_of c.args.f.now) c.args.number some)
