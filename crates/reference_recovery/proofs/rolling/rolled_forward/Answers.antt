use Rattle.std.proofs.Common.{Option, ap, sym, ◌∙◌}
use Rattle.std.specs.Option.{option_map}
use Rattle.std.specs.FinMap.{entries}
use Rattle.reference_index.specs.recovery_model.Recovery.{rolled_on}
use Rattle.reference_index.specs.run_model.World.{state_of}
use Rattle.reference_index.proofs.ListLemmas.{if_ok_so}
use Rattle.reference_world.specs.Standing.{file_of, save_of}
use Rattle.reference_world.specs.declared.world.Save.{Save}
use Rattle.reference_recovery.proofs.rolling.rolled_forward.Goals as goal

pub returns-in-None : goal.returns-in-None
returns-in-None c =
    let f = state_of (file_of c.args.file.now) in
    let until = option_map (λ moment. moment.0) c.args.until in
    if_ok_so c.committed_of.result c.committed_of.ensures (λ v p. p ∙ ap (λ (s : Option Save). entries (rolled_on until (option_map save_of s) f)) (sym c.in-None.is))

pub returns-in-Some : goal.returns-in-Some
returns-in-Some c =
    let f = state_of (file_of c.args.file.now) in
    let until = option_map (λ moment. moment.0) c.args.until in
    if_ok_so c.rolled_from.result c.rolled_from.ensures (λ v p. p ∙ ap (λ (s : Option Save). entries (rolled_on until (option_map save_of s) f)) (sym c.in-Some.is))
