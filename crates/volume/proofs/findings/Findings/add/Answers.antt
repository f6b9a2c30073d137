use Rattle.std.proofs.Common.{List, length, sym, ap, subst, arith}
use Rattle.std.proofs.lemmas.List.{length-take}
use Rattle.volume.specs.declared.load.Finding.{Finding}
use Rattle.volume.specs.Findings.{Ascends, with_finding}
use Rattle.volume.proofs.Places.{ascends_with, ascends_take}
use Rattle.volume.proofs.findings.Findings.add.Goals as goal

pub invariant_of-self : goal.invariant_of-self
invariant_of-self c =
    let items = c.add_to.ensures.items in
    let all = with_finding c.args.finding c.self.inside.found.items in (
      omega arith,
      omega (arith, ap (λ (l : List Finding). length l) items, length-take 1000 all),
      subst Ascends (sym items) (ascends_take 1000 all (ascends_with c.args.finding c.self.inside.found.items c.self.invariant.2)),
    )
