use Rattle.std.proofs.Common.{◌≡◌, ◌+◌, ◌-◌, List, ◌∷◌, sym, ap, subst, ◌∙◌, map, length, take, drop, arith}
use Rattle.std.proofs.lemmas.List.{map-append}
use Rattle.reference_world.specs.Standing.{line_of}
use Rattle.reference_tasks.proofs.reference_node.TellLemmas.{on_ok}
use Rattle.reference_run.specs.Served.{Runs, part_of, world_of}
use Rattle.reference_run.proofs.PartLemmas.{runs_more}
use Rattle.reference_run.proofs.RackLemmas.{joined_ok, parted}
use Rattle.reference_run.proofs.FitLemmas.{fit_less}
use Rattle.reference_run.proofs.rack.Rack.+parts.Goals as goal

shorter : {A : Type 0} (xs : List A) (x : A) → xs ≡ x ∷ take (length xs - 1) (drop 1 xs) → length xs ≡ length (take (length xs - 1) (drop 1 xs)) + 1
shorter xs x e = let l = ap length e in omega (arith, l)

pub returns-then-shown-clause-fit : goal.returns-then-shown-clause-fit
returns-then-shown-clause-fit t c = λ units h. (c.in_ok-shown-in-len1-up).ensures.fit units (fit_less (units + length c.args.parts.now) (units + 1) (world_of c.args.self.now) (omega (arith, c.in-len1-up.len_at_least)) h)

pub parts-requires : goal.parts-requires
parts-requires t c =
    let l = shorter c.args.parts.now c.first-item.result (parted c.args.parts.now c.first-item.result c.in-len1-up.len_at_least c.first-item.is) in
    (omega (arith, l, c.decreases), (c.in_ok-shown-in-len1-up).ensures.fit (length (take (length c.args.parts.now - 1) (drop 1 c.args.parts.now))) (fit_less (length c.args.parts.now) (length (take (length c.args.parts.now - 1) (drop 1 c.args.parts.now)) + 1) (world_of c.args.self.now) (omega (arith, l)) c.requires.fit))

pub returns-in_ok-more-in-len1-up-clause-runs : goal.returns-in_ok-more-in-len1-up-clause-runs
returns-in_ok-more-in-len1-up-clause-runs t c =
    let rest = take (length c.args.parts.now - 1) (drop 1 c.args.parts.now) in
    let e = parted c.args.parts.now c.first-item.result c.in-len1-up.len_at_least c.first-item.is in
    joined_ok c.behind.result _ _ _ _ (λ z lines answer ends. subst (λ ps. Runs (map part_of ps) (world_of c.args.self.now) (line_of c.args.answer) z (world_of c.parts.new.self)) (sym e)
    (runs_more (part_of c.first-item.result) (map part_of rest) (world_of c.args.self.now) (world_of c.part.new.self) (world_of c.parts.new.self) (line_of c.args.answer) (c.in_ok-shown-in-len1-up).shown (c.in_ok-more-in-len1-up).more z
    (c.in_ok-shown-in-len1-up).ensures.part c.if-shown.false (c.in_ok-more-in-len1-up).ensures.runs (ap (map line_of) lines ∙ map-append line_of _ _) (ap line_of answer) ends)) c.behind.ensures.lines c.behind.ensures.answer c.behind.ensures.ends

pub returns-in_ok-more-in-len1-up-clause-fit : goal.returns-in_ok-more-in-len1-up-clause-fit
returns-in_ok-more-in-len1-up-clause-fit t c =
    let rest = take (length c.args.parts.now - 1) (drop 1 c.args.parts.now) in
    let l = shorter c.args.parts.now c.first-item.result (parted c.args.parts.now c.first-item.result c.in-len1-up.len_at_least c.first-item.is) in
    λ units h. on_ok c.behind.result ((c.in_ok-more-in-len1-up).ensures.fit units ((c.in_ok-shown-in-len1-up).ensures.fit (units + length rest) (fit_less (units + length c.args.parts.now) (units + length rest + 1) (world_of c.args.self.now) (omega (arith, l)) h)))
