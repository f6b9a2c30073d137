use Rattle.std.proofs.Common.{◌≡◌, ℕ, true, ◌≤◌, ◌<◌, max, ◌-◌, arith, rules}
use Rattle.extents.specs.Extents.{is_used}
use Rattle.extents.proofs.Used.{longest_found, longest_step, longest_end}
use Rattle.extents.proofs.runs.longest_free.Goals as goal

pub loop-run-preserved : goal.loop-run-preserved
loop-run-preserved c =
    let most : c.max-most.result ≡ max c.loop-run.most (c.in-Some.run'.end - c.in-Some.run'.start) = search rules in record {
      from = let a = c.in-Some.ensures in omega arith;
      found = longest_found c.args.area c.args.extents.now c.loop-run.at c.loop-run.most c.max-most.result c.in-Some.run' c.loop-run.invariant.from c.in-Some.ensures.some most c.loop-run.invariant.found;
      longest = longest_step c.args.area c.args.extents.now c.loop-run.at c.loop-run.most c.max-most.result c.in-Some.run' c.in-Some.ensures.some most c.loop-run.invariant.longest;
      within = let a = c.in-Some.ensures.some.within in omega arith;
    }

pub returns-clause-longest : goal.returns-clause-longest
returns-clause-longest c =
    let used : (b : ℕ) → c.loop-run.at ≤ b → b < c.args.area.end → is_used c.args.extents.now b ≡ true = search rules in
    longest_end c.args.area c.args.extents.now c.loop-run.at c.loop-run.most used c.loop-run.invariant.longest
