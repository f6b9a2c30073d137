use Rattle.std.proofs.Common.{◌+◌, ◌++◌, ◌∷◌, [], List, map, drop, ap, sym, ◌∙◌, arith}
use Rattle.vms_base.specs.declared.protocol.LogRec.{LogRec}
use Rattle.commit_protocol.specs.Table.{Branch, branches_of}
use Rattle.tm_types.specs.Parts.{log_record_of}
use Rattle.tm_types.specs.Branches.{branch_of}
use Rattle.tm_types.specs.declared.branch.BranchState.{BranchState}
use Rattle.tm_types.proofs.ListLemmas.{turned, map_push}
use Rattle.tm_table.proofs.restarts.restore_branches.Goals as goal

pub loop-r-preserved : goal.loop-r-preserved
loop-r-preserved c =
    let F : List LogRec → List Branch = λ rs. branches_of (map log_record_of rs) in
    let xs = c.args.prepared.now in
    let i = c.loop-r.r-index in
    let x = c.r-item.result in
    let rest = F (drop (i + 1) xs) in
    let old = c.loop-r.branches.items in
    let t = turned F F (F xs) xs i x (map branch_of old) (branch_of c.restored.result ∷ []) c.loop-r-test.true c.r-item.is c.loop-r.invariant.made (ap (λ (b : Branch). b ∷ rest) (sym c.restored.ensures)) in
    record {
      count = let n = c.push_reserved.ensures.len in let q = c.loop-r.invariant.count in omega arith;
      capacity = c.push_reserved.ensures.capacity ∙ c.loop-r.invariant.capacity;
      made = ap (λ (ys : List BranchState). map branch_of ys ++ rest) c.push_reserved.ensures.items ∙ (ap (λ (ys : List Branch). ys ++ rest) (map_push branch_of old c.restored.result) ∙ t);
    }
