use Rattle.std.proofs.Common.{◌≤◌, List, map, ap, sym, subst, ◌∙◌, arith}
use Rattle.std.specs.Vec.{vec_capacity}
use Rattle.commit_protocol.specs.Table.{Branch, Tm}
use Rattle.tm_types.specs.Parts.{log_record_of}
use Rattle.tm_types.specs.Branches.{branch_of}
use Rattle.tm_table.specs.Doing.{Doing, IsThere}
use Rattle.tm_table.specs.Kept.{Keeps}
use Rattle.commit_protocol.specs.Table.{put}
use Rattle.tm_table.proofs.TableLemmas.{keeps_note}
use Rattle.tm_table.proofs.table.Table.put.Goals as goal

pub invariant_of-self : goal.invariant_of-self
invariant_of-self c =
    let b = branch_of c.args.b.now in
    let rs = map log_record_of c.self.inside.records.items in
    let P : Doing → Type 0 = λ s. IsThere b.key s.tm.table in
    let there = subst P (sym c.self.view_is) c.requires.there in
    let capacity : 64 ≤ vec_capacity c.put_branch.new.branches = (let e = c.put_branch.ensures.capacity in let i = c.self.invariant.0 in omega arith) in
    let Q : List Branch → Type 0 = λ t. Keeps t rs in
    (capacity, c.self.invariant.1, subst Q (sym c.put_branch.ensures.branches) (keeps_note b (map branch_of c.self.inside.branches.items) rs c.self.invariant.2 there c.requires.fits))

pub returns-clause-tm : goal.returns-clause-tm
returns-clause-tm c =
    let b = branch_of c.args.b.now in
    let F : List Branch → Tm = λ t. record { node = c.self.inside.node; table = t; records = map log_record_of c.self.inside.records.items } in
    ap F c.put_branch.ensures.branches ∙ ap (λ (s : Doing). (let G : Tm = record { node = s.tm.node; table = put b s.tm.table; records = s.tm.records } in G)) c.self.view_is
