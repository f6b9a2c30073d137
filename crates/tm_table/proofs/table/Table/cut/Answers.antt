use Rattle.std.proofs.Common.{◌≤◌, List, map, length, ap, sym, subst, ◌∙◌, arith}
use Rattle.std.specs.Vec.{vec_capacity}
use Rattle.commit_protocol.specs.Table.{Branch, Tm}
use Rattle.tm_types.specs.Parts.{log_record_of}
use Rattle.tm_types.specs.Branches.{branch_of, key_at}
use Rattle.tm_table.specs.Doing.{Doing, IsThere}
use Rattle.tm_table.specs.Kept.{Keeps}
use Rattle.commit_protocol.specs.Table.{cut}
use Rattle.tm_table.proofs.TableLemmas.{keeps_cut, length-cut_there}
use Rattle.tm_table.proofs.table.Table.cut.Goals as goal

pub invariant_of-self : goal.invariant_of-self
invariant_of-self c =
    let k = key_at c.args.tid.now c.args.serial.now in
    let rs = map log_record_of c.self.inside.records.items in
    let capacity : 64 ≤ vec_capacity c.cut_branch.new.branches = (let e = c.cut_branch.ensures.capacity in let i = c.self.invariant.0 in omega arith) in
    let Q : List Branch → Type 0 = λ t. Keeps t rs in
    (capacity, c.self.invariant.1, subst Q (sym c.cut_branch.ensures.branches) (keeps_cut k (map branch_of c.self.inside.branches.items) rs c.self.invariant.2))

pub returns-clause-tm : goal.returns-clause-tm
returns-clause-tm c =
    let k = key_at c.args.tid.now c.args.serial.now in
    let F : List Branch → Tm = λ t. record { node = c.self.inside.node; table = t; records = map log_record_of c.self.inside.records.items } in
    ap F c.cut_branch.ensures.branches ∙ ap (λ (s : Doing). (let G : Tm = record { node = s.tm.node; table = cut k s.tm.table; records = s.tm.records } in G)) c.self.view_is

pub returns-clause-slots : goal.returns-clause-slots
returns-clause-slots c =
    let k = key_at c.args.tid.now c.args.serial.now in
    let t = map branch_of c.self.inside.branches.items in
    let P : Doing → Type 0 = λ s. IsThere k s.tm.table in
    let there = subst P (sym c.self.view_is) c.requires.there in
    let e = ap (λ (u : List Branch). length u) c.cut_branch.ensures.branches in
    let f = length-cut_there k t there in
    let slots = (c.self.invariant.2).slots in
    omega arith

pub returns-clause-fewer : goal.returns-clause-fewer
returns-clause-fewer c =
    let k = key_at c.args.tid.now c.args.serial.now in
    let t = map branch_of c.self.inside.branches.items in
    let P : Doing → Type 0 = λ s. IsThere k s.tm.table in
    let there = subst P (sym c.self.view_is) c.requires.there in
    let e = ap (λ (u : List Branch). length u) c.cut_branch.ensures.branches in
    let f = length-cut_there k t there in
    let g = ap (λ (s : Doing). length s.tm.table) c.self.view_is in
    omega arith
