use Rattle.std.proofs.Common.{◌+◌, ◌<◌, ◌≤◌, List, map, length, ap, sym, subst, ◌∙◌, arith}
use Rattle.std.specs.Vec.{vec_capacity}
use Rattle.commit_protocol.specs.Table.{Branch, Tm}
use Rattle.tm_types.specs.Parts.{log_record_of}
use Rattle.tm_types.specs.Branches.{branch_of}
use Rattle.tm_table.specs.Doing.{Doing}
use Rattle.tm_table.specs.Kept.{Keeps}
use Rattle.commit_protocol.specs.Table.{put}
use Rattle.tm_table.proofs.TableLemmas.{keeps_begin}
use Rattle.tm_table.proofs.table.Table.add.Goals as goal

pub invariant_of-self : goal.invariant_of-self
invariant_of-self c =
    let b = branch_of c.args.b in
    let rs = map log_record_of c.self.inside.records.items in
    let P : Doing → Type 0 = λ s. length s.tm.table < 64 in
    let few = subst P (sym c.self.view_is) c.requires.few in
    let R : Doing → Type 0 = λ s. length s.tm.table + length s.tm.records < 512 in
    let slots = subst R (sym c.self.view_is) c.requires.slots in
    let capacity : 64 ≤ vec_capacity c.add_branch.new.branches = (let e = c.add_branch.ensures.capacity in let i = c.self.invariant.0 in omega arith) in
    let Q : List Branch → Type 0 = λ t. Keeps t rs in
    (capacity, c.self.invariant.1, subst Q (sym c.add_branch.ensures.branches) (keeps_begin b (map branch_of c.self.inside.branches.items) rs c.self.invariant.2 few slots c.requires.fits))

pub returns-clause-tm : goal.returns-clause-tm
returns-clause-tm c =
    let b = branch_of c.args.b in
    let F : List Branch → Tm = λ t. record { node = c.self.inside.node; table = t; records = map log_record_of c.self.inside.records.items } in
    ap F c.add_branch.ensures.branches ∙ ap (λ (s : Doing). (let G : Tm = record { node = s.tm.node; table = put b s.tm.table; records = s.tm.records } in G)) c.self.view_is
