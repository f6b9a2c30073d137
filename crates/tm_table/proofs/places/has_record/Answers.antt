use Rattle.std.proofs.Common.{◌≡◌, ◌+◌, Bool, true, false, List, map, drop, refl, sym, ◌∙◌}
use Rattle.std.specs.List.{list_any}
use Rattle.commit_protocol.specs.Messages.{same_id}
use Rattle.vms_base.specs.Ids.{tid_of}
use Rattle.tm_types.specs.Parts.{log_record_of}
use Rattle.vms_base.specs.declared.protocol.LogRec.{LogRec}
use Rattle.tm_types.proofs.ListLemmas.{stepped}
use Rattle.tm_table.proofs.places.has_record.Goals as goal

pub returns-then-same_id : goal.returns-then-same_id
returns-then-same_id c =
    let F : List LogRec → Bool = λ xs. list_any (λ r. same_id r.tid (tid_of c.args.tid.now)) (map log_record_of xs) in
    let xs = c.args.records.now in
    let x = c.r-item.result in
    let e : same_id (tid_of x.tid) (tid_of c.args.tid.now) ≡ true = sym c.same_id.ensures ∙ c.if-same_id.true in
    stepped F (F xs) xs c.loop-r.r-index x true c.loop-r-test.true c.r-item.is c.loop-r.invariant (rw e refl)

pub loop-r-preserved : goal.loop-r-preserved
loop-r-preserved c =
    let F : List LogRec → Bool = λ xs. list_any (λ r. same_id r.tid (tid_of c.args.tid.now)) (map log_record_of xs) in
    let xs = c.args.records.now in
    let x = c.r-item.result in
    let e : same_id (tid_of x.tid) (tid_of c.args.tid.now) ≡ false = sym c.same_id.ensures ∙ c.if-same_id.false in
    stepped F (F xs) xs c.loop-r.r-index x (F (drop (c.loop-r.r-index + 1) xs)) c.loop-r-test.true c.r-item.is c.loop-r.invariant (rw e refl)
