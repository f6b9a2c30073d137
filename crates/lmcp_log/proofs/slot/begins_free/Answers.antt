use Rattle.std.proofs.Common.{◌≡◌, ℕ, sym, ◌∙◌, arith}
use Rattle.std.proofs.lemmas.Bool.Decides.{nat_tests}
use Rattle.log_laws.specs.commit_protocol.Messages.{RecordKind, PreparedRecord, CommittedRecord}
use Rattle.lmcp_log.specs.Slot.{kind_number}
use Rattle.lmcp_log.proofs.Fields.{slot_fields}
use Rattle.lmcp_log.proofs.slot.begins_free.Goals as goal

not_zero : (k : RecordKind) → (let n : ℕ = kind_number k in let o : ℕ = 0 in n ≡ o) → ⊥
not_zero PreparedRecord h = omega arith
not_zero CommittedRecord h = omega arith

pub returns : goal.returns
returns c = λ yes r p is.
    let f = slot_fields r c.args.block.now p.0 is in
    let zero : c.number_8.result ≡ 0 = grind (arith, nat_tests) in
    not_zero r.kind (sym (c.number_8.ensures (kind_number r.kind) f.kind) ∙ zero)
