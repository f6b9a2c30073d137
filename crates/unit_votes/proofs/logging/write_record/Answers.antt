-- One slot is written in a group of its own.
use Rattle.std.proofs.Common.{◌∙◌, ℕ, List, Option, IfSome, ap, refl, subst, sym}
use Rattle.std.specs.Prelude.{option_copied}
use Rattle.std.proofs.lemmas.Result.{on_err_weaker, on_ok_weaker}
use Rattle.careful_write.proofs.Reading.{same_so}
use Rattle.careful_write.specs.State.{IsEither, Leaves, StoreState, content}
use Rattle.lmcp_log.specs.Keeping.{Keeps}
use Rattle.lmcp_log.specs.Log.{slot_of}
use Rattle.unit_journal.proofs.Breaking.{breaks_made}
use Rattle.vms_base.specs.Ids.{serial_of}
use Rattle.unit_votes.specs.Logging.{SetsRecord}
use Rattle.unit_votes.proofs.Setting.{sets_applied}
use Rattle.unit_votes.proofs.Settled.{same_content}
use Rattle.unit_votes.proofs.logging.write_record.Goals as goal

pub returns-clause-sets : goal.returns-clause-sets
returns-clause-sets g c =
    on_ok_weaker c.apply.result
    (λ current. sets_applied (serial_of c.args.serial) (slot_of (option_copied c.args.logged)) c.args.log.now c.set_record.new.log c.args.volume.now c.set_record.new.volume (record c.set_record.new.volume { store = c.apply.new.self })
    (current ∙ ap (λ (s : StoreState). s.current) c.store.ensures.value) c.set_record.ensures.sets refl)
    c.apply.ensures.current

pub returns-clause-breaks : goal.returns-clause-breaks
returns-clause-breaks g c =
    let v = c.args.volume.now in
    let mid = c.set_record.new.volume in
    on_err_weaker c.apply.result
    (λ leaves. breaks_made (SetsRecord (serial_of c.args.serial) (slot_of (option_copied c.args.logged)) c.args.log.now c.set_record.new.log v) v mid (record mid { store = c.apply.new.self }) c.set_record.ensures.sets
    (same_content v mid (same_so _ c.set_record.new.volume.store c.set_record.ensures.rest))
    (subst (λ (s : StoreState). Leaves (IsEither (content s) s.current) c.apply.new.self.disk) c.store.ensures.value leaves))
    c.apply.ensures.err

pub returns-clause-log : goal.returns-clause-log
returns-clause-log g c =
    on_ok_weaker c.apply.result
    (λ current h. let k = c.set_record.ensures.log h in record {
      before = k.before;
      keeps = subst (λ (o : Option (List (List ℕ))). IfSome o (Keeps c.set_record.new.log)) (sym (current ∙ ap (λ (s : StoreState). s.current) c.store.ensures.value)) k.keeps;
    })
    c.apply.ensures.current
