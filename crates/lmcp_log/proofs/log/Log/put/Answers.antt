use Rattle.std.specs.Prelude.{IsErr}
use Rattle.std.proofs.Common.{◌≡◌, List, Option, Some, map, set, sym, refl, ◌∙◌, arith}
use Rattle.std.proofs.lemmas.List.{map-set}
use Rattle.log_laws.specs.commit_protocol.Messages.{LogRecord}
use Rattle.tm_types.specs.Parts.{log_record_of}
use Rattle.vms_base.specs.declared.protocol.LogRec.{LogRec}
use Rattle.lmcp_log.specs.Log.{slot_of}
use Rattle.lmcp_log.proofs.Apart.{put_distinct}
use Rattle.lmcp_log.proofs.Keepings.{told_keeps}
use Rattle.lmcp_log.proofs.SlotLemmas.{clash, putting, first_filled}
use Rattle.lmcp_log.proofs.Stores.{ok_so, staged}
use Rattle.lmcp_log.proofs.log.Log.put.Goals as goal

pub returns-clause-slots : goal.returns-clause-slots
returns-clause-slots g c =
    let r : LogRecord = log_record_of c.args.r.now in
    let place = c.in-Some.place in
    let items : List (Option LogRec) = c.self.inside.slots.items in
    map-set slot_of items place (Some c.copy.result)
    ∙ ((λ k. set (c.self.view_is k) place (Some (log_record_of (c.copy.ensures k)))) ∙ sym (putting r c.args.self.now place c.in-Some.ensures.there c.in-Some.ensures.free).0)

pub returns-clause-staged : goal.returns-clause-staged
returns-clause-staged g c =
    let r : LogRecord = log_record_of c.args.r.now in
    let place = c.in-Some.place in
    let items : List (Option LogRec) = c.self.inside.slots.items in
    let not_full : IsErr c.stage.result → ⊥ = λ err. let full = c.stage.ensures.full err in let few = c.requires.room in omega (arith, full.0, few) in
    let t = staged c.args.store.now c.stage.new.self place c.write_slot.new.block _ c.write_slot.ensures.block (ok_so c.stage.result c.stage.ensures.ok not_full) in
    record {
      place = place;
      within = (putting r c.args.self.now place c.in-Some.ensures.there c.in-Some.ensures.free).1;
      slots = map-set slot_of items place (Some c.copy.result) ∙ (λ k. set (c.self.view_is k) place (Some (log_record_of (c.copy.ensures k))));
      current = t.current;
      touched = t.touched;
      rest = t.rest;
      disk = t.disk;
    }

pub returns-clause-full : goal.returns-clause-full
returns-clause-full g c =
    let r : LogRecord = log_record_of c.args.r.now in (
      (λ e. absurd (clash (sym e))),
      (λ p. absurd (clash (sym (first_filled r c.args.self.now c.in-Some.place (c.in-Some.ensures.free p.0)).0 ∙ p.1))),
    )

pub returns-clause-keeps : goal.returns-clause-keeps
returns-clause-keeps g c =
    let r : LogRecord = log_record_of c.args.r.now in
    let place = c.in-Some.place in
    let items : List (Option LogRec) = c.self.inside.slots.items in
    let not_full : IsErr c.stage.result → ⊥ = λ err. let full = c.stage.ensures.full err in let few = c.requires.room in omega (arith, full.0, few) in
    let t = staged c.args.store.now c.stage.new.self place c.write_slot.new.block _ c.write_slot.ensures.block (ok_so c.stage.result c.stage.ensures.ok not_full) in
    let slots : map slot_of (set items place (Some c.copy.result)) ≡ set c.args.self.now place (Some r) =
    map-set slot_of items place (Some c.copy.result) ∙ (λ k. set (c.self.view_is k) place (Some (log_record_of (c.copy.ensures k)))) in
    let within = (putting r c.args.self.now place c.in-Some.ensures.there c.in-Some.ensures.free).1 in
    let fits = c.requires.size in
    let same = t.disk.size in
    told_keeps c.args.store.now.current c.stage.new.self.current c.args.self.now (map slot_of (set items place (Some c.copy.result))) c.stage.new.self.disk.size place (Some r) t.current slots within
    (omega (arith, fits, same)) c.stage.ensures.whole ((c.write_slot.ensures.parts, c.requires.form), refl) (put_distinct r c.args.self.now place c.in-Some.ensures.there c.in-Some.ensures.free)
