use Rattle.std.proofs.Common.{◌≡◌, ◌≤◌, ◌++◌, List, Some, None, map, true, false, ap, sym, subst, ◌∙◌, arith}
use Rattle.std.specs.List.{position, list_any}
use Rattle.std.specs.Vec.{vec_capacity}
use Rattle.commit_protocol.specs.Messages.{LogRecord}
use Rattle.commit_protocol.specs.Table.{Tm, holds, release}
use Rattle.commit_protocol.specs.Effects.{record_effects}
use Rattle.tm_types.specs.Parts.{log_record_of}
use Rattle.tm_types.specs.Branches.{branch_of}
use Rattle.tm_types.specs.Effects.{effect_of}
use Rattle.tm_types.proofs.ListLemmas.{map_push}
use Rattle.vms_base.specs.Ids.{serial_of}
use Rattle.vms_base.specs.declared.protocol.LogRec.{LogRec}
use Rattle.tm_table.specs.Doing.{Doing, does, released_row}
use Rattle.tm_table.specs.Kept.{Keeps, kept_at}
use Rattle.tm_table.proofs.TableLemmas.{keeps_records}
use Rattle.tm_table.proofs.RecordLemmas.{at_holding, release_at, release_effect, any_at, none_at, length-kept_at}
use Rattle.tm_table.proofs.DoingLemmas.{release_some, release_none}
use Rattle.tm_table.proofs.table.Table.release.Goals as goal

pub invariant_of-self : goal.invariant_of-self
invariant_of-self c =
    let rs = map log_record_of c.self.inside.records.items in
    let t = map branch_of c.self.inside.branches.items in
    let capacity : 512 ≤ vec_capacity c.keep_record-effect.new.records = (let e = c.keep_record-effect.ensures.capacity in let i = c.self.invariant.1 in omega arith) in
    let Q : List LogRecord → Type 0 = λ qs. Keeps t qs in
    (c.self.invariant.0, capacity, subst Q (sym c.keep_record-effect.ensures.records) (keeps_records t rs (kept_at c.in-Some.i (log_record_of c.released-rec.result) rs) c.self.invariant.2 (length-kept_at c.in-Some.i (log_record_of c.released-rec.result) rs)))

pub returns-in-Some : goal.returns-in-Some
returns-in-Some c =
    let s = serial_of c.args.serial.now in
    let x = c.args.rm.now in
    let i = c.in-Some.i in
    let items = c.self.inside.records.items in
    let rs = map log_record_of items in
    let s0 : Doing = record { tm = record { node = c.self.inside.node; table = map branch_of c.self.inside.branches.items; records = rs }; effects = map effect_of c.self.inside.effects } in
    let s1 : Doing = record { tm = record { node = c.self.inside.node; table = map branch_of c.self.inside.branches.items; records = map log_record_of c.keep_record-effect.new.records.items }; effects = map effect_of c.push.new.self } in
    let p : position (at_holding s x) items ≡ Some i = ap (λ (xs : List LogRec). position (at_holding s x) xs) (sym c.deref.ensures.value) ∙ (sym c.place_of_holding.ensures ∙ c.in-Some.is) in
    let waits : list_any (λ r. holds s x r) rs ≡ true = any_at (λ r. holds s x r) items i c.index.result.now p c.index.ensures in
    let e : map log_record_of c.keep_record-effect.new.records.items ≡ release s x rs = c.keep_record-effect.ensures.records ∙ (ap (λ (r : LogRecord). kept_at i r rs) c.released-rec.ensures ∙ sym (release_at s x items i c.index.result.now p c.index.ensures)) in
    let F : List LogRecord → Tm = λ qs. record { node = c.self.inside.node; table = map branch_of c.self.inside.branches.items; records = qs } in
    let told = c.keep_record-effect.ensures.effect ∙ (ap (λ (r : LogRecord). record_effects r) c.released-rec.ensures ∙ sym (release_effect s x items i c.index.result.now p c.index.ensures)) in
    let f = ap (λ es. map effect_of es) c.push.ensures ∙ (map_push effect_of c.self.inside.effects c.keep_record-effect.result ∙ ap (λ es. map effect_of c.self.inside.effects ++ es) told) in
    release_some s x s0 s1 waits (ap F e) f ∙ ap (λ (z : Doing). does (released_row s x z.tm.records) z) c.self.view_is

pub returns-in_default : goal.returns-in_default
returns-in_default c =
    let s = serial_of c.args.serial.now in
    let x = c.args.rm.now in
    let items = c.self.inside.records.items in
    let s0 : Doing = record { tm = record { node = c.self.inside.node; table = map branch_of c.self.inside.branches.items; records = map log_record_of items }; effects = map effect_of c.self.inside.effects } in
    let p : position (at_holding s x) items ≡ None = ap (λ (xs : List LogRec). position (at_holding s x) xs) (sym c.deref.ensures.value) ∙ (sym c.place_of_holding.ensures ∙ c.in_default.is) in
    let waits : list_any (λ r. holds s x r) (map log_record_of items) ≡ false = none_at (λ r. holds s x r) items p in
    sym c.self.view_is ∙ (release_none s x s0 waits ∙ ap (λ (z : Doing). does (released_row s x z.tm.records) z) c.self.view_is)
