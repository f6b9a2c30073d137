use Rattle.std.proofs.Common.{◌≡◌, [], ℕ, ◌<◌, Option, Some, None, IsSome, IfSome, length, refl, sym, subst, ap, ◌∙◌, arith, get_or-set_same}
use Rattle.journal_format.specs.Heads.{entry_of, kind_code}
use Rattle.unit_table.specs.Units.{OpenUnit, Units, begun, new_unit, unit_at, with_begun, with_unit}
use Rattle.vms_base.specs.vms_model.Ids.{Id}
use Rattle.vms_base.specs.Ids.{serial_of, tid_of}
use Rattle.unit_entries.specs.Opening.{more_open}
use Rattle.unit_entries.proofs.reading.open_unit.Goals as goal

there : (p : ℕ) (tid serial : Id) (old new : Units) → p < 64 → length old.places ≡ 64 → new ≡ with_begun p tid serial old → unit_at new.places p ≡ Some (new_unit tid serial)
there p tid serial old new below whole is =
    ap (λ (x : Units). unit_at x.places p) is ∙ get_or-set_same old.places p (Some (new_unit tid serial)) None (omega (arith, below, whole))

pub note_entry-requires-clause-there : goal.note_entry-requires-clause-there
note_entry-requires-clause-there c = subst IsSome (sym (there c.in-Some.place (tid_of c.args.e.now.tid) (serial_of c.args.e.now.serial) c.args.units.now c.begin.new.self c.in-Some.ensures.free.0 c.stand_in_order.ensures.whole c.in-Some.ensures.begun)) refl

pub note_entry-requires-clause-room : goal.note_entry-requires-clause-room
note_entry-requires-clause-room c = subst (λ (o : Option OpenUnit). IfSome o (λ (w : OpenUnit). kind_code c.args.e.now.kind ≡ 1 → length w.positions < 1024)) (sym (there c.in-Some.place (tid_of c.args.e.now.tid) (serial_of c.args.e.now.serial) c.args.units.now c.begin.new.self c.in-Some.ensures.free.0 c.stand_in_order.ensures.whole c.in-Some.ensures.begun)) (λ is. omega arith)

pub returns : goal.returns
returns c =
    let p = c.in-Some.place in
    let new = new_unit (tid_of c.args.e.now.tid) (serial_of c.args.e.now.serial) in
    let more = more_open c.args.position (entry_of c.args.e.now []) in
    let noted : c.note_entry.new.units ≡ with_unit p (more new) c.begin.new.self = subst (λ (o : Option OpenUnit). IfSome o (λ (w : OpenUnit). c.note_entry.new.units ≡ with_unit p (more w) c.begin.new.self)) (there c.in-Some.place (tid_of c.args.e.now.tid) (serial_of c.args.e.now.serial) c.args.units.now c.begin.new.self c.in-Some.ensures.free.0 c.stand_in_order.ensures.whole c.in-Some.ensures.begun) c.note_entry.ensures in
    ap begun noted ∙ c.in-Some.ensures.last (more new)
