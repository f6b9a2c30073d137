use Rattle.std.proofs.Common.{◌≡◌, ◌<◌, Option, Some, None, IfSome, IsSome, length, get_or, refl, sym, subst, arith}
use Rattle.unit_table.specs.Units.{OpenUnit, unit_at, with_position, with_unit}
use Rattle.rms_units.specs.Truncating.{with_positions}
use Rattle.rms_units.proofs.CutUnits.{all_noted, begun_so, noted_so}
use Rattle.rms_units.proofs.truncating.note_cut.Goals as goal

pub loop-position-init : goal.loop-position-init
loop-position-init c = begun_so c.args.positions.now c.args.place c.args.file c.args.table.now (unit_at c.args.table.now.places c.args.place) refl (λ none. some_no (unit_at c.args.table.now.places c.args.place) none c.requires.there) c.requires.room
  where
    some_no : (o : Option OpenUnit) → o ≡ None → IsSome o → ⊥
    some_no None none some = cc
    some_no (Some u) none some = cc

pub note-requires-clause-there : goal.note-requires-clause-there
note-requires-clause-there c = subst (λ (o : Option OpenUnit). IsSome o) (sym c.loop-position.invariant.at) refl

pub note-requires-clause-room : goal.note-requires-clause-room
note-requires-clause-room c = subst (λ (o : Option OpenUnit). IfSome o (λ u. length u.positions < 1024)) (sym c.loop-position.invariant.at) (let room = c.loop-position.invariant.room in omega (arith, room))

pub loop-position-preserved : goal.loop-position-preserved
loop-position-preserved c = noted_so c.args.positions.now c.args.place c.args.file c.args.table.now c.loop-position.position-index c.loop-position.table c.note.new.self (omega arith) c.loop-position.invariant
    (subst (λ (o : Option OpenUnit). IfSome o (λ u. c.note.new.self ≡ with_unit c.args.place (with_position (get_or c.args.positions.now c.loop-position.position-index 0) c.args.file u) c.loop-position.table)) c.loop-position.invariant.at c.note.ensures.noted)

pub returns : goal.returns
returns c = step (unit_at c.args.table.now.places c.args.place) refl
  where
    step : (o : Option OpenUnit) → unit_at c.args.table.now.places c.args.place ≡ o → IfSome o (λ u. c.loop-position.table ≡ with_unit c.args.place (with_positions c.args.positions.now c.args.file u) c.args.table.now)
    step None is = tt
    step (Some u) is = all_noted c.args.positions.now c.args.place c.args.file c.args.table.now c.loop-position.position-index c.loop-position.table (omega arith) c.loop-position.invariant u is
