-- What is done for one branch leaves the other units as they were.
use Rattle.std.proofs.Common.{◌≡◌, ℕ, ◌++◌, List, [], ◌∷◌, true, false, Option, Some, None, slice_set, refl, sym, ◌∙◌, ap, subst, inl, inr, append-nil, get_or-set_same, get_or-set_other}
use Rattle.std.specs.Prelude.{IsSome}
use Rattle.std.proofs.lemmas.Bool.{both_ways, cases_eq}
use Rattle.file_base.specs.declared.head.FileHead.{FileHead}
use Rattle.vms_model.specs.Ids.{Id}
use Rattle.vms_model.specs.Keys.{Key}
use Rattle.record_locks.specs.Locks.{with_locks}
use Rattle.volume.specs.State.{VolumeState}
use Rattle.records_model.specs.History.{same_id}
use Rattle.record_operations.specs.declared.ops.RecordOp.{RecordOp}
use Rattle.record_operations.specs.declared.ops.RecordOp.TheVariants as op
use Rattle.unit_table.specs.Units.{OpenUnit, begun, unit_at, units_of, with_position}
use Rattle.unit_table.specs.Units as table
use Rattle.unit_table.proofs.OrderLemmas.{at_below}
use Rattle.rms_units.specs.unit_cuts.Truncating.{begins_at}
use Rattle.recovery_units.proofs.world_laws.IdLemmas.{id_itself}
use Rattle.rms_units.specs.Calls.{ChangesOk}
use Rattle.rms_units.specs.State.{UnitsState, unit_of}
use Rattle.rms_units.specs.Truncating.{cut_asked, with_positions}
use Rattle.rms_units.proofs.CutOrder.{positions_of, prepared_still}
use Rattle.recovery_units.specs.State.{AreLater, IsLater, locks_of}
use Rattle.recovery_units.proofs.OtherLemmas.{held_apart}

later_same : (x : Id) (u : OpenUnit) → IsLater x u u
later_same x u = record { tid = refl; serial_is = refl; prepared = refl; own = ([], sym (append-nil u.positions)); others = λ apart. refl }

pub all_later : (x : Id) (us : List OpenUnit) → AreLater x us us
all_later x [] = tt
all_later x (u ∷ us) = (later_same x u, all_later x us)

-- another unit in its place
later_set : (x : Id) (us : List (Option OpenUnit)) (order : List ℕ) (p : ℕ) (u w : OpenUnit) → unit_at us p ≡ Some u → IsLater x u w → AreLater x (units_of us order) (units_of (slice_set us p (Some w)) order)
later_set x us [] p u w there later = tt
later_set x us (q ∷ qs) p u w there later = elim (cases_eq q p) [
  | inl is ↦
      let was : unit_at us q ≡ Some u = ap (unit_at us) is ∙ there in
      let now : unit_at (slice_set us p (Some w)) q ≡ Some w = ap (unit_at (slice_set us p (Some w))) is ∙ get_or-set_same us p (Some w) None (at_below us p (subst IsSome (sym there) refl)) in
      subst (λ (o : Option OpenUnit). AreLater x (elim o [ Some y ↦ y ∷ units_of us qs | None ↦ units_of us qs ]) (elim (unit_at (slice_set us p (Some w)) q) [ Some y ↦ y ∷ units_of (slice_set us p (Some w)) qs | None ↦ units_of (slice_set us p (Some w)) qs ])) (sym was)
      (subst (λ (o : Option OpenUnit). AreLater x (u ∷ units_of us qs) (elim o [ Some y ↦ y ∷ units_of (slice_set us p (Some w)) qs | None ↦ units_of (slice_set us p (Some w)) qs ])) (sym now) (later, later_set x us qs p u w there later))
  | inr apart ↦
      subst (λ (o : Option OpenUnit). AreLater x (elim (unit_at us q) [ Some y ↦ y ∷ units_of us qs | None ↦ units_of us qs ]) (elim o [ Some y ↦ y ∷ units_of (slice_set us p (Some w)) qs | None ↦ units_of (slice_set us p (Some w)) qs ]))
      (sym (get_or-set_other us p q (Some w) None apart)) (go (unit_at us q) (later_set x us qs p u w there later))
]
  where
    go : (o : Option OpenUnit) → AreLater x (units_of us qs) (units_of (slice_set us p (Some w)) qs) →
        AreLater x (elim o [ Some y ↦ y ∷ units_of us qs | None ↦ units_of us qs ]) (elim o [ Some y ↦ y ∷ units_of (slice_set us p (Some w)) qs | None ↦ units_of (slice_set us p (Some w)) qs ])
    go (Some y) rest = (later_same x y, rest)
    go None rest = rest

-- the unit of the branch itself, with more changes
later_with : (x : Id) (u w : OpenUnit) (ps : List ℕ) → u.serial ≡ x → w.tid ≡ u.tid → w.serial ≡ u.serial → w.prepared ≡ u.prepared → w.positions ≡ u.positions ++ ps → IsLater x u w
later_with x u w ps own tid serial prepared more = record {
  tid = tid;
  serial_is = serial;
  prepared = prepared;
  own = (ps, more);
  others = λ apart. absurd (both_ways (same_id x u.serial) apart (subst (λ (y : Id). same_id x y ≡ true) (sym own) (id_itself x)));
}

noted_tid : (ps : List ℕ) (file : ℕ) (u : OpenUnit) → (with_positions ps file u).tid ≡ u.tid
noted_tid [] file u = refl
noted_tid (p ∷ ps) file u = noted_tid ps file (with_position p file u)

noted_serial : (ps : List ℕ) (file : ℕ) (u : OpenUnit) → (with_positions ps file u).serial ≡ u.serial
noted_serial [] file u = refl
noted_serial (p ∷ ps) file u = noted_serial ps file (with_position p file u)

units_later : (x : Id) (place : ℕ) (u w : OpenUnit) (s t : UnitsState) → unit_of place s ≡ Some u → IsLater x u w → t.units ≡ table.with_unit place w s.units → AreLater x (begun s.units) (begun t.units)
units_later x place u w s t there later is = subst (λ (us : table.Units). AreLater x (begun s.units) (begun us)) (sym is) (later_set x s.units.places s.units.order place u w there later)

pub holds_apart : (x : Id) (u : OpenUnit) (file : ℕ) (ks : List Key) (s t : UnitsState) → u.serial ≡ x → t.locks ≡ with_locks u.serial file ks s.locks → (other : Id) → same_id x other ≡ false → locks_of other t.locks ≡ locks_of other s.locks
holds_apart x u file ks s t own held other apart = ap (locks_of other) held ∙ held_apart u.serial other (subst (λ (y : Id). same_id y other ≡ false) (sym own) apart) file ks s.locks

pub changes_later : (x : Id) (place : ℕ) (u : OpenUnit) (h : FileHead) (o : RecordOp) (bytes : List ℕ) (told : ℕ) (s : UnitsState) (v : VolumeState) (t : UnitsState) (w : VolumeState) → unit_of place s ≡ Some u → u.serial ≡ x → ChangesOk place u h o bytes told s v t w →
    AreLater x (begun s.units) (begun t.units)
changes_later x place u h (op.Put file key) bytes told s v t w there own ok =
    let noted = with_position v.catalog.ru.end file u in units_later x place u noted s t there (later_with x u noted (v.catalog.ru.end ∷ []) own refl refl refl refl) (ok.changes refl).units
changes_later x place u h (op.Update file key) bytes told s v t w there own ok =
    let noted = with_position v.catalog.ru.end file u in units_later x place u noted s t there (later_with x u noted (v.catalog.ru.end ∷ []) own refl refl refl refl) (ok.changes refl).units
changes_later x place u h (op.Delete file key) bytes told s v t w there own ok =
    let noted = with_position v.catalog.ru.end file u in units_later x place u noted s t there (later_with x u noted (v.catalog.ru.end ∷ []) own refl refl refl refl) (ok.changes refl).units
changes_later x place u h (op.Truncate file from) bytes told s v t w there own ok =
    let cut = ok.cuts file from refl in
    let ps = begins_at v.catalog.ru.end cut.entries.had in
    units_later x place u (with_positions ps file u) s t there (later_with x u (with_positions ps file u) ps own (noted_tid ps file u) (noted_serial ps file u) (prepared_still ps file u) (positions_of ps file u)) cut.units

-- the keys that other branches hold stay theirs
pub changes_apart : (x : Id) (place : ℕ) (u : OpenUnit) (h : FileHead) (o : RecordOp) (bytes : List ℕ) (told : ℕ) (s : UnitsState) (v : VolumeState) (t : UnitsState) (w : VolumeState) → u.serial ≡ x → ChangesOk place u h o bytes told s v t w →
    (other : Id) → same_id x other ≡ false → locks_of other t.locks ≡ locks_of other s.locks
changes_apart x place u h (op.Put file key) bytes told s v t w own ok other apart = holds_apart x u file _ s t own (ok.changes refl).locks other apart
changes_apart x place u h (op.Update file key) bytes told s v t w own ok other apart = holds_apart x u file _ s t own (ok.changes refl).locks other apart
changes_apart x place u h (op.Delete file key) bytes told s v t w own ok other apart = holds_apart x u file _ s t own (ok.changes refl).locks other apart
changes_apart x place u h (op.Truncate file from) bytes told s v t w own ok other apart = holds_apart x u file (cut_asked h from) s t own (ok.cuts file from refl).locks other apart
