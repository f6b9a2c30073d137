-- A unit is aborted, and what is left stays in order.
use Rattle.std.proofs.Common.{◌≡◌, ◌≢◌, ℕ, zero, suc, ◌+◌, ◌-◌, ◌*◌, ◌<◌, ◌≤◌, ◌^◌, Bool, true, false, List, [], ◌∷◌, Option, Some, None, length, replicate, slice_set, refl, sym, ap, subst, ◌∙◌, arith}
use Rattle.std.proofs.lemmas.Bool.{false≢true}
use Rattle.std.proofs.lemmas.List.Elements.{All-weaker}
use Rattle.std.specs.List.{All}
use Rattle.std.specs.Prelude.{max}
use Rattle.careful_write.specs.State.{IsIdle}
use Rattle.journal_model.specs.Entries.{Entry}
use Rattle.journal_model.specs.Ring.{ring_size}
use Rattle.unit_restarts.specs.unit_aborts.Aborting.{Abortion, Aborts, BreaksOff, HasRoom, MayAbort, abort_entry, has_changes}
use Rattle.unit_restarts.specs.unit_aborts.Growing.{GrowsBy}
use Rattle.unit_journal.specs.Entries.{settled_entry}
use Rattle.unit_journal.specs.Groups.{Grows, GrowsOnce}
use Rattle.unit_journal.specs.Settling.{entry_if, next_moment, span_with}
use Rattle.unit_table.specs.Units.{OpenUnit, changers, no_units, owed, owed_for, unit_at}
use Rattle.image_room.specs.Room.{AllSettlementsFit}
use Rattle.vms_base.specs.Ids.{serial_of, tid_of}
use Rattle.vms_base.specs.declared.ids.Serial.{Serial}
use Rattle.vms_base.specs.declared.ids.Tid.{Tid}
use Rattle.vms_base.specs.declared.outcomes.Reason.{Reason}
use Rattle.vms_model.specs.Transactions.{Abort}
use Rattle.volume.specs.Catalogs.{IsSound}
use Rattle.volume.specs.declared.catalog.Catalog.{Catalog}
use Rattle.volume.specs.State.{VolumeState, Holds}
use Rattle.volume_files.proofs.Places.{within_list}
use Rattle.volume_format.specs.declared.home.Ending.TheVariants as ending
use Rattle.rms_units.specs.Aborting.{AbortsNot, AbortsUnit, abortion_of}
use Rattle.rms_units.specs.State.{AreAscending, AreWithin, IsEarly, IsInOrder, UnitsState, nothing_begun, unit_of, without_place}
use Rattle.rms_units.proofs.OrderLemmas.{ring_of}
use Rattle.rms_units.proofs.PositionLemmas.{ascending_gone, owed_gone}
use Rattle.rms_units.proofs.RoomLemmas.{owed_least, room_to_settle}
use Rattle.unit_restarts.proofs.unit_aborts.ImageLemmas.{fit_on, low_less, low_on}
use Rattle.rms_units.proofs.SettledLemmas.{bytes_of, next_bound, next_later, order_settled_in, with_end}

-- What an abort asks for.

pub may_abort : (s : UnitsState) (v : VolumeState) → IsInOrder s v → IsEarly v → MayAbort v
may_abort s v o early = record {
  idle = o.idle;
  holds = o.holds;
  node = v.catalog.home.node;
  sound = o.sound;
  least = o.least;
  most = o.most;
  frames = o.frames;
  ring = ring_of s v o early;
}

module _ (place : ℕ) (u : OpenUnit) (s : UnitsState) (v : VolumeState) (at : unit_of place s ≡ Some u) (o : IsInOrder s v) where
  pub low_changes : IsEarly v → All (λ p. p ≤ 2 ^ 62) u.positions
  low_changes early = All-weaker (λ q. (v.catalog.ru.first ≤ q) × (q < v.catalog.ru.end)) (λ q. q ≤ 2 ^ 62) (λ q is. let low = early.low in omega (arith, is.1, low)) u.positions (o.within place u at)

  pub room_to_abort : HasRoom u.positions v
  room_to_abort changed = room_to_settle s.units.places place u (v.catalog.ru.end - v.catalog.ru.first) (ring_size v.catalog.ru) at (λ none. absurd (false≢true (ap has_changes (sym none) ∙ changed))) o.room

-- The entry of its settlement takes no more than the unit was owed.
pub entry_owed : (prepared : Bool) (ps : List ℕ) (e : Entry) → bytes_of (entry_if (has_changes ps) e) ≤ 48 → bytes_of (entry_if (has_changes ps) e) ≤ owed_for prepared ps
entry_owed prepared [] e few = omega arith
entry_owed prepared (p ∷ ps) e few = let least = owed_least prepared p ps in omega (arith, few, least)

module _ (place : ℕ) (u : OpenUnit) (tid : Tid) (serial : Serial) (reason : Reason) (clock moment : ℕ) (s t : UnitsState) (v w : VolumeState) (at : unit_of place s ≡ Some u) (is : moment ≡ next_moment clock v.catalog.home) (spent : t ≡ without_place place u.serial s) where
  gone : t.units.places ≡ slice_set s.units.places place None
  gone = ap (λ (x : UnitsState). x.units.places) spent

  pub order_aborted : IsInOrder s v → IsEarly v → clock < 24000001000066 → Aborts (abortion_of u tid serial reason moment t) v w → GrowsOnce moment v w → IsIdle w.store → Holds w → w.store.disk.size ≡ v.store.disk.size → w.store.pool ≡ v.store.pool → IsInOrder t w
  order_aborted o early before aborts once idle holds size pool =
      let mid = aborts.mid in
      let entry : Option Entry = abort_entry (abortion_of u tid serial reason moment t) in
      let later : v.catalog.home.greatest_moment.0 ≤ moment = let a = next_later clock v.catalog.home in omega (arith, a, is) in
      let bound : moment ≤ 24000001000066 = let a = next_bound clock v.catalog.home early.moment before in omega (arith, a, is) in
      let home = ap (λ (c : Catalog). c.home) aborts.goes.catalog in
      let ru = ap (λ (c : Catalog). c.ru) aborts.goes.catalog in
      let makes = aborts.makes in
      let same : makes.mid.catalog.ru.end ≡ v.catalog.ru.end = ap (λ (c : Catalog). c.ru.end) makes.entered.catalog ∙ ap (λ (c : Catalog). c.ru.end) aborts.goes.catalog in
      let ends : w.catalog.ru.end ≡ makes.mid.catalog.ru.end + bytes_of entry = ap (λ (c : Catalog). c.ru.end) makes.settles.catalog ∙ with_end entry makes.mid.catalog.ru in
      let few : bytes_of entry ≤ 48 = let a = once.end in omega (arith, a, ends, same) in
      let owes = entry_owed u.prepared u.positions (settled_entry (tid_of tid) (serial_of serial) Abort moment) few in
      order_settled_in place u tid serial (ending.Abort reason) moment entry s t v mid w o at gone home ru (aborts.goes.long ∙ o.heads) (aborts.goes.sound v.catalog.home.node o.sound)
      (low_on v mid aborts.goes.journals 48 (low_less 48 (2 ^ 24) v.catalog.heads (omega arith) early.images)) (fit_on s.units.places v mid aborts.goes.journals o.images) later bound few owes makes idle holds size pool

-- Units that a fall left are aborted.

no_unit : (n p : ℕ) (u : OpenUnit) → unit_at (replicate n None) p ≡ Some u → ⊥
no_unit zero p u at = let no : ⊥ = cc in no
no_unit (suc n) zero u at = let no : ⊥ = cc in no
no_unit (suc n) (suc p) u at = no_unit n p u at

nothing_owed : (n : ℕ) → owed (replicate n None) ≡ 0
nothing_owed zero = refl
nothing_owed (suc n) = nothing_owed n

-- none of them changed a file
pub none_changed : (n file : ℕ) → changers file (replicate n None) ≡ 0
none_changed zero file = refl
none_changed (suc n) file = let rest = none_changed n file in let e : changers file (None ∷ replicate n None) ≡ 0 = omega (arith, rest) in e

pub order_reopened : (v w : VolumeState) → IsInOrder nothing_begun v → MayAbort w → length w.catalog.heads ≡ length v.catalog.heads → AllSettlementsFit no_units.places w.catalog.heads → IsInOrder nothing_begun w
order_reopened v w o may heads fits = record {
  idle = may.idle;
  frames = may.frames;
  heads = heads ∙ o.heads;
  sound = subst (λ (node : List ℕ). IsSound node w.store.disk.size w.catalog) (sym may.sound.home.owner) may.sound;
  holds = may.holds;
  least = may.least;
  most = may.most;
  ascends = may.ring.order;
  room = let a = may.ring.room in let b = nothing_owed 64 in omega (arith, a, b);
  within = λ p u at. absurd (no_unit 64 p u at);
  ascending = λ p u at. absurd (no_unit 64 p u at);
  images = fits;
}

-- so many settlements at a clock
pub grows_reopened : (clock : ℕ) (v w : VolumeState) → GrowsBy 64 clock v w → Grows 64 (clock + 64) v w
grows_reopened clock v w g = record {
  node = g.node;
  boot = g.boot;
  greatest = let a = g.greatest in omega (arith, a);
  end = let a = g.end in omega (arith, a);
}
