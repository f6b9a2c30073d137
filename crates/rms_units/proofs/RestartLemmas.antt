-- The units that a restart took up are in order with the volume.
use Rattle.std.proofs.Common.{◌≡◌, ℕ, ◌+◌, ◌-◌, ◌<◌, ◌≤◌, List, [], ◌∷◌, Option, Some, None, length, sym, ◌∙◌, ap, subst, arith, inl, inr}
use Rattle.std.specs.List.{All, AllByRecursion}
use Rattle.std.proofs.lemmas.Bool.{cases_eq}
use Rattle.std.proofs.lemmas.List.Elements.{All-from_recursion}
use Rattle.journal_model.specs.Ring.{ring_size}
use Rattle.record_locks.specs.Locks.{Lock}
use Rattle.unit_restarts.specs.unit_aborts.Aborting.{MayAbort}
use Rattle.unit_entries.specs.Opening.{AscendWithin}
use Rattle.unit_table.specs.Places.{AreInOrder, count_at, occurrences}
use Rattle.unit_table.specs.Units as table
use Rattle.unit_table.specs.Units.{OpenUnit, Units, begun, no_units, owed, unit_at, units_of}
use Rattle.unit_table.proofs.OrderLemmas.{more_there}
use Rattle.volume.specs.State.{VolumeState}
use Rattle.rms_units.specs.State as rms
use Rattle.rms_units.specs.State.{IsInOrder, nothing_begun}
use Rattle.rms_units.proofs.AbortLemmas.{none_changed, order_reopened}
use Rattle.rms_units.proofs.ImageSound.{fits_none}
use Rattle.image_room.specs.Room.{AllSettlementsFit}

one_seen : (P : OpenUnit → Type 0) (us : List (Option OpenUnit)) (order : List ℕ) (p : ℕ) (u : OpenUnit) → unit_at us p ≡ Some u → 1 ≤ occurrences p order → AllByRecursion P (units_of us order) → P u
one_seen P us [] p u there some all = absurd (omega (arith, some))
one_seen P us (q ∷ qs) p u there some all = elim (cases_eq q p) [
  | inl same ↦ (subst (λ (o : Option OpenUnit). AllByRecursion P (elim o [ Some w ↦ w ∷ units_of us qs | None ↦ units_of us qs ])) (ap (unit_at us) same ∙ there) all).0
  | inr apart ↦ one_seen P us qs p u there (let less = more_there p q qs apart in omega (arith, less, some)) (behind (unit_at us q) all)
]
  where
    behind : (o : Option OpenUnit) → AllByRecursion P (elim o [ Some w ↦ w ∷ units_of us qs | None ↦ units_of us qs ]) → AllByRecursion P (units_of us qs)
    behind (Some w) h = h.1
    behind None h = h

ascend_ends : (from end : ℕ) (ps : List ℕ) → table.Ascend from end ps → from ≤ end
ascend_ends from end [] all = all
ascend_ends from end (p ∷ ps) all = let later = ascend_ends (p + 1) end ps all.1 in omega (arith, all.0, later)

ascend_here : (from end : ℕ) (ps : List ℕ) → table.Ascend from end ps → rms.Ascend from end ps
ascend_here from end [] all = all
ascend_here from end (p ∷ ps) all = (all.0, ascend_here (p + 1) end ps all.1)

ascend_within : (first from end : ℕ) (ps : List ℕ) → first ≤ from → table.Ascend from end ps → AllByRecursion (λ p. (first ≤ p) × (p < end)) ps
ascend_within first from end [] le all = tt
ascend_within first from end (p ∷ ps) le all = let later = ascend_ends (p + 1) end ps all.1 in ((omega (arith, le, all.0), omega (arith, later)), ascend_within first (p + 1) end ps (omega (arith, le, all.0)) all.1)

pub order_restarted : (t : Units) (locks : List Lock) (v w : VolumeState) → IsInOrder nothing_begun v → MayAbort w → length w.catalog.heads ≡ length v.catalog.heads → AreInOrder t.places t.order → w.catalog.ru.end - w.catalog.ru.first + owed t.places ≤ ring_size w.catalog.ru →
    AscendWithin w.catalog.ru.first w.catalog.ru.end (begun t) → AllSettlementsFit t.places w.catalog.heads → (let s : rms.UnitsState = record { units = t; locks = locks } in IsInOrder s w)
order_restarted t locks v w before may heads at room ascends fits = record {
  idle = order.idle;
  frames = order.frames;
  heads = order.heads;
  sound = order.sound;
  holds = order.holds;
  least = order.least;
  most = order.most;
  ascends = order.ascends;
  room = room;
  within = λ p u there. All-from_recursion (λ q. (w.catalog.ru.first ≤ q) × (q < w.catalog.ru.end)) u.positions (ascend_within w.catalog.ru.first w.catalog.ru.first w.catalog.ru.end u.positions (omega arith) (one p u there));
  ascending = λ p u there. ascend_here w.catalog.ru.first w.catalog.ru.end u.positions (one p u there);
  images = fits;
}
  where
    order : IsInOrder nothing_begun w
    order = order_reopened v w before may heads (fits_none t.places no_units.places w.catalog.heads (λ g. none_changed 64 g) fits)

    one : (p : ℕ) (u : OpenUnit) → unit_at t.places p ≡ Some u → table.Ascend w.catalog.ru.first w.catalog.ru.end u.positions
    one p u there = one_seen (λ (x : OpenUnit). table.Ascend w.catalog.ru.first w.catalog.ru.end x.positions) t.places t.order p u there
        (let once : occurrences p t.order ≡ 1 = at.each p ∙ ap count_at there in omega (arith, once)) ascends
