-- Units at their places, and in the order of their beginning.
use Rattle.std.proofs.Common.{◌≡◌, ℕ, zero, suc, ◌+◌, ◌-◌, ◌*◌, ◌^◌, ◌<◌, ◌≤◌, List, [], ◌∷◌, Option, Some, None, if◌then◌else◌, length, map, slice_set, refl, sym, ◌∙◌, ap, subst, arith, inl, inr, get_or-set_same, get_or-set_other}
use Rattle.std.specs.Prelude.{IsSome}
use Rattle.std.specs.List.{All, AllByRecursion}
use Rattle.std.proofs.lemmas.Bool.{cases_eq}
use Rattle.std.proofs.lemmas.List.Elements.{All-cons, All-nil}
use Rattle.volume.specs.State.{VolumeState}
use Rattle.volume.specs.declared.catalog.Catalog.{Catalog}
use Rattle.file_base.specs.declared.head.FileHead.{FileHead}
use Rattle.recovery_units.specs.image_appends.declared.side.Side.{Side}
use Rattle.recovery_units.specs.image_appends.declared.side.Side.TheVariants.{After, Before}
use Rattle.recovery_units.specs.image_appends.Images.{span_of}
use Rattle.recovery_units.specs.image_room.Room.{AllSettlementsFit, ImagesAreLow, SettlementsFit, images_end}
use Rattle.volume.specs.Catalogs.{head_at}
use Rattle.log_laws.specs.Slots.{Slots}
use Rattle.journal_model.specs.Ring.{ring_size}
use Rattle.unit_table.specs.Places.{AreInOrder, count_at, occurrences}
use Rattle.unit_table.specs.Units as table
use Rattle.unit_table.specs.Units.{OpenUnit, changers, has_changed, owed_for, unit_at, units_of}
use Rattle.unit_table.proofs.BegunLemmas.{counted_none, one_unit, units_other}
use Rattle.unit_table.proofs.OrderLemmas.{at_below, more_here, more_there, taken_few, taken_is, units_many}
use Rattle.rms_units.specs.State as rms
use Rattle.recovery_units.specs.State as calls
use Rattle.node_units.specs.Seen.{seen}

-- What units count for together, each so much.

module _ (weight : OpenUnit → ℕ) where
  abbrev pub total : List (Option OpenUnit) → ℕ
  total [] = 0
  total (None ∷ us) = total us
  total (Some u ∷ us) = weight u + total us

  abbrev pub sum_of : List OpenUnit → ℕ
  sum_of [] = 0
  sum_of (u ∷ us) = weight u + sum_of us

  total_step : (us : List (Option OpenUnit)) (i : ℕ) (u : OpenUnit) → unit_at us i ≡ Some u → total us ≡ weight u + total (slice_set us i None)
  total_step [] i u there = let never : ⊥ = cc in absurd never
  total_step (None ∷ us) zero u there = let never : ⊥ = cc in absurd never
  total_step (Some w ∷ us) zero u there = ap (λ (x : OpenUnit). weight x + total us) (one_unit w u there)
  total_step (None ∷ us) (suc i) u there = total_step us i u there
  total_step (Some w ∷ us) (suc i) u there = let rest = total_step us i u there in omega (arith, rest)

  total_none : (us : List (Option OpenUnit)) → ((p : ℕ) → unit_at us p ≡ None) → total us ≡ 0
  total_none [] none = refl
  total_none (None ∷ us) none = total_none us (λ p. none (suc p))
  total_none (Some u ∷ us) none = let never : ⊥ = (let e : ◌≡◌ {A = Option OpenUnit} (Some u) None = none 0 in cc) in absurd never

  pub total_order : (order : List ℕ) (us : List (Option OpenUnit)) → ((p : ℕ) → occurrences p order ≡ count_at (unit_at us p)) → total us ≡ sum_of (units_of us order)
  total_order [] us each = total_none us (λ p. counted_none (unit_at us p) (each p))
  total_order (q ∷ qs) us each = go (unit_at us q) refl (total_order qs (slice_set us q None))
    where
      go : (o : Option OpenUnit) → unit_at us q ≡ o → (((p : ℕ) → occurrences p qs ≡ count_at (unit_at (slice_set us q None) p)) → total (slice_set us q None) ≡ sum_of (units_of (slice_set us q None) qs)) →
          total us ≡ sum_of (elim o [ Some u ↦ u ∷ units_of us qs | None ↦ units_of us qs ])
      go None there rest = let one = sym (more_here q qs) ∙ each q ∙ ap count_at there in absurd (omega (arith, one))
      go (Some u) there rest =
          let none : occurrences q qs ≡ 0 = (let one : suc (occurrences q qs) ≡ 1 = sym (more_here q qs) ∙ each q ∙ ap count_at there in omega (arith, one)) in
          let below = at_below us q (subst IsSome (sym there) refl) in
          let later : (p : ℕ) → occurrences p qs ≡ count_at (unit_at (slice_set us q None) p) = λ p. elim (cases_eq p q) [
            | inl same ↦ ap (λ k. occurrences k qs) same ∙ none ∙ ap count_at (sym (get_or-set_same us q None None below)) ∙ ap (λ k. count_at (unit_at (slice_set us q None) k)) (sym same)
            | inr apart ↦ sym (more_there p q qs (λ e. apart (sym e))) ∙ each p ∙ ap count_at (sym (get_or-set_other us q p None None apart))
          ] in
          total_step us q u there ∙ ap (λ k. weight u + k) (rest later ∙ ap sum_of (units_other us q None qs none))

-- What they are owed.

abbrev owing : OpenUnit → ℕ
owing u = owed_for u.prepared u.positions

owed_total : (us : List (Option OpenUnit)) → table.owed us ≡ total owing us
owed_total [] = refl
owed_total (None ∷ us) = owed_total us
owed_total (Some u ∷ us) = ap (λ k. owed_for u.prepared u.positions + k) (owed_total us)

owed_sum : (us : List OpenUnit) → sum_of owing us ≡ calls.owed us
owed_sum [] = refl
owed_sum (u ∷ us) = ap (λ k. owed_for u.prepared u.positions + k) (owed_sum us)

pub owed_seen : (s : rms.UnitsState) (log : Slots) → AreInOrder s.units.places s.units.order → table.owed s.units.places ≡ calls.owed (seen s log).begun
owed_seen s log order = owed_total s.units.places ∙ total_order owing s.units.order s.units.places order.each ∙ owed_sum (seen s log).begun

-- How many of them changed a file.

abbrev counting : (file : ℕ) → OpenUnit → ℕ
counting file u = if has_changed u file then 1 else 0

changers_total : (file : ℕ) (us : List (Option OpenUnit)) → changers file us ≡ total (counting file) us
changers_total file [] = refl
changers_total file (None ∷ us) = let rest = changers_total file us in omega (arith, rest)
changers_total file (Some u ∷ us) = ap (λ k. counting file u + k) (changers_total file us)

changers_sum : (file : ℕ) (us : List OpenUnit) → sum_of (counting file) us ≡ changers file (map Some us)
changers_sum file [] = refl
changers_sum file (u ∷ us) = ap (λ k. counting file u + k) (changers_sum file us)

pub changers_seen : (s : rms.UnitsState) (log : Slots) (file : ℕ) → AreInOrder s.units.places s.units.order → changers file s.units.places ≡ changers file (map Some (seen s log).begun)
changers_seen s log file order = changers_total file s.units.places ∙ total_order (counting file) s.units.order s.units.places order.each ∙ changers_sum file (seen s log).begun

-- so the journals of images have room for their settlements
fit_alike : (us ws : List (Option OpenUnit)) (heads : List (Option FileHead)) → ((file : ℕ) → changers file us ≡ changers file ws) → AllSettlementsFit us heads → AllSettlementsFit ws heads
fit_alike us ws heads same fit file h there = (one After, one Before)
  where
    one : (side : Side) → SettlementsFit side h file ws
    one After kept = subst (λ (k : ℕ). (span_of After h).end - (span_of After h).first + 48 * k ≤ ring_size (span_of After h)) (same file) ((fit file h there).0 kept)
    one Before kept = subst (λ (k : ℕ). (span_of Before h).end - (span_of Before h).first + 48 * k ≤ ring_size (span_of Before h)) (same file) ((fit file h there).1 kept)

-- What holds of all of them.

pub all_seen : (P : OpenUnit → Type 0) (us : List (Option OpenUnit)) (order : List ℕ) → ((p : ℕ) (u : OpenUnit) → unit_at us p ≡ Some u → P u) → AllByRecursion P (units_of us order)
all_seen P us [] all = tt
all_seen P us (p ∷ ps) all = go (unit_at us p) refl (all_seen P us ps all)
  where
    go : (o : Option OpenUnit) → unit_at us p ≡ o → AllByRecursion P (units_of us ps) → AllByRecursion P (elim o [ Some u ↦ u ∷ units_of us ps | None ↦ units_of us ps ])
    go (Some u) there rest = (all p u there, rest)
    go None there rest = rest

pub one_seen : (P : OpenUnit → Type 0) (us : List (Option OpenUnit)) (order : List ℕ) (p : ℕ) (u : OpenUnit) → unit_at us p ≡ Some u → 1 ≤ occurrences p order → AllByRecursion P (units_of us order) → P u
one_seen P us [] p u there some all = absurd (omega (arith, some))
one_seen P us (q ∷ qs) p u there some all = elim (cases_eq q p) [
  | inl same ↦ (subst (λ (o : Option OpenUnit). AllByRecursion P (elim o [ Some w ↦ w ∷ units_of us qs | None ↦ units_of us qs ])) (ap (unit_at us) same ∙ there) all).0
  | inr apart ↦ one_seen P us qs p u there (let less = more_there p q qs apart in omega (arith, less, some)) (behind (unit_at us q) all)
]
  where
    behind : (o : Option OpenUnit) → AllByRecursion P (elim o [ Some w ↦ w ∷ units_of us qs | None ↦ units_of us qs ]) → AllByRecursion P (units_of us qs)
    behind (Some w) h = h.1
    behind None h = h

ascend_seen : (from end : ℕ) (ps : List ℕ) → rms.Ascend from end ps → table.Ascend from end ps
ascend_seen from end [] h = h
ascend_seen from end (p ∷ ps) h = (h.0, ascend_seen (p + 1) end ps h.1)

ascend_unseen : (from end : ℕ) (ps : List ℕ) → table.Ascend from end ps → rms.Ascend from end ps
ascend_unseen from end [] h = h
ascend_unseen from end (p ∷ ps) h = (h.0, ascend_unseen (p + 1) end ps h.1)

ascend_end : (from end : ℕ) (ps : List ℕ) → table.Ascend from end ps → from ≤ end
ascend_end from end [] h = h
ascend_end from end (p ∷ ps) h = let rest = ascend_end (p + 1) end ps h.1 in let one = h.0 in omega (arith, rest, one)

ascend_within : (least from end : ℕ) (ps : List ℕ) → least ≤ from → table.Ascend from end ps → All (λ p. (least ≤ p) × (p < end)) ps
ascend_within least from end [] less h = All-nil _
ascend_within least from end (p ∷ ps) less h = let rest = ascend_end (p + 1) end ps h.1 in let one = h.0 in All-cons (λ q. (least ≤ q) × (q < end)) p ps (omega (arith, less, one), omega (arith, rest)) (ascend_within least (p + 1) end ps (omega (arith, less, one)) h.1)

-- Units and volume are in order as the units say it, and as those above them do.
pub order_seen : (s : rms.UnitsState) (log : Slots) (v : VolumeState) → AreInOrder s.units.places s.units.order → 584 + length log ≤ v.catalog.ru.start → rms.IsInOrder s v → calls.IsInOrder (seen s log) v
order_seen s log v at slots order = record {
  idle = order.idle;
  frames = order.frames;
  heads = order.heads;
  sound = order.sound;
  holds = order.holds;
  least = order.least;
  most = order.most;
  ascends = order.ascends;
  room = subst (λ k. v.catalog.ru.end - v.catalog.ru.first + k ≤ ring_size v.catalog.ru) (owed_seen s log at) order.room;
  within = all_seen (λ (u : OpenUnit). table.Ascend v.catalog.ru.first v.catalog.ru.end u.positions) s.units.places s.units.order (λ p u there. ascend_seen v.catalog.ru.first v.catalog.ru.end u.positions (order.ascending p u there));
  few = (let many = units_many s.units.places s.units.order (λ p some. taken_is (unit_at s.units.places p) (occurrences p s.units.order) (at.each p) some) in let few = taken_few s.units.places in let long = at.whole in let taken = at.many in omega (arith, many, few, long, taken));
  slots = slots;
  images = fit_alike s.units.places (map Some (seen s log).begun) v.catalog.heads (λ file. changers_seen s log file at) order.images;
}

pub order_unseen : (s : rms.UnitsState) (log : Slots) (v : VolumeState) → AreInOrder s.units.places s.units.order → calls.IsInOrder (seen s log) v → rms.IsInOrder s v
order_unseen s log v at order = record {
  idle = order.idle;
  frames = order.frames;
  heads = order.heads;
  sound = order.sound;
  holds = order.holds;
  least = order.least;
  most = order.most;
  ascends = order.ascends;
  room = subst (λ k. v.catalog.ru.end - v.catalog.ru.first + k ≤ ring_size v.catalog.ru) (sym (owed_seen s log at)) order.room;
  within = λ p u there. ascend_within v.catalog.ru.first v.catalog.ru.first v.catalog.ru.end u.positions (omega arith) (ascends p u there);
  ascending = λ p u there. ascend_unseen v.catalog.ru.first v.catalog.ru.end u.positions (ascends p u there);
  images = fit_alike (map Some (seen s log).begun) s.units.places v.catalog.heads (λ file. sym (changers_seen s log file at)) order.images;
}
  where
    ascends : (p : ℕ) (u : OpenUnit) → unit_at s.units.places p ≡ Some u → table.Ascend v.catalog.ru.first v.catalog.ru.end u.positions
    ascends p u there = one_seen (λ (w : OpenUnit). table.Ascend v.catalog.ru.first v.catalog.ru.end w.positions) s.units.places s.units.order p u there
        (let one : occurrences p s.units.order ≡ 1 = at.each p ∙ ap count_at there in omega (arith, one)) order.within

-- Numbers that only grow.

pub ends_within : (heads : List (Option FileHead)) (f : ℕ) (h : FileHead) → head_at heads f ≡ Some h → (h.ai.end ≤ images_end heads) × (h.bi.end ≤ images_end heads)
ends_within [] f h there = let no : ⊥ = cc in absurd no
ends_within (None ∷ heads) zero h there = let no : ⊥ = cc in absurd no
ends_within (None ∷ heads) (suc f) h there = ends_within heads f h there
ends_within (Some x ∷ heads) zero h there =
    let same : x ≡ h = cc in
    let first = ap (λ (y : FileHead). y.ai.end) same in
    let second = ap (λ (y : FileHead). y.bi.end) same in
    (omega (arith, first), omega (arith, second))
ends_within (Some x ∷ heads) (suc f) h there = let rest = ends_within heads f h there in let one = rest.0 in let two = rest.1 in (omega (arith, one), omega (arith, two))

pub early_unseen : (v : VolumeState) → calls.IsEarly v → rms.IsEarly v
early_unseen v early = record {
  low = early.low;
  moment = early.moment;
  images = λ f h there. let within = ends_within v.catalog.heads f h there in let one = within.0 in let two = within.1 in let low = early.images in (omega (arith, one, low), omega (arith, two, low));
}

-- and so of a volume that has the same catalog
pub early_since : (v x : VolumeState) → x.catalog ≡ v.catalog → calls.IsEarly v → rms.IsEarly x
early_since v x same early =
    let here = early_unseen v early in
    record {
      low = subst (λ (k : Catalog). k.ru.end + 2 ^ 22 ≤ 2 ^ 62) (sym same) here.low;
      moment = subst (λ (k : Catalog). k.home.greatest_moment.0 < 24000001000066) (sym same) here.moment;
      images = subst (λ (k : Catalog). ImagesAreLow (2 ^ 24) k.heads) (sym same) here.images;
    }
