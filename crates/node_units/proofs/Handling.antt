-- A call for the unit of a branch: what is known of it, and what is left once it is settled.
use Rattle.std.proofs.Common.{◌≡◌, ◌∙◌, ◌<◌, ℕ, List, Bool, true, false, if◌then◌else◌, Option, Some, IfSome, length, get_or, ap, sym, subst, refl, arith}
use Rattle.std.specs.List.{position, remove}
use Rattle.commit_protocol.specs.Messages.{LogRecord}
use Rattle.lmcp_log.specs.Slot.{IsRecord}
use Rattle.log_laws.specs.Slots.{Slots, forgotten, settled_in}
use Rattle.unit_table.specs.Places.{AreInOrder}
use Rattle.unit_table.specs.Units.{OpenUnit}
use Rattle.vms_base.specs.Ids.{tid_of}
use Rattle.vms_model.specs.Ids.{Id, IsId}
use Rattle.volume.specs.State.{VolumeState}
use Rattle.recovery_units.specs.State as calls
use Rattle.recovery_units.specs.State.{UnitsState, aborted, committed, without_begun}
use Rattle.rms_units.specs.State as rms
use Rattle.node_units.specs.declared.begun.BegunUnit.{BegunUnit}
use Rattle.node_units.specs.Seen.{seen}
use Rattle.node_units.specs.Tokens.{TokensRepresent, is_of, place_in}
use Rattle.node_units.proofs.Committing.{MaySettle}
use Rattle.node_units.proofs.Seeing.{early_unseen, order_seen, order_unseen}
use Rattle.node_units.proofs.TokenLemmas.{HasUnit, own_unit, seen_less, stand_then}

pub record Handles (ts : List BegunUnit) (s : rms.UnitsState) (log : Slots) (v : VolumeState) (x : Id) (i : ℕ) (b : BegunUnit) (was : UnitsState) (clock : ℕ) : Type 0 where
  pub stand : TokensRepresent ts s
  pub places : AreInOrder s.units.places s.units.order
  pub found : position (is_of x) ts ≡ Some i
  pub at : b ≡ get_or ts i b
  pub view : seen s log ≡ was
  pub order : calls.IsInOrder was v
  pub early : calls.IsEarly v
  pub clock_early : clock < 24000001000066
  pub tid : IsId (tid_of b.tid)
  pub serial : IsId x

module _ (ts : List BegunUnit) (s : rms.UnitsState) (log : Slots) (v : VolumeState) (x : Id) (i : ℕ) (b : BegunUnit) (was : UnitsState) (clock : ℕ) (k : Handles ts s log v x i b was clock) where
  pub own_at : HasUnit x b s
  own_at = own_unit ts s k.stand k.places x i b k.found k.at

  pub in_order : calls.IsInOrder (seen s log) v
  in_order = subst (λ (z : UnitsState). calls.IsInOrder z v) (sym k.view) k.order

  pub order_of : rms.IsInOrder s v
  order_of = order_unseen s log v k.places in_order

  pub may_settle : (rec : Option LogRecord) → IfSome rec IsRecord → MaySettle (place_in b.token) own_at.unit s log v rec clock
  may_settle rec parts = record {
    there = own_at.there;
    at = k.places;
    has = record { order = order_of; before = in_order.slots; parts = parts };
    early = early_unseen v k.early;
    clock_early = k.clock_early;
    ids = (subst IsId (sym own_at.tid) k.tid, subst IsId (sym own_at.serial) k.serial);
  }

  -- what is left
  pub stand_without : (t : rms.UnitsState) → t ≡ rms.without_place (place_in b.token) own_at.unit.serial s → TokensRepresent (remove ts i) t
  stand_without t spent = subst (TokensRepresent (remove ts i)) (sym spent) (stand_then ts s k.stand k.places x i b k.found k.at own_at.unit.serial own_at.serial)

  pub gone_with : (rec : Option LogRecord) (t : rms.UnitsState) (us : Slots) → t ≡ rms.without_place (place_in b.token) own_at.unit.serial s → us ≡ settled_in own_at.unit.serial rec log → seen t us ≡ committed x rec was
  gone_with rec t us spent slots =
      let now = ap (λ (z : rms.UnitsState). seen z log) spent ∙ seen_less ts s k.stand k.places x i b k.found k.at own_at.unit.serial own_at.serial log in
      let put : us ≡ settled_in x rec log = slots ∙ ap (λ (y : Id). settled_in y rec log) own_at.serial in
      (λ j. record (now j) { log = put j }) ∙ ap (committed x rec) k.view

  -- in order still, where the slots are as many and the journal begins in the same block
  pub order_then : (t : rms.UnitsState) (us : Slots) (w : VolumeState) → AreInOrder t.units.places t.units.order → length us ≡ length log → w.catalog.ru.start ≡ v.catalog.ru.start → rms.IsInOrder t w → calls.IsInOrder (seen t us) w
  order_then t us w at long start is = order_seen t us w at (let before = in_order.slots in omega (arith, long, start, before)) is

  -- and so after an abort
  pub gone_aborted : (t : rms.UnitsState) (us : Slots) → t ≡ rms.without_place (place_in b.token) own_at.unit.serial s → us ≡ (if own_at.unit.prepared then forgotten own_at.unit.serial log else log) → IfSome (calls.unit_of x was.begun) (λ (u : OpenUnit). seen t us ≡ aborted u was)
  gone_aborted t us spent slots =
      let now = ap (λ (z : rms.UnitsState). seen z log) spent ∙ seen_less ts s k.stand k.places x i b k.found k.at own_at.unit.serial own_at.serial log ∙ ap (λ (y : Id). without_begun y (seen s log)) (sym own_at.serial) in
      let is : seen t us ≡ aborted own_at.unit (seen s log) = λ j. record (now j) { log = slots j } in
      subst (λ (z : UnitsState). IfSome (calls.unit_of x z.begun) (λ (u : OpenUnit). seen t us ≡ aborted u z)) k.view (subst (λ (o : Option OpenUnit). IfSome o (λ (u : OpenUnit). seen t us ≡ aborted u (seen s log))) (sym own_at.found) is)

-- by whether it is prepared
pub by_kind : {P : Type 0} (t : Bool) → (t ≡ true → P) → (t ≡ false → P) → P
by_kind true prepared active = prepared refl
by_kind false prepared active = active refl

-- the slots after an abort
pub slots_if : (t : Bool) (y : Id) (log us : Slots) → t ≡ true → us ≡ forgotten y log → us ≡ (if t then forgotten y log else log)
slots_if true y log us is slots = slots
slots_if false y log us is slots = let never : ⊥ = cc in absurd never

pub slots_else : (t : Bool) (y : Id) (log us : Slots) → t ≡ false → us ≡ log → us ≡ (if t then forgotten y log else log)
slots_else true y log us is slots = let never : ⊥ = cc in absurd never
slots_else false y log us is slots = slots
