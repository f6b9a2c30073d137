-- A log has as many slots after each act.
use Rattle.std.proofs.Common.{◌≡◌, suc, List, [], ◌∷◌, length, Bool, true, false, Some, None, if◌then◌else◌, refl, ◌∙◌, ap}
use Rattle.vms_model.specs.Ids.{Id}
use Rattle.run_model.specs.commit_protocol.Messages.{LogRecord, same_id}
use Rattle.run_model.specs.commit_protocol.Table.{Act, Acknowledges, Prepares, Releases, Settles, prepared_record}
use Rattle.run_model.specs.commit_protocol.Effects.{Effect, KeepEffect, ForgetEffect, acknowledge_effects, release_effects}
use Rattle.run_model.specs.log_laws.Slots.{Slots, filled, forgotten, has_slot, put_in, record_effect_in, record_effects_in, replaced, slots_after}

length_replaced : (r : LogRecord) (ss : Slots) → length (replaced r ss) ≡ length ss
length_replaced r [] = refl
length_replaced r (None ∷ ss) = ap suc (length_replaced r ss)
length_replaced r (Some q ∷ ss) = go (same_id q.serial r.serial) (length_replaced r ss)
  where
    go : (b : Bool) → length (replaced r ss) ≡ length ss → length (if b then Some r ∷ ss else Some q ∷ replaced r ss) ≡ suc (length ss)
    go true more = refl
    go false more = ap suc more

length_filled : (r : LogRecord) (ss : Slots) → length (filled r ss) ≡ length ss
length_filled r [] = refl
length_filled r (None ∷ ss) = refl
length_filled r (Some q ∷ ss) = ap suc (length_filled r ss)

length_put : (r : LogRecord) (ss : Slots) → length (put_in r ss) ≡ length ss
length_put r ss = go (has_slot r.serial ss)
  where
    go : (b : Bool) → length (if b then replaced r ss else filled r ss) ≡ length ss
    go true = length_replaced r ss
    go false = length_filled r ss

length_forgotten : (s : Id) (ss : Slots) → length (forgotten s ss) ≡ length ss
length_forgotten s [] = refl
length_forgotten s (None ∷ ss) = ap suc (length_forgotten s ss)
length_forgotten s (Some q ∷ ss) = go (same_id q.serial s) (length_forgotten s ss)
  where
    go : (b : Bool) → length (forgotten s ss) ≡ length ss → length (if b then None ∷ ss else Some q ∷ forgotten s ss) ≡ suc (length ss)
    go true more = refl
    go false more = ap suc more

length_effect : (e : Effect) (ss : Slots) → length (record_effect_in e ss) ≡ length ss
length_effect (KeepEffect r) ss = length_put r ss
length_effect (ForgetEffect s) ss = length_forgotten s ss
length_effect _ ss = refl

length_effects : (es : List Effect) (ss : Slots) → length (record_effects_in es ss) ≡ length ss
length_effects [] ss = refl
length_effects (e ∷ es) ss = length_effects es (record_effect_in e ss) ∙ length_effect e ss

pub length_slots : (a : Act) (rs : List LogRecord) (ss : Slots) → length (slots_after a rs ss) ≡ length ss
length_slots (Prepares b) rs ss = length_put (prepared_record b) ss
length_slots (Settles k o reason None) rs ss = length_forgotten k.serial ss
length_slots (Settles k o reason (Some r)) rs ss = length_put r ss
length_slots (Acknowledges k) rs ss = length_effects (acknowledge_effects k rs) ss
length_slots (Releases s x) rs ss = length_effects (release_effects s x rs) ss
length_slots _ rs ss = refl
