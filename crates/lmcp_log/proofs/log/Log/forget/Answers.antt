use Rattle.std.specs.Prelude.{IsErr}
use Rattle.std.proofs.Common.{◌≡◌, false, List, Option, None, set, sym, subst, ◌∙◌, ap, refl, map, arith}
use Rattle.std.proofs.lemmas.List.{map-set}
use Rattle.vms_base.specs.Ids.{serial_of}
use Rattle.vms_base.specs.declared.protocol.LogRec.{LogRec}
use Rattle.log_laws.specs.Slots.{Slots, has_slot}
use Rattle.lmcp_log.specs.Slot.{free_block}
use Rattle.lmcp_log.specs.Log.{slot_of, is_of, IsFirst}
use Rattle.lmcp_log.proofs.Apart.{freed_distinct}
use Rattle.lmcp_log.proofs.Keepings.{told_keeps, none_in_zeros}
use Rattle.lmcp_log.proofs.SlotLemmas.{clash, first_forgotten, none_forgotten}
use Rattle.lmcp_log.proofs.Stores.{ok_so, staged}
use Rattle.lmcp_log.proofs.log.Log.forget.Goals as goal

pub returns-in-Some-clause-slots : goal.returns-in-Some-clause-slots
returns-in-Some-clause-slots g c =
    let s = serial_of c.args.serial in
    let place = c.in-Some.place in
    let items : List (Option LogRec) = c.self.inside.slots.items in
    let E : map slot_of c.deref.result.now ≡ c.args.self.now = ap (map slot_of) c.deref.ensures.value ∙ c.self.view_is in
    let P : Slots → Type 0 = λ ss. IsFirst (is_of s) ss place in
    map-set slot_of items place None ∙ (ap (λ (ss : Slots). set ss place None) c.self.view_is ∙ sym (first_forgotten s c.args.self.now place (subst P E c.in-Some.ensures.found)).1)

pub returns-in-Some-clause-staged : goal.returns-in-Some-clause-staged
returns-in-Some-clause-staged g c = λ h.
    let s = serial_of c.args.serial in
    let place = c.in-Some.place in
    let items : List (Option LogRec) = c.self.inside.slots.items in
    let E : map slot_of c.deref.result.now ≡ c.args.self.now = ap (map slot_of) c.deref.ensures.value ∙ c.self.view_is in
    let P : Slots → Type 0 = λ ss. IsFirst (is_of s) ss place in
    let first : IsFirst (is_of s) c.args.self.now place = subst P E c.in-Some.ensures.found in
    let not_full : IsErr c.stage.result → ⊥ = λ err. let full = c.stage.ensures.full err in let few = c.requires.room in omega (arith, full.0, few) in
    let t = staged c.args.store.now c.stage.new.self place free_block free_block refl (ok_so c.stage.result c.stage.ensures.ok not_full) in
    record {
      place = place;
      within = first.within;
      slots = map-set slot_of items place None ∙ ap (λ (ss : Slots). set ss place None) c.self.view_is;
      current = t.current;
      touched = t.touched;
      rest = t.rest;
      disk = t.disk;
    }

pub returns-in-Some-clause-nothing : goal.returns-in-Some-clause-nothing
returns-in-Some-clause-nothing g c = λ h.
    let s = serial_of c.args.serial in
    let E : map slot_of c.deref.result.now ≡ c.args.self.now = ap (map slot_of) c.deref.ensures.value ∙ c.self.view_is in
    absurd (clash (sym (first_forgotten s (map slot_of c.deref.result.now) c.in-Some.place c.in-Some.ensures.found).0 ∙ (ap (has_slot s) E ∙ h)))

pub returns-in_default-clause-slots : goal.returns-in_default-clause-slots
returns-in_default-clause-slots g c =
    let s = serial_of c.args.serial in
    let E : map slot_of c.deref.result.now ≡ c.args.self.now = ap (map slot_of) c.deref.ensures.value ∙ c.self.view_is in
    let P : Slots → Type 0 = λ ss. has_slot s ss ≡ false in
    sym (none_forgotten s c.args.self.now (subst P E c.in_default.ensures.none)).0

pub returns-in-Some-clause-keeps : goal.returns-in-Some-clause-keeps
returns-in-Some-clause-keeps g c =
    let s = serial_of c.args.serial in
    let place = c.in-Some.place in
    let items : List (Option LogRec) = c.self.inside.slots.items in
    let E : map slot_of c.deref.result.now ≡ c.args.self.now = ap (map slot_of) c.deref.ensures.value ∙ c.self.view_is in
    let P : Slots → Type 0 = λ ss. IsFirst (is_of s) ss place in
    let first : IsFirst (is_of s) c.args.self.now place = subst P E c.in-Some.ensures.found in
    let not_full : IsErr c.stage.result → ⊥ = λ err. let full = c.stage.ensures.full err in let few = c.requires.room in omega (arith, full.0, few) in
    let t = staged c.args.store.now c.stage.new.self place free_block free_block refl (ok_so c.stage.result c.stage.ensures.ok not_full) in
    let slots : map slot_of (set items place None) ≡ set c.args.self.now place None = map-set slot_of items place None ∙ ap (λ (ss : Slots). set ss place None) c.self.view_is in
    let fits = c.requires.size in
    let same = t.disk.size in
    told_keeps c.args.store.now.current c.stage.new.self.current c.args.self.now (map slot_of (set items place None)) c.stage.new.self.disk.size place None t.current slots first.within (omega (arith, fits, same)) c.stage.ensures.whole none_in_zeros
    (freed_distinct c.args.self.now place)
