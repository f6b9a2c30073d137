use Rattle.std.proofs.Common.{◌≡◌, ◌<◌, List, Option, None, length, sym, ◌∙◌, ap, subst, map, arith}
use Rattle.std.proofs.lemmas.List.{get_or-map}
use Rattle.vms_base.specs.Ids.{serial_of}
use Rattle.vms_base.specs.declared.protocol.LogRec.{LogRec}
use Rattle.lmcp_log.specs.Log.{slot_of, is_of, record_with, IsFirst}
use Rattle.lmcp_log.proofs.Fields.{length_mapped}
use Rattle.lmcp_log.proofs.SlotLemmas.{first_forgotten, none_forgotten}
use Rattle.lmcp_log.proofs.log.Log.find.Goals as goal

pub returns-in-Some : goal.returns-in-Some
returns-in-Some c =
    let s = serial_of c.args.serial in
    let i = c.in-Some.i in
    let items : List (Option LogRec) = c.self.inside.slots.items in
    let first : IsFirst (is_of s) (map slot_of items) i = (let P : List (Option LogRec) → Type 0 = λ xs. IsFirst (is_of s) (map slot_of xs) i in subst P c.deref.ensures.value c.in-Some.ensures.found) in
    let lt : i < length items = let n = length_mapped slot_of items in let w = first.within in omega (arith, n, w) in
    ap slot_of (c.as_ref.ensures.value ∙ c.index.ensures)
    ∙ (sym (get_or-map slot_of items i c.index.result.now None lt) ∙ (sym (first_forgotten s (map slot_of items) i first).2 ∙ ap (record_with s) c.self.view_is))

pub returns-in-None : goal.returns-in-None
returns-in-None c =
    let s = serial_of c.args.serial in
    let E : map slot_of c.deref.result.now ≡ c.args.self.now = ap (map slot_of) c.deref.ensures.value ∙ c.self.view_is in
    sym (none_forgotten s (map slot_of c.deref.result.now) c.in-None.ensures.none).1 ∙ ap (record_with s) E
