use Rattle.std.proofs.Common.{◌≡◌, ◌≤◌, ◌^◌, ◌||◌, Bool, false, length, Some, is_some, map, position, slice_get, ap, refl, sym, ◌∙◌, arith}
use Rattle.std.proofs.lemmas.List.{length-map}
use Rattle.std.specs.List.{list_any}
use Rattle.std.specs.Vec.{with_item}
use Rattle.table_keys.specs.Places.{same_place}
use Rattle.unit_entries.specs.declared.keys.ChangedKey.{ChangedKey}
use Rattle.unit_entries.specs.Keys.{keys_after}
use Rattle.unit_entries.specs.Rows.{key_said, place_said, IsPlace}
use Rattle.unit_entries.proofs.RowLemmas.{found, not_there, here_at, indexed, all_at, changed_at, added, kept_changed, kept_added}
use Rattle.unit_entries.proofs.keys.ChangedKeys.note.Goals as goal
use Rattle.unit_entries.proofs.keys.ChangedKeys.note.Goals.{then-known, else-known}

is_place : (c : goal.After-self-1) → IsPlace c.args.key c.self.inside.keys.items c.in-Some.i
is_place c = found c.args.key c.self.inside.keys.items c.in-Some.i (sym c.in-Some.is ∙ c.find.ensures.place ∙ ap (position (same_place (place_said c.args.key))) c.self.invariant.alike)

known_at : (c : goal.After-self-1) → slice_get c.self.inside.keys.items c.in-Some.i ≡ Some c.index-known.result.now
known_at c = indexed c.self.inside.keys.items c.in-Some.i c.index-known.result.now (is_place c).within c.index-known.ensures

changed : (c : goal.After-self-1) → ChangedKey
changed c = record c.index-known.result.now { absent = c.if-known.known }

pub invariant_of-self : goal.invariant_of-self
unfolding changed
invariant_of-self c =
    let keys = c.self.inside.keys in
    let known = c.index-known.result.now in
    kept_changed keys (with_item keys c.in-Some.i (changed c)) c.self.inside.places (changed c) c.in-Some.i known c.self.invariant (known_at c) refl
    (all_at (λ (k : ChangedKey). k.first ≤ 2 ^ 62) keys.items c.in-Some.i known (known_at c) c.self.invariant.low) refl (omega arith)

pub returns-after-known-clause-keys : goal.returns-after-known-clause-keys
unfolding changed
returns-after-known-clause-keys c =
    let keys = c.self.inside.keys in
    let known = c.index-known.result.now in
    let is = is_place c in
    let at = known_at c in
    let absent : c.if-known.known ≡ (known.absent || c.args.key.absent) = elim c.if-known.branch [
      | then-known w ↦ w.known-is ∙ w.if-known.true ∙ ap (λ (b : Bool). b || c.args.key.absent) (sym w.if-known.true)
      | else-known w ↦ w.known-is ∙ ap (λ (b : Bool). b || c.args.key.absent) (sym w.if-known.false)
    ] in
    changed_at (key_said c.args.key) (changed c) keys.items c.in-Some.i known at is.before (here_at c.args.key keys.items c.in-Some.i known is at) (ap (λ (b : Bool). record (key_said known) { absent = b }) absent)
    ∙ ap (keys_after (key_said c.args.key)) c.self.view_is

none_there : (c : goal.After-push_reserved) → list_any (same_place (place_said c.args.key)) c.self.inside.places.keys ≡ false
none_there c = sym c.find.ensures.found ∙ ap is_some c.in-None.is

pub invariant_of-self-in-None : goal.invariant_of-self-in-None
invariant_of-self-in-None c =
    let keys = c.self.inside.keys in
    let long = ap length c.self.view_is in
    let same = length-map keys.items key_said in
    let room = c.requires.room in
    let wide = c.push_reserved.ensures.capacity in
    kept_added keys c.push_reserved.new.self c.self.inside.places c.put.new.places c.args.key c.self.invariant (omega (arith, long, same, room)) c.requires.low (none_there c) c.push_reserved.ensures.items (omega (arith, wide))
    c.put.ensures.keys c.put.ensures.room

pub returns-in-None-clause-keys : goal.returns-in-None-clause-keys
returns-in-None-clause-keys c =
    let ks = c.self.inside.keys.items in
    let none = sym (ap (list_any (same_place (place_said c.args.key))) c.self.invariant.alike) ∙ none_there c in
    ap (map key_said) c.push_reserved.ensures.items ∙ added c.args.key ks (not_there c.args.key ks none) ∙ ap (keys_after (key_said c.args.key)) c.self.view_is
