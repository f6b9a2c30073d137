use Rattle.std.proofs.Common.{◌≤◌, ◌*◌, ℕ, List, Result, Ok, Err, OnOk, refl, ap, sym, ◌∙◌, arith}
use Rattle.std.proofs.lemmas.Nat.{mul-le}
use Rattle.std.specs.Option.{option_copied}
use Rattle.careful_write.specs.State.{StoreState}
use Rattle.careful_write.proofs.Reading.{same_so}
use Rattle.vms_base.specs.vms_model.Keys.{Text}
use Rattle.indexed_file.specs.change_set.Buckets.{frame_of, with_frame}
use Rattle.indexed_file.proofs.change_set.Frames.{with_frame_own}
use Rattle.indexed_file.specs.Sets.{SetsBytes}
use Rattle.indexed_file.proofs.ThroughLaws.{sets_bytes}
use Rattle.index_blocks.proofs.StageLaws.{told_same}
use Rattle.indexed_tree.proofs.MapLaws.{taken, not_taken}
use Rattle.indexed_tree.proofs.set.set_loaded.Goals as goal

on_ok_then : {T E A B : Type 0} (r : Result T E) → (A → B) → OnOk r A → OnOk r B
on_ok_then (Ok x) f a = f a
on_ok_then (Err e) f a = tt

pub returns-then-not-may_part-clause-sets : goal.returns-then-not-may_part-clause-sets
returns-then-not-may_part-clause-sets g c =
    let h = c.args.head.now in
    let s0 = c.args.store.now in
    let held = λ (t : List ℕ). g.H.Held.held c.args.held.now (Text t) in
    let added = c.set_in_leaf-added.result in
    let low = c.set_in_leaf-added.new.low in
    let mid = c.set_in_leaf-added.new.mid in
    let high = c.set_in_leaf-added.new.high in
    let frame = frame_of s0.pool c.args.frame.now in
    let product : h.alloc * 1 ≤ h.alloc * h.bucket = mul-le h.alloc 1 h.alloc h.bucket (omega arith) c.requires.placed.one in
    let sets : SetsBytes h held c.args.key.now (option_copied c.args.value) frame added low mid high =
    sets_bytes h held c.args.key.now (option_copied c.args.value) _ frame c.read_frame.new.bytes added low mid high (omega arith) c.read_frame.ensures.bytes c.set_in_leaf-added.ensures.sets in
    not_taken s0.current _ h s0.disk held c.args.key.now (option_copied c.args.value) c.args.path.now c.args.n added frame low mid high c.requires.form c.requires.keys c.requires.placed (omega (arith, product, c.requires.placed.to, c.requires.placed.fits)) c.requires.suits sets
    (omega (arith, c.if-added-gt0.true)) (c.if-not-may_part.ensures.none refl)

pub returns-then-not-may_part-clause-rest : goal.returns-then-not-may_part-clause-rest
returns-then-not-may_part-clause-rest g c =
    let f = c.args.frame.now in
    let s0 = c.args.store.now in
    let s1 = c.read_frame.new.store in
    let same = c.read_frame.ensures.same in
    same_so _ s1 (same ∙ with_frame_own f s0 c.requires.out ∙ (λ i. with_frame f (frame_of (sym same i).pool f) (record s0 { current = (sym same i).current; touched = (sym same i).touched })))

pub returns-clause-sets : goal.returns-clause-sets
returns-clause-sets g c =
    let h = c.args.head.now in
    let s0 = c.args.store.now in
    let s1 = c.read_frame.new.store in
    let held = λ (t : List ℕ). g.H.Held.held c.args.held.now (Text t) in
    let added = c.set_in_leaf-added.result in
    let low = c.set_in_leaf-added.new.low in
    let mid = c.set_in_leaf-added.new.mid in
    let high = c.set_in_leaf-added.new.high in
    let frame = frame_of s0.pool c.args.frame.now in
    let sets : SetsBytes h held c.args.key.now (option_copied c.args.value) frame added low mid high =
    sets_bytes h held c.args.key.now (option_copied c.args.value) _ frame c.read_frame.new.bytes added low mid high (omega arith) c.read_frame.ensures.bytes c.set_in_leaf-added.ensures.sets in
    on_ok_then c.put_leaf.result
    (λ puts. taken s0.current c.put_leaf.new.store.current h c.put_leaf.new.head s0.disk held c.args.key.now (option_copied c.args.value) c.args.path.now c.args.n added frame low mid high c.requires.form c.requires.placed c.requires.suits sets
    (told_same _ _ _ (ap (λ (s : StoreState). s.current) c.read_frame.ensures.same) puts))
    c.put_leaf.ensures.sets
