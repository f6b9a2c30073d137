use Rattle.std.proofs.Common.{◌≡◌, List, ℕ, Bool, Option, true, false, Some, None, ap, ◌∙◌, arith}
use Rattle.indexed_file.specs.change_set.Buckets.{frame_of}
use Rattle.indexed_file.proofs.change_set.Frames.{frame_is}
use Rattle.indexed_file.specs.Places.{Decides}
use Rattle.indexed_file.specs.Raws.{slots_at}
use Rattle.indexed_tree.proofs.ReadLaws.{leaf_read, decided}
use Rattle.indexed_tree.proofs.read.read_leaf.Goals as goal

some_is : (o : Option Bool) (x y : Bool) → o ≡ Some x → x ≡ y → o ≡ Some y
some_is o x y at same = at ∙ ap Some same

pub returns-in-Some-clause-found : goal.returns-in-Some-clause-found
returns-in-Some-clause-found g c = λ is.
    let h = c.args.head.now in
    let f = c.args.frame.now in
    let s = c.load_index.new.store in
    decided c.args.store.now.current h c.args.n c.args.key.now (Some c.read_slot-found.new.out)
    (leaf_read c.args.store.now.current h c.args.n _ (frame_of s.pool f) c.bytes.result.now (λ (x : List ℕ). Decides c.args.key.now (slots_at h x) (Some c.read_slot-found.new.out))
    (frame_is c.pool.result.now s.pool f c.bytes.result.now c.pool.ensures.value c.bytes.ensures.value) (omega arith) (omega (arith, c.bytes.ensures.size, c.requires.placed.blocks))
    c.in_ok-load_index.ensures.read (c.read_slot-found.ensures.some (some_is c.read_slot-found.result.0 c.in-Some.there true c.in-Some.is is)))

pub returns-in-Some-clause-absent : goal.returns-in-Some-clause-absent
returns-in-Some-clause-absent g c = λ is.
    let h = c.args.head.now in
    let f = c.args.frame.now in
    let s = c.load_index.new.store in
    decided c.args.store.now.current h c.args.n c.args.key.now None
    (leaf_read c.args.store.now.current h c.args.n _ (frame_of s.pool f) c.bytes.result.now (λ (x : List ℕ). Decides c.args.key.now (slots_at h x) None)
    (frame_is c.pool.result.now s.pool f c.bytes.result.now c.pool.ensures.value c.bytes.ensures.value) (omega arith) (omega (arith, c.bytes.ensures.size, c.requires.placed.blocks))
    c.in_ok-load_index.ensures.read (c.read_slot-found.ensures.none (some_is c.read_slot-found.result.0 c.in-Some.there false c.in-Some.is is)))
