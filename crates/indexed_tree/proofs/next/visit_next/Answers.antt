use Rattle.std.proofs.Common.{◌≡◌, List, ℕ, None, arith}
use Rattle.std.specs.Option.{option_copied}
use Rattle.indexed_file.specs.change_set.Buckets.{frame_of}
use Rattle.indexed_file.proofs.change_set.Frames.{frame_is}
use Rattle.indexed_file.specs.Behind.{first_behind, IsFound}
use Rattle.indexed_file.specs.Raws.{slots_at}
use Rattle.indexed_file.proofs.NextLaws.{if_some_then, if_none_then}
use Rattle.indexed_file.proofs.ReadLaws.{read_stands}
use Rattle.indexed_tree.proofs.ReadLaws.{leaf_read}
use Rattle.indexed_tree.proofs.next.visit_next.Goals as goal

pub returns-clause-found : goal.returns-clause-found
returns-clause-found g c =
    let h = c.args.head.now in
    let f = c.args.frame.now in
    let s = c.load_index.new.store in
    if_some_then c.next_in_leaf-found.result _ _
    (λ k fact. leaf_read c.args.store.now.current h c.args.n _ (frame_of s.pool f) c.bytes.result.now (λ (x : List ℕ). IsFound (first_behind (option_copied c.args.after) (slots_at h x)) k c.next_in_leaf-found.new.out)
    (frame_is c.pool.result.now s.pool f c.bytes.result.now c.pool.ensures.value c.bytes.ensures.value) (omega arith) (omega (arith, c.bytes.ensures.size, c.requires.placed.blocks))
    c.in_ok-load_index.ensures.read fact)
    c.next_in_leaf-found.ensures.some

pub returns-clause-none : goal.returns-clause-none
returns-clause-none g c =
    let h = c.args.head.now in
    let f = c.args.frame.now in
    let s = c.load_index.new.store in
    if_none_then c.next_in_leaf-found.result _ _
    (λ fact. leaf_read c.args.store.now.current h c.args.n _ (frame_of s.pool f) c.bytes.result.now (λ (x : List ℕ). first_behind (option_copied c.args.after) (slots_at h x) ≡ None)
    (frame_is c.pool.result.now s.pool f c.bytes.result.now c.pool.ensures.value c.bytes.ensures.value) (omega arith) (omega (arith, c.bytes.ensures.size, c.requires.placed.blocks))
    c.in_ok-load_index.ensures.read fact)
    c.next_in_leaf-found.ensures.none

pub returns-clause-stands : goal.returns-clause-stands
returns-clause-stands g c =
    let f = c.args.frame.now in
    let s = c.load_index.new.store in
    if_some_then c.next_in_leaf-found.result _ _
    (λ k fact. read_stands c.args.store.now.current c.args.head.now k c.args.n _ (frame_of s.pool f) c.bytes.result.now _
    (frame_is c.pool.result.now s.pool f c.bytes.result.now c.pool.ensures.value c.bytes.ensures.value) (omega arith) c.requires.there (omega (arith, c.bytes.ensures.size, c.requires.placed.blocks))
    c.in_ok-load_index.ensures.read fact)
    c.next_in_leaf-found.ensures.stands
