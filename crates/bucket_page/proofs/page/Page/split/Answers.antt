use Rattle.std.proofs.Common.{◌≡◌, ℕ, List, Option, take, drop, sym, ap, ◌∙◌, subst}
use Rattle.frame_pool.specs.Pool.{IsOut}
use Rattle.frame_pool.proofs.OutFrames.{out_written}
use Rattle.bucket_page.specs.Frames.{bucket_in, slots_in, next_in}
use Rattle.bucket_page.specs.Pages.{next_of, Packs}
use Rattle.bucket_page.proofs.Orders.{ascend-take, ascend-drop}
use Rattle.bucket_page.proofs.Fronts.{held_as, bucket_put, frame_kept, plain_bucket_of}
use Rattle.bucket_page.proofs.page.Page.split.Goals as goal

pub returns-clause-low : goal.returns-clause-low
returns-clause-low c =
    let low = c.args.low.now in
    let size = c.args.size in
    let slots = slots_in c.args.kind c.args.pool.now low size in
    let stays : bucket_in c.write_frame.new.pool low size ≡ bucket_in c.split_low.new.pool low size =
    ap (λ (p : List (Option (List ℕ))). bucket_in p low size) c.write_frame.ensures ∙ ap (take size) (frame_kept c.split_low.new.pool c.args.high.now low c.split_low.new.high c.requires.apart) in
    plain_bucket_of c.args.kind size (take c.args.at slots) (next_in c.args.pool.now low size) (bucket_in c.write_frame.new.pool low size)
    (held_as c.args.kind size (take c.args.at slots) (next_in c.args.pool.now low size) (bucket_in c.split_low.new.pool low size) (bucket_in c.write_frame.new.pool low size) stays c.split_low.ensures.low)
    (ascend-take c.args.kind c.args.at slots c.requires.bucket.order) c.requires.not_cells c.requires.bucket.next

pub returns-clause-high : goal.returns-clause-high
returns-clause-high c =
    let high = c.args.high.now in
    let size = c.args.size in
    let slots = slots_in c.args.kind c.args.pool.now c.args.low.now size in
    let was : next_of (take size c.read_frame.new.bytes) ≡ next_in c.args.pool.now high size = ap (λ b. next_of (take size b)) c.read_frame.ensures.bytes in
    let out : IsOut c.split_low.new.pool high =
    let P : List (Option (List ℕ)) → Type 0 = λ p. IsOut p high in
    subst P (sym c.split_low.ensures.rest) (out_written c.args.pool.now c.args.low.now high _ c.requires.high_out) in
    let now : bucket_in c.write_frame.new.pool high size ≡ take size c.split_low.new.high =
    ap (λ (p : List (Option (List ℕ))). bucket_in p high size) c.write_frame.ensures ∙ bucket_put c.split_low.new.pool high size c.split_low.new.high out in
    let P : ℕ → Type 0 = λ n. Packs c.args.kind size (drop c.args.at slots) n (bucket_in c.write_frame.new.pool high size) in
    plain_bucket_of c.args.kind size (drop c.args.at slots) (next_in c.args.pool.now high size) (bucket_in c.write_frame.new.pool high size)
    (subst P was (held_as c.args.kind size (drop c.args.at slots) (next_of (take size c.read_frame.new.bytes)) (take size c.split_low.new.high) (bucket_in c.write_frame.new.pool high size) now c.split_low.ensures.high))
    (ascend-drop c.args.kind c.args.at slots c.requires.bucket.order) c.requires.not_cells c.requires.empty.bucket.next
