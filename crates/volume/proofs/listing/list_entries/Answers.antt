use Rattle.std.proofs.Common.{◌≡◌, ◌≤◌, ◌<◌, ◌+◌, ◌-◌, ℕ, List, IfSome, length, subst, sym, ◌∙◌, arith}
use Rattle.careful_write.specs.block_disk.Blocks.{block_at}
use Rattle.careful_write.specs.State.{StoreState}
use Rattle.careful_write.proofs.Reading.{same_on}
use Rattle.volume.proofs.Listed.{lists_taken, tried_taken, count_taken}
use Rattle.volume.proofs.listing.list_entries.Goals as goal

pub loop-f-preserved : goal.loop-f-preserved
loop-f-preserved g c =
    let before = c.loop-f.invariant in
    let read : IfSome c.args.store.now.current (λ (b : List (List ℕ)). c.read.new.out ≡ block_at b (519 + c.loop-f.f - 518)) =
    subst (λ (s : StoreState). IfSome s.current (λ (b : List (List ℕ)). c.read.new.out ≡ block_at b (519 + c.loop-f.f - 518))) before.same c.in_ok-read.ensures.read in
    let count = before.count in
    let within : c.loop-f.f < length c.loop-f.heads = omega arith in
    record {
      same = same_on c.args.store.now c.loop-f.store c.read.new.self before.same c.in_ok-read.ensures.state;
      count = count_taken c.args.greatest.0 c.loop-f.f c.read.new.out c.loop-f.heads c.take_entry.new.heads c.loop-f.out c.take_entry.new.out c.take_entry.ensures ∙ before.count;
      size = subst (λ (s : StoreState). 4096 ≤ s.disk.size) (sym c.in_ok-read.ensures.state) before.size;
      lists = lists_taken c.args.greatest.0 c.loop-f.heads c.take_entry.new.heads c.loop-f.f c.args.store.now.current c.read.new.out c.loop-f.out c.take_entry.new.out (omega arith) before.lists before.tried read c.take_entry.ensures;
      tried = tried_taken c.args.greatest.0 c.loop-f.heads c.take_entry.new.heads c.loop-f.f c.args.store.now.current c.read.new.out c.loop-f.out c.take_entry.new.out within before.tried read c.take_entry.ensures;
    }
