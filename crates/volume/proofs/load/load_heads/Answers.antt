use Rattle.std.proofs.Common.{◌≡◌, ◌≤◌, ◌<◌, ◌+◌, ◌-◌, ℕ, List, IfSome, length, subst, sym, ◌∙◌, arith, length-set}
use Rattle.careful_write.specs.block_disk.Blocks.{block_at}
use Rattle.careful_write.specs.State.{StoreState}
use Rattle.careful_write.proofs.Reading.{same_on}
use Rattle.volume.proofs.Entries.{heads_more_told, sound_more}
use Rattle.volume.proofs.load.load_heads.Goals as goal

pub loop-f-preserved : goal.loop-f-preserved
loop-f-preserved g c =
    let before = c.loop-f.invariant in
    let read : IfSome c.args.store.now.current (λ (b : List (List ℕ)). c.read.new.out ≡ block_at b (519 + c.loop-f.f - 518)) =
    subst (λ (s : StoreState). IfSome s.current (λ (b : List (List ℕ)). c.read.new.out ≡ block_at b (519 + c.loop-f.f - 518))) before.same c.in_ok-read.ensures.read in
    let within : c.loop-f.f < length c.loop-f.heads = omega arith in
    record {
      same = same_on c.args.store.now c.loop-f.store c.read.new.self before.same c.in_ok-read.ensures.state;
      count = length-set c.loop-f.heads c.loop-f.f c.in-Some.entry ∙ before.count;
      size = subst (λ (s : StoreState). 4096 ≤ s.disk.size) (sym c.in_ok-read.ensures.state) before.size;
      found = heads_more_told c.args.greatest.0 c.loop-f.heads c.loop-f.f c.args.store.now.current c.read.new.out c.in-Some.entry within before.found read c.in-Some.ensures.some;
      sound = sound_more c.args.greatest.0 c.loop-f.heads c.loop-f.f c.in-Some.entry within before.sound c.in-Some.ensures.some.fits c.in-Some.ensures.some.new;
    }

pub returns-in-None-clause-state : goal.returns-in-None-clause-state
returns-in-None-clause-state g c = same_on c.args.store.now c.loop-f.store c.read.new.self c.loop-f.invariant.same c.in_ok-read.ensures.state
