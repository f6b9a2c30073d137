use Rattle.std.proofs.Common.{◌≡◌, ◌⊎◌, inl, inr, ◌<◌, ◌≤◌, ◌+◌, ◌-◌, ◌/◌, ◌++◌, ◌∷◌, [], List, ℕ, length, IfSome, refl, sym, ◌∙◌, ap, subst, arith, length-append}
use Rattle.block_disk.specs.Disk.{DiskState}
use Rattle.block_disk.specs.Blocks.{Table, ascends, block_at}
use Rattle.block_disk.proofs.Laid.{whole-upsert}
use Rattle.careful_write.specs.Content.{index_word, intents, intents_from}
use Rattle.careful_write.specs.State.{InHome}
use Rattle.careful_write.specs.Load.{next_after}
use Rattle.careful_write.proofs.Home.{each-upsert, whole_count}
use Rattle.careful_write.proofs.Loading.{next_above, upsert_last, next_after-last, ascends-last, told_more, told_misfit, told_fit}
use Rattle.careful_write.proofs.load.load_entries.Goals as goal
use Rattle.careful_write.proofs.load.load_entries.Goals.{then-n-low-via-then-n-low, then-n-low-via-else-n-low+then-n-size}

pub next_word-requires-clause-before : goal.next_word-requires-clause-before
next_word-requires-clause-before g c =
    let before : c.loop-i.i ≡ c.loop-i.i + 1 - 1 = omega arith in
    subst (λ (k : ℕ). IfSome (g.D.Disk.state c.loop-i.disk).seen (λ (b : List (List ℕ)). c.loop-i.index ≡ block_at b (1 + k / 128))) before
    (subst (λ (s : DiskState). IfSome s.seen (λ (b : List (List ℕ)). c.loop-i.index ≡ block_at b (1 + c.loop-i.i / 128))) (sym c.loop-i.invariant.state_is) c.loop-i.invariant.index_at)

pub returns-then-n-low-clause-loads : goal.returns-then-n-low-clause-loads
returns-then-n-low-clause-loads g c =
    let s0 = g.D.Disk.state c.args.disk.now in
    let es = c.loop-i.group.entries in
    let number = subst (λ (s : DiskState). IfSome s.seen (λ (b : List (List ℕ)). c.in_ok-n.n ≡ index_word b (c.loop-i.i + 1))) c.loop-i.invariant.state_is c.in_ok-n.ensures.word in
    let bad : (c.in_ok-n.n < next_after 518 es) ⊎ (s0.size ≤ c.in_ok-n.n) = elim c.then-n-low.branch [
      | then-n-low-via-then-n-low w ↦ inl (omega (arith, w.if-n-low.true, c.loop-i.invariant.low_is))
      | then-n-low-via-else-n-low+then-n-size w ↦ inr (omega (arith, w.if-n-size.true, c.blocks-size.ensures))
    ] in
    told_misfit s0.size c.args.count c.loop-i.i c.in_ok-n.n es s0.seen (omega arith) (whole_count s0.seen refl (g.met.D.Disk.whole c.args.disk.now)) number c.loop-i.invariant.so_far bad es

pub loop-i-preserved : goal.loop-i-preserved
loop-i-preserved g c =
    let s0 = g.D.Disk.state c.args.disk.now in
    let es = c.loop-i.group.entries in
    let n = c.in_ok-n.n in
    let bytes = c.read.new.out in
    let same = c.in_ok-n.ensures.state ∙ c.loop-i.invariant.state_is in
    let number = subst (λ (s : DiskState). IfSome s.seen (λ (b : List (List ℕ)). n ≡ index_word b (c.loop-i.i + 1))) c.loop-i.invariant.state_is c.in_ok-n.ensures.word in
    let read = subst (λ (s : DiskState). IfSome s.seen (λ (b : List (List ℕ)). bytes ≡ block_at b (6 + c.loop-i.i))) same c.in_ok-read.ensures.read in
    let above : next_after 518 es ≤ n = omega (arith, c.if-n-low.false, c.loop-i.invariant.low_is) in
    let entries : c.put.new.self.entries ≡ es ++ (n, bytes) ∷ [] = ap (λ (t : Table). t.entries) c.put.ensures ∙ upsert_last 518 n bytes es c.loop-i.invariant.up above in
    record {
      state_is = c.in_ok-read.ensures.state ∙ same;
      so_far = subst (λ (l : List (ℕ × List ℕ)). IfSome s0.seen (λ (b : List (List ℕ)). intents b ≡ l ++ intents_from b (c.loop-i.i + 1) (c.args.count - (c.loop-i.i + 1)))) (sym entries)
          (told_more c.args.count c.loop-i.i n bytes es s0.seen (omega arith) number read c.loop-i.invariant.so_far);
      index_at = subst (λ (s : DiskState). IfSome s.seen (λ (b : List (List ℕ)). c.next_word.new.index ≡ block_at b (1 + (c.loop-i.i + 1) / 128))) c.loop-i.invariant.state_is c.in_ok-n.ensures.here;
      up = ap (ascends 518) entries ∙ ascends-last 518 n bytes es c.loop-i.invariant.up above;
      low_is = sym (ap (next_after 518) entries ∙ next_after-last 518 n bytes es);
      long = omega (arith, ap length entries, length-append es ((n, bytes) ∷ []), c.loop-i.invariant.long);
      room = ap (λ (t : Table). t.room) c.put.ensures ∙ c.loop-i.invariant.room;
      whole = rw c.put.ensures (whole-upsert n bytes es c.read.array_long c.loop-i.invariant.whole);
      in_home = rw c.put.ensures (each-upsert (InHome s0) n bytes es (omega (arith, above, next_above 518 es c.loop-i.invariant.up), omega (arith, c.if-n-size.false, c.blocks-size.ensures)) c.loop-i.invariant.in_home);
    }

pub returns-clause-loads : goal.returns-clause-loads
returns-clause-loads g c =
    let s0 = g.D.Disk.state c.args.disk.now in
    told_fit s0.size c.args.count c.loop-i.i c.loop-i.group.entries s0.seen (omega arith) c.loop-i.invariant.long (omega arith) (whole_count s0.seen refl (g.met.D.Disk.whole c.args.disk.now)) c.loop-i.invariant.up c.loop-i.invariant.in_home c.loop-i.invariant.so_far
