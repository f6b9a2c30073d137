use Rattle.std.proofs.Common.{◌≡◌, ◌+◌, ◌-◌, ◌/◌, ◌++◌, ℕ, true, List, length, IfSome}
use Rattle.block_disk.specs.Blocks.{AllWhole, block_at, has_number, numbers_of, ascends}
use Rattle.careful_write.specs.Content.{intents, intents_from}
use Rattle.careful_write.specs.State.{InHome}
use Rattle.careful_write.specs.Load.{next_after}
use Rattle.careful_write.proofs.load.load_entries.Given as goal

abbrev pub invariant-loop-i : goal.invariant-loop-i
invariant-loop-i g l =
    let state = g.D.Disk.state in
    record {
      state_is : state l.disk ≡ state l.fn.disk;
      so_far : IfSome (state l.fn.disk).seen (λ (b : List (List ℕ)). intents b ≡ l.group.entries ++ intents_from b l.i (l.count - l.i));
      index_at : IfSome (state l.fn.disk).seen (λ (b : List (List ℕ)). l.index ≡ block_at b (1 + l.i / 128));
      up : ascends 518 l.group.entries ≡ true;
      low_is : l.low ≡ next_after 518 l.group.entries;
      long : length l.group.entries ≡ l.i;
      room : l.group.room ≡ 513;
      whole : AllWhole l.group.entries;
      in_home : (n : ℕ) → has_number n (numbers_of l.group.entries) ≡ true → InHome (state l.fn.disk) n;
    }
