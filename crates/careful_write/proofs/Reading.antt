-- What reads leave of a store: a relation of its own, and what holds of a store whatever it tells of reads.
use Rattle.std.proofs.Common.{◌≡◌, ◌∙◌, ◌≤◌, ◌+◌, ◌*◌, ℕ, refl, sym, ap, subst, arith}
use Rattle.std.proofs.lemmas.Nat.{mul-le}
use Rattle.careful_write.specs.Reads.{SameButReads, as_read_by}
use Rattle.careful_write.specs.State.{StoreState, IsIdle, IsReady, raised}

pub same_self : (s : StoreState) → SameButReads s s
same_self s = refl

-- where the stores are the same, they are so but for reads
pub same_so : (s t : StoreState) → t ≡ s → SameButReads s t
same_so s t same = λ i. record (same i) { reads = t.reads }

-- one that is the same with some count of reads is the same but for reads
pub same_as : (t s : StoreState) (n : ℕ) → t ≡ record s { reads = n } → SameButReads s t
same_as t s n is = is ∙ (λ i. record s { reads = sym (ap (λ (x : StoreState). x.reads) is) i })

-- and where as much was read, it is the same
pub same_all : (s t : StoreState) → SameButReads s t → t.reads ≡ s.reads → t ≡ s
same_all s t same reads = same ∙ (λ i. record s { reads = reads i })

-- one relation after the other
pub same_on : (s t u : StoreState) → SameButReads s t → SameButReads t u → SameButReads s u
same_on s t u first second = second ∙ (λ i. as_read_by u (first i))

-- the other way round
pub same_back : (s t : StoreState) → SameButReads s t → SameButReads t s
same_back s t same = λ i. as_read_by s (sym same i)

-- a store that may take a group may do so whatever was read
pub ready_read : (old new : StoreState) → SameButReads old new → IsReady old → IsReady new
ready_read old new same ready = subst IsReady (sym same) (record { fitting = ready.fitting; settled = ready.settled; closed = ready.closed })

-- a store between two groups is so whatever was read
pub idle_read : (old new : StoreState) → SameButReads old new → IsIdle old → IsIdle new
idle_read old new same idle = subst IsIdle (sym same) (record {
  ready = record { fitting = idle.ready.fitting; settled = idle.ready.settled; closed = idle.ready.closed };
  unstaged = idle.unstaged;
  current = idle.current;
})

-- How many reads there are.

-- one read counts one at most
pub raised_most : (n : ℕ) → raised n ≤ n + 1
raised_most n = omega (arith)

-- a bucket more
pub more_read : (i bucket before was now : ℕ) → was ≤ before + i * bucket → now ≤ was + bucket → now ≤ before + (i + 1) * bucket
more_read i bucket before was now first step = let sum : (i + 1) * bucket ≡ i * bucket + bucket = omega arith in omega (arith, sum, first, step)

-- no more than all buckets
pub all_read : (i buckets bucket before now : ℕ) → i ≤ buckets → now ≤ before + i * bucket → now ≤ before + buckets * bucket
all_read i buckets bucket before now le read = let most : i * bucket ≤ buckets * bucket = mul-le i bucket buckets bucket le (omega arith) in omega (arith, most, read)
