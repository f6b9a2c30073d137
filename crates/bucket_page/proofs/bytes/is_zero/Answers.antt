use Rattle.std.proofs.Common.{◌+◌, ◌-◌, length, arith}
use Rattle.std.proofs.lemmas.Bool.{both_ways, false≢true}
use Rattle.bucket_page.proofs.Zeros.{front_zeros, piece_zeros}
use Rattle.bucket_page.proofs.bytes.is_zero.Goals as goal

pub returns-then-not-are_zeros : goal.returns-then-not-are_zeros
returns-then-not-are_zeros c = (λ no. absurd (false≢true no), λ each. absurd (both_ways _ c.if-not-are_zeros.true (c.are_zeros.ensures.1 (piece_zeros c.loop-at.at _ c.args.bytes.now each))))

pub loop-at-preserved : goal.loop-at-preserved
loop-at-preserved c = record {
  within = omega (arith, c.loop-at-test.true);
  zero = front_zeros c.loop-at.at _ (c.loop-at.at + 512) c.args.bytes.now (omega arith) (omega (arith, c.loop-at-test.true)) c.loop-at.invariant.zero (c.are_zeros.ensures.0 c.if-not-are_zeros.false);
}

pub returns : goal.returns
returns c =
    let bytes = c.args.bytes.now in
    (λ i. front_zeros c.loop-at.at (length bytes - c.loop-at.at) (length bytes) bytes (omega arith) (omega arith) c.loop-at.invariant.zero (c.are_zeros-2.ensures.0 i), λ each. c.are_zeros-2.ensures.1 (piece_zeros c.loop-at.at (length bytes - c.loop-at.at) bytes each))
