use Rattle.std.proofs.Common.{replicate, sym}
use Rattle.frame_pool.specs.Pool.{IsOut}
use Rattle.frame_pool.proofs.OutFrames.{out_written, out_taken, out_kept}
use Rattle.disk_tests.proofs.frame_pool_tests.first_bytes.Goals as goal

pub bytes-requires : goal.bytes-requires
bytes-requires c =
    let first = c.in_ok-first.first in
    let taken : IsOut c.take.new.self first = rw c.in_ok-first.ensures.taken.1 (out_taken c.args.pool.now first c.in_ok-first.ensures.taken.0 c.in_ok-first.ensures.within) in
    let filled : IsOut c.fill.new.pool first = rw c.fill.ensures (out_written c.take.new.self first first (replicate 8192 1) taken) in
    let beside : IsOut c.take-2.new.self first = rw c.in-Some.ensures.taken.1 (out_written c.fill.new.pool c.in-Some.second first c.in-Some.ensures.taken.0 filled) in
    rw c.fill-2.ensures (out_written c.take-2.new.self c.in-Some.second first (replicate 8192 2) beside)

pub bytes-requires-2 : goal.bytes-requires-2
bytes-requires-2 c =
    let second = c.in-Some.second in
    let taken : IsOut c.take-2.new.self second = rw c.in-Some.ensures.taken.1 (out_taken c.fill.new.pool second c.in-Some.ensures.taken.0 c.in-Some.ensures.within) in
    rw c.fill-2.ensures (out_written c.take-2.new.self second second (replicate 8192 2) taken)

pub give-requires-3 : goal.give-requires-3
give-requires-3 c =
    let first = c.in_ok-first.first in
    let second = c.in-Some.second in
    let taken : IsOut c.take.new.self first = rw c.in_ok-first.ensures.taken.1 (out_taken c.args.pool.now first c.in_ok-first.ensures.taken.0 c.in_ok-first.ensures.within) in
    let filled : IsOut c.fill.new.pool first = rw c.fill.ensures (out_written c.take.new.self first first (replicate 8192 1) taken) in
    let beside : IsOut c.take-2.new.self second = rw c.in-Some.ensures.taken.1 (out_taken c.fill.new.pool second c.in-Some.ensures.taken.0 c.in-Some.ensures.within) in
    let both : IsOut c.fill-2.new.pool second = rw c.fill-2.ensures (out_written c.take-2.new.self second second (replicate 8192 2) beside) in
    rw c.give-2.ensures (out_kept c.fill-2.new.pool first second (λ same. c.in-Some.ensures.distinct first filled (sym same)) both)
