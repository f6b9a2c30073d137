use Rattle.std.proofs.Common.{ℕ, ◌+◌, ◌<◌, [], ◌∷◌, ◌++◌, length, arith, sym, ◌∙◌, ap}
use Rattle.std.proofs.lemmas.List.{length_push, take_more}
use Rattle.lmcp_log.proofs.Fields.{name_stands}
use Rattle.lmcp_log.proofs.Readings.{same_some}
use Rattle.lmcp_log.proofs.places.managers_at.Goals as goal

pub returns-in-None : goal.returns-in-None
returns-in-None c = λ xs a few n is.
    let lt : c.loop-i.i < length xs = let t = c.loop-i-test.true in let e = c.from-i-end.ensures in omega (arith, n, e) in
    let s = name_stands c.args.block.now xs c.loop-i.i [] a few lt is in
    let e = sym c.in-None.is ∙ c.name_at.ensures _ s.0 s.1 in cc

pub loop-i-preserved : goal.loop-i-preserved
loop-i-preserved c =
    let i = c.loop-i.i in
    record {
      count = ap length c.push.ensures ∙ (length_push c.loop-i.rms _ ∙ ap (λ (m : ℕ). m + 1) c.loop-i.invariant.count);
      read = λ xs a few n is.
          let lt : i < length xs = let t = c.loop-i-test.true in let e = c.from-i-end.ensures in omega (arith, n, e) in
          let s = name_stands c.args.block.now xs i [] a few lt is in
          let one = same_some c.in-Some.rm _ (sym c.in-Some.is ∙ c.name_at.ensures _ s.0 s.1) in
          let made = c.loop-i.invariant.read xs a few n is in
          c.push.ensures ∙ ((λ k. made k ++ one k ∷ []) ∙ sym (take_more xs i [] lt));
    }
