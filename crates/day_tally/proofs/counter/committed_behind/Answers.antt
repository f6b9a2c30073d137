use Rattle.std.proofs.Common.{◌≡◌, ◌+◌, ◌-◌, ◌^◌, ◌<◌, ℕ, Bool, true, false, if◌then◌else◌, min, sym, ◌∙◌, ap, arith}
use Rattle.net_wire.specs.commit_protocol.Messages.{same_id}
use Rattle.vms_base.specs.Ids.{serial_of, tid_of}
use Rattle.emitter_model.specs.Tally.{commits_in}
use Rattle.transcript.specs.Forms.{line_of}
use Rattle.day_tally.proofs.Others.{nothing_committed}
use Rattle.day_tally.proofs.counter.committed_behind.Goals as goal

-- a count of 64 bits is the lesser of itself and the greatest
within : (n : ℕ) → n < 2 ^ 64 → n ≡ min (n + 0) (2 ^ 64 - 1)
within n h = omega (arith, h)

counted : (b : Bool) (n : ℕ) → n < 2 ^ 64 → b ≡ false → n ≡ min (n + (if b then 1 else 0)) (2 ^ 64 - 1)
counted false n h e = within n h
counted true n h e = let none : ⊥ = cc in absurd none

pub returns-in_default : goal.returns-in_default
returns-in_default c = within c.args.before c.ranges.before.fits ∙ ap (λ k. min (c.args.before + k) (2 ^ 64 - 1)) (sym (nothing_committed c.args.form.now c.in_default.not-Committed))

pub returns-else-same_id : goal.returns-else-same_id
returns-else-same_id c =
    counted (same_id (tid_of c.in-Committed.tid) (serial_of c.in-Committed.serial)) c.args.before c.ranges.before.fits (sym c.same_id.ensures ∙ c.if-same_id.false)
    ∙ ap (λ f. min (c.args.before + commits_in (line_of f)) (2 ^ 64 - 1)) (sym c.in-Committed.is)
