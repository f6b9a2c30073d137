-- A disk over calls of `power` and what comes behind them.
use Rattle.std.proofs.Common.{◌≡◌, ℕ, ◌<◌, ◌≤◌, ◌^◌, List, Bool, true, false, Option, Some, None, Result, Err, MatchOption, IsSomeAnd, is_some, refl, sym, ap, subst, ◌∙◌, arith, inl, inr}
use Rattle.std.specs.Prelude.{nat_lt}
use Rattle.std.proofs.lemmas.Bool.{ltb-true, ltb-false}
use Rattle.block_disk.specs.Blocks.{SameBut}
use Rattle.block_disk.specs.Counts.{counted}
use Rattle.block_disk.specs.Disk.{DiskState, IsPowered, answered, is_stopped, noted, powering}
use Rattle.block_disk.specs.declared.disk.DiskCall.TheVariants as disk_call
use Rattle.block_disk.specs.declared.disk.DiskErr.{DiskErr}
use Rattle.block_disk.specs.declared.disk.DiskErr.TheVariants as error
use Rattle.careful_write.specs.Down.{CountsDown, down_of}
use Rattle.careful_write.specs.Steps.{CountsOnce}
use Rattle.careful_write.specs.declared.down.Down.{Down}
use Rattle.careful_write.specs.declared.down.Down.TheVariants as down
use Rattle.emitter_model.specs.transcript_model.Outside.{Rose}
use Rattle.emitter_model.proofs.transcript_model.OutsideLemmas.{rose_earlier}
use Rattle.emitter_model.specs.transcript_model.Lines.{Cause, Failed, Stopped}
use Rattle.world_laws.specs.run_model.Steps.{count_of}
use Rattle.recovery_units.specs.Uses.{DiskAdvances, IsCounted}
use Rattle.dtm_node.specs.Causes.{cause_of}
use Rattle.node_requests.specs.node_standing.Standing.{counts_of}
use Rattle.node_requests.specs.node_standing.Telling.{DiskAdvancesOverCalls}

up : (b : Bool) (n : ℕ) → n < 2 ^ 64 → (n ≤ counted b n) × (counted b n < 2 ^ 64)
up true n h = (omega arith, omega arith)
up false n h = (omega arith, h)

risen : (n : ℕ) → Rose n (counted true n)
risen n = elim (nat_lt n 18446744073709551615) as (λ t. nat_lt n 18446744073709551615 ≡ t → Rose n (counted true n)) [
  | true ↦ λ t. let lt : n < 18446744073709551615 = ltb-true n 18446744073709551615 t in inl (omega arith)
  | false ↦ λ t. let le : 18446744073709551615 ≤ n = ltb-false n 18446744073709551615 t in inr (omega arith)
] refl

pub passes_same : (d : DiskState) → DiskAdvancesOverCalls d d
passes_same d = record { size = refl; faults = λ h. omega arith; stops = λ h. omega arith; counted = λ h. h; told = refl }

pub passes_goes : (a b c : DiskState) → DiskAdvancesOverCalls a b → DiskAdvances b c → DiskAdvancesOverCalls a c
passes_goes a b c f g = record {
  size = g.size ∙ f.size;
  faults = λ h. omega (arith, f.faults h, g.faults (f.counted h));
  stops = λ h. omega (arith, f.stops h, g.stops (f.counted h));
  counted = λ h. g.counted (f.counted h);
  told = g.told ∙ f.told;
}

pub passes_on : (a b c : DiskState) → DiskAdvancesOverCalls a b → DiskAdvancesOverCalls b c → DiskAdvancesOverCalls a c
passes_on a b c f g = record {
  size = g.size ∙ f.size;
  faults = λ h. omega (arith, f.faults h, g.faults (f.counted h));
  stops = λ h. omega (arith, f.stops h, g.stops (f.counted h));
  counted = λ h. g.counted (f.counted h);
  told = g.told ∙ f.told;
}

pub passes_counts : (failed stopped : Bool) (old new : DiskState) → CountsOnce failed stopped old new → DiskAdvancesOverCalls old new
passes_counts failed stopped old new c = record {
  size = c.size;
  faults = λ h. rw c.faults ((up failed old.faults h.0).0);
  stops = λ h. rw c.stops ((up stopped old.stops h.1).0);
  counted = λ h. (rw c.faults ((up failed old.faults h.0).1), rw c.stops ((up stopped old.stops h.1).1));
  told = c.told;
}

same_told : (o p : Option (List (List ℕ))) (ns : List ℕ) → MatchOption o (p ≡ None) (λ seen. IsSomeAnd p (SameBut ns seen)) → is_some p ≡ is_some o
same_told None p ns h = ap (λ (x : Option (List (List ℕ))). is_some x) h
same_told (Some b) None ns h = absurd h
same_told (Some b) (Some c) ns h = refl

-- the disk runs again
pub passes_power : (old new : DiskState) → IsPowered old new → DiskAdvancesOverCalls old new
passes_power old new p = record {
  size = ap (λ (t : DiskState). t.size) p.state;
  faults = λ h. subst (λ n. old.faults ≤ n) (sym (ap (λ (t : DiskState). t.faults) p.state)) (omega arith);
  stops = λ h. subst (λ n. old.stops ≤ n) (sym (ap (λ (t : DiskState). t.stops) p.state)) (omega arith);
  counted = λ h. (subst (λ n. n < 2 ^ 64) (sym (ap (λ (t : DiskState). t.faults) p.state)) h.0, subst (λ n. n < 2 ^ 64) (sym (ap (λ (t : DiskState). t.stops) p.state)) h.1);
  told = same_told old.seen new.seen old.pending p.image;
}

pub power_calls : (old new later : DiskState) → IsPowered old new → later.calls ≡ new.calls → later.calls ≡ noted (disk_call.Power old.stops) old.calls
power_calls old new later p e = e ∙ ap (λ (t : DiskState). t.calls) p.state

power_count : (cause : Cause) (old new : DiskState) → IsPowered old new → count_of cause (counts_of new) ≡ count_of cause (counts_of old)
power_count Failed old new p = ap (λ (t : DiskState). t.faults) p.state
power_count Stopped old new p = ap (λ (t : DiskState). t.stops) p.state

pub rose_after : (cause : Cause) (old mid new : DiskState) → IsPowered old mid → Rose (count_of cause (counts_of mid)) (count_of cause (counts_of new)) → Rose (count_of cause (counts_of old)) (count_of cause (counts_of new))
rose_after cause old mid new p r = subst (λ n. Rose n (count_of cause (counts_of new))) (power_count cause old mid p) r

-- a failure that came behind calls that raised no count
pub rose_behind : (cause : Cause) (a b d : DiskState) → IsCounted a → DiskAdvancesOverCalls a b → Rose (count_of cause (counts_of b)) (count_of cause (counts_of d)) → Rose (count_of cause (counts_of a)) (count_of cause (counts_of d))
rose_behind Failed a b d h p r = rose_earlier _ _ _ (p.faults h) r
rose_behind Stopped a b d h p r = rose_earlier _ _ _ (p.stops h) r

pub rose_down : (d : Down) (old new : DiskState) → CountsDown d old new → Rose (count_of (cause_of d) (counts_of old)) (count_of (cause_of d) (counts_of new))
rose_down down.Failed old new h = subst (λ n. Rose old.faults n) (sym h.faults) (risen old.faults)
rose_down down.Stopped old new h = subst (λ n. Rose old.stops n) (sym h.stops) (risen old.stops)

-- it does not run again
pub record Unpowers (e : DiskErr) (old new : DiskState) : Type 0 where
  pub cause : cause_of (down_of e) ≡ Failed
  pub pending : new.pending ≡ old.pending
  pub seen : new.seen ≡ old.seen
  pub calls : new.calls ≡ noted (disk_call.Power old.stops) old.calls
  pub passes : DiskAdvancesOverCalls old new
  pub rose : Rose (count_of Failed (counts_of old)) (count_of Failed (counts_of new))

abbrev failure : DiskErr → Result (Unit {0}) DiskErr
failure e = Err e

pub unpowers : (e : DiskErr) (old new : DiskState) → new ≡ answered (failure e) (powering old) → is_stopped (failure e) ≡ false → Unpowers e old new
unpowers error.Stopped old new is never = let none : ⊥ = cc in absurd none
unpowers error.Failed old new is never = subst (λ d. Unpowers error.Failed old d) (sym is) (record {
  cause = refl;
  pending = refl;
  seen = refl;
  calls = refl;
  passes = record {
    size = refl;
    faults = λ h. (up true old.faults h.0).0;
    stops = λ h. omega arith;
    counted = λ h. ((up true old.faults h.0).1, h.1);
    told = refl;
  };
  rose = risen old.faults;
})
