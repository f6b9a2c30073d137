use Rattle.std.proofs.Common.{◌+◌, true, false, arith}
use Rattle.reference_run.proofs.RackLemmas.{compared, done_first, done_later, have_first, have_later}
use Rattle.reference_run.proofs.rack.+perform_at.Goals as goal

pub returns-in_ok-push_front-in-Some-clause-done : goal.returns-in_ok-push_front-in-Some-clause-done
returns-in_ok-push_front-in-Some-clause-done t c = done_first _ _ _ _ _ _ c.in-Some.first c.perform.new.node _ _ c.in-Some.ensures (c.in_ok-push_front-in-Some).ensures
    (compared true _ _ _ _ c.if-eq.ensures c.bytes.ensures.value c.bytes-in-Some.ensures.value) (c.in_ok-shown-in-Some).ensures.performs

pub returns-in_ok-push_front-in-Some-clause-units : goal.returns-in_ok-push_front-in-Some-clause-units
returns-in_ok-push_front-in-Some-clause-units t c = λ units h. have_first (units + 1) units _ _ c.in-Some.first c.perform.new.node _ c.in-Some.ensures (c.in_ok-push_front-in-Some).ensures (omega arith) (λ k. (c.in_ok-shown-in-Some).ensures.units units k) h

pub returns-in_ok-push_front-in-Some-2-clause-done : goal.returns-in_ok-push_front-in-Some-2-clause-done
returns-in_ok-push_front-in-Some-2-clause-done t c = done_later _ _ _ _ _ _ c.in-Some.first _ _ _ c.in-Some.ensures (c.in_ok-push_front-in-Some-2).ensures
    (compared false _ _ _ _ c.if-eq.ensures c.bytes.ensures.value c.bytes-in-Some.ensures.value) (c.in_ok-done-in-Some).ensures.done

pub returns-in_ok-push_front-in-Some-2-clause-units : goal.returns-in_ok-push_front-in-Some-2-clause-units
returns-in_ok-push_front-in-Some-2-clause-units t c = λ units h. have_later (units + 1) units _ _ c.in-Some.first _ _ c.in-Some.ensures (c.in_ok-push_front-in-Some-2).ensures (omega arith) (λ k. (c.in_ok-done-in-Some).ensures.units units k) h
