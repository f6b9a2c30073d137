use Rattle.std.proofs.Common.{◌+◌, false, arith}
use Rattle.reference_run.proofs.RackLemmas.{compared, served_later, have_first, have_later}
use Rattle.reference_run.proofs.rack.+serve_at.Goals as goal

pub returns-in_ok-push_front-in-Some-clause-units : goal.returns-in_ok-push_front-in-Some-clause-units
returns-in_ok-push_front-in-Some-clause-units t c = λ units h early. have_first (units + 64) units _ _ c.in-Some.first c.serve.new.node _ c.in-Some.ensures (c.in_ok-push_front-in-Some).ensures (omega arith) (λ k. (c.in_ok-lines-in-Some).ensures.units units early k) h

pub returns-in_ok-push_front-in-Some-2-clause-served : goal.returns-in_ok-push_front-in-Some-2-clause-served
returns-in_ok-push_front-in-Some-2-clause-served t c = served_later _ _ _ _ _ _ c.in-Some.first _ _ _ c.in-Some.ensures (c.in_ok-push_front-in-Some-2).ensures
    (compared false _ _ _ _ c.if-eq.ensures c.bytes.ensures.value c.bytes-in-Some.ensures.value) (c.in_ok-served-in-Some).ensures.served

pub returns-in_ok-push_front-in-Some-2-clause-units : goal.returns-in_ok-push_front-in-Some-2-clause-units
returns-in_ok-push_front-in-Some-2-clause-units t c = λ units h early. have_later (units + 64) units _ _ c.in-Some.first _ _ c.in-Some.ensures (c.in_ok-push_front-in-Some-2).ensures (omega arith) (λ k. (c.in_ok-served-in-Some).ensures.units units k early) h
