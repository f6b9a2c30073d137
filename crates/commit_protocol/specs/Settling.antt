-- The steps by which a prepared branch comes to its outcome.
use Rattle.std.specs.Prelude.{◌≡◌, List, [], ◌∷◌, None}
use Rattle.vms_model.specs.Ids.{Id}
use Rattle.vms_model.specs.Transactions.{Outcome}
use Rattle.commit_protocol.specs.Messages.{Name}
use Rattle.commit_protocol.specs.Table.{Key, home_of, find}
use Rattle.commit_protocol.specs.Rows.{InquireBranch, RunDown}
use Rattle.commit_protocol.specs.World.{World, In, Step, Does, At, Comes, Given, happens}

-- the branch asks its coordinator, the question comes, and the answer comes
abbrev pub inquiry : Name → Id → List Step
inquiry n s = Does (At n (Given (InquireBranch s))) ∷ (Does (Comes 0) ∷ (Does (Comes 0) ∷ []))

-- the node aborts what is not prepared
abbrev pub run_down : Name → World → World
run_down n w = happens w (Does (At n (Given RunDown)))

-- the branch is not there any more, and is settled
abbrev pub IsOut : World → Key → Type 0
IsOut w k = (find k (w.nodes (home_of k)).table ≡ None) × ((o : Outcome) × In (k, o) w.settled)
