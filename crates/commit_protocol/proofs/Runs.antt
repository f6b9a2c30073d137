-- Whole runs of two nodes, from volumes that were just made.
use Rattle.std.specs.Prelude.{◌≡◌, refl, List, [], ◌∷◌, ◌++◌, None}
use Rattle.vms_model.specs.Ids.{Id}
use Rattle.vms_model.specs.Transactions.{Commit as ToCommit, Abort as ToAbort}
use Rattle.commit_protocol.specs.Messages.{Name, CommittedRecord, same_name, same_id}
use Rattle.commit_protocol.specs.Table.{child, same_key}
use Rattle.commit_protocol.specs.Rows.{EndTrans, Changed, EndBranch, InquireBranch, RunDown}
use Rattle.commit_protocol.specs.World.{World, Step, Does, Crash, Boot, At, Comes, StartTrans, AddBranch, StartBranch, Given, run}
use Rattle.commit_protocol.specs.Opening.{opened, new_volumes}

abbrev a : Name
a = 65 ∷ []

abbrev b : Name
b = 66 ∷ []

abbrev t : Id
t = record { node = a; boot = 1; seq = 1 }

abbrev s : Id
s = record { node = b; boot = 1; seq = 1 }

-- both nodes are booted, the branch joins, and both change something
abbrev joined : List Step
joined = Boot a [] ∷ (Boot b [] ∷ (Does (At a (StartTrans None)) ∷ (Does (At a (AddBranch t)) ∷ (Does (At b (StartBranch 0)) ∷ (Does (Comes 0) ∷ (Does (Comes 0)
    ∷ (Does (At a (Given (Changed t))) ∷ (Does (At b (Given (Changed s))) ∷ []))))))))

-- the branch is ended and prepared
abbrev prepared : List Step
prepared = joined ++ Does (At b (Given (EndBranch s))) ∷ (Does (At a (Given (EndTrans t))) ∷ (Does (Comes 0) ∷ []))

abbrev reached : List Step → World
reached steps = run steps (opened (new_volumes (a ∷ (b ∷ []))))

-- each message that comes is the last one that was sent: the vote, Commit and Ack
both_commit : let w = reached (prepared ++ Does (Comes 0) ∷ (Does (Comes 0) ∷ (Does (Comes 0) ∷ []))) in
    (w.settled ≡ (child t s, ToCommit) ∷ ((child t t, ToCommit) ∷ [])) × ((w.nodes a).records ≡ [])
unfolding same_id same_key same_name
both_commit = (refl, refl)

-- the subordinate falls before it hears of the commit; booted again it asks, and is told
asks_after_fall : let w = reached (prepared ++ Does (Comes 0) ∷ (Crash b ∷ (Boot b [] ∷ (Does (At b (Given (InquireBranch s))) ∷ (Does (Comes 0) ∷ (Does (Comes 0) ∷ [])))))) in
    (w.settled ≡ (child t s, ToCommit) ∷ ((child t t, ToCommit) ∷ [])) × ((w.nodes a).records ≡ record { kind = CommittedRecord; tid = t; serial = t; waiting = s ∷ []; rms = [] } ∷ [])
unfolding same_id same_key same_name
asks_after_fall = (refl, refl)

-- the coordinator falls before it decides; its boot undoes its own branch, and the subordinate is told to abort
both_abort : let w = reached (prepared ++ Crash a ∷ (Boot a [] ∷ (Does (At b (Given (InquireBranch s))) ∷ (Does (Comes 0) ∷ (Does (Comes 0) ∷ []))))) in
    (w.settled ≡ (child t s, ToAbort) ∷ ((child t t, ToAbort) ∷ [])) × ((w.nodes b).table ≡ [])
unfolding same_id same_key same_name
both_abort = (refl, refl)

-- a run-down at both nodes aborts both before the vote
run_down : let w = reached (joined ++ Does (At a (Given RunDown)) ∷ (Does (At b (Given RunDown)) ∷ [])) in
    w.settled ≡ (child t s, ToAbort) ∷ ((child t t, ToAbort) ∷ [])
unfolding same_id same_key same_name
run_down = refl
