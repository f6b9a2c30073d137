-- A branch that is committed is of a committed transaction.
use Rattle.std.proofs.Common.{◌≡◌, ℕ, List, [], ◌∷◌, Bool, true, false, Option, Some, None, if◌then◌else◌, inl, inr, refl, ◌∙◌, subst}
use Rattle.std.specs.Prelude.{take, slice_get}
use Rattle.vms_model.specs.Ids.{Id}
use Rattle.vms_model.specs.Transactions.{Commit as ToCommit}
use Rattle.commit_protocol.specs.Messages.{Message}
use Rattle.commit_protocol.specs.Table.{Key, Act, Notes, Accepts, Prepares, Settles, Leaves, Acknowledges, Releases, Undoes, Sends, Prints, first}
use Rattle.commit_protocol.specs.Rows.{Event, Start, Authorise, Begin}
use Rattle.commit_protocol.specs.World as protocol
use Rattle.commit_protocol.specs.World.{In, Happening, At, Comes, StartTrans, AddBranch, StartBranch, DirectChange, Given, Plan, Step, Does, Stops, Crash, Boot, BootStops, Swaps, acts, acts_all, begins, boots, boots_some, comes, commits_alone, crashes, done, draws, draws_none, given, happens, labelled, may_boot, plan_if, planned, raised, run, stopped, swaps, tells_event, undoes_lost}
use Rattle.commit_protocol.specs.Allowed.{allowed}
use Rattle.commit_protocol.specs.Agreement.{Agrees, view}
use Rattle.commit_protocol.specs.Opening.{Opening, IsAgreeing, opened}
use Rattle.run_model.specs.World.{World}
use Rattle.run_model.specs.Transcript.{Entry}
use Rattle.run_agreement.specs.Following.{opening_of}
use Rattle.run_agreement.specs.Seen.{Resolution}
use Rattle.run_agreement.specs.Laws.{HasOutcome, IsCommitted, IsRun}
use Rattle.run_agreement.proofs.Openings.{reached_by}
use Rattle.run_agreement.proofs.Staying.{outcome_shown, outcome_told}

-- What an opening image showed stays the same list.

act_shown : (n : List ℕ) (a : Act) (w : protocol.World) → (acts n a w).shown ≡ w.shown
act_shown n (Notes b) w = refl
act_shown n (Accepts b c) w = refl
act_shown n (Prepares b) w = refl
act_shown n (Settles k o reason r) w = refl
act_shown n (Leaves k) w = refl
act_shown n (Acknowledges k) w = refl
act_shown n (Releases s x) w = refl
act_shown n (Undoes k) w = refl
act_shown n (Sends m) w = refl
act_shown n (Prints l) w = refl

acts_shown : (n : List ℕ) (todo : List Act) (w : protocol.World) → (acts_all n todo w).shown ≡ w.shown
acts_shown n [] w = refl
acts_shown n (a ∷ todo) w = acts_shown n todo (acts n a w) ∙ act_shown n a w

event_shown : (n : List ℕ) (w base : protocol.World) (e : Event) → base.shown ≡ w.shown → (tells_event n w base e).base.shown ≡ w.shown
event_shown n w base e same = go (allowed (protocol.tm_at w n) e)
  where
    go : (b : Bool) → (plan_if b n w base e).base.shown ≡ w.shown
    go true = same
    go false = refl

planned_shown : (w : protocol.World) (h : Happening) → (planned w h).base.shown ≡ w.shown
planned_shown w (At n (StartTrans due)) = event_shown n w (draws n w) (Start (protocol.next_id w n) due) refl
planned_shown w (At n (AddBranch t)) = event_shown n w (labelled n w t) (Authorise t (protocol.next_id w n)) refl
planned_shown w (At n (StartBranch which)) = go (slice_get w.labels which)
  where
    go : (o : Option (Id × Id)) → (begins n w o).base.shown ≡ w.shown
    go None = refl
    go (Some p) = event_shown n w (draws n w) (Begin p.0 (protocol.next_id w n) p.1) refl
planned_shown w (At n DirectChange) = refl
planned_shown w (At n (Given e)) = go (draws_none e)
  where
    go : (b : Bool) → (given b n w e).base.shown ≡ w.shown
    go true = event_shown n w w e refl
    go false = refl
planned_shown w (Comes which) = go (slice_get w.sent which)
  where
    go : (o : Option Message) → (comes w o).base.shown ≡ w.shown
    go None = refl
    go (Some m) = refl

step_shown : (w : protocol.World) (s : Step) → (happens w s).shown ≡ w.shown
step_shown w (Does h) = go (w.nodes (planned w h).node).up
  where
    go : (b : Bool) → (let x : protocol.World = if b then acts_all (planned w h).node (planned w h).todo (planned w h).base else w in x).shown ≡ w.shown
    go true = acts_shown (planned w h).node (planned w h).todo (planned w h).base ∙ planned_shown w h
    go false = refl
step_shown w (Stops j h) = go (w.nodes (planned w h).node).up
  where
    go : (b : Bool) → (let x : protocol.World = if b then crashes (planned w h).node (acts_all (planned w h).node (take j (planned w h).todo) (planned w h).base) else w in x).shown ≡ w.shown
    go true = acts_shown (planned w h).node (take j (planned w h).todo) (planned w h).base ∙ planned_shown w h
    go false = refl
step_shown w (Crash n) = refl
step_shown w (Boot n order) = go (may_boot n w)
  where
    go : (b : Bool) → (let x : protocol.World = if b then acts_all n (undoes_lost n order w) (raised n order w) else w in x).shown ≡ w.shown
    go true = acts_shown n (undoes_lost n order w) (raised n order w)
    go false = refl
step_shown w (BootStops j n order) = go (may_boot n w)
  where
    go : (b : Bool) → (let x : protocol.World = if b then crashes n (acts_all n (take j (undoes_lost n order w)) (raised n order w)) else w in x).shown ≡ w.shown
    go true = acts_shown n (take j (undoes_lost n order w)) (raised n order w)
    go false = refl
step_shown w (Swaps i n) = refl

run_shown : (steps : List Step) (w : protocol.World) → (run steps w).shown ≡ w.shown
run_shown [] w = refl
run_shown (s ∷ steps) w = run_shown steps (happens w s) ∙ step_shown w s

pub committed_of : ((o : Opening) → IsAgreeing o → (steps : List Step) → Agrees (view (run steps (opened o)))) → (base v : World) (es : List Entry) → IsRun base es v → (r : Resolution) (k : Key) → HasOutcome base r v k ToCommit → IsCommitted base r v k.tid
committed_of law base v es h r k out =
    let o : Opening = opening_of base in
    let x = reached_by base v es h r in
    let p : protocol.World = run x.steps (opened o) in
    elim ((law o h.agrees x.steps).commits.branch k (outcome_told base r v p x.shows k ToCommit out)) [
      | inl settled ↦ inl (outcome_shown base r v p x.shows (first k.tid) ToCommit settled)
      | inr shown ↦ inr (let P : List Id → Type 0 = λ ts. In k.tid ts in subst P (run_shown x.steps (opened o)) shown)
    ]
