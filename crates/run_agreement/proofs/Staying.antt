-- What is settled stays settled, and what is at rest is whole.
use Rattle.std.proofs.Common.{◌≡◌, List, Some, None, ◌⊎◌, inl, inr, refl, ap, sym, subst, ◌∙◌}
use Rattle.vms_model.specs.Transactions.{Outcome, Commit as ToCommit, Abort as ToAbort}
use Rattle.commit_protocol.specs.Messages.{Name}
use Rattle.commit_protocol.specs.Table.{Key, first, home_of, find}
use Rattle.commit_protocol.specs.World as protocol
use Rattle.commit_protocol.specs.World.{In, Step, run}
use Rattle.commit_protocol.specs.Agreement.{Ready, phase, view, Agrees, Commits, IsAccepted, NoneAborted, SettlesAlike}
use Rattle.commit_protocol.specs.Opening.{Opening, IsAgreeing, opened, accepted_in}
use Rattle.commit_protocol.proofs.Lists.{in_left, in_right}
use Rattle.commit_protocol.proofs.Running.{goes_run}
use Rattle.commit_protocol.proofs.Gathered.{is_shown}
use Rattle.commit_protocol.proofs.Opened.{good_opened}
use Rattle.std.proofs.lemmas.Bool.{both_ways, cases_Bool}
use Rattle.run_model.specs.World.{Node, World, find_node}
use Rattle.run_model.specs.Transcript.{Entry}
use Rattle.run_agreement.specs.Seen.{Resolution, has_volume}
use Rattle.run_agreement.specs.Following.{Shows, opening_of}
use Rattle.run_agreement.specs.Laws.{IsRun, RunsFrom, IsReachedBy, IsBranch, HasOutcome, IsCommitted, IsAtRest}
use Rattle.run_agreement.proofs.Events.{IsReached, up_of_face}
use Rattle.run_agreement.proofs.Openings.{runs_sim, reached_by, told_settled, shown_settled_by}

-- the protocol has an outcome where the run has it
pub outcome_told : (base : World) (r : Resolution) (v : World) (p : protocol.World) → Shows (opening_of base) r v p → (k : Key) (out : Outcome) → HasOutcome base r v k out → In (k, out) p.settled
outcome_told base r v p h k out (inl i) = h.follows.given k out i
outcome_told base r v p h k out (inr s) = told_settled (opening_of base) r v p h k out s

-- and the run has it where the protocol does
pub outcome_shown : (base : World) (r : Resolution) (v : World) (p : protocol.World) → Shows (opening_of base) r v p → (k : Key) (out : Outcome) → In (k, out) p.settled → HasOutcome base r v k out
outcome_shown base r v p h k out i = elim (h.follows.back k out i) [
  | inl g ↦ inl g
  | inr s ↦ inr (shown_settled_by (opening_of base) r v p h k out s)
]

pub stays : (base v u : World) (fs : List Entry) → IsAgreeing (opening_of base) → ((r : Resolution) → IsReachedBy base r v) → RunsFrom v fs u → (r : Resolution) → (q : Resolution) × ((k : Key) (out : Outcome) → HasOutcome base q v k out → HasOutcome base r u k out)
stays base v u fs agrees reached after r =
    let o : Opening = opening_of base in
    let s = runs_sim o fs v u after r in
    let x = reached s.0 in
    let p : protocol.World = run x.steps (opened o) in
    let at : IsReached o p = record { agrees = agrees; steps = x.steps; is = refl } in
    let y = s.1 p tt at x.shows in
    let good = (goes_run x.steps (opened o) (good_opened o agrees (is_shown o agrees))).good in
    (s.0, λ k out i. outcome_shown base r u (run y.0 p) y.1 k out ((goes_run y.0 p good).later.settled k out (outcome_told base s.0 v p x.shows k out i)))

pub stay_settled : (base v u : World) (es fs : List Entry) → IsRun base es v → RunsFrom v fs u → (r : Resolution) → (q : Resolution) × ((k : Key) (out : Outcome) → HasOutcome base q v k out → HasOutcome base r u k out)
stay_settled base v u es fs h after = stays base v u fs h.agrees (λ r. reached_by base v es h r) after

-- so it is where the node of the branch is in the rack
pub at_rest_whole : ((o : Opening) → IsAgreeing o → (steps : List Step) → Agrees (view (run steps (opened o)))) → (base v : World) (es : List Entry) → IsRun base es v → IsAtRest v → (r : Resolution) (k : Key) (z : Node) → find_node (home_of k) v.nodes ≡ Some z
    → IsBranch base v k → (k ≡ first k.tid → ⊥) → IsCommitted base r v k.tid → HasOutcome base r v k ToCommit ⊎ In k v.shared.read_only
at_rest_whole law base v es h rest r k z found branch other commits =
    let o : Opening = opening_of base in
    let x = reached_by base v es h r in
    let p : protocol.World = run x.steps (opened o) in
    let a = law o h.agrees x.steps in
    let P : List Key → Type 0 = λ ks. In k ks in
    let n : Name = home_of k in
    let later = (goes_run x.steps (opened o) (good_opened o h.agrees (is_shown o h.agrees))).later in
    let c : Commits (view p) k.tid = elim commits [ inl g ↦ inl (outcome_told base r v p x.shows (first k.tid) ToCommit g) | inr g ↦ inr (later.shown k.tid g) ] in
    let accepted : In k p.accepted = elim branch [
      | inl e ↦ absurd (other e)
      | inr i ↦ subst P (sym x.shows.follows.accepted) (elim i [ inl s ↦ in_left k v.shared.accepted (accepted_in o) s | inr s ↦ in_right k v.shared.accepted (accepted_in o) s ])
    ] in
    let up = (rest n z found).0 in
    let sound : has_volume z ≡ Rattle.std.specs.Prelude.true = elim (cases_Bool (has_volume z)) [ inl s ↦ s | inr s ↦ absurd (both_ways z.up (x.shows.are.without n z found s).1.down up) ] in
    let f = x.shows.are.there n z found sound in
    let face = up_of_face (r n) z f.0 up f.2 in
    let node : p.nodes n ≡ f.0.node = x.shows.follows.nodes n f.0 f.1 in
    let empty : find k (p.nodes n).table ≡ None = ap (λ (y : protocol.Node). find k y.table) (node ∙ face.node) ∙ ap (find k) (rest n z found).1 in
    elim (a.accepted k accepted c) [
      | inl ready ↦ absurd (let g : phase None ≡ Ready = sym (ap phase empty) ∙ ready in cc)
      | inr g ↦ elim g [ inl settled ↦ inl (outcome_shown base r v p x.shows k ToCommit settled) | inr read ↦ inr (subst P x.shows.follows.read_only read) ]
    ]

-- All branches of a transaction are settled alike, whether in this run or before it.
pub alike_of : ((o : Opening) → IsAgreeing o → (steps : List Step) → SettlesAlike (view (run steps (opened o)))) → ((o : Opening) → IsAgreeing o → (steps : List Step) → NoneAborted (view (run steps (opened o)))) →
    (base v : World) (es : List Entry) → IsRun base es v → (r : Resolution) (k : Key) → IsBranch base v k → HasOutcome base r v k ToAbort → ((j : Key) → j.tid ≡ k.tid → HasOutcome base r v j ToCommit → ⊥) × (IsCommitted base r v k.tid → ⊥)
alike_of alike none base v es h r k branch aborts =
    let o : Opening = opening_of base in
    let x = reached_by base v es h r in
    let p : protocol.World = run x.steps (opened o) in
    let P : List Key → Type 0 = λ ks. In k ks in
    let later = (goes_run x.steps (opened o) (good_opened o h.agrees (is_shown o h.agrees))).later in
    let is : (k ≡ first k.tid) ⊎ IsAccepted (view p) k = elim branch [
      | inl e ↦ inl e
      | inr i ↦ inr (subst P (sym x.shows.follows.accepted) (elim i [ inl a ↦ in_left k v.shared.accepted (accepted_in o) a | inr b ↦ in_right k v.shared.accepted (accepted_in o) b ]))
    ] in
    let aborted = outcome_told base r v p x.shows k ToAbort aborts in (
      λ j same commits. alike o h.agrees x.steps j k same is (outcome_told base r v p x.shows j ToCommit commits) aborted,
      λ commits. none o h.agrees x.steps k is (elim commits [ inl g ↦ inl (outcome_told base r v p x.shows (first k.tid) ToCommit g) | inr g ↦ inr (later.shown k.tid g) ]) aborted,
    )
