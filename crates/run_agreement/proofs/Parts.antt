-- Each part of a statement is steps of the protocol.
use Rattle.std.specs.Prelude.{if◌then◌else◌}
use Rattle.std.specs.Option.{option_and_then}
use Rattle.std.proofs.Common.{◌≡◌, ℕ, Bool, true, false, List, [], ◌∷◌, ◌++◌, Option, Some, None, inl, inr, refl, ap, sym, subst, ◌∙◌}
use Rattle.std.proofs.lemmas.Bool.{cases_Bool}
use Rattle.vms_model.specs.Ids.{Id}
use Rattle.run_model.specs.transcript_model.Lines.{Cause}
use Rattle.run_model.specs.script_model.Statements.{Init}
use Rattle.commit_protocol.specs.Messages.{Name, Message, Inquire}
use Rattle.commit_protocol.specs.Table as table
use Rattle.commit_protocol.specs.Table.{Key, Branch, State, Sends, coordinator_of}
use Rattle.commit_protocol.specs.Rows as rows
use Rattle.commit_protocol.specs.Rows.{row, Got, InquireBranch, up, asks_row, asks_state}
use Rattle.commit_protocol.specs.Allowed.{allowed, is_prepared, there_is}
use Rattle.commit_protocol.specs.World as protocol
use Rattle.commit_protocol.specs.World.{In, Step, Does, At, Comes, Given, happens, run, done, acts_all}
use Rattle.commit_protocol.specs.Opening.{Opening}
use Rattle.commit_protocol.proofs.Running.{run-append}
use Rattle.run_model.specs.World.{World, Node, Shared, DiskCounts, find_node, find_branch, with_node, tm_of}
use Rattle.run_model.specs.Answers.{Task, Serves}
use Rattle.run_model.specs.Steps.{Choice, TaskEffect, task_effect, TaskAllowed}
use Rattle.run_model.specs.Statements as statements
use Rattle.run_model.specs.Statements.{Part, Does as DoesPart, Asks, PartEffect, Question, Heard, Unanswered, Doubtful, stops_at, put_into, done_at, part_effect, question_effect, question, asking, asked, in_doubt, answer_of, answer_in, Allowed, AllowedAt, AllowedOf, RoseAt}
use Rattle.run_agreement.specs.Seen.{Resolution, IsFace, has_volume}
use Rattle.run_agreement.specs.Following.{Faces, AreFaces, Follows, Shows}
use Rattle.run_agreement.proofs.Found.{some_is, name_found, resolve, resolve_here, faces_put, faces_without}
use Rattle.run_agreement.proofs.Faces.{put_face}
use Rattle.run_agreement.proofs.Events.{IsReached, reached_on, IsAt, up_at, given_is, done_is, comes_is, tm_is, alive_at}
use Rattle.run_agreement.proofs.Changing.{branch_found}
use Rattle.run_agreement.proofs.Serving.{Known, Anything, NodeSimFor}
use Rattle.run_agreement.proofs.Tasks.{Suits, task_sim}
use Rattle.run_agreement.proofs.Barred.{barred_task}

-- Whatever turns out of the acts under way in the later world, there is what turned out of them in the earlier one, so that from each reached world of the
-- protocol that shows the earlier one, and of which this is known, steps lead to one that shows the later one.
abbrev pub WorldSimFor : Known → Opening → World → World → Type 0
WorldSimFor K o w v = (r : Resolution) → (q : Resolution) × ((p : protocol.World) → K p → IsReached o p → Shows o q w p → (steps : List Step) × Shows o r v (run steps p))

abbrev pub WorldSim : Opening → World → World → Type 0
WorldSim o w v = WorldSimFor Anything o w v

pub sim_same : (o : Opening) (w : World) → WorldSim o w w
sim_same o w r = (r, λ p k reached h. ([], h))

pub sim_on : (o : Opening) (w v u : World) → WorldSim o w v → WorldSim o v u → WorldSim o w u
sim_on o w v u a b r =
    let later = b r in
    let earlier = a later.0 in (
      earlier.0,
      λ p k reached h.
          let x = earlier.1 p tt reached h in
          let y = later.1 (run x.0 p) tt (reached_on o p x.0 reached) x.1 in
          let P : protocol.World → Type 0 = λ q. Shows o r u q in
          (x.0 ++ y.0, subst P (sym (run-append x.0 y.0 p)) y.1),
    )

pub sim_to : (o : Opening) (w v u : World) → u ≡ v → WorldSim o w v → WorldSim o w u
sim_to o w v u e h = let P : World → Type 0 = λ x. WorldSim o w x in subst P (sym e) h

pub sim_disks : (o : Opening) (w : World) (disks : List DiskCounts) → WorldSim o w (record w { disks = disks })
sim_disks o w disks r = (r, λ p k reached h. ([], record { faces = h.faces; are = h.are; follows = h.follows }))

-- A task of a node that is found.

pub lifted : (K : Known) (o : Opening) (w : World) (n : Name) (x z : Node) (t : Shared) → find_node n w.nodes ≡ Some x → (has_volume x ≡ true → NodeSimFor K o n x w.shared z t)
    → ((has_volume x ≡ false) → (o : Opening) (r : Resolution) (fs : Faces) (p : protocol.World) → AreFaces r w.nodes fs → Follows o fs w.shared p → AreFaces r (with_node n (λ y. z) w.nodes) fs × Follows o fs t p)
    → WorldSimFor K o w (record w { nodes = with_node n (λ y. z) w.nodes; shared = t })
lifted K o w n x z t found sim barred r = elim (cases_Bool (has_volume x)) [ inl v ↦ sees v | inr v ↦ blind v ]
  where
    v1 : World
    v1 = record w { nodes = with_node n (λ y. z) w.nodes; shared = t }

    blind : has_volume x ≡ false → (q : Resolution) × ((p : protocol.World) → K p → IsReached o p → Shows o q w p → (steps : List Step) × Shows o r (record w { nodes = with_node n (λ y. z) w.nodes; shared = t }) (run steps p))
    blind v = (r, λ p k reached h. (let b = barred v o r h.faces p h.are h.follows in ([], record { faces = h.faces; are = b.0; follows = b.1 })))

    sees : has_volume x ≡ true → (q : Resolution) × ((p : protocol.World) → K p → IsReached o p → Shows o q w p → (steps : List Step) × Shows o r (record w { nodes = with_node n (λ y. z) w.nodes; shared = t }) (run steps p))
    sees v =
        let s = sim v (r n) in (
          resolve n s.0 r,
          λ p k reached h.
              let f = h.are.there n x found v in
              let P : Bool → Type 0 = λ b. IsFace b x f.0 in
              let at : IsAt o n x w.shared s.0 h.faces f.0 p = record { reached = reached; follows = h.follows; found = f.1; is = subst P (resolve_here n s.0 r) f.2; named = name_found n w.nodes x found; volume = v } in
              let a = s.1 h.faces f.0 p k at in
              (a.steps, record { faces = put_face n a.face h.faces; are = faces_put r n s.0 z x w.nodes h.faces a.face h.are found a.named a.volume a.is; follows = a.follows }),
        )

abbrev pub NoVolumeMade : Task → Shared → Type 0
NoVolumeMade t s = (slots journal : ℕ) → t ≡ Serves (Init slots journal) → s.in_use ≡ true

pub task_lifts : (o : Opening) (w : World) (n : Name) (t : Task) (rises : Cause → Type 0) (c : Choice) → Suits t n w.shared → NoVolumeMade t w.shared → (x : Node) → find_node n w.nodes ≡ Some x → TaskAllowed w.shared (stops_at n w) x t rises c
    → WorldSim o w (put_into w n (task_effect w.shared (stops_at n w) x t c)).world
task_lifts o w n t rises c suits unmade x found may =
    let e : TaskEffect = task_effect w.shared (stops_at n w) x t c in
    lifted Anything o w n x e.node e.shared found (λ v. task_sim o n x w.shared (stops_at n w) t rises c suits may)
    (λ v o2 r fs p are h.
    let b = (are.without n x found v).1 in
    let to = barred_task x n w.shared (stops_at n w) t rises c b v unmade may in
    (faces_without r n e.node x w.nodes fs are found v (to.named ∙ name_found n w.nodes x found) (to.volume ∙ v) to.barred, to.shared o2 fs p h))

pub does_sim : (o : Opening) (w : World) (n : Name) (t : Task) (after : List DiskCounts) (c : Choice) → Suits t n w.shared → NoVolumeMade t w.shared → AllowedAt w n t after c → WorldSim o w (done_at w n t c).world
does_sim o w n t after c suits unmade may = by (find_node n w.nodes) refl may
  where
    by : (d : Option Node) → find_node n w.nodes ≡ d → (let a : Type 0 = elim d [ Some x ↦ TaskAllowed w.shared (stops_at n w) x t (λ cause. RoseAt w n cause after) c | None ↦ Unit {0} ] in a)
        → WorldSim o w (let e : PartEffect = elim d [ Some x ↦ put_into w n (task_effect w.shared (stops_at n w) x t c) | None ↦ statements.no_node w ] in e).world
    by None e m = sim_same o w
    by (Some x) e m = task_lifts o w n t (λ cause. RoseAt w n cause after) c suits unmade x e m

-- The question of a settling.

abbrev pub AllUp : World → Type 0
AllUp w = (n : Name) (x : Node) → find_node n w.nodes ≡ Some x → x.up ≡ true

-- a message was sent that is not numbered
more_sent : (o : Opening) (m : Message) (fs : Faces) (s : Shared) (p : protocol.World) → Follows o fs s p → Follows o fs s (record p { sent = m ∷ p.sent })
more_sent o m fs s p h = record { rack = h.rack; nodes = h.nodes; sent = λ x i. inr (h.sent x i); accepted = h.accepted; read_only = h.read_only; labels = h.labels; settled = h.settled; given = h.given; back = h.back }

answer_is : (acts : List table.Act) (m : Message) → answer_in acts ≡ Some m → acts ≡ Sends m ∷ []
answer_is [] m e = absurd cc
answer_is (Sends x ∷ []) m e = let same : x ≡ m = cc in λ i. Sends (same i) ∷ []
answer_is (Sends x ∷ y ∷ ys) m e = absurd cc
answer_is (table.Notes b ∷ ys) m e = absurd cc
answer_is (table.Accepts b c ∷ ys) m e = absurd cc
answer_is (table.Prepares b ∷ ys) m e = absurd cc
answer_is (table.Settles k out why r ∷ ys) m e = absurd cc
answer_is (table.Leaves k ∷ ys) m e = absurd cc
answer_is (table.Acknowledges k ∷ ys) m e = absurd cc
answer_is (table.Releases s x ∷ ys) m e = absurd cc
answer_is (table.Undoes k ∷ ys) m e = absurd cc
answer_is (table.Prints l ∷ ys) m e = absurd cc

asks_by : (b : Branch) (s : State) → is_prepared s ≡ true → asks_state b s ≡ Sends (up Inquire b.key) ∷ []
asks_by b table.Prepared e = refl
asks_by b table.Joining e = absurd (let f : false ≡ true = e in cc)
asks_by b table.Active e = absurd (let f : false ≡ true = e in cc)
asks_by b table.Ending e = absurd (let f : false ≡ true = e in cc)
asks_by b table.Voting e = absurd (let f : false ≡ true = e in cc)

-- a prepared branch of a node that is up
pub record IsAsking (w : World) (n : Name) (serial : Id) (b : Branch) : Type 0 where
  pub node : Node
  pub found : find_node n w.nodes ≡ Some node
  pub branch : find_branch serial node.volatile.branches ≡ Some b
  pub prepared : is_prepared b.state ≡ true

pub asking_is : (w : World) (n : Name) (serial : Id) (b : Branch) → asking w n serial ≡ Some b → IsAsking w n serial b
asking_is w n serial b e = by (find_node n w.nodes) refl e
  where
    ready : (x : Node) → find_node n w.nodes ≡ Some x → (d : Option Branch) → find_branch serial x.volatile.branches ≡ d → option_and_then (λ (y : Branch). if is_prepared y.state then Some y else None) d ≡ Some b → IsAsking w n serial b
    ready x f None g h = absurd (let z : ⊥ = cc in z)
    ready x f (Some y) g h = go (is_prepared y.state) refl h
      where
        go : (t : Bool) → is_prepared y.state ≡ t → (let z : Option Branch = if t then Some y else None in z) ≡ Some b → IsAsking w n serial b
        go true is k = let same : y ≡ b = some_is y b k in record { node = x; found = f; branch = g ∙ ap (λ z. Some z) same; prepared = ap (λ (z : Branch). is_prepared z.state) (sym same) ∙ is }
        go false is k = absurd (let z : ⊥ = cc in z)

    by : (d : Option Node) → find_node n w.nodes ≡ d → option_and_then (in_doubt serial) d ≡ Some b → IsAsking w n serial b
    by None f h = absurd (let z : ⊥ = cc in z)
    by (Some x) f h = ready x f (find_branch serial x.volatile.branches) refl h

-- that a message was sent is known of a world once the branch has asked and its coordinator has answered
pub question_steps : (o : Opening) (w : World) (n : Name) (serial : Id) (b : Branch) (y : Node) (m : Message) (r : Resolution) (p : protocol.World) → AllUp w → IsAsking w n serial b → find_node (coordinator_of b.key) w.nodes ≡ Some y → answer_of y b.key ≡ Some m
    → IsReached o p → Shows o r w p → ((x : Node) (k : Name) → find_node k w.nodes ≡ Some x → has_volume x ≡ true) → (steps : List Step) × (In m (run steps p).sent × Shows o r w (run steps p))
question_steps o w n serial b y m r p ups a fy answers reached h sound =
    let x : Node = a.node in
    let k : Key = b.key in
    let ask : Message = up Inquire k in
    let fx = h.are.there n x a.found (sound x n a.found) in
    let here = up_at o n x w.shared (r n) h.faces fx.0 p (ups n x a.found) (record { reached = reached; follows = h.follows; found = fx.1; is = fx.2; named = name_found n w.nodes x a.found; volume = sound x n a.found }) in
    let found = branch_found serial x.volatile.branches b a.branch in
    let e : rows.Event = InquireBranch serial in
    let may : allowed (tm_of x) e ≡ true = ap (λ d. there_is d (λ (z : Branch). is_prepared z.state)) found ∙ a.prepared in
    let asking_row : row (tm_of x) e ≡ Sends ask ∷ [] = ap asks_row found ∙ asks_by b b.state a.prepared in
    let p1 : protocol.World = record p { sent = ask ∷ p.sent } in
    let p2 : protocol.World = record p1 { sent = m ∷ p1.sent } in
    let one : happens p (Does (At n (Given e))) ≡ p1 = ap (done p) (given_is n p e (tm_of x) refl (tm_is o n x w.shared h.faces p here) may)
    ∙ (done_is p p n (row (tm_of x) e) (alive_at o n x w.shared h.faces p here) ∙ ap (λ todo. acts_all n todo p) asking_row) in
    let h1 : Follows o h.faces w.shared p1 = more_sent o ask h.faces w.shared p h.follows in
    let c : Name = coordinator_of k in
    let fc = h.are.there c y fy (sound y c fy) in
    let reached1 : IsReached o p1 = (let P : protocol.World → Type 0 = λ q. IsReached o q in subst P one (reached_on o p (Does (At n (Given e)) ∷ []) reached)) in
    let there = up_at o c y w.shared (r c) h.faces fc.0 p1 (ups c y fy) (record { reached = reached1; follows = h1; found = fc.1; is = fc.2; named = name_found c w.nodes y fy; volume = sound y c fy }) in
    let answering : row (tm_of y) (Got ask) ≡ Sends m ∷ [] = answer_is (row (tm_of y) (Got ask)) m answers in
    let two : happens p1 (Does (Comes 0)) ≡ p2 = ap (done p1) (comes_is 0 p1 ask (tm_of y) refl (tm_is o c y w.shared h.faces p1 there))
    ∙ (done_is p1 p1 c (row (tm_of y) (Got ask)) (alive_at o c y w.shared h.faces p1 there) ∙ ap (λ todo. acts_all c todo p1) answering) in
    let h2 : Follows o h.faces w.shared p2 = more_sent o m h.faces w.shared p1 h1 in
    let is : run (Does (At n (Given e)) ∷ Does (Comes 0) ∷ []) p ≡ p2 = ap (λ q. happens q (Does (Comes 0))) one ∙ two in
    let Q : protocol.World → Type 0 = λ q. In m q.sent × Shows o r w q in
    (Does (At n (Given e)) ∷ Does (Comes 0) ∷ [], subst Q (sym is) (inl refl, record { faces = h.faces; are = h.are; follows = h2 }))
